use Rattle.std.proofs.Common.{◌≡◌, drop}
use Rattle.abi_bits.specs.Mask.{have_bits}
use Rattle.abi_bits.proofs.bit_mask.have_bits.Given as goal

abbrev pub invariant-loop-mask : goal.invariant-loop-mask
invariant-loop-mask l = have_bits l.entries ≡ have_bits (drop l.mask-index l.entries)
