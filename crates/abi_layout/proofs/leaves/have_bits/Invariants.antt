use Rattle.std.proofs.Common.{◌≡◌, drop}
use Rattle.abi_layout.specs.Leaves.{have_bits}
use Rattle.abi_layout.proofs.leaves.have_bits.Given as goal

abbrev pub invariant-loop-mask : goal.invariant-loop-mask
invariant-loop-mask l = have_bits l.entries ≡ have_bits (drop l.mask-index l.entries)
