use Rattle.std.proofs.Common.{◌≡◌}
use Rattle.abi_bits.specs.Mask.{entries_below}
use Rattle.abi_det.specs.Written.{beside_tag}
use Rattle.abi_det.proofs.exports.beside_tag.Given as goal

abbrev pub invariant-loop-at : goal.invariant-loop-at
invariant-loop-at l = l.mask ≡ entries_below beside_tag l.at
