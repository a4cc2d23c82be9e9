use Rattle.std.proofs.Common.{◌≡◌, slice_index}
use Rattle.abi_pack.specs.ByteMap.{seen_from}
use Rattle.abi_pack.specs.Raw.{cleared}
use Rattle.abi_pack.proofs.raw.value_shown.Given as goal

abbrev pub invariant-loop-i : goal.invariant-loop-i
invariant-loop-i l = l.cleared ≡ cleared l.free l.i (seen_from l.at (slice_index l.bytes))
