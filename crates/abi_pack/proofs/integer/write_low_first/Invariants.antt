use Rattle.std.proofs.Common.{◌≡◌, ◌-◌, ◌++◌, take, length}
use Rattle.abi_pack.specs.Scalars.{low_bytes}
use Rattle.abi_pack.proofs.integer.write_low_first.Given as goal

abbrev pub invariant-loop-byte : goal.invariant-loop-byte
invariant-loop-byte l = take l.byte-index l.out ++ low_bytes (length l.out - l.byte-index) l.rest ≡ low_bytes (length l.out) l.fn.number
