use Rattle.std.proofs.Common.{◌≡◌, ◌-◌, ◌^◌, ◌<◌, drop, length}
use Rattle.abi_pack.specs.Scalars.{low_worth, ordered}
use Rattle.abi_pack.proofs.integer.number_in.Given as goal

abbrev pub invariant-loop-rank : goal.invariant-loop-rank
invariant-loop-rank l = (l.number ≡ low_worth (drop (length l.bytes - l.rank) (ordered l.little l.bytes))) × (l.number < 256 ^ l.rank)
