use Rattle.std.proofs.Common.{length}
use Rattle.abi_pack.proofs.change.+change.Given as goal

abbrev pub decreases-change : goal.decreases-change
decreases-change l = length l.path.now
