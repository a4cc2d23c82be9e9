use Rattle.std.proofs.Common.{length}
use Rattle.abi_layout.proofs.leaves.+has_entry.Given as goal

abbrev pub decreases-has_entry : goal.decreases-has_entry
decreases-has_entry l = length l.entries.now
