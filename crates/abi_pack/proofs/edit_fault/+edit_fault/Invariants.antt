use Rattle.std.proofs.Common.{length}
use Rattle.abi_pack.proofs.edit_fault.+edit_fault.Given as goal

abbrev pub decreases-edit_fault : goal.decreases-edit_fault
decreases-edit_fault l = length l.path.now
