use Rattle.abi_layout.proofs.Repeating.{sum_named}
use Rattle.abi_layout.proofs.core_sums.lay_out_core.Goals as goal

pub returns-clause-named : goal.returns-clause-named
returns-clause-named c = sum_named _ _ _ c.args.names _ c.in_ok-part.ensures c.requires.ok c.requires.err c.requires.second
