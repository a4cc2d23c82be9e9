use Rattle.abi_tool.proofs.outcome.outcome_of.Goals as goal

pub returns-in-Edit : goal.returns-in-Edit
returns-in-Edit c = rw (c.in-Edit.is, ← c.as_slice-in-Edit.ensures, ← c.as_slice-in-Edit-2.ensures) c.edit_outcome.ensures
