use Rattle.std.proofs.Common.{rules}
use Rattle.abi_bits.specs.declared.forbidden_values.ForbiddenValues.{the_lemmas}
use Rattle.abi_bits.proofs.Forbids.{left_sound}
use Rattle.abi_bits.proofs.forbidden_values.ForbiddenValues.+select_one.Goals as goal

pub select_one-requires : goal.select_one-requires
select_one-requires t c = (search (rules, the_lemmas), rw c.deref.ensures (left_sound _ _ _ c.in-Or.is c.requires))
