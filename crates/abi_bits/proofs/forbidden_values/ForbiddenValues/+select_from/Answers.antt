use Rattle.std.proofs.Common.{rules, ap, ◌∙◌}
use Rattle.abi_bits.specs.Mask.{lies_free}
use Rattle.abi_bits.specs.Single.{answer}
use Rattle.abi_bits.specs.Forbidden.{tree, ends_in_pattern}
use Rattle.abi_bits.specs.declared.forbidden_values.ForbiddenValues.{the_lemmas}
use Rattle.abi_bits.proofs.Forbids.{left_sound, right_sound, left_found, right_found, right_answer, not_found}
use Rattle.abi_bits.proofs.forbidden_values.ForbiddenValues.+select_from.Goals as goal

pub select_from-requires : goal.select_from-requires
select_from-requires t c = (search (rules, the_lemmas), rw c.deref.ensures (left_sound _ _ _ c.in-Or.is c.requires))

pub select_from-requires-in-Or : goal.select_from-requires-in-Or
select_from-requires-in-Or t c = (search (rules, the_lemmas), rw c.deref-in-Or.ensures (right_sound _ _ _ c.in-Or.is c.requires))

pub returns-in-Array-2-clause-pattern : goal.returns-in-Array-2-clause-pattern
returns-in-Array-2-clause-pattern t c =
    left_found (lies_free c.args.mask.now) _ _ _ _ c.in-Or.is (rw (c.in-Array-2.is, c.deref.ensures) at c.in_ok-pattern-in-Or.ensures.pattern)

pub returns-in-Array-2-clause-same : goal.returns-in-Array-2-clause-same
returns-in-Array-2-clause-same t c =
    let found = left_found (lies_free c.args.mask.now) _ _ _ _ c.in-Or.is (rw (c.in-Array-2.is, c.deref.ensures) at c.in_ok-pattern-in-Or.ensures.pattern) in
    ap (λ x. answer x (ends_in_pattern (tree c.args.self.now))) found

pub returns-in_ok-found-in-Or : goal.returns-in_ok-found-in-Or
returns-in_ok-found-in-Or t c =
    let test = lies_free c.args.mask.now in
    let none = not_found c.in_ok-pattern-in-Or.field-0 c.in_default.not-Array ∙ rw c.deref.ensures at c.in_ok-pattern-in-Or.ensures.pattern in
    let right = rw c.deref-in-Or.ensures at c.in_ok-found-in-Or.ensures.pattern in
    record {
      same = right_answer test _ _ _ c.in_ok-found-in-Or.found c.in-Or.is none (rw c.deref-in-Or.ensures at c.in_ok-found-in-Or.ensures.same);
      pattern = right ∙ right_found test _ _ _ c.in-Or.is none;
    }
