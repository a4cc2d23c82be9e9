use Rattle.std.proofs.Common.{sym, ◌∙◌, refl}
use Rattle.abi_bits.proofs.Masks.{next_is}
use Rattle.abi_bits.proofs.Spans.{span_at}
use Rattle.abi_bits.proofs.Walking.{IsLeft, left_mask, left_is, left_next, next_once}
use Rattle.abi_bits.proofs.walk.Walk.next_entry.Goals as goal

left : (c : goal.After-first) → IsLeft c.self.inside.start c.args.from c.self.inside.rest.now c.rest_from-start.result.0 c.rest_from-start.result.1.now
left c = record { left = c.rest_from-start.ensures.left; gone = c.rest_from-start.ensures.gone }

pub invariant_of-self : goal.invariant_of-self
invariant_of-self c = (c.rest_from-start.ensures.within, left_mask _ _ _ _ _ (left c) c.rest_from-start.ensures.within c.self.invariant.1)

pub returns-clause-passed : goal.returns-clause-passed
returns-clause-passed c = rw (← c.self.view_is) (left_is _ _ _ _ _ (left c) c.rest_from-start.ensures.within c.self.invariant.1)

pub returns-clause-next : goal.returns-clause-next
returns-clause-next c = rw (c.first.ensures, ← c.self.view_is) (left_next _ _ _ _ _ (left c) c.rest_from-start.ensures.some)

pub returns-clause-same : goal.returns-clause-same
returns-clause-same c = next_once c.args.self.now c.args.from _ _ (returns-clause-next c) (next_is c.args.self.now c.args.from _ (rw c.self.view_is at c.self.invariant.1) refl)

pub returns-clause-left : goal.returns-clause-left
returns-clause-left c = λ at le. rw (← c.self.view_is) (span_at c.self.inside.start c.self.inside.rest.now at ∙ sym (c.rest_from-start.ensures.left at le) ∙ sym (span_at c.rest_from-start.result.0 c.rest_from-start.result.1.now at))
