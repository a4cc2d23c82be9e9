use Rattle.std.proofs.Common.{◌≡◌, arith}
use Rattle.abi_bits.specs.Span.{start_with}
use Rattle.abi_bits.proofs.Spans.{Joined, joined_from, joined_at, joined_span, own_span, free_start, same_start}
use Rattle.abi_bits.proofs.bit_mask.BitMask.or_row.Goals as goal

started : (c : goal.After-self-1) → c.start_with-at.result ≡ start_with c.self.inside.start c.self.inside.bytes.items c.args.from
started c = rw c.as_slice-own.ensures.value at c.start_with-at.ensures

joined : (c : goal.After-self-1) → Joined c.min-start.result c.start_with-at.result c.args.from c.self.inside.bytes.items c.args.row.now c.or_bytes.new.bytes.items
joined c =
    joined_from _ _ _ c.max-end.result _ _ c.widen.new.bytes.items _ c.min-start.ensures (rw c.as_slice-own.ensures.value at c.max-end.ensures)
    c.in_ok-widen.ensures.len c.in_ok-widen.ensures.ok c.or_bytes.ensures.len c.or_bytes.ensures.joined

pub invariant_of-self-2 : goal.invariant_of-self-2
invariant_of-self-2 c =
    joined_span _ _ _ _ _ _ (own_span _ _ _ _ (started c) (omega (arith, c.requires.span.within)) c.self.invariant) c.requires.span c.requires.some (free_start _ _ _ _ (started c)) (joined c)

pub returns-clause-valid : goal.returns-clause-valid
returns-clause-valid c = (invariant_of-self-2 c).mask

pub returns-clause-bytes : goal.returns-clause-bytes
returns-clause-bytes c = λ at. rw (← c.self.view_is, ← same_start _ c.self.inside.start c.args.from c.self.inside.bytes.items (started c)) (joined_at _ _ _ _ _ _ (joined c) at)
