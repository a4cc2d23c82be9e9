use Rattle.std.proofs.Common.{◌≡◌, ◌+◌, ◌∙◌, ℕ, [], bit_or, sym, ap, refl, arith}
use Rattle.abi_bits.specs.Pairs.{moved_pairs}
use Rattle.abi_bits.specs.Mask.{mask_at}
use Rattle.abi_bits.proofs.Masks.{or_zero}
use Rattle.abi_bits.proofs.Spans.{no_entry, shifted, span_at}
use Rattle.abi_bits.proofs.Sets.{moved_bytes, moved_either}
use Rattle.abi_bits.proofs.bit_mask.BitMask.or_shifted.Goals as goal

-- the empty set adds nothing
kept : (c : goal.Then-is_empty) (at : ℕ) → mask_at c.args.self.now at ≡ bit_or (mask_at c.args.self.now at) (mask_at (moved_pairs c.args.by c.args.other.now) at)
kept c at =
    let nothing : c.args.other.now ≡ [] = no_entry _ _ _ _ c.other.view_is c.as_slice-row.ensures.value c.if-is_empty.ensures in
    rw nothing (sym (or_zero (mask_at c.args.self.now at)))

pub returns-then-is_empty-clause-bytes : goal.returns-then-is_empty-clause-bytes
returns-then-is_empty-clause-bytes c = λ at. kept c at ∙ ap (bit_or (mask_at c.args.self.now at)) (moved_bytes c.args.by c.args.other.now _ refl at)

pub returns-then-is_empty-clause-bits : goal.returns-then-is_empty-clause-bits
returns-then-is_empty-clause-bits c = moved_either c.args.by c.args.self.now c.args.other.now _ (kept c)

pub overflow_add-other-inside : goal.overflow_add-other-inside
overflow_add-other-inside c =
    let within = (shifted _ _ _ _ _ c.other.invariant c.other.view_is c.as_slice-row.ensures.value c.if-is_empty.ensures c.requires).0.within in
    omega (arith, within)

pub or_row-requires-clause-span : goal.or_row-requires-clause-span
or_row-requires-clause-span c = (shifted _ _ _ _ _ c.other.invariant c.other.view_is c.as_slice-row.ensures.value c.if-is_empty.ensures c.requires).0

joined : (c : goal.In_ok-or_row) (at : ℕ) → mask_at c.or_row.new.self at ≡ bit_or (mask_at c.args.self.now at) (mask_at (moved_pairs c.args.by c.args.other.now) at)
joined c at =
    let same = (shifted _ _ _ _ _ c.other.invariant c.other.view_is c.as_slice-row.ensures.value c.if-is_empty.ensures c.requires).1 in
    rw (← same, span_at (c.other.inside.start + c.args.by) c.as_slice-row.result.now at) (c.in_ok-or_row.ensures.bytes at)

pub returns-clause-bytes : goal.returns-clause-bytes
returns-clause-bytes c = λ at. joined c at ∙ ap (bit_or (mask_at c.args.self.now at)) (moved_bytes c.args.by c.args.other.now _ refl at)

pub returns-clause-bits : goal.returns-clause-bits
returns-clause-bits c = moved_either c.args.by c.args.self.now c.args.other.now _ (joined c)
