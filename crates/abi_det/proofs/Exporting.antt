-- The exported bits, byte by byte.
use Rattle.std.proofs.Common.{◌≡◌, ℕ, ◌+◌, ◌≤◌, true, false, cond, eqb, List, [], ◌∷◌, ◌++◌, Some, None, refl, sym, ◌∙◌, inl, inr, arith}
use Rattle.std.proofs.lemmas.Bool.{ne_eqb, cases_eq}
use Rattle.abi_bits.specs.Pairs.{Pair, are_below}
use Rattle.abi_bits.specs.Mask.{entries_below}
use Rattle.abi_bits.proofs.Entries.{gap}
use Rattle.abi_det.specs.Search.{IsNextBelow, IsSpared}
use Rattle.abi_det.specs.Written.{without, beside_tag}
use Rattle.abi_det.specs.declared.determinant.Test.{Test}
use Rattle.abi_det.specs.declared.determinant.Test.TheVariants as test
use Rattle.abi_det.proofs.Entries.{entries_step, entries_lie}

pub nothing_below : (bits : ℕ → ℕ) → [] ≡ entries_below bits 0
unfolding entries_below
nothing_below bits = refl

without_at : (t : Test) (bits : ℕ → ℕ) (at byte : ℕ) → bits at ≡ byte → without t bits at ≡ without t (λ _. byte) at
without_at test.BitDeterminant bits at byte e = e
without_at (test.ValueIsErr ps) bits at byte e = e
without_at (test.BitIsErr offset mask) bits at byte e = rw e refl

-- where no bit is, none is left
without_none : (t : Test) (bits : ℕ → ℕ) (at : ℕ) → IsSpared bits t → bits at ≡ 0 → without t bits at ≡ 0
without_none test.BitDeterminant bits at s e = e
without_none (test.ValueIsErr ps) bits at s e = e
without_none (test.BitIsErr offset mask) bits at s e = elim (cases_eq at offset) [
  | inl q ↦ let none = rw q at e in absurd (omega (arith, s, none))
  | inr q ↦ let other : eqb at offset ≡ false = ne_eqb at offset q in rw other e
]

pub next_exported : (t : Test) (bits : ℕ → ℕ) (size from at byte m : ℕ) (old new : List Pair) → IsSpared bits t → IsNextBelow bits size from (Some (at, byte))
    → m ≡ without t (λ _. byte) at → old ≡ entries_below (without t bits) from → new ≡ old ++ cond (eqb m 0) [] ((at, m) ∷ [])
    → new ≡ entries_below (without t bits) (at + 1)
next_exported t bits size from at byte m old new spared next is before after =
    let here : without t bits at ≡ m = without_at t bits at byte next.3 ∙ sym is in
    after ∙ rw before (sym (entries_step (without t bits) from at m next.0 (λ i g lt. without_none t bits i spared (next.4 i g lt)) here))

pub room_for_next : (t : Test) (bits : ℕ → ℕ) (from at : ℕ) (old : List Pair) → from ≤ at → old ≡ entries_below (without t bits) from → are_below at old ≡ true
room_for_next t bits from at old le before = rw before (entries_lie (without t bits) at from le)

pub all_exported : (t : Test) (bits : ℕ → ℕ) (size from : ℕ) (mask : List Pair) → IsSpared bits t → IsNextBelow bits size from None → from ≤ size
    → mask ≡ entries_below (without t bits) from → mask ≡ entries_below (without t bits) size
all_exported t bits size from mask spared next le before =
    before ∙ sym (gap (without t bits) from size le (λ i g lt. without_none t bits i spared (next i g lt)))

pub room_beside_tag : (at : ℕ) (old : List Pair) → old ≡ entries_below beside_tag at → are_below at old ≡ true
room_beside_tag at old before = rw before (entries_lie beside_tag at at (omega arith))

pub next_beside_tag : (at m : ℕ) (old new : List Pair) → m ≡ beside_tag at → old ≡ entries_below beside_tag at → new ≡ old ++ cond (eqb m 0) [] ((at, m) ∷ [])
    → new ≡ entries_below beside_tag (at + 1)
next_beside_tag at m old new is before after =
    after ∙ rw before (sym (entries_step beside_tag at at m (omega arith) (λ i g lt. absurd (omega (arith, g, lt))) (sym is)))
