-- What a walk over a set has not passed.
use Rattle.std.proofs.Common.{◌≡◌, ℕ, ◌+◌, ◌<◌, ◌≤◌, Bool, true, false, List, [], ◌∷◌, Option, Some, None, cond, leb, refl, sym, ap, ◌∙◌, inl, inr, arith, get_or, length}
use Rattle.std.specs.List.{filter}
use Rattle.std.proofs.lemmas.Bool.Decides.{nat_tests}
use Rattle.std.proofs.lemmas.Bool.{and_from, le-leb, lt-leb, cases_lt, cases_order}
use Rattle.abi_bits.specs.Pairs.{Pair, are_rising}
use Rattle.abi_bits.specs.Mask.{mask_at, have_bits, IsMask, IsNext}
use Rattle.abi_bits.specs.Span.{byte_in, entries_in, first_in}
use Rattle.abi_bits.proofs.Masks.{or_zero, zero_or, rising_parts, rising_with, bits_parts, bits_with, rising_lower, mask_parts}
use Rattle.abi_bits.proofs.Entries.{same_bytes}
use Rattle.abi_bits.proofs.Spans.{first_byte, byte_before, byte_lt, span_at, span_mask}

stay_is_mask : (es : List Pair) (from : ℕ) → IsMask es → IsMask (filter (λ e. leb from e.0) es)
stay_is_mask es from m = let p = mask_parts es m in and_from (are_rising 0 (filter (λ e. leb from e.0) es)) (have_bits (filter (λ e. leb from e.0) es)) (rises es 0 p.0) (bits es p.1)
  where
    rises : (es : List Pair) (least : ℕ) → are_rising least es ≡ true → are_rising least (filter (λ e. leb from e.0) es) ≡ true
    rises [] least r = refl
    rises (e ∷ es) least r =
        let p = rising_parts least e es r in
        elim (cases_lt e.0 from) [
          | inl lt ↦ rw (lt-leb from e.0 lt) (rising_lower (filter (λ e. leb from e.0) es) (e.0 + 1) least (omega (arith, p.0)) (rises es (e.0 + 1) p.2))
          | inr le ↦ rw (le-leb from e.0 le) (rising_with least e (filter (λ e. leb from e.0) es) p.0 p.1 (rises es (e.0 + 1) p.2))
        ]

    bits : (es : List Pair) → have_bits es ≡ true → have_bits (filter (λ e. leb from e.0) es) ≡ true
    bits [] h = refl
    bits (e ∷ es) h =
        let p = bits_parts e es h in
        elim (cases_lt e.0 from) [
          | inl lt ↦ rw (lt-leb from e.0 lt) (bits es p.2)
          | inr le ↦ rw (le-leb from e.0 le) (bits_with e (filter (λ e. leb from e.0) es) p.0 p.1 (bits es p.2))
        ]

stay_at : (es : List Pair) (from at : ℕ) → mask_at (filter (λ e. leb from e.0) es) at ≡ cond (leb from at) (mask_at es at) 0
stay_at [] from at = none (leb from at)
  where
    none : (b : Bool) → ◌≡◌ {A = ℕ} 0 (cond b 0 0)
    none true = refl
    none false = refl
stay_at (e ∷ es) from at = here e (filter (λ e. leb from e.0) es) (stay_at es from at)
  where
    here : (e : Pair) (rest : List Pair) → mask_at rest at ≡ cond (leb from at) (mask_at es at) 0 → mask_at (cond (leb from e.0) (e ∷ rest) rest) at ≡ cond (leb from at) (mask_at (e ∷ es) at) 0
    here e rest q = grind (arith, nat_tests, zero_or, or_zero)

-- what is left of a row of bytes tells every byte from the offset on, and none before
pub record IsLeft (start from : ℕ) (bs : List ℕ) (start' : ℕ) (rest : List ℕ) : Type 0 where
  pub left : (at : ℕ) → from ≤ at → byte_in start' rest at ≡ byte_in start bs at
  pub gone : (at : ℕ) → at < from → byte_in start' rest at ≡ 0

nothing_in : (start at : ℕ) → byte_in start [] at ≡ 0
nothing_in start at = grind (arith, nat_tests)

pub left_mask : (start from start' : ℕ) (bs rest : List ℕ) → IsLeft start from bs start' rest → start' + length rest ≤ 1048576 → IsMask (entries_in start bs) → IsMask (entries_in start' rest)
left_mask start from start' bs rest l within m = span_mask start' rest within (λ at. elim (cases_lt at from) [
  | inl lt ↦ rw (l.gone at lt) (omega arith)
  | inr le ↦ rw (l.left at le) (byte_lt start bs at m)
])

pub left_is : (start from start' : ℕ) (bs rest : List ℕ) → IsLeft start from bs start' rest → start' + length rest ≤ 1048576 → IsMask (entries_in start bs)
    → entries_in start' rest ≡ filter (λ e. leb from e.0) (entries_in start bs)
left_is start from start' bs rest l within m =
    same_bytes (entries_in start' rest) (filter (λ e. leb from e.0) (entries_in start bs)) (left_mask start from start' bs rest l within m) (stay_is_mask (entries_in start bs) from m) (λ at.
    rw (span_at start' rest at, stay_at (entries_in start bs) from at, span_at start bs at) (told at (l.left at) (l.gone at)))
  where
    told : (at : ℕ) → (from ≤ at → byte_in start' rest at ≡ byte_in start bs at) → (at < from → byte_in start' rest at ≡ 0) → byte_in start' rest at ≡ cond (leb from at) (byte_in start bs at) 0
    told at left gone = grind (arith, nat_tests)

pub left_next : (start from start' : ℕ) (bs rest : List ℕ) → IsLeft start from bs start' rest → (0 < length rest → 0 < get_or rest 0 0) → IsNext (entries_in start bs) from (first_in start' rest)
left_next start from start' bs [] l some = λ at le. span_at start bs at ∙ sym (l.left at le) ∙ nothing_in start' at
left_next start from start' bs (b ∷ rest) l some =
    let first : 0 < b = some (omega arith) in
    let reached : from ≤ start' = elim (cases_lt start' from) [ inr le ↦ le | inl lt ↦ absurd (omega (arith, first, sym (first_byte start' b rest) ∙ l.gone start' lt)) ] in (
      reached,
      first,
      span_at start bs start' ∙ sym (l.left start' reached) ∙ first_byte start' b rest,
      λ at le lt. span_at start bs at ∙ sym (l.left at le) ∙ byte_before start' (b ∷ rest) at lt,
    )

same_pair : (e f : Pair) → e.0 ≡ f.0 → e.1 ≡ f.1 → ◌≡◌ {A = Pair} e f
same_pair (a, b) (c, d) p q = cc

-- a set has one next byte
pub next_once : (es : List Pair) (from : ℕ) (a b : Option Pair) → IsNext es from a → IsNext es from b → a ≡ b
next_once es from None None i j = refl
next_once es from None (Some f) i j = absurd (omega (arith, j.1, sym j.2 ∙ i f.0 j.0))
next_once es from (Some e) None i j = absurd (omega (arith, i.1, sym i.2 ∙ j e.0 i.0))
next_once es from (Some e) (Some f) i j =
    let q : e.0 ≡ f.0 = elim (cases_order e.0 f.0) [
      | inl q ↦ q
      | inr rest ↦ elim rest [
        | inl lt ↦ absurd (omega (arith, i.1, sym i.2 ∙ j.3 e.0 i.0 lt))
        | inr gt ↦ absurd (omega (arith, j.1, sym j.2 ∙ i.3 f.0 j.0 gt))
      ]
    ] in
    let same : ◌≡◌ {A = Pair} e f = same_pair e f q (sym i.2 ∙ ap (mask_at es) q ∙ j.2) in
    cc
