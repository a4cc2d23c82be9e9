-- What the entries of a mask tell of its bytes.
use Rattle.std.proofs.Common.{◌≡◌, ℕ, ◌+◌, ◌<◌, ◌≤◌, true, List, [], ◌∷◌, ◌++◌, Option, Some, None, cond, eqb, leb, bit_or, refl, ◌∙◌, inl, inr, arith}
use Rattle.std.specs.List.{find}
use Rattle.std.proofs.lemmas.Bool.{and_parts, eq-eqb, le-leb, lt-leb, cases_lt}
use Rattle.std.proofs.lemmas.Bool.Decides.{nat_tests}
use Rattle.std.proofs.lemmas.Nat.Bits.{bit_at_or, bit_at-zero, same_from_bits}
use Rattle.abi_bits.specs.Pairs.{Pair, are_rising, are_below}
use Rattle.abi_bits.specs.Mask.{mask_at, have_bits, IsMask, IsNext}

pub or_zero : (a : ℕ) → bit_or a 0 ≡ a
or_zero a = same_from_bits _ _ (λ i. simp (bit_at_or, bit_at-zero) (omega arith))

pub zero_or : (a : ℕ) → bit_or 0 a ≡ a
zero_or a = same_from_bits _ _ (λ i. simp (bit_at_or, bit_at-zero) (omega arith))

pub or_assoc : (a b c : ℕ) → bit_or (bit_or a b) c ≡ bit_or a (bit_or b c)
or_assoc a b c = same_from_bits _ _ (λ i. simp bit_at_or (omega arith))

pub rising_parts : (least : ℕ) (e : Pair) (es : List Pair) → are_rising least (e ∷ es) ≡ true → (least ≤ e.0) × (e.0 < 1048576) × (are_rising (e.0 + 1) es ≡ true)
rising_parts least e es r = grind (arith, nat_tests)

pub rising_with : (least : ℕ) (e : Pair) (es : List Pair) → least ≤ e.0 → e.0 < 1048576 → are_rising (e.0 + 1) es ≡ true → are_rising least (e ∷ es) ≡ true
rising_with least e es le lt r = grind (arith, nat_tests)

-- pairs that rise from an offset rise from each before it
pub rising_lower : (ps : List Pair) (a b : ℕ) → b ≤ a → are_rising a ps ≡ true → are_rising b ps ≡ true
rising_lower [] a b le r = refl
rising_lower (p ∷ ps) a b le r = let x = rising_parts a p ps r in rising_with b p ps (omega (arith, x.0, le)) x.1 x.2

-- an entry that is not at `at` may be left out
pub skip : (e : Pair) (es : List Pair) (at : ℕ) → (e.0 ≡ at → ⊥) → mask_at (e ∷ es) at ≡ mask_at es at
skip e es at ne = grind (arith, nat_tests, zero_or)

-- nothing stands before the first offset
pub zero_before : (es : List Pair) (least at : ℕ) → are_rising least es ≡ true → at < least → mask_at es at ≡ 0
zero_before [] least at r lt = refl
zero_before (e ∷ es) least at r lt =
    let p = rising_parts least e es r in
    skip e es at (λ q. absurd (omega (arith, p.0, lt, q))) ∙ zero_before es (e.0 + 1) at p.2 (omega (arith, p.0, lt))

-- the first entry's mask is that of its byte
pub first : (e : Pair) (es : List Pair) (least at : ℕ) → are_rising least (e ∷ es) ≡ true → e.0 ≡ at → mask_at (e ∷ es) at ≡ e.1
first e es least at r q =
    let rest : mask_at es at ≡ 0 = zero_before es (e.0 + 1) at (rising_parts least e es r).2 (omega (arith, q)) in
    rw (eq-eqb e.0 at q, rest) (or_zero e.1)

abbrev pub byte_of : Option Pair → ℕ → ℕ
byte_of None at = 0
byte_of (Some e) at = cond (eqb e.0 at) e.1 0

-- a byte is told by the first entry that does not lie before it
pub byte_by_next : (es : List Pair) (least at : ℕ) → are_rising least es ≡ true → mask_at es at ≡ byte_of (find (λ e. leb at e.0) es) at
byte_by_next [] least at r = refl
byte_by_next (e ∷ es) least at r =
    let p = rising_parts least e es r in
    elim (cases_lt e.0 at) [
      | inl lt ↦
          rw (skip e es at (λ q. absurd (omega (arith, lt, q))), lt-leb at e.0 lt) (byte_by_next es (e.0 + 1) at p.2)
      | inr le ↦
          rw (le-leb at e.0 le, zero_before es (e.0 + 1) at p.2 (omega (arith, le))) (or_zero _)
    ]

pub mask_parts : (es : List Pair) → IsMask es → (are_rising 0 es ≡ true) × (have_bits es ≡ true)
mask_parts es m = and_parts (are_rising 0 es) (have_bits es) m

pub byte_at_next : (es : List Pair) (at : ℕ) (found : Option Pair) → IsMask es → found ≡ find (λ e. leb at e.0) es → mask_at es at ≡ byte_of found at
byte_at_next es at found m q = rw q (byte_by_next es 0 at (mask_parts es m).0)

pub bits_parts : (e : Pair) (es : List Pair) → have_bits (e ∷ es) ≡ true → (0 < e.1) × (e.1 < 256) × (have_bits es ≡ true)
bits_parts e es h = grind (arith, nat_tests)

pub bits_with : (e : Pair) (es : List Pair) → 0 < e.1 → e.1 < 256 → have_bits es ≡ true → have_bits (e ∷ es) ≡ true
bits_with e es some byte h = grind (arith, nat_tests)

-- the first offset may be taken for the least
pub rising_here : (e : Pair) (es : List Pair) (least : ℕ) → are_rising least (e ∷ es) ≡ true → are_rising e.0 (e ∷ es) ≡ true
rising_here e es least r = let p = rising_parts least e es r in rising_with e.0 e es (omega arith) p.1 p.2

-- an entry before `from` may be left out
next_later : (e : Pair) (es : List Pair) (from : ℕ) → e.0 < from → (found : Option Pair) → IsNext es from found → IsNext (e ∷ es) from found
next_later e es from lt None none = λ at le. skip e es at (λ q. absurd (omega (arith, lt, le, q))) ∙ none at le
next_later e es from lt (Some f) is = (
  is.0,
  is.1,
  skip e es f.0 (λ q. absurd (omega (arith, lt, is.0, q))) ∙ is.2,
  λ at le g. skip e es at (λ q. absurd (omega (arith, lt, le, q))) ∙ is.3 at le g,
)

next_from : (es : List Pair) (least from : ℕ) → are_rising least es ≡ true → have_bits es ≡ true → IsNext es from (find (λ e. leb from e.0) es)
next_from [] least from r h = λ at le. refl
next_from (e ∷ es) least from r h =
    let p = rising_parts least e es r in
    let b = bits_parts e es h in
    elim (cases_lt e.0 from) [
      | inl lt ↦
          rw (lt-leb from e.0 lt) (next_later e es from lt (find (λ e. leb from e.0) es) (next_from es (e.0 + 1) from p.2 b.2))
      | inr le ↦
          rw (le-leb from e.0 le) (le, b.0, first e es least e.0 r refl, λ at g lt. zero_before (e ∷ es) e.0 at (rising_here e es least r) lt)
    ]

pub next_is : (es : List Pair) (from : ℕ) (found : Option Pair) → IsMask es → found ≡ find (λ e. leb from e.0) es → IsNext es from found
next_is es from found m q = let p = mask_parts es m in rw q (next_from es 0 from p.0 p.1)

pub below_parts : (e : Pair) (es : List Pair) (n : ℕ) → are_below n (e ∷ es) ≡ true → (e.0 < n) × (are_below n es ≡ true)
below_parts e es n b = grind (arith, nat_tests)

pub below_with : (e : Pair) (es : List Pair) (n : ℕ) → e.0 < n → are_below n es ≡ true → are_below n (e ∷ es) ≡ true
below_with e es n lt b = grind (arith, nat_tests)

pub rising_push : (es : List Pair) (least at m : ℕ) → are_rising least es ≡ true → are_below at es ≡ true → least ≤ at → at < 1048576 → are_rising least (es ++ (at, m) ∷ []) ≡ true
rising_push [] least at m r b le lt = rising_with least (at, m) [] le lt refl
rising_push (e ∷ es) least at m r b le lt =
    let p = rising_parts least e es r in
    let q = below_parts e es at b in
    rising_with least e (es ++ (at, m) ∷ []) p.0 p.1 (rising_push es (e.0 + 1) at m p.2 q.1 (omega (arith, q.0)) lt)

pub bits_push : (es : List Pair) (at m : ℕ) → have_bits es ≡ true → 0 < m → m < 256 → have_bits (es ++ (at, m) ∷ []) ≡ true
bits_push [] at m h some byte = bits_with (at, m) [] some byte refl
bits_push (e ∷ es) at m h some byte = let p = bits_parts e es h in bits_with e (es ++ (at, m) ∷ []) p.0 p.1 (bits_push es at m p.2 some byte)
