-- Where the next byte with free bits stands.
use Rattle.std.proofs.Common.{◌≡◌, ℕ, ◌+◌, ◌-◌, ◌<◌, ◌≤◌, max, true, false, cond, eqb, ltb, List, Option, Some, None, bit_and, refl, ◌∙◌, inl, inr, arith}
use Rattle.std.proofs.lemmas.Bool.{lt-ltb, le-ltb, eq-eqb, ne_eqb, cases_lt}
use Rattle.std.proofs.lemmas.Nat.Bits.{bit_at_and, bit_at-zero, same_from_bits}
use Rattle.abi_bits.specs.Pairs.{Pair}
use Rattle.abi_bits.specs.Mask.{mask_at, IsNext, SameFrom}
use Rattle.abi_bits.proofs.Entries.{zero_past}
use Rattle.abi_det.specs.Frame.{Frame, IsLawful}
use Rattle.abi_det.specs.Roles.{union_byte, spare_byte}
use Rattle.abi_det.specs.Search.{IsNextBelow, AreLeft}
use Rattle.abi_det.specs.declared.spare.OwnBits.{OwnBits}
use Rattle.abi_det.proofs.Lawful.{parts}

union_before : (f : Frame) (shift size at : ℕ) → at < shift → at < size → union_byte f shift size at ≡ 255
union_before f shift size at before lt =
    let a : ltb at size ≡ true = lt-ltb at size lt in
    let b : ltb at shift ≡ true = lt-ltb at shift before in
    rw (a, b) refl

union_own : (f : Frame) (shift size at : ℕ) → shift ≤ at → at < shift + f.size → at < size → union_byte f shift size at ≡ mask_at f.free (at - shift)
union_own f shift size at past own lt =
    let a : ltb at size ≡ true = lt-ltb at size lt in
    let b : ltb at shift ≡ false = le-ltb at shift past in
    let c : ltb at (shift + f.size) ≡ true = lt-ltb at (shift + f.size) own in
    rw (a, b, c) refl

union_past : (f : Frame) (shift size at : ℕ) → shift + f.size ≤ at → at < size → union_byte f shift size at ≡ 255
union_past f shift size at past lt =
    let a : ltb at size ≡ true = lt-ltb at size lt in
    let b : ltb at shift ≡ false = le-ltb at shift (omega arith) in
    let c : ltb at (shift + f.size) ≡ false = le-ltb at (shift + f.size) past in
    rw (a, b, c) refl

-- a byte with free bits lies in the frame
own_byte : (f : Frame) (at m : ℕ) → IsLawful f → mask_at f.free at ≡ m → 0 < m → at < f.size
own_byte f at m h same pos = elim (cases_lt at f.size) [
  | inl lt ↦ lt
  | inr le ↦ let none = zero_past f.free f.size at (parts f h).free le in absurd (omega (arith, same, none, pos))
]

-- the byte and its bits, where it lies below n
abbrev pub within : ℕ → ℕ → ℕ → Option Pair
within n at byte = cond (ltb at n) (Some (at, byte)) None

-- what is left tells the next byte with bits of the whole set
pub next_left : (free rest : List Pair) (from : ℕ) (found : Option Pair) → SameFrom from free rest → IsNext rest from found → IsNext free from found
next_left free rest from None same next = λ at g. same at g ∙ next at g
next_left free rest from (Some e) same next = (next.0, next.1, same e.0 next.0 ∙ next.2, λ at g lt. same at g ∙ next.3 at g lt)

-- and it lies in the frame
pub left_in : (f : Frame) (rest : List Pair) (from offset byte : ℕ) → IsLawful f → SameFrom from f.free rest → IsNext rest from (Some (offset, byte)) → offset < f.size
left_in f rest from offset byte h same next = let whole = next_left f.free rest from (Some (offset, byte)) same next in own_byte f offset byte h whole.2 whole.1

module _ (f : Frame) (shift size from : ℕ) where
  pub next_before : from < shift → from < size → IsNextBelow (union_byte f shift size) size from (Some (from, 255))
  next_before before lt = (omega arith, lt, omega arith, union_before f shift size from before lt, λ at g l. absurd (omega (arith, g, l)))

  -- a byte of the union before which, from `from` on, the variant has no bit
  to_here : (at byte : ℕ) → from ≤ at → 0 < byte → (at < size → union_byte f shift size at ≡ byte)
      → ((i : ℕ) → from ≤ i → i < at → i < size → union_byte f shift size i ≡ 0) → IsNextBelow (union_byte f shift size) size from (within size at byte)
  to_here at byte le pos here none = elim (cases_lt at size) [
    | inl lt ↦ let t : ltb at size ≡ true = lt-ltb at size lt in rw t (le, lt, pos, here lt, λ i g l. none i g l (omega (arith, lt, l)))
    | inr past ↦ let t : ltb at size ≡ false = le-ltb at size past in rw t (λ i g l. none i g (omega (arith, past, l)) l)
  ]

  pub next_own : (rest : List Pair) (offset byte : ℕ) → IsLawful f → shift ≤ from → SameFrom (from - shift) f.free rest → IsNext rest (from - shift) (Some (offset, byte))
      → IsNextBelow (union_byte f shift size) size from (within size (offset + shift) byte)
  next_own rest offset byte h past same next =
      let own : offset < f.size = left_in f rest (from - shift) offset byte h same next in
      let whole = next_left f.free rest (from - shift) (Some (offset, byte)) same next in
      let back : (offset + shift) - shift ≡ offset = omega arith in
      to_here (offset + shift) byte (omega (arith, whole.0, past)) whole.1
      (λ lt. union_own f shift size (offset + shift) (omega arith) (omega (arith, own)) lt ∙ rw back whole.2)
      (λ i g l lt. union_own f shift size i (omega (arith, g, past)) (omega (arith, l, own)) lt ∙ whole.3 (i - shift) (omega (arith, g, past)) (omega (arith, l, g, past)))

  pub next_beside : shift ≤ from → IsNext f.free (from - shift) None → IsNextBelow (union_byte f shift size) size from (within size (max from (shift + f.size)) 255)
  next_beside past none =
      to_here (max from (shift + f.size)) 255 (omega arith) (omega arith)
      (λ lt. union_past f shift size (max from (shift + f.size)) (omega arith) lt)
      (λ i g l lt. union_own f shift size i (omega (arith, g, past)) (omega (arith, l, g)) lt ∙ none (i - shift) (omega (arith, g, past)))

spare_beside : (large small : Frame) (shift size at : ℕ) → 0 < small.size
    → spare_byte large small shift size at ≡ bit_and (union_byte large 0 size at) (union_byte small shift size at)
spare_beside large small shift size at pos =
    let some : eqb small.size 0 ≡ false = ne_eqb small.size 0 (λ q. absurd (omega (arith, pos, q))) in
    rw some refl

zero_and : (x y : ℕ) → x ≡ 0 → bit_and x y ≡ 0
zero_and x y q = rw q (same_from_bits _ _ (λ i. simp (bit_at_and, bit_at-zero) (omega arith)))

and_zero : (x y : ℕ) → y ≡ 0 → bit_and x y ≡ 0
and_zero x y q = rw q (same_from_bits _ _ (λ i. simp (bit_at_and, bit_at-zero) (omega arith)))

-- the bytes that both variants leave free, by what each leaves free
module _ (large small : Frame) (shift size : ℕ) where
  abbrev L : ℕ → ℕ
  L = union_byte large 0 size

  abbrev S : ℕ → ℕ
  S = union_byte small shift size

  abbrev spare : ℕ → ℕ
  spare = spare_byte large small shift size

  -- a byte that one variant needs whole
  no_large : (at : ℕ) → 0 < small.size → L at ≡ 0 → spare at ≡ 0
  no_large at some q = spare_beside large small shift size at some ∙ zero_and (L at) (S at) q

  no_small : (at : ℕ) → 0 < small.size → S at ≡ 0 → spare at ≡ 0
  no_small at some q = spare_beside large small shift size at some ∙ and_zero (L at) (S at) q

  both_at : (at x y : ℕ) → 0 < small.size → L at ≡ x → S at ≡ y → spare at ≡ bit_and x y
  both_at at x y some a b = spare_beside large small shift size at some ∙ rw (a, b) refl

  -- no byte that both leave free bits in stands from `from` up to `to`
  abbrev pub NoneTo : ℕ → ℕ → Type 0
  NoneTo from to = (at : ℕ) → from ≤ at → at < to → spare at ≡ 0

  -- the byte that both have next
  pub shared_here : (from at next byte other : ℕ) → 0 < small.size → from ≤ at → NoneTo from at → IsNextBelow L size at (Some (next, byte)) → IsNextBelow S size next (Some (next, other))
      → 0 < bit_and byte other → IsNextBelow spare size from (Some (next, bit_and byte other))
  shared_here from at next byte other some le none x y pos = (
    omega (arith, x.0, le),
    x.1,
    pos,
    both_at next byte other some x.3 y.3,
    λ i g lt. elim (cases_lt i at) [ inl before ↦ none i g before | inr past ↦ no_large i some (x.4 i past lt) ],
  )

  -- a byte that the larger has next, and past which the smaller has its own, or none of whose bits is free in both
  pub shared_later : (from at next byte beside other : ℕ) → 0 < small.size → NoneTo from at → IsNextBelow L size at (Some (next, byte)) → IsNextBelow S size next (Some (beside, other))
      → (beside ≡ next → bit_and byte other ≡ 0) → NoneTo from (max beside (next + 1))
  shared_later from at next byte beside other some none x y apart i g lt = elim (cases_lt i at) [
    | inl before ↦ none i g before
    | inr past ↦ elim (cases_lt i next) [
      | inl before ↦ no_large i some (x.4 i past before)
      | inr from_next ↦ elim (cases_lt i beside) [
        | inl before ↦ no_small i some (y.4 i from_next before)
        | inr reached ↦
            let here : i ≡ next = omega (arith, lt, y.0, reached, from_next) in
            let same : beside ≡ next = omega (arith, y.0, reached, here) in
            rw here (both_at next byte other some x.3 (rw same at y.3) ∙ apart same)
      ]
    ]
  ]

  -- the larger has no more
  pub no_more_large : (from at : ℕ) → 0 < small.size → NoneTo from at → IsNextBelow L size at None → IsNextBelow spare size from None
  no_more_large from at some none x = λ i g lt. elim (cases_lt i at) [ inl before ↦ none i g before | inr past ↦ no_large i some (x i past lt) ]

  -- the smaller has no more
  pub no_more_small : (from at next byte : ℕ) → 0 < small.size → NoneTo from at → IsNextBelow L size at (Some (next, byte)) → IsNextBelow S size next None → IsNextBelow spare size from None
  no_more_small from at next byte some none x y = λ i g lt. elim (cases_lt i at) [
    | inl before ↦ none i g before
    | inr past ↦ elim (cases_lt i next) [ inl before ↦ no_large i some (x.4 i past before) | inr reached ↦ no_small i some (y i reached lt) ]
  ]

spare_own : (large small : Frame) (shift size at : ℕ) → small.size ≡ 0 → spare_byte large small shift size at ≡ mask_at large.free at
spare_own large small shift size at none = let empty : eqb small.size 0 ≡ true = eq-eqb small.size 0 none in rw empty refl

-- of an empty smaller variant the larger's own bits count
pub next_empty : (large small : Frame) (own : OwnBits) (shift size from : ℕ) (found : Option Pair) → IsLawful large → large.size ≤ size → small.size ≡ 0
    → AreLeft large small shift own from → IsNext own.large from found → IsNextBelow (spare_byte large small shift size) size from found
next_empty large small own shift size from None h le none left next = λ at g lt. spare_own large small shift size at none ∙ next_left large.free own.large from None left.0 next at g
next_empty large small own shift size from (Some e) h le none left next =
    let whole = next_left large.free own.large from (Some e) left.0 next in
    let inside = left_in large own.large from e.0 e.1 h left.0 next in (
      whole.0,
      omega (arith, inside, le),
      whole.1,
      spare_own large small shift size e.0 none ∙ whole.2,
      λ at g lt. spare_own large small shift size at none ∙ whole.3 at g lt,
    )
