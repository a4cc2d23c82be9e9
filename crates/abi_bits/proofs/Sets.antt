-- Unions, intersections, moved sets and whole bytes, by byte and by bit.
use Rattle.std.proofs.Common.{◌≡◌, ◌↔◌, ◌⊎◌, ℕ, ◌+◌, ◌-◌, ◌*◌, ◌/◌, ◌%◌, ◌<◌, ◌≤◌, ◌==◌, Bool, true, false, List, [], ◌∷◌, cond, eqb, leb, bit_and, bit_or, refl, sym, ◌∙◌, inl, inr, arith}
use Rattle.std.specs.Int.{bit_at}
use Rattle.std.proofs.lemmas.Nat.Bits.{bit_at_or, bit_at_and, bit_at-zero, bit_at-lt, bit_at_ones, same_from_bits_below}
use Rattle.std.proofs.lemmas.Bool.Decides.{nat_tests}
use Rattle.std.proofs.lemmas.Bool.{and_from, le-leb, lt-leb, eq-eqb, eqb-true, cases_lt}
use Rattle.abi_bits.specs.Pairs.{Pair, are_rising, are_below, moved_pairs, IsPattern}
use Rattle.abi_bits.specs.Mask.{mask_at, byte_moved, Has, HasMoved, IsMask, have_bits, full_between}
use Rattle.abi_bits.proofs.Masks.{or_zero, zero_or, rising_parts, rising_with, rising_lower, below_parts, below_with, mask_parts}
use Rattle.abi_bits.proofs.Entries.{mask_at_lt, same_bytes}

pub or_bits : (a b k : ℕ) → (bit_at (bit_or a b) k ≡ 1) ↔ ((bit_at a k ≡ 1) ⊎ (bit_at b k ≡ 1))
or_bits a b k = grind (arith, bit_at_or, bit_at-lt)

pub and_bits : (a b k : ℕ) → (bit_at (bit_and a b) k ≡ 1) ↔ ((bit_at a k ≡ 1) × (bit_at b k ≡ 1))
and_bits a b k = grind (arith, bit_at_and, bit_at-lt)

pub and_none : (a b : ℕ) → a ≡ 0 → bit_and a b ≡ 0
and_none a b q = rw q refl

pub either_has : (es fs out : List Pair) → ((at : ℕ) → mask_at out at ≡ bit_or (mask_at es at) (mask_at fs at)) → (n : ℕ) → Has out n ↔ (Has es n ⊎ Has fs n)
either_has es fs out same n = rw (same (n / 8)) (or_bits (mask_at es (n / 8)) (mask_at fs (n / 8)) (n % 8))

pub both_has : (es fs out : List Pair) → ((at : ℕ) → mask_at out at ≡ bit_and (mask_at es at) (mask_at fs at)) → (n : ℕ) → Has out n ↔ (Has es n × Has fs n)
both_has es fs out same n = rw (same (n / 8)) (and_bits (mask_at es (n / 8)) (mask_at fs (n / 8)) (n % 8))

pub moved_rising : (by : ℕ) (ps : List Pair) (least : ℕ) → are_rising least ps ≡ true → are_below 1048576 (moved_pairs by ps) ≡ true → are_rising (least + by) (moved_pairs by ps) ≡ true
moved_rising by [] least r b = refl
moved_rising by (p ∷ ps) least r b =
    let x = rising_parts least p ps r in
    let y = below_parts (p.0 + by, p.1) (moved_pairs by ps) 1048576 b in
    let e : (p.0 + 1) + by ≡ (p.0 + by) + 1 = omega arith in
    rising_with (least + by) (p.0 + by, p.1) (moved_pairs by ps) (omega (arith, x.0)) y.0 (rw e at (moved_rising by ps (p.0 + 1) x.2 y.1))

moved_bits : (by : ℕ) (es : List Pair) → have_bits (moved_pairs by es) ≡ have_bits es
moved_bits by [] = refl
moved_bits by (e ∷ es) = rw (moved_bits by es) refl

pub moved_is_mask : (by : ℕ) (es out : List Pair) → IsMask es → are_below 1048576 (moved_pairs by es) ≡ true → out ≡ moved_pairs by es → IsMask out
moved_is_mask by es out m b q =
    let p = mask_parts es m in
    rw q (and_from (are_rising 0 (moved_pairs by es)) (have_bits (moved_pairs by es))
    (rising_lower (moved_pairs by es) (0 + by) 0 (omega arith) (moved_rising by es 0 p.0 b)) (moved_bits by es ∙ p.1))

pub moved_is_pattern : (by : ℕ) (ps out : List Pair) → IsPattern ps → are_below 1048576 (moved_pairs by ps) ≡ true → out ≡ moved_pairs by ps → IsPattern out
moved_is_pattern by [] out m b q = rw q m
moved_is_pattern by (p ∷ ps) out m b q =
    rw q (rising_lower (moved_pairs by (p ∷ ps)) (0 + by) 0 (omega arith) (moved_rising by (p ∷ ps) 0 m b))

-- pairs below n lie below n + by once they are moved
pub moved_below : (by n to : ℕ) (ps : List Pair) → are_below n ps ≡ true → n + by ≤ to → are_below to (moved_pairs by ps) ≡ true
moved_below by n to [] b le = refl
moved_below by n to (p ∷ ps) b le =
    let x = below_parts p ps n b in below_with (p.0 + by, p.1) (moved_pairs by ps) to (omega (arith, x.0, le)) (moved_below by n to ps x.1 le)

pub moved_at : (by : ℕ) (es : List Pair) (at : ℕ) → mask_at (moved_pairs by es) at ≡ cond (leb by at) (mask_at es (at - by)) 0
moved_at by [] at = none (leb by at)
  where
    none : (b : Bool) → ◌≡◌ {A = ℕ} 0 (cond b 0 0)
    none true = refl
    none false = refl
moved_at by (e ∷ es) at = rw (moved_at by es at) (here e.0 e.1 (mask_at es (at - by)))
  where
    here : (offset m rest : ℕ) → bit_or (cond (eqb (offset + by) at) m 0) (cond (leb by at) rest 0) ≡ cond (leb by at) (bit_or (cond (eqb offset (at - by)) m 0) rest) 0
    here offset m rest = grind (arith, nat_tests, or_zero)

pub moved_bytes : (by : ℕ) (es out : List Pair) → out ≡ moved_pairs by es → (at : ℕ) → mask_at out at ≡ cond (leb by at) (mask_at es (at - by)) 0
moved_bytes by es out q at = rw q (moved_at by es at)

pub moved_has : (by : ℕ) (es out : List Pair) → out ≡ moved_pairs by es → (n : ℕ) → Has out n ↔ ((8 * by ≤ n) × Has es (n - 8 * by))
moved_has by es out q n =
    let i : (n - 8 * by) / 8 ≡ n / 8 - by = omega arith in
    rw (moved_bytes by es out q (n / 8)) (elim (cases_lt (n / 8) by) [
      | inl lt ↦ rw (lt-leb by (n / 8) lt) (λ h. absurd (omega (arith, bit_at-zero (n % 8), h)), λ h. absurd (omega (arith, h.0, lt)))
      | inr le ↦
          let j : (n - 8 * by) % 8 ≡ n % 8 = omega (arith, le) in
          rw (le-leb by (n / 8) le, i, j) (λ h. (omega (arith, le), h), λ h. h.1)
    ])

-- what is moved by no byte stays
pub unmoved : (es : List Pair) → moved_pairs 0 es ≡ es
unmoved [] = refl
unmoved (e ∷ es) = let q : e.0 + 0 ≡ e.0 = omega arith in rw (q, unmoved es) refl

pub unmoved_byte : (es : List Pair) (at : ℕ) → byte_moved 0 es at ≡ mask_at es at
unmoved_byte es at = grind (arith, nat_tests)

-- what is joined with nothing is the moved set
pub moved_alone : (by : ℕ) (es fs out : List Pair) → es ≡ [] → IsMask fs → are_below 1048576 (moved_pairs by fs) ≡ true → IsMask out
    → ((at : ℕ) → mask_at out at ≡ bit_or (mask_at es at) (byte_moved by fs at)) → out ≡ moved_pairs by fs
moved_alone by es fs out none m below o same =
    same_bytes out (moved_pairs by fs) o (moved_is_mask by fs (moved_pairs by fs) m below refl)
    (λ at. rw none at (same at) ∙ zero_or (byte_moved by fs at) ∙ sym (moved_at by fs at))

-- what is joined is moved before
pub moved_either : (by : ℕ) (es fs out : List Pair) → ((at : ℕ) → mask_at out at ≡ bit_or (mask_at es at) (mask_at (moved_pairs by fs) at)) → (n : ℕ) → Has out n ↔ (Has es n ⊎ HasMoved by fs n)
moved_either by es fs out same n =
    let a = either_has es (moved_pairs by fs) out same n in
    let b = moved_has by fs (moved_pairs by fs) refl n in (
      λ h. elim (a.0 h) [ inl i ↦ inl i | inr i ↦ inr (b.0 i) ],
      λ h. a.1 (elim h [ inl i ↦ inl i | inr i ↦ inr (b.1 i) ]),
    )

full_in : (from to at : ℕ) → from ≤ at → at < to → full_between from to at ≡ 255
full_in from to at le lt = grind (arith, nat_tests)

full_out : (from to at : ℕ) → (at < from) ⊎ (to ≤ at) → full_between from to at ≡ 0
full_out from to at out = grind (arith, nat_tests)

bit_of_none : (k : ℕ) → bit_at 0 k ≡ 1 → ⊥
bit_of_none k h = absurd (omega (arith, bit_at-zero k, h))

pub full_has : (from to : ℕ) (es : List Pair) → ((at : ℕ) → mask_at es at ≡ full_between from to at) → (n : ℕ) → Has es n ↔ ((8 * from ≤ n) × (n < 8 * to))
full_has from to es same n = rw (same (n / 8)) (elim (cases_lt (n / 8) from) [
  | inl lt ↦ rw (full_out from to (n / 8) (inl lt)) (λ h. absurd (bit_of_none (n % 8) h), λ h. absurd (omega (arith, h.0, lt)))
  | inr le ↦ elim (cases_lt (n / 8) to) [
    | inl lt ↦ rw (full_in from to (n / 8) le lt) (λ h. (omega (arith, le), omega (arith, lt)), λ h. bit_at_ones 8 (n % 8) (omega arith))
    | inr past ↦ rw (full_out from to (n / 8) (inr past)) (λ h. absurd (bit_of_none (n % 8) h), λ h. absurd (omega (arith, h.1, past)))
  ]
])

-- the number of bit k of the byte at an offset
number : (at k : ℕ) → k < 8 → ((8 * at + k) / 8 ≡ at) × ((8 * at + k) % 8 ≡ k)
number at k lt = (omega (arith, lt), omega (arith, lt))

same_bit : (x y : ℕ) → x < 2 → y < 2 → ((x ≡ 1) ↔ (y ≡ 1)) → x ≡ y
same_bit x y a b h = grind arith

-- sets with the same bits have the same entries
pub same_bits : (es fs : List Pair) → IsMask es → IsMask fs → ((n : ℕ) → Has es n ↔ Has fs n) → es ≡ fs
same_bits es fs m n same = same_bytes es fs m n (λ at.
    same_from_bits_below 8 (mask_at es at) (mask_at fs at) (mask_at_lt es at m) (mask_at_lt fs at n) (λ k lt.
    let x = number at k lt in
    same_bit (bit_at (mask_at es at) k) (bit_at (mask_at fs at) k) (bit_at-lt (mask_at es at) k) (bit_at-lt (mask_at fs at) k) (rw (x.0, x.1) at (same (8 * at + k)))))

-- the bits of a byte are those of the set
pub byte_bits : (es : List Pair) (at byte : ℕ) → byte ≡ mask_at es at → (k : ℕ) → k < 8 → (bit_at byte k ≡ 1) ↔ Has es (8 * at + k)
byte_bits es at byte q k lt = let x = number at k lt in rw (q, x.0, x.1) (λ h. h, λ h. h)

-- a byte is wholly in the set exactly where each of its bits is
pub whole_byte : (es : List Pair) (at : ℕ) → IsMask es → ((mask_at es at == 255) ≡ true) ↔ ((k : ℕ) → k < 8 → Has es (8 * at + k))
whole_byte es at m = (
  λ h. λ k lt. let q : mask_at es at ≡ 255 = eqb-true (mask_at es at) 255 h in (byte_bits es at 255 (sym q) k lt).0 (bit_at_ones 8 k lt),
  λ h. eq-eqb (mask_at es at) 255 (same_from_bits_below 8 (mask_at es at) 255 (mask_at_lt es at m) (omega arith)
      (λ k lt. (byte_bits es at (mask_at es at) refl k lt).1 (h k lt) ∙ sym (bit_at_ones 8 k lt))),
)
