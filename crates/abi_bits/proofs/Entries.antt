-- The entries below an offset of the set that a function of the offset tells, and that a set has one list of entries.
use Rattle.std.proofs.Common.{◌≡◌, ℕ, zero, suc, ◌+◌, ◌-◌, ◌<◌, ◌≤◌, true, List, [], ◌∷◌, ◌++◌, cond, eqb, ltb, bit_or, get_or, drop, drop-cons, length, refl, sym, ap, ◌∙◌, inl, inr, arith}
use Rattle.std.proofs.lemmas.Bool.{and_from, ne_eqb, eq-eqb, le-ltb, cases_lt, cases_eq, cases_order}
use Rattle.std.proofs.lemmas.Bool.Decides.{nat_tests}
use Rattle.std.proofs.lemmas.Nat.{or_lt}
use Rattle.std.proofs.lemmas.List.{append-nil}
use Rattle.abi_bits.specs.Pairs.{Pair, are_rising, are_below}
use Rattle.abi_bits.specs.Mask.{mask_at, have_bits, IsMask, entries_below}
use Rattle.abi_bits.proofs.Masks.{or_zero, zero_or, or_assoc, rising_parts, rising_here, zero_before, skip, first, mask_parts, bits_parts, below_parts, below_with, rising_push, bits_push}

pub mask_append : (xs ys : List Pair) (at : ℕ) → mask_at (xs ++ ys) at ≡ bit_or (mask_at xs at) (mask_at ys at)
mask_append [] ys at = sym (zero_or (mask_at ys at))
mask_append (x ∷ xs) ys at =
    rw (mask_append xs ys at) (sym (or_assoc (cond (eqb x.0 at) x.1 0) (mask_at xs at) (mask_at ys at)))

-- one byte more, where it has a bit
abbrev pub byte_list : ℕ → ℕ → List Pair
byte_list n m = cond (eqb m 0) [] ((n, m) ∷ [])

pub byte_list_at : (n m at : ℕ) → mask_at (byte_list n m) at ≡ cond (eqb n at) m 0
byte_list_at n m at = grind (arith, nat_tests, or_zero)

pub one_more : (f : ℕ → ℕ) (n : ℕ) → entries_below f (n + 1) ≡ entries_below f n ++ byte_list n (f n)
unfolding entries_below
one_more f n = let e : n + 1 ≡ suc n = omega arith in rw e refl

one_more_at : (f : ℕ → ℕ) (n at : ℕ) → bit_or (cond (ltb at n) (f at) 0) (cond (eqb n at) (f n) 0) ≡ cond (ltb at (suc n)) (f at) 0
one_more_at f n at = grind (arith, nat_tests, or_zero, zero_or)

-- a set told by f has at each byte below n what f tells, and nothing from n on
pub entries_at : (f : ℕ → ℕ) (n at : ℕ) → mask_at (entries_below f n) at ≡ cond (ltb at n) (f at) 0
unfolding entries_below
entries_at f zero at = rw (le-ltb at 0 (omega arith)) refl
entries_at f (suc n) at =
    mask_append (entries_below f n) (byte_list n (f n)) at
    ∙ ap (λ x. bit_or x (mask_at (byte_list n (f n)) at)) (entries_at f n at)
    ∙ ap (λ x. bit_or (cond (ltb at n) (f at) 0) x) (byte_list_at n (f n) at)
    ∙ one_more_at f n at

pub below_wider : (es : List Pair) (n m : ℕ) → are_below n es ≡ true → n ≤ m → are_below m es ≡ true
below_wider [] n m b le = refl
below_wider (e ∷ es) n m b le = let p = below_parts e es n b in below_with e es m (omega (arith, p.0, le)) (below_wider es n m p.1 le)

pub below_push : (es : List Pair) (n at m : ℕ) → are_below n es ≡ true → at < n → are_below n (es ++ (at, m) ∷ []) ≡ true
below_push [] n at m b lt = below_with (at, m) [] n lt refl
below_push (e ∷ es) n at m b lt = let p = below_parts e es n b in below_with e (es ++ (at, m) ∷ []) n p.0 (below_push es n at m p.1 lt)

-- they lie below n
pub entries_lie_below : (f : ℕ → ℕ) (n : ℕ) → are_below n (entries_below f n) ≡ true
unfolding entries_below
entries_lie_below f zero = refl
entries_lie_below f (suc n) =
    let b : are_below (suc n) (entries_below f n) ≡ true = below_wider (entries_below f n) n (suc n) (entries_lie_below f n) (omega arith) in
    elim (cases_eq (f n) 0) [
      | inl q ↦ rw (eq-eqb (f n) 0 q, append-nil) b
      | inr q ↦ rw (ne_eqb (f n) 0 q) (below_push (entries_below f n) (suc n) n (f n) b (omega arith))
    ]

pub positive : (m : ℕ) → (m ≡ 0 → ⊥) → 0 < m
positive m ne = omega arith

-- a byte past the last may be added
pub mask_byte : (es : List Pair) (at m : ℕ) → IsMask es → are_below at es ≡ true → at < 1048576 → m < 256 → IsMask (es ++ byte_list at m)
mask_byte es at m is b lt byte = elim (cases_eq m 0) [
  | inl q ↦ rw (eq-eqb m 0 q, append-nil) is
  | inr q ↦
      let p = mask_parts es is in
      let new : List Pair = es ++ (at, m) ∷ [] in
      rw (ne_eqb m 0 q) (and_from (are_rising 0 new) (have_bits new) (rising_push es 0 at m p.0 b (omega arith) lt) (bits_push es at m p.1 (positive m q) byte))
]

-- what a function of the offset tells is a mask
pub entries_are_mask : (f : ℕ → ℕ) (n : ℕ) → n ≤ 1048576 → ((at : ℕ) → f at < 256) → IsMask (entries_below f n)
unfolding entries_below
entries_are_mask f zero le lt = refl
entries_are_mask f (suc n) le lt = mask_byte (entries_below f n) n (f n) (entries_are_mask f n (omega arith) lt) (entries_lie_below f n) (omega arith) (lt n)

-- bytes without a bit add no entry
gap_by : (f : ℕ → ℕ) (from d : ℕ) → ((k : ℕ) → from ≤ k → k < from + d → f k ≡ 0) → entries_below f (from + d) ≡ entries_below f from
gap_by f from zero none = let e : from + 0 ≡ from = omega arith in rw e refl
gap_by f from (suc d) none =
    let e : from + suc d ≡ (from + d) + 1 = omega arith in
    let here : f (from + d) ≡ 0 = none (from + d) (omega arith) (omega arith) in
    rw (e, one_more f (from + d), here, append-nil) (gap_by f from d (λ k le lt. none k le (omega (arith, lt))))

pub gap : (f : ℕ → ℕ) (from to : ℕ) → from ≤ to → ((k : ℕ) → from ≤ k → k < to → f k ≡ 0) → entries_below f to ≡ entries_below f from
gap f from to le none =
    let e : from + (to - from) ≡ to = omega arith in
    rw e at (gap_by f from (to - from) (λ k a b. none k a (omega (arith, b))))

-- before the first byte with a bit there is no entry
pub none_before : (f : ℕ → ℕ) (to : ℕ) → ((k : ℕ) → k < to → f k ≡ 0) → entries_below f to ≡ []
unfolding entries_below
none_before f to none = gap f 0 to (omega arith) (λ k a b. none k b)

same_rest : (e f : Pair) (es fs : List Pair) (a b : ℕ) → e.0 ≡ f.0 → are_rising a (e ∷ es) ≡ true → are_rising b (f ∷ fs) ≡ true
    → ((at : ℕ) → mask_at (e ∷ es) at ≡ mask_at (f ∷ fs) at) → (at : ℕ) → mask_at es at ≡ mask_at fs at
same_rest e f es fs a b q r s same at =
    let p = rising_parts a e es r in
    let o = rising_parts b f fs s in
    elim (cases_lt e.0 at) [
      | inl lt ↦ sym (skip e es at (λ x. absurd (omega (arith, lt, x)))) ∙ same at ∙ skip f fs at (λ x. absurd (omega (arith, lt, q, x)))
      | inr le ↦ zero_before es (e.0 + 1) at p.2 (omega (arith, le)) ∙ sym (zero_before fs (f.0 + 1) at o.2 (omega (arith, le, q)))
    ]

-- the first entries of equal sets stand at one offset
not_before : (e f : Pair) (es fs : List Pair) (a b : ℕ) → are_rising a (e ∷ es) ≡ true → have_bits (e ∷ es) ≡ true → are_rising b (f ∷ fs) ≡ true
    → ((at : ℕ) → mask_at (e ∷ es) at ≡ mask_at (f ∷ fs) at) → e.0 < f.0 → ⊥
not_before e f es fs a b r h s same lt =
    absurd (omega (arith, (bits_parts e es h).0, sym (first e es a e.0 r refl) ∙ same e.0 ∙ zero_before (f ∷ fs) f.0 e.0 (rising_here f fs b s) lt))

same_pair : (e f : Pair) → e.0 ≡ f.0 → e.1 ≡ f.1 → ◌≡◌ {A = Pair} e f
same_pair (a, b) (c, d) p q = cc

same_entries : (es fs : List Pair) (a b : ℕ) → are_rising a es ≡ true → have_bits es ≡ true → are_rising b fs ≡ true → have_bits fs ≡ true
    → ((at : ℕ) → mask_at es at ≡ mask_at fs at) → es ≡ fs
same_entries [] [] a b r h s g same = refl
same_entries [] (f ∷ fs) a b r h s g same =
    absurd (omega (arith, (bits_parts f fs g).0, sym (first f fs b f.0 s refl) ∙ sym (same f.0)))
same_entries (e ∷ es) [] a b r h s g same =
    absurd (omega (arith, (bits_parts e es h).0, sym (first e es a e.0 r refl) ∙ same e.0))
same_entries (e ∷ es) (f ∷ fs) a b r h s g same =
    let q : e.0 ≡ f.0 = elim (cases_order e.0 f.0) [
      | inl eq ↦ eq
      | inr rest ↦ elim rest [
        | inl lt ↦ absurd (not_before e f es fs a b r h s same lt)
        | inr gt ↦ absurd (not_before f e fs es b a s g r (λ at. sym (same at)) gt)
      ]
    ] in
    let m : e.1 ≡ f.1 = sym (first e es a e.0 r refl) ∙ same e.0 ∙ first f fs b e.0 s (sym q) in
    let tail : es ≡ fs = same_entries es fs (e.0 + 1) (f.0 + 1) (rising_parts a e es r).2 (bits_parts e es h).2 (rising_parts b f fs s).2 (bits_parts f fs g).2
    (same_rest e f es fs a b q r s same) in
    let head : ◌≡◌ {A = Pair} e f = same_pair e f q m in
    cc

-- sets with the same bytes have the same entries
pub same_bytes : (es fs : List Pair) → IsMask es → IsMask fs → ((at : ℕ) → mask_at es at ≡ mask_at fs at) → es ≡ fs
same_bytes es fs m n same =
    let p = mask_parts es m in
    let q = mask_parts fs n in
    same_entries es fs 0 0 p.0 p.1 q.0 q.1 same

pub zero_past : (es : List Pair) (n at : ℕ) → are_below n es ≡ true → n ≤ at → mask_at es at ≡ 0
zero_past [] n at b le = refl
zero_past (e ∷ es) n at b le =
    let p = below_parts e es n b in
    skip e es at (λ q. absurd (omega (arith, p.0, le, q))) ∙ zero_past es n at p.1 le

byte_lt : (es : List Pair) (at : ℕ) → have_bits es ≡ true → mask_at es at < 256
byte_lt [] at h = omega arith
byte_lt (e ∷ es) at h =
    let x = bits_parts e es h in or_lt 8 (cond (eqb e.0 at) e.1 0) (mask_at es at) (here x.1) (byte_lt es at x.2)
  where
    here : e.1 < 256 → cond (eqb e.0 at) e.1 0 < 256
    here lt = grind (arith, nat_tests)

-- a byte of a mask is a byte
pub mask_at_lt : (es : List Pair) (at : ℕ) → IsMask es → mask_at es at < 256
mask_at_lt es at m = byte_lt es at (mask_parts es m).1

whole : (es : List Pair) (n at : ℕ) → are_below n es ≡ true → mask_at es at ≡ cond (ltb at n) (mask_at es at) 0
whole es n at b = grind (arith, nat_tests, zero_past)

-- a mask is what its bytes tell
pub from_bytes : (es : List Pair) (n : ℕ) → IsMask es → are_below n es ≡ true → n ≤ 1048576 → es ≡ entries_below (mask_at es) n
from_bytes es n m b le =
    same_bytes es (entries_below (mask_at es) n) m (entries_are_mask (mask_at es) n le (λ at. mask_at_lt es at m)) (λ at. whole es n at b ∙ sym (entries_at (mask_at es) n at))

-- the offsets of a mask lie below the greatest size
pub rising_below : (es : List Pair) (least : ℕ) → are_rising least es ≡ true → are_below 1048576 es ≡ true
rising_below [] least r = refl
rising_below (e ∷ es) least r =
    let p = rising_parts least e es r in below_with e es 1048576 p.1 (rising_below es (e.0 + 1) p.2)

pub mask_below : (es : List Pair) → IsMask es → are_below 1048576 es ≡ true
mask_below es m = rising_below es 0 (mask_parts es m).0

-- a set that is built byte by byte has what is told of the bytes so far
pub told_start : (f : ℕ → ℕ) (n : ℕ) (es : List Pair) → es ≡ [] → ((k : ℕ) → k < n → f k ≡ 0) → es ≡ entries_below f n
told_start f n es q none = q ∙ sym (none_before f n none)

pub told_lies : (f : ℕ → ℕ) (n : ℕ) (es : List Pair) → es ≡ entries_below f n → are_below n es ≡ true
told_lies f n es q = rw q (entries_lie_below f n)

pub told_more : (f : ℕ → ℕ) (n m : ℕ) (es new : List Pair) → es ≡ entries_below f n → m ≡ f n → new ≡ es ++ byte_list n m → new ≡ entries_below f (n + 1)
told_more f n m es new q same grown = grown ∙ rw (q, same) (sym (one_more f n))

pub told_bytes : (f : ℕ → ℕ) (n : ℕ) (es : List Pair) → es ≡ entries_below f n → ((k : ℕ) → n ≤ k → f k ≡ 0) → (at : ℕ) → mask_at es at ≡ f at
told_bytes f n es q none at = rw q (entries_at f n at ∙ past (none at))
  where
    past : (n ≤ at → f at ≡ 0) → cond (ltb at n) (f at) 0 ≡ f at
    past none = grind (arith, nat_tests)

-- an entry lies past those before it
entry_past : (xs ys : List Pair) (least : ℕ) (e : Pair) → are_rising least (xs ++ e ∷ ys) ≡ true → (least ≤ e.0) × (e.0 < 1048576) × (are_below e.0 xs ≡ true)
entry_past [] ys least e r = let p = rising_parts least e ys r in (p.0, p.1, refl)
entry_past (x ∷ xs) ys least e r =
    let p = rising_parts least x (xs ++ e ∷ ys) r in
    let q = entry_past xs ys (x.0 + 1) e p.2 in
    (omega (arith, p.0, q.0), q.1, below_with x xs e.0 (omega (arith, q.0)) q.2)

pub next_past : (es front : List Pair) (i : ℕ) (d : Pair) → IsMask es → i < length es → front ++ drop i es ≡ es
    → ((get_or es i d).0 < 1048576) × (are_below (get_or es i d).0 front ≡ true)
next_past es front i d m lt whole =
    let cons : drop i es ≡ get_or es i d ∷ drop (suc i) es = drop-cons es i d lt in
    let r : are_rising 0 (front ++ get_or es i d ∷ drop (suc i) es) ≡ true = rw (← cons, whole) (mask_parts es m).0 in
    let q = entry_past front (drop (suc i) es) 0 (get_or es i d) r in
    (q.1, q.2)
