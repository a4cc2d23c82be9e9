-- The least bit of a mask, and the mask without it.
use Rattle.std.proofs.Common.{◌≡◌, ◌↔◌, ℕ, ◌+◌, ◌*◌, ◌/◌, ◌%◌, ◌^◌, ◌<◌, true, false, List, [], ◌∷◌, Option, Some, None, cond, eqb, bit_xor, refl, sym, ap, ◌∙◌, inl, inr, arith}
use Rattle.std.specs.Option.{option_map}
use Rattle.std.specs.Int.{bit_at, trailing_zeros, w8}
use Rattle.std.proofs.lemmas.Nat.{pow_below, one_shl}
use Rattle.std.proofs.lemmas.Nat.Bits.{bit_at_xor, bit_at-zero, bit_at-lt, bit_at-trailing_zeros, bit_at-pow_same, bit_at-pow_other, same_from_bits}
use Rattle.std.proofs.lemmas.Bool.{ne_eqb, eq-eqb, cases_lt, cases_eq, cases_order}
use Rattle.abi_bits.specs.Pairs.{Pair}
use Rattle.abi_bits.specs.Mask.{mask_at, Has, IsMask, lowest, least_bit, bit_byte, IsLeast}
use Rattle.abi_bits.proofs.Masks.{rising_here, zero_before, first, mask_parts, bits_parts}

xor_zero : (a : ℕ) → bit_xor a 0 ≡ a
xor_zero a = same_from_bits _ _ (λ i. let x = bit_at-lt a i in simp (bit_at_xor, bit_at-zero) (omega (arith, x)))

pub low_bit : (m : ℕ) → 0 < m → m < 256 → (trailing_zeros w8 m < 8) × (bit_at m (trailing_zeros w8 m) ≡ 1) × ((i : ℕ) → i < trailing_zeros w8 m → bit_at m i ≡ 0)
low_bit m pos lt = bit_at-trailing_zeros w8 m pos lt

-- `1 << k` within a byte
pub lowest_shift : (m : ℕ) → 0 < m → m < 256 → (1 * 2 ^ trailing_zeros w8 m) % 2 ^ 8 ≡ lowest m
lowest_shift m pos lt = one_shl (trailing_zeros w8 m) 8 (low_bit m pos lt).0

lowest_lt : (m : ℕ) → 0 < m → m < 256 → lowest m < 2 ^ 8
lowest_lt m pos lt = pow_below (trailing_zeros w8 m) 8 (low_bit m pos lt).0

pub xor_none : (a b : ℕ) → a ≡ 0 → b ≡ 0 → bit_xor a b ≡ 0
xor_none a b p q = rw (p, q) refl

-- the first byte with a bit has the least one
pub least_by_bytes : (es : List Pair) (at : ℕ) → IsMask es → 0 < mask_at es at → ((k : ℕ) → k < at → mask_at es k ≡ 0) → least_bit es ≡ Some (at, lowest (mask_at es at))
least_by_bytes [] at m some none = absurd (omega (arith, some))
least_by_bytes (e ∷ es) at m some none =
    let p = mask_parts (e ∷ es) m in
    let here : (at : ℕ) → e.0 ≡ at → mask_at (e ∷ es) at ≡ e.1 = λ at q. first e es 0 at p.0 q in
    elim (cases_order e.0 at) [
      | inl q ↦ rw (here at q, q) refl
      | inr rest ↦ elim rest [
        | inl lt ↦ absurd (omega (arith, (bits_parts e es p.1).0, sym (here e.0 refl) ∙ none e.0 lt))
        | inr gt ↦ absurd (omega (arith, some, zero_before (e ∷ es) e.0 at (rising_here e es 0 p.0) gt))
      ]
    ]

-- where no bit stands, the least does not
pub no_least : (es : List Pair) (at : ℕ) → IsMask es → mask_at es at ≡ 0 → bit_byte (least_bit es) at ≡ 0
no_least [] at m none = refl
no_least (e ∷ es) at m none = elim (cases_eq e.0 at) [
  | inl q ↦
      let p = mask_parts (e ∷ es) m in
      absurd (omega (arith, (bits_parts e es p.1).0, sym (first e es 0 at p.0 q) ∙ none))
  | inr q ↦ rw (ne_eqb e.0 at q) refl
]

-- the number of the least bit
abbrev pub least_number : Pair → ℕ
least_number e = 8 * e.0 + trailing_zeros w8 e.1

no_lower : (e : Pair) (es : List Pair) (n k : ℕ) → IsMask (e ∷ es) → k < 8 → n < 8 * e.0 + k → ((i : ℕ) → i < k → bit_at e.1 i ≡ 0) → Has (e ∷ es) n → ⊥
no_lower e es n k m small lt none h =
    let p = mask_parts (e ∷ es) m in
    elim (cases_lt (n / 8) e.0) [
      | inl before ↦
          let z : mask_at (e ∷ es) (n / 8) ≡ 0 = zero_before (e ∷ es) e.0 (n / 8) (rising_here e es 0 p.0) before in
          absurd (omega (arith, bit_at-zero (n % 8), rw z at h))
      | inr le ↦
          let q : n / 8 ≡ e.0 = omega (arith, le, lt, small) in
          let here : mask_at (e ∷ es) (n / 8) ≡ e.1 = first e es 0 (n / 8) p.0 (sym q) in
          let low : bit_at e.1 (n % 8) ≡ 0 = none (n % 8) (omega (arith, q, lt)) in
          absurd (omega (arith, low, rw here at h))
    ]

pub least_is : (e : Pair) (es : List Pair) → IsMask (e ∷ es) → IsLeast (e ∷ es) (least_number e)
least_is e es m =
    let p = mask_parts (e ∷ es) m in
    let b = bits_parts e es p.1 in
    let low = low_bit e.1 b.0 b.1 in
    let i : least_number e / 8 ≡ e.0 = omega (arith, low.0) in
    let j : least_number e % 8 ≡ trailing_zeros w8 e.1 = omega (arith, low.0) in
    let here : mask_at (e ∷ es) e.0 ≡ e.1 = first e es 0 e.0 p.0 refl in
    record {
      has = rw (i, j, here) low.1;
      none_below = λ n lt h. no_lower e es n (trailing_zeros w8 e.1) m low.0 lt low.2 h;
    }

pub least_once : (es : List Pair) (m n : ℕ) → IsLeast es m → IsLeast es n → m ≡ n
least_once es m n x y = elim (cases_order m n) [
  | inl q ↦ q
  | inr rest ↦ elim rest [
    | inl lt ↦ absurd (y.none_below m lt x.has)
    | inr gt ↦ absurd (x.none_below n gt y.has)
  ]
]

no_bit : (n : ℕ) → Has [] n → ⊥
no_bit n h = absurd (omega (arith, bit_at-zero (n % 8), h))

-- at the least bit's own number
same_bit : (e : Pair) (es : List Pair) (n : ℕ) → IsMask (e ∷ es) → n ≡ least_number e → bit_at (bit_xor (mask_at (e ∷ es) (n / 8)) (bit_byte (least_bit (e ∷ es)) (n / 8))) (n % 8) ≡ 0
same_bit e es n m q =
    let p = mask_parts (e ∷ es) m in
    let b = bits_parts e es p.1 in
    let low = low_bit e.1 b.0 b.1 in
    let i : n / 8 ≡ e.0 = omega (arith, low.0, q) in
    let j : n % 8 ≡ trailing_zeros w8 e.1 = omega (arith, low.0, q) in
    let here : mask_at (e ∷ es) e.0 ≡ e.1 = first e es 0 e.0 p.0 refl in
    let t : eqb e.0 e.0 ≡ true = eq-eqb e.0 e.0 refl in
    let x : bit_at e.1 (trailing_zeros w8 e.1) ≡ 1 = low.1 in
    let y : bit_at (lowest e.1) (trailing_zeros w8 e.1) ≡ 1 = bit_at-pow_same (trailing_zeros w8 e.1) in
    rw (i, j) (ap (λ z. bit_at (bit_xor z (cond (eqb e.0 e.0) (lowest e.1) 0)) (trailing_zeros w8 e.1)) here
    ∙ ap (λ z. bit_at (bit_xor e.1 (cond z (lowest e.1) 0)) (trailing_zeros w8 e.1)) t
    ∙ bit_at_xor e.1 (lowest e.1) (trailing_zeros w8 e.1) ∙ rw (x, y) refl)

-- the least bit has no other number
no_bit_of : (e : Pair) (es : List Pair) (n : ℕ) → (n ≡ least_number e → ⊥) → bit_at (bit_byte (least_bit (e ∷ es)) (n / 8)) (n % 8) ≡ 0
no_bit_of e es n ne = elim (cases_eq e.0 (n / 8)) [
  | inl q ↦
      let t : eqb e.0 (n / 8) ≡ true = eq-eqb e.0 (n / 8) q in
      rw t (bit_at-pow_other (trailing_zeros w8 e.1) (n % 8) (λ j. ne (omega (arith, q, j))))
  | inr q ↦ let t : eqb e.0 (n / 8) ≡ false = ne_eqb e.0 (n / 8) q in rw t (bit_at-zero (n % 8))
]

other_bit : (a b k : ℕ) → bit_at b k ≡ 0 → bit_at (bit_xor a b) k ≡ bit_at a k
other_bit a b k z = let x = bit_at-lt a k in let e = bit_at_xor a b k in omega (arith, e, x, z)

rest_bits : (es : List Pair) (n : ℕ) → IsMask es → (bit_at (bit_xor (mask_at es (n / 8)) (bit_byte (least_bit es) (n / 8))) (n % 8) ≡ 1) ↔ (Has es n × (IsLeast es n → ⊥))
rest_bits [] n m = (λ h. absurd (no_bit n h), λ h. absurd (no_bit n h.0))
rest_bits (e ∷ es) n m = elim (cases_eq n (least_number e)) [
  | inl q ↦ (
    λ h. absurd (omega (arith, same_bit e es n m q, h)),
    λ h. absurd (h.1 (rw q (least_is e es m))),
  )
  | inr q ↦
      let same = other_bit (mask_at (e ∷ es) (n / 8)) (bit_byte (least_bit (e ∷ es)) (n / 8)) (n % 8) (no_bit_of e es n q) in (
        λ h. (sym same ∙ h, λ l. q (least_once (e ∷ es) n (least_number e) l (least_is e es m))),
        λ h. same ∙ h.0,
      )
]

pub rest_has : (es out : List Pair) → IsMask es → ((at : ℕ) → mask_at out at ≡ bit_xor (mask_at es at) (bit_byte (least_bit es) at)) → (n : ℕ) → Has out n ↔ (Has es n × (IsLeast es n → ⊥))
rest_has es out m same n = rw (same (n / 8)) (rest_bits es n m)

low_of : (e : Pair) (es : List Pair) → IsMask (e ∷ es) → (trailing_zeros w8 e.1 < 8) × (bit_at e.1 (trailing_zeros w8 e.1) ≡ 1)
low_of e es m = let b = bits_parts e es (mask_parts (e ∷ es) m).1 in let low = low_bit e.1 b.0 b.1 in (low.0, low.1)

pub offset_of_least : (es : List Pair) (found : Option ℕ) → IsMask es → found ≡ option_map (λ b. b.0) (least_bit es) → (n : ℕ) → IsLeast es n → found ≡ Some (n / 8)
offset_of_least [] found m q n l = absurd (no_bit n l.has)
offset_of_least (e ∷ es) found m q n l =
    let low = low_of e es m in
    let i : n / 8 ≡ e.0 = omega (arith, low.0, least_once (e ∷ es) n (least_number e) l (least_is e es m)) in
    rw i q

pub mask_of_least : (es : List Pair) (found : Option ℕ) → IsMask es → found ≡ option_map (λ b. b.1) (least_bit es) → (n : ℕ) → IsLeast es n → found ≡ Some (2 ^ (n % 8))
mask_of_least [] found m q n l = absurd (no_bit n l.has)
mask_of_least (e ∷ es) found m q n l =
    let low = low_of e es m in
    let j : n % 8 ≡ trailing_zeros w8 e.1 = omega (arith, low.0, least_once (e ∷ es) n (least_number e) l (least_is e es m)) in
    rw j q

pub none_of_least : (es : List Pair) (part : Pair → ℕ) (found : Option ℕ) → found ≡ option_map part (least_bit es) → (found ≡ None) ↔ (es ≡ [])
none_of_least [] part found q = (λ h. refl, λ h. q)
none_of_least (e ∷ es) part found q = (λ h. absurd (cc (sym q ∙ h)), λ h. absurd (cc h))

-- the least bit is the one that the entries tell
pub least_told : (es : List Pair) (b : Pair) → IsMask es → least_bit es ≡ Some b → (n : ℕ) × IsLeast es n × (b.0 ≡ n / 8) × (b.1 ≡ 2 ^ (n % 8))
least_told [] b m q = absurd (cc q)
least_told (e ∷ es) b m q =
    let low = low_of e es m in
    let i : least_number e / 8 ≡ e.0 = omega (arith, low.0) in
    let j : least_number e % 8 ≡ trailing_zeros w8 e.1 = omega (arith, low.0) in
    let pair : ◌≡◌ {A = Pair} (e.0, lowest e.1) b = cc q in
    (least_number e, least_is e es m, sym (ap (λ (p : Pair). p.0) pair) ∙ sym i, sym (ap (λ (p : Pair). p.1) pair) ∙ ap (λ k. 2 ^ k) (sym j))
