-- What the two writes of a determinant leave.
use Rattle.std.proofs.Common.{◌≡◌, ℕ, ◌+◌, ◌*◌, ◌^◌, ◌<◌, ◌≤◌, Bool, true, false, ◌&&◌, not, eqb, ltb, leb, List, [], ◌∷◌, length, get_or, bit_and, bit_or, refl, sym, ap, ◌∙◌, inl, inr, arith}
use Rattle.std.specs.List.{list_any}
use Rattle.std.specs.Int.{bit_at, bit_not, w8}
use Rattle.std.proofs.Math.ListN.{set}
use Rattle.std.proofs.lemmas.List.{get_or-set_same, get_or-set_other, length-set}
use Rattle.std.proofs.lemmas.Bool.{and_parts, and_from, or_parts, or_from, ltb-true, leb-true, eqb-false, eq-eqb, false≢true, ne_eqb, cases_eq}
use Rattle.std.proofs.lemmas.Nat.{pow_below, pow_pos}
use Rattle.std.proofs.lemmas.Nat.Bits.{bit_at_or, bit_at_and, bit_at_not, bit_at-pow_same, bit_at-pow_other, bit_at-lt, and_pow}
use Rattle.abi_bits.specs.Pairs.{Pair, are_rising, are_below, is_empty, is_matched}
use Rattle.abi_det.specs.State.{put_pairs, put_bits}
use Rattle.abi_det.specs.Writes.{KeptLaw, ImposedLaw}
use Rattle.abi_det.specs.declared.determinant.Test.TheVariants as test

bits_set : (x m k : ℕ) → bit_at m k ≡ 0 → bit_at (bit_or x m) k ≡ bit_at x k
bits_set x m k none = rw (bit_at_or x m k, none) (omega arith)

bits_cleared : (x m k : ℕ) → m < 256 → k < 8 → bit_at m k ≡ 0 → bit_at (bit_and x (bit_not w8 m)) k ≡ bit_at x k
bits_cleared x m k byte lt none = rw (bit_at_and x (bit_not w8 m) k, bit_at_not w8 m k byte lt, none) (omega (arith, bit_at-lt x k))

one_kept : (xs : List ℕ) (offset v at k : ℕ) → offset < length xs → (at ≡ offset → bit_at v k ≡ bit_at (get_or xs offset 0) k)
    → bit_at (get_or (set xs offset v) at 0) k ≡ bit_at (get_or xs at 0) k
one_kept xs offset v at k inside same = elim (cases_eq at offset) [
  | inl q ↦ rw (q, get_or-set_same xs offset v 0 inside) (same q)
  | inr ne ↦ rw (get_or-set_other xs offset at v 0 ne) refl
]

put_kept : (offset m : ℕ) (sign : Bool) (xs : List ℕ) (at k : ℕ) → m < 256 → offset < length xs → k < 8 → (at ≡ offset → bit_at m k ≡ 0)
    → bit_at (get_or (put_bits offset m sign xs) at 0) k ≡ bit_at (get_or xs at 0) k
put_kept offset m true xs at k byte inside lt none =
    one_kept xs offset (bit_or (get_or xs offset 0) m) at k inside (λ q. bits_set (get_or xs offset 0) m k (none q))
put_kept offset m false xs at k byte inside lt none =
    one_kept xs offset (bit_and (get_or xs offset 0) (bit_not w8 m)) at k inside (λ q. bits_cleared (get_or xs offset 0) m k byte lt (none q))

put_pairs_kept : (ps : List Pair) (xs : List ℕ) (at : ℕ) → list_any (λ p. eqb p.0 at) ps ≡ false → get_or (put_pairs ps xs) at 0 ≡ get_or xs at 0
put_pairs_kept [] xs at none = refl
put_pairs_kept (p ∷ ps) xs at none =
    let q = or_parts (eqb p.0 at) (list_any (λ p. eqb p.0 at) ps) none in
    put_pairs_kept ps (set xs p.0 p.1) at q.1 ∙ get_or-set_other xs p.0 at p.1 0 (λ same. eqb-false p.0 at q.0 (sym same))

-- no later byte of a pattern is an earlier one
apart : (least at : ℕ) (ps : List Pair) → are_rising least ps ≡ true → at < least → list_any (λ p. eqb p.0 at) ps ≡ false
apart least at [] r lt = refl
apart least at (p ∷ ps) r lt =
    let ab = and_parts (leb least p.0 && ltb p.0 1048576) (are_rising (p.0 + 1) ps) r in
    let le : least ≤ p.0 = leb-true least p.0 (and_parts (leb least p.0) (ltb p.0 1048576) ab.0).0 in
    or_from (eqb p.0 at) (list_any (λ p. eqb p.0 at) ps) (ne_eqb p.0 at (λ q. absurd (omega (arith, q)))) (apart (p.0 + 1) at ps ab.1 (omega arith))

put_matched : (least : ℕ) (ps : List Pair) (xs : List ℕ) → are_rising least ps ≡ true → are_below (length xs) ps ≡ true → is_matched ps (λ i. get_or (put_pairs ps xs) i 0) ≡ true
put_matched least [] xs r b = refl
put_matched least (p ∷ ps) xs r b =
    let ab = and_parts (leb least p.0 && ltb p.0 1048576) (are_rising (p.0 + 1) ps) r in
    let q = and_parts (ltb p.0 (length xs)) (are_below (length xs) ps) b in
    let inside : p.0 < length xs = ltb-true p.0 (length xs) q.0 in
    let first = put_pairs_kept ps (set xs p.0 p.1) p.0 (apart (p.0 + 1) p.0 ps ab.1 (omega arith)) ∙ get_or-set_same xs p.0 p.1 0 inside in
    let rest : are_below (length (set xs p.0 p.1)) ps ≡ true = rw (length-set xs p.0 p.1) q.1 in
    and_from (eqb (get_or (put_pairs ps (set xs p.0 p.1)) p.0 0) p.1) (is_matched ps (λ i. get_or (put_pairs ps (set xs p.0 p.1)) i 0))
    (eq-eqb (get_or (put_pairs ps (set xs p.0 p.1)) p.0 0) p.1 first) (put_matched (p.0 + 1) ps (set xs p.0 p.1) ab.1 rest)

untested : (m k : ℕ) → eqb (bit_at m k) 1 ≡ false → bit_at m k ≡ 0
untested m k h = let ne = eqb-false (bit_at m k) 1 h in omega (arith, ne, bit_at-lt m k)

power_byte : (m b : ℕ) → b < 8 → m ≡ 2 ^ b → m < 256
power_byte m b lt is = rw is (pow_below b 8 lt)

pub kept : KeptLaw
kept test.BitDeterminant sign xs at k is lt none =
    put_kept 0 1 sign xs at k (omega arith) is lt (λ q.
    let here : eqb at 0 ≡ true = eq-eqb at 0 q in
    let other : eqb k 0 ≡ false = rw here at none in
    bit_at-pow_other 0 k (eqb-false k 0 other))
kept (test.ValueIsErr ps) true xs at k is lt none = ap (λ (v : ℕ). bit_at v k) (put_pairs_kept ps xs at none)
kept (test.ValueIsErr ps) false xs at k is lt none = refl
kept (test.BitIsErr offset mask) sign xs at k is lt none =
    put_kept offset mask sign xs at k (power_byte mask is.1.0 is.1.1 is.1.2) is.0 lt (λ q.
    let here : eqb at offset ≡ true = eq-eqb at offset q in
    untested mask k (rw here at none))

bit_set : (x b : ℕ) → bit_at (bit_or x (2 ^ b)) b ≡ 1
bit_set x b = rw (bit_at_or x (2 ^ b) b, bit_at-pow_same b) (omega (arith, bit_at-lt x b))

bit_cleared : (x b : ℕ) → b < 8 → bit_at (bit_and x (bit_not w8 (2 ^ b))) b ≡ 0
bit_cleared x b lt = rw (bit_at_and x (bit_not w8 (2 ^ b)) b, bit_at_not w8 (2 ^ b) b (pow_below b 8 lt) lt, bit_at-pow_same b) (omega arith)

mask_set : (x b : ℕ) → not (eqb (bit_and (bit_or x (2 ^ b)) (2 ^ b)) 0) ≡ true
mask_set x b =
    let is = and_pow (bit_or x (2 ^ b)) b in
    let one = bit_set x b in
    let some : eqb (bit_and (bit_or x (2 ^ b)) (2 ^ b)) 0 ≡ false = rw (is, one) (ne_eqb (1 * 2 ^ b) 0 (λ q. absurd (omega (arith, pow_pos b, q)))) in
    rw some refl

mask_cleared : (x b : ℕ) → b < 8 → not (eqb (bit_and (bit_and x (bit_not w8 (2 ^ b))) (2 ^ b)) 0) ≡ false
mask_cleared x b lt =
    let is = and_pow (bit_and x (bit_not w8 (2 ^ b))) b in
    let none = bit_cleared x b lt in
    let empty : eqb (bit_and (bit_and x (bit_not w8 (2 ^ b))) (2 ^ b)) 0 ≡ true = rw (is, none) (eq-eqb (0 * 2 ^ b) 0 (omega arith)) in
    rw empty refl

mask_state : (offset b : ℕ) (sign : Bool) (xs : List ℕ) → b < 8 → offset < length xs → not (eqb (bit_and (get_or (put_bits offset (2 ^ b) sign xs) offset 0) (2 ^ b)) 0) ≡ sign
mask_state offset b true xs lt inside = rw (get_or-set_same xs offset (bit_or (get_or xs offset 0) (2 ^ b)) 0 inside) (mask_set (get_or xs offset 0) b)
mask_state offset b false xs lt inside = rw (get_or-set_same xs offset (bit_and (get_or xs offset 0) (bit_not w8 (2 ^ b))) 0 inside) (mask_cleared (get_or xs offset 0) b lt)

pub imposed : ImposedLaw
imposed test.BitDeterminant true xs is written =
    rw (get_or-set_same xs 0 (bit_or (get_or xs 0 0) 1) 0 is) (eq-eqb (bit_at (bit_or (get_or xs 0 0) 1) 0) 1 (bit_set (get_or xs 0 0) 0))
imposed test.BitDeterminant false xs is written =
    rw (get_or-set_same xs 0 (bit_and (get_or xs 0 0) (bit_not w8 1)) 0 is)
    (ne_eqb (bit_at (bit_and (get_or xs 0 0) (bit_not w8 1)) 0) 1 (λ q. absurd (omega (arith, q, bit_cleared (get_or xs 0 0) 0 (omega arith)))))
imposed (test.ValueIsErr ps) true xs is written = put_matched 0 ps xs (and_parts (not (is_empty ps)) (are_rising 0 ps) is.0).1 is.1
imposed (test.ValueIsErr ps) false xs is written = absurd (false≢true written)
imposed (test.BitIsErr offset mask) sign xs is written = rw is.1.2 (mask_state offset is.1.0 sign xs is.1.1 is.0)
