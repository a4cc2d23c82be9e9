-- Frames that code made part by part.
use Rattle.std.proofs.Common.{◌≡◌, ℕ, ◌+◌, ◌-◌, ◌<◌, ◌≤◌, max, map, true, false, ◌||◌, List, [], ◌∷◌, ◌++◌, cond, eqb, leb, ltb, bit_or, refl, sym, ap, subst, inl, inr, ◌*◌, ◌/◌, ◌%◌, ◌^◌, ◌∙◌, arith}
use Rattle.std.specs.List.{list_all}
use Rattle.std.specs.Int.{next_multiple_of}
use Rattle.std.proofs.lemmas.Bool.{and_parts, and_from, lt-ltb, ne_eqb, eq-eqb, cases_order, cases_lt}
use Rattle.std.proofs.lemmas.Nat.{pow_below, pow-add}
use Rattle.std.proofs.Math.Nat.{div-add-mod, mul-le-mul_left, mul-suc, mul_assoc, mul-mod_right}
use Rattle.abi_bits.specs.Pairs.{Pair, moved_pairs, are_below}
use Rattle.abi_bits.specs.Mask.{mask_at, IsMask, entries_below}
use Rattle.abi_bits.specs.Forbidden.{Item, pattern, range, moved_item, is_solid_byte, is_solid_item, is_item_below, are_items_below, Forbidden, or, items_of, moved_tree}
use Rattle.abi_bits.specs.declared.saturating_add_value.SaturatingAddValue.{SaturatingAddValue}
use Rattle.abi_bits.proofs.Masks.{or_assoc, or_zero, zero_or}
use Rattle.abi_bits.proofs.Entries.{from_bytes, mask_append}
use Rattle.abi_bits.proofs.Sets.{moved_below}
use Rattle.abi_bits.specs.Count.{added}
use Rattle.abi_num.specs.Alignment.{IsAlignment}
use Rattle.abi_det.specs.Frame.{Frame, IsLawful, forbids}
use Rattle.abi_det.proofs.Lawful.{parts as lawful_parts}
use Rattle.abi_det.proofs.Sizes.{rounded, rounded_small, power_of_two, alignment_parts, alignment_positive}
use Rattle.abi_layout.specs.Builders.{IsOpen, start_after, whole_between, byte_from, counted, after, pair, rounded_to}
use Rattle.abi_layout.proofs.Bytes.{below_wider, below-append, whole_none, whole_inside, whole_past, entries_same}
use Rattle.abi_layout.proofs.Folding.{same_frame}
use Rattle.abi_layout.proofs.Opening.{open_parts, solid_parts, rounded_to_lawful}

-- a mask is what its bytes tell
pub mask_told : (out : List Pair) (bits : ℕ → ℕ) (n : ℕ) → IsMask out → n ≤ 1048576 → are_below n out ≡ true → ((at : ℕ) → mask_at out at ≡ bits at) → out ≡ entries_below bits n
mask_told out bits n m le b same = from_bytes out n m b le ∙ entries_same (mask_at out) bits n (λ at lt. same at)

pub moved_free_below : (f : Frame) (start : ℕ) → IsLawful f → start + f.size ≤ 1048576 → are_below 1048576 (moved_pairs start f.free) ≡ true
moved_free_below f start l room = moved_below start f.size 1048576 f.free (lawful_parts f l).free (omega (arith, room))

-- free bits, the bytes between, and those of a field
pub field_follows : (old padded out : List Pair) (f : Frame) (end start : ℕ) → IsLawful f → IsMask out → are_below start padded ≡ true → start + f.size ≤ 1048576
    → ((at : ℕ) → mask_at padded at ≡ bit_or (mask_at old at) (whole_between end start at))
    → out ≡ padded ++ moved_pairs start f.free
    → ((at : ℕ) → mask_at out at ≡ bit_or (mask_at padded at) (cond (leb start at) (mask_at f.free (at - start)) 0))
    → out ≡ entries_below (λ at. bit_or (mask_at old at) (bit_or (whole_between end start at) (byte_from start f at))) (start + f.size)
field_follows old padded out f end start l m below room here q bytes =
    mask_told out (λ at. bit_or (mask_at old at) (bit_or (whole_between end start at) (byte_from start f at))) (start + f.size) m room
    (rw q (below-append (start + f.size) padded (moved_pairs start f.free) (below_wider start (start + f.size) padded (omega arith) below)
    (moved_below start f.size (start + f.size) f.free (lawful_parts f l).free (omega arith))))
    (λ at. bytes at ∙ ap (λ x. bit_or x (byte_from start f at)) (here at) ∙ or_assoc (mask_at old at) (whole_between end start at) (byte_from start f at))

-- an alignment divides every larger one
larger_multiple : (a b j k : ℕ) → a ≡ 2 ^ j → b ≡ 2 ^ k → a ≤ b → (c : ℕ) × (b ≡ a * c)
larger_multiple a b j k p q le = elim (cases_lt k j) [
  | inl lt ↦ absurd (omega (arith, p, q, le, pow_below k j lt))
  | inr fits ↦
      let e : j + (k - j) ≡ k = omega (arith, fits) in
      (2 ^ (k - j), q ∙ ap (λ n. 2 ^ n) (sym e) ∙ pow-add 2 j (k - j) ∙ ap (λ n. n * 2 ^ (k - j)) (sym p))
]

-- rounding to a divisor stays below rounding to its multiple
least_multiple : (n a m : ℕ) → 0 < a → n ≤ m → m % a ≡ 0 → next_multiple_of n a ≤ m
least_multiple n a m pos le whole =
    let r = rounded n a pos in
    let w : ℕ = next_multiple_of n a in
    elim (cases_lt m w) [
      | inl lt ↦ absurd (no_between a (m / a) (w / a) m w (omega (arith, div-add-mod m a, whole)) (omega (arith, div-add-mod w a, r.2)) lt (omega (arith, r.1, le)))
      | inr fits ↦ fits
    ]
  where
    no_between : (a x y m w : ℕ) → m ≡ a * x → w ≡ a * y → m < w → w < m + a → ⊥
    no_between a x y m w p q lt near = elim (cases_lt x y) [
      | inl more ↦ absurd (omega (arith, p, q, near, mul-le-mul_left a more, mul-suc a x))
      | inr few ↦ absurd (omega (arith, p, q, lt, mul-le-mul_left a few))
    ]

rounds_less : (n a b : ℕ) → IsAlignment a → IsAlignment b → a ≤ b → next_multiple_of n a ≤ next_multiple_of n b
rounds_less n a b x y le =
    let j = power_of_two a (alignment_parts a x).1 in
    let k = power_of_two b (alignment_parts b y).1 in
    let c = larger_multiple a b j.0 k.0 j.1 k.1 le in
    let r = rounded n b (alignment_positive b y) in
    let m : ℕ = next_multiple_of n b in
    let split : m ≡ a * (c.0 * (m / b)) = omega (arith, div-add-mod m b, r.2) ∙ ap (λ z. z * (m / b)) c.1 ∙ mul_assoc a c.0 (m / b) in
    least_multiple n a m (alignment_positive a x) r.0 (rw split (mul-mod_right a (c.0 * (m / b))))

-- what a lawful frame forbids lies below the greatest size once it is moved there
pub moved_items_below : (size by : ℕ) (free : List Pair) (its : List Item) → list_all (is_solid_item size free) its ≡ true → by + size ≤ 1048576
    → are_items_below 1048576 (map (moved_item by) its) ≡ true
moved_items_below size by free [] s room = refl
moved_items_below size by free (it ∷ its) s room =
    let q = and_parts (is_solid_item size free it) (list_all (is_solid_item size free) its) s in
    and_from (is_item_below 1048576 (moved_item by it)) (are_items_below 1048576 (map (moved_item by) its)) (one size by free it q.0 room)
    (moved_items_below size by free its q.1 room)
  where
    all : (size by : ℕ) (free ps : List Pair) → list_all (λ p. is_solid_byte size free p.0) ps ≡ true → by + size ≤ 1048576 → are_below 1048576 (moved_pairs by ps) ≡ true
    all size by free [] s room = refl
    all size by free (p ∷ ps) s room =
        let q = and_parts (is_solid_byte size free p.0) (list_all (λ p. is_solid_byte size free p.0) ps) s in
        let b = solid_parts size free p.0 q.0 in
        and_from (ltb (p.0 + by) 1048576) (are_below 1048576 (moved_pairs by ps)) (lt-ltb (p.0 + by) 1048576 (omega (arith, b.0, room))) (all size by free ps q.1 room)

    one : (size by : ℕ) (free : List Pair) (it : Item) → is_solid_item size free it ≡ true → by + size ≤ 1048576 → is_item_below 1048576 (moved_item by it) ≡ true
    one size by free (pattern ps) s room = all size by free ps s room
    one size by free (range at least greatest) s room =
        let q = and_parts (is_solid_byte size free at) (ltb least greatest) s in
        let b = solid_parts size free at q.0 in
        lt-ltb (at + by) 1048576 (omega (arith, b.0, room))

pub forbids_move : (f : Frame) (start : ℕ) (t : Forbidden) → IsLawful f → t ≡ f.forbidden → start + f.size ≤ 1048576
    → are_items_below 1048576 (map (moved_item start) (items_of t)) ≡ true
forbids_move f start t l q room = rw q (moved_items_below f.size start f.free (forbids f) (lawful_parts f l).solid room)

-- a frame after other bytes
pub after_made : (f made : Frame) (end start : ℕ) (old : List Pair) → old ≡ [] → start ≡ start_after end f → made.size ≡ start + f.size → made.align ≡ f.align
    → made.free ≡ entries_below (λ at. bit_or (mask_at old at) (bit_or (whole_between end start at) (byte_from start f at))) (start + f.size)
    → made.forbidden ≡ moved_tree start f.forbidden
    → made.niches ≡ f.niches → made.indirections ≡ f.indirections → made ≡ after f end
unfolding after
after_made f made end start old none q a b c d h k =
    same_frame made (after f end) (rw q at a) b
    (rw (none, q) at c ∙ entries_same (λ at. bit_or 0 (bit_or (whole_between end (start_after end f) at) (byte_from (start_after end f) f at)))
    (λ at. bit_or (whole_between end (start_after end f) at) (byte_from (start_after end f) f at)) (start_after end f + f.size)
    (λ at lt. zero_or (bit_or (whole_between end (start_after end f) at) (byte_from (start_after end f) f at))))
    (rw q at d) h k

-- a field after other fields
pub pair_made : (a b made : Frame) (start end : ℕ) (together : SaturatingAddValue) → start ≡ start_after a.size b → end ≡ start + b.size → made.size ≡ end → made.align ≡ max a.align b.align
    → made.free ≡ entries_below (λ at. bit_or (mask_at a.free at) (bit_or (whole_between a.size start at) (byte_from start b at))) (start + b.size)
    → made.forbidden ≡ or a.forbidden (moved_tree start b.forbidden)
    → together ≡ added a.niches b.niches → made.niches ≡ counted (eqb end (a.size + b.size)) together → made.indirections ≡ (a.indirections || b.indirections) → made ≡ pair a b
unfolding pair
pair_made a b made start end together q z c d e f s h k =
    same_frame made (pair a b) (rw (z, q) at c) d (rw q at e) (rw q at f) (rw (z, q, s) at h) k

-- a frame rounded to a larger alignment
pub rounded_made : (f made : Frame) (whole own : ℕ) → IsOpen f → IsAlignment whole → f.align ≤ whole → own ≡ next_multiple_of f.size f.align
    → made.size ≡ next_multiple_of f.size whole → made.align ≡ whole
    → IsMask made.free → are_below own made.free ≡ true → ((at : ℕ) → mask_at made.free at ≡ bit_or (mask_at f.free at) (whole_between f.size own at))
    → made.forbidden ≡ f.forbidden → made.niches ≡ counted (eqb made.size f.size) f.niches → made.indirections ≡ f.indirections
    → IsLawful made × (made ≡ rounded_to f whole)
unfolding rounded_to
rounded_made f made whole own o al le q a b m below bytes d h k =
    let p = open_parts f o in
    let size : ℕ = next_multiple_of f.size whole in
    let small : size ≤ 1048576 = rounded_small f.size whole p.1 al in
    let fits : own ≤ size = rw q (rounds_less f.size f.align whole p.0 al le) in
    let same : made ≡ rounded_to f whole =
    same_frame made (rounded_to f whole) a b
    (rw q at (mask_told made.free (λ at. bit_or (mask_at f.free at) (whole_between f.size own at)) size m small (below_wider own size made.free fits below) bytes))
    d (rw a at h) k in
    (subst IsLawful (sym same) (rounded_to_lawful f whole o al), same)

-- one byte more, wholly free
pub whole_none_yet : (old : List Pair) (from at : ℕ) → mask_at old at ≡ bit_or (mask_at old at) (whole_between from from at)
whole_none_yet old from at = rw (whole_none from at) (sym (or_zero (mask_at old at)))

pub pushed_below : (es out : List Pair) (at : ℕ) → are_below at es ≡ true → out ≡ es ++ (at, 255) ∷ [] → are_below (at + 1) out ≡ true
pushed_below es out at b q =
    rw q (below-append (at + 1) es ((at, 255) ∷ []) (below_wider at (at + 1) es (omega arith) b)
    (and_from (ltb at (at + 1)) true (lt-ltb at (at + 1) (omega arith)) refl))

both_whole : (from at k : ℕ) → from ≤ at → bit_or (whole_between from at k) (cond (eqb at k) 255 0) ≡ whole_between from (at + 1) k
both_whole from at k le = elim (cases_order at k) [
  | inl q ↦
      let a : whole_between from at k ≡ 0 = whole_past from at k (omega (arith, q)) in
      let b : eqb at k ≡ true = eq-eqb at k q in
      let d : whole_between from (at + 1) k ≡ 255 = whole_inside from (at + 1) k (omega (arith, q, le)) (omega (arith, q)) in
      rw (a, b, d) refl
  | inr rest ↦ elim rest [
    | inl lt ↦
        let a : whole_between from at k ≡ 0 = whole_past from at k (omega (arith, lt)) in
        let b : eqb at k ≡ false = ne_eqb at k (λ q. absurd (omega (arith, lt, q))) in
        let d : whole_between from (at + 1) k ≡ 0 = whole_past from (at + 1) k (omega (arith, lt)) in
        rw (a, b, d) refl
    | inr gt ↦
        let b : eqb at k ≡ false = ne_eqb at k (λ q. absurd (omega (arith, gt, q))) in
        rw b (or_zero (whole_between from at k) ∙ earlier from at k gt)
  ]
]
  where
    earlier : (from at k : ℕ) → k < at → whole_between from at k ≡ whole_between from (at + 1) k
    earlier from at k lt =
        let a : ltb k at ≡ true = lt-ltb k at lt in
        let b : ltb k (at + 1) ≡ true = lt-ltb k (at + 1) (omega (arith, lt)) in
        rw (a, b) refl

pub whole_more : (old es out : List Pair) (from at k : ℕ) → from ≤ at → out ≡ es ++ (at, 255) ∷ []
    → mask_at es k ≡ bit_or (mask_at old k) (whole_between from at k) → mask_at out k ≡ bit_or (mask_at old k) (whole_between from (at + 1) k)
whole_more old es out from at k le q same =
    rw q (mask_append es ((at, 255) ∷ []) k ∙ ap (λ x. bit_or x (mask_at ((at, 255) ∷ []) k)) same
    ∙ or_assoc (mask_at old k) (whole_between from at k) (mask_at ((at, 255) ∷ []) k)
    ∙ ap (bit_or (mask_at old k)) (ap (bit_or (whole_between from at k)) (or_zero (cond (eqb at k) 255 0)) ∙ both_whole from at k le))
