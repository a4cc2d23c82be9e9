-- What fields put together keep before they are closed, and that closing them gives a lawful frame.
use Rattle.std.proofs.Common.{◌≡◌, ℕ, ◌+◌, ◌-◌, ◌*◌, ◌/◌, ◌%◌, ◌<◌, ◌≤◌, max, map, subst, sym, Bool, true, false, ◌&&◌, ◌||◌, List, [], ◌∷◌, cond, eqb, ltb, leb, bit_or, refl, ap, ◌∙◌, inl, inr, arith}
use Rattle.std.specs.Int.{next_multiple_of}
use Rattle.std.specs.List.{list_all}
use Rattle.std.proofs.lemmas.Bool.{and_parts, and_from, ltb-true, leb-true, lt-ltb, le-leb, ne_eqb, eqb-true, eq-eqb, cases_Bool}
use Rattle.std.proofs.lemmas.List.Folds.{list_all-append}
use Rattle.std.proofs.Math.Nat.{mul-mod_right, mul_assoc, div-add-mod}
use Rattle.abi_num.specs.Alignment.{is_alignment, IsAlignment}
use Rattle.abi_bits.specs.Pairs.{Pair, moved_pairs, are_below}
use Rattle.abi_bits.specs.Mask.{mask_at, entries_below}
use Rattle.abi_bits.specs.Forbidden.{Item, pattern, range, moved_item, is_solid_byte, is_solid_item}
use Rattle.abi_bits.specs.declared.saturating_add_value.SaturatingAddValue.{SaturatingAddValue}
use Rattle.abi_bits.specs.declared.saturating_add_value.SaturatingAddValue.TheVariants as count
use Rattle.abi_bits.proofs.Entries.{entries_at, zero_past, entries_lie_below}
use Rattle.abi_bits.proofs.Trees.{items_moved}
use Rattle.abi_det.specs.Frame.{Frame, IsLawful, forbids}
use Rattle.abi_det.proofs.Lawful.{parts as lawful_parts}
use Rattle.abi_det.proofs.Sizes.{lawful_from, alignment_positive, alignment_max, rounded, rounded_small}
use Rattle.abi_layout.specs.Builders.{rounded_to, start_after, whole_between, byte_from, IsOpen, pair, closed, closed_at, bare, overlaid, repeated}
use Rattle.abi_layout.proofs.Bytes.{whole_before, whole_past, byte_before, byte_inside}

pub open_parts : (f : Frame) → IsOpen f → IsAlignment f.align × (f.size ≤ 1048576) × (are_below f.size f.free ≡ true)
    × (list_all (is_solid_item f.size f.free) (forbids f) ≡ true)
open_parts f o =
    let a = is_alignment f.align in
    let b = leb f.size 1048576 in
    let c = are_below f.size f.free in
    let d = list_all (is_solid_item f.size f.free) (forbids f) in
    let abc = and_parts (a && b && c) d o in
    let ab = and_parts (a && b) c abc.0 in
    let aa = and_parts a b ab.0 in
    (aa.0, leb-true f.size 1048576 aa.1, ab.1, abc.1)

pub open_from : (f : Frame) → IsAlignment f.align → f.size ≤ 1048576 → are_below f.size f.free ≡ true
    → list_all (is_solid_item f.size f.free) (forbids f) ≡ true → IsOpen f
open_from f aligned small below solid =
    let a = is_alignment f.align in
    let b = leb f.size 1048576 in
    let c = are_below f.size f.free in
    let d = list_all (is_solid_item f.size f.free) (forbids f) in
    and_from (a && b && c) d (and_from (a && b) c (and_from a b aligned (le-leb f.size 1048576 small)) below) solid

pub lawful_is_open : (f : Frame) → IsLawful f → IsOpen f
lawful_is_open f l = let p = lawful_parts f l in open_from f p.align p.size p.free p.solid

-- a byte that is solid lies below the size and has no free bit
pub solid_parts : (size : ℕ) (free : List Pair) (at : ℕ) → is_solid_byte size free at ≡ true → (at < size) × (mask_at free at ≡ 0)
solid_parts size free at s =
    let p = and_parts (ltb at size) (eqb (mask_at free at) 0) s in
    (ltb-true at size p.0, eqb-true (mask_at free at) 0 p.1)

solid_from : (size : ℕ) (free : List Pair) (at : ℕ) → at < size → mask_at free at ≡ 0 → is_solid_byte size free at ≡ true
solid_from size free at lt none = and_from (ltb at size) (eqb (mask_at free at) 0) (lt-ltb at size lt) (eq-eqb (mask_at free at) 0 none)

-- what holds of each solid byte, moved, holds of each solid item
solid_pairs : (size wide by : ℕ) (free more : List Pair) → ((at : ℕ) → is_solid_byte size free at ≡ true → is_solid_byte wide more (at + by) ≡ true)
    → (ps : List Pair) → list_all (λ p. is_solid_byte size free p.0) ps ≡ true → list_all (λ p. is_solid_byte wide more p.0) (moved_pairs by ps) ≡ true
solid_pairs size wide by free more keeps [] s = refl
solid_pairs size wide by free more keeps (p ∷ ps) s =
    let q = and_parts (is_solid_byte size free p.0) (list_all (λ p. is_solid_byte size free p.0) ps) s in
    and_from (is_solid_byte wide more (p.0 + by)) (list_all (λ p. is_solid_byte wide more p.0) (moved_pairs by ps)) (keeps p.0 q.0)
    (solid_pairs size wide by free more keeps ps q.1)

solid_item : (size wide by : ℕ) (free more : List Pair) → ((at : ℕ) → is_solid_byte size free at ≡ true → is_solid_byte wide more (at + by) ≡ true)
    → (it : Item) → is_solid_item size free it ≡ true → is_solid_item wide more (moved_item by it) ≡ true
solid_item size wide by free more keeps (pattern ps) s = solid_pairs size wide by free more keeps ps s
solid_item size wide by free more keeps (range at least greatest) s =
    let q = and_parts (is_solid_byte size free at) (ltb least greatest) s in
    and_from (is_solid_byte wide more (at + by)) (ltb least greatest) (keeps at q.0) q.1

pub solid_moved : (size wide by : ℕ) (free more : List Pair) → ((at : ℕ) → is_solid_byte size free at ≡ true → is_solid_byte wide more (at + by) ≡ true)
    → (its : List Item) → list_all (is_solid_item size free) its ≡ true → list_all (is_solid_item wide more) (map (moved_item by) its) ≡ true
solid_moved size wide by free more keeps [] s = refl
solid_moved size wide by free more keeps (it ∷ its) s =
    let q = and_parts (is_solid_item size free it) (list_all (is_solid_item size free) its) s in
    and_from (is_solid_item wide more (moved_item by it)) (list_all (is_solid_item wide more) (map (moved_item by) its))
    (solid_item size wide by free more keeps it q.0) (solid_moved size wide by free more keeps its q.1)

-- the same where nothing moves
solid_same : (size wide : ℕ) (free more : List Pair) → ((at : ℕ) → is_solid_byte size free at ≡ true → is_solid_byte wide more at ≡ true)
    → (ps : List Pair) → list_all (λ p. is_solid_byte size free p.0) ps ≡ true → list_all (λ p. is_solid_byte wide more p.0) ps ≡ true
solid_same size wide free more keeps [] s = refl
solid_same size wide free more keeps (p ∷ ps) s =
    let q = and_parts (is_solid_byte size free p.0) (list_all (λ p. is_solid_byte size free p.0) ps) s in
    and_from (is_solid_byte wide more p.0) (list_all (λ p. is_solid_byte wide more p.0) ps) (keeps p.0 q.0) (solid_same size wide free more keeps ps q.1)

solid_still : (size wide : ℕ) (free more : List Pair) → ((at : ℕ) → is_solid_byte size free at ≡ true → is_solid_byte wide more at ≡ true)
    → (it : Item) → is_solid_item size free it ≡ true → is_solid_item wide more it ≡ true
solid_still size wide free more keeps (pattern ps) s = solid_same size wide free more keeps ps s
solid_still size wide free more keeps (range at least greatest) s =
    let q = and_parts (is_solid_byte size free at) (ltb least greatest) s in
    and_from (is_solid_byte wide more at) (ltb least greatest) (keeps at q.0) q.1

pub solid_kept : (size wide : ℕ) (free more : List Pair) → ((at : ℕ) → is_solid_byte size free at ≡ true → is_solid_byte wide more at ≡ true)
    → (its : List Item) → list_all (is_solid_item size free) its ≡ true → list_all (is_solid_item wide more) its ≡ true
solid_kept size wide free more keeps [] s = refl
solid_kept size wide free more keeps (it ∷ its) s =
    let q = and_parts (is_solid_item size free it) (list_all (is_solid_item size free) its) s in
    and_from (is_solid_item wide more it) (list_all (is_solid_item wide more) its) (solid_still size wide free more keeps it q.0) (solid_kept size wide free more keeps its q.1)

-- a byte with no bit told has none
none_told : (bits : ℕ → ℕ) (n at : ℕ) → bits at ≡ 0 → mask_at (entries_below bits n) at ≡ 0
none_told bits n at none = entries_at bits n at ∙ elim (cases_Bool (ltb at n)) [ inl e ↦ rw e none | inr e ↦ rw e refl ]

pub pair_open : (a b : Frame) → IsOpen a → IsLawful b → start_after a.size b + b.size ≤ 1048576 → IsOpen (pair a b)
unfolding pair
pair_open a b o l small =
    let start : ℕ = start_after a.size b in
    let bits : ℕ → ℕ = λ at. bit_or (mask_at a.free at) (bit_or (whole_between a.size start at) (byte_from start b at)) in
    let pa = open_parts a o in
    let pb = lawful_parts b l in
    let mine = solid_kept a.size (start + b.size) a.free (entries_below bits (start + b.size)) (λ at s.
    let q = solid_parts a.size a.free at s in
    let w : whole_between a.size start at ≡ 0 = whole_before a.size start at q.0 in
    let y : byte_from start b at ≡ 0 = byte_before start b at (omega (arith, q.0)) in
    let z : bits at ≡ 0 = rw (q.1, w, y) refl in
    solid_from (start + b.size) (entries_below bits (start + b.size)) at (omega (arith, q.0)) (none_told bits (start + b.size) at z)) (forbids a) pa.3 in
    let theirs = solid_moved b.size (start + b.size) start b.free (entries_below bits (start + b.size)) (λ at s.
    let q = solid_parts b.size b.free at s in
    let x : mask_at a.free (at + start) ≡ 0 = zero_past a.free a.size (at + start) pa.2 (omega arith) in
    let w : whole_between a.size start (at + start) ≡ 0 = whole_past a.size start (at + start) (omega arith) in
    let e : (at + start) - start ≡ at = omega arith in
    let y : byte_from start b (at + start) ≡ 0 = byte_inside start b (at + start) (omega arith) ∙ ap (mask_at b.free) e ∙ q.1 in
    let z : bits (at + start) ≡ 0 = rw (x, w, y) refl in
    solid_from (start + b.size) (entries_below bits (start + b.size)) (at + start) (omega (arith, q.0)) (none_told bits (start + b.size) (at + start) z)) (forbids b) pb.solid in
    open_from (pair a b) (alignment_max a.align b.align pa.0 pb.align) small (entries_lie_below bits (start + b.size))
    (let s = list_all-append (is_solid_item (start + b.size) (entries_below bits (start + b.size))) (forbids a) (map (moved_item start) (forbids b)) in
    rw (items_moved start b.forbidden, s) (and_from (list_all (is_solid_item (start + b.size) (entries_below bits (start + b.size))) (forbids a))
    (list_all (is_solid_item (start + b.size) (entries_below bits (start + b.size))) (map (moved_item start) (forbids b))) mine theirs))

-- what a pair makes is open too
pub pair_opens : (a b made : Frame) → made ≡ pair a b → IsOpen a → IsLawful b → start_after a.size b + b.size ≤ 1048576 → IsOpen made
pair_opens a b made same o l small = subst IsOpen (sym same) (pair_open a b o l small)

pub rounded_to_lawful : (f : Frame) (whole : ℕ) → IsOpen f → IsAlignment whole → IsLawful (rounded_to f whole)
unfolding rounded_to
rounded_to_lawful f whole o a =
    let p = open_parts f o in
    let r = rounded f.size whole (alignment_positive whole a) in
    let size : ℕ = next_multiple_of f.size whole in
    let own : ℕ = next_multiple_of f.size f.align in
    let bits : ℕ → ℕ = λ at. bit_or (mask_at f.free at) (whole_between f.size own at) in
    lawful_from (rounded_to f whole) a (rounded_small f.size whole p.1 a) r.2 (entries_lie_below bits size)
    (solid_kept f.size size f.free (entries_below bits size) (λ at s.
    let q = solid_parts f.size f.free at s in
    let w : whole_between f.size own at ≡ 0 = whole_before f.size own at q.0 in
    let z : bits at ≡ 0 = rw (q.1, w) refl in
    solid_from size (entries_below bits size) at (omega (arith, q.0, r.0)) (none_told bits size at z)) (forbids f) p.3)

pub closed_lawful : (f : Frame) → IsOpen f → IsLawful (closed f)
closed_lawful f o = rounded_to_lawful f f.align o (open_parts f o).0

pub closed_at_lawful : (f : Frame) (align : ℕ) → IsOpen f → IsAlignment align → IsLawful (closed_at f align)
closed_at_lawful f align o a = rounded_to_lawful f (max f.align align) o (alignment_max f.align align (open_parts f o).0 a)

pub overlaid_lawful : (a b : Frame) → IsLawful a → IsLawful b → IsLawful (overlaid a b)
unfolding overlaid
overlaid_lawful a b l m =
    let p = lawful_parts a l in
    let q = lawful_parts b m in
    let whole : IsAlignment (max a.align b.align) = alignment_max a.align b.align p.align q.align in
    let r = rounded (max a.size b.size) (max a.align b.align) (alignment_positive (max a.align b.align) whole) in
    lawful_from (overlaid a b) whole (rounded_small (max a.size b.size) (max a.align b.align) (omega (arith, p.size, q.size)) whole) r.2 refl refl

-- a union made of its parts
pub overlaid_made : (a b : Frame) (size align : ℕ) (indirections : Bool) → IsLawful a → IsLawful b → align ≡ max a.align b.align
    → size ≡ next_multiple_of (max a.size b.size) align → indirections ≡ (a.indirections || b.indirections)
    → IsLawful (bare size align count.B0 indirections) × (bare size align count.B0 indirections ≡ overlaid a b)
unfolding overlaid
overlaid_made a b size align indirections l m e f g =
    let same : bare size align count.B0 indirections ≡ overlaid a b = rw (f, e, g) refl in
    (subst IsLawful (sym same) (overlaid_lawful a b l m), same)

whole_rows : (size align len : ℕ) → size % align ≡ 0 → (size * len) % align ≡ 0
whole_rows size align len whole =
    let q : ℕ = size / align in
    let e : size ≡ align * q = omega (arith, div-add-mod size align) in
    let f : size * len ≡ align * (q * len) = ap (λ n. n * len) e ∙ mul_assoc align q len in
    rw f (mul-mod_right align (q * len))

-- several in a row have nothing of their own
pub rows_lawful : (item : Frame) (len : ℕ) (niches : SaturatingAddValue) (indirections : Bool) → IsLawful item → item.size * len ≤ 1048576
    → IsLawful (bare (item.size * len) item.align niches indirections)
rows_lawful item len niches indirections l small =
    let p = lawful_parts item l in
    lawful_from (bare (item.size * len) item.align niches indirections) p.align small (whole_rows item.size item.align len p.multiple) refl refl

-- one alone
pub one_alone : (item made : Frame) (len : ℕ) → len ≡ 1 → made ≡ item → made ≡ repeated item len
unfolding repeated
one_alone item made len one same = let e : eqb len 1 ≡ true = eq-eqb len 1 one in rw e same

-- none, or more than one
pub several : (item : Frame) (len size align : ℕ) (niches : SaturatingAddValue) (indirections : Bool) → IsLawful item → item.size * len ≤ 1048576
    → (len ≡ 1 → ⊥) → size ≡ item.size * len → align ≡ item.align → niches ≡ cond (eqb len 0) count.B0 count.Saturator → indirections ≡ item.indirections
    → IsLawful (bare size align niches indirections) × (bare size align niches indirections ≡ repeated item len)
unfolding repeated
several item len size align niches indirections l small many a b d e =
    let n : eqb len 1 ≡ false = ne_eqb len 1 many in (
      rw (a, b) (rows_lawful item len niches indirections l small),
      rw (n, a, b, d, e) refl,
    )
