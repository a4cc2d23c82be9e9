-- The rules of a leaf's form, as they are tested, and what they tell of its layout.
use Rattle.std.proofs.Common.{◌≡◌, ℕ, ◌+◌, ◌%◌, ◌<◌, ◌≤◌, Bool, true, false, not, ◌&&◌, List, [], ◌∷◌, Some, length, eqb, leb, ltb, map, refl, sym, ◌∙◌, subst, arith, rules}
use Rattle.std.specs.List.{list_all}
use Rattle.std.proofs.lemmas.Bool.{and_parts, and_from, and_right, le-leb, ltb-true, lt-ltb, eqb-true}
use Rattle.abi_num.specs.Alignment.{is_alignment}
use Rattle.abi_bits.specs.Pairs.{Pair, are_bytes, are_rising, are_below, is_empty, is_pattern}
use Rattle.abi_bits.specs.Mask as masks
use Rattle.abi_bits.specs.Forbidden.{Item, pattern, range, nothing, tree, tree_of, offer, offered, is_solid_byte, is_solid_item}
use Rattle.abi_bits.specs.declared.forbidden_values.ForbiddenValues.{the_lemmas}
use Rattle.abi_bits.specs.declared.forbidden_values.ForbiddenValues.TheVariants as forbidden
use Rattle.abi_bits.specs.Mask.{IsMask}
use Rattle.abi_det.specs.Frame.{Frame, IsLawful}
use Rattle.abi_bits.proofs.Trees.{items_made}
use Rattle.abi_det.specs.SoundPlacement.{IsWellFormed}
use Rattle.abi_det.proofs.Sizes.{lawful_from}
use Rattle.abi_layout.specs.Faults.{leaf_fault}
use Rattle.abi_layout.specs.declared.desc_error.DescError.TheVariants as fault
use Rattle.abi_layout.specs.Leaves.{is_sized, rise, have_bits, is_item, is_byte_item, is_in_bytes, is_leaf, leaf_frame}
use Rattle.abi_layout.specs.Trees.{leaf_items, item_of}
use Rattle.abi_layout.specs.declared.desc.Forbid.{Forbid}
use Rattle.abi_layout.specs.declared.desc.LeafDesc.{LeafDesc}
use Rattle.abi_layout.proofs.Folding.{same_frame}
use Rattle.abi_layout.proofs.Opening.{solid_parts}

and_one : (a : Bool) → a ≡ (a && true)
and_one true = refl
and_one false = refl

-- tests that are joined otherwise
regroup : (sized rises free bits few item value solid : Bool)
    → (sized && (rises && free) && bits && few && (item && value) && solid) ≡ (sized && rises && bits && few && item && solid && (free && value))
regroup false rises free bits few item value solid = refl
regroup true false free bits few item value solid = refl
regroup true true false bits few item value solid = sym (and_right (bits && few && item && solid) false refl)
regroup true true true false few item value solid = refl
regroup true true true true false item value solid = refl
regroup true true true true true false value solid = refl
regroup true true true true true true false solid = sym (and_right solid false refl)
regroup true true true true true true true solid = and_one solid

both_all : (n : ℕ) (its : List Item) → list_all (is_byte_item n) its ≡ (list_all (is_item n) its && list_all are_bytes (offered its))
both_all n [] = refl
both_all n (it ∷ its) = let rest = both_all n its in rw rest (pairs (is_item n it) (are_bytes (offer it)) (list_all (is_item n) its) (list_all are_bytes (offered its)))
  where
    pairs : (a b c d : Bool) → (a && b && (c && d)) ≡ (a && c && (b && d))
    pairs false b c d = refl
    pairs true true c d = refl
    pairs true false c d = sym (and_right c false refl)

-- a leaf by its tests
pub leaf_tests : (l : LeafDesc) → is_leaf l
    ≡ (is_sized l.size l.align && (rise l.size 0 l.free && are_bytes l.free) && have_bits l.free && leb (length l.forbidden) 256
    && list_all (is_byte_item l.size) (leaf_items l) && list_all (is_solid_item l.size l.free) (leaf_items l))
leaf_tests l =
    rw (both_all l.size (leaf_items l))
    (sym (regroup (is_sized l.size l.align) (rise l.size 0 l.free) (are_bytes l.free) (have_bits l.free) (leb (length l.forbidden) 256)
    (list_all (is_item l.size) (leaf_items l)) (list_all are_bytes (offered (leaf_items l))) (list_all (is_solid_item l.size l.free) (leaf_items l))))

-- what passed all tests but the last is as solid as its items
pub as_solid : (l : LeafDesc) (free : List Pair) (forbidden : List Forbid) (solid : Bool) → free ≡ l.free → forbidden ≡ l.forbidden
    → is_sized l.size l.align ≡ true → (rise l.size 0 free && are_bytes free) ≡ true → have_bits free ≡ true → length forbidden ≤ 256
    → list_all (is_byte_item l.size) (map item_of forbidden) ≡ true → solid ≡ list_all (is_solid_item l.size free) (map item_of forbidden)
    → solid ≡ is_leaf l
as_solid l free forbidden solid ef eb sized rises bits few items s =
    let f = rw ef at rises in
    let b = rw ef at bits in
    let n = le-leb (length l.forbidden) 256 (rw eb at few) in
    let i = rw eb at items in
    let passed : is_leaf l ≡ list_all (is_solid_item l.size l.free) (leaf_items l) = leaf_tests l ∙ rw (sized, f, b, n, i) refl in
    rw (ef, eb) at s ∙ sym passed

-- ---- what they tell of the layout

-- offsets that rise below a size up to the greatest one
rising_below : (n least : ℕ) (ps : List Pair) → n ≤ 1048576 → rise n least ps ≡ true → (are_rising least ps ≡ true) × (are_below n ps ≡ true)
rising_below n least [] small h = (refl, refl)
rising_below n least (p ∷ ps) small h =
    let a = and_parts (leb least p.0 && ltb p.0 n) (rise n (p.0 + 1) ps) h in
    let b = and_parts (leb least p.0) (ltb p.0 n) a.0 in
    let rest = rising_below n (p.0 + 1) ps small a.1 in
    let lt : ltb p.0 1048576 ≡ true = lt-ltb p.0 1048576 (omega (arith, ltb-true p.0 n b.1, small)) in (
      and_from (leb least p.0 && ltb p.0 1048576) (are_rising (p.0 + 1) ps) (and_from (leb least p.0) (ltb p.0 1048576) b.0 lt) rest.0,
      and_from (ltb p.0 n) (are_below n ps) b.1 rest.1,
    )

mask_entries : (es : List Pair) → have_bits es ≡ true → are_bytes es ≡ true → masks.have_bits es ≡ true
mask_entries [] some bytes = refl
mask_entries (e ∷ es) some bytes =
    let a = and_parts (ltb 0 e.1) (have_bits es) some in
    let b = and_parts (ltb e.1 256) (are_bytes es) bytes in
    and_from (ltb 0 e.1 && ltb e.1 256) (masks.have_bits es) (and_from (ltb 0 e.1) (ltb e.1 256) a.0 b.0) (mask_entries es a.1 b.1)

item_offers : (n : ℕ) (free : List Pair) (it : Item) → n ≤ 1048576 → is_item n it ≡ true → is_solid_item n free it ≡ true → is_pattern (offer it) ≡ true
item_offers n free (pattern ps) small h solid =
    let a = and_parts (not (is_empty ps)) (rise n 0 ps) h in
    and_from (not (is_empty ps)) (are_rising 0 ps) a.0 (rising_below n 0 ps small a.1).0
item_offers n free (range at least greatest) small h solid =
    let a = and_parts (is_solid_byte n free at) (ltb least greatest) solid in
    let lt : ltb at 1048576 ≡ true = lt-ltb at 1048576 (omega (arith, (solid_parts n free at a.0).0, small)) in
    and_from (leb 0 at && ltb at 1048576) true (and_from (leb 0 at) (ltb at 1048576) (le-leb 0 at (omega arith)) lt) refl

items_offer : (n : ℕ) (free : List Pair) (its : List Item) → n ≤ 1048576 → list_all (is_item n) its ≡ true → list_all (is_solid_item n free) its ≡ true
    → list_all is_pattern (offered its) ≡ true
items_offer n free [] small h solid = refl
items_offer n free (it ∷ its) small h solid =
    let a = and_parts (is_item n it) (list_all (is_item n) its) h in
    let b = and_parts (is_solid_item n free it) (list_all (is_solid_item n free) its) solid in
    and_from (is_pattern (offer it)) (list_all is_pattern (offered its)) (item_offers n free it small a.0 b.0) (items_offer n free its small a.1 b.1)

pub leaf_sound : (l : LeafDesc) → is_leaf l ≡ true → l.size ≤ 1048576 → IsWellFormed (leaf_frame l)
unfolding leaf_frame
leaf_sound l h small =
    let its : List Item = leaf_items l in
    let a : Bool = is_sized l.size l.align in
    let b : Bool = rise l.size 0 l.free in
    let c : Bool = have_bits l.free in
    let d : Bool = leb (length l.forbidden) 256 in
    let e : Bool = list_all (is_item l.size) its in
    let f : Bool = list_all (is_solid_item l.size l.free) its in
    let bytes = and_parts (a && b && c && d && e && f) (is_in_bytes l) h in
    let solid = and_parts (a && b && c && d && e) f bytes.0 in
    let items = and_parts (a && b && c && d) e solid.0 in
    let bits = and_parts (a && b) c (and_parts (a && b && c) d items.0).0 in
    let rising = and_parts a b bits.0 in
    let sized = and_parts (is_alignment l.align) (eqb (l.size % l.align) 0) rising.0 in
    let entries = rising_below l.size 0 l.free small rising.1 in
    let of_bytes = and_parts (are_bytes l.free) (list_all are_bytes (offered its)) bytes.1 in
    record {
      lawful = lawful_from (leaf_frame l) sized.0 small (eqb-true (l.size % l.align) 0 sized.1) entries.1 (rw (items_made its) solid.1);
      mask = and_from (are_rising 0 l.free) (masks.have_bits l.free) entries.0 (mask_entries l.free bits.1 of_bytes.0);
      patterns = rw (items_made its) (items_offer l.size l.free its small items.1 solid.1);
      bytes = rw (items_made its) of_bytes.1;
    }

pub leaf_mask : (l : LeafDesc) (es : List Pair) → is_leaf l ≡ true → l.size ≤ 1048576 → es ≡ l.free → IsMask es
unfolding leaf_frame
leaf_mask l es h small e = rw e (leaf_sound l h small).mask

pub leaf_patterns : (l : LeafDesc) (forbidden : List Forbid) → is_leaf l ≡ true → l.size ≤ 1048576 → forbidden ≡ l.forbidden
    → list_all is_pattern (offered (map item_of forbidden)) ≡ true
unfolding leaf_frame
leaf_patterns l forbidden h small e = rw e (rw (items_made (leaf_items l)) at (leaf_sound l h small).patterns)

-- a frame made of a leaf's parts
pub leaf_made : (l : LeafDesc) (made : Frame) → is_leaf l ≡ true → l.size ≤ 1048576 → made.size ≡ l.size → made.align ≡ l.align → made.free ≡ l.free
    → made.forbidden ≡ tree_of (leaf_items l) → made.niches ≡ l.niches → made.indirections ≡ l.indirections
    → IsLawful made × (made ≡ leaf_frame l)
unfolding leaf_frame
leaf_made l made h small a b c d e f =
    let same : made ≡ leaf_frame l = same_frame made (leaf_frame l) a b c d e f in (subst IsLawful (sym same) (leaf_sound l h small).lawful, same)

-- the first item and the others, where there is one
pub first_pattern : (l : LeafDesc) (all others : List Forbid) (first : Forbid) → is_leaf l ≡ true → l.size ≤ 1048576 → all ≡ l.forbidden → all ≡ first ∷ others
    → is_pattern (offer (item_of first)) ≡ true
first_pattern l all others first h small e q =
    (and_parts (is_pattern (offer (item_of first))) (list_all is_pattern (offered (map item_of others))) (rw q at (leaf_patterns l all h small e))).0

pub other_patterns : (l : LeafDesc) (all others : List Forbid) (first : Forbid) → is_leaf l ≡ true → l.size ≤ 1048576 → all ≡ l.forbidden → all ≡ first ∷ others
    → list_all is_pattern (offered (map item_of others)) ≡ true
other_patterns l all others first h small e q =
    (and_parts (is_pattern (offer (item_of first))) (list_all is_pattern (offered (map item_of others))) (rw q at (leaf_patterns l all h small e))).1

pub no_items : (l : LeafDesc) (all : List Forbid) → all ≡ l.forbidden → length all ≡ 0 → leaf_items l ≡ []
no_items l [] e z = rw (← e) refl
no_items l (it ∷ its) e z = absurd (omega (arith, z))

pub nothing_tree : tree forbidden.End ≡ nothing
nothing_tree = search (rules, the_lemmas)

-- too large
pub leaf_large : (part : ℕ) (l : LeafDesc) → is_leaf l ≡ true → 1048576 < l.size → leaf_fault part l ≡ Some (fault.TooLarge part)
unfolding leaf_frame
leaf_large part l h large = let e = lt-ltb 1048576 l.size large in rw (h, e) refl
