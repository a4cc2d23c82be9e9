-- Where no part has a fault, every part's frame keeps what the frames of layouts keep.
use Rattle.std.proofs.Common.{◌≡◌, ℕ, ◌+◌, ◌-◌, ◌*◌, ◌%◌, ◌<◌, ◌≤◌, Bool, true, false, ◌&&◌, ◌||◌, List, [], ◌∷◌, map, Option, None, cond, eqb, leb, ltb, lit<, bit_or, refl, arith}
use Rattle.std.specs.List.{list_all}
use Rattle.std.specs.Int.{next_multiple_of}
use Rattle.std.proofs.lemmas.Nat.{or_lt}
use Rattle.std.proofs.lemmas.List.{map-append}
use Rattle.std.proofs.lemmas.List.Folds.{list_all-append}
use Rattle.std.proofs.lemmas.Bool.{and_parts, and_from, le-leb, ltb-true, lt-ltb, eqb-true}
use Rattle.abi_bits.specs.Pairs.{Pair, are_rising, is_pattern, moved_pairs, are_below}
use Rattle.abi_bits.specs.Mask.{mask_at, IsMask}
use Rattle.abi_bits.specs.Forbidden.{Item, pattern, range, offer, offered, moved_item, is_solid_byte, is_solid_item}
use Rattle.abi_bits.proofs.Masks.{rising_parts}
use Rattle.abi_bits.proofs.Trees.{items_made, offer_moved}
use Rattle.abi_bits.proofs.Entries.{entries_are_mask, mask_at_lt}
use Rattle.abi_num.specs.Target.{is_row}
use Rattle.abi_num.specs.declared.target.Target.{Target}
use Rattle.abi_det.specs.Frame.{Frame, is_lawful, IsLawful, forbids}
use Rattle.abi_det.specs.Offers.{Rules}
use Rattle.abi_det.specs.Written.{written_sum}
use Rattle.abi_det.specs.SoundPlacement.{are_bytes, IsWellFormed}
use Rattle.abi_det.proofs.Chosen.{sound_sum}
use Rattle.abi_det.proofs.Lawful.{parts as lawful_parts}
use Rattle.abi_det.proofs.Sizes.{lawful_from}
use Rattle.abi_num.specs.Alignment.{is_alignment}
use Rattle.abi_bits.specs.declared.saturating_add_value.SaturatingAddValue.{SaturatingAddValue}
use Rattle.abi_bits.specs.declared.saturating_add_value.SaturatingAddValue.TheVariants as count
use Rattle.abi_layout.specs.Builders.{start_after, whole_between, byte_from, bare, overlaid, repeated}
use Rattle.abi_layout.specs.CoreSums.{payload_first, core_frame}
use Rattle.abi_layout.specs.Forms.{form_of}
use Rattle.abi_layout.specs.Leaves.{is_sized}
use Rattle.abi_layout.specs.Structs.{positions, end_of, fields_align, fields_byte, struct_frame}
use Rattle.abi_layout.specs.declared.desc.WrapKind.{WrapKind}
use Rattle.abi_layout.specs.declared.desc.WrapKind.TheVariants as wrapper
use Rattle.abi_layout.specs.declared.desc_error.DescError.TheVariants as fault
use Rattle.abi_layout.specs.declared.primitives.Row.{Row}
use Rattle.abi_layout.specs.declared.scalar.Scalar.{Scalar}
use Rattle.abi_layout.specs.declared.scalar.Scalar.TheVariants as scalars
use Rattle.abi_layout.specs.declared.scalar.Width.{Width}
use Rattle.abi_layout.specs.declared.scalar.Width.TheVariants as width
use Rattle.abi_layout.specs.Prims.{width_size, zero_bytes, scalar_items, row_frame, prim_row, pointer_row}
use Rattle.abi_layout.specs.Folds.{AreLawful}
use Rattle.abi_layout.specs.Trees as tree
use Rattle.abi_layout.specs.Trees.{Tree, Branches, Label, sides, parts, parts_in}
use Rattle.abi_layout.specs.Frames.{wrapped, written_frame, written_frames}
use Rattle.abi_layout.specs.Faults.{part_fault, part_fault_in}
use Rattle.abi_layout.proofs.Faultless.{no_fault, held, IsFaultless, own, after_one, after_two, leaf_faultless, right_request, struct_lawful}
use Rattle.abi_layout.proofs.LeafRules.{leaf_sound}
use Rattle.abi_layout.proofs.Folding.{fields_items, struct_forbids}
use Rattle.abi_layout.proofs.Opening.{solid_parts, rows_lawful, overlaid_lawful}
use Rattle.abi_layout.proofs.Rows.{row_lawful, pointer_lawful}

-- each of the frames is well-formed
abbrev pub AreWellFormed : List Frame → Type 0
AreWellFormed [] = Unit {0}
AreWellFormed (f ∷ fs) = IsWellFormed f × AreWellFormed fs

whole_small : (from to at : ℕ) → whole_between from to at < 256
whole_small from to at = by_test (leb from at && ltb at to) where
  by_test : (b : Bool) → cond b 255 0 < 256
  by_test true = lit< tt
  by_test false = lit< tt

from_small : (start : ℕ) (f : Frame) (at : ℕ) → IsMask f.free → byte_from start f at < 256
from_small start f at m = by_test (leb start at) where
  by_test : (b : Bool) → cond b (mask_at f.free (at - start)) 0 < 256
  by_test true = mask_at_lt f.free (at - start) m
  by_test false = lit< tt

fields_small : (end : ℕ) (fs : List Frame) (at : ℕ) → AreWellFormed fs → fields_byte (positions end fs) at < 256
fields_small end [] at s = lit< tt
fields_small end (f ∷ fs) at s =
    let start = start_after end f in
    or_lt 8 (bit_or (whole_between end start at) (byte_from start f at)) (fields_byte (positions (start + f.size) fs) at)
    (or_lt 8 (whole_between end start at) (byte_from start f at) (whole_small end start at) (from_small start f at s.0.mask))
    (fields_small (start + f.size) fs at s.1)

rising_moved : (by least n : ℕ) (ps : List Pair) → are_rising least ps ≡ true → are_below n (moved_pairs by ps) ≡ true → n ≤ 1048576
    → are_rising (least + by) (moved_pairs by ps) ≡ true
rising_moved by least n [] r b le = refl
rising_moved by least n (p ∷ ps) r b le =
    let rp = rising_parts least p ps r in
    let bp = and_parts (ltb (p.0 + by) n) (are_below n (moved_pairs by ps)) b in
    let rest = rising_moved by (p.0 + 1) n ps rp.2 bp.1 le in
    let next : p.0 + 1 + by ≡ p.0 + by + 1 = omega arith in
    and_from (leb (least + by) (p.0 + by) && ltb (p.0 + by) 1048576) (are_rising (p.0 + by + 1) (moved_pairs by ps))
    (and_from (leb (least + by) (p.0 + by)) (ltb (p.0 + by) 1048576) (le-leb (least + by) (p.0 + by) (omega (arith, rp.0)))
    (lt-ltb (p.0 + by) 1048576 (omega (arith, ltb-true (p.0 + by) n bp.0, le))))
    (rw next at rest)

moved_kept : (by n : ℕ) (ps : List Pair) → is_pattern ps ≡ true → are_below n (moved_pairs by ps) ≡ true → n ≤ 1048576 → is_pattern (moved_pairs by ps) ≡ true
moved_kept by n [] p b le = p
moved_kept by n (q ∷ ps) p b le = first_zero by (q ∷ ps) (rising_moved by 0 n (q ∷ ps) p b le) where
  later_zero : (from : ℕ) (qs : List Pair) → are_rising from qs ≡ true → are_rising 0 qs ≡ true
  later_zero from [] r = refl
  later_zero from (q' ∷ qs) r =
      let p' = rising_parts from q' qs r in
      and_from (leb 0 q'.0 && ltb q'.0 1048576) (are_rising (q'.0 + 1) qs)
      (and_from (leb 0 q'.0) (ltb q'.0 1048576) (le-leb 0 q'.0 (omega arith)) (lt-ltb q'.0 1048576 p'.1)) p'.2

  first_zero : (from : ℕ) (qs : List Pair) → are_rising (0 + from) (moved_pairs by qs) ≡ true → are_rising 0 (moved_pairs by qs) ≡ true
  first_zero from qs r = later_zero (0 + from) (moved_pairs by qs) r

solid_pairs : (n : ℕ) (free : List Pair) (ps : List Pair) → list_all (λ p. is_solid_byte n free p.0) ps ≡ true → are_below n ps ≡ true
solid_pairs n free [] h = refl
solid_pairs n free (p ∷ ps) h =
    let a = and_parts (is_solid_byte n free p.0) (list_all (λ q. is_solid_byte n free q.0) ps) h in
    and_from (ltb p.0 n) (are_below n ps) (lt-ltb p.0 n (solid_parts n free p.0 a.0).0) (solid_pairs n free ps a.1)

solid_below : (n : ℕ) (free : List Pair) (it : Item) → is_solid_item n free it ≡ true → are_below n (offer it) ≡ true
solid_below n free (pattern ps) h = solid_pairs n free ps h
solid_below n free (range at least greatest) h =
    let a = and_parts (is_solid_byte n free at) (ltb least greatest) h in
    and_from (ltb at n) true (lt-ltb at n (solid_parts n free at a.0).0) refl

items_kept : (by n : ℕ) (free : List Pair) (its : List Item) → list_all is_pattern (offered its) ≡ true
    → list_all (is_solid_item n free) (map (moved_item by) its) ≡ true → n ≤ 1048576 → list_all is_pattern (offered (map (moved_item by) its)) ≡ true
items_kept by n free [] p h le = refl
items_kept by n free (it ∷ its) p h le =
    let a = and_parts (is_pattern (offer it)) (list_all is_pattern (offered its)) p in
    let b = and_parts (is_solid_item n free (moved_item by it)) (list_all (is_solid_item n free) (map (moved_item by) its)) h in
    let here : is_pattern (moved_pairs by (offer it)) ≡ true =
    moved_kept by n (offer it) a.0 (rw (offer_moved by it) at (solid_below n free (moved_item by it) b.0)) le in
    and_from (is_pattern (offer (moved_item by it))) (list_all is_pattern (offered (map (moved_item by) its)))
    (rw (offer_moved by it) here) (items_kept by n free its a.1 b.1 le)

pairs_bytes : (by : ℕ) (ps : List Pair) → are_bytes ps ≡ true → are_bytes (moved_pairs by ps) ≡ true
pairs_bytes by [] b = refl
pairs_bytes by (p ∷ ps) b =
    let a = and_parts (ltb p.1 256) (are_bytes ps) b in
    and_from (ltb p.1 256) (are_bytes (moved_pairs by ps)) a.0 (pairs_bytes by ps a.1)

items_bytes : (by : ℕ) (its : List Item) → list_all are_bytes (offered its) ≡ true → list_all are_bytes (offered (map (moved_item by) its)) ≡ true
items_bytes by [] b = refl
items_bytes by (it ∷ its) b =
    let a = and_parts (are_bytes (offer it)) (list_all are_bytes (offered its)) b in
    and_from (are_bytes (offer (moved_item by it))) (list_all are_bytes (offered (map (moved_item by) its)))
    (rw (offer_moved by it) (pairs_bytes by (offer it) a.0)) (items_bytes by its a.1)

fields_bytes : (end : ℕ) (fs : List Frame) → AreWellFormed fs → list_all are_bytes (offered (fields_items (positions end fs))) ≡ true
fields_bytes end [] s = refl
fields_bytes end (f ∷ fs) s =
    let start = start_after end f in
    let own : List Item = map (moved_item start) (forbids f) in
    let more : List Item = fields_items (positions (start + f.size) fs) in
    rw (map-append offer own more, list_all-append are_bytes (offered own) (offered more))
    (and_from (list_all are_bytes (offered own)) (list_all are_bytes (offered more)) (items_bytes start (forbids f) s.0.bytes) (fields_bytes (start + f.size) fs s.1))

fields_kept : (n end : ℕ) (free : List Pair) (fs : List Frame) → AreWellFormed fs → list_all (is_solid_item n free) (fields_items (positions end fs)) ≡ true
    → n ≤ 1048576 → list_all is_pattern (offered (fields_items (positions end fs))) ≡ true
fields_kept n end free [] s h le = refl
fields_kept n end free (f ∷ fs) s h le =
    let start = start_after end f in
    let own : List Item = map (moved_item start) (forbids f) in
    let more : List Item = fields_items (positions (start + f.size) fs) in
    let a = and_parts (list_all (is_solid_item n free) own) (list_all (is_solid_item n free) more) (rw (list_all-append (is_solid_item n free) own more) at h) in
    rw (map-append offer own more, list_all-append is_pattern (offered own) (offered more))
    (and_from (list_all is_pattern (offered own)) (list_all is_pattern (offered more))
    (items_kept start n free (forbids f) s.0.patterns a.0 le) (fields_kept n (start + f.size) free fs s.1 a.1 le))

pub struct_sound : (fs : List Frame) (align : Option ℕ) → AreWellFormed fs → IsLawful (struct_frame fs align) → IsWellFormed (struct_frame fs align)
unfolding struct_frame
struct_sound fs align s l =
    let parts = lawful_parts (struct_frame fs align) l in
    let end : ℕ = end_of 0 fs in
    let bits : ℕ → ℕ = λ at. bit_or (fields_byte (positions 0 fs) at) (whole_between end (next_multiple_of end (fields_align fs)) at) in
    record {
      lawful = l;
      mask = entries_are_mask bits (struct_frame fs align).size parts.size
          (λ at. or_lt 8 (fields_byte (positions 0 fs) at) (whole_between end (next_multiple_of end (fields_align fs)) at) (fields_small 0 fs at s) (whole_small end (next_multiple_of end (fields_align fs)) at));
      patterns = rw (struct_forbids fs align) (fields_kept (struct_frame fs align).size 0 (struct_frame fs align).free fs s (rw (struct_forbids fs align) at parts.solid) parts.size);
      bytes = rw (struct_forbids fs align) (fields_bytes 0 fs s);
    }

-- the pattern of zero bytes of each width
zeros_kept : (w : Width) → (is_pattern (zero_bytes (width_size w)) ≡ true) × (are_bytes (zero_bytes (width_size w)) ≡ true)
zeros_kept width.One = (refl, refl)
zeros_kept width.Two = (refl, refl)
zeros_kept width.Four = (refl, refl)
zeros_kept width.Eight = (refl, refl)
zeros_kept width.Sixteen = (refl, refl)

-- what each offered pattern keeps, where the pattern of zero bytes keeps it
each_offered : (keeps : List Pair → Bool) (c : Scalar) → keeps ((0, 2) ∷ []) ≡ true → ((w : Width) → keeps (zero_bytes (width_size w)) ≡ true)
    → list_all keeps (offered (scalar_items c)) ≡ true
each_offered keeps scalars.Unit two zeros = refl
each_offered keeps scalars.Bool two zeros = and_from (keeps ((0, 2) ∷ [])) true two refl
each_offered keeps scalars.Order two zeros = and_from (keeps ((0, 2) ∷ [])) true two refl
each_offered keeps (scalars.Int i) two zeros = by_zero i.zero (zero_bytes (width_size i.width)) (zeros i.width) where
  by_zero : (zero : Bool) (ps : List Pair) → keeps ps ≡ true → list_all keeps (offered (cond zero [] (pattern ps ∷ []))) ≡ true
  by_zero true ps k = refl
  by_zero false ps k = and_from (keeps ps) true k refl

row_sound : (r : Row) → IsLawful (row_frame r) → IsWellFormed (row_frame r)
unfolding row_frame
row_sound r l = record {
  lawful = l;
  mask = refl;
  patterns = rw (items_made (scalar_items r.scalar)) (each_offered is_pattern r.scalar refl (λ w. (zeros_kept w).0));
  bytes = rw (items_made (scalar_items r.scalar)) (each_offered are_bytes r.scalar refl (λ w. (zeros_kept w).1));
}

-- ---- frames made of frames

bare_sound : (size align : ℕ) (niches : SaturatingAddValue) (indirections : Bool) → IsLawful (bare size align niches indirections)
    → IsWellFormed (bare size align niches indirections)
bare_sound size align niches indirections l = record { lawful = l; mask = refl; patterns = refl; bytes = refl }

bytes_sound : (size align : ℕ) (niches : SaturatingAddValue) (indirections : Bool) → is_sized size align ≡ true → size ≤ 1048576
    → IsWellFormed (bare size align niches indirections)
bytes_sound size align niches indirections sized small =
    let p = and_parts (is_alignment align) (eqb (size % align) 0) sized in
    bare_sound size align niches indirections
    (lawful_from (bare size align niches indirections) p.0 small (eqb-true (size % align) 0 p.1) refl refl)

repeated_sound : (item : Frame) (len : ℕ) → IsWellFormed item → (repeated item len).size ≤ 1048576 → IsWellFormed (repeated item len)
unfolding repeated
repeated_sound item len s small = by_len (eqb len 1) small where
  niches : SaturatingAddValue
  niches = cond (eqb len 0) count.B0 count.Saturator

  row : Frame
  row = bare (item.size * len) item.align niches item.indirections

  by_len : (one : Bool) → (cond one item row).size ≤ 1048576 → IsWellFormed (cond one item row)
  by_len true small = s
  by_len false small = bare_sound (item.size * len) item.align niches item.indirections (rows_lawful item len niches item.indirections s.lawful small)

overlaid_sound : (ok err : Frame) → IsLawful ok → IsLawful err → IsWellFormed (overlaid ok err)
unfolding overlaid
overlaid_sound ok err l m =
    bare_sound (overlaid ok err).size (overlaid ok err).align count.B0 (overlaid ok err).indirections (overlaid_lawful ok err l m)

-- as many bytes as a layout has, with nothing free or forbidden
blank_sound : (f : Frame) (niches : SaturatingAddValue) (indirections : Bool) → IsLawful f → IsWellFormed (bare f.size f.align niches indirections)
blank_sound f niches indirections l =
    let p = lawful_parts f l in
    bare_sound f.size f.align niches indirections (lawful_from (bare f.size f.align niches indirections) p.align p.size p.multiple refl refl)

core_sound : (ok err : Frame) → IsLawful ok → IsLawful err → IsWellFormed (core_frame ok err)
core_sound ok err l m = by_side (payload_first ok err) where
  by_side : (first : Bool) → IsWellFormed (bare (sides ok err first).size (sides ok err first).align count.B0 (ok.indirections || err.indirections))
  by_side true = blank_sound ok count.B0 (ok.indirections || err.indirections) l
  by_side false = blank_sound err count.B0 (ok.indirections || err.indirections) m

-- what a wrapper changes is asked of no layout
wrapped_sound : (kind : WrapKind) (f : Frame) → IsWellFormed f → IsWellFormed (wrapped kind f)
wrapped_sound wrapper.ManuallyDrop f s = s
wrapped_sound wrapper.MaybeUninit f s = record { lawful = s.lawful; mask = s.mask; patterns = s.patterns; bytes = s.bytes }
wrapped_sound wrapper.UnsafeCell f s = record { lawful = s.lawful; mask = s.mask; patterns = s.patterns; bytes = s.bytes }
wrapped_sound wrapper.Pin f s = s
wrapped_sound wrapper.NotPod f s = record { lawful = s.lawful; mask = s.mask; patterns = s.patterns; bytes = s.bytes }
wrapped_sound wrapper.OrInfallible f s = s

-- ---- all parts

all_lawful : (fs : List Frame) → AreWellFormed fs → AreLawful fs
all_lawful [] s = refl
all_lawful (f ∷ fs) s = and_from (is_lawful f) (list_all is_lawful fs) s.0.lawful (all_lawful fs s.1)

-- a struct of such frames that has no fault itself
whole_sound : (rules : Rules) (target : Target) (part : ℕ) (label : Label) (fs : Branches) (align : Option ℕ) → AreWellFormed (written_frames rules target fs)
    → IsFaultless rules target part (tree.struct label fs align) → IsWellFormed (struct_frame (written_frames rules target fs) align)
whole_sound rules target part label fs align s h =
    let frames = written_frames rules target fs in
    struct_sound frames align s (struct_lawful frames align (all_lawful frames s) (right_request part align h.form) h.small)

sum_sound : (rules : Rules) (ok err : Frame) → IsWellFormed ok → IsWellFormed err → (written_sum rules ok err).size ≤ 1048576 → IsWellFormed (written_sum rules ok err)
unfolding written_sum
sum_sound rules ok err so se small = sound_sum rules ok err so se small

mutual
  pub part_sound : (rules : Rules) (target : Target) (first : ℕ) (t : Tree) → is_row target ≡ true → part_fault rules target first t ≡ None → IsWellFormed (written_frame rules target t)
  part_sound rules target first (tree.prim p) row h = row_sound (prim_row target p) (row_lawful target (form_of p) row)
  part_sound rules target first (tree.struct label fs align) row h =
      let p = after_one (part_fault_in rules target first fs) rules target (first + parts_in fs) (tree.struct label fs align) h in
      whole_sound rules target (first + parts_in fs) label fs align (parts_sound rules target first fs row p.0) p.1
  part_sound rules target first (tree.array item len) row h =
      let p = after_one (part_fault rules target first item) rules target (first + parts item) (tree.array item len) h in
      repeated_sound (written_frame rules target item) len (part_sound rules target first item row p.0) p.1.small
  part_sound rules target first (tree.union side) row h =
      let p = after_two _ _ rules target _ (tree.union side) h in
      overlaid_sound (written_frame rules target (side true)) (written_frame rules target (side false))
      (part_sound rules target first (side true) row p.0).lawful (part_sound rules target (first + parts (side true)) (side false) row p.1).lawful
  part_sound rules target first (tree.sum names side) row h =
      let p = after_two _ _ rules target _ (tree.sum names side) h in
      sum_sound rules (written_frame rules target (side true)) (written_frame rules target (side false))
      (part_sound rules target first (side true) row p.0) (part_sound rules target (first + parts (side true)) (side false) row p.1) p.2.small
  part_sound rules target first (tree.core names side) row h =
      let p = after_two _ _ rules target _ (tree.core names side) h in
      core_sound (written_frame rules target (side true)) (written_frame rules target (side false))
      (part_sound rules target first (side true) row p.0).lawful (part_sound rules target (first + parts (side true)) (side false) row p.1).lawful
  part_sound rules target first (tree.wrap kind t) row h =
      wrapped_sound kind (written_frame rules target t)
      (part_sound rules target first t row (after_one _ rules target _ (tree.wrap kind t) h).0)
  part_sound rules target first (tree.stable_if value condition) row h =
      part_sound rules target first value row (after_two _ _ rules target _ (tree.stable_if value condition) h).0
  part_sound rules target first (tree.pointer kind t) row h = row_sound (pointer_row target kind) (pointer_lawful target kind row)
  part_sound rules target first (tree.no_niches size align niches indirections) row h =
      let p = own rules target first (tree.no_niches size align niches indirections) h in
      bytes_sound size align niches indirections (held (is_sized size align) (fault.IllFormed first) p.form) p.small
  part_sound rules target first (tree.leaf l) row h = let p = leaf_faultless rules target first l h in leaf_sound l p.0 p.1

  pub parts_sound : (rules : Rules) (target : Target) (first : ℕ) (fs : Branches) → is_row target ≡ true → part_fault_in rules target first fs ≡ None
      → AreWellFormed (written_frames rules target fs)
  parts_sound rules target first tree.none row h = tt
  parts_sound rules target first (tree.field name t fs) row h =
      let a = no_fault (part_fault rules target first t) (part_fault_in rules target (first + parts t) fs) h in
      (part_sound rules target first t row a.0, parts_sound rules target (first + parts t) fs row a.1)

pub parts_lawful : (rules : Rules) (target : Target) (first : ℕ) (fs : Branches) → is_row target ≡ true → part_fault_in rules target first fs ≡ None
    → AreLawful (written_frames rules target fs)
parts_lawful rules target first fs row h = all_lawful (written_frames rules target fs) (parts_sound rules target first fs row h)
