-- The plan of a description without a fault is consistent, and covers the written frame: no value holds a free bit of the frame,
-- and bytes that show a value match none of its items.
use Rattle.std.specs.List.{list_all, list_any}
use Rattle.std.specs.Int.{bit_at, next_multiple_of}
use Rattle.std.proofs.Common.{◌≡◌, ℕ, zero, suc, ◌+◌, ◌-◌, ◌*◌, ◌<◌, ◌≤◌, max, Bool, true, false, ◌&&◌, ◌||◌, not, List, [], ◌∷◌, ◌++◌, map, Option, None, cond, eqb, ltb, bit_or, refl, sym, ap, subst, ◌∙◌, ◌⊎◌, inl, inr, arith}
use Rattle.std.proofs.lemmas.Bool.{cases_lt, lt-ltb, le-ltb, eqb-true, and_parts}
use Rattle.std.proofs.lemmas.Bool.Decides.{nat_tests}
use Rattle.std.proofs.lemmas.Nat.Bits.{bit_at_or, bit_at-zero, bit_at-lt}
use Rattle.std.proofs.lemmas.List.Folds.{list_any-append}
use Rattle.abi_num.specs.Target.{is_row}
use Rattle.abi_num.specs.declared.target.Target.{Target}
use Rattle.abi_bits.specs.Pairs.{Pair, is_matched, moved_pairs, is_pattern, are_bytes}
use Rattle.abi_bits.specs.Mask.{mask_at, entries_below}
use Rattle.abi_bits.specs.Forbidden.{Item, pattern, range, is_match, moved_item, is_solid_item}
use Rattle.abi_bits.proofs.Trees.{items_made}
use Rattle.abi_bits.proofs.Entries.{entries_at, zero_past}
use Rattle.abi_bits.proofs.Masks.{zero_or, or_zero}
use Rattle.abi_det.specs.Frame.{Frame, forbids}
use Rattle.abi_det.specs.Offers.{Rules}
use Rattle.abi_det.specs.SoundPlacement as placements
use Rattle.abi_det.specs.Roles.{union_size}
use Rattle.abi_det.specs.State.{is_tested}
use Rattle.abi_det.specs.declared.determinant.Test.TheVariants as test
use Rattle.abi_det.specs.Written.{written_placement, written_sum}
use Rattle.abi_det.specs.declared.placements.Placement.{Placement}
use Rattle.abi_det.proofs.SoundPlacements.{placements_sound}
use Rattle.abi_det.proofs.Lawful.{parts as lawful_parts, bytes_in}
use Rattle.abi_layout.specs.Builders.{start_after, whole_between, byte_from, overlaid}
use Rattle.abi_layout.specs.Builders as builders
use Rattle.abi_layout.specs.CoreSums.{is_empty, is_one, sole_pattern, is_sole_pattern, payload_first, payload, absence, is_core_sum, core_frame}
use Rattle.abi_layout.specs.Faults.{part_fault, part_fault_in}
use Rattle.abi_layout.specs.Frames.{written_frame, written_frames, wrapped}
use Rattle.abi_layout.specs.Leaves.{leaf_frame}
use Rattle.abi_layout.specs.Plans.{shape_of, shapes_of, sum_layout_of, core_layout}
use Rattle.abi_layout.specs.Prims.{prim_row, pointer_row, row_frame, scalar_items}
use Rattle.abi_layout.specs.Shape.{Shape, atom, scalar, raw, fields, sum, last, field, repeated, size, size_in}
use Rattle.abi_layout.specs.Structs.{positions, end_of, fields_align, fields_byte, struct_frame}
use Rattle.abi_layout.specs.Trees as trees
use Rattle.abi_layout.specs.Trees.{Tree, Branches, Label, sides, leaf_items, parts, parts_in}
use Rattle.abi_layout.specs.declared.desc.LeafDesc.{LeafDesc}
use Rattle.abi_layout.specs.declared.desc.WrapKind.{WrapKind}
use Rattle.abi_layout.specs.declared.desc.WrapKind.TheVariants as wrapper
use Rattle.abi_layout.specs.declared.part.Compound.TheVariants as compound
use Rattle.abi_layout.specs.declared.part.Sort.{Sort}
use Rattle.abi_layout.specs.declared.part.SumLayout.{SumLayout}
use Rattle.abi_layout.specs.declared.primitives.Row.{Row}
use Rattle.abi_layout.proofs.Folding.{fields_items, items_in_fields}
use Rattle.abi_layout.proofs.Bytes.{whole_past, whole_before, byte_inside, byte_before}
use Rattle.abi_layout.proofs.Faultless.{no_fault, after_one, after_two, core_faultless, struct_end}
use Rattle.abi_layout.proofs.Repeating.{repeated_size}
use Rattle.abi_layout.proofs.Sounding.{part_sound}
use Rattle.abi_pack.specs.ByteMap.{ByteMap, has, seen_from}
use Rattle.abi_pack.specs.Plain.{Plain, Plains, unit, integer, boolean, order, bytes, list, variant, end, more}
use Rattle.abi_pack.specs.Shows.{Shows, ShowIn, holds, holds_in, start_of, sign_of}
use Rattle.abi_pack.specs.Consistent.{IsConsistent, AreConsistent, IsSide}
use Rattle.abi_pack.specs.Variants.{truth_of, held_at}
use Rattle.abi_pack.proofs.Choice.{in_gap, in_field, behind_field, three_places, neither, neither_first, and_no}
use Rattle.abi_pack.proofs.Atoms.{atom_allowed}
use Rattle.abi_pack.proofs.TreeValues.{after_end, same_size, moved, from_zero}

pub record Covers (f : Frame) (s : Shape) : Type 0 where
  pub free : (v : Plain) (i k : ℕ) → k < 8 → has f.free i k ≡ true → holds s v i k ≡ false
  pub items : (v : Plain) (g : ByteMap) → Shows s v g → list_any (is_match g) (forbids f) ≡ false

-- ---- bits of bytes

max_bit : (x y : ℕ) → x < 2 → y < 2 → eqb (max x y) 1 ≡ (eqb x 1 || eqb y 1)
max_bit x y a b = elim (cases_lt x 1) [
  | inl low ↦ let e : x ≡ 0 = omega arith in rw e (max_zero y)
  | inr high ↦ let e : x ≡ 1 = omega arith in let m : max x y ≡ 1 = omega (arith, e, b) in rw (m, e) refl
] where
  max_zero : (n : ℕ) → eqb (max 0 n) 1 ≡ eqb n 1
  max_zero n = let e : max 0 n ≡ n = omega arith in rw e refl

or_bit : (a b k : ℕ) → eqb (bit_at (bit_or a b) k) 1 ≡ (eqb (bit_at a k) 1 || eqb (bit_at b k) 1)
or_bit a b k = rw (bit_at_or a b k) (max_bit (bit_at a k) (bit_at b k) (bit_at-lt a k) (bit_at-lt b k))

no_bit : (k : ℕ) → eqb (bit_at 0 k) 1 ≡ true → ⊥
no_bit k h = let none : eqb (bit_at 0 k) 1 ≡ false = rw (bit_at-zero k) refl in absurd (cc)

-- a frame that frees and forbids nothing
nothing_covers : (f : Frame) (s : Shape) → f.free ≡ [] → (forbids f) ≡ [] → Covers f s
nothing_covers f s free items = record {
  free = λ v i k small h. absurd (no_bit k (rw free at h));
  items = λ v g shown. rw items refl;
}

-- ---- what has no parts

row_covers : (r : Row) → Covers (row_frame r) (atom (scalar r.scalar))
unfolding row_frame
row_covers r = record {
  free = λ v i k small h. absurd (no_bit k h);
  items = λ v g shown. rw (items_made (scalar_items r.scalar)) (atom_allowed (scalar r.scalar) v g shown);
}

leaf_covers : (l : LeafDesc) → Covers (leaf_frame l) (atom (raw l.size l.free (leaf_items l)))
unfolding leaf_frame
leaf_covers l = record {
  free = λ v i k small h. rw h (and_no (ltb i l.size) false refl);
  items = λ v g shown. rw (items_made (leaf_items l)) (atom_allowed (raw l.size l.free (leaf_items l)) v g shown);
}

leaf_consistent : (l : LeafDesc) → placements.IsWellFormed (leaf_frame l) → IsConsistent (atom (raw l.size l.free (leaf_items l)))
unfolding leaf_frame
leaf_consistent l sound = (sound.mask, rw (items_made (leaf_items l)) at (lawful_parts (leaf_frame l) sound.lawful).solid)

union_covers : (ok err : Frame) (s : Shape) → Covers (overlaid ok err) s
unfolding overlaid
union_covers ok err s = nothing_covers (overlaid ok err) s refl refl

wrapped_covers : (kind : WrapKind) (f : Frame) (s : Shape) → Covers f s → Covers (wrapped kind f) s
wrapped_covers wrapper.ManuallyDrop f s c = c
wrapped_covers wrapper.MaybeUninit f s c = record { free = c.free; items = c.items }
wrapped_covers wrapper.UnsafeCell f s c = record { free = c.free; items = c.items }
wrapped_covers wrapper.Pin f s c = c
wrapped_covers wrapper.NotPod f s c = record { free = c.free; items = c.items }
wrapped_covers wrapper.OrInfallible f s c = c

-- ---- a packed sum

-- what is free where a part stands at `shift` is held by none of its values there
free_not_held : (f : Frame) (s : Shape) (v : Plain) (shift : ℕ) → size s ≡ f.size → Covers f s → (i k : ℕ) → k < 8 → placements.is_free_at f shift i k ≡ true
    → held_at shift (size s) (λ j l. holds s v j l) i k ≡ false
free_not_held f s v shift len c i k small free =
    three_places i shift (size s)
    (λ h. in_gap i shift (size s) false (holds s v (i - shift) k) false h)
    (λ g l. in_field i shift (size s) false (holds s v (i - shift) k) false g l
    ∙ c.free v (i - shift) k small (sym (in_field i shift f.size true (has f.free (i - shift) k) true g (omega (arith, len))) ∙ free))
    (λ a. behind_field i shift (size s) false (holds s v (i - shift) k) false a)

-- a sound placement leaves each variant its bytes
placed_side : (f g : Frame) (p : Placement) → placements.IsSoundPlacement f g p → (first : Bool)
    → placements.IsSide p.determinant.test p.exported (union_size f g + p.front) (sides f g first) (cond first (p.front + p.ok_shift) (p.front + p.err_shift)) (truth_of p.determinant first)
placed_side f g p o true = o.ok_side
placed_side f g p o false = o.err_side

start_is : (rules : Rules) (f g : Frame) (first : Bool)
    → cond first ((written_placement rules f g).front + (written_placement rules f g).ok_shift) ((written_placement rules f g).front + (written_placement rules f g).err_shift)
    ≡ start_of (sum_layout_of rules f g) first
start_is rules f g true = refl
start_is rules f g false = refl

-- the frames of the variants, and their shapes
pub record AreVariants (f g : Frame) (a b : Shape) : Type 0 where
  pub size_ : (first : Bool) → size (sides a b first) ≡ (sides f g first).size
  pub cover : (first : Bool) → Covers (sides f g first) (sides a b first)

sum_layout_side : (rules : Rules) (f g : Frame) (a b : Shape) → AreVariants f g a b → placements.IsSoundPlacement f g (written_placement rules f g) → (first : Bool)
    → IsSide (sides a b first) first (sum_layout_of rules f g)
sum_layout_side rules f g a b are o first =
    let p : Placement = written_placement rules f g in
    let side = placed_side f g p o first in
    let e = start_is rules f g first in
    let len = are.size_ first in
    let c : Covers (sides f g first) (sides a b first) = are.cover first in
    record {
      inside = rw (← e, len) side.inside;
      imposed = λ imposed v i k small own. free_not_held (sides f g first) (sides a b first) v (start_of (sum_layout_of rules f g) first) len c i k small
          (rw (← e) (side.imposed imposed i k small own));
      forbids = λ lacks v h holds_ shown.
          let some : list_any (is_match (seen_from (start_of (sum_layout_of rules f g) first) h)) (forbids (sides f g first)) ≡ true = rw (← e) (side.forbids lacks h holds_) in
          let none : list_any (is_match (seen_from (start_of (sum_layout_of rules f g) first) h)) (forbids (sides f g first)) ≡ false =
          c.items v (seen_from (start_of (sum_layout_of rules f g) first) h) shown in absurd (cc);
    }

sum_free : (rules : Rules) (names : Sort) (f g : Frame) (a b : Shape) → AreVariants f g a b → placements.IsSoundPlacement f g (written_placement rules f g)
    → (v : Plain) (i k : ℕ) → k < 8 → has (written_placement rules f g).exported i k ≡ true → holds (sum names (sides a b) (sum_layout_of rules f g)) v i k ≡ false
sum_free rules names f g a b are o (variant kind first v) i k small free =
    let p : Placement = written_placement rules f g in
    let side = placed_side f g p o first in
    let bit : bit_at (mask_at p.exported i) k ≡ 1 = eqb-true (bit_at (mask_at p.exported i) k) 1 free in
    neither (held_at (start_of (sum_layout_of rules f g) first) (size (sides a b first)) (λ j l. holds (sides a b first) v j l) i k) _
    (free_not_held (sides f g first) (sides a b first) v (start_of (sum_layout_of rules f g) first) (are.size_ first) (are.cover first) i k small
    (rw (← start_is rules f g first) (side.exports i k small bit)))
    (and_no _ (is_tested p.determinant.test i k) (o.kept i k small bit))
sum_free rules names f g a b are o unit i k small free = refl
sum_free rules names f g a b are o (integer m n) i k small free = refl
sum_free rules names f g a b are o (boolean x) i k small free = refl
sum_free rules names f g a b are o (order x) i k small free = refl
sum_free rules names f g a b are o (bytes x) i k small free = refl
sum_free rules names f g a b are o (list vs) i k small free = refl

sum_covers : (rules : Rules) (names : Sort) (f g : Frame) (a b : Shape) → AreVariants f g a b → placements.IsSoundPlacement f g (written_placement rules f g)
    → Covers (written_sum rules f g) (sum names (sides a b) (sum_layout_of rules f g))
unfolding written_sum
sum_covers rules names f g a b are o = record {
  free = λ v i k small free. sum_free rules names f g a b are o v i k small free;
  items = λ v h shown. refl;
}

-- ---- a core sum: `n` bytes, of which what the payload never is, `ps`, means the other variant

abbrev core_at : Bool → ℕ → List Pair → SumLayout
core_at payload n ps = record { ok = 0; err = 0; size = n; determinant = record { «not» = not payload; test = test.ValueIsErr ps } }

core_start : (payload : Bool) (n : ℕ) (ps : List Pair) (first : Bool) → start_of (core_at payload n ps) first ≡ 0
core_start payload n ps true = refl
core_start payload n ps false = refl

payload_side : (s : Shape) (payload first : Bool) (n : ℕ) (ps : List Pair) → sign_of (core_at payload n ps) first ≡ false → size s ≡ n
    → ((v : Plain) (g : ByteMap) → Shows s v g → is_matched ps g ≡ false) → IsSide s first (core_at payload n ps)
payload_side s payload first n ps sign same lacks =
    let start = core_start payload n ps first in
    record {
      inside = omega (arith, start, same);
      imposed = λ written v i k small own. absurd (let never : false ≡ true = rw sign at written in cc);
      forbids = λ unwritten v g matched shown.
          let here : Shows s v g = subst (λ x. Shows s v x) (ap (λ o. seen_from o g) start ∙ from_zero g) shown in
          let none : is_matched ps g ≡ false = lacks v g here in absurd (cc);
    }

empty_side : (s : Shape) (payload first : Bool) (n : ℕ) (ps : List Pair) → sign_of (core_at payload n ps) first ≡ true → size s ≡ 0
    → IsSide s first (core_at payload n ps)
empty_side s payload first n ps sign none =
    let start = core_start payload n ps first in
    record {
      inside = omega (arith, start, none);
      imposed = λ written v i k small own. rw (start, none) (beside i (holds s v (i - 0) k));
      forbids = λ unwritten v g matched shown. absurd (let never : true ≡ false = rw sign at unwritten in cc);
    }
  where
    beside : (i : ℕ) (b : Bool) → cond (ltb i 0) false (cond (ltb i (0 + 0)) b false) ≡ false
    beside i b = grind (arith, nat_tests)

-- the payload as large as the sum and never what its niche is, the other variant without bytes
record AreCore (payload : Bool) (n : ℕ) (ps : List Pair) (side : Bool → Shape) : Type 0 where
  pub same : size (side payload) ≡ n
  pub lacks : (v : Plain) (g : ByteMap) → Shows (side payload) v g → is_matched ps g ≡ false
  pub none : size (side (not payload)) ≡ 0

core_sides : (payload : Bool) (n : ℕ) (ps : List Pair) (side : Bool → Shape) → AreCore payload n ps side → (first : Bool) → IsSide (side first) first (core_at payload n ps)
core_sides true n ps side are true = payload_side (side true) true true n ps refl are.same are.lacks
core_sides true n ps side are false = empty_side (side false) true false n ps refl are.none
core_sides false n ps side are true = empty_side (side true) false true n ps refl are.none
core_sides false n ps side are false = payload_side (side false) false false n ps refl are.same are.lacks

-- ---- an array

item_free : (s : Shape) (v : Plain) (i k : ℕ) → holds s v i k ≡ false → (vs : Plains) → holds_in (field 0 s last) (more v vs) i k ≡ false
item_free s v i k none vs =
    let own : Bool = holds s v (i - 0) k in
    let here : i - 0 ≡ i = omega arith in
    three_places i 0 (size s)
    (λ h. in_gap i 0 (size s) false own false h)
    (λ g l. in_field i 0 (size s) false own false g l ∙ rw here none)
    (λ h. behind_field i 0 (size s) false own false h)

one_free : (n : ℕ) (f : Frame) (s : Shape) → Covers f s → (v : Plain) (i k : ℕ) → k < 8 → has f.free i k ≡ true → holds (fields compound.Array n (repeated 1 s)) v i k ≡ false
one_free n f s c (list (more v vs)) i k small h = item_free s v i k (c.free v i k small h) vs
one_free n f s c (list end) i k small h = refl
one_free n f s c _ i k small h = refl

one_allowed : (n : ℕ) (f : Frame) (s : Shape) → Covers f s → (v : Plain) (g : ByteMap) → Shows (fields compound.Array n (repeated 1 s)) v g → list_any (is_match g) (forbids f) ≡ false
one_allowed n f s c (list (more v vs)) g shown = c.items v g (subst (λ x. Shows s v x) (from_zero g) shown.0)
one_allowed n f s c (list end) g shown = absurd shown
one_allowed n f s c _ g shown = absurd shown

several : (n : ℕ) → eqb (suc (suc n)) 1 ≡ false
several n = grind (arith, nat_tests)

array_covers : (f : Frame) (s : Shape) (n len : ℕ) → Covers f s → Covers (builders.repeated f len) (fields compound.Array n (repeated len s))
unfolding builders.repeated
array_covers f s n zero c = nothing_covers (builders.repeated f zero) (fields compound.Array n (repeated zero s)) refl refl
array_covers f s n (suc zero) c = record { free = one_free n f s c; items = one_allowed n f s c }
array_covers f s n (suc (suc len)) c =
    let many = several len in
    nothing_covers (builders.repeated f (suc (suc len))) (fields compound.Array n (repeated (suc (suc len)) s)) (rw many refl) (rw many refl)

repeated_consistent : (n : ℕ) (s : Shape) → IsConsistent s → AreConsistent (repeated n s)
repeated_consistent zero s h = tt
repeated_consistent (suc n) s h = (h, repeated_consistent n s h)

items_size : (len : ℕ) (f : Frame) (s : Shape) → size s ≡ f.size → size_in (repeated len s) ≡ (builders.repeated f len).size
items_size len f s e = in_row len ∙ sym (repeated_size f len) where
  in_row : (n : ℕ) → size_in (repeated n s) ≡ f.size * n
  in_row zero = omega arith
  in_row (suc n) = let rest = in_row n in omega (arith, e, rest)

-- ---- a struct

-- each field's shape covers its frame, whose free bits lie within it, and is consistent
abbrev pub AllCover : Rules → Target → Branches → Type 0
AllCover rules target trees.none = Unit {0}
AllCover rules target (trees.field name t fs) =
    Covers (written_frame rules target t) (shape_of rules target t)
    × IsConsistent (shape_of rules target t)
    × ((at : ℕ) → (written_frame rules target t).size ≤ at → mask_at (written_frame rules target t).free at ≡ 0)
    × AllCover rules target fs

end_grows : (before : ℕ) (fs : List Frame) → before ≤ end_of before fs
end_grows before [] = omega arith
end_grows before (f ∷ fs) = omega (arith, after_end before f, end_grows (start_after before f + f.size) fs)

-- no field has a bit before the first
fields_before : (before : ℕ) (fs : List Frame) (at : ℕ) → at < before → fields_byte (positions before fs) at ≡ 0
fields_before before [] at h = refl
fields_before before (f ∷ fs) at h =
    let start = start_after before f in
    let le = after_end before f in
    let a : whole_between before start at ≡ 0 = whole_before before start at h in
    let b : byte_from start f at ≡ 0 = byte_before start f at (omega (arith, le)) in
    let c : fields_byte (positions (start + f.size) fs) at ≡ 0 = fields_before (start + f.size) fs at (omega (arith, le)) in
    rw (a, b, c) refl

-- where bit k of the byte at is free by the fields after `before` bytes, or in the tail up to `to`
abbrev IsFieldBit : ℕ → List Frame → ℕ → ℕ → ℕ → Type 0
IsFieldBit before fs to at k = eqb (bit_at (bit_or (fields_byte (positions before fs) at) (whole_between (end_of before fs) to at)) k) 1 ≡ true

fields_free : (rules : Rules) (target : Target) (before to : ℕ) (fs : Branches) (vs : Plains) (at i k : ℕ) → AllCover rules target fs → k < 8 → at ≡ before + i
    → IsFieldBit before (written_frames rules target fs) to at k → holds_in (shapes_of rules target before fs) vs i k ≡ false
fields_free rules target before to trees.none vs at i k all small e h = refl
fields_free rules target before to (trees.field name t fs) end at i k all small e h = refl
fields_free rules target before to (trees.field name t fs) (more v vs) at i k all small e h =
    let f = written_frame rules target t in
    let start = start_after before f in
    let gap : ℕ = start - before in
    let s : Shape = shape_of rules target t in
    let le = after_end before f in
    let len : size s ≡ f.size = same_size rules target t in
    let fs' : List Frame = written_frames rules target fs in
    let last_end : ℕ = end_of (start + f.size) fs' in
    let grown : start + f.size ≤ last_end = end_grows (start + f.size) fs' in
    let own : Bool = holds s v (i - gap) k in
    let rest : Bool = holds_in (shapes_of rules target (start + f.size) fs) vs (i - (gap + size s)) k in
    three_places i gap (size s)
    (λ early. in_gap i gap (size s) false own rest early)
    (λ past inside.
    let w : whole_between before start at ≡ 0 = whole_past before start at (omega (arith, le)) in
    let b : byte_from start f at ≡ mask_at f.free (at - start) = byte_inside start f at (omega (arith, le)) in
    let r : fields_byte (positions (start + f.size) fs') at ≡ 0 = fields_before (start + f.size) fs' at (omega (arith, le, len)) in
    let x : whole_between last_end to at ≡ 0 = whole_before last_end to at (omega (arith, le, len, grown)) in
    let o : at - start ≡ i - gap = omega (arith, le) in
    let bit : has f.free (i - gap) k ≡ true =
    rw (w, b, r, x, o, zero_or (mask_at f.free (i - gap)), or_zero (mask_at f.free (i - gap)), or_zero (mask_at f.free (i - gap))) at h in
    in_field i gap (size s) false own rest past inside ∙ all.0.free v (i - gap) k small bit)
    (λ behind.
    let w : whole_between before start at ≡ 0 = whole_past before start at (omega (arith, le)) in
    let b : byte_from start f at ≡ mask_at f.free (at - start) = byte_inside start f at (omega (arith, le)) in
    let m : mask_at f.free (at - start) ≡ 0 = all.2 (at - start) (omega (arith, le, len)) in
    let r : ℕ = fields_byte (positions (start + f.size) fs') at in
    let later : IsFieldBit (start + f.size) fs' to at k = rw (w, b, m, zero_or 0, zero_or r) at h in
    behind_field i gap (size s) false own rest behind
    ∙ fields_free rules target (start + f.size) to fs vs at (i - (gap + size s)) k all.3 small (omega (arith, le, len)) later)

-- ---- items that stand further on

moved_matched : (by : ℕ) (ps : List Pair) (f : ByteMap) → is_matched (moved_pairs by ps) f ≡ is_matched ps (seen_from by f)
moved_matched by [] f = refl
moved_matched by (p ∷ ps) f =
    let here : f (p.0 + by) ≡ f (by + p.0) = ap f (omega arith) in
    let rest : is_matched (moved_pairs by ps) f ≡ is_matched ps (seen_from by f) = moved_matched by ps f in rw (here, rest) refl

moved_match : (by : ℕ) (it : Item) (f : ByteMap) → is_match f (moved_item by it) ≡ is_match (seen_from by f) it
moved_match by (pattern ps) f = moved_matched by ps f
moved_match by (range at least greatest) f = let here : f (at + by) ≡ f (by + at) = ap f (omega arith) in rw here refl

moved_any : (by : ℕ) (its : List Item) (f : ByteMap) → list_any (is_match f) (map (moved_item by) its) ≡ list_any (is_match (seen_from by f)) its
moved_any by [] f = refl
moved_any by (it ∷ its) f = rw (moved_match by it f, moved_any by its f) refl

joined_none : (f : ByteMap) (xs ys : List Item) → list_any (is_match f) xs ≡ false → list_any (is_match f) ys ≡ false → list_any (is_match f) (xs ++ ys) ≡ false
joined_none f xs ys a b = list_any-append (is_match f) xs ys ∙ rw (a, b) refl

-- f tells the struct's bytes, g those after `before` of them
fields_allowed : (rules : Rules) (target : Target) (before : ℕ) (fs : Branches) (vs : Plains) (f g : ByteMap) → AllCover rules target fs → ((i : ℕ) → g i ≡ f (before + i))
    → ShowIn (shapes_of rules target before fs) vs g → list_any (is_match f) (fields_items (positions before (written_frames rules target fs))) ≡ false
fields_allowed rules target before trees.none vs f g all e shown = refl
fields_allowed rules target before (trees.field name t fs) (more v vs) f g all e shown =
    let w = written_frame rules target t in
    let start = start_after before w in
    let gap : ℕ = start - before in
    let s : Shape = shape_of rules target t in
    let le = after_end before w in
    let len : size s ≡ w.size = same_size rules target t in
    let here : seen_from start f ≡ seen_from gap g = moved before start gap f g e (omega (arith, le)) in
    joined_none f (map (moved_item start) (forbids w)) (fields_items (positions (start + w.size) (written_frames rules target fs)))
    (moved_any start (forbids w) f ∙ rw here (all.0.items v (seen_from gap g) shown.0))
    (fields_allowed rules target (start + w.size) fs vs f (seen_from (gap + size s) g) all.3
    (λ i. e (gap + size s + i) ∙ ap f (omega (arith, le, len))) shown.1)
fields_allowed rules target before (trees.field name t fs) end f g all e shown = absurd shown

-- ---- the struct itself

fields_size : (rules : Rules) (target : Target) (before : ℕ) (fs : Branches) → before + size_in (shapes_of rules target before fs) ≡ end_of before (written_frames rules target fs)
fields_size rules target before trees.none = omega arith
fields_size rules target before (trees.field name t fs) =
    let f = written_frame rules target t in
    let start = start_after before f in
    let le = after_end before f in
    let here : size (shape_of rules target t) ≡ f.size = same_size rules target t in
    let rest = fields_size rules target (start + f.size) fs in
    omega (arith, le, here, rest)

fields_sound : (rules : Rules) (target : Target) (before : ℕ) (fs : Branches) → AllCover rules target fs → AreConsistent (shapes_of rules target before fs)
fields_sound rules target before trees.none all = tt
fields_sound rules target before (trees.field name t fs) all =
    (all.1, fields_sound rules target (start_after before (written_frame rules target t) + (written_frame rules target t).size) fs all.3)

within : (bits : ℕ → ℕ) (n i k : ℕ) → has (entries_below bits n) i k ≡ true → (i < n) ⊎ (n ≤ i) → eqb (bit_at (bits i) k) 1 ≡ true
within bits n i k h (inl lt) =
    let inside : ltb i n ≡ true = lt-ltb i n lt in
    let m : mask_at (entries_below bits n) i ≡ bits i = entries_at bits n i ∙ rw inside refl in rw m at h
within bits n i k h (inr le) =
    let past : ltb i n ≡ false = le-ltb i n le in
    let m : mask_at (entries_below bits n) i ≡ 0 = entries_at bits n i ∙ rw past refl in absurd (no_bit k (rw m at h))

struct_free : (rules : Rules) (target : Target) (label : Label) (fs : Branches) (align : Option ℕ) (v : Plain) (i k : ℕ) → AllCover rules target fs → k < 8
    → has (struct_frame (written_frames rules target fs) align).free i k ≡ true → holds (shape_of rules target (trees.struct label fs align)) v i k ≡ false
unfolding struct_frame
struct_free rules target label fs align (list vs) i k all small h =
    let frames : List Frame = written_frames rules target fs in
    let last : ℕ = end_of 0 frames in
    let to : ℕ = next_multiple_of last (fields_align frames) in
    let bits : ℕ → ℕ = λ at. bit_or (fields_byte (positions 0 frames) at) (whole_between last to at) in
    fields_free rules target 0 to fs vs i i k all small (omega arith)
    (within bits (struct_frame frames align).size i k h (cases_lt i (struct_frame frames align).size))
struct_free rules target label fs align unit i k all small h = refl
struct_free rules target label fs align (integer m n) i k all small h = refl
struct_free rules target label fs align (boolean x) i k all small h = refl
struct_free rules target label fs align (order x) i k all small h = refl
struct_free rules target label fs align (bytes x) i k all small h = refl
struct_free rules target label fs align (variant kind first v) i k all small h = refl

struct_allowed : (rules : Rules) (target : Target) (label : Label) (fs : Branches) (align : Option ℕ) (v : Plain) (g : ByteMap) → AllCover rules target fs
    → Shows (shape_of rules target (trees.struct label fs align)) v g → list_any (is_match g) (forbids (struct_frame (written_frames rules target fs) align)) ≡ false
unfolding struct_frame
struct_allowed rules target label fs align (list vs) g all shown =
    rw (items_in_fields (positions 0 (written_frames rules target fs))) (fields_allowed rules target 0 fs vs g g all (λ i. ap g (omega arith)) shown)
struct_allowed rules target label fs align _ g all shown = absurd shown

-- ---- every description without a fault

pub record IsCovered (f : Frame) (s : Shape) : Type 0 where
  pub covers : Covers f s
  pub sound : IsConsistent s

sum_covered : (rules : Rules) (names : Sort) (f g : Frame) (a b : Shape) → size a ≡ f.size → size b ≡ g.size → IsCovered f a → IsCovered g b → placements.IsWellFormed f → placements.IsWellFormed g
    → IsCovered (written_sum rules f g) (sum names (sides a b) (sum_layout_of rules f g))
sum_covered rules names f g a b na nb ca cb sf sg =
    let o = placements_sound rules f g sf sg in
    let are : AreVariants f g a b = record { size_ = both_sizes; cover = both_cover } in
    record {
      covers = sum_covers rules names f g a b are o;
      sound = (both_sound, record { each = sum_layout_side rules f g a b are o; tested = o.tested });
    }
  where
    both_sizes : (first : Bool) → size (sides a b first) ≡ (sides f g first).size
    both_sizes true = na
    both_sizes false = nb

    both_cover : (first : Bool) → Covers (sides f g first) (sides a b first)
    both_cover true = ca.covers
    both_cover false = cb.covers

    both_sound : (first : Bool) → IsConsistent (sides a b first)
    both_sound true = ca.sound
    both_sound false = cb.sound

-- ---- a core sum, by its frames

sole : (its : List Item) → is_sole_pattern its ≡ true → its ≡ pattern (sole_pattern its) ∷ []
sole [] h = absurd (cc)
sole (pattern ps ∷ []) h = refl
sole (pattern ps ∷ it ∷ its) h = absurd (cc)
sole (range at least greatest ∷ its) h = absurd (cc)

niche_tested : (f : Frame) (ps : List Pair) → placements.IsWellFormed f → (forbids f) ≡ pattern ps ∷ [] → placements.IsTest (test.ValueIsErr ps) f.size
niche_tested f ps sound one = (
  head_of is_pattern (rw one at sound.patterns),
  bytes_in f.size f.size f.free ps (omega arith) (solid (rw one at (lawful_parts f sound.lawful).solid)),
  head_of are_bytes (rw one at sound.bytes),
)
  where
    head_of : (p : List Pair → Bool) → list_all p (ps ∷ []) ≡ true → p ps ≡ true
    head_of p h = (and_parts (p ps) true h).0

    solid : list_all (is_solid_item f.size f.free) (pattern ps ∷ []) ≡ true → is_solid_item f.size f.free (pattern ps) ≡ true
    solid h = (and_parts (is_solid_item f.size f.free (pattern ps)) true h).0

no_bytes : (f : Frame) → is_empty f ≡ true → f.size ≡ 0
no_bytes f h = eqb-true f.size 0 (and_parts (eqb f.size 0) (eqb f.align 1) h).0

lacks_niche : (f : Frame) (s : Shape) (ps : List Pair) → Covers f s → (forbids f) ≡ pattern ps ∷ [] → (v : Plain) (g : ByteMap) → Shows s v g → is_matched ps g ≡ false
lacks_niche f s ps c one v g shown = neither_first (is_matched ps g) false (rw one at (c.items v g shown))

core_covered : (names : Sort) (ok err : Frame) (a b : Shape) → size a ≡ ok.size → size b ≡ err.size → IsCovered ok a → IsCovered err b
    → placements.IsWellFormed ok → placements.IsWellFormed err → is_core_sum ok err ≡ true
    → IsCovered (core_frame ok err) (sum names (sides a b) (core_layout ok err))
core_covered names ok err a b na nb ca cb sa sb h =
    let front : Bool = is_one (payload ok err).niches && is_sole_pattern (forbids (payload ok err)) in
    let whole = and_parts front (is_empty (sides err ok (payload_first ok err))) h in
    let one = sole (forbids (payload ok err)) (and_parts (is_one (payload ok err).niches) (is_sole_pattern (forbids (payload ok err))) whole.0).1 in
    let none = no_bytes (sides err ok (payload_first ok err)) whole.1 in
    let ps : List Pair = absence ok err in
    record {
      covers = nothing_covers (core_frame ok err) (sum names (sides a b) (core_layout ok err)) refl refl;
      sound = (
        both_sound,
        record {
          each = core_sides (payload_first ok err) (payload ok err).size ps (sides a b) (are (payload_first ok err) ps one none);
          tested = niche_tested (payload ok err) ps (payload_sound (payload_first ok err)) one;
        },
      );
    }
  where
    both_sound : (first : Bool) → IsConsistent (sides a b first)
    both_sound true = ca.sound
    both_sound false = cb.sound

    payload_sound : (first : Bool) → placements.IsWellFormed (sides ok err first)
    payload_sound true = sa
    payload_sound false = sb

    are : (first : Bool) (ps : List Pair) → (forbids (sides ok err first)) ≡ pattern ps ∷ [] → (sides err ok first).size ≡ 0
        → AreCore first (sides ok err first).size ps (sides a b)
    are true ps one none = record { same = na; lacks = lacks_niche ok a ps ca.covers one; none = nb ∙ none }
    are false ps one none = record { same = nb; lacks = lacks_niche err b ps cb.covers one; none = na ∙ none }

mutual
  pub part_covered : (rules : Rules) (target : Target) (first : ℕ) (t : Tree) → is_row target ≡ true → part_fault rules target first t ≡ None
      → IsCovered (written_frame rules target t) (shape_of rules target t)
  part_covered rules target first (trees.prim p) row h = record { covers = row_covers (prim_row target p); sound = tt }
  part_covered rules target first (trees.struct label fs align) row h =
      let frames : List Frame = written_frames rules target fs in
      let a = after_one (part_fault_in rules target first fs) rules target (first + parts_in fs) (trees.struct label fs align) h in
      let all = parts_covered rules target first fs row a.0 in
      let inside : size_in (shapes_of rules target 0 fs) ≤ (struct_frame frames align).size =
      omega (arith, fields_size rules target 0 fs, struct_end frames align) in
      record {
        covers = record {
          free = λ v i k small free. struct_free rules target label fs align v i k all small free;
          items = λ v g shown. struct_allowed rules target label fs align v g all shown;
        };
        sound = (fields_sound rules target 0 fs all, inside);
      }
  part_covered rules target first (trees.array item len) row h =
      let f = written_frame rules target item in
      let s : Shape = shape_of rules target item in
      let a = after_one (part_fault rules target first item) rules target (first + parts item) (trees.array item len) h in
      let one = part_covered rules target first item row a.0 in
      let inside = items_size len f s (same_size rules target item) in
      record {
        covers = array_covers f s (written_frame rules target (trees.array item len)).size len one.covers;
        sound = (repeated_consistent len s one.sound, omega (arith, inside));
      }
  part_covered rules target first (trees.union side) row h = record {
    covers = union_covers (written_frame rules target (side true)) (written_frame rules target (side false)) (shape_of rules target (trees.union side));
    sound = (refl, refl);
  }
  part_covered rules target first (trees.sum names side) row h =
      let ok : Tree = side true in
      let err : Tree = side false in
      let a = after_two _ _ rules target _ (trees.sum names side) h in
      sum_covered rules names (written_frame rules target ok) (written_frame rules target err) (shape_of rules target ok) (shape_of rules target err)
      (same_size rules target ok) (same_size rules target err)
      (part_covered rules target first (side true) row a.0) (part_covered rules target (first + parts ok) (side false) row a.1)
      (part_sound rules target first ok row a.0) (part_sound rules target (first + parts ok) err row a.1)
  part_covered rules target first (trees.core names side) row h =
      let ok : Tree = side true in
      let err : Tree = side false in
      let a = core_faultless rules target first names side h in
      core_covered names (written_frame rules target ok) (written_frame rules target err) (shape_of rules target ok) (shape_of rules target err)
      (same_size rules target ok) (same_size rules target err)
      (part_covered rules target first (side true) row a.0) (part_covered rules target (first + parts ok) (side false) row a.1)
      (part_sound rules target first ok row a.0) (part_sound rules target (first + parts ok) err row a.1) a.2
  part_covered rules target first (trees.wrap kind t) row h =
      let inner = part_covered rules target first t row (after_one _ rules target _ (trees.wrap kind t) h).0 in
      record { covers = wrapped_covers kind (written_frame rules target t) (shape_of rules target t) inner.covers; sound = inner.sound }
  part_covered rules target first (trees.stable_if value condition) row h =
      part_covered rules target first value row (after_two _ _ rules target _ (trees.stable_if value condition) h).0
  part_covered rules target first (trees.pointer kind t) row h = record { covers = row_covers (pointer_row target kind); sound = tt }
  part_covered rules target first (trees.no_niches size align niches indirections) row h = record {
    covers = nothing_covers (written_frame rules target (trees.no_niches size align niches indirections)) (atom (raw size [] [])) refl refl;
    sound = (refl, refl);
  }
  part_covered rules target first (trees.leaf l) row h =
      record { covers = leaf_covers l; sound = leaf_consistent l (part_sound rules target first (trees.leaf l) row h) }

  pub parts_covered : (rules : Rules) (target : Target) (first : ℕ) (fs : Branches) → is_row target ≡ true → part_fault_in rules target first fs ≡ None
      → AllCover rules target fs
  parts_covered rules target first trees.none row h = tt
  parts_covered rules target first (trees.field name t fs) row h =
      let a = no_fault (part_fault rules target first t) (part_fault_in rules target (first + parts t) fs) h in
      let here = part_covered rules target first t row a.0 in
      let f = written_frame rules target t in (
        here.covers,
        here.sound,
        λ at past. zero_past f.free f.size at (lawful_parts f (part_sound rules target first t row a.0).lawful).free past,
        parts_covered rules target (first + parts t) fs row a.1,
      )
