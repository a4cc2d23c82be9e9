-- Fields folded from the left, against the fields by position.
use Rattle.std.proofs.Common.{◌≡◌, ℕ, ◌+◌, ◌-◌, ◌%◌, ◌<◌, ◌≤◌, max, map, Bool, true, false, ◌||◌, List, [], ◌∷◌, ◌++◌, Option, Some, None, eqb, bit_or, refl, sym, ap, ◌∙◌, inl, inr, arith, append_assoc}
use Rattle.std.proofs.lemmas.Bool.{and_parts, eq-eqb, ne_eqb, cases_eq}
use Rattle.std.proofs.lemmas.List.{append-nil}
use Rattle.std.proofs.Math.Nat.{mod_self}
use Rattle.std.specs.Int.{next_multiple_of}
use Rattle.std.specs.List.{list_all}
use Rattle.abi_bits.specs.Pairs.{Pair, moved_pairs, are_below}
use Rattle.abi_bits.specs.Mask.{mask_at, entries_below}
use Rattle.abi_bits.specs.Forbidden.{Item, pattern, range, moved_item, Forbidden, nothing, alone, or, items_of, moved_tree}
use Rattle.abi_bits.specs.declared.saturating_add_value.SaturatingAddValue.{SaturatingAddValue}
use Rattle.abi_bits.specs.declared.saturating_add_value.SaturatingAddValue.TheVariants as count
use Rattle.abi_bits.proofs.Trees.{items_moved}
use Rattle.abi_bits.proofs.Counts.{associative}
use Rattle.abi_bits.proofs.Masks.{or_zero, zero_or, or_assoc}
use Rattle.abi_bits.proofs.Entries.{entries_lie_below, zero_past}
use Rattle.abi_det.specs.Frame.{Frame, is_lawful, IsLawful, forbids}
use Rattle.abi_det.proofs.Lawful.{parts as lawful_parts}
use Rattle.abi_det.proofs.Sizes.{alignment_positive, rounded}
use Rattle.abi_bits.specs.Count.{added}
use Rattle.abi_layout.specs.Builders.{start_after, whole_between, byte_from, counted, pair, rounded_to}
use Rattle.abi_layout.specs.Structs.{positions, end_of, fields_align, requested_align, total_size, total_count, is_indirect, fields_byte, joined_fields, fields_forbidden, struct_frame, Positioned}
use Rattle.abi_layout.specs.Folds.{folded, AreLawful}
use Rattle.abi_layout.specs.Laws.{FoldLaw}
use Rattle.abi_layout.proofs.Bytes.{whole_past, whole_none, byte_past, byte_inside, told, entries_equal}

-- a frame is its parts
pub same_frame : (f g : Frame) → f.size ≡ g.size → f.align ≡ g.align → f.free ≡ g.free → f.forbidden ≡ g.forbidden → f.niches ≡ g.niches → f.indirections ≡ g.indirections → f ≡ g
same_frame f g a b c d h k = λ i. record { size = a i; align = b i; free = c i; forbidden = d i; niches = h i; indirections = k i }

-- what the fold keeps: bytes to be aligned, and free bits below the size
pub record Keeps (f : Frame) : Type 0 where
  pub positive : 0 < f.align
  pub below : are_below f.size f.free ≡ true

pub lawful_keeps : (f : Frame) → IsLawful f → Keeps f
lawful_keeps f l = let p = lawful_parts f l in record { positive = alignment_positive f.align p.align; below = p.free }

pub all_parts : (f : Frame) (fs : List Frame) → AreLawful (f ∷ fs) → IsLawful f × AreLawful fs
all_parts f fs l = and_parts (is_lawful f) (list_all is_lawful fs) l

pub pair_keeps : (a b : Frame) → Keeps a → Keeps b → Keeps (pair a b)
unfolding pair
pair_keeps a b x y = record {
  positive = omega (arith, x.positive);
  below = entries_lie_below (λ at. bit_or (mask_at a.free at) (bit_or (whole_between a.size (start_after a.size b) at) (byte_from (start_after a.size b) b at))) (start_after a.size b + b.size);
}

pub pair_byte : (a b : Frame) (at : ℕ) → Keeps a → Keeps b
    → mask_at (pair a b).free at ≡ bit_or (mask_at a.free at) (bit_or (whole_between a.size (start_after a.size b) at) (byte_from (start_after a.size b) b at))
unfolding pair
pair_byte a b at x y =
    told (λ at. bit_or (mask_at a.free at) (bit_or (whole_between a.size (start_after a.size b) at) (byte_from (start_after a.size b) b at)))
    (start_after a.size b + b.size) at
    (λ le.
    let e : mask_at a.free at ≡ 0 = zero_past a.free a.size at x.below (omega (arith, le)) in
    let f : whole_between a.size (start_after a.size b) at ≡ 0 = whole_past a.size (start_after a.size b) at (omega (arith, le)) in
    let g : byte_from (start_after a.size b) b at ≡ 0 = byte_past (start_after a.size b) b at y.below le in
    rw (e, f, g) refl)

-- counts
added_zero : (n : SaturatingAddValue) → added n count.B0 ≡ n
added_zero count.B0 = refl
added_zero count.B1 = refl
added_zero count.Saturator = refl

many_added : (n : SaturatingAddValue) → added count.Saturator n ≡ count.Saturator
many_added count.B0 = refl
many_added count.B1 = refl
many_added count.Saturator = refl

many_counted : (b : Bool) → counted b count.Saturator ≡ count.Saturator
many_counted true = refl
many_counted false = refl

-- the fields take at least the sum of their sizes
pub end_least : (e : ℕ) (fs : List Frame) → e + total_size fs ≤ end_of e fs
end_least e [] = omega arith
end_least e (f ∷ fs) = omega (arith, end_least (start_after e f + f.size) fs)

count_step : (end start a b total : ℕ) (m n rest : SaturatingAddValue) → a ≤ start → (start + b) + total ≤ end
    → counted (eqb end ((start + b) + total)) (added (counted (eqb (start + b) (a + b)) (added m n)) rest)
    ≡ counted (eqb end (a + (b + total))) (added m (added n rest))
count_step end start a b total m n rest le fits = elim (cases_eq start a) [
  | inl q ↦
      let e : eqb (start + b) (a + b) ≡ true = eq-eqb (start + b) (a + b) (omega (arith, q)) in
      let s : (start + b) + total ≡ a + (b + total) = omega (arith, q) in
      rw (e, s, associative m n rest) refl
  | inr ne ↦
      let e : eqb (start + b) (a + b) ≡ false = ne_eqb (start + b) (a + b) (λ q. ne (omega (arith, q))) in
      let g : eqb end (a + (b + total)) ≡ false = ne_eqb end (a + (b + total)) (λ q. ne (omega (arith, q, le, fits))) in
      rw (e, g, many_added rest) (many_counted (eqb end ((start + b) + total)))
]

-- component by component, what the fields after `a` make of it
folded_size : (a : Frame) (fs : List Frame) → (folded a fs).size ≡ end_of a.size fs
unfolding pair
folded_size a [] = refl
folded_size a (f ∷ fs) = folded_size (pair a f) fs

folded_align : (a : Frame) (fs : List Frame) → 0 < a.align → (folded a fs).align ≡ max a.align (fields_align fs)
unfolding pair
folded_align a [] pos = omega (arith, pos)
folded_align a (f ∷ fs) pos =
    let e : (folded (pair a f) fs).align ≡ max (max a.align f.align) (fields_align fs) = folded_align (pair a f) fs (omega (arith, pos)) in
    omega (arith, e)

folded_forbidden : (a : Frame) (fs : List Frame) → (folded a fs).forbidden ≡ joined_fields a.forbidden (positions a.size fs)
unfolding pair
folded_forbidden a [] = refl
folded_forbidden a (f ∷ fs) = folded_forbidden (pair a f) fs

or_assoc_bool : (a b c : Bool) → ((a || b) || c) ≡ (a || (b || c))
or_assoc_bool true b c = refl
or_assoc_bool false b c = refl

or_false : (a : Bool) → (a || false) ≡ a
or_false true = refl
or_false false = refl

folded_indirections : (a : Frame) (fs : List Frame) → (folded a fs).indirections ≡ (a.indirections || is_indirect fs)
unfolding pair
folded_indirections a [] = sym (or_false a.indirections)
folded_indirections a (f ∷ fs) = folded_indirections (pair a f) fs ∙ or_assoc_bool a.indirections f.indirections (is_indirect fs)

folded_niches : (a : Frame) (fs : List Frame) → (folded a fs).niches ≡ counted (eqb (end_of a.size fs) (a.size + total_size fs)) (added a.niches (total_count fs))
unfolding pair
folded_niches a [] =
    let e : eqb a.size (a.size + 0) ≡ true = eq-eqb a.size (a.size + 0) (omega arith) in
    rw (e, added_zero a.niches) refl
folded_niches a (f ∷ fs) =
    folded_niches (pair a f) fs
    ∙ count_step (end_of (start_after a.size f + f.size) fs) (start_after a.size f) a.size f.size (total_size fs) a.niches f.niches (total_count fs)
    (omega arith) (end_least (start_after a.size f + f.size) fs)

regroup : (a f : Frame) (fs : List Frame) (at : ℕ) → Keeps a → Keeps f
    → bit_or (mask_at (pair a f).free at) (fields_byte (positions (pair a f).size fs) at) ≡ bit_or (mask_at a.free at) (fields_byte (positions a.size (f ∷ fs)) at)
unfolding pair
regroup a f fs at k kf =
    let start : ℕ = start_after a.size f in
    ap (λ x. bit_or x (fields_byte (positions (start + f.size) fs) at)) (pair_byte a f at k kf)
    ∙ or_assoc (mask_at a.free at) (bit_or (whole_between a.size start at) (byte_from start f at)) (fields_byte (positions (start + f.size) fs) at)

folded_byte : (a : Frame) (fs : List Frame) (at : ℕ) → Keeps a → AreLawful fs
    → mask_at (folded a fs).free at ≡ bit_or (mask_at a.free at) (fields_byte (positions a.size fs) at)
folded_byte a [] at k l = sym (or_zero (mask_at a.free at))
folded_byte a (f ∷ fs) at k l =
    let p = all_parts f fs l in
    let kf = lawful_keeps f p.0 in
    folded_byte (pair a f) fs at (pair_keeps a f k kf) p.1 ∙ regroup a f fs at k kf

-- the first field starts at 0
pub first_start : (f : Frame) → 0 < f.align → start_after 0 f ≡ 0
first_start f pos = let r = rounded 0 f.align pos in let e : f.align - 0 % f.align ≡ f.align = omega (arith, mod_zero f.align) in rw (e, mod_self f.align) refl
  where
    mod_zero : (n : ℕ) → 0 % n ≡ 0
    mod_zero n = omega arith

pub unmoved_pairs : (ps : List Pair) → moved_pairs 0 ps ≡ ps
unmoved_pairs [] = refl
unmoved_pairs (p ∷ ps) =
    let here : p.0 + 0 ≡ p.0 = omega arith in
    rw (here, unmoved_pairs ps) refl

unmoved : (it : Item) → moved_item 0 it ≡ it
unmoved (pattern ps) = ap pattern (unmoved_pairs ps)
unmoved (range at least greatest) = let e : at + 0 ≡ at = omega arith in rw e refl

unmoved_tree : (t : Forbidden) → moved_tree 0 t ≡ t
unmoved_tree nothing = refl
unmoved_tree (alone it) = ap alone (unmoved it)
unmoved_tree (or left right) = rw (unmoved_tree left, unmoved_tree right) refl

-- the forbidden items of the fields at their places
abbrev pub fields_items : List Positioned → List Item
fields_items [] = []
fields_items (p ∷ ps) = map (moved_item p.start) (forbids p.held) ++ fields_items ps

items_joined : (so_far : Forbidden) (ps : List Positioned) → items_of (joined_fields so_far ps) ≡ items_of so_far ++ fields_items ps
items_joined so_far [] = sym (append-nil (items_of so_far))
items_joined so_far (p ∷ ps) =
    items_joined (or so_far (moved_tree p.start p.held.forbidden)) ps
    ∙ ap (λ its. (items_of so_far ++ its) ++ fields_items ps) (items_moved p.start p.held.forbidden)
    ∙ append_assoc (items_of so_far) (map (moved_item p.start) (forbids p.held)) (fields_items ps)

pub items_in_fields : (ps : List Positioned) → items_of (fields_forbidden ps) ≡ fields_items ps
items_in_fields [] = refl
items_in_fields (p ∷ ps) =
    items_joined (moved_tree p.start p.held.forbidden) ps ∙ ap (λ its. its ++ fields_items ps) (items_moved p.start p.held.forbidden)

pub struct_forbids : (fs : List Frame) (align : Option ℕ) → forbids (struct_frame fs align) ≡ fields_items (positions 0 fs)
unfolding struct_frame
struct_forbids fs align = items_in_fields (positions 0 fs)

pub first_end : (f : Frame) (fs : List Frame) → 0 < f.align → end_of 0 (f ∷ fs) ≡ end_of f.size fs
first_end f fs pos = let s : start_after 0 f + f.size ≡ f.size = omega (arith, first_start f pos) in ap (λ e. end_of e fs) s

first_forbidden : (f : Frame) (fs : List Frame) → 0 < f.align → fields_forbidden (positions 0 (f ∷ fs)) ≡ joined_fields f.forbidden (positions f.size fs)
first_forbidden f fs pos =
    let z : start_after 0 f ≡ 0 = first_start f pos in
    let s : start_after 0 f + f.size ≡ f.size = omega (arith, z) in
    ap (λ e. joined_fields (moved_tree e f.forbidden) (positions (start_after 0 f + f.size) fs)) z
    ∙ ap (λ e. joined_fields (moved_tree 0 f.forbidden) (positions e fs)) s
    ∙ ap (λ t. joined_fields t (positions f.size fs)) (unmoved_tree f.forbidden)

first_byte : (f : Frame) (fs : List Frame) (at : ℕ) → 0 < f.align
    → fields_byte (positions 0 (f ∷ fs)) at ≡ bit_or (mask_at f.free at) (fields_byte (positions f.size fs) at)
first_byte f fs at pos =
    let z : start_after 0 f ≡ 0 = first_start f pos in
    let s : start_after 0 f + f.size ≡ f.size = omega (arith, z) in
    let w : whole_between 0 0 at ≡ 0 = whole_none 0 at in
    let b : byte_from 0 f at ≡ mask_at f.free at = byte_inside 0 f at (omega arith) ∙ ap (mask_at f.free) (sub_zero at) in
    ap (λ e. bit_or (bit_or (whole_between 0 e at) (byte_from e f at)) (fields_byte (positions (start_after 0 f + f.size) fs) at)) z
    ∙ ap (λ e. bit_or (bit_or (whole_between 0 0 at) (byte_from 0 f at)) (fields_byte (positions e fs) at)) s
    ∙ ap (λ x. bit_or (bit_or x (byte_from 0 f at)) (fields_byte (positions f.size fs) at)) w
    ∙ ap (λ x. bit_or x (fields_byte (positions f.size fs) at)) (zero_or (byte_from 0 f at) ∙ b)
  where
    sub_zero : (n : ℕ) → n - 0 ≡ n
    sub_zero n = omega arith

closed_count : (size end total : ℕ) (n : SaturatingAddValue) → end ≤ size → total ≤ end
    → counted (eqb size end) (counted (eqb end total) n) ≡ counted (eqb size total) n
closed_count size end total n le fits = elim (cases_eq end total) [
  | inl q ↦
      let e : eqb end total ≡ true = eq-eqb end total q in
      rw (e, q) refl
  | inr ne ↦
      let e : eqb end total ≡ false = ne_eqb end total ne in
      let g : eqb size total ≡ false = ne_eqb size total (λ q. ne (omega (arith, q, le, fits))) in
      rw (e, g) (many_counted (eqb size end))
]

at_least : (a b : ℕ) → a ≤ next_multiple_of a b
at_least a b = omega arith

closing : (f : Frame) (fs : List Frame) (whole : ℕ) (align : Option ℕ) → Keeps f → AreLawful fs → whole ≡ requested_align (folded f fs).align align
    → rounded_to (folded f fs) whole ≡ struct_frame (f ∷ fs) align
unfolding rounded_to struct_frame
closing f fs whole align k l ours =
    let mine : (folded f fs).align ≡ fields_align (f ∷ fs) = folded_align f fs k.positive in
    let end : (folded f fs).size ≡ end_of 0 (f ∷ fs) = folded_size f fs ∙ sym (first_end f fs k.positive) in
    let aligned : whole ≡ requested_align (fields_align (f ∷ fs)) align = ours ∙ ap (λ a. requested_align a align) mine in
    let size : next_multiple_of (folded f fs).size whole ≡ next_multiple_of (end_of 0 (f ∷ fs)) (requested_align (fields_align (f ∷ fs)) align) = cc in
    let wide : ℕ = next_multiple_of (folded f fs).size whole in
    same_frame (rounded_to (folded f fs) whole) (struct_frame (f ∷ fs) align)
    size
    aligned
    (entries_equal _ _ (next_multiple_of (folded f fs).size whole) (next_multiple_of (end_of 0 (f ∷ fs)) (requested_align (fields_align (f ∷ fs)) align)) size
    (λ at. let b : mask_at (folded f fs).free at ≡ fields_byte (positions 0 (f ∷ fs)) at = folded_byte f fs at k l ∙ sym (first_byte f fs at k.positive) in
    rw (b, end, mine) refl))
    (folded_forbidden f fs ∙ sym (first_forbidden f fs k.positive))
    (ap (λ z. counted (eqb wide z) (folded f fs).niches) (folded_size f fs)
    ∙ ap (counted (eqb wide (end_of f.size fs))) (folded_niches f fs)
    ∙ closed_count wide (end_of f.size fs) (f.size + total_size fs) (added f.niches (total_count fs)) (omega (arith, at_least (folded f fs).size whole, folded_size f fs)) (end_least f.size fs)
    ∙ ap (λ z. counted (eqb z (f.size + total_size fs)) (added f.niches (total_count fs))) size)
    (folded_indirections f fs)

pub fold_is_struct : FoldLaw
unfolding rounded_to struct_frame entries_below
fold_is_struct [] None l = refl
fold_is_struct [] (Some align) l = refl
fold_is_struct (f ∷ fs) None l =
    let p = all_parts f fs l in
    let k = lawful_keeps f p.0 in
    closing f fs (folded f fs).align None k p.1 refl
fold_is_struct (f ∷ fs) (Some align) l =
    let p = all_parts f fs l in
    let k = lawful_keeps f p.0 in
    closing f fs (max (folded f fs).align align) (Some align) k p.1 refl
