-- The sides of frames: they are lawful, and their placement is that of the frames.
use Rattle.std.proofs.Common.{◌≡◌, ℕ, Bool, zero, suc, ◌+◌, ◌%◌, ◌≤◌, ◌⊎◌, true, false, ◌&&◌, cond, eqb, leb, ltb, List, [], ◌∷◌, ◌++◌, Option, Some, None, is_some, map, refl, sym, ap, ◌∙◌, inl, inr, arith}
use Rattle.std.specs.List.{list_all}
use Rattle.std.proofs.lemmas.Bool.{and_parts, and_from, le-ltb, cases_Bool}
use Rattle.abi_num.specs.Alignment.{is_alignment}
use Rattle.abi_bits.specs.Pairs.{Pair, are_below}
use Rattle.abi_bits.specs.Mask.{mask_at, entries_below, IsMask}
use Rattle.abi_bits.specs.Forbidden.{Item, pattern, range, offered, is_solid_byte, is_solid_item}
use Rattle.abi_bits.proofs.Entries.{from_bytes}
use Rattle.abi_det.specs.Frame.{Frame, IsLawful, forbids, head}
use Rattle.abi_det.specs.Roles.{union_size}
use Rattle.abi_det.specs.Offers.{Rules, Niche, first_of, leading_pattern, offer_at, first_offer}
use Rattle.abi_det.specs.Written.{refusal_at, refusals_below, placement_of, written_placement}
use Rattle.abi_det.specs.Counted.{frame_of, side_of, found_of, most_steps}
use Rattle.abi_det.specs.declared.rules.Rules.TheVariants as version
use Rattle.abi_det.specs.declared.counted.Found.{Found}
use Rattle.abi_det.specs.declared.side.Side.{Side}
use Rattle.abi_det.proofs.Entries.{entries_step, entries_lie}
use Rattle.abi_det.proofs.Lawful.{parts}
use Rattle.abi_det.proofs.Heads.{head_leads}
use Rattle.abi_det.proofs.Sides.{offered_patterns, seen_forbids, seen_head}
use Rattle.abi_det.proofs.Sizes.{union_least}

abbrev side_frame : Frame → Frame
side_frame f = frame_of (side_of f)

solid_offered : (size : ℕ) (free : List Pair) (its : List Item) → list_all (is_solid_item size free) its ≡ true
    → list_all (is_solid_item size free) (map pattern (offered its)) ≡ true
solid_offered size free [] h = refl
solid_offered size free (pattern ps ∷ its) h =
    let q = and_parts (is_solid_item size free (pattern ps)) (list_all (is_solid_item size free) its) h in
    and_from (is_solid_item size free (pattern ps)) (list_all (is_solid_item size free) (map pattern (offered its))) q.0 (solid_offered size free its q.1)
solid_offered size free (range at least greatest ∷ its) h =
    let q = and_parts (is_solid_byte size free at && ltb least greatest) (list_all (is_solid_item size free) its) h in
    let r = and_parts (is_solid_byte size free at) (ltb least greatest) q.0 in
    and_from (is_solid_byte size free at && true) (list_all (is_solid_item size free) (map pattern (offered its)))
    (and_from (is_solid_byte size free at) true r.0 refl) (solid_offered size free its q.1)

side_forbids : (f : Frame) → forbids (side_frame f) ≡ map pattern (offered (forbids f))
side_forbids f = seen_forbids (offered (forbids f)) (is_some (head f))

side_offered : (f : Frame) → offered (forbids (side_frame f)) ≡ offered (forbids f)
side_offered f = ap offered (side_forbids f) ∙ offered_patterns (offered (forbids f))

pub side_lawful : (f : Frame) → IsLawful f → IsLawful (side_frame f)
side_lawful f h =
    let own : Bool = is_alignment f.align && leb f.size 1048576 && eqb (f.size % f.align) 0 && are_below f.size f.free in
    let q = and_parts own (list_all (is_solid_item f.size f.free) (forbids f)) h in
    and_from own (list_all (is_solid_item f.size f.free) (forbids (side_frame f))) q.0 (rw (side_forbids f) (solid_offered f.size f.free (forbids f) q.1))

head_if : (o x : Option (List Pair)) → ((ps : List Pair) → o ≡ Some ps → x ≡ Some ps) → cond (is_some o) x None ≡ o
head_if None x h = refl
head_if (Some ps) x h = h ps refl

head_same : (f : Frame) → head (side_frame f) ≡ head f
head_same f = seen_head (offered (forbids f)) (is_some (head f)) ∙ head_if (head f) (first_of (offered (forbids f))) (head_leads f.forbidden)

leading_same : (rules : Rules) (f : Frame) → leading_pattern rules (side_frame f) ≡ leading_pattern rules f
leading_same version.One f = head_same f
leading_same version.Two f = ap first_of (side_offered f)

module _ (rules : Rules) (large small : Frame) (size : ℕ) where
  offer_same : (k : ℕ) → offer_at rules (side_frame large) (side_frame small) size k ≡ offer_at rules large small size k
  unfolding offer_at
  offer_same k = rw (leading_same rules large, side_offered large, side_offered small) refl

  first_same : (k : ℕ) → first_offer rules (side_frame large) (side_frame small) size k ≡ first_offer rules large small size k
  unfolding first_offer
  first_same zero = refl
  first_same (suc k) = rw (first_same k, offer_same k) refl

module _ (large small : Frame) (size : ℕ) where
  refusal_same : (k : ℕ) → refusal_at (side_frame large) (side_frame small) size k ≡ refusal_at large small size k
  refusal_same k = rw (side_offered large, side_offered small) refl

  refusals_same : (k : ℕ) → refusals_below (side_frame large) (side_frame small) size k ≡ refusals_below large small size k
  unfolding refusals_below
  refusals_same zero = refl
  refusals_same (suc k) = rw (refusals_same k, refusal_same k) refl

module _ (ok err : Frame) where
  ok_first : (o : Option (ℕ × Niche)) → leb err.size ok.size ≡ true → placement_of (side_frame ok) (side_frame err) o ≡ placement_of ok err o
  ok_first None e = rw (e, refusals_same ok err (union_size ok err) 8) refl
  ok_first (Some found) e = rw e refl

  err_first : (o : Option (ℕ × Niche)) → leb err.size ok.size ≡ false → placement_of (side_frame ok) (side_frame err) o ≡ placement_of ok err o
  err_first None e = rw (e, refusals_same err ok (union_size ok err) 8) refl
  err_first (Some found) e = rw e refl

  -- sides have the placement of their frames
  pub placement_same : (rules : Rules) → written_placement rules (side_frame ok) (side_frame err) ≡ written_placement rules ok err
  unfolding written_placement
  placement_same rules = elim (cases_Bool (leb err.size ok.size)) [
    | inl e ↦ rw (e, first_same rules ok err (union_size ok err) 8) (ok_first (first_offer rules ok err (union_size ok err) 8) e)
    | inr e ↦ rw (e, first_same rules err ok (union_size ok err) 8) (err_first (first_offer rules err ok (union_size ok err) 8) e)
  ]

pub nothing_read : (free : List Pair) → [] ≡ entries_below (mask_at free) 0
unfolding entries_below
nothing_read free = refl

pub room_for_byte : (free old : List Pair) (at : ℕ) → old ≡ entries_below (mask_at free) at → are_below at old ≡ true
room_for_byte free old at before = rw before (entries_lie (mask_at free) at at (omega arith))

pub one_more_read : (free old new : List Pair) (at byte : ℕ) → byte ≡ mask_at free at → old ≡ entries_below (mask_at free) at
    → new ≡ old ++ cond (eqb byte 0) [] ((at, byte) ∷ []) → new ≡ entries_below (mask_at free) (at + 1)
one_more_read free old new at byte is before after =
    after ∙ rw before (sym (entries_step (mask_at free) at at byte (omega arith) (λ i g lt. absurd (omega (arith, g, lt))) (sym is)))

none_below : (es : List Pair) → are_below 0 es ≡ true → es ≡ []
none_below [] h = refl
none_below (e ∷ es) h =
    let none : ltb e.0 0 ≡ false = le-ltb e.0 0 (omega arith) in
    absurd (let q : false ≡ true = rw none at h in cc)

-- the bytes of the side tell all of its free bits
pub all_read : (side : Side) (mask : List Pair) → IsLawful (frame_of side) → (side.size ≡ 0) ⊎ IsMask side.free → mask ≡ entries_below (mask_at side.free) side.size
    → mask ≡ side.free
all_read side mask h m is =
    let p = parts (frame_of side) h in elim m [
      | inl none ↦ is ∙ rw none (sym (nothing_read side.free)) ∙ sym (none_below side.free (rw none at p.free))
      | inr valid ↦ is ∙ sym (from_bytes side.free side.size valid p.free p.size)
    ]

pub steps_fit : (ok err : Side) → IsLawful (frame_of ok) → IsLawful (frame_of err) → ok.size + err.size ≤ most_steps ok err
steps_fit ok err a b = let u = union_least (frame_of ok) (frame_of err) a b in omega (arith, u.0, u.1)

-- what is found of the sides of frames is what is found of the frames
pub found_same : (rules : Rules) (ok err a b : Frame) (f : Found) → a ≡ side_frame ok → b ≡ side_frame err
    → f ≡ found_of (written_placement rules a b) → f ≡ found_of (written_placement rules ok err)
found_same rules ok err a b f ea eb is = is ∙ rw (ea, eb) (ap found_of (placement_same ok err rules))
