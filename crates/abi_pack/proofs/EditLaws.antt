-- The laws of edited bytes.
use Rattle.std.specs.Int.{bit_at}
use Rattle.std.proofs.Common.{◌≡◌, ℕ, ◌+◌, ◌<◌, ◌≤◌, ◌⊎◌, inl, inr, List, get_or, true, false, None, ap, ◌∙◌, sym, subst, arith}
use Rattle.std.proofs.lemmas.List.{ext_get_or}
use Rattle.abi_num.specs.declared.target.Target.{Target}
use Rattle.abi_det.specs.Offers.{Rules}
use Rattle.abi_layout.specs.Faults.{desc_fault}
use Rattle.abi_layout.specs.Frames.{written_frame}
use Rattle.abi_layout.specs.Plans.{shape_of}
use Rattle.abi_layout.specs.Trees.{Tree}
use Rattle.abi_pack.specs.ByteMap.{AreBytes, bytes_of}
use Rattle.abi_pack.specs.EditLaws.{OneEditLaw, CanonicalEditLaw}
use Rattle.abi_pack.specs.Edits.{Range, IsOutside, range_of, edited, edit_fault, IsEdited}
use Rattle.abi_pack.specs.Plain.{Plain}
use Rattle.abi_pack.specs.Shows as of_shape
use Rattle.abi_pack.specs.Values.{Shows, holds}
use Rattle.abi_pack.specs.declared.step.Step.{Step}
use Rattle.abi_pack.proofs.Choice.{two_truths}
use Rattle.abi_pack.proofs.EditedBits.{held_outside}
use Rattle.abi_pack.proofs.Lawful.{formed, faultless_covered, faultless_shows, tree_held}
use Rattle.abi_pack.proofs.Restoring.{inside_range, outside_range}
use Rattle.abi_pack.specs.ShapeEdits.{is_inside}
use Rattle.abi_pack.proofs.TreeEdits.{followed}
use Rattle.abi_pack.proofs.TreeValues.{same_size, same_holds}
use Rattle.abi_pack.proofs.Truths.{same_byte}

-- a byte is replaced, or it is as it was
two_places : (r : Range) (i : ℕ) → ((r.start ≤ i) × (i < r.start + r.size)) ⊎ IsOutside r i
two_places r i = pick (two_truths (is_inside r i))
  where
    pick : (is_inside r i ≡ true) ⊎ (is_inside r i ≡ false) → ((r.start ≤ i) × (i < r.start + r.size)) ⊎ IsOutside r i
    pick (inl h) = inl (inside_range r i h)
    pick (inr h) = inr (outside_range r i h)

module _ (rules : Rules) (target : Target) (t : Tree) (v : Plain) (path : List Step) (w : Plain) (faultless : desc_fault rules target t ≡ None) where
  edited_byte : (old bs cs : List ℕ) (i : ℕ) → i < (written_frame rules target t).size → IsEdited rules target t v path w old bs → IsEdited rules target t v path w old cs
      → (((range_of rules target t v path).start ≤ i) × (i < (range_of rules target t v path).start + (range_of rules target t v path).size)) ⊎ IsOutside (range_of rules target t v path) i
      → get_or bs i 0 ≡ get_or cs i 0
  edited_byte old bs cs i low b c (inr out) = b.outside i out ∙ sym (c.outside i out)
  edited_byte old bs cs i low b c (inl place) = same_byte (get_or bs i 0) (get_or cs i 0) (b.bytes i) (c.bytes i) (λ k small. bit k small (two_truths (holds rules target t (edited rules target t v path w) i k)))
    where
      bit : (k : ℕ) → k < 8 → (holds rules target t (edited rules target t v path w) i k ≡ true) ⊎ (holds rules target t (edited rules target t v path w) i k ≡ false)
          → bit_at (get_or bs i 0) k ≡ bit_at (get_or cs i 0) k
      bit k small (inl held) =
          tree_held rules target t (edited rules target t v path w) (bytes_of bs) (bytes_of cs) faultless b.bytes c.bytes b.shows c.shows i k low small held
      bit k small (inr free) = b.clear i k place.0 place.1 small free ∙ sym (c.clear i k place.0 place.1 small free)

  -- beside the replaced bytes the edited value holds the bits that were held
  still_held : (old : List ℕ) → AreBytes (bytes_of old) → Shows rules target t v (bytes_of old) → edit_fault rules target t v path w ≡ None
      → (i k : ℕ) → i < (written_frame rules target t).size → IsOutside (range_of rules target t v path) i
      → holds rules target t (edited rules target t v path w) i k ≡ holds rules target t v i k
  still_held old bytes shown none i k low out =
      let is = followed rules target path w t v (bytes_of old) (formed rules target t faultless) bytes shown in
      same_holds rules target t (edited rules target t v path w) i k
      ∙ ap (λ x. of_shape.holds (shape_of rules target t) x i k) (is.value none)
      ∙ held_outside path w (shape_of rules target t) v (bytes_of old) (faultless_covered rules target t faultless).sound bytes
      ((faultless_shows rules target t v (bytes_of old) faultless bytes).0 shown) (sym is.fault ∙ none) i k (rw (same_size rules target t) low) (subst (λ r. IsOutside r i) (is.range none) out)
      ∙ sym (same_holds rules target t v i k)

pub one_edit_law : OneEditLaw
one_edit_law rules target t v path w old bs cs faultless long bytes shown none b c =
    ext_get_or 0 bs cs (b.long ∙ sym c.long)
    (λ i h. let low : i < (written_frame rules target t).size = omega (arith, h, b.long, long) in
    edited_byte rules target t v path w faultless old bs cs i low b c (two_places (range_of rules target t v path) i))

pub canonical_edit_law : CanonicalEditLaw
canonical_edit_law rules target t v path w old new faultless image none is = record {
  long = is.long ∙ image.long;
  bytes = is.bytes;
  canonical = record { shows = is.shows; clear = λ i k low small free. clear i k low small free (two_places (range_of rules target t v path) i) };
}
  where
    clear : (i k : ℕ) → i < (written_frame rules target t).size → k < 8 → holds rules target t (edited rules target t v path w) i k ≡ false
        → (((range_of rules target t v path).start ≤ i) × (i < (range_of rules target t v path).start + (range_of rules target t v path).size)) ⊎ IsOutside (range_of rules target t v path) i
        → bit_at (get_or new i 0) k ≡ 0
    clear i k low small free (inl place) = is.clear i k place.0 place.1 small free
    clear i k low small free (inr out) =
        let before : holds rules target t v i k ≡ false =
        sym (still_held rules target t v path w faultless old image.bytes image.canonical.shows none i k low out) ∙ free in
        ap (λ x. bit_at x k) (is.outside i out) ∙ image.canonical.clear i k low small before
