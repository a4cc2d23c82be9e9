-- The frame of a sum keeps what frames keep.
use Rattle.std.proofs.Common.{◌≡◌, ℕ, ◌+◌, ◌*◌, ◌%◌, ◌≤◌, Option, Some, None, true, refl, ◌⊎◌, inl, inr, arith}
use Rattle.std.proofs.Math.Nat.{add-zero, add-mod_right}
use Rattle.abi_bits.specs.Pairs.{are_below}
use Rattle.abi_det.specs.Frame.{Frame, IsLawful}
use Rattle.abi_det.specs.Roles.{larger, smaller, sum_align, union_size, spare_byte}
use Rattle.abi_det.specs.Offers.{Niche, first_offer}
use Rattle.abi_det.specs.Written.{placement_of, without, beside_tag, sum_frame, written_placement, written_sum}
use Rattle.abi_det.specs.Laws.{LawfulSumLaw}
use Rattle.abi_det.specs.declared.placements.Placement.{Placement}
use Rattle.abi_det.proofs.Entries.{entries_lie}
use Rattle.abi_det.proofs.Sizes.{lawful_from, sum_alignment, union_rounded}

-- whole alignments in front keep the size a multiple
front_whole : (u a front : ℕ) → u % a ≡ 0 → (front ≡ 0) ⊎ (front ≡ a) → (u + front) % a ≡ 0
front_whole u a front whole (inl none) = rw (none, add-zero) whole
front_whole u a front whole (inr one) = rw (one, add-mod_right u a) whole

frame_lawful : (ok err : Frame) (p : Placement) → IsLawful ok → IsLawful err → (p.front ≡ 0) ⊎ (p.front ≡ sum_align ok err)
    → are_below (union_size ok err + p.front) p.exported ≡ true → union_size ok err + p.front ≤ 1048576 → IsLawful (sum_frame ok err p)
frame_lawful ok err p a b front below small =
    lawful_from (sum_frame ok err p) (sum_alignment ok err a b) small
    (front_whole (union_size ok err) (sum_align ok err) p.front (union_rounded ok err a b).2 front) below refl

exported_below : (ok err : Frame) (found : Option (ℕ × Niche)) → let p : Placement = placement_of ok err found in
    ((p.front ≡ 0) ⊎ (p.front ≡ sum_align ok err)) × (are_below (union_size ok err + p.front) p.exported ≡ true)
exported_below ok err None = (inr refl, entries_lie beside_tag (union_size ok err + sum_align ok err) (sum_align ok err) (omega arith))
exported_below ok err (Some found) =
    let bits : ℕ → ℕ = without found.1.test (spare_byte (larger ok err) (smaller ok err) (found.0 * (smaller ok err).align) (union_size ok err)) in
    (inl refl, entries_lie bits (union_size ok err + 0) (union_size ok err) (omega arith))

pub lawful_sum : LawfulSumLaw
unfolding written_sum written_placement
lawful_sum rules ok err a b small =
    let found : Option (ℕ × Niche) = first_offer rules (larger ok err) (smaller ok err) (union_size ok err) 8 in
    let e = exported_below ok err found in
    frame_lawful ok err (placement_of ok err found) a b e.0 e.1 small
