-- The size of a union in the form in which it is computed, and the frame of a sum with its placement.
use Rattle.std.proofs.Common.{◌≡◌, ◌+◌, ◌^◌, ◌<◌, ◌≤◌, max, ◌||◌, rules, refl, sym, ◌∙◌, subst, arith}
use Rattle.std.specs.Int.{next_multiple_of}
use Rattle.abi_bits.specs.Forbidden.{nothing, tree}
use Rattle.abi_bits.specs.declared.forbidden_values.ForbiddenValues.{End, the_lemmas}
use Rattle.abi_bits.specs.declared.saturating_add_value.SaturatingAddValue.TheVariants as count
use Rattle.abi_det.specs.Frame.{Frame, IsLawful}
use Rattle.abi_det.specs.FrameOf.{frame}
use Rattle.abi_det.specs.Roles.{union_size, sum_align}
use Rattle.abi_det.specs.Offers.{Rules}
use Rattle.abi_det.specs.Written.{written_placement, IsPlacement, sum_frame, written_sum}
use Rattle.abi_det.specs.declared.raw_layout.RawLayout.{RawLayout}
use Rattle.abi_det.specs.declared.placements.Placement.{Placement}
use Rattle.abi_det.proofs.Sizes.{union_small}
use Rattle.abi_det.proofs.Sums.{lawful_sum}

pub union_bound : (ok err : Frame) → IsLawful ok → IsLawful err → union_size ok err ≤ 1048576
union_bound ok err a b = union_small ok err a b

pub rounded_fits : (ok err : Frame) → IsLawful ok → IsLawful err → next_multiple_of (max ok.size err.size) (sum_align ok err) < 2 ^ 64
rounded_fits ok err a b = omega (arith, union_small ok err a b)

tree_end : tree End ≡ nothing
tree_end = search (rules, the_lemmas)

-- the parts of a sum's layout are those of its frame with the placement
pub sum_made : (ok err : Frame) (p : Placement) (raw : RawLayout) → raw.size ≡ union_size ok err + p.front → raw.align ≡ sum_align ok err
    → raw.forbidden ≡ End → raw.unused ≡ p.exported → raw.niches ≡ count.B0 → raw.indirections ≡ (ok.indirections || err.indirections)
    → frame raw ≡ sum_frame ok err p
sum_made ok err p raw size align forbidden unused niches indirections =
    rw (size, align, forbidden, unused, niches, indirections, tree_end) refl

-- which is the written one under the rules of the placement
pub sum_written : (rules : Rules) (ok err made : Frame) (p : Placement) → made ≡ sum_frame ok err p → p ≡ written_placement rules ok err → made ≡ written_sum rules ok err
unfolding written_sum
sum_written rules ok err made p is e = is ∙ rw e refl

pub sum_lawful : (ok err made : Frame) (p : Placement) → made ≡ sum_frame ok err p → IsPlacement ok err p → IsLawful ok → IsLawful err
    → union_size ok err + p.front ≤ 1048576 → IsLawful made
sum_lawful ok err made p is e a b le =
    subst (λ f. IsLawful f) (sym (sum_written e.0 ok err made p is e.1)) (lawful_sum e.0 ok err a b (rw e.1 at le))
