-- What holds of every placement holds of each packed sum of a description without a fault.
use Rattle.std.proofs.Common.{◌≡◌, ℕ, ◌+◌, Bool, true, false, Option, None}
use Rattle.abi_num.specs.Target.{is_row}
use Rattle.abi_num.specs.declared.target.Target.{Target}
use Rattle.abi_bits.specs.Mask.{IsMask}
use Rattle.abi_det.specs.Frame.{Frame}
use Rattle.abi_det.specs.Offers.{One, or_else}
use Rattle.abi_det.specs.Roles.{smaller, union_size}
use Rattle.abi_det.proofs.Chosen.{place_below, sum_size}
use Rattle.abi_det.proofs.Refusing.{complete}
use Rattle.abi_layout.specs.Faults.{own_fault, part_fault, part_fault_in}
use Rattle.abi_layout.specs.Frames.{written_frame}
use Rattle.abi_layout.specs.Trees as trees
use Rattle.abi_layout.specs.Trees.{Tree, Branches, parts, parts_in}
use Rattle.abi_layout.specs.declared.desc_error.DescError.{DescError}
use Rattle.abi_tool.specs.Headline.{IsSized, IsExplained, EachSum, EachSumIn}
use Rattle.abi_layout.proofs.Sounding.{part_sound}
use Rattle.abi_tool.proofs.Faultless.{neither}

pub sized : (ok err : Frame) → IsMask ok.free → IsMask err.free → IsSized ok err
sized ok err mask other =
    let law = sum_size One ok err mask other in
    record {
      niched = λ k a n t place niche. law.1 (λ none. none k (place_below (smaller ok err) (union_size ok err) k place) place a n t niche);
      tagged = law.0;
    }

pub explained : (ok err : Frame) → IsMask ok.free → IsMask err.free → IsExplained ok err
explained ok err mask other =
    let law = complete One ok err mask other in
    record { refused = law.0; niched = law.1 }

-- what holds of every two frames
abbrev IsLaw : (Frame → Frame → Type 0) → Type 0
IsLaw P = (ok err : Frame) → IsMask ok.free → IsMask err.free → P ok err

both : (P : Bool → Type 0) → P true → P false → (first : Bool) → P first
both P a b true = a
both P a b false = b

record AreFaultless (target : Target) (first : ℕ) (side : Bool → Tree) : Type 0 where
  ok : part_fault One target first (side true) ≡ None
  err : part_fault One target (first + parts (side true)) (side false) ≡ None

no_side : (target : Target) (first : ℕ) (side : Bool → Tree) (own : Option DescError)
    → or_else (part_fault One target first (side true)) (or_else (part_fault One target (first + parts (side true)) (side false)) own) ≡ None
    → AreFaultless target first side
no_side target first side own h =
    let a = neither (part_fault One target first (side true)) (or_else (part_fault One target (first + parts (side true)) (side false)) own) h in
    record { ok = a.0; err = (neither (part_fault One target (first + parts (side true)) (side false)) own a.1).0 }

no_inner : (target : Target) (first : ℕ) (t : Tree) (own : Option DescError) → or_else (part_fault One target first t) own ≡ None → part_fault One target first t ≡ None
no_inner target first t own h = (neither (part_fault One target first t) own h).0

module _ (P : Frame → Frame → Type 0) (law : IsLaw P) where
  mutual
    pub each_sum : (target : Target) (first : ℕ) (t : Tree) → is_row target ≡ true → part_fault One target first t ≡ None → EachSum P target t
    each_sum target first (trees.prim p) row h = tt
    each_sum target first (trees.struct label fs align) row h =
        each_sum_in target first fs row (neither (part_fault_in One target first fs) (own_fault One target (first + parts_in fs) (trees.struct label fs align)) h).0
    each_sum target first (trees.array item len) row h = each_sum target first item row (no_inner target first item _ h)
    each_sum target first (trees.union side) row h =
        let a = no_side target first side _ h in
        both (λ first. EachSum P target (side first)) (each_sum target first (side true) row a.ok) (each_sum target (first + parts (side true)) (side false) row a.err)
    each_sum target first (trees.sum names side) row h =
        let a = no_side target first side _ h in (
          law (written_frame One target (side true)) (written_frame One target (side false))
              (part_sound One target first (side true) row a.ok).mask (part_sound One target (first + parts (side true)) (side false) row a.err).mask,
          both (λ first. EachSum P target (side first)) (each_sum target first (side true) row a.ok) (each_sum target (first + parts (side true)) (side false) row a.err),
        )
    each_sum target first (trees.core names side) row h =
        let a = no_side target first side _ h in
        both (λ first. EachSum P target (side first)) (each_sum target first (side true) row a.ok) (each_sum target (first + parts (side true)) (side false) row a.err)
    each_sum target first (trees.wrap kind t) row h = each_sum target first t row (no_inner target first t _ h)
    each_sum target first (trees.stable_if value condition) row h = each_sum target first value row (no_inner target first value _ h)
    each_sum target first (trees.pointer kind t) row h = tt
    each_sum target first (trees.no_niches size align niches indirections) row h = tt
    each_sum target first (trees.leaf l) row h = tt

    each_sum_in : (target : Target) (first : ℕ) (fs : Branches) → is_row target ≡ true → part_fault_in One target first fs ≡ None → EachSumIn P target fs
    each_sum_in target first trees.none row h = tt
    each_sum_in target first (trees.field name t fs) row h =
        let a = neither (part_fault One target first t) (part_fault_in One target (first + parts t) fs) h in
        (each_sum target first t row a.0, each_sum_in target (first + parts t) fs row a.1)
