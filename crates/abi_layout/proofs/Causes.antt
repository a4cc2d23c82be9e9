-- The fault of a description is never want of memory.
use Rattle.std.proofs.Common.{◌≡◌, ℕ, ◌+◌, Bool, true, false, not, Option, Some, None, cond, ltb}
use Rattle.abi_num.specs.Alignment.{is_alignment}
use Rattle.abi_num.specs.Target.{is_row}
use Rattle.abi_num.specs.declared.target.Target.{Target}
use Rattle.abi_det.specs.Frame.{Frame}
use Rattle.abi_det.specs.Offers.{Rules, or_else}
use Rattle.abi_layout.specs.CoreSums.{is_core_sum}
use Rattle.abi_layout.specs.Faults.{unless, size_fault, align_fault, form_fault, stability_fault, own_fault, part_fault, part_fault_in, desc_fault}
use Rattle.abi_layout.specs.Forms.{form_of}
use Rattle.abi_layout.specs.Frames.{written_frame}
use Rattle.abi_layout.specs.Laws.{CauseLaw}
use Rattle.abi_layout.specs.Leaves.{is_sized, is_leaf}
use Rattle.abi_layout.specs.Prims.{is_form}
use Rattle.abi_layout.specs.Trees as trees
use Rattle.abi_layout.specs.Trees.{Tree, Branches, parts, parts_in, variant_parts}
use Rattle.abi_layout.specs.declared.desc_error.DescError.{DescError}
use Rattle.abi_layout.specs.declared.desc_error.DescError.TheVariants as of_desc

abbrev IsCause : Option DescError → Type 0
IsCause fault = fault ≡ Some of_desc.OutOfMemory → ⊥

either : (a b : Option DescError) → IsCause a → IsCause b → IsCause (or_else a b)
either None b first second = second
either (Some x) b first second = first

refused : (b : Bool) (fault : DescError) → IsCause (Some fault) → IsCause (unless b fault)
refused true fault h = λ e. cc
refused false fault h = h

sized : (part : ℕ) (f : Frame) → IsCause (size_fault part f)
sized part f = chosen (ltb 1048576 f.size)
  where
    chosen : (b : Bool) → IsCause (cond b (Some (of_desc.TooLarge part)) None)
    chosen true = λ e. cc
    chosen false = λ e. cc

aligned : (part : ℕ) (align : Option ℕ) → IsCause (align_fault part align)
aligned part None = λ e. cc
aligned part (Some align) = refused (is_alignment align) (of_desc.IllFormed part) (λ e. cc)

formed : (target : Target) (part : ℕ) (t : Tree) → IsCause (form_fault target part t)
formed target part (trees.prim p) = refused (is_form target (form_of p)) (of_desc.IllFormed part) (λ e. cc)
formed target part (trees.struct label fs align) = aligned part align
formed target part (trees.array item len) = refused (not (ltb 128 len)) (of_desc.ArrayLength part) (λ e. cc)
formed target part (trees.union side) = λ e. cc
formed target part (trees.sum names side) = λ e. cc
formed target part (trees.core names side) = λ e. cc
formed target part (trees.wrap kind t) = λ e. cc
formed target part (trees.stable_if value condition) = λ e. cc
formed target part (trees.pointer kind t) = λ e. cc
formed target part (trees.no_niches size align niches indirections) = refused (is_sized size align) (of_desc.IllFormed part) (λ e. cc)
formed target part (trees.leaf l) = refused (is_leaf l) (of_desc.IllFormed part) (λ e. cc)

stable : (rules : Rules) (target : Target) (part : ℕ) (t : Tree) → IsCause (stability_fault rules target part t)
stable rules target part (trees.core names side) =
    refused (is_core_sum (written_frame rules target (side true)) (written_frame rules target (side false))) (of_desc.NotStable part) (λ e. cc)
stable rules target part (trees.prim p) = λ e. cc
stable rules target part (trees.struct label fs align) = λ e. cc
stable rules target part (trees.array item len) = λ e. cc
stable rules target part (trees.union side) = λ e. cc
stable rules target part (trees.sum names side) = λ e. cc
stable rules target part (trees.wrap kind t) = λ e. cc
stable rules target part (trees.stable_if value condition) = λ e. cc
stable rules target part (trees.pointer kind t) = λ e. cc
stable rules target part (trees.no_niches size align niches indirections) = λ e. cc
stable rules target part (trees.leaf l) = λ e. cc

own : (rules : Rules) (target : Target) (part : ℕ) (t : Tree) → IsCause (own_fault rules target part t)
own rules target part t =
    let whole = size_fault part (written_frame rules target t) in
    either (form_fault target part t) (or_else (stability_fault rules target part t) whole) (formed target part t)
    (either (stability_fault rules target part t) whole (stable rules target part t) (sized part (written_frame rules target t)))

-- a part after those in it
after_one : (a : Option DescError) (rules : Rules) (target : Target) (part : ℕ) (t : Tree) → IsCause a → IsCause (or_else a (own_fault rules target part t))
after_one a rules target part t h = either a (own_fault rules target part t) h (own rules target part t)

after_two : (a b : Option DescError) (rules : Rules) (target : Target) (part : ℕ) (t : Tree) → IsCause a → IsCause b
    → IsCause (or_else a (or_else b (own_fault rules target part t)))
after_two a b rules target part t h k = either a (or_else b (own_fault rules target part t)) h (after_one b rules target part t k)

mutual
  part_cause : (rules : Rules) (target : Target) (first : ℕ) (t : Tree) → IsCause (part_fault rules target first t)
  part_cause rules target first (trees.prim p) = own rules target first (trees.prim p)
  part_cause rules target first (trees.struct label fs align) =
      after_one (part_fault_in rules target first fs) rules target (first + parts_in fs) (trees.struct label fs align) (part_cause_in rules target first fs)
  part_cause rules target first (trees.array item len) =
      after_one (part_fault rules target first item) rules target (first + parts item) (trees.array item len) (part_cause rules target first item)
  part_cause rules target first (trees.union side) =
      after_two (part_fault rules target first (side true)) (part_fault rules target (first + parts (side true)) (side false)) rules target
      (first + (parts (side true) + parts (side false))) (trees.union side)
      (part_cause rules target first (side true)) (part_cause rules target (first + parts (side true)) (side false))
  part_cause rules target first (trees.sum names side) =
      after_two (part_fault rules target first (side true)) (part_fault rules target (first + parts (side true)) (side false)) rules target
      (first + variant_parts names (parts (side true)) (parts (side false))) (trees.sum names side)
      (part_cause rules target first (side true)) (part_cause rules target (first + parts (side true)) (side false))
  part_cause rules target first (trees.core names side) =
      after_two (part_fault rules target first (side true)) (part_fault rules target (first + parts (side true)) (side false)) rules target
      (first + variant_parts names (parts (side true)) (parts (side false))) (trees.core names side)
      (part_cause rules target first (side true)) (part_cause rules target (first + parts (side true)) (side false))
  part_cause rules target first (trees.wrap kind t) =
      after_one (part_fault rules target first t) rules target (first + parts t) (trees.wrap kind t) (part_cause rules target first t)
  part_cause rules target first (trees.stable_if value condition) =
      after_two (part_fault rules target first value) (part_fault rules target (first + parts value) condition) rules target
      (first + (parts value + parts condition)) (trees.stable_if value condition)
      (part_cause rules target first value) (part_cause rules target (first + parts value) condition)
  part_cause rules target first (trees.pointer kind t) =
      after_one (part_fault rules target first t) rules target (first + parts t) (trees.pointer kind t) (part_cause rules target first t)
  part_cause rules target first (trees.no_niches size align niches indirections) = own rules target first (trees.no_niches size align niches indirections)
  part_cause rules target first (trees.leaf l) = own rules target first (trees.leaf l)

  part_cause_in : (rules : Rules) (target : Target) (first : ℕ) (fs : Branches) → IsCause (part_fault_in rules target first fs)
  part_cause_in rules target first trees.none = λ e. cc
  part_cause_in rules target first (trees.field name t fs) =
      either (part_fault rules target first t) (part_fault_in rules target (first + parts t) fs) (part_cause rules target first t) (part_cause_in rules target (first + parts t) fs)

pub desc_cause : CauseLaw
unfolding desc_fault
desc_cause rules target t = by_target (is_row target) (ltb 4096 (parts t))
  where
    by_target : (row many : Bool) → IsCause (cond (not row) (Some of_desc.BadTarget) (cond many (Some of_desc.TooManyParts) (part_fault rules target 0 t)))
    by_target false many = λ e. cc
    by_target true true = λ e. cc
    by_target true false = part_cause rules target 0 t
