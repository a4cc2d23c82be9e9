-- Edits: where a path leads through a description and a value, the value with another one there, and the bytes that come of it.
use Rattle.std.specs.Prelude.{◌≡◌, ◌⊎◌, ℕ, zero, suc, ◌+◌, ◌*◌, ◌<◌, ◌≤◌, List, [], ◌∷◌, length, Bool, true, false, nat_lt, Option, Some, None, slice_index, if◌then◌else◌}
use Rattle.std.specs.Int.{bit_at}
use Rattle.abi_num.specs.Target.{same_bool}
use Rattle.abi_num.specs.declared.target.Target.{Target}
use Rattle.abi_det.specs.Offers.{Rules}
use Rattle.abi_layout.specs.Frames.{written_frame, written_frames}
use Rattle.abi_layout.specs.Structs.{Positioned, positions}
use Rattle.abi_layout.specs.Trees.{Tree, Branches, struct, array, sum, core, wrap, stable_if, field}
use Rattle.abi_layout.specs.declared.part.Sort.{Sort}
use Rattle.abi_layout.specs.declared.part.Sort.TheVariants as sort
use Rattle.abi_pack.specs.ByteMap.{AreBytes, bytes_of}
use Rattle.abi_pack.specs.Plain.{Plain, Plains, list, variant, end, more}
use Rattle.abi_pack.specs.Values.{fits, Shows, holds, placement_of, variant_start}
use Rattle.abi_pack.specs.declared.step.Step.{Step}
use Rattle.abi_pack.specs.declared.step.Step.TheVariants as step
use Rattle.abi_pack.specs.declared.plan.EditError.{EditError}
use Rattle.abi_pack.specs.declared.plan.EditError.TheVariants as error

-- what a step enters: no part of the description, a variant in which the value is not, or a part: what it is, where it starts, and its value
pub data Entered : Type 0 where
  nothing : Entered
  other_variant : Entered
  part : Tree → ℕ → Plain → Entered

-- the variant that a step enters, of those that are called so
abbrev pub variant_entered : Sort → Step → Option Bool
variant_entered sort.OfResult step.Ok = Some true
variant_entered sort.OfResult step.Err = Some false
variant_entered sort.OfOption step.Some = Some true
variant_entered _ _ = None

-- the variant's part where the value is in it
abbrev pub in_variant : Option Bool → Bool → Entered → Entered
in_variant None first there = nothing
in_variant (Some wanted) first there = if same_bool wanted first then there else other_variant

-- field number n, at its position
abbrev pub field_at : Branches → List Positioned → Plains → ℕ → Entered
field_at (field name t fs) (p ∷ ps) (more v vs) zero = part t p.start v
field_at (field name t fs) (p ∷ ps) (more v vs) (suc n) = field_at fs ps vs n
field_at _ _ _ n = nothing

-- item number n, at its number times the size
abbrev pub item_at : Tree → ℕ → Plains → ℕ → Entered
item_at t start end n = nothing
item_at t start (more v vs) zero = part t start v
item_at t start (more v vs) (suc n) = item_at t start vs n

-- a step into a value of the description; at a wrapper it acts on what is wrapped
abbrev pub entered : Rules → Target → Tree → Plain → Step → Entered
entered rules target (struct label fs align) (list vs) (step.Field n) =
    field_at fs (positions 0 (written_frames rules target fs)) vs n
entered rules target (array item len) (list vs) (step.Item n) =
    if nat_lt n len then item_at item (n * (written_frame rules target item).size) vs n else nothing
entered rules target (sum names side) (variant kind first v) s =
    in_variant (variant_entered names s) first
    (part (side first) (variant_start (placement_of rules target side) first) v)
entered rules target (core names side) (variant kind first v) s =
    in_variant (variant_entered names s) first (part (side first) 0 v)
entered rules target (wrap kind t) v s = entered rules target t v s
entered rules target (stable_if value condition) v s = entered rules target value v s
entered rules target _ v s = nothing

-- ---- paths

-- why the part at the path does not get the value w: the first step that fails, or that w is none of the part's
abbrev pub fault_in : (Tree → Plain → Option EditError) → Entered → Option EditError
fault_in rest nothing = Some error.NoSuchPath
fault_in rest other_variant = Some error.WrongVariant
fault_in rest (part t start v) = rest t v

abbrev pub edit_fault : Rules → Target → Tree → Plain → List Step → Plain → Option EditError
edit_fault rules target t v [] w = if fits rules target t w then None else Some error.WrongPart
edit_fault rules target t v (s ∷ path) w =
    fault_in (λ t' v'. edit_fault rules target t' v' path w) (entered rules target t v s)

-- the bytes of a part: where it starts, and how many they are
pub record Range : Type 0 where
  pub start : ℕ
  pub size : ℕ

abbrev pub no_range : Range
no_range = record { start = 0; size = 0 }

abbrev pub range_in : (Tree → Plain → Range) → Entered → Range
range_in rest nothing = no_range
range_in rest other_variant = no_range
range_in rest (part t start v) = record { start = start + (rest t v).start; size = (rest t v).size }

-- the bytes of the part at a path
abbrev pub range_of : Rules → Target → Tree → Plain → List Step → Range
range_of rules target t v [] = record { start = 0; size = (written_frame rules target t).size }
range_of rules target t v (s ∷ path) =
    range_in (λ t' v'. range_of rules target t' v' path) (entered rules target t v s)

-- ---- the edited value

abbrev pub set_in : Plains → ℕ → Plain → Plains
set_in end n w = end
set_in (more v vs) zero w = more w vs
set_in (more v vs) (suc n) w = more v (set_in vs n w)

-- the value with another one where the step leads
abbrev pub replaced : Plain → Step → Plain → Plain
replaced (list vs) (step.Field n) w = list (set_in vs n w)
replaced (list vs) (step.Item n) w = list (set_in vs n w)
replaced (variant kind first v) s w = variant kind first w
replaced v s w = v

abbrev pub edited_in : (Tree → Plain → Plain) → Entered → Plain → Plain
edited_in rest nothing v = v
edited_in rest other_variant v = v
edited_in rest (part t start v) v' = rest t v

-- the value with w at the path
abbrev pub edited : Rules → Target → Tree → Plain → List Step → Plain → Plain
edited rules target t v [] w = w
edited rules target t v (s ∷ path) w =
    replaced v s
    (edited_in (λ t' v'. edited rules target t' v' path w) (entered rules target t v s) v)

-- ---- the edited bytes

abbrev pub IsOutside : Range → ℕ → Type 0
IsOutside r i = (i < r.start) ⊎ (r.start + r.size ≤ i)

-- the bytes agree with the old ones outside the range, show the edited value, and have 0 at every bit of the range that it does not hold
pub record IsEdited (rules : Rules) (target : Target) (t : Tree) (v : Plain) (path : List Step)
    (w : Plain) (old new : List ℕ) : Type 0 where
  pub long : length new ≡ length old
  pub bytes : AreBytes (bytes_of new)
  pub outside : (i : ℕ) → IsOutside (range_of rules target t v path) i
      → slice_index new i ≡ slice_index old i
  pub shows : Shows rules target t (edited rules target t v path w) (bytes_of new)
  pub clear : (i k : ℕ) → (range_of rules target t v path).start ≤ i
      → i < (range_of rules target t v path).start + (range_of rules target t v path).size → k < 8
      → holds rules target t (edited rules target t v path w) i k ≡ false
      → bit_at (bytes_of new i) k ≡ 0

-- the edit of bytes, whatever value they show
abbrev pub IsEdit : Rules → Target → Tree → List Step → Plain → List ℕ → List ℕ → Type 0
IsEdit rules target t path w old new =
    (v : Plain) → Shows rules target t v (bytes_of old)
    → (edit_fault rules target t v path w ≡ None) × IsEdited rules target t v path w old new

-- why they are not edited
abbrev pub IsRefused : Rules → Target → Tree → List Step → Plain → List ℕ → EditError → Type 0
IsRefused rules target t path w old e =
    (v : Plain) → Shows rules target t v (bytes_of old)
    → edit_fault rules target t v path w ≡ Some e
