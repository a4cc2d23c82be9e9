-- Where a path leads through a plan, and the bytes that an edit leaves, in the order in which they are written.
use Rattle.std.specs.Prelude.{◌≡◌, ℕ, zero, suc, ◌+◌, List, [], ◌∷◌, ◌++◌, Bool, true, false, ◌&&◌, nat_le, nat_lt, Option, Some, None, take, drop, slice_set, if◌then◌else◌}
use Rattle.abi_num.specs.Target.{same_bool}
use Rattle.abi_bits.specs.Pairs.{Pair}
use Rattle.abi_det.specs.State.{is_state_ok, put_bits}
use Rattle.abi_det.specs.declared.determinant.Test.{Test}
use Rattle.abi_det.specs.declared.determinant.Test.TheVariants as test
use Rattle.abi_layout.specs.Shape.{Shape, Shapes, fields, sum, last, field, size}
use Rattle.abi_layout.specs.declared.part.Compound.TheVariants as compound
use Rattle.abi_layout.specs.declared.part.SumLayout.{SumLayout}
use Rattle.abi_pack.specs.ByteMap.{ByteMap, seen_from, seen_in}
use Rattle.abi_pack.specs.Edits.{Range, no_range, variant_entered, replaced}
use Rattle.abi_pack.specs.Packed.{packed}
use Rattle.abi_pack.specs.Plain.{Plain, Plains, unit, list, variant, end, more}
use Rattle.abi_pack.specs.Shows.{fits, start_of, sign_of}
use Rattle.abi_pack.specs.View.{shape}
use Rattle.abi_pack.specs.declared.plan.EditError.{EditError}
use Rattle.abi_pack.specs.declared.plan.EditError.TheVariants as error
use Rattle.abi_pack.specs.declared.inner.Inner.{Inner as Found}
use Rattle.abi_pack.specs.declared.restore.Replaced.{Replaced}
use Rattle.abi_pack.specs.declared.step.Step.{Step}
use Rattle.abi_pack.specs.declared.step.Step.TheVariants as step

-- ---- steps

-- a part of a shape, and where it starts
pub record Inner : Type 0 where
  pub part : Shape
  pub start : ℕ

-- field number n of those that begin after `before` bytes
abbrev pub field_named : Shapes → ℕ → ℕ → Option Inner
field_named last n before = None
field_named (field gap s fs) zero before = Some (record { part = s; start = before + gap })
field_named (field gap s fs) (suc n) before = field_named fs n (before + gap + size s)

-- what was found is the part that is named, or none is named
abbrev pub IsFound : Option Found → Option Inner → Type 0
IsFound None inner = inner ≡ None
IsFound (Some found) inner =
    inner ≡ Some (record { part = shape found.part.now; start = found.start })

abbrev pub side_named : (Bool → Shape) → SumLayout → Option Bool → Option Inner
side_named side at None = None
side_named side at (Some first) = Some (record { part = side first; start = start_of at first })

-- what a step names
abbrev pub named : Shape → Step → Option Inner
named (fields compound.Struct n fs) (step.Field k) = field_named fs k 0
named (fields compound.Array n fs) (step.Item k) = field_named fs k 0
named (sum names side at) s = side_named side at (variant_entered names s)
named _ s = None

abbrev pub is_in : Option Bool → Bool → Bool
is_in None first = true
is_in (Some wanted) first = same_bool wanted first

-- the bytes are in the variant that a step names
abbrev pub is_there : Shape → ByteMap → Step → Bool
is_there (sum names side at) f s = is_in (variant_entered names s) (is_state_ok at.determinant f)
is_there _ f s = true

-- ---- paths

abbrev pub fault_by : Option Inner → Bool → (Inner → Option EditError) → Option EditError
fault_by None there rest = Some error.NoSuchPath
fault_by (Some inner) there rest = if there then rest inner else Some error.WrongVariant

-- why the part at the path does not get the value
abbrev pub shape_fault : Shape → ByteMap → List Step → Plain → Option EditError
shape_fault s f [] w = if fits s w then None else Some error.WrongPart
shape_fault s f (st ∷ path) w =
    fault_by (named s st) (is_there s f st)
    (λ inner. shape_fault inner.part (seen_from inner.start f) path w)

-- the same of the bytes from `at` on
abbrev pub shape_fault_at : Shape → List ℕ → ℕ → List Step → Plain → Option EditError
shape_fault_at s xs at path w = shape_fault s (seen_in xs at) path w

abbrev pub reaches_in : (Inner → Bool) → Option Inner → Bool
reaches_in rest None = false
reaches_in rest (Some inner) = rest inner

-- the path names a part, which has the value
abbrev pub reaches : Shape → List Step → Plain → Bool
reaches s [] w = fits s w
reaches s (st ∷ path) w = reaches_in (λ inner. reaches inner.part path w) (named s st)

-- so many bytes from there on
abbrev pub bytes_from : ℕ → ℕ → Range
bytes_from start size = record { start = start; size = size }

-- the bytes that an edit replaces
abbrev pub range_told : Replaced → Range
range_told r = bytes_from r.start r.size

abbrev pub inner_range : (Inner → Range) → Option Inner → Range
inner_range rest None = no_range
inner_range rest (Some inner) = bytes_from (inner.start + (rest inner).start) (rest inner).size

-- the bytes of the part at a path
abbrev pub shape_range : Shape → List Step → Range
shape_range s [] = bytes_from 0 (size s)
shape_range s (st ∷ path) = inner_range (λ inner. shape_range inner.part path) (named s st)

-- ---- the edited value

abbrev pub value_at : Plains → ℕ → Plain
value_at end n = unit
value_at (more v vs) zero = v
value_at (more v vs) (suc n) = value_at vs n

-- the value where a step leads
abbrev pub inner_value : Plain → Step → Plain
inner_value (list vs) (step.Field n) = value_at vs n
inner_value (list vs) (step.Item n) = value_at vs n
inner_value (variant kind first v) s = v
inner_value v s = v

-- the value with w at the path
abbrev pub edited_value : Plain → List Step → Plain → Plain
edited_value v [] w = w
edited_value v (s ∷ path) w = replaced v s (edited_value (inner_value v s) path w)

-- ---- the edited bytes

abbrev pub is_inside : Range → ℕ → Bool
is_inside r i = nat_le r.start i && nat_lt i (r.start + r.size)

-- the pairs' bytes written that lie in the range
abbrev pub put_inside : Range → List Pair → List ℕ → List ℕ
put_inside r [] xs = xs
put_inside r (p ∷ ps) xs = put_inside r ps (if is_inside r p.0 then slice_set xs p.0 p.1 else xs)

-- the test's truth imposed on the bytes of the range alone
abbrev pub imposed_inside : Range → Test → Bool → List ℕ → List ℕ
imposed_inside r test.BitDeterminant sign xs = if is_inside r 0 then put_bits 0 1 sign xs else xs
imposed_inside r (test.ValueIsErr ps) sign xs = if sign then put_inside r ps xs else xs
imposed_inside r (test.BitIsErr offset mask) sign xs =
    if is_inside r offset then put_bits offset mask sign xs else xs

abbrev pub restored_as : SumLayout → Range → List ℕ → Option Bool → List ℕ
restored_as at r xs None = xs
restored_as at r xs (Some first) = imposed_inside r at.determinant.test (sign_of at first) xs

-- what names the variant of a sum written anew in the range
abbrev pub restored : Shape → Step → Range → List ℕ → List ℕ
restored (sum names side at) s r xs = restored_as at r xs (variant_entered names s)
restored _ s r xs = xs

-- the n bytes from `start` on with others in their place
abbrev pub within : ℕ → ℕ → (List ℕ → List ℕ) → List ℕ → List ℕ
within start n change xs =
    take start xs ++ (change (take n (drop start xs)) ++ drop n (drop start xs))

abbrev pub patched_in : (Inner → List ℕ → List ℕ) → Option Inner → List ℕ → List ℕ
patched_in change None xs = xs
patched_in change (Some inner) xs = within inner.start (size inner.part) (λ ys. change inner ys) xs

abbrev pub patched : Shape → List Step → Plain → List ℕ → List ℕ
patched s [] w xs = packed s w
patched s (st ∷ path) w xs =
    restored s st (shape_range s (st ∷ path))
    (patched_in (λ inner ys. patched inner.part path w ys) (named s st) xs)
