-- Which values a shape has, which value bytes show, which bits a value holds, and its canonical bytes.
use Rattle.std.specs.Prelude.{◌≡◌, ℕ, ◌+◌, ◌-◌, ◌<◌, Bool, true, false, ◌&&◌, ◌||◌, nat_lt, if◌then◌else◌}
use Rattle.std.specs.Int.{bit_at}
use Rattle.abi_det.specs.State.{is_state_ok}
use Rattle.abi_pack.specs.ByteMap.{ByteMap, seen_from}
use Rattle.abi_pack.specs.Plain.{Plain, Plains, list, variant, end, more}
use Rattle.abi_pack.specs.Atoms.{has_value, ShowsAtom, atom_holds}
use Rattle.abi_layout.specs.Shape.{Shape, Shapes, atom, fields, sum, last, field, size}
pub use Rattle.abi_pack.specs.Variants.{same_sort, truth_of, held_at, holds_test}
use Rattle.abi_layout.specs.declared.part.SumLayout.{SumLayout}

-- where a variant starts
abbrev pub start_of : SumLayout → Bool → ℕ
start_of at true = at.ok
start_of at false = at.err

-- the test's truth that names a variant
abbrev pub sign_of : SumLayout → Bool → Bool
sign_of at first = truth_of at.determinant first

-- the value is one of the shape's
abbrev mutual
  pub fits : Shape → Plain → Bool
  fits (atom a) v = has_value a v
  fits (fields compound n fs) (list vs) = fits_in fs vs
  fits (sum names side at) (variant kind first v) = same_sort names kind && fits (side first) v
  fits _ _ = false

  pub fits_in : Shapes → Plains → Bool
  fits_in last end = true
  fits_in (field gap s fs) (more v vs) = fits s v && fits_in fs vs
  fits_in _ _ = false

-- the bytes show the value
abbrev mutual
  pub Shows : Shape → Plain → ByteMap → Type 0
  Shows (atom a) v f = ShowsAtom a v f
  Shows (fields compound n fs) (list vs) f = ShowIn fs vs f
  Shows (sum names side at) (variant kind first v) f =
      (same_sort names kind ≡ true) × (is_state_ok at.determinant f ≡ first)
      × Shows (side first) v (seen_from (start_of at first) f)
  Shows _ _ f = ⊥

  pub ShowIn : Shapes → Plains → ByteMap → Type 0
  ShowIn last end f = Unit {0}
  ShowIn (field gap s fs) (more v vs) f =
      Shows s v (seen_from gap f) × ShowIn fs vs (seen_from (gap + size s) f)
  ShowIn _ _ f = ⊥

-- the value holds bit k of byte i
abbrev mutual
  pub holds : Shape → Plain → ℕ → ℕ → Bool
  holds (atom a) v i k = atom_holds a i k
  holds (fields compound n fs) (list vs) i k = holds_in fs vs i k
  holds (sum names side at) (variant kind first v) i k =
      held_at (start_of at first) (size (side first)) (λ j l. holds (side first) v j l) i k
      || holds_test at.determinant first i k
  holds _ _ i k = false

  pub holds_in : Shapes → Plains → ℕ → ℕ → Bool
  holds_in (field gap s fs) (more v vs) i k =
      if nat_lt i gap
      then false
      else (if nat_lt i (gap + size s)
      then holds s v (i - gap) k
      else holds_in fs vs (i - (gap + size s)) k)
  holds_in _ _ i k = false

-- the bytes show the value, and every bit that it does not hold is 0
pub record IsCanonical (s : Shape) (v : Plain) (f : ByteMap) : Type 0 where
  pub shows : Shows s v f
  pub clear : (i k : ℕ) → i < size s → k < 8 → holds s v i k ≡ false → bit_at (f i) k ≡ 0
