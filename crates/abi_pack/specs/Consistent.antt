-- What a plan keeps: the determinant of a sum takes nothing from its variants.
use Rattle.std.specs.Prelude.{◌≡◌, ℕ, ◌+◌, ◌<◌, ◌≤◌, Bool, true, false}
use Rattle.abi_det.specs.State.{test_holds, is_tested}
use Rattle.abi_det.specs.SoundPlacement.{is_imposed, IsTest}
use Rattle.abi_pack.specs.Atoms.{IsAtom}
use Rattle.abi_pack.specs.ByteMap.{ByteMap, seen_from}
use Rattle.abi_pack.specs.Plain.{Plain}
use Rattle.abi_layout.specs.Shape.{Shape, Shapes, atom, fields, sum, last, field, size, size_in}
use Rattle.abi_pack.specs.Shows.{Shows, holds, start_of, sign_of, held_at}
use Rattle.abi_layout.specs.declared.part.SumLayout.{SumLayout}

-- a variant stands inside the sum; where the test is written it takes no bit that a value of the variant holds, and where
-- it is not, no value of the variant has what it tests
pub record IsSide (s : Shape) (first : Bool) (at : SumLayout) : Type 0 where
  pub inside : start_of at first + size s ≤ at.size
  pub imposed : is_imposed at.determinant.test (sign_of at first) ≡ true → (v : Plain) (i k : ℕ)
      → k < 8
      → is_tested at.determinant.test i k ≡ true
      → held_at (start_of at first) (size s) (λ j l. holds s v j l) i k ≡ false
  pub forbids : is_imposed at.determinant.test (sign_of at first) ≡ false
      → (v : Plain) (f : ByteMap)
      → test_holds at.determinant.test f ≡ true → Shows s v (seen_from (start_of at first) f) → ⊥

pub record IsSumLayout (side : Bool → Shape) (at : SumLayout) : Type 0 where
  pub each : (first : Bool) → IsSide (side first) first at
  pub tested : IsTest at.determinant.test at.size

abbrev mutual
  pub IsConsistent : Shape → Type 0
  IsConsistent (atom a) = IsAtom a
  IsConsistent (fields compound n fs) = AreConsistent fs × (size_in fs ≤ n)
  IsConsistent (sum names side at) =
      ((first : Bool) → IsConsistent (side first)) × IsSumLayout side at

  pub AreConsistent : Shapes → Type 0
  AreConsistent last = Unit {0}
  AreConsistent (field gap s fs) = IsConsistent s × AreConsistent fs
