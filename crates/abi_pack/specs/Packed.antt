-- The bytes that writing leaves, in the order in which they are written.
use Rattle.std.specs.Prelude.{ℕ, ◌+◌, ◌-◌, Bool, List, [], ◌++◌, replicate}
use Rattle.abi_det.specs.State.{imposed}
use Rattle.abi_pack.specs.Plain.{Plain, Plains, list, variant, end, more}
use Rattle.abi_pack.specs.Atoms.{atom_bytes}
use Rattle.abi_layout.specs.Shape.{Shape, Shapes, atom, fields, sum, last, field, size}
use Rattle.abi_layout.specs.declared.part.SumLayout.{SumLayout}
use Rattle.abi_pack.specs.Shows.{start_of, sign_of}

abbrev pub zeros : ℕ → List ℕ
zeros n = replicate n 0

-- n bytes that stand at `shift`, and zeros in the rest of `total` bytes
abbrev pub zero_padded : ℕ → ℕ → ℕ → List ℕ → List ℕ
zero_padded total shift n xs = zeros shift ++ (xs ++ zeros (total - (shift + n)))

-- the bytes of a sum made to name the variant
abbrev pub naming : SumLayout → Bool → List ℕ → List ℕ
naming at first xs = imposed at.determinant.test (sign_of at first) xs

abbrev mutual
  pub packed : Shape → Plain → List ℕ
  packed (atom a) v = atom_bytes a v
  packed (fields compound n fs) (list vs) = packed_in n fs vs
  packed (sum names side at) (variant kind first v) =
      naming at first
      (zero_padded at.size (start_of at first) (size (side first)) (packed (side first) v))
  packed _ _ = []

  -- of n bytes
  pub packed_in : ℕ → Shapes → Plains → List ℕ
  packed_in n last end = zeros n
  packed_in n (field gap s fs) (more v vs) =
      zeros gap ++ (packed s v ++ packed_in (n - (gap + size s)) fs vs)
  packed_in n _ _ = []

-- the bytes of a value that stands at `shift`, and zeros in the rest of `total` bytes
abbrev pub packed_at : ℕ → ℕ → Shape → Plain → List ℕ
packed_at total shift s v = zero_padded total shift (size s) (packed s v)
