-- Plans as plain data: what each byte of a description means. Sums stand at their offsets, counted from the sum's first byte.
use Rattle.std.specs.Prelude.{ℕ, zero, suc, ◌+◌, List, Bool}
use Rattle.abi_bits.specs.Pairs.{Pair}
use Rattle.abi_bits.specs.Forbidden.{Item}
use Rattle.abi_layout.specs.Prims.{scalar_size}
use Rattle.abi_layout.specs.declared.scalar.Scalar.{Scalar}
use Rattle.abi_layout.specs.declared.part.Compound.{Compound}
use Rattle.abi_layout.specs.declared.part.Sort.{Sort}
use Rattle.abi_layout.specs.declared.part.SumLayout.{SumLayout}

-- what has no parts
pub data Atom : Type 0 where
  scalar : Scalar → Atom
  -- bytes as they stand, but for free bits: how many, the entries of the free bits, and what they never are
  raw : ℕ → List Pair → List Item → Atom

mutual
  pub data Shape : Type 0 where
    atom : Atom → Shape
    -- what they are, and the size of all in bytes
    fields : Compound → ℕ → Shapes → Shape
    -- what the variants are called, what each is (the first is `Ok` or `Some`), and where they stand
    sum : Sort → (Bool → Shape) → SumLayout → Shape

  pub data Shapes : Type 0 where
    last : Shapes
    -- the bytes before a field, and the field
    field : ℕ → Shape → Shapes → Shapes

-- equal fields without gaps
abbrev pub repeated : ℕ → Shape → Shapes
repeated zero s = last
repeated (suc n) s = field 0 s (repeated n s)

-- in bytes
abbrev pub atom_size : Atom → ℕ
atom_size (scalar c) = scalar_size c
atom_size (raw n free its) = n

abbrev pub size : Shape → ℕ
size (atom a) = atom_size a
size (fields compound n fs) = n
size (sum names side at) = at.size

-- where the last field ends
abbrev pub size_in : Shapes → ℕ
size_in last = 0
size_in (field gap s fs) = gap + size s + size_in fs
