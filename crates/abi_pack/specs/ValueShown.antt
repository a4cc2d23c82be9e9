-- Whether bytes show a value, and which: what reading computes.
use Rattle.std.specs.Prelude.{ℕ, zero, suc, ◌+◌, Bool, true, ◌&&◌}
use Rattle.abi_det.specs.State.{is_state_ok}
use Rattle.abi_pack.specs.ByteMap.{ByteMap, seen_from}
use Rattle.abi_pack.specs.Plain.{Plain, Plains, list, variant, end, more}
use Rattle.abi_pack.specs.Atoms.{is_legal_atom, atom_shown}
use Rattle.abi_layout.specs.Shape.{Shape, Shapes, atom, fields, sum, last, field, size}
use Rattle.abi_pack.specs.Shows.{start_of}

-- the bytes show some value
abbrev mutual
  pub is_shown : Shape → ByteMap → Bool
  is_shown (atom a) f = is_legal_atom a f
  is_shown (fields compound n fs) f = is_shown_in fs f
  is_shown (sum names side at) f =
      is_shown (side (is_state_ok at.determinant f))
      (seen_from (start_of at (is_state_ok at.determinant f)) f)

  pub is_shown_in : Shapes → ByteMap → Bool
  is_shown_in last f = true
  is_shown_in (field gap s fs) f =
      is_shown s (seen_from gap f) && is_shown_in fs (seen_from (gap + size s) f)

-- it is so at each of n places: of the bytes as they are, of those `stride` bytes on, and so on
abbrev pub at_each : ℕ → ℕ → (ByteMap → Bool) → ByteMap → Bool
at_each zero stride is f = true
at_each (suc n) stride is f = is f && at_each n stride is (seen_from stride f)

-- the shape's, and those of all fields, at each of n places
abbrev pub shown_at_each : ℕ → ℕ → Shape → ByteMap → Bool
shown_at_each n stride s f = at_each n stride (is_shown s) f

abbrev pub all_shown_at_each : ℕ → ℕ → Shapes → ByteMap → Bool
all_shown_at_each n stride fs f = at_each n stride (is_shown_in fs) f

-- the value that they then show
abbrev mutual
  pub value_shown : Shape → ByteMap → Plain
  value_shown (atom a) f = atom_shown a f
  value_shown (fields compound n fs) f = list (values_shown fs f)
  value_shown (sum names side at) f =
      variant names (is_state_ok at.determinant f)
      (value_shown (side (is_state_ok at.determinant f))
      (seen_from (start_of at (is_state_ok at.determinant f)) f))

  pub values_shown : Shapes → ByteMap → Plains
  values_shown last f = end
  values_shown (field gap s fs) f =
      more (value_shown s (seen_from gap f)) (values_shown fs (seen_from (gap + size s) f))
