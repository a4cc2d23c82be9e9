-- How many values there are in a value, and in the one that bytes show.
use Rattle.std.specs.Prelude.{ℕ, ◌+◌, min}
use Rattle.abi_layout.specs.Shape.{Shape, Shapes}
use Rattle.abi_pack.specs.ByteMap.{ByteMap}
use Rattle.abi_pack.specs.Plain.{Plain, Plains, list, variant, end, more}
use Rattle.abi_pack.specs.ValueShown.{value_shown, values_shown}

-- the value itself counted, and the payload `unit` of `None` too
abbrev mutual
  pub values_in : Plain → ℕ
  values_in (list vs) = values_in_all vs + 1
  values_in (variant kind first v) = values_in v + 1
  values_in _ = 1

  pub values_in_all : Plains → ℕ
  values_in_all end = 0
  values_in_all (more v vs) = values_in v + values_in_all vs

-- the greatest number that is read
abbrev pub max_values : ℕ
max_values = 8388608

-- added to a count, up to one above that number
abbrev pub counted : ℕ → Shape → ByteMap → ℕ
counted before s f = min (before + values_in (value_shown s f)) (max_values + 1)

abbrev pub counted_in : ℕ → Shapes → ByteMap → ℕ
counted_in before fs f = min (before + values_in_all (values_shown fs f)) (max_values + 1)
