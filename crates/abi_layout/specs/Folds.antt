-- A struct built field by field, as code builds it.
use Rattle.std.specs.Prelude.{List, [], ◌∷◌, Option, Some, None, ℕ, IsTrue, false}
use Rattle.std.specs.List.{list_all}
use Rattle.abi_bits.specs.Forbidden.{nothing}
use Rattle.abi_bits.specs.declared.saturating_add_value.SaturatingAddValue.TheVariants as count
use Rattle.abi_det.specs.Frame.{Frame, is_lawful}
use Rattle.abi_layout.specs.Builders.{pair, closed, closed_at}

-- one field after the other, from the left
abbrev pub folded : Frame → List Frame → Frame
folded f [] = f
folded f (g ∷ gs) = folded (pair f g) gs

abbrev pub no_bytes : Frame
no_bytes =
    record {
      size = 0;
      align = 1;
      free = [];
      forbidden = nothing;
      niches = count.B0;
      indirections = false;
    }

-- the first field's frame, with the others after it
abbrev pub opened : List Frame → Frame
opened [] = no_bytes
opened (f ∷ fs) = folded f fs

abbrev pub closed_by : Option ℕ → Frame → Frame
closed_by None f = closed f
closed_by (Some align) f = closed_at f align

abbrev pub AreLawful : List Frame → Type 0
AreLawful fs = IsTrue (list_all is_lawful fs)
