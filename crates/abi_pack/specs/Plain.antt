-- Values as plain data.
use Rattle.std.specs.Prelude.{ℕ, List, [], Bool, true, false}
use Rattle.std.specs.declared.cmp.Ordering.{Ordering}
use Rattle.abi_layout.specs.declared.part.Sort.{Sort}

mutual
  pub data Plain : Type 0 where
    unit : Plain
    -- distance from 0, and whether it lies below 0
    integer : ℕ → Bool → Plain
    boolean : Bool → Plain
    order : Ordering → Plain
    bytes : List ℕ → Plain
    list : Plains → Plain
    -- what the variants are called, whether it is the first of them, and its payload; `None` has the payload `unit`
    variant : Sort → Bool → Plain → Plain

  pub data Plains : Type 0 where
    end : Plains
    more : Plain → Plains → Plains

abbrev pub is_unit : Plain → Bool
is_unit unit = true
is_unit _ = false

abbrev pub is_integer : Plain → Bool
is_integer (integer magnitude negative) = true
is_integer _ = false

abbrev pub is_boolean : Plain → Bool
is_boolean (boolean b) = true
is_boolean _ = false

abbrev pub is_order : Plain → Bool
is_order (order o) = true
is_order _ = false

abbrev pub is_bytes : Plain → Bool
is_bytes (bytes xs) = true
is_bytes _ = false

abbrev pub bytes_in : Plain → List ℕ
bytes_in (bytes xs) = xs
bytes_in _ = []

abbrev pub is_list : Plain → Bool
is_list (list vs) = true
is_list _ = false

abbrev pub is_variant : Plain → Bool
is_variant (variant sort first payload) = true
is_variant _ = false
