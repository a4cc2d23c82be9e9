-- Integers in trees of JSON: as numbers, or as texts, which are `0`, or an optional `-` and digits of which the first
-- is not 0, of a magnitude below 2^128.
use Rattle.std.specs.Prelude.{ℕ, ◌+◌, ◌-◌, ◌*◌, ◌^◌, List, [], ◌∷◌, Bool, true, false, ◌&&◌, ◌==◌, nat_le, nat_lt, Option, Some, None, codes, option_map, if◌then◌else◌, ℤ, pos, negsuc, suc}
use Rattle.std.specs.List.{list_all}
use Rattle.std.specs.Char.{is_ascii_digit}
use Rattle.std.specs.Str.{bytes_eq}
use Rattle.serde_json.specs.Data.{Data, Num, null, boolean, number, string, array, object}
use Rattle.serde_json.specs.Find.{as_integer}

-- the distance from 0 of an integer, and whether it lies below 0
abbrev pub Signed : Type 0
Signed = ℕ × Bool

-- the number that the digits spell after one that was read before
abbrev pub spelled : ℕ → List ℕ → ℕ
spelled before [] = before
spelled before (c ∷ cs) = spelled (10 * before + (c - 48)) cs

-- a digit 1 to 9, then digits
abbrev pub is_plain : List ℕ → Bool
is_plain [] = false
is_plain (c ∷ cs) = nat_le 49 c && nat_le c 57 && list_all is_ascii_digit cs

unfoldable pub magnitude_of : List ℕ → Option ℕ
magnitude_of text =
    if is_plain text && nat_lt (spelled 0 text) (2 ^ 128) then Some (spelled 0 text) else None

abbrev pub signed_by : Bool → ℕ → Signed
signed_by negative magnitude = (magnitude, negative)

-- with a `-` in front, or without
abbrev pub signed_text : List ℕ → Option Signed
signed_text [] = None
signed_text (c ∷ cs) =
    if c == 45 then option_map (signed_by true) (magnitude_of cs)
    else option_map (signed_by false) (magnitude_of (c ∷ cs))

unfoldable pub integer_text : List ℕ → Option Signed
integer_text text = if bytes_eq text (codes "0") then Some (0, false) else signed_text text

abbrev pub integer_of : ℤ → Signed
integer_of (pos n) = (n, false)
integer_of (negsuc n) = (suc n, true)

-- an integer that JSON does not hold as a float
abbrev pub integer_number : Num → Option Signed
integer_number n = option_map integer_of (as_integer n)

-- a number or a text that is an integer
abbrev pub integer_in : Data → Option Signed
integer_in null = None
integer_in (boolean b) = None
integer_in (number n) = integer_number n
integer_in (string s) = integer_text s
integer_in (array ds) = None
integer_in (object ms) = None
