-- Values of a scalar as the code goes by them: the number that stands for each, and the bytes in which it stands.
use Rattle.std.specs.Prelude.{◌≡◌, ◌<◌, ℕ, zero, suc, ◌+◌, ◌-◌, ◌*◌, ◌/◌, ◌%◌, ◌^◌, List, [], ◌∷◌, reverse, Bool, true, false, ◌&&◌, ◌||◌, nat_le, nat_lt, ◌==◌, if◌then◌else◌}
use Rattle.std.specs.declared.cmp.Ordering.{Ordering}
use Rattle.std.specs.declared.cmp.Ordering.TheVariants as ordering
use Rattle.abi_layout.specs.Prims.{width_size, scalar_size, in_width}
use Rattle.abi_pack.specs.ByteMap.{ByteMap, firsts, bytes_of}
use Rattle.abi_pack.specs.Plain.{Plain, unit, integer, boolean, order}
use Rattle.abi_layout.specs.declared.scalar.Scalar.{Scalar}
use Rattle.abi_layout.specs.declared.scalar.Scalar.TheVariants as scalars
use Rattle.abi_layout.specs.declared.scalar.Integer.{Integer}
use Rattle.abi_layout.specs.declared.scalar.Stored.{Stored}
use Rattle.abi_layout.specs.declared.scalar.Stored.TheVariants as stored_as
use Rattle.abi_layout.specs.declared.scalar.Width.{Width}

-- how many numbers stand in that many bytes, and half of it
abbrev pub full : Width → ℕ
full w = 256 ^ width_size w

abbrev pub half : Width → ℕ
half w = full w / 2

-- two's complement, in as many digits as the width has: a number below 0 as far below the end
abbrev pub digits_of : Width → ℕ → Bool → ℕ
digits_of w magnitude negative =
    if negative then (full w - magnitude % full w) % full w else magnitude % full w

-- what number stands for these digits, and back
abbrev pub encoded : Width → Stored → ℕ → ℕ
encoded w stored_as.Itself n = n
encoded w stored_as.Complement n = full w - 1 - n
encoded w (stored_as.Distance magnitude negative) n =
    (n + (full w - digits_of w magnitude negative)) % full w

abbrev pub decoded : Width → Stored → ℕ → ℕ
decoded w stored_as.Itself n = n
decoded w stored_as.Complement n = full w - 1 - n
decoded w (stored_as.Distance magnitude negative) n = (n + digits_of w magnitude negative) % full w

-- the number that stands in the bytes of an integer
abbrev pub coded : Integer → ℕ → Bool → ℕ
coded f magnitude negative = encoded f.width f.stored (digits_of f.width magnitude negative)

-- the integer is one of the kind's values
abbrev pub is_int : Integer → ℕ → Bool → Bool
is_int f magnitude negative =
    in_width f.width f.signed magnitude negative
    && (f.zero || nat_lt 0 (coded f magnitude negative))

-- the value is one of the scalar's
abbrev pub is_value : Scalar → Plain → Bool
is_value scalars.Unit unit = true
is_value scalars.Bool (boolean b) = true
is_value scalars.Order (order o) = true
is_value (scalars.Int f) (integer magnitude negative) = is_int f magnitude negative
is_value _ _ = false

-- a number in n bytes, the least significant first, and the number that stands in bytes so
abbrev pub low_bytes : ℕ → ℕ → List ℕ
low_bytes zero number = []
low_bytes (suc n) number = number % 256 ∷ low_bytes n (number / 256)

abbrev pub low_worth : List ℕ → ℕ
low_worth [] = 0
low_worth (x ∷ xs) = x + 256 * low_worth xs

-- from bytes with the least significant first to the byte order, and back
abbrev pub ordered : Bool → List ℕ → List ℕ
ordered little xs = if little then xs else reverse xs

-- the bytes in which an integer stands
abbrev pub integer_bytes : Integer → ℕ → Bool → List ℕ
integer_bytes f magnitude negative =
    ordered f.little (low_bytes (width_size f.width) (coded f magnitude negative))

abbrev pub order_byte : Ordering → ℕ
order_byte ordering.Less = 255
order_byte ordering.Equal = 0
order_byte ordering.Greater = 1

-- the bytes in which a value of the scalar stands
abbrev pub stored : Scalar → Plain → List ℕ
stored scalars.Bool (boolean b) = (if b then 1 else 0) ∷ []
stored scalars.Order (order o) = order_byte o ∷ []
stored (scalars.Int f) (integer magnitude negative) = integer_bytes f magnitude negative
stored _ _ = []

-- the number in the bytes
abbrev pub number_in : Integer → ByteMap → ℕ
number_in f image = low_worth (ordered f.little (firsts (width_size f.width) image))

-- the bytes are those of some value of the scalar
abbrev pub is_legal : Scalar → ByteMap → Bool
is_legal scalars.Unit image = true
is_legal scalars.Bool image = nat_lt (image 0) 2
is_legal scalars.Order image = nat_lt (image 0) 2 || image 0 == 255
is_legal (scalars.Int f) image = f.zero || nat_lt 0 (number_in f image)

-- the integer of these digits
abbrev pub signed_integer : Integer → ℕ → Plain
signed_integer f n =
    if f.signed && nat_le (half f.width) n then integer (full f.width - n) true else integer n false

abbrev pub integer_shown : Integer → ℕ → Plain
integer_shown f number = signed_integer f (decoded f.width f.stored number)

-- the order of a legal byte
abbrev pub order_shown : ℕ → Ordering
order_shown byte =
    if byte == 0 then ordering.Equal else (if byte == 1 then ordering.Greater else ordering.Less)

-- the value that legal bytes show
abbrev pub scalar_shown : Scalar → ByteMap → Plain
scalar_shown scalars.Unit image = unit
scalar_shown scalars.Bool image = boolean (nat_lt 0 (image 0))
scalar_shown scalars.Order image = order (order_shown (image 0))
scalar_shown (scalars.Int f) image = integer_shown f (number_in f image)

-- the bytes are those in which the value stands
pub record ShowsScalar (c : Scalar) (v : Plain) (f : ByteMap) : Type 0 where
  pub value : is_value c v ≡ true
  pub same : (i : ℕ) → i < scalar_size c → f i ≡ bytes_of (stored c v) i
