-- What reading bytes may answer, and by which cause.
use Rattle.std.specs.Prelude.{◌≡◌, ℕ, List, length, Bool, ◌&&◌, ◌==◌, nat_lt, Option, Some, None, Result, Ok, Err, if◌then◌else◌}
use Rattle.abi_num.specs.declared.target.Target.{Target}
use Rattle.abi_det.specs.Offers.{Rules}
use Rattle.abi_layout.specs.Frames.{written_frame}
use Rattle.abi_layout.specs.Plans.{shape_of}
use Rattle.abi_layout.specs.Shape.{Shapes}
use Rattle.abi_layout.specs.Trees.{Tree}
use Rattle.abi_pack.specs.ByteMap.{bytes_of, seen_in}
use Rattle.abi_pack.specs.Counting.{values_in, max_values}
use Rattle.abi_pack.specs.Plain.{Plain, end}
use Rattle.abi_pack.specs.Values.{Shows, IsLong}
use Rattle.abi_pack.specs.ValueShown.{is_shown, value_shown, values_shown}
use Rattle.abi_pack.specs.View.{plain, joined}
use Rattle.abi_pack.specs.declared.plan.ReadError.{ReadError}
use Rattle.abi_pack.specs.declared.plan.ReadError.TheVariants as error
use Rattle.abi_pack.specs.declared.value.Value.{Value}

-- as many bytes as the description has, which show some value
abbrev pub IsShown : Rules → Target → Tree → List ℕ → Type 0
IsShown rules target t bs =
    IsLong rules target t bs × ((v : Plain) × Shows rules target t v (bytes_of bs))

-- what reading computes: the value that the bytes show, where they are as many as the description has and show one
abbrev pub value_read : Rules → Target → Tree → List ℕ → Option Plain
value_read rules target t bs =
    if length bs == (written_frame rules target t).size
    && is_shown (shape_of rules target t) (bytes_of bs)
    then Some (value_shown (shape_of rules target t) (bytes_of bs))
    else None

abbrev pub IsReadError : Rules → Target → Tree → List ℕ → ReadError → Type 0
IsReadError rules target t bs error.WrongLength = IsLong rules target t bs → ⊥
IsReadError rules target t bs error.IllegalBytes =
    IsLong rules target t bs × ((v : Plain) → Shows rules target t v (bytes_of bs) → ⊥)
IsReadError rules target t bs error.OutOfMemory = IsLong rules target t bs

-- the answer tells whether more values than the greatest number that is read are in the one that the bytes show
abbrev pub TellsMany : Rules → Target → Tree → List ℕ → Bool → Type 0
TellsMany rules target t bs answer =
    (v : Plain) → Shows rules target t v (bytes_of bs) → answer ≡ nat_lt max_values (values_in v)

abbrev pub IsReading : Rules → Target → Tree → List ℕ → Result Value ReadError → Type 0
IsReading rules target t bs (Ok v) =
    IsLong rules target t bs × Shows rules target t (plain v) (bytes_of bs)
IsReading rules target t bs (Err e) = IsReadError rules target t bs e

-- after the old values stand those that the bytes from `at` on show of the fields
abbrev pub AreRead : Shapes → List ℕ → ℕ → List Value → List Value → Type 0
AreRead fs xs at old new = joined new end ≡ joined old (values_shown fs (seen_in xs at))
