-- What the two writes of a determinant leave.
use Rattle.std.specs.Prelude.{◌≡◌, ℕ, ◌<◌, List, Bool, true, false, length, slice_index}
use Rattle.std.specs.Int.{bit_at}
use Rattle.abi_det.specs.State.{test_holds, is_tested, imposed}
use Rattle.abi_det.specs.SoundPlacement.{is_imposed, IsTest}
use Rattle.abi_det.specs.declared.determinant.Test.{Test}

-- every bit that is not the test's own stays
abbrev pub KeptLaw : Type 0
KeptLaw =
    (t : Test) (sign : Bool) (xs : List ℕ) (at k : ℕ) → IsTest t (length xs) → k < 8
    → is_tested t at k ≡ false
    → bit_at (slice_index (imposed t sign xs) at) k ≡ bit_at (slice_index xs at) k

-- the test then has the truth that is wanted, where it is written for that
abbrev pub ImposedLaw : Type 0
ImposedLaw =
    (t : Test) (sign : Bool) (xs : List ℕ) → IsTest t (length xs) → is_imposed t sign ≡ true
    → test_holds t (slice_index (imposed t sign xs)) ≡ sign
