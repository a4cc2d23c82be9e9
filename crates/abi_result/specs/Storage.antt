-- What the bytes of a typed value are, and what bytes are read as.
use Rattle.std.specs.Prelude.{◌≡◌, ◌≢◌, List, ℕ, Some, None, Result, IfOk}
use Rattle.abi_num.specs.declared.target.Target.{Target}
use Rattle.abi_det.specs.Offers.{One}
use Rattle.abi_layout.specs.Faults.{IsFault, desc_fault}
use Rattle.abi_layout.specs.Trees.{Tree}
use Rattle.abi_layout.specs.declared.desc_error.DescError.{DescError}
use Rattle.abi_layout.specs.declared.desc_error.DescError.TheVariants as fault
use Rattle.abi_pack.specs.ByteMap.{bytes_of}
use Rattle.abi_pack.specs.Plain.{Plain}
use Rattle.abi_pack.specs.Values.{Shows, IsLong}
use Rattle.abi_result.specs.declared.storage.StorageError.{StorageError}
use Rattle.abi_result.specs.declared.storage.StorageError.TheVariants as error

-- bytes as many as the description has, which show the value
abbrev pub IsShownBy : Target → Tree → Plain → List ℕ → Type 0
IsShownBy target t v bs = IsLong One target t bs × Shows One target t v (bytes_of bs)

-- the bytes are shown by what stands for x
abbrev pub ShownAs : {T : Type 0} → Target → List ℕ → Tree → (T → Plain) → T → Type 0
ShownAs target bs t value_of x = IsShownBy target t (value_of x) bs

-- every value of the type of which it holds is this one
abbrev pub IsOnly : {T : Type 0} → (T → Type 0) → (T → Type 0) → T → Type 0
IsOnly {T} P Q x = (y : T) → P y → Q y → y ≡ x

-- the answer comes only where the description has no fault
abbrev pub IfFaultless : {T E : Type 0} → Target → Tree → Result T E → Type 0
IfFaultless target t answer = IfOk answer (λ _. desc_fault One target t ≡ None)

-- it is the description's fault
abbrev pub IsFaultOf : Target → Tree → DescError → Type 0
IsFaultOf target t = IsFault (desc_fault One target t)

-- by its cause
abbrev pub IsStorageError : Target → Tree → List ℕ → StorageError → Type 0
IsStorageError target t bs (error.Desc e) = (desc_fault One target t ≡ Some e) × (e ≢ fault.OutOfMemory)
IsStorageError target t bs error.WrongLength = (desc_fault One target t ≡ None) × (IsLong One target t bs → ⊥)
IsStorageError target t bs error.IllegalBytes =
    (desc_fault One target t ≡ None) × (IsLong One target t bs × ((v : Plain) → Shows One target t v (bytes_of bs) → ⊥))
IsStorageError target t bs error.OutOfMemory = Unit {0}
