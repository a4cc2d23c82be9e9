-- What a type owes to its description, on every target and under either rules.
use Rattle.std.specs.Prelude.{◌≡◌, ◌↔◌, Bool, true, Option, IsSome}
use Rattle.abi_num.specs.declared.target.Target.{Target}
use Rattle.abi_det.specs.Offers.{Rules}
use Rattle.abi_layout.specs.Frames.{written_frame}
use Rattle.abi_layout.specs.Trees.{Tree}
use Rattle.abi_pack.specs.Plain.{Plain}
use Rattle.abi_pack.specs.Values.{fits}

-- a value that fits somewhere fits everywhere
abbrev pub IsFixed : Tree → Type 0
IsFixed t = (rules elsewhere : Rules) (target other : Target) (v : Plain) → fits rules target t v ≡ fits elsewhere other t v

-- the value is one of the description's
abbrev pub Fits : Tree → Plain → Type 0
Fits t v = (rules : Rules) (target : Target) → fits rules target t v ≡ true

-- there is an answer exactly where the value is one of the description's
abbrev pub FitsWhereSome : {A : Type 0} → Tree → Plain → Option A → Type 0
FitsWhereSome t v answer = (rules : Rules) (target : Target) → IsSome answer ↔ (fits rules target t v ≡ true)

-- whether the description's layout tells of pointers
abbrev pub Indirections : Tree → Bool → Type 0
Indirections t told = (rules : Rules) (target : Target) → (written_frame rules target t).indirections ≡ told
