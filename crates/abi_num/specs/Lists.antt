use Rattle.std.specs.Prelude.{◌≡◌, List, [], ◌∷◌, ◌++◌, Option, Some, None}

-- the last item was taken from the list; none exactly where it had none
abbrev pub IsTaken : {A : Type 0} → Option A → List A → List A → Type 0
IsTaken None old new = (old ≡ []) × (new ≡ [])
IsTaken (Some last) old new = old ≡ new ++ last ∷ []
