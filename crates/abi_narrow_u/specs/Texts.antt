-- What is written of a number in a base.
use Rattle.std.specs.Prelude.{ℕ, List, Option, IfSome, Result, false}
use Rattle.std.specs.Fmt.{WritesOnOk, digits}
use Rattle.std.specs.declared.fmt.Formatter.{Formatter}
use Rattle.std.specs.declared.fmt.Error.{Error}

-- where writing succeeded without options: the digits of the number in that base, of a number that has a word
abbrev pub WritesWord : {W : Type 0} → (W → List ℕ → W → Type 0)
    → ℕ → Option ℕ → Formatter W → Result (Unit {0}) Error → Formatter W → Type 0
WritesWord took base word old result new =
    IfSome word (λ n. WritesOnOk took old result (digits base false n) new)
