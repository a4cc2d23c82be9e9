-- Typed sums as values of their descriptions.
use Rattle.std.specs.Prelude.{true, false}
use Rattle.abi_layout.specs.declared.part.Sort.TheVariants as sort
use Rattle.abi_pack.specs.Plain.{Plain, unit, variant}
use Rattle.abi_result.specs.declared.option.Option.{Option}
use Rattle.abi_result.specs.declared.option.Option.TheVariants as of_option
use Rattle.abi_result.specs.declared.result.Result.{Result}
use Rattle.abi_result.specs.declared.result.Result.TheVariants as of_result

-- the contents are what their type asks for
abbrev pub IsResultOf : {T E : Type 0} → (T → Type 0) → (E → Type 0) → Result T E → Type 0
IsResultOf P Q (of_result.Ok x) = P x
IsResultOf P Q (of_result.Err e) = Q e

abbrev pub IsOptionOf : {T : Type 0} → (T → Type 0) → Option T → Type 0
IsOptionOf P (of_option.Some x) = P x
IsOptionOf P of_option.None = Unit {0}

-- the variant of the value of the contents
abbrev pub result_value : {T E : Type 0} → (T → Plain) → (E → Plain) → Result T E → Plain
result_value f g (of_result.Ok x) = variant sort.OfResult true (f x)
result_value f g (of_result.Err e) = variant sort.OfResult false (g e)

abbrev pub option_value : {T : Type 0} → (T → Plain) → Option T → Plain
option_value f (of_option.Some x) = variant sort.OfOption true (f x)
option_value f of_option.None = variant sort.OfOption false unit
