-- Typed sums as std's sums, in whose words their contracts speak.
use Rattle.std.specs.Prelude.{Option, Some, None, Result, Ok, Err}
use Rattle.abi_result.specs.declared.option.Option as typed_option
use Rattle.abi_result.specs.declared.option.Option.TheVariants as of_option
use Rattle.abi_result.specs.declared.result.Result as typed_result
use Rattle.abi_result.specs.declared.result.Result.TheVariants as of_result

-- the same variant with the same contents
abbrev pub core_result : {T E : Type 0} → typed_result.Result T E → Result T E
core_result (of_result.Ok x) = Ok x
core_result (of_result.Err e) = Err e

-- the same variant with the same contents
abbrev pub core_option : {T : Type 0} → typed_option.Option T → Option T
core_option (of_option.Some x) = Some x
core_option of_option.None = None
