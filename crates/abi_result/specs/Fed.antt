-- What `Hash` feeds of a typed sum: whether it is the first variant, and then the contents.
use Rattle.std.specs.Prelude.{◌++◌, true, false}
use Rattle.std.specs.Hash.{HashWrites}
use Rattle.std.specs.Hash as fed
use Rattle.abi_result.specs.declared.option.Option as typed_option
use Rattle.abi_result.specs.declared.option.Option.TheVariants as of_option
use Rattle.abi_result.specs.declared.result.Result as typed_result
use Rattle.abi_result.specs.declared.result.Result.TheVariants as of_result

abbrev pub result_fed : {T E : Type 0} → (T → HashWrites) → (E → HashWrites) → typed_result.Result T E → HashWrites
result_fed F G (of_result.Ok x) = fed.bool true ++ F x
result_fed F G (of_result.Err e) = fed.bool false ++ G e

abbrev pub option_fed : {T : Type 0} → (T → HashWrites) → typed_option.Option T → HashWrites
option_fed F (of_option.Some x) = fed.bool true ++ F x
option_fed F of_option.None = fed.bool false
