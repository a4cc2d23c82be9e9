use Rattle.std.proofs.Common.{◌≡◌, map}
use Rattle.abi_pack.specs.View.{plain}
use Rattle.abi_document.specs.Made.{made_values}
use Rattle.abi_document.proofs.made.made_values.Given as goal

abbrev pub invariant-values : goal.invariant-values
invariant-values l = map plain l.values ≡ made_values l.i
