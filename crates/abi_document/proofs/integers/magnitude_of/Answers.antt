use Rattle.std.proofs.Common.{sym}
use Rattle.abi_document.proofs.Numerals.{parsed, refused}
use Rattle.abi_document.proofs.integers.magnitude_of.Goals as goal

pub returns-in-Ok : goal.returns-in-Ok
returns-in-Ok c = parsed c.args.digits.now c.parse.result c.in-Ok.magnitude c.parse.ensures.value.0 (sym c.if-not-is_plain.ensures) c.in-Ok.is

pub returns-in-Err : goal.returns-in-Err
returns-in-Err c = refused c.args.digits.now c.parse.result _ c.parse.ensures.value.0 (sym c.if-not-is_plain.ensures) c.in-Err.is
