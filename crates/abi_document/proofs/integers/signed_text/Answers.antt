use Rattle.std.proofs.Common.{◌∙◌}
use Rattle.abi_document.proofs.Numerals.{unsigned_text}
use Rattle.abi_document.proofs.integers.signed_text.Goals as goal

pub returns-in-None : goal.returns-in-None
unfolding lib.Utf8.encode
returns-in-None c = c.signed_magnitude-in-None.ensures ∙ unsigned_text c.args.text.now c.in-None.ensures.cases
