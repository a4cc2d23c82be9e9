use Rattle.std.proofs.Common.{◌∙◌}
use Rattle.abi_document.proofs.Keys.{listed}
use Rattle.abi_document.proofs.forms.is_listed.Goals as goal

pub returns : goal.returns
returns c = c.contains.ensures.value ∙ listed c.args.names.now c.args.key.now
