use Rattle.abi_document.proofs.Keys.{keys_within}
use Rattle.abi_document.proofs.forms.has_only.Goals as goal

pub returns-in-Some : goal.returns-in-Some
returns-in-Some c = keys_within _ c.in-Some.members.now.entries _ _ c.keys_listed.ensures c.in-Some.ensures
