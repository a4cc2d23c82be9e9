use Rattle.std.proofs.Common.{◌∙◌}
use Rattle.abi_document.proofs.Keys.{no_sole}
use Rattle.abi_document.proofs.forms.sole_member.Goals as goal

pub returns-then-len-ne1 : goal.returns-then-len-ne1
returns-then-len-ne1 c = no_sole _ c.in_ok-members.members.now.entries c.in_ok-members.ensures (λ one. c.if-len-ne1.true (c.len.ensures.len ∙ one))
