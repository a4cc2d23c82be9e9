use Rattle.abi_tool.specs.Outcomes.{made_outcome}
use Rattle.abi_tool.proofs.Made.{by_outcome}
use Rattle.abi_tool.proofs.reply.made_reply.Goals as goal

pub returns : goal.returns
returns c = by_outcome (made_outcome c.args.count) c.made_outcome.result c.reply_by.result c.reply_by.ensures c.made_outcome.ensures
