use Rattle.abi_tool.proofs.ReplyToBytes.{means_told}
use Rattle.abi_tool.proofs.run_document.run_document.Goals as goal

pub returns-in-Ok-write_all-clause-means : goal.returns-in-Ok-write_all-clause-means
returns-in-Ok-write_all-clause-means g c =
    means_told c.args.command (g.S.Source.left c.args.source.now) c.in-Ok.reply c.code.result c.in-Ok.ensures.told c.code.ensures
