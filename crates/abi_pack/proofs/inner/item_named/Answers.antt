use Rattle.abi_pack.specs.View.{shape}
use Rattle.abi_pack.proofs.Inners.{item_found, item_is_none}
use Rattle.abi_pack.proofs.inner.item_named.Goals as goal

pub returns-then-number-len : goal.returns-then-number-len
returns-then-number-len c = item_found c.args.len c.args.number c.size.result (shape c.args.item.now) c.if-number-len.true c.size.ensures

pub returns : goal.returns
returns c = item_is_none c.args.len c.args.number (shape c.args.item.now) 0 c.if-number-len.false
