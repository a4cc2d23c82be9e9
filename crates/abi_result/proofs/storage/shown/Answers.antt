use Rattle.abi_det.specs.Offers.{One}
use Rattle.abi_layout.specs.Trees.{tree}
use Rattle.abi_pack.specs.ByteMap.{bytes_of}
use Rattle.abi_pack.specs.View.{plain}
use Rattle.abi_result.proofs.storage.shown.Goals as goal

pub returns-in-Ok-read-clause-fits : goal.returns-in-Ok-read-clause-fits
returns-in-Ok-read-clause-fits c =
    let target = c.args.target.now in
    let t = tree c.args.desc.now in
    let read = c.in-Ok-read.ensures One target t c.in-Ok.ensures.ok in
    c.shown_value_fits.ensures One target t (plain c.in-Ok-read.value) (bytes_of c.args.bytes.now)
    c.in-Ok.ensures.ok.faultless c.are_bytes.ensures (read.1)

pub returns-in-Ok-read-clause-only : goal.returns-in-Ok-read-clause-only
returns-in-Ok-read-clause-only c w there =
    let target = c.args.target.now in
    let t = tree c.args.desc.now in
    let read = c.in-Ok-read.ensures One target t c.in-Ok.ensures.ok in
    c.one_value.ensures One target t w (plain c.in-Ok-read.value) (bytes_of c.args.bytes.now)
    c.in-Ok.ensures.ok.faultless c.are_bytes.ensures (there.1) (read.1)
