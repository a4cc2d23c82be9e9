use Rattle.std.proofs.Common.{sym}
use Rattle.abi_result.proofs.storage.tests.there_and_back.Goals as goal

pub returns : goal.returns
returns g c =
    let image = c.in-Ok.ensures.bytes in
    sym (c.in_ok-back.ensures.only c.args.value.now c.in-Ok.ensures.told (rw c.as_slice.ensures (image.long, image.canonical.shows)))
