use Rattle.abi_det.specs.Search.{spare_of}
use Rattle.abi_det.proofs.Entries.{bit_found}
use Rattle.abi_det.proofs.roles.Roles.shared_bit.Goals as goal

pub returns-in-Some : goal.returns-in-Some
returns-in-Some c =
    bit_found (spare_of c.args.self.now c.args.shift) c.args.self.now.size c.in-Some.offset c.in-Some.byte c.lowest.result c.in-Some.ensures.next c.lowest.ensures
