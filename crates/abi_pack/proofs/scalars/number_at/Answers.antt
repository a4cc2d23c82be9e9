use Rattle.std.proofs.Common.{◌+◌, ◌-◌, ◌<◌, ◌∙◌, slice_index, arith}
use Rattle.abi_pack.specs.Scalars.{number_in, full}
use Rattle.abi_pack.specs.ByteMap.{AreBytes, seen_from}
use Rattle.abi_pack.proofs.Stored.{number_bound}
use Rattle.abi_pack.proofs.Primitives.{number_cut}
use Rattle.abi_pack.proofs.scalars.number_at.Goals as goal

pub returns-clause-same : goal.returns-clause-same
returns-clause-same c =
    c.number_in.ensures
    ∙ number_cut c.args.integer.now c.args.at (c.args.at + c.bytes-size.result - c.args.at) c.args.bytes.now (omega (arith, c.bytes-size.ensures.same)) c.requires

pub returns-clause-small : goal.returns-clause-small
returns-clause-small c =
    let bytes : AreBytes (seen_from c.args.at (slice_index c.args.bytes.now)) = λ i. omega (arith, c.type_inv.bytes (c.args.at + i)) in
    let bound : number_in c.args.integer.now (seen_from c.args.at (slice_index c.args.bytes.now)) < full c.args.integer.now.width =
    number_bound c.args.integer.now (seen_from c.args.at (slice_index c.args.bytes.now)) bytes in
    rw (returns-clause-same c) bound
