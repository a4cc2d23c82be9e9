use Rattle.std.proofs.Common.{◌≡◌, ◌+◌, ◌<◌, ◌^◌, ◌∷◌, length, rules, arith}
use Rattle.abi_layout.specs.Shape.{size, size_in}
use Rattle.abi_pack.specs.View.{shape, shapes}
use Rattle.abi_pack.proofs.inner.+field_named.Goals as goal

pub field_named-requires : goal.field_named-requires
field_named-requires t c =
    let cons : c.args.fields.now ≡ c.in-Some.field.now ∷ c.in-Some.fields.now = search rules in
    let fewer : length c.in-Some.fields.now < length c.args.fields.now = rw cons (omega arith) in
    let small : c.args.before + (c.in-Some.field.now.gap + size (shape c.in-Some.field.now.part) + size_in (shapes c.in-Some.fields.now)) < 2 ^ 32 = rw cons at c.requires.small in
    (omega (arith, c.decreases, fewer), omega (arith, small, c.size.ensures))
