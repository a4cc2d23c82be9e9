use Rattle.std.proofs.Common.{◌≡◌, ◌<◌, ◌∷◌, length, rules, arith}
use Rattle.abi_pack.specs.View.{shape}
use Rattle.abi_pack.proofs.Inners.{named_inner}
use Rattle.abi_pack.proofs.edit_fault.+edit_fault.Goals as goal

pub overflow_add-at : goal.overflow_add-at
overflow_add-at t c =
    let of = named_inner (shape c.args.part.now) c.in-Some.step.now _ c.requires.sound c.in-Some-named.ensures in
    omega (arith, of.high, c.requires.within, c.requires.small)

pub edit_fault-requires : goal.edit_fault-requires
edit_fault-requires t c =
    let cons : c.args.path.now ≡ c.in-Some.step.now ∷ c.in-Some.path.now = search rules in
    let fewer : length c.in-Some.path.now < length c.args.path.now = rw cons (omega arith) in
    let of = named_inner (shape c.args.part.now) c.in-Some.step.now _ c.requires.sound c.in-Some-named.ensures in
    (omega (arith, c.decreases, fewer), (of.sound, (c.requires.small, omega (arith, of.high, c.requires.within))))
