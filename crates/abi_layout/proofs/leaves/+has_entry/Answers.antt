use Rattle.std.proofs.Common.{rules, arith}
use Rattle.abi_layout.proofs.Halving.{left_rises, right_rises, found_left, found_right, found_here}
use Rattle.abi_layout.proofs.leaves.+has_entry.Goals as goal

pub has_entry-requires : goal.has_entry-requires
has_entry-requires t c =
    let whole = rw c.in-Some.ensures.cases.0 at c.split_at.ensures.by_index.0 in
    let left = left_rises _ _ _ _ whole c.requires.rise c.requires.bits in
    (search rules, (left.0, left.1))

pub has_entry-requires-then-offset-at : goal.has_entry-requires-then-offset-at
has_entry-requires-then-offset-at t c =
    let whole = rw c.in-Some.ensures.cases.0 at c.split_at.ensures.by_index.0 in
    let right = right_rises _ _ _ _ whole c.requires.rise c.requires.bits in
    (search rules, (right.0, right.1))

pub returns-then-at-offset : goal.returns-then-at-offset
returns-then-at-offset t c =
    let whole = rw c.in-Some.ensures.cases.0 at c.split_at.ensures.by_index.0 in
    rw (found_left _ _ _ _ c.args.at whole c.requires.rise c.if-at-offset.true) c.has_entry.ensures

pub returns-then-offset-at : goal.returns-then-offset-at
returns-then-offset-at t c =
    let whole = rw c.in-Some.ensures.cases.0 at c.split_at.ensures.by_index.0 in
    rw (found_right _ _ _ _ c.args.at whole c.requires.rise c.if-offset-at.true) c.has_entry-then-offset-at.ensures

pub returns-else-offset-at : goal.returns-else-offset-at
returns-else-offset-at t c =
    let whole = rw c.in-Some.ensures.cases.0 at c.split_at.ensures.by_index.0 in
    found_here _ _ _ _ c.args.at whole c.requires.rise c.requires.bits (omega (arith, c.if-at-offset.false, c.if-offset-at.false))
