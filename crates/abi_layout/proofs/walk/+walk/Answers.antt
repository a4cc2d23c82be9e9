use Rattle.std.proofs.Common.{◌≡◌, ◌+◌, ◌∙◌, [], refl, length, drop, sym, arith, rules}
use Rattle.std.proofs.lemmas.List.{append-nil, drop_all}
use Rattle.abi_layout.specs.Frames.{written_frame, written_frames}
use Rattle.abi_layout.specs.Trees.{Branches, prim, union, sum, core, field, sides, branches, tree}
use Rattle.abi_layout.specs.declared.prim.Primitive.TheVariants as primitive
use Rattle.abi_layout.specs.declared.part.Sort.TheVariants as sort
use Rattle.abi_layout.proofs.Views.{tree_union, tree_result, tree_option, tree_core_result, branches_at}
use Rattle.abi_layout.specs.Sums.{written_sums}
use Rattle.abi_layout.proofs.Walking.{fronted_last, more_fields, named_more, more_frames, more_sums, some_part, sums_of_two, sums_of_sum, sum_left, core_left}
use Rattle.abi_layout.proofs.walk.+walk.Goals as goal

pub lay_out_fields-loop-field-preserved : goal.lay_out_fields-loop-field-preserved
lay_out_fields-loop-field-preserved t c =
    let i = c.loop-field.field-index in
    let f = c.field-item.result in
    let rest : Branches = branches (drop (i + 1) c.args.fields.now) in
    let cons : branches (drop i c.args.fields.now) ≡ field f.name (tree f.ty) rest = branches_at c.args.fields.now i f c.loop-field-test.true c.field-item.is in
    let found = c.in_ok-found.found in
    let some = some_part (tree f.ty) in
    record {
      fields = more_fields c.args.rules c.args.target.now f.name (tree f.ty) rest c.loop-field.laid c.push.new.self _ c.loop-field.end c.start_after-start.result c.size.result found.layout _
          c.in_ok-push.ensures.ok refl c.in_ok-found.ensures.part c.in_ok-found.ensures.layout c.start_after-start.ensures.same c.size.ensures.same (rw cons at c.loop-field.invariant.fields);
      named = named_more c.loop-field.laid c.push.new.self _ c.in_ok-push.ensures.ok c.loop-field.invariant.named c.in_ok-found.ensures.named;
      frames = more_frames c.loop-field.layouts c.push-in-loop-field.new.self (written_frames c.args.rules c.args.target.now rest) _ found.layout (written_frame c.args.rules c.args.target.now (tree f.ty))
          c.in_ok-push-2.ensures.ok c.in_ok-found.ensures.layout (rw cons at c.loop-field.invariant.frames);
      bound = omega (arith, c.start_after-start.ensures.near, c.size.ensures.bound, c.loop-field.invariant.bound, c.in_ok-found.ensures.next, some);
      number = let all = rw cons at c.loop-field.invariant.number in omega (arith, all, c.in_ok-found.ensures.next);
      sums = more_sums c.loop-field.sums.items c.lay_out_part.new.sums.items (written_sums c.args.rules c.args.target.now c.loop-field.part (tree f.ty)) _ _
          c.in_ok-found.ensures.sums (rw (c.in_ok-found.ensures.next) (rw cons at c.loop-field.invariant.sums));
      fault = rw c.in_ok-found.ensures.next (rw (cons, c.in_ok-found.ensures.faultless) at c.loop-field.invariant.fault);
    }

pub lay_out_fields-returns-clause-fields : goal.lay_out_fields-returns-clause-fields
lay_out_fields-returns-clause-fields t c =
    let none : drop c.loop-field.field-index c.args.fields.now ≡ [] = drop_all c.loop-field.field-index c.args.fields.now (omega arith) in
    sym (fronted_last c.loop-field.laid) ∙ rw none at c.loop-field.invariant.fields

pub lay_out_part-returns-in_ok-err-in-Union-clause-sums : goal.lay_out_part-returns-in_ok-err-in-Union-clause-sums
lay_out_part-returns-in_ok-err-in-Union-clause-sums t c =
    let ok = c.in_ok-ok-in-Union in
    let err = c.in_ok-err-in-Union in
    let side = sides (tree c.deref-in-Union.result.now) (tree c.deref-in-Union-2.result.now) in
    let is : tree c.args.desc.now ≡ union side = rw (c.in-Union.is, c.deref-in-Union.ensures, c.deref-in-Union-2.ensures) (tree_union c.in-Union.ok c.in-Union.err) in
    sums_of_two c.args.rules c.args.target.now side c.args.first ok.ok.next c.args.sums.now.items c.lay_out_part-in-Union.new.sums.items c.lay_out_part-in-Union-2.new.sums.items
    (written_sums c.args.rules c.args.target.now c.args.first (tree c.args.desc.now)) (rw is refl) ok.ensures.next ok.ensures.sums err.ensures.sums

pub lay_out_part-returns-in_err-found-in-Result-clause-err : goal.lay_out_part-returns-in_err-found-in-Result-clause-err
lay_out_part-returns-in_err-found-in-Result-clause-err t c =
    let ok = c.in_ok-ok-in-Result in
    let err = c.in_ok-err-in-Result in
    let side = sides (tree c.deref-in-Result.result.now) (tree c.deref-in-Result-2.result.now) in
    let is : tree c.args.desc.now ≡ sum sort.OfResult side = rw (c.in-Result.is, c.deref-in-Result.ensures, c.deref-in-Result-2.ensures) (tree_result c.in-Result.ok c.in-Result.err) in
    let same = sum_left c.args.rules c.args.target.now (tree c.args.desc.now) sort.OfResult side c.args.first ok.ok.next err.err.next ok.ok.layout err.err.layout
    is ok.ensures.next (omega (arith, ok.ensures.next, err.ensures.next)) ok.ensures.layout err.ensures.layout ok.ensures.faultless err.ensures.faultless in
    rw same (search rules)

pub lay_out_part-returns-in_ok-found-in-Result-clause-faultless : goal.lay_out_part-returns-in_ok-found-in-Result-clause-faultless
lay_out_part-returns-in_ok-found-in-Result-clause-faultless t c =
    let ok = c.in_ok-ok-in-Result in
    let err = c.in_ok-err-in-Result in
    let side = sides (tree c.deref-in-Result.result.now) (tree c.deref-in-Result-2.result.now) in
    let is : tree c.args.desc.now ≡ sum sort.OfResult side = rw (c.in-Result.is, c.deref-in-Result.ensures, c.deref-in-Result-2.ensures) (tree_result c.in-Result.ok c.in-Result.err) in
    sum_left c.args.rules c.args.target.now (tree c.args.desc.now) sort.OfResult side c.args.first ok.ok.next err.err.next ok.ok.layout err.err.layout
    is ok.ensures.next (omega (arith, ok.ensures.next, err.ensures.next)) ok.ensures.layout err.ensures.layout ok.ensures.faultless err.ensures.faultless
    ∙ c.in_ok-found-in-Result.ensures.faultless

pub lay_out_part-returns-in_ok-found-in-Result-clause-sums : goal.lay_out_part-returns-in_ok-found-in-Result-clause-sums
lay_out_part-returns-in_ok-found-in-Result-clause-sums t c =
    let ok = c.in_ok-ok-in-Result in
    let err = c.in_ok-err-in-Result in
    let side = sides (tree c.deref-in-Result.result.now) (tree c.deref-in-Result-2.result.now) in
    let is : tree c.args.desc.now ≡ sum sort.OfResult side = rw (c.in-Result.is, c.deref-in-Result.ensures, c.deref-in-Result-2.ensures) (tree_result c.in-Result.ok c.in-Result.err) in
    let long : c.len-at.result ≡ length c.args.sums.now.items = search rules in
    sums_of_sum c.args.rules c.args.target.now (tree c.args.desc.now) sort.OfResult side c.args.first ok.ok.next err.err.next c.len-at.result
    ok.ok.layout err.err.layout c.args.sums.now.items c.lay_out_part-in-Result.new.sums.items c.lay_out_part-in-Result-2.new.sums.items c.lay_out_sum.new.sums.items
    is long ok.ensures.next (omega (arith, ok.ensures.next, err.ensures.next)) ok.ensures.layout err.ensures.layout
    ok.ensures.sums err.ensures.sums c.in_ok-found-in-Result.ensures.sums

pub lay_out_part-returns-in_err-found-in-CoreResult-clause-err : goal.lay_out_part-returns-in_err-found-in-CoreResult-clause-err
lay_out_part-returns-in_err-found-in-CoreResult-clause-err t c =
    let ok = c.in_ok-ok-in-CoreResult in
    let err = c.in_ok-err-in-CoreResult in
    let side = sides (tree c.deref-in-CoreResult.result.now) (tree c.deref-in-CoreResult-2.result.now) in
    let is : tree c.args.desc.now ≡ core sort.OfResult side = rw (c.in-CoreResult.is, c.deref-in-CoreResult.ensures, c.deref-in-CoreResult-2.ensures) (tree_core_result c.in-CoreResult.ok c.in-CoreResult.err) in
    let same = core_left c.args.rules c.args.target.now (tree c.args.desc.now) sort.OfResult side c.args.first ok.ok.next err.err.next ok.ok.layout err.err.layout
    is ok.ensures.next (omega (arith, ok.ensures.next, err.ensures.next)) ok.ensures.layout err.ensures.layout ok.ensures.faultless err.ensures.faultless in
    rw same (search rules)

pub lay_out_part-returns-in_ok-found-in-CoreResult-clause-faultless : goal.lay_out_part-returns-in_ok-found-in-CoreResult-clause-faultless
lay_out_part-returns-in_ok-found-in-CoreResult-clause-faultless t c =
    let ok = c.in_ok-ok-in-CoreResult in
    let err = c.in_ok-err-in-CoreResult in
    let side = sides (tree c.deref-in-CoreResult.result.now) (tree c.deref-in-CoreResult-2.result.now) in
    let is : tree c.args.desc.now ≡ core sort.OfResult side = rw (c.in-CoreResult.is, c.deref-in-CoreResult.ensures, c.deref-in-CoreResult-2.ensures) (tree_core_result c.in-CoreResult.ok c.in-CoreResult.err) in
    core_left c.args.rules c.args.target.now (tree c.args.desc.now) sort.OfResult side c.args.first ok.ok.next err.err.next ok.ok.layout err.err.layout
    is ok.ensures.next (omega (arith, ok.ensures.next, err.ensures.next)) ok.ensures.layout err.ensures.layout ok.ensures.faultless err.ensures.faultless
    ∙ c.in_ok-found-in-CoreResult.ensures.faultless

pub lay_out_part-returns-in_ok-found-in-CoreResult-clause-sums : goal.lay_out_part-returns-in_ok-found-in-CoreResult-clause-sums
lay_out_part-returns-in_ok-found-in-CoreResult-clause-sums t c =
    let ok = c.in_ok-ok-in-CoreResult in
    let err = c.in_ok-err-in-CoreResult in
    let side = sides (tree c.deref-in-CoreResult.result.now) (tree c.deref-in-CoreResult-2.result.now) in
    let is : tree c.args.desc.now ≡ core sort.OfResult side = rw (c.in-CoreResult.is, c.deref-in-CoreResult.ensures, c.deref-in-CoreResult-2.ensures) (tree_core_result c.in-CoreResult.ok c.in-CoreResult.err) in
    sums_of_two c.args.rules c.args.target.now side c.args.first ok.ok.next c.args.sums.now.items c.lay_out_part-in-CoreResult.new.sums.items c.lay_out_part-in-CoreResult-2.new.sums.items
    (written_sums c.args.rules c.args.target.now c.args.first (tree c.args.desc.now)) (rw is refl) ok.ensures.next ok.ensures.sums err.ensures.sums

pub lay_out_part-returns-in_ok-found-in-Option-clause-sums : goal.lay_out_part-returns-in_ok-found-in-Option-clause-sums
lay_out_part-returns-in_ok-found-in-Option-clause-sums t c =
    let some = c.in_ok-some-in-Option in
    let none = c.in_ok-none-in-Option in
    let side = sides (tree c.deref-in-Option.result.now) (prim primitive.Unit) in
    let of_some = c.lay_out_part-in-Option.new.sums.items in
    let long : c.len-at-in-Option.result ≡ length c.args.sums.now.items = search rules in
    let is : tree c.args.desc.now ≡ sum sort.OfOption side = rw (c.in-Option.is, c.deref-in-Option.ensures) (tree_option c.in-Option.some) in
    sums_of_sum c.args.rules c.args.target.now (tree c.args.desc.now) sort.OfOption side c.args.first some.some.next none.none.next c.len-at-in-Option.result
    some.some.layout none.none.layout c.args.sums.now.items of_some of_some c.lay_out_sum-in-Option.new.sums.items
    is long some.ensures.next (omega (arith, some.ensures.next, none.ensures.next)) some.ensures.layout none.ensures.layout
    some.ensures.sums (sym (append-nil of_some)) c.in_ok-found-in-Option.ensures.sums
