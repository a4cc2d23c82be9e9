use Rattle.std.proofs.Common.{◌≡◌, ◌+◌, ◌<◌, ◌∙◌, refl, ap, bit_or, leb, get_or, length, set, arith}
use Rattle.std.proofs.lemmas.List.{length-set}
use Rattle.std.proofs.lemmas.Grind.{get_or_default_zero}
use Rattle.abi_bits.proofs.Joining.{none_added, one_more_added, all_added}
use Rattle.abi_bits.proofs.span.or_bytes.Goals as goal

pub loop-index-init : goal.loop-index-init
loop-index-init c = record {
  len = refl;
  joined = λ k. none_added (leb c.args.from k) (get_or c.args.bytes.now.items k 0);
}

pub loop-index-preserved : goal.loop-index-preserved
loop-index-preserved c =
    let bytes = c.loop-index.bytes.items in
    let here = c.args.from + c.loop-index.index in
    let inside : here < length bytes = omega (arith, c.requires, c.loop-index-test.true, c.loop-index.invariant.len) in
    let byte : c.index_mut.result.now ≡ get_or bytes here 0 = c.index_mut.ensures.value ∙ get_or_default_zero bytes here c.index_mut.result.now inside in
    record {
      len = length-set bytes here _ ∙ c.loop-index.invariant.len;
      joined = λ k.
          one_more_added c.args.from c.loop-index.index k c.args.bytes.now.items bytes c.args.other.now _ inside
          (ap (λ x. set bytes here (bit_or x (get_or c.args.other.now c.loop-index.index 0))) byte) c.loop-index.invariant.joined;
    }

pub returns-clause-joined : goal.returns-clause-joined
returns-clause-joined c = λ k. all_added c.args.from c.loop-index.index k c.args.bytes.now.items c.loop-index.bytes.items c.args.other.now c.loop-index-test.false (c.loop-index.invariant.joined k)
