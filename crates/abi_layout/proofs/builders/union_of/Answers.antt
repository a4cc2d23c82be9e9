use Rattle.std.proofs.Common.{◌≡◌, ◌||◌, ◌∙◌, max}
use Rattle.std.specs.Int.{next_multiple_of}
use Rattle.abi_layout.proofs.Opening.{overlaid_made}
use Rattle.abi_layout.proofs.builders.union_of.Goals as goal

pub bare-requires : goal.bare-requires
bare-requires c =
    let align : c.max-align.result ≡ max c.args.ok.now.align c.args.err.now.align = cc in
    let size : c.next_multiple_of-size.result ≡ next_multiple_of (max c.args.ok.now.size c.args.err.now.size) c.max-align.result = cc in
    let indirect : (c.indirections.result || c.indirections-2.result) ≡ (c.args.ok.now.indirections || c.args.err.now.indirections) = cc in
    (overlaid_made c.args.ok.now c.args.err.now c.next_multiple_of-size.result c.max-align.result (c.indirections.result || c.indirections-2.result)
    c.align.ensures.lawful c.align-2.ensures.lawful align size indirect).0

pub returns : goal.returns
returns c =
    let align : c.max-align.result ≡ max c.args.ok.now.align c.args.err.now.align = cc in
    let size : c.next_multiple_of-size.result ≡ next_multiple_of (max c.args.ok.now.size c.args.err.now.size) c.max-align.result = cc in
    let indirect : (c.indirections.result || c.indirections-2.result) ≡ (c.args.ok.now.indirections || c.args.err.now.indirections) = cc in
    c.bare.ensures
    ∙ (overlaid_made c.args.ok.now c.args.err.now c.next_multiple_of-size.result c.max-align.result (c.indirections.result || c.indirections-2.result)
    c.align.ensures.lawful c.align-2.ensures.lawful align size indirect).1
