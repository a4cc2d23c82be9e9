use Rattle.abi_det.specs.FrameOf.{frame}
use Rattle.abi_layout.proofs.Steps.{struct_large, struct_fits, struct_made}
use Rattle.abi_layout.proofs.structs.struct_layout.Goals as goal

pub returns-in-None-clause-err : goal.returns-in-None-clause-err
returns-in-None-clause-err c =
    λ ne. struct_large c.args.part c.args.fields.now c.args.align c.in_ok-alignment.ensures.ok.0 (rw c.in-None.is at c.in_ok-opened.ensures)

pub returns-in_ok-layout-in-Some-clause-faultless : goal.returns-in_ok-layout-in-Some-clause-faultless
returns-in_ok-layout-in-Some-clause-faultless c =
    let found = rw c.in-Some.is at c.in_ok-opened.ensures in
    struct_fits c.args.part c.args.fields.now c.args.align (frame c.in-Some.raw) c.requires c.in_ok-alignment.ensures.ok.0 found.0 found.1

pub returns-in_ok-layout-in-Some-clause-layout : goal.returns-in_ok-layout-in-Some-clause-layout
returns-in_ok-layout-in-Some-clause-layout c =
    let found = rw c.in-Some.is at c.in_ok-opened.ensures in
    struct_made c.args.fields.now c.args.align c.in_ok-alignment.alignment (frame c.in-Some.raw) c.in_ok-layout-in-Some.layout c.requires
    c.in_ok-alignment.ensures.ok.1 found.0 c.in_ok-layout-in-Some.ensures
