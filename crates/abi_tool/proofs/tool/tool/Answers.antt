use Rattle.std.proofs.Common.{rules, IfSome}
use Rattle.abi_tool.specs.Answers.{reply_to, Answers}
use Rattle.abi_tool.proofs.LaysOut.{laid_out_told, reports_told}
use Rattle.abi_tool.proofs.Packs.{packs_told}
use Rattle.abi_tool.proofs.Showing.{reads_told, edits_told}
use Rattle.abi_tool.proofs.tool.tool.Goals as goal

pub returns-in-Some-Document-clause-packs : goal.returns-in-Some-Document-clause-packs
returns-in-Some-Document-clause-packs g c =
    let got = g.K.Sink.got c.args.sink.now in
    let went = g.K.Sink.got c.run_document.new.sink in
    let told : IfSome (g.S.Source.left c.args.source.now) (λ bytes. Answers (reply_to c.args.words.now bytes) got went c.run_document.result) = search rules in
    packs_told c.args.words.now (g.S.Source.left c.args.source.now) got went c.run_document.result told

pub returns-in-Some-Document-clause-lays_out : goal.returns-in-Some-Document-clause-lays_out
returns-in-Some-Document-clause-lays_out g c =
    let got = g.K.Sink.got c.args.sink.now in
    let went = g.K.Sink.got c.run_document.new.sink in
    let told : IfSome (g.S.Source.left c.args.source.now) (λ bytes. Answers (reply_to c.args.words.now bytes) got went c.run_document.result) = search rules in
    laid_out_told c.args.words.now (g.S.Source.left c.args.source.now) got went c.run_document.result told

pub returns-in-Some-Document-clause-reads : goal.returns-in-Some-Document-clause-reads
returns-in-Some-Document-clause-reads g c =
    let got = g.K.Sink.got c.args.sink.now in
    let went = g.K.Sink.got c.run_document.new.sink in
    let told : IfSome (g.S.Source.left c.args.source.now) (λ bytes. Answers (reply_to c.args.words.now bytes) got went c.run_document.result) = search rules in
    reads_told c.args.words.now (g.S.Source.left c.args.source.now) got went c.run_document.result told

pub returns-in-Some-Document-clause-edits : goal.returns-in-Some-Document-clause-edits
returns-in-Some-Document-clause-edits g c =
    let got = g.K.Sink.got c.args.sink.now in
    let went = g.K.Sink.got c.run_document.new.sink in
    let told : IfSome (g.S.Source.left c.args.source.now) (λ bytes. Answers (reply_to c.args.words.now bytes) got went c.run_document.result) = search rules in
    edits_told c.args.words.now (g.S.Source.left c.args.source.now) got went c.run_document.result told

pub returns-in-Some-Document-clause-reports : goal.returns-in-Some-Document-clause-reports
returns-in-Some-Document-clause-reports g c =
    let got = g.K.Sink.got c.args.sink.now in
    let went = g.K.Sink.got c.run_document.new.sink in
    let told : IfSome (g.S.Source.left c.args.source.now) (λ bytes. Answers (reply_to c.args.words.now bytes) got went c.run_document.result) = search rules in
    reports_told c.args.words.now (g.S.Source.left c.args.source.now) got went c.run_document.result told
