use Rattle.std.proofs.Common.{◌≡◌, ◌∷◌, ◌∙◌, length, ap, sym, subst, rules}
use Rattle.abi_layout.specs.Builders.{IsOpen}
use Rattle.abi_layout.specs.Folds.{opened}
use Rattle.abi_layout.proofs.Faultless.{no_bytes_open}
use Rattle.abi_layout.proofs.Steps.{no_fields, struct_opened}
use Rattle.abi_layout.proofs.structs.open_struct.Goals as goal

pub returns-in-None : goal.returns-in-None
returns-in-None c =
    let none : length c.args.fields.now ≡ 0 = search rules in
    let empty = no_fields c.args.fields.now none in
    (c.no_bytes.ensures ∙ ap opened (sym empty), subst IsOpen (sym c.no_bytes.ensures) no_bytes_open)

pub returns-in_ok-found-in-Some : goal.returns-in_ok-found-in-Some
returns-in_ok-found-in-Some c =
    let fields : c.args.fields.now ≡ c.in-Some.first.now ∷ c.in-Some.others.now = search rules in
    struct_opened c.in-Some.first.now c.in-Some.others.now c.args.fields.now c.into_raw-raw.result c.in_ok-found-in-Some.found fields (c.into_raw-raw.ensures.same ∙ c.in_ok-copy-in-Some.ensures)
    c.requires c.in_ok-found-in-Some.ensures
