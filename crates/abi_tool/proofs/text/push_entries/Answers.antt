use Rattle.std.proofs.Common.{rules, ◌≡◌, ◌++◌, string_bytes, arith, sym, ◌∙◌}
use Rattle.abi_tool.specs.Lines.{entry_text}
use Rattle.abi_tool.proofs.Entries.{IsFound, next_found, next_none, began, went_on, ended}
use Rattle.abi_tool.proofs.text.push_entries.Goals as goal

pub entries-init : goal.entries-init
entries-init c = record { told = began c.args.free.now (string_bytes c.args.out.now); within = omega arith }

pub overflow_add-from : goal.overflow_add-from
overflow_add-from c =
    let f : IsFound c.entries.from c.args.free.now (c.in-Some.offset, c.in-Some.mask) = next_found _ _ _ c.next_entry.ensures.valid c.in-Some.ensures.same in
    omega (arith, f.bounded)

pub entries-smaller : goal.entries-smaller
entries-smaller c =
    let f : IsFound c.entries.from c.args.free.now (c.in-Some.offset, c.in-Some.mask) = next_found _ _ _ c.next_entry.ensures.valid c.in-Some.ensures.same in
    omega (arith, f.bounded, f.later)

pub entries-preserved : goal.entries-preserved
entries-preserved c =
    let f : IsFound c.entries.from c.args.free.now (c.in-Some.offset, c.in-Some.mask) = next_found _ _ _ c.next_entry.ensures.valid c.in-Some.ensures.same in
    let wrote : string_bytes c.push_entry.new.out ≡ string_bytes c.entries.out ++ entry_text (c.in-Some.offset, c.in-Some.mask) = search rules in
    record {
      told = rw wrote (went_on _ _ _ _ _ f c.entries.invariant.told);
      within = omega (arith, f.bounded);
    }

pub returns : goal.returns
returns c = ended c.args.free.now c.entries.from _ _ (next_none c.args.free.now c.entries.from (sym c.in_default.is ∙ c.next_entry.ensures.same)) c.entries.invariant.told
