use Rattle.std.proofs.Common.{ℕ, List, ◌++◌, take, flat_map}
use Rattle.sha2.specs.Hashers.{Holds256}
use Rattle.abi_report.specs.Identifier.{field_hashed}
use Rattle.abi_report.specs.Reports.{named}
use Rattle.abi_report.proofs.identifier.+taking.Given as goal

-- the hasher holds the fields so far
abbrev pub invariant-take_in_fields-loop-field : goal.invariant-take_in_fields-loop-field
invariant-take_in_fields-loop-field l =
    (m : List ℕ) → Holds256 l.initial.hasher m → Holds256 l.hasher (m ++ flat_map (λ f. field_hashed (named f)) (take l.field-index l.fields))
