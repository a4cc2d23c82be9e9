use Rattle.std.proofs.Common.{◌≡◌, fold, take, flat_map}
use Rattle.abi_report.specs.Fed.{field_fed}
use Rattle.abi_report.specs.Reports.{named}
use Rattle.abi_report.proofs.hash.+feed.Given as goal

-- the fields so far have been fed
abbrev pub invariant-feed_fields-loop-field : goal.invariant-feed_fields-loop-field
invariant-feed_fields-loop-field g l =
    l.state ≡ fold g.H.Hasher.write l.initial.state (flat_map (λ f. field_fed (named f)) (take l.field-index l.fields))
