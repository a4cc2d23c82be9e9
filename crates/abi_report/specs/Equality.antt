-- Equal reports: all that they say is equal.
use Rattle.std.specs.Prelude.{◌≡◌, Bool, true, false, ◌&&◌, ◌==◌, nat_eq}
use Rattle.std.specs.Bool.{Decides}
use Rattle.std.specs.Cmp.{unsigned_Decides}
use Rattle.std.specs.Cmp.Lexicographic.{pointwise, bytes_decides}
use Rattle.std.proofs.Common.{refl, ap}
use Rattle.std.proofs.lemmas.Bool.Decides.{Decides-and}
use Rattle.abi_report.specs.Kinds.{same_kind, kind_decides}
use Rattle.abi_report.specs.Reports.{ReportTree, FieldTrees, Named, report, no_field, field}

abbrev mutual
  pub same : ReportTree → ReportTree → Bool
  same (report name module_name fields kind version) (report name' module_name' fields' kind' version') =
      pointwise nat_eq name name' && pointwise nat_eq module_name module_name' && same_fields fields fields'
      && same_kind kind kind' && version == version'

  pub same_fields : FieldTrees → FieldTrees → Bool
  same_fields no_field no_field = true
  same_fields (field name r fs) (field name' r' fs') = pointwise nat_eq name name' && same r r' && same_fields fs fs'
  same_fields _ _ = false

abbrev pub same_named : Named → Named → Bool
same_named f g = pointwise nat_eq f.0 g.0 && same f.1 g.1

mutual
  pub decides : (r s : ReportTree) → Decides (same r s) (r ≡ s)
  decides (report n m fs k v) (report n' m' fs' k' v') =
      let names : Decides (pointwise nat_eq n n') (n ≡ n') = bytes_decides n n' in
      let modules : Decides (pointwise nat_eq m m') (m ≡ m') = bytes_decides m m' in
      let fields : Decides (same_fields fs fs') (fs ≡ fs') = fields_decides fs fs' in
      let kinds : Decides (same_kind k k') (k ≡ k') = kind_decides k k' in
      let a = Decides-and _ _ names modules in
      let b = Decides-and _ _ a fields in
      let c = Decides-and _ _ b kinds in
      let d = Decides-and _ _ c (unsigned_Decides v v') in (
        λ e. let h = d.0 e in λ i. report (h.0.0.0.0 i) (h.0.0.0.1 i) (h.0.0.1 i) (h.0.1 i) (h.1 i),
        λ e. d.1 ((((cc, cc), cc), cc), cc),
      )

  pub fields_decides : (fs gs : FieldTrees) → Decides (same_fields fs gs) (fs ≡ gs)
  fields_decides no_field no_field = (λ e. refl, λ e. refl)
  fields_decides no_field (field n r gs) = (λ e. absurd (cc), λ e. absurd (cc))
  fields_decides (field n r fs) no_field = (λ e. absurd (cc), λ e. absurd (cc))
  fields_decides (field n r fs) (field n' r' gs) =
      let a = Decides-and _ _ (bytes_decides n n') (decides r r') in
      let b = Decides-and _ _ a (fields_decides fs gs) in
      (λ e. let h = b.0 e in λ i. field (h.0.0 i) (h.0.1 i) (h.1 i), λ e. b.1 ((cc, cc), cc))

pub named_decides : (f g : Named) → Decides (same_named f g) (f ≡ g)
named_decides f g =
    let a = Decides-and _ _ (bytes_decides f.0 g.0) (decides f.1 g.1) in
    (λ e. let h = a.0 e in λ i. (h.0 i, h.1 i), λ e. a.1 (ap (λ w. w.0) e, ap (λ w. w.1) e))
