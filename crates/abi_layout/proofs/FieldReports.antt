-- Reports of fields, one after the other.
use Rattle.std.proofs.Common.{◌≡◌, ℕ, ◌+◌, ◌<◌, ◌≤◌, true, List, [], ◌∷◌, ◌++◌, length, get_or, drop, rules, refl, sym, ap, ◌∙◌}
use Rattle.std.proofs.lemmas.List.{drop_all}
use Rattle.abi_num.specs.declared.target.Target.{Target}
use Rattle.abi_report.specs.Reports.{FieldTrees, no_field, field, field_trees, named, tree as reported}
use Rattle.abi_report.specs.declared.type_report.FieldReport.{FieldReport, roll-FieldReport, the_lemmas}
use Rattle.abi_report.specs.declared.type_report.TypeReport.{TypeReport}
use Rattle.abi_det.specs.Offers.{Rules}
use Rattle.abi_layout.specs.CoreSums.{is_empty}
use Rattle.abi_layout.specs.Frames.{written_frame}
use Rattle.abi_layout.specs.Prims.{row_frame}
use Rattle.abi_layout.specs.ReportsOf.{HasSides, HaveSides, one_field, followed, core_report, report_tree, field_reports}
use Rattle.abi_layout.specs.Trees.{Tree, tree, branches, prim, core_option}
use Rattle.abi_layout.specs.declared.desc.Field.{Field}
use Rattle.abi_layout.specs.declared.part.Sort.TheVariants as sort
use Rattle.abi_layout.specs.declared.prim.Primitive.TheVariants as primitive
use Rattle.abi_layout.proofs.Views.{branches_at}

pushed : (rs : List FieldReport) (x : FieldReport) → field_trees (rs ++ x ∷ []) ≡ followed (field_trees rs) (one_field (named x).0 (named x).1)
pushed [] x = refl
pushed (r ∷ rs) x = ap (field (named r).0 (named r).1) (pushed rs x)

-- a field as it is written down in code
pub named_as : (name : List ℕ) (ty : TypeReport) → named (roll-FieldReport (record { name = name; ty = ty })) ≡ (name, reported ty)
named_as name ty = search (rules, the_lemmas)

pub one_pushed : (rs now : List FieldReport) (x : FieldReport) (name : List ℕ) (ty : TypeReport) → now ≡ rs ++ x ∷ [] → named x ≡ (name, reported ty)
    → field_trees now ≡ followed (field_trees rs) (one_field name (reported ty))
one_pushed rs now x name ty q e = ap field_trees q ∙ pushed rs x ∙ ap (λ n. followed (field_trees rs) (one_field n.0 n.1)) e

by_none : (fs : FieldTrees) → followed fs no_field ≡ fs
by_none no_field = refl
by_none (field name r fs) = ap (field name r) (by_none fs)

regrouped : (a b c : FieldTrees) → followed (followed a b) c ≡ followed a (followed b c)
regrouped no_field b c = refl
regrouped (field name r a) b c = ap (field name r) (regrouped a b c)

-- the field at hand goes from those that are left to those that are reported
pub one_more : (rules : Rules) (target : Target) (fs : List Field) (i : ℕ) (f : Field) (rs now : List FieldReport) (all : FieldTrees)
    → i < length fs → f ≡ get_or fs i f
    → field_trees now ≡ followed (field_trees rs) (one_field f.name (report_tree rules target (tree f.ty)))
    → followed (field_trees rs) (field_reports rules target (branches (drop i fs))) ≡ all
    → followed (field_trees now) (field_reports rules target (branches (drop (i + 1) fs))) ≡ all
one_more rules target fs i f rs now all lt q e h =
    let rest : FieldTrees = field_reports rules target (branches (drop (i + 1) fs)) in
    let here : FieldTrees = one_field f.name (report_tree rules target (tree f.ty)) in
    ap (λ fs. followed fs rest) e ∙ regrouped (field_trees rs) here rest ∙ rw (branches_at fs i f lt q) at h

-- all are reported
pub none_left : (rules : Rules) (target : Target) (fs : List Field) (i : ℕ) (rs : List FieldReport) (all : FieldTrees) → length fs ≤ i
    → followed (field_trees rs) (field_reports rules target (branches (drop i fs))) ≡ all → field_trees rs ≡ all
none_left rules target fs i rs all le h = sym (by_none (field_trees rs)) ∙ rw (drop_all i fs le) at h

-- what is left tells of the field at hand, and of those after it
pub sides_at : (rules : Rules) (target : Target) (fs : List Field) (i : ℕ) (f : Field) → i < length fs → f ≡ get_or fs i f
    → HaveSides rules target (branches (drop i fs)) → HasSides rules target (tree f.ty) × HaveSides rules target (branches (drop (i + 1) fs))
sides_at rules target fs i f lt q h = rw (branches_at fs i f lt q) at h

nothing_held : (rules : Rules) (target : Target) → is_empty (written_frame rules target (prim primitive.Unit)) ≡ true
unfolding row_frame
nothing_held rules target = refl

-- a core option's payload is what `Some` holds
pub option_payload : (rules : Rules) (target : Target) (some : Tree)
    → report_tree rules target (core_option some) ≡ core_report sort.OfOption true (report_tree rules target some)
option_payload rules target some = rw (nothing_held rules target) refl
