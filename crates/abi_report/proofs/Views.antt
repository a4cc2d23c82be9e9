-- The plain tree of a report, level by level.
use Rattle.std.proofs.Common.{◌≡◌, ◌≢◌, ℕ, suc, ◌+◌, ◌<◌, List, [], ◌∷◌, Bool, true, false, ◌&&◌, length, get_or, drop, refl, sym, ap, ◌∙◌, arith, drop-cons}
use Rattle.abi_report.specs.declared.type_report.TypeReport.{TypeReport}
use Rattle.abi_report.specs.declared.type_report.FieldReport.{FieldReport}
use Rattle.abi_report.specs.declared.type_report.FieldReport.TheViews.{out-TypeReport, out-FieldReport}
use Rattle.abi_report.specs.declared.type_report.FieldReport.TheFolds.{fold_out-TypeReport, fold_out-FieldReport}
use Rattle.abi_report.specs.Reports.{ReportTree, Named, tree, named, field_trees, report, field, field_step, report_step}
use Rattle.abi_report.specs.Equality.{same_fields, same_named}

pub tree_out : (r : TypeReport) → tree r
    ≡ report (out-TypeReport r).name (out-TypeReport r).«module» (field_trees (out-TypeReport r).fields) (out-TypeReport r).tyty
    (out-TypeReport r).version
tree_out r = fold_out-TypeReport Named ReportTree field_step report_step r

pub named_out : (f : FieldReport) → named f ≡ ((out-FieldReport f).name, tree (out-FieldReport f).ty)
named_out f = fold_out-FieldReport Named ReportTree field_step report_step f

-- the fields from number i on are the field there and those after it
pub fields_at : (fs : List FieldReport) (i : ℕ) (x : FieldReport) → i < length fs → x ≡ get_or fs i x
    → field_trees (drop i fs) ≡ field (named x).0 (named x).1 (field_trees (drop (i + 1) fs))
fields_at fs i x lt q =
    let s : i + 1 ≡ suc i = omega arith in
    let c : drop i fs ≡ x ∷ drop (suc i) fs = drop-cons fs i x lt ∙ ap (λ y. y ∷ drop (suc i) fs) (sym q) in
    rw (s, c) refl

-- two fields that are the same leave it to those after them
pub same_here : (xs ys : List FieldReport) (i : ℕ) (x y : FieldReport) → i < length xs → i < length ys → x ≡ get_or xs i x → y ≡ get_or ys i y
    → true ≡ same_named (named x) (named y)
    → same_fields (field_trees (drop i xs)) (field_trees (drop i ys)) ≡ same_fields (field_trees (drop (i + 1) xs)) (field_trees (drop (i + 1) ys))
same_here xs ys i x y lx ly p q e = rw (fields_at xs i x lx p, fields_at ys i y ly q, sym e) refl

-- two fields that differ decide
pub differ_here : (xs ys : List FieldReport) (i : ℕ) (x y : FieldReport) → i < length xs → i < length ys → x ≡ get_or xs i x → y ≡ get_or ys i y
    → false ≡ same_named (named x) (named y)
    → same_fields (field_trees (drop i xs)) (field_trees (drop i ys)) ≡ false
differ_here xs ys i x y lx ly p q e = rw (fields_at xs i x lx p, fields_at ys i y ly q, sym e) refl

none_passes : (b : Bool) → false ≡ (b && false)
none_passes true = refl
none_passes false = refl

-- lists of different lengths are not the same
pub apart : (xs ys : List FieldReport) → length xs ≢ length ys → false ≡ same_fields (field_trees xs) (field_trees ys)
apart [] [] ne = absurd (ne refl)
apart [] (y ∷ ys) ne = refl
apart (x ∷ xs) [] ne = refl
apart (x ∷ xs) (y ∷ ys) ne =
    let e : false ≡ same_fields (field_trees xs) (field_trees ys) = apart xs ys (λ q. ne (ap suc q)) in
    none_passes (same_named (named x) (named y)) ∙ ap (λ b. same_named (named x) (named y) && b) e
