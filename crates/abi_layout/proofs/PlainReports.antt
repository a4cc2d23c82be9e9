-- Equal reports of plain descriptions tell equal frames.
use Rattle.std.proofs.Common.{◌≡◌, ℕ, ◌^◌, ◌<◌, true, false, List, ◌∷◌, Some, None, codes, decimal, refl, sym, ap, ◌∙◌, arith}
use Rattle.std.specs.Prelude.{if◌then◌else◌}
use Rattle.std.specs.Str.{bytes_eq}
use Rattle.std.proofs.lemmas.Bool.{and_parts, ltb-true}
use Rattle.std.proofs.lemmas.Fmt.{decimal_injective}
use Rattle.std.proofs.lemmas.List.{append_cancel_left, append_cancel_right}
use Rattle.abi_num.specs.declared.target.Target.{Target}
use Rattle.abi_report.specs.Identifier.{identifier}
use Rattle.abi_report.specs.Reports.{ReportTree, FieldTrees, report, no_field, field, fields_in}
use Rattle.abi_det.specs.Frame.{Frame}
use Rattle.abi_det.specs.Offers.{Rules}
use Rattle.abi_det.specs.Written.{written_sum}
use Rattle.abi_layout.specs.Forms.{form_of}
use Rattle.abi_layout.specs.Frames.{written_frame, written_frames}
use Rattle.abi_layout.specs.Names.{form_module, stable_impls}
use Rattle.abi_layout.specs.ReportsOf.{name_in, array_name, result_report, report_tree, field_reports, is_users, is_plain, are_plain, PlainLaw, IdentifierLaw}
use Rattle.abi_layout.specs.Structs.{struct_frame}
use Rattle.abi_layout.specs.Trees as trees
use Rattle.abi_layout.specs.Trees.{Tree, Branches}
use Rattle.abi_layout.specs.declared.part.Sort.TheVariants as sort
use Rattle.abi_layout.specs.declared.prim.Form.{Form}
use Rattle.abi_layout.specs.declared.prim.Form.TheVariants as form
use Rattle.abi_layout.proofs.ReadNames.{names_tell}

-- ---- what equal reports have equal

abbrev module_in : ReportTree → List ℕ
module_in (report name module_name fields kind version) = module_name

-- the report of the first field
abbrev first_in : ReportTree → FieldTrees → ReportTree
first_in r no_field = r
first_in r (field name s fs) = s

abbrev rest_in : FieldTrees → FieldTrees
rest_in no_field = no_field
rest_in (field name r fs) = fs

inner_same : (r s : ReportTree) (m n : List ℕ) (fs gs : FieldTrees) → field m r fs ≡ field n s gs → r ≡ s
inner_same r s m n fs gs e = ap (first_in r) e

results_same : (a b c d : ReportTree) → result_report a b ≡ result_report c d → (a ≡ c) × (b ≡ d)
results_same a b c d e = let fields = ap fields_in e in (ap (first_in a) fields, ap (λ fs. first_in b (rest_in fs)) fields)

lengths_same : (m n : ℕ) → m < 2 ^ 64 → n < 2 ^ 64 → array_name m ≡ array_name n → m ≡ n
unfolding array_name
lengths_same m n small less e =
    decimal_injective m n small less (append_cancel_right (decimal m) (decimal n) (codes "]") (append_cancel_left (codes "[T;") _ _ e))

-- ---- a report tells what sort of description it is of

abbrev with_fields : List ℕ → FieldTrees → ℕ
with_fields module_name no_field = 1
with_fields module_name (field name r fs) = if bytes_eq module_name stable_impls then 2 else 3

abbrev sort_of : ReportTree → ℕ
sort_of (report name module_name fields kind version) = if is_users module_name then 0 else with_fields module_name fields

abbrev sort_of_tree : Tree → ℕ
sort_of_tree (trees.struct label fs align) = 0
sort_of_tree (trees.prim p) = 1
sort_of_tree (trees.array item len) = 2
sort_of_tree (trees.sum names side) = 3
sort_of_tree t = 4

not_users : (f : Form) → is_users (form_module f) ≡ false
not_users form.Unit = refl
not_users f = refl

module _ (rules : Rules) (target : Target) where
  sort_told : (t : Tree) → is_plain t ≡ true → sort_of (report_tree rules target t) ≡ sort_of_tree t
  sort_told (trees.prim p) h = rw (not_users (form_of p)) refl
  sort_told (trees.struct label fs None) h = rw (and_parts (is_users label.module_name) (are_plain fs) h).0 refl
  sort_told (trees.array item len) h = refl
  sort_told (trees.sum sort.OfResult side) h = refl
  sort_told (trees.sum sort.OfOption side) h = refl
  sort_told t h = absurd (cc)

  same_sort : (t s : Tree) → is_plain t ≡ true → is_plain s ≡ true → report_tree rules target t ≡ report_tree rules target s → sort_of_tree t ≡ sort_of_tree s
  same_sort t s a b e = sym (sort_told t a) ∙ ap sort_of e ∙ sort_told s b

  sums_same : {a b c d : Frame} → a ≡ c → b ≡ d → written_sum rules a b ≡ written_sum rules c d
  sums_same e f = λ i. written_sum rules (e i) (f i)

  mutual
    frames : (t s : Tree) → is_plain t ≡ true → is_plain s ≡ true → report_tree rules target t ≡ report_tree rules target s
        → written_frame rules target t ≡ written_frame rules target s
    frames (trees.prim p) (trees.prim q) a b e = names_tell target p q (ap name_in e)
    frames (trees.prim p) s a b e = absurd (omega (arith, same_sort (trees.prim p) s a b e))
    frames (trees.struct label fs None) (trees.struct other gs None) a b e =
        ap (λ all. struct_frame all None) (frames_in fs gs (and_parts _ _ a).1 (and_parts _ _ b).1 (ap fields_in e))
    frames (trees.struct label fs None) (trees.struct other gs (Some align)) a b e = absurd (cc)
    frames (trees.struct label fs None) s a b e = absurd (omega (arith, same_sort (trees.struct label fs None) s a b e))
    frames (trees.array item len) (trees.array other n) a b e =
        let p = and_parts _ _ a in
        let q = and_parts _ _ b in
        let items : written_frame rules target item ≡ written_frame rules target other = frames item other p.1 q.1 (inner_same _ _ _ _ _ _ (ap fields_in e)) in
        let lengths : len ≡ n = lengths_same len n (ltb-true len (2 ^ 64) p.0) (ltb-true n (2 ^ 64) q.0) (ap name_in e) in
        rw (items, lengths) refl
    frames (trees.array item len) s a b e = absurd (omega (arith, same_sort (trees.array item len) s a b e))
    frames (trees.sum sort.OfResult side) (trees.sum sort.OfResult other) a b e =
        let p = and_parts _ _ a in
        let q = and_parts _ _ b in
        let same = results_same _ _ _ _ e in
        sums_same (frames (side true) (other true) p.0 q.0 same.0) (frames (side false) (other false) p.1 q.1 same.1)
    frames (trees.sum sort.OfOption side) (trees.sum sort.OfOption other) a b e =
        let p = and_parts _ _ a in
        let q = and_parts _ _ b in
        let same = results_same _ _ _ _ (inner_same _ _ _ _ _ _ (ap fields_in e)) in
        sums_same (frames (side true) (other true) p.0 q.0 same.0) (frames (side false) (other false) p.1 q.1 same.1)
    frames (trees.sum sort.OfResult side) (trees.sum sort.OfOption other) a b e = absurd (cc)
    frames (trees.sum sort.OfOption side) (trees.sum sort.OfResult other) a b e = absurd (cc)
    frames (trees.sum names side) s a b e = absurd (omega (arith, same_sort (trees.sum names side) s a b e))
    frames t s a b e = absurd (cc)

    frames_in : (fs gs : Branches) → are_plain fs ≡ true → are_plain gs ≡ true → field_reports rules target fs ≡ field_reports rules target gs
        → written_frames rules target fs ≡ written_frames rules target gs
    frames_in trees.none trees.none a b e = refl
    frames_in trees.none (trees.field name t gs) a b e = absurd (cc)
    frames_in (trees.field name t fs) trees.none a b e = absurd (cc)
    frames_in (trees.field name t fs) (trees.field other s gs) a b e =
        let p = and_parts _ _ a in
        let q = and_parts _ _ b in
        let here : written_frame rules target t ≡ written_frame rules target s = frames t s p.0 q.0 (inner_same _ _ _ _ _ _ e) in
        let rest : written_frames rules target fs ≡ written_frames rules target gs = frames_in fs gs p.1 q.1 (ap rest_in e) in
        λ i. here i ∷ rest i

pub plain_law : PlainLaw
plain_law rules target t s a b e = frames rules target t s a b e

pub identifier_law : IdentifierLaw
identifier_law target r s e = ap (identifier target) e
