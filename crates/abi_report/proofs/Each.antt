-- What is said of all fields is said of each in turn.
use Rattle.std.proofs.Common.{◌≡◌, ℕ, List, [], ◌∷◌, ◌++◌, ◌≤◌, length, take, refl, sym, ap, ◌∙◌, flat_map}
use Rattle.std.proofs.lemmas.List.{take_all}
use Rattle.abi_report.specs.declared.type_report.FieldReport.{FieldReport}
use Rattle.abi_report.specs.Fed.{fields_fed, field_fed}
use Rattle.abi_report.specs.Identifier.{fields_hashed, field_hashed}
use Rattle.abi_report.specs.Reports.{ReportTree, FieldTrees, Named, named, field_trees, no_field, field}
use Rattle.abi_report.specs.Texts.{fields_text, field_text}

-- what is said field by field of as many fields as there are is said of them all
each : {A : Type 0} (one : Named → List A) (all : FieldTrees → List A) → all no_field ≡ []
    → ((name : List ℕ) (r : ReportTree) (fs : FieldTrees) → all (field name r fs) ≡ one (name, r) ++ all fs)
    → (fs : List FieldReport) (n : ℕ) → length fs ≤ n
    → all (field_trees fs) ≡ flat_map (λ f. one (named f)) (take n fs)
each {A} one all base step fs n long = whole fs ∙ ap (flat_map (λ f. one (named f))) (sym (take_all n fs long))
  where
    whole : (fs : List FieldReport) → all (field_trees fs) ≡ flat_map (λ f. one (named f)) fs
    whole [] = base
    whole (f ∷ fs) = step (named f).0 (named f).1 (field_trees fs) ∙ ap (λ t. one (named f) ++ t) (whole fs)

pub fed_each : (fs : List FieldReport) (n : ℕ) → length fs ≤ n
    → fields_fed (field_trees fs) ≡ flat_map (λ f. field_fed (named f)) (take n fs)
fed_each = each field_fed fields_fed refl (λ name r fs. refl)

pub hashed_each : (fs : List FieldReport) (n : ℕ) → length fs ≤ n
    → fields_hashed (field_trees fs) ≡ flat_map (λ f. field_hashed (named f)) (take n fs)
hashed_each = each field_hashed fields_hashed refl (λ name r fs. refl)

pub text_each : (fs : List FieldReport) (n : ℕ) → length fs ≤ n
    → fields_text (field_trees fs) ≡ flat_map (λ f. field_text (named f)) (take n fs)
text_each = each field_text fields_text refl (λ name r fs. refl)
