-- The form of a primitive, read back from the name by which reports name it.
use Rattle.std.proofs.Common.{◌≡◌, ℕ, Bool, true, false, List, [], ◌∷◌, ◌++◌, Option, Some, None, map, flat_map, codes, refl, sym, ap, ◌∙◌}
use Rattle.std.specs.Prelude.{if◌then◌else◌, ◌==◌}
use Rattle.std.specs.Str.{bytes_eq}
use Rattle.abi_num.specs.declared.target.Target.{Target}
use Rattle.abi_layout.specs.Forms.{form_of}
use Rattle.abi_layout.specs.Names.{form_words, kind_part, noted_name, report_name}
use Rattle.abi_layout.specs.Prims.{row_of, row_frame, prim_frame}
use Rattle.abi_layout.specs.declared.prim.Form.{Form}
use Rattle.abi_layout.specs.declared.prim.Form.TheVariants as form
use Rattle.abi_layout.specs.declared.prim.IntKind.{IntKind}
use Rattle.abi_layout.specs.declared.prim.IntKind.TheVariants as kind
use Rattle.abi_layout.specs.declared.prim.Primitive.{Primitive}
use Rattle.abi_layout.specs.declared.prim.Primitive.TheVariants as prim

-- no name tells the number that a `NonX` never is, and no frame either
abbrev blank : Form → Form
blank (form.NonX k magnitude negative) = form.NonX k 0 false
blank f = f

abbrev kinds : List IntKind
kinds =
    kind.U8 ∷ kind.U16 ∷ kind.U32 ∷ kind.U64 ∷ kind.U128 ∷ kind.Usize ∷ kind.I8 ∷ kind.I16 ∷ kind.I32 ∷ kind.I64 ∷ kind.I128 ∷ kind.Isize ∷ []

-- those whose form does not tell the name
abbrev own_named : List Primitive
own_named =
    prim.Unit ∷ prim.PhantomData ∷ prim.PhantomPinned ∷ prim.CVoid ∷ prim.Bool ∷ prim.Ordering ∷ prim.AtomicBool ∷ prim.OwnedFd ∷ prim.BorrowedFd
    ∷ prim.FnPtr ∷ []

abbrev Row : Type 0
Row = List ℕ × Form

abbrev by_form : Form → Row
by_form f = let words = form_words ([], []) f in (words.0 ++ words.1 ++ kind_part f, f)

-- each name beside the form that it tells
rows : List Row
unfolding noted_name
rows =
    map (λ p. (noted_name true p, form_of p)) own_named
    ++ flat_map (λ k. map by_form (form.Integer k ∷ form.Atomic k ∷ form.NonZero k ∷ form.NonMax k ∷ form.NonX k 0 false ∷ [])) kinds
    ++ (codes "u128(8)", form.Integer kind.U128) ∷ (codes "u128(16)", form.Integer kind.U128) ∷ []

abbrev found : List Row → List ℕ → Option Form
found [] name = None
found (row ∷ rest) name = if bytes_eq name row.0 then Some row.1 else found rest name

read_back : (is_8 : Bool) (p : Primitive) → found rows (noted_name is_8 p) ≡ Some (blank (form_of p))
unfolding noted_name rows
read_back true prim.Unit = refl
read_back true (prim.NonX kind.U8 magnitude negative) = refl
read_back true (prim.NonX k magnitude negative) = refl
read_back true p = refl
read_back false prim.Unit = refl
read_back false (prim.NonX kind.U8 magnitude negative) = refl
read_back false (prim.NonX k magnitude negative) = refl
read_back false p = refl

blank_frame : (t : Target) (f : Form) → row_frame (row_of t f) ≡ row_frame (row_of t (blank f))
unfolding row_frame
blank_frame t form.Unit = refl
blank_frame t f = refl

some_same : (f g : Form) → ◌≡◌ {A = Option Form} (Some f) (Some g) → f ≡ g
some_same f g e = cc

pub names_tell : (t : Target) (p q : Primitive) → report_name t p ≡ report_name t q → prim_frame t p ≡ prim_frame t q
names_tell t p q e =
    let is_8 : Bool = t.u128_align == 8 in
    let same : blank (form_of p) ≡ blank (form_of q) = some_same _ _ (sym (read_back is_8 p) ∙ ap (found rows) e ∙ read_back is_8 q) in
    blank_frame t (form_of p) ∙ ap (λ f. row_frame (row_of t f)) same ∙ sym (blank_frame t (form_of q))
