-- The kinds of types.
use Rattle.std.specs.Prelude.{◌≡◌, ℕ, List, [], ◌∷◌, ◌++◌, Bool, true, false, codes, nat_eq}
use Rattle.std.specs.Bool.{Decides}
use Rattle.std.specs.Cmp.Lexicographic.{pointwise, bytes_decides}
use Rattle.std.proofs.Common.{refl, ap}
use Rattle.abi_report.specs.declared.ty_ty.TyTy.{TyTy}
use Rattle.abi_report.specs.declared.ty_ty.TyTy.TheVariants.{Struct, Enum, Union}

-- how a kind is written, and the bytes that stand for it in an identifier
abbrev pub kind_row : TyTy → List ℕ × List ℕ
kind_row Struct = (codes "Struct", 0 ∷ [])
kind_row Union = (codes "Union", 1 ∷ [])
kind_row (Enum rules) = (codes "Enum(" ++ rules ++ codes ")", rules)

-- equal kinds
abbrev pub same_kind : TyTy → TyTy → Bool
same_kind Struct Struct = true
same_kind (Enum rules) (Enum others) = pointwise nat_eq rules others
same_kind Union Union = true
same_kind _ _ = false

pub kind_decides : (k l : TyTy) → Decides (same_kind k l) (k ≡ l)
kind_decides Struct Struct = (λ e. refl, λ e. refl)
kind_decides Struct (Enum others) = (λ e. absurd (cc), λ e. absurd (cc))
kind_decides Struct Union = (λ e. absurd (cc), λ e. absurd (cc))
kind_decides (Enum rules) Struct = (λ e. absurd (cc), λ e. absurd (cc))
kind_decides (Enum rules) (Enum others) =
    let d : Decides (pointwise nat_eq rules others) (rules ≡ others) = bytes_decides rules others in
    (λ e. ap Enum (d.0 e), λ e. d.1 cc)
kind_decides (Enum rules) Union = (λ e. absurd (cc), λ e. absurd (cc))
kind_decides Union Struct = (λ e. absurd (cc), λ e. absurd (cc))
kind_decides Union (Enum others) = (λ e. absurd (cc), λ e. absurd (cc))
kind_decides Union Union = (λ e. refl, λ e. refl)
