use Rattle.std.specs.Prelude.{ℕ, List, [], ◌∷◌, Bool, true, false, cond, ◌&&◌, ◌==◌, Option, Some, None, codes, if◌then◌else◌}
use Rattle.std.specs.List.{list_any}
use Rattle.std.specs.Str.{bytes_eq}
use Rattle.abi_num.specs.declared.target.Target.{Target}

-- the supported targets by name: byte order, pointer, alignment of u64 and of u128
abbrev pub target_rows : List (List ℕ × Target)
target_rows =
    (codes "le64", record { little = true; pointer = 8; u64_align = 8; u128_align = 16 })
    ∷ (codes "le64o", record { little = true; pointer = 8; u64_align = 8; u128_align = 8 })
    ∷ (codes "be64", record { little = false; pointer = 8; u64_align = 8; u128_align = 16 })
    ∷ (codes "le32", record { little = true; pointer = 4; u64_align = 8; u128_align = 16 })
    ∷ (codes "le32o", record { little = true; pointer = 4; u64_align = 4; u128_align = 16 })
    ∷ (codes "be32", record { little = false; pointer = 4; u64_align = 8; u128_align = 8 })
    ∷ (codes "le16", record { little = true; pointer = 2; u64_align = 4; u128_align = 8 })
    ∷ []

-- the target of the first row with that name
abbrev pub look_up : List ℕ → List (List ℕ × Target) → Option Target
look_up name [] = None
look_up name (row ∷ rows) = if bytes_eq name row.0 then Some row.1 else look_up name rows

abbrev pub named : List ℕ → Option Target
named name = look_up name target_rows

abbrev pub same_bool : Bool → Bool → Bool
same_bool true b = b
same_bool false true = false
same_bool false false = true

-- equal in all four fields
abbrev pub same_target : Target → Target → Bool
same_target s t =
    same_bool s.little t.little && s.pointer == t.pointer
    && s.u64_align == t.u64_align && s.u128_align == t.u128_align

-- some row has these four fields
abbrev pub is_row : Target → Bool
is_row t = list_any (λ row. same_target row.1 t) target_rows

-- the eight bytes that tell an architecture: pointers in four roles, the alignment of u128, and 1 for big endian
abbrev pub arch_info : Target → List ℕ
arch_info t =
    0 ∷ t.pointer ∷ t.pointer ∷ t.pointer ∷ t.pointer ∷ t.u128_align ∷ cond t.little 0 1 ∷ 0 ∷ []
