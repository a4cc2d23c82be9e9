-- The job of `made`: a struct of so many fields, which have six types in turn, each field with a value by its number.
use Rattle.std.specs.Prelude.{ℕ, ◌+◌, ◌*◌, ◌/◌, ◌%◌, List, [], ◌∷◌, ◌++◌, Bool, true, false, ◌&&◌, ◌==◌, nat_le, map, Option, Some, None, codes, if◌then◌else◌}
use Rattle.std.specs.Fmt.{decimal}
use Rattle.std.specs.List.{range_with_len}
use Rattle.abi_num.specs.declared.target.Target.{Target}
use Rattle.abi_layout.specs.Trees as trees
use Rattle.abi_layout.specs.Trees.{Tree, Named, prim, struct, array, none, field, branches_of}
use Rattle.abi_layout.specs.declared.part.Sort.TheVariants as sort
use Rattle.abi_layout.specs.declared.prim.Primitive.TheVariants as primitive
use Rattle.abi_pack.specs.Plain as plain
use Rattle.abi_pack.specs.Plain.{Plain, integer, list, variant}
use Rattle.abi_pack.specs.View.{plains_of}
use Rattle.abi_document.specs.Documents.{PlainJob, pack}
use Rattle.abi_document.specs.Forms.{◌>>=◌}
use Rattle.abi_document.specs.Integers.{magnitude_of}

-- the most fields
abbrev pub most_fields : ℕ
most_fields = 1500

abbrev pub is_count : ℕ → Bool
is_count n = nat_le 1 n && nat_le n most_fields

-- the number of fields that a word tells, without leading zeros
abbrev pub made_count : List ℕ → Option ℕ
made_count word = magnitude_of word >>= (λ n. if is_count n then Some n else None)

-- ---- types

-- the struct of a `u32` and a `bool`
abbrev pub pair_type : Tree
pair_type =
    struct (record { name = codes "S"; module_name = codes "demo"; version = 0 })
    (field (codes "f0") (prim primitive.U32) (field (codes "f1") (prim primitive.Bool) none)) None

-- the six types in turn
abbrev pub type_in_turn : ℕ → Tree
type_in_turn turn =
    if turn == 0 then prim primitive.U8
    else if turn == 1 then prim primitive.U32
    else if turn == 2 then trees.option (prim primitive.Bool)
    else if turn == 3 then trees.result (prim primitive.U16) (prim primitive.NonZeroU8)
    else if turn == 4 then trees.option pair_type
    else array (prim primitive.U8) 3

-- the type of field number i
unfoldable pub field_type : ℕ → Tree
field_type i = type_in_turn (i % 6)

-- ---- values

abbrev pub number : ℕ → Plain
number n = integer n false

abbrev pub some : Plain → Plain
some v = variant sort.OfOption true v

abbrev pub nothing : Plain
nothing = variant sort.OfOption false plain.unit

abbrev pub ok : Plain → Plain
ok v = variant sort.OfResult true v

abbrev pub err : Plain → Plain
err v = variant sort.OfResult false v

abbrev pub listed : List Plain → Plain
listed vs = list (plains_of vs)

-- none, false and true, by the round modulo 3
abbrev pub truth_of : ℕ → Plain
truth_of round =
    if round % 3 == 0 then nothing
    else if round % 3 == 1 then some (plain.boolean false)
    else some (plain.boolean true)

-- `Ok` in even rounds
abbrev pub result_of : ℕ → ℕ → Plain
result_of round i = if round % 2 == 0 then ok (number i) else err (number (1 + i % 255))

-- `Some` in even rounds, with the truth of every second of these
abbrev pub pair_of : ℕ → ℕ → Plain
pair_of round i =
    if round % 2 == 0 then some (listed (number i ∷ plain.boolean (round % 4 == 0) ∷ []))
    else nothing

abbrev pub bytes_of : ℕ → ℕ → Plain
bytes_of round i = listed (number (i % 256) ∷ number (round % 256) ∷ number 7 ∷ [])

-- of each type in turn
abbrev pub value_in_turn : ℕ → ℕ → ℕ → Plain
value_in_turn turn round i =
    if turn == 0 then number (i % 256)
    else if turn == 1 then number (7 * i)
    else if turn == 2 then truth_of round
    else if turn == 3 then result_of round i
    else if turn == 4 then pair_of round i
    else bytes_of round i

-- the value of field number i
unfoldable pub field_value : ℕ → Plain
field_value i = value_in_turn (i % 6) (i / 6) i

-- ---- the job

abbrev pub made_field : ℕ → Named
made_field i = (codes "f" ++ decimal i, field_type i)

-- of the fields with the numbers 0 to k - 1
abbrev pub made_fields : ℕ → List Named
made_fields k = map made_field (range_with_len 0 k)

abbrev pub made_values : ℕ → List Plain
made_values k = map field_value (range_with_len 0 k)

abbrev pub made_desc : ℕ → Tree
made_desc k =
    struct (record { name = codes "Made"; module_name = codes "demo"; version = 0 })
    (branches_of (made_fields k)) None

abbrev pub made_value : ℕ → Plain
made_value k = listed (made_values k)

abbrev pub le64 : Target
le64 = record { little = true; pointer = 8; u64_align = 8; u128_align = 16 }

abbrev pub made_job : ℕ → PlainJob
made_job k = record { target = le64; task = pack (made_desc k) (made_value k) [] }
