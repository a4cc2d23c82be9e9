-- Forms of JSON that documents are made of.
use Rattle.std.specs.Prelude.{◌≡◌, ℕ, zero, suc, List, [], ◌∷◌, length, Bool, true, false, ◌&&◌, nat_le, nat_lt, Option, Some, None, option_map, option_and_then, Result, Ok, Err, if◌then◌else◌, ◌^◌, String, string_bytes}
use Rattle.std.specs.List.{list_all, list_any}
use Rattle.std.specs.Option.{option_map_or}
use Rattle.std.specs.Str.{bytes_eq}
use Rattle.std.specs.declared.alloc.Global.{Global}
use Rattle.hex.specs.Hex.{decode_of}
use Rattle.serde_json.specs.Data.{Data, Items, no_items, item, Members, no_members, member}
use Rattle.serde_json.specs.Find.{get, as_array, as_number, as_object, as_str, as_u64}

infixl 10 ◌>>=◌
abbrev pub ◌>>=◌ : {A B : Type 0} → Option A → (A → Option B) → Option B
found >>= next = option_and_then next found

-- the answer is what is found, seen as plain data
abbrev pub Tells : {R A : Type 0} → (R → A) → Option A → Option R → Type 0
Tells view found answer = option_map view answer ≡ found

-- what the step reads of a tree whose parts nest fewer than that many levels
unfoldable pub nested : {A : Type 0} → ((Data → Option A) → Data → Option A) → ℕ → Data → Option A
nested step zero d = None
nested step (suc levels) d = step (nested step levels) d

-- what went well
abbrev pub result_ok : {A E : Type 0} → Result A E → Option A
result_ok (Ok a) = Some a
result_ok (Err e) = None

-- ---- tables by name

-- what the table has under the name
abbrev pub by_name : {A : Type 0} → List (List ℕ × A) → List ℕ → Option A
by_name [] name = None
by_name (row ∷ rows) name = if bytes_eq name row.0 then Some row.1 else by_name rows name

-- what the table's rule for the key makes of the content
abbrev pub by_key : {A : Type 0} → List (List ℕ × (Data → Option A)) → List ℕ → Data → Option A
by_key [] key content = None
by_key (row ∷ rows) key content =
    if bytes_eq key row.0 then row.1 content else by_key rows key content

-- ---- objects

abbrev pub is_listed : List (List ℕ) → List ℕ → Bool
is_listed names key = list_any (λ name. bytes_eq name key) names

abbrev pub all_listed : List (List ℕ) → List (String Global) → Bool
all_listed names keys = list_all (λ key. is_listed names (string_bytes key)) keys

abbrev pub keys_listed : List (List ℕ) → Members → Bool
keys_listed names no_members = true
keys_listed names (member key d ms) = is_listed names key && keys_listed names ms

-- an object, each of whose keys is one of these
abbrev pub has_only : List (List ℕ) → Data → Bool
has_only names d = option_map_or (keys_listed names) (as_object d) false

abbrev pub only_one : Members → Option (List ℕ × Data)
only_one no_members = None
only_one (member key content no_members) = Some (key, content)
only_one (member key content (member other d ms)) = None

-- the key and the content of an object with one key
abbrev pub sole_member : Data → Option (List ℕ × Data)
sole_member d = as_object d >>= only_one

-- what is read of what an object has under the key
abbrev pub under : {A : Type 0} → List ℕ → (Data → Option A) → Data → Option A
under key read d = get key d >>= read

-- ---- arrays

abbrev pub only_two : Items → Option (Data × Data)
only_two no_items = None
only_two (item a no_items) = None
only_two (item a (item b no_items)) = Some (a, b)
only_two (item a (item b (item c ds))) = None

-- the two of an array of two
abbrev pub pair_of : Data → Option (Data × Data)
pair_of d = as_array d >>= only_two

abbrev pub only_three : Items → Option (Data × Data × Data)
only_three no_items = None
only_three (item a no_items) = None
only_three (item a (item b no_items)) = None
only_three (item a (item b (item c no_items))) = Some (a, b, c)
only_three (item a (item b (item c (item d ds)))) = None

-- the three of an array of three
abbrev pub triple_of : Data → Option (Data × Data × Data)
triple_of d = as_array d >>= only_three

-- what each item is read as, in order, where each can be read
abbrev pub all_of : {A : Type 0} → (Data → Option A) → Items → Option (List A)
all_of read no_items = Some []
all_of read (item d ds) = do
  first ← read d
  more ← all_of read ds
  Some (first ∷ more)

-- ---- texts and numbers

-- at most 256 bytes from space to `~`
abbrev pub is_name : List ℕ → Bool
is_name s = nat_le (length s) 256 && list_all (λ c. nat_le 32 c && nat_le c 126) s

abbrev pub name_of : Data → Option (List ℕ)
name_of d = do
  s ← as_str d
  if is_name s then Some s else None

-- the bytes of a text of pairs of hexadecimal digits, in either case
abbrev pub bytes_of : Data → Option (List ℕ)
bytes_of d = as_str d >>= (λ text. result_ok (decode_of text))

-- a JSON integer of 64 bits without sign
abbrev pub long_of : Data → Option ℕ
long_of d = as_number d >>= as_u64

-- of 8 bits
abbrev pub byte_of : Data → Option ℕ
byte_of d = do
  n ← long_of d
  if nat_lt n 256 then Some n else None

-- of 32 bits
abbrev pub word_of : Data → Option ℕ
word_of d = do
  n ← long_of d
  if nat_lt n (2 ^ 32) then Some n else None
