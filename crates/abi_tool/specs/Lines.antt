-- The lines that the program writes. Numbers are decimal.
use Rattle.std.specs.Prelude.{◌≡◌, ℕ, ◌^◌, List, [], ◌∷◌, ◌++◌, Bool, true, false, nat_le, nat_lt, codes, count_ones, decimal, flat_map, length, map, if◌then◌else◌, String, string_bytes}
use Rattle.std.specs.declared.cmp.Ordering.{Ordering}
use Rattle.std.specs.declared.cmp.Ordering.TheVariants as ordering
use Rattle.std.specs.declared.alloc.Global.{Global}
use Rattle.std.specs.Int.{w64, to_be_bytes}
use Rattle.std.specs.List.{range_with_len, sum}
use Rattle.hex.specs.Hex.{encode_lower}
use Rattle.abi_report.specs.Reports.{ReportTree}
use Rattle.abi_report.specs.Texts.{text}
use Rattle.abi_bits.specs.Pairs.{Pair}
use Rattle.abi_bits.specs.Mask.{mask_at}
use Rattle.abi_bits.specs.Forbidden.{Item, pattern, range}
use Rattle.abi_bits.specs.declared.saturating_add_value.SaturatingAddValue.{SaturatingAddValue}
use Rattle.abi_bits.specs.declared.saturating_add_value.SaturatingAddValue.TheVariants as count
use Rattle.abi_det.specs.Frame.{Frame, forbids}
use Rattle.abi_det.specs.declared.placements.Refusal.{Refusal}
use Rattle.abi_det.specs.declared.placements.Kind.{Kind}
use Rattle.abi_det.specs.declared.placements.Kind.TheVariants as kind
use Rattle.abi_det.specs.declared.determinant.Test.{Test}
use Rattle.abi_det.specs.declared.determinant.Test.TheVariants as test
use Rattle.abi_layout.specs.declared.part.Sort.{Sort}
use Rattle.abi_layout.specs.declared.part.Sort.TheVariants as sort
use Rattle.abi_layout.specs.declared.placed.Placed.{Placed}
use Rattle.abi_pack.specs.Plain.{Plain, Plains, unit, integer, boolean, order, bytes, list, variant, end, more}
use Rattle.abi_pack.specs.declared.image.Image.{Image}
use Rattle.abi_tool.specs.declared.fault.Fault.{Fault}
use Rattle.abi_tool.specs.declared.fault.Fault.TheVariants as fault

-- the text went behind what was written before
abbrev pub Adds : String Global → String Global → List ℕ → Type 0
Adds old new text = string_bytes new ≡ string_bytes old ++ text

abbrev pub yes_or_no : Bool → List ℕ
yes_or_no true = codes "yes"
yes_or_no false = codes "no"

-- ---- a layout

unfoldable pub size_line : ℕ → List ℕ
size_line size = codes "size " ++ decimal size ++ codes "\n"

unfoldable pub align_line : ℕ → List ℕ
align_line align = codes "align " ++ decimal align ++ codes "\n"

abbrev pub niches_text : SaturatingAddValue → List ℕ
niches_text count.B0 = codes "0"
niches_text count.B1 = codes "1"
niches_text count.Saturator = codes "many"

unfoldable pub niches_line : SaturatingAddValue → List ℕ
niches_line niches = codes "niches " ++ niches_text niches ++ codes "\n"

unfoldable pub indirections_line : Bool → List ℕ
indirections_line indirections = codes "indirections " ++ yes_or_no indirections ++ codes "\n"

-- an offset and a mask
abbrev pub entry_text : Pair → List ℕ
entry_text e = codes " " ++ decimal e.0 ++ codes ":" ++ decimal e.1

unfoldable pub entries_text : List Pair → List ℕ
entries_text es = flat_map entry_text es

unfoldable pub free_line : List Pair → List ℕ
free_line es = codes "free" ++ entries_text es ++ codes "\n"

-- an offset and the value of its byte
abbrev pub pair_text : Pair → List ℕ
pair_text p = decimal p.0 ++ codes "=" ++ decimal p.1

unfoldable pub more_pairs_text : List Pair → List ℕ
more_pairs_text ps = flat_map (λ p. codes "," ++ pair_text p) ps

-- pairs, joined by commas
unfoldable pub pairs_text : List Pair → List ℕ
pairs_text [] = []
pairs_text (p ∷ ps) = pair_text p ++ more_pairs_text ps

unfoldable pub item_text : Item → List ℕ
item_text (pattern ps) = codes " " ++ pairs_text ps
item_text (range at least greatest) =
    codes " " ++ decimal at ++ codes "=" ++ decimal least ++ codes "-" ++ decimal greatest

unfoldable pub items_text : List Item → List ℕ
items_text its = flat_map item_text its

unfoldable pub forbidden_line : List Item → List ℕ
forbidden_line its = codes "forbidden" ++ items_text its ++ codes "\n"

unfoldable pub layout_lines : Frame → List ℕ
layout_lines f =
    size_line f.size ++ align_line f.align ++ niches_line f.niches
    ++ indirections_line f.indirections ++ free_line f.free ++ forbidden_line (forbids f)

-- ---- sums

-- whose pattern it is
abbrev pub side_text : Kind → List ℕ
side_text kind.SmallerPattern = codes "smaller "
side_text kind.LargerPattern = codes "larger "
side_text kind.SharedBit = codes "larger "
side_text kind.Tag = codes "larger "

unfoldable pub niche_text : Kind → Test → List ℕ
niche_text k test.BitDeterminant = codes "tag"
niche_text k (test.ValueIsErr ps) = side_text k ++ pairs_text ps
niche_text k (test.BitIsErr offset mask) =
    codes "bit " ++ decimal offset ++ codes ":" ++ decimal mask

-- the variant that the present niche, the set bit or a tag of 1 means
unfoldable pub meaning_text : Bool → List ℕ
meaning_text means_ok =
    codes " means " ++ (if means_ok then codes "ok" else codes "err") ++ codes "\n"

unfoldable pub places_text : Placed → List ℕ
places_text p =
    codes "sum " ++ decimal p.part ++ codes " place " ++ decimal p.place
    ++ codes " front " ++ decimal p.front ++ codes " ok " ++ decimal p.ok_shift
    ++ codes " err " ++ decimal p.err_shift ++ codes " "

unfoldable pub sum_line : Placed → List ℕ
sum_line p = places_text p ++ niche_text p.kind p.determinant.test ++ meaning_text p.determinant.not

unfoldable pub sum_lines : List Placed → List ℕ
sum_lines ps = flat_map sum_line ps

-- ---- a packed value

abbrev pub digits_text : List ℕ → List ℕ
digits_text [] = []
digits_text (b ∷ bs) = codes " " ++ encode_lower (b ∷ bs)

unfoldable pub bytes_line : List ℕ → List ℕ
bytes_line bs = codes "bytes" ++ digits_text bs ++ codes "\n"

unfoldable pub image_text : Image → List ℕ
image_text image = layout_lines image.layout ++ sum_lines image.placed ++ bytes_line image.bytes

-- ---- a layout with what refuses a niche

unfoldable pub offsets_text : List ℕ → List ℕ
offsets_text offsets = flat_map (λ offset. codes " " ++ decimal offset) offsets

-- the place, and for each pattern of the smaller and of the larger variant a byte in its way
unfoldable pub refusal_line : Refusal → List ℕ
refusal_line r =
    codes "refusal " ++ decimal r.place ++ codes " smaller" ++ offsets_text r.smaller
    ++ codes " larger" ++ offsets_text r.larger ++ codes "\n"

unfoldable pub refusal_lines : List Refusal → List ℕ
refusal_lines rs = flat_map refusal_line rs

-- a sum's line, and one line for each of its refusals
unfoldable pub refused_sum_lines : Placed → List ℕ
refused_sum_lines p = sum_line p ++ refusal_lines p.refusals

unfoldable pub refused_sums_lines : List Placed → List ℕ
refused_sums_lines ps = flat_map refused_sum_lines ps

unfoldable pub layout_text : Frame → List Placed → List ℕ
layout_text f ps = layout_lines f ++ refused_sums_lines ps

-- ---- a value

abbrev pub quoted : List ℕ → List ℕ
quoted text = codes "\"" ++ text ++ codes "\""

-- the integer of this distance from 0, below it where `negative`
unfoldable pub numeral_text : ℕ → Bool → List ℕ
numeral_text magnitude negative = (if negative then codes "-" else []) ++ decimal magnitude

-- a number of JSON lies from -2^63 to 2^64 - 1
abbrev pub is_number : ℕ → Bool → Bool
is_number magnitude negative =
    if negative then nat_le magnitude (2 ^ 63) else nat_lt magnitude (2 ^ 64)

-- other integers are texts
unfoldable pub integer_text : ℕ → Bool → List ℕ
integer_text magnitude negative =
    if is_number magnitude negative then numeral_text magnitude negative
    else quoted (numeral_text magnitude negative)

unfoldable pub truth_text : Bool → List ℕ
truth_text truth = if truth then codes "true" else codes "false"

unfoldable pub order_text : Ordering → List ℕ
order_text ordering.Less = codes "\"less\""
order_text ordering.Equal = codes "\"equal\""
order_text ordering.Greater = codes "\"greater\""

-- bytes in lower case
unfoldable pub hex_text : List ℕ → List ℕ
hex_text bs = codes "{\"bytes\":\"" ++ encode_lower bs ++ codes "\"}"

-- an object with this key, and a value's text under it
abbrev pub member_text : List ℕ → List ℕ → List ℕ
member_text key text = codes "{\"" ++ key ++ codes "\":" ++ text ++ codes "}"

-- a variant, by the text of its payload
abbrev pub variant_text : Sort → Bool → List ℕ → List ℕ
variant_text sort.OfResult true text = member_text (codes "ok") text
variant_text sort.OfResult false text = member_text (codes "err") text
variant_text sort.OfOption true text = member_text (codes "some") text
variant_text sort.OfOption false text = codes "\"none\""

abbrev mutual
  -- a value as a document has it
  pub value_text : Plain → List ℕ
  value_text unit = codes "null"
  value_text (integer magnitude negative) = integer_text magnitude negative
  value_text (boolean truth) = truth_text truth
  value_text (order o) = order_text o
  value_text (bytes bs) = hex_text bs
  value_text (list vs) = codes "[" ++ values_text [] vs ++ codes "]"
  value_text (variant names first payload) = variant_text names first (value_text payload)

  -- values in order, with this text before the first and a comma before each other
  pub values_text : List ℕ → Plains → List ℕ
  values_text before end = []
  values_text before (more v vs) = before ++ value_text v ++ values_text (codes ",") vs

unfoldable pub value_line : Plain → List ℕ
value_line v = codes "value " ++ value_text v ++ codes "\n"

-- ---- a report

-- sixteen digits, the greatest first
unfoldable pub id_line : ℕ → List ℕ
id_line id = codes "id " ++ encode_lower (to_be_bytes w64 id) ++ codes "\n"

unfoldable pub report_line : ReportTree → List ℕ
report_line r = codes "report " ++ text r ++ codes "\n"

-- a report with its identifier
unfoldable pub report_text : ℕ → ReportTree → List ℕ
report_text id r = id_line id ++ report_line r

-- ---- a made job

unfoldable pub number_line : List ℕ → ℕ → List ℕ
number_line word n = word ++ codes " " ++ decimal n ++ codes "\n"

-- how many bits of a layout are free: those of each of its bytes
unfoldable pub free_bits : Frame → ℕ
free_bits f = sum (map (λ at. count_ones (mask_at f.free at)) (range_with_len 0 f.size))

unfoldable pub back_line : Bool → List ℕ
back_line back = codes "back " ++ yes_or_no back ++ codes "\n"

-- its number of fields, what its image has, and whether reading gives its value again
unfoldable pub made_text : ℕ → Bool → Image → List ℕ
made_text k back image =
    number_line (codes "made") k ++ number_line (codes "size") image.layout.size
    ++ number_line (codes "free") (free_bits image.layout)
    ++ number_line (codes "sums") (length image.placed)
    ++ number_line (codes "total") (sum image.bytes) ++ back_line back

-- ---- refusals of a job

unfoldable pub fault_text : Fault → List ℕ
fault_text fault.BadTarget = codes "BadTarget"
fault_text fault.TooManyParts = codes "TooManyParts"
fault_text (fault.IllFormed part) = codes "IllFormed part " ++ decimal part
fault_text (fault.ArrayLength part) = codes "ArrayLength part " ++ decimal part
fault_text (fault.NotStable part) = codes "NotStable part " ++ decimal part
fault_text (fault.TooLarge part) = codes "TooLarge part " ++ decimal part
fault_text fault.WrongValue = codes "WrongValue"
fault_text fault.WrongLength = codes "WrongLength"
fault_text fault.IllegalBytes = codes "IllegalBytes"
fault_text (fault.NoSuchPath edit) = codes "NoSuchPath edit " ++ decimal edit
fault_text (fault.WrongVariant edit) = codes "WrongVariant edit " ++ decimal edit
fault_text (fault.WrongPart edit) = codes "WrongPart edit " ++ decimal edit

unfoldable pub refused_line : Fault → List ℕ
refused_line f = codes "refused: " ++ fault_text f ++ codes "\n"
