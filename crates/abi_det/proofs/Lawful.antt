-- What the rule of lawful layouts says of a frame's parts.
use Rattle.std.proofs.Common.{◌≡◌, ℕ, ◌<◌, ◌≤◌, ◌%◌, true, ◌&&◌, List, [], ◌∷◌, eqb, ltb, leb, refl, arith}
use Rattle.std.specs.List.{list_all}
use Rattle.std.specs.Int.{is_power_of_two}
use Rattle.std.specs.Int.RustNames.{count_ones}
use Rattle.std.proofs.lemmas.Nat.{ones_le_self}
use Rattle.std.proofs.lemmas.Bool.{and_parts, and_from, ltb-true, leb-true, eqb-true, lt-ltb}
use Rattle.abi_num.specs.Alignment.{is_alignment}
use Rattle.abi_bits.specs.Pairs.{Pair, are_below}
use Rattle.abi_bits.specs.Mask.{mask_at}
use Rattle.abi_bits.specs.Forbidden.{Item, pattern, range, is_item_below, are_items_below, is_ranged, AreSound, is_solid_byte, is_solid_item}
use Rattle.abi_det.specs.Frame.{Frame, IsLawful, forbids}

pub record Parts (f : Frame) : Type 0 where
  pub align : is_alignment f.align ≡ true
  pub size : f.size ≤ 1048576
  pub multiple : f.size % f.align ≡ 0
  pub free : are_below f.size f.free ≡ true
  pub solid : list_all (is_solid_item f.size f.free) (forbids f) ≡ true

pub parts : (f : Frame) → IsLawful f → Parts f
parts f h =
    let a = and_parts (is_alignment f.align && leb f.size 1048576 && eqb (f.size % f.align) 0 && are_below f.size f.free) (list_all (is_solid_item f.size f.free) (forbids f)) h in
    let b = and_parts (is_alignment f.align && leb f.size 1048576 && eqb (f.size % f.align) 0) (are_below f.size f.free) a.0 in
    let c = and_parts (is_alignment f.align && leb f.size 1048576) (eqb (f.size % f.align) 0) b.0 in
    let d = and_parts (is_alignment f.align) (leb f.size 1048576) c.0 in
    record { align = d.0; size = leb-true f.size 1048576 d.1; multiple = eqb-true (f.size % f.align) 0 c.1; free = b.1; solid = a.1 }

pub positive : (n : ℕ) → is_power_of_two n ≡ true → 0 < n
positive n p = let one = eqb-true (count_ones n) 1 p in omega (arith, one, ones_le_self n)

pub size_bound : (f : Frame) → IsLawful f → f.size ≤ 1048576
size_bound f h = (parts f h).size

pub align_bounds : (f : Frame) → IsLawful f → (0 < f.align) × (f.align ≤ 65536)
align_bounds f h =
    let p = and_parts (leb f.align 65536) (is_power_of_two f.align) (parts f h).align in
    (positive f.align p.1, leb-true f.align 65536 p.0)

byte_in : (size n : ℕ) (free : List Pair) (at : ℕ) → size ≤ n → is_solid_byte size free at ≡ true → ltb at n ≡ true
byte_in size n free at le h =
    let lt : at < size = ltb-true at size (and_parts (ltb at size) (eqb (mask_at free at) 0) h).0 in
    lt-ltb at n (omega arith)

pub bytes_in : (size n : ℕ) (free : List Pair) (ps : List Pair) → size ≤ n → list_all (λ p. is_solid_byte size free p.0) ps ≡ true → are_below n ps ≡ true
bytes_in size n free [] le h = refl
bytes_in size n free (p ∷ ps) le h =
    let q = and_parts (is_solid_byte size free p.0) (list_all (λ p. is_solid_byte size free p.0) ps) h in
    and_from (ltb p.0 n) (are_below n ps) (byte_in size n free p.0 le q.0) (bytes_in size n free ps le q.1)

item_in : (size n : ℕ) (free : List Pair) (it : Item) → size ≤ n → is_solid_item size free it ≡ true → is_item_below n it ≡ true
item_in size n free (pattern ps) le h = bytes_in size n free ps le h
item_in size n free (range at least greatest) le h = byte_in size n free at le (and_parts (is_solid_byte size free at) (ltb least greatest) h).0

items_in : (size n : ℕ) (free : List Pair) (its : List Item) → size ≤ n → list_all (is_solid_item size free) its ≡ true → are_items_below n its ≡ true
items_in size n free [] le h = refl
items_in size n free (it ∷ its) le h =
    let q = and_parts (is_solid_item size free it) (list_all (is_solid_item size free) its) h in
    and_from (is_item_below n it) (are_items_below n its) (item_in size n free it le q.0) (items_in size n free its le q.1)

item_ranged : (size : ℕ) (free : List Pair) (it : Item) → is_solid_item size free it ≡ true → is_ranged it ≡ true
item_ranged size free (pattern ps) h = refl
item_ranged size free (range at least greatest) h = (and_parts (is_solid_byte size free at) (ltb least greatest) h).1

ranged : (size : ℕ) (free : List Pair) (its : List Item) → list_all (is_solid_item size free) its ≡ true → list_all is_ranged its ≡ true
ranged size free [] h = refl
ranged size free (it ∷ its) h =
    let q = and_parts (is_solid_item size free it) (list_all (is_solid_item size free) its) h in
    and_from (is_ranged it) (list_all is_ranged its) (item_ranged size free it q.0) (ranged size free its q.1)

pub items_in_bytes : (f : Frame) (n : ℕ) → IsLawful f → f.size ≤ n → are_items_below n (forbids f) ≡ true
items_in_bytes f n h le = items_in f.size n f.free (forbids f) le (parts f h).solid

pub sound_items : (f : Frame) → IsLawful f → AreSound (forbids f)
sound_items f h =
    let p = parts f h in
    and_from (are_items_below 1048576 (forbids f)) (list_all is_ranged (forbids f)) (items_in f.size 1048576 f.free (forbids f) p.size p.solid) (ranged f.size f.free (forbids f) p.solid)
