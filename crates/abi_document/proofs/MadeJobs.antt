-- A made job has no fault: its fields are few, each of them is well-formed and small, and each value fits.
use Rattle.std.proofs.Common.{◌≡◌, ℕ, zero, suc, ◌+◌, ◌-◌, ◌*◌, ◌/◌, ◌%◌, ◌<◌, ◌≤◌, ◌^◌, nat_le, nat_lt, Bool, true, false, not, ◌&&◌, ◌==◌, cond, List, [], ◌∷◌, map, max, take, Option, None, refl, sym, subst, arith, lit≤}
use Rattle.std.specs.Int.{next_multiple_of}
use Rattle.std.specs.List.{range_with_len}
use Rattle.std.proofs.lemmas.Bool.{and_parts, leb-true, le-ltb, lt-ltb, ne_eqb}
use Rattle.std.proofs.lemmas.List.FromFn.{take-map-range_with_len}
use Rattle.std.proofs.lemmas.Nat.{mod_below}
use Rattle.abi_bits.specs.Pairs.{max_size}
use Rattle.abi_bits.specs.Mask as masks
use Rattle.abi_det.specs.Frame.{Frame}
use Rattle.abi_det.specs.Offers as offers
use Rattle.abi_det.specs.Written as written
use Rattle.abi_layout.specs.Builders as builders
use Rattle.abi_layout.specs.Prims as prims
use Rattle.abi_det.specs.Offers.{One, or_else}
use Rattle.abi_layout.specs.Builders.{start_after}
use Rattle.abi_layout.specs.Faults.{max_parts, size_fault, own_fault, part_fault, part_fault_in, desc_fault}
use Rattle.abi_layout.specs.Frames.{written_frame, written_frames}
use Rattle.abi_layout.specs.Structs.{end_of, fields_align, struct_frame}
use Rattle.abi_layout.specs.Trees.{Tree, Branches, Named, prim, array, option, result, branches_of, parts, parts_in}
use Rattle.abi_layout.specs.declared.desc_error.DescError.{DescError}
use Rattle.abi_layout.specs.declared.prim.Primitive.TheVariants as primitive
use Rattle.abi_pack.specs.Jobs.{job_fault}
use Rattle.abi_pack.specs.Plain.{Plain}
use Rattle.abi_pack.specs.Values.{fits, fits_in}
use Rattle.abi_pack.specs.View.{plains_of}
use Rattle.abi_document.specs.Laws.{MadeLaw}
use Rattle.abi_document.specs.Made.{most_fields, pair_type, type_in_turn, field_type, number, ok, err, truth_of, result_of, pair_of, bytes_of, value_in_turn, field_value, made_field, made_fields, made_desc, le64}

none : (x y : Option DescError) → x ≡ None → y ≡ None → or_else x y ≡ None
none x y e f = rw (e, f) refl

both : (b c : Bool) → b ≡ true → c ≡ true → (b && c) ≡ true
both b c e f = rw (e, f) refl

-- ---- the six types

-- what holds of both answers of a choice holds of the answer
by_choice : (P : Tree → Type 0) (b : Bool) (s t : Tree) → P s → P t → P (cond b s t)
by_choice P true s t p q = p
by_choice P false s t p q = q

-- without a fault, and small
record IsSmall (t : Tree) : Type 0 where
  faultless : (first : ℕ) → part_fault One le64 first t ≡ None
  positive : 0 < (written_frame One le64 t).align
  aligned : (written_frame One le64 t).align ≤ 4
  sized : (written_frame One le64 t).size ≤ 8

small : (t : Tree) (align size : ℕ) → ((first : ℕ) → part_fault One le64 first t ≡ None)
    → (written_frame One le64 t).align ≡ align → (written_frame One le64 t).size ≡ size
    → 0 < align → align ≤ 4 → size ≤ 8 → IsSmall t
small t align size none a s positive aligned sized = record {
  faultless = none;
  positive = subst (λ n. 0 < n) (sym a) positive;
  aligned = subst (λ n. n ≤ 4) (sym a) aligned;
  sized = subst (λ n. n ≤ 8) (sym s) sized;
}

byte_small : IsSmall (prim primitive.U8)
unfolding prims.row_frame
byte_small = small (prim primitive.U8) 1 1 (λ first. refl) refl refl (lit≤ tt) (lit≤ tt) (lit≤ tt)

word_small : IsSmall (prim primitive.U32)
unfolding prims.row_frame
word_small = small (prim primitive.U32) 4 4 (λ first. refl) refl refl (lit≤ tt) (lit≤ tt) (lit≤ tt)

truth_small : IsSmall (option (prim primitive.Bool))
unfolding prims.row_frame written.written_sum written.written_placement offers.first_offer offers.offer_at masks.entries_below
truth_small =
    small (option (prim primitive.Bool)) 1 1 (λ first. refl) refl refl (lit≤ tt) (lit≤ tt) (lit≤ tt)

result_small : IsSmall (result (prim primitive.U16) (prim primitive.NonZeroU8))
unfolding prims.row_frame written.written_sum written.written_placement offers.first_offer offers.offer_at masks.entries_below
result_small =
    small (result (prim primitive.U16) (prim primitive.NonZeroU8)) 2 4 (λ first. refl) refl refl
    (lit≤ tt) (lit≤ tt) (lit≤ tt)

pair_small : IsSmall (option pair_type)
unfolding struct_frame prims.row_frame written.written_sum written.written_placement offers.first_offer offers.offer_at masks.entries_below
pair_small = small (option pair_type) 4 8 (λ first. refl) refl refl (lit≤ tt) (lit≤ tt) (lit≤ tt)

bytes_small : IsSmall (array (prim primitive.U8) 3)
unfolding prims.row_frame builders.repeated
bytes_small = small (array (prim primitive.U8) 3) 1 3 (λ first. refl) refl refl (lit≤ tt) (lit≤ tt) (lit≤ tt)

small_type : (turn : ℕ) → IsSmall (type_in_turn turn)
small_type turn =
    by_choice IsSmall (turn == 0) _ _ byte_small
    (by_choice IsSmall (turn == 1) _ _ word_small
    (by_choice IsSmall (turn == 2) _ _ truth_small
    (by_choice IsSmall (turn == 3) _ _ result_small
    (by_choice IsSmall (turn == 4) _ _ pair_small bytes_small))))

small_field : (i : ℕ) → IsSmall (field_type i)
unfolding field_type
small_field i = small_type (i % 6)

-- ---- the struct

-- n fields from number a on
abbrev fields : ℕ → ℕ → Branches
fields a n = branches_of (map made_field (range_with_len a n))

abbrev frames : ℕ → ℕ → List Frame
frames a n = written_frames One le64 (fields a n)

fields_faultless : (n a first : ℕ) → part_fault_in One le64 first (fields a n) ≡ None
fields_faultless zero a first = refl
fields_faultless (suc n) a first =
    none (part_fault One le64 first (field_type a))
    (part_fault_in One le64 (first + parts (field_type a)) (fields (a + 1) n))
    ((small_field a).faultless first) (fields_faultless n (a + 1) (first + parts (field_type a)))

rounded : (end align : ℕ) → 0 < align → align ≤ 4 → next_multiple_of end align ≤ end + 4
rounded end align positive most =
    let rest : (align - end % align) % align < align = mod_below (align - end % align) align positive in
    omega (arith, rest, most)

fields_end : (n a end : ℕ) → end_of end (frames a n) ≤ end + 12 * n
fields_end zero a end = omega arith
fields_end (suc n) a end =
    let f : Frame = written_frame One le64 (field_type a) in
    let s : IsSmall (field_type a) = small_field a in
    let start : start_after end f ≤ end + 4 = rounded end f.align s.positive s.aligned in
    let rest : end_of (start_after end f + f.size) (frames (a + 1) n) ≤ start_after end f + f.size + 12 * n =
    fields_end n (a + 1) (start_after end f + f.size) in
    omega (arith, rest, start, s.sized)

max_between : (a b : ℕ) → 0 < a → a ≤ 4 → 0 < b → b ≤ 4 → (0 < max a b) × (max a b ≤ 4)
max_between a b pa la pb lb = (omega (arith, pa), omega (arith, la, lb))

fields_aligned : (n a : ℕ) → (0 < fields_align (frames a n)) × (fields_align (frames a n) ≤ 4)
fields_aligned zero a = (lit≤ tt, lit≤ tt)
fields_aligned (suc n) a =
    let s : IsSmall (field_type a) = small_field a in
    let rest = fields_aligned n (a + 1) in
    max_between (written_frame One le64 (field_type a)).align (fields_align (frames (a + 1) n)) s.positive s.aligned rest.0 rest.1

struct_size : (k : ℕ) → k ≤ most_fields → (written_frame One le64 (made_desc k)).size ≤ max_size
unfolding struct_frame
struct_size k most =
    let aligned = fields_aligned k 0 in
    let whole = rounded (end_of 0 (frames 0 k)) (fields_align (frames 0 k)) aligned.0 aligned.1 in
    omega (arith, whole, fields_end k 0 0, most)

no_size_fault : (part : ℕ) (f : Frame) → f.size ≤ max_size → size_fault part f ≡ None
no_size_fault part f fine = rw (le-ltb max_size f.size fine) refl

-- the first few of some fields have no more parts than all of them
taken_parts : (k : ℕ) (fs : List Named) → parts_in (branches_of (take k fs)) ≤ parts_in (branches_of fs)
taken_parts zero fs = omega arith
taken_parts (suc k) [] = omega arith
taken_parts (suc k) (f ∷ fs) = omega (arith, taken_parts k fs)

most_parts : parts_in (branches_of (made_fields most_fields)) ≡ 3250
unfolding field_type
most_parts = refl

whole_parts : (n : ℕ) → n ≤ 3250 → n + 1 ≤ max_parts
whole_parts n few = omega (arith, few)

few_parts : (k : ℕ) → k ≤ most_fields → parts (made_desc k) ≤ max_parts
few_parts k most =
    let first : take k (made_fields most_fields) ≡ made_fields k = take-map-range_with_len made_field 0 most_fields k most in
    let fewer : parts_in (branches_of (take k (made_fields most_fields))) ≤ parts_in (branches_of (made_fields most_fields)) =
    taken_parts k (made_fields most_fields) in
    let here : parts_in (branches_of (made_fields k)) ≤ 3250 =
    subst (λ (fs : List Named). parts_in (branches_of fs) ≤ 3250) first
    (subst (λ n. parts_in (branches_of (take k (made_fields most_fields))) ≤ n) most_parts fewer) in
    whole_parts (parts_in (branches_of (made_fields k))) here

description_faultless : (k : ℕ) → k ≤ most_fields → desc_fault One le64 (made_desc k) ≡ None
unfolding desc_fault
description_faultless k most =
    rw (le-ltb max_parts (parts (made_desc k)) (few_parts k most))
    (none (part_fault_in One le64 0 (fields 0 k)) (own_fault One le64 (0 + parts_in (fields 0 k)) (made_desc k))
    (fields_faultless k 0 0) (no_size_fault (0 + parts_in (fields 0 k)) (written_frame One le64 (made_desc k)) (struct_size k most)))

-- ---- the value

abbrev Fits : Tree → Plain → Type 0
Fits t v = fits One le64 t v ≡ true

by_both : (b : Bool) (s t : Tree) (v w : Plain) → Fits s v → Fits t w → Fits (cond b s t) (cond b v w)
by_both true s t v w p q = p
by_both false s t v w p q = q

by_value : (t : Tree) (b : Bool) (v w : Plain) → Fits t v → Fits t w → Fits t (cond b v w)
by_value t true v w p q = p
by_value t false v w p q = q

byte_fits : (n : ℕ) → n < 256 → Fits (prim primitive.U8) (number n)
byte_fits n below = both (nat_lt n 256) true (lt-ltb n 256 below) refl

word_fits : (n : ℕ) → n < 2 ^ 32 → Fits (prim primitive.U32) (number n)
word_fits n below = both (nat_lt n (2 ^ 32)) true (lt-ltb n (2 ^ 32) below) refl

non_zero_fits : (n : ℕ) → 0 < n → n < 256 → Fits (prim primitive.NonZeroU8) (number n)
non_zero_fits n positive below =
    both (nat_lt n 256) (not (n == 0)) (lt-ltb n 256 below) (rw (ne_eqb n 0 (λ e. omega (arith, e, positive))) refl)

truth_fits : (round : ℕ) → Fits (option (prim primitive.Bool)) (truth_of round)
truth_fits round =
    by_value (option (prim primitive.Bool)) (round % 3 == 0) _ _ refl
    (by_value (option (prim primitive.Bool)) (round % 3 == 1) _ _ refl refl)

result_fits : (round i : ℕ) → i < most_fields → Fits (result (prim primitive.U16) (prim primitive.NonZeroU8)) (result_of round i)
result_fits round i below =
    by_value (result (prim primitive.U16) (prim primitive.NonZeroU8)) (round % 2 == 0) (ok (number i)) (err (number (1 + i % 255)))
    (both (nat_lt i (2 ^ 16)) true (lt-ltb i (2 ^ 16) (omega (arith, below))) refl)
    (non_zero_fits (1 + i % 255) (omega arith) (omega (arith, mod_below i 255 (lit≤ tt))))

pair_fits : (round i : ℕ) → i < most_fields → Fits (option pair_type) (pair_of round i)
pair_fits round i below =
    by_value (option pair_type) (round % 2 == 0) _ _
    (both (fits One le64 (prim primitive.U32) (number i)) true (word_fits i (omega (arith, below))) refl) refl

bytes_fit : (round i : ℕ) → Fits (array (prim primitive.U8) 3) (bytes_of round i)
bytes_fit round i =
    both (fits One le64 (prim primitive.U8) (number (i % 256))) _ (byte_fits (i % 256) (mod_below i 256 (lit≤ tt)))
    (both (fits One le64 (prim primitive.U8) (number (round % 256))) true (byte_fits (round % 256) (mod_below round 256 (lit≤ tt))) refl)

value_fits : (turn round i : ℕ) → i < most_fields → Fits (type_in_turn turn) (value_in_turn turn round i)
value_fits turn round i below =
    by_both (turn == 0) _ _ _ _ (byte_fits (i % 256) (mod_below i 256 (lit≤ tt)))
    (by_both (turn == 1) _ _ _ _ (word_fits (7 * i) (omega (arith, below)))
    (by_both (turn == 2) _ _ _ _ (truth_fits round)
    (by_both (turn == 3) _ _ _ _ (result_fits round i below)
    (by_both (turn == 4) _ _ _ _ (pair_fits round i below) (bytes_fit round i)))))

field_fits : (i : ℕ) → i < most_fields → Fits (field_type i) (field_value i)
unfolding field_type field_value
field_fits i below = value_fits (i % 6) (i / 6) i below

fields_fit : (n a : ℕ) → a + n ≤ most_fields → fits_in One le64 (fields a n) (plains_of (map field_value (range_with_len a n))) ≡ true
fields_fit zero a most = refl
fields_fit (suc n) a most =
    both (fits One le64 (field_type a) (field_value a)) _ (field_fits a (omega (arith, most)))
    (fields_fit n (a + 1) (omega (arith, most)))

pub made_law : MadeLaw
unfolding job_fault
made_law k counted =
    let most : k ≤ most_fields = leb-true k most_fields (and_parts (nat_le 1 k) (nat_le k most_fields) counted).1 in
    rw (description_faultless k most, fields_fit k 0 (omega (arith, most))) refl
