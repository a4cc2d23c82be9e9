-- The laws of packed bytes, of descriptions, from those of their plans.
use Rattle.std.specs.Prelude.{nat_lt}
use Rattle.std.specs.Int.{bit_at}
use Rattle.std.proofs.Common.{◌≡◌, ◌↔◌, ℕ, ◌+◌, ◌*◌, ◌/◌, ◌%◌, ◌^◌, ◌<◌, ◌≤◌, ◌≢◌, ◌⊎◌, inl, inr, List, length, get_or, Bool, true, false, ◌&&◌, not, ◌==◌, Option, Some, None, cond, bit_xor, refl, ◌∙◌, sym, subst, arith}
use Rattle.std.proofs.lemmas.Bool.Decides.{nat_tests, eqb_tells}
use Rattle.std.proofs.lemmas.Bool.{eq-eqb, eqb-true}
use Rattle.std.proofs.lemmas.List.{ext_get_or}
use Rattle.std.proofs.lemmas.Nat.{pow_below, xor_lt}
use Rattle.std.proofs.lemmas.Nat.Bits.{bit_at-lt, bit_at_xor, bit_at-pow_same, bit_at-pow_other}
use Rattle.abi_num.specs.Target.{is_row}
use Rattle.abi_num.specs.declared.target.Target.{Target}
use Rattle.abi_bits.specs.Mask.{mask_at}
use Rattle.abi_det.specs.Offers.{Rules}
use Rattle.abi_layout.specs.Faults.{part_fault, part_fault_in, desc_fault}
use Rattle.abi_layout.specs.Frames.{written_frame}
use Rattle.abi_layout.specs.Plans.{shape_of}
use Rattle.abi_layout.specs.Shape.{Shape}
use Rattle.abi_layout.specs.Trees as trees
use Rattle.abi_layout.specs.Trees.{Tree, Branches, parts}
use Rattle.abi_layout.specs.declared.desc_error.DescError.{DescError}
use Rattle.abi_layout.specs.declared.desc_error.DescError.TheVariants as fault
use Rattle.abi_det.proofs.Lawful.{size_bound}
use Rattle.abi_layout.proofs.Faultless.{no_fault, after_one, after_two, prim_faultless}
use Rattle.abi_layout.proofs.Sounding.{part_sound}
use Rattle.abi_pack.specs.Agree.{Agree}
use Rattle.abi_pack.specs.ByteMap.{ByteMap, AreBytes, bytes_of}
use Rattle.abi_pack.specs.Laws.{bit_of, Holds, flipped, CanonicalLaw, UniqueLaw, FitLaw, HeldLaw, FlipLaw, FreeLaw, ChangeLaw, ItemLaw, PackedLaw, BackLaw, ReadLaw}
use Rattle.abi_pack.specs.Packed.{packed}
use Rattle.abi_pack.specs.Plain.{Plain}
use Rattle.abi_pack.specs.Shows as shape
use Rattle.abi_pack.specs.ValueShown.{is_shown, value_shown}
use Rattle.abi_pack.specs.Values.{Shows, holds, fits, IsCanonical, IsImageOf}
use Rattle.abi_pack.proofs.Agreed.{agree, same_held}
use Rattle.abi_pack.proofs.Canons.{packed_canonical, packed_length, packed_small}
use Rattle.abi_pack.proofs.Choice.{and_first, and_second, two_truths}
use Rattle.abi_pack.proofs.Covering.{IsCovered, part_covered}
use Rattle.abi_pack.proofs.ShownValues.{unique, shown_value, shown_where, told_where, shown_fits}
use Rattle.abi_pack.proofs.TreeValues.{IsFormed, AreFormed, same_size, same_fits, same_shows, same_holds}
use Rattle.abi_pack.proofs.Truths.{same_byte}

-- ---- a description without a fault

row_if : (row many : Bool) (rest : Option DescError) → cond (not row) (Some fault.BadTarget) (cond many (Some fault.TooManyParts) rest) ≡ None → (row ≡ true) × (rest ≡ None)
row_if false many rest h = absurd (cc)
row_if true true rest h = absurd (cc)
row_if true false rest h = (refl, h)

pub faultless_parts : (rules : Rules) (target : Target) (t : Tree) → desc_fault rules target t ≡ None → (is_row target ≡ true) × (part_fault rules target 0 t ≡ None)
unfolding desc_fault
faultless_parts rules target t h = row_if (is_row target) (nat_lt 4096 (parts t)) (part_fault rules target 0 t) h

pub faultless_covered : (rules : Rules) (target : Target) (t : Tree) → desc_fault rules target t ≡ None → IsCovered (written_frame rules target t) (shape_of rules target t)
faultless_covered rules target t h = let d = faultless_parts rules target t h in part_covered rules target 0 t d.0 d.1

pub faultless_small : (rules : Rules) (target : Target) (t : Tree) → desc_fault rules target t ≡ None → (written_frame rules target t).size ≤ 1048576
faultless_small rules target t h =
    let d = faultless_parts rules target t h in size_bound (written_frame rules target t) (part_sound rules target 0 t d.0 d.1).lawful

both_formed : (target : Target) (side : Bool → Tree) → IsFormed target (side true) → IsFormed target (side false) → (first : Bool) → IsFormed target (side first)
both_formed target side ok err true = ok
both_formed target side ok err false = err

mutual
  part_formed : (rules : Rules) (target : Target) (first : ℕ) (t : Tree) → part_fault rules target first t ≡ None → IsFormed target t
  part_formed rules target first (trees.prim p) h = prim_faultless rules target first p h
  part_formed rules target first (trees.struct label fs align) h =
      parts_formed rules target first fs (after_one _ rules target _ (trees.struct label fs align) h).0
  part_formed rules target first (trees.array item len) h = part_formed rules target first item (after_one _ rules target _ (trees.array item len) h).0
  part_formed rules target first (trees.sum names side) h =
      let a = after_two _ _ rules target _ (trees.sum names side) h in
      both_formed target side (part_formed rules target first (side true) a.0) (part_formed rules target (first + parts (side true)) (side false) a.1)
  part_formed rules target first (trees.core names side) h =
      let a = after_two _ _ rules target _ (trees.core names side) h in
      both_formed target side (part_formed rules target first (side true) a.0) (part_formed rules target (first + parts (side true)) (side false) a.1)
  part_formed rules target first (trees.wrap kind t) h = part_formed rules target first t (after_one _ rules target _ (trees.wrap kind t) h).0
  part_formed rules target first (trees.stable_if value condition) h =
      part_formed rules target first value (after_two _ _ rules target _ (trees.stable_if value condition) h).0
  part_formed rules target first _ h = tt

  parts_formed : (rules : Rules) (target : Target) (first : ℕ) (fs : Branches) → part_fault_in rules target first fs ≡ None → AreFormed target fs
  parts_formed rules target first trees.none h = tt
  parts_formed rules target first (trees.field name t fs) h =
      let a = no_fault (part_fault rules target first t) (part_fault_in rules target (first + parts t) fs) h in
      (part_formed rules target first t a.0, parts_formed rules target (first + parts t) fs a.1)

pub formed : (rules : Rules) (target : Target) (t : Tree) → desc_fault rules target t ≡ None → IsFormed target t
formed rules target t h = part_formed rules target 0 t (faultless_parts rules target t h).1

-- what a description without a fault says of values and bytes is what its plan says
pub faultless_fits : (rules : Rules) (target : Target) (t : Tree) (v : Plain) → desc_fault rules target t ≡ None → fits rules target t v ≡ shape.fits (shape_of rules target t) v
faultless_fits rules target t v none = same_fits rules target t v (formed rules target t none)

pub faultless_shows : (rules : Rules) (target : Target) (t : Tree) (v : Plain) (f : ByteMap) → desc_fault rules target t ≡ None → AreBytes f
    → Shows rules target t v f ↔ shape.Shows (shape_of rules target t) v f
faultless_shows rules target t v f none bytes = same_shows rules target t v f (formed rules target t none) bytes

-- ---- from the plan to the description

tree_canonical : (rules : Rules) (target : Target) (t : Tree) (v : Plain) (f : ByteMap) → desc_fault rules target t ≡ None → AreBytes f → shape.IsCanonical (shape_of rules target t) v f
    → IsCanonical rules target t v f
tree_canonical rules target t v f none b c = record {
  shows = (faultless_shows rules target t v f none b).1 c.shows;
  clear = λ i k low small free. c.clear i k (rw (same_size rules target t) low) small (sym (same_holds rules target t v i k) ∙ free);
}

-- the bytes that writing leaves are the value's canonical ones
pub packed_image : (rules : Rules) (target : Target) (t : Tree) (v : Plain) → desc_fault rules target t ≡ None → fits rules target t v ≡ true
    → IsImageOf rules target t v (packed (shape_of rules target t) v)
packed_image rules target t v none fit =
    let s : Shape = shape_of rules target t in
    let sound = (faultless_covered rules target t none).sound in
    let fit_ : shape.fits s v ≡ true = sym (faultless_fits rules target t v none) ∙ fit in
    let bytes = packed_small s v sound fit_ in
    record {
      long = packed_length s v sound fit_ ∙ same_size rules target t;
      bytes = bytes;
      canonical = tree_canonical rules target t v (bytes_of (packed s v)) none bytes (packed_canonical s v sound fit_);
    }

pub tree_held : (rules : Rules) (target : Target) (t : Tree) (v : Plain) (f g : ByteMap) → desc_fault rules target t ≡ None → AreBytes f → AreBytes g
    → Shows rules target t v f → Shows rules target t v g → Agree (λ i k. holds rules target t v i k) (written_frame rules target t).size f g
tree_held rules target t v f g none bf bg hf hg i k low small held =
    same_held (shape_of rules target t) v f g (faultless_covered rules target t none).sound ((faultless_shows rules target t v f none bf).0 hf) ((faultless_shows rules target t v g none bg).0 hg)
    i k (rw (same_size rules target t) low) small (sym (same_holds rules target t v i k) ∙ held)

tree_agree : (rules : Rules) (target : Target) (t : Tree) (v : Plain) (f g : ByteMap) → desc_fault rules target t ≡ None → AreBytes f → AreBytes g
    → Agree (λ i k. holds rules target t v i k) (written_frame rules target t).size f g → Shows rules target t v f → Shows rules target t v g
tree_agree rules target t v f g none bf bg same hf =
    (faultless_shows rules target t v g none bg).1
    (agree (shape_of rules target t) v f g (faultless_covered rules target t none).sound bf bg
    (λ i k low small held. same i k (rw (same_size rules target t) at low) small (same_holds rules target t v i k ∙ held))
    ((faultless_shows rules target t v f none bf).0 hf))

-- ---- bits by number

by_pair : (P : ℕ → ℕ → Type 0) (m : ℕ) → ((n : ℕ) → n < 8 * m → P (n / 8) (n % 8)) → (i k : ℕ) → i < m → k < 8 → P i k
by_pair P m h i k low small =
    let byte : (8 * i + k) / 8 ≡ i = omega arith in
    let bit : (8 * i + k) % 8 ≡ k = omega arith in
    subst (λ j. P j k) byte (subst (λ l. P ((8 * i + k) / 8) l) bit (h (8 * i + k) (omega arith)))

agree_numbered : (rules : Rules) (target : Target) (t : Tree) (v : Plain) (f g : ByteMap)
    → ((n : ℕ) → n < 8 * (written_frame rules target t).size → Holds rules target t v n → bit_of f n ≡ bit_of g n)
    → Agree (λ i k. holds rules target t v i k) (written_frame rules target t).size f g
agree_numbered rules target t v f g h i k low small held =
    by_pair (λ j l. holds rules target t v j l ≡ true → bit_at (f j) l ≡ bit_at (g j) l) (written_frame rules target t).size h i k low small held

-- ---- the laws

pub unique_law : UniqueLaw
unique_law rules target t v w f none b hv hw =
    unique (shape_of rules target t) v w f ((faultless_shows rules target t v f none b).0 hv) ((faultless_shows rules target t w f none b).0 hw)

pub fit_law : FitLaw
fit_law rules target t v f none b h =
    faultless_fits rules target t v none ∙ shown_fits (shape_of rules target t) v f (faultless_covered rules target t none).sound b ((faultless_shows rules target t v f none b).0 h)

pub item_law : ItemLaw
item_law rules target t v f none b h = (faultless_covered rules target t none).covers.items v f ((faultless_shows rules target t v f none b).0 h)

pub free_law : FreeLaw
free_law rules target t v n none free held =
    let has_ = eq-eqb (bit_at (mask_at (written_frame rules target t).free (n / 8)) (n % 8)) 1 free in
    let not_held : holds rules target t v (n / 8) (n % 8) ≡ false =
    same_holds rules target t v (n / 8) (n % 8) ∙ (faultless_covered rules target t none).covers.free v (n / 8) (n % 8) (omega arith) has_ in absurd (cc)

canonical_bit : (rules : Rules) (target : Target) (t : Tree) (v : Plain) (f g : ByteMap) → desc_fault rules target t ≡ None → AreBytes f → AreBytes g
    → IsCanonical rules target t v f → IsCanonical rules target t v g → (i k : ℕ) → i < (written_frame rules target t).size → k < 8
    → (holds rules target t v i k ≡ true) ⊎ (holds rules target t v i k ≡ false) → bit_at (f i) k ≡ bit_at (g i) k
canonical_bit rules target t v f g none bf bg cf cg i k low small (inl held) = tree_held rules target t v f g none bf bg cf.shows cg.shows i k low small held
canonical_bit rules target t v f g none bf bg cf cg i k low small (inr free) = cf.clear i k low small free ∙ sym (cg.clear i k low small free)

pub one_image : (rules : Rules) (target : Target) (t : Tree) (v : Plain) (bs cs : List ℕ) → desc_fault rules target t ≡ None
    → IsImageOf rules target t v bs → IsImageOf rules target t v cs → bs ≡ cs
one_image rules target t v bs cs none b c =
    ext_get_or 0 bs cs (b.long ∙ sym c.long)
    (λ i h. let low : i < (written_frame rules target t).size = rw b.long at h in
    same_byte (get_or bs i 0) (get_or cs i 0) (b.bytes i) (c.bytes i)
    (λ k small. canonical_bit rules target t v (bytes_of bs) (bytes_of cs) none b.bytes c.bytes b.canonical c.canonical i k low small (two_truths (holds rules target t v i k))))

pub canonical_law : CanonicalLaw
canonical_law rules target t v none fit =
    let bs : List ℕ = packed (shape_of rules target t) v in
    let is = packed_image rules target t v none fit in (bs, is, λ cs c. one_image rules target t v cs bs none c is)

pub held_law : HeldLaw
held_law rules target t v bs cs none c long b = (
  λ shown n low held. tree_held rules target t v (bytes_of bs) (bytes_of cs) none b c.bytes shown c.canonical.shows (n / 8) (n % 8) (omega arith) (omega arith) held,
  λ same. tree_agree rules target t v (bytes_of cs) (bytes_of bs) none c.bytes b
      (agree_numbered rules target t v (bytes_of cs) (bytes_of bs) (λ n low held. sym (same n low held))) c.canonical.shows,
)

pub change_law : ChangeLaw
change_law rules target t v f g none fb gb shown same =
    tree_agree rules target t v f g none fb gb
    (agree_numbered rules target t v f g (λ n low held. same n low (λ free. free_law rules target t v n none free held))) shown

pub packed_law : PackedLaw
packed_law rules target t v w bs cs none b c = (
  λ same. unique_law rules target t v w (bytes_of bs) none b.bytes b.canonical.shows (subst (λ xs. Shows rules target t w (bytes_of xs)) (sym same) c.canonical.shows),
  λ same. one_image rules target t v bs cs none b (subst (λ x. IsImageOf rules target t x cs) (sym same) c),
)

pub back_law : BackLaw
back_law rules target t v w bs none b = (
  λ h. unique_law rules target t w v (bytes_of bs) none b.bytes h b.canonical.shows,
  λ e. subst (λ x. Shows rules target t x (bytes_of bs)) (sym e) b.canonical.shows,
)

-- ---- what is read

some_if : {A : Type 0} (b : Bool) (x y : A) → ◌≡◌ {A = Option A} (cond b (Some x) None) (Some y) → (b ≡ true) × (x ≡ y)
some_if true x y h = (refl, cc)
some_if false x y h = absurd (cc)

pub read_law : ReadLaw
read_law rules target t v bs none b =
    let s : Shape = shape_of rules target t in
    let n : ℕ = (written_frame rules target t).size in
    let long : Bool = length bs == n in
    let plan = faultless_shows rules target t v (bytes_of bs) none b in (
      λ h.
          let found = some_if (long && is_shown s (bytes_of bs)) (value_shown s (bytes_of bs)) v h in
          let value : shape.Shows s (value_shown s (bytes_of bs)) (bytes_of bs) = shown_value s (bytes_of bs) b (and_second long (is_shown s (bytes_of bs)) found.0) in
          (eqb-true (length bs) n (and_first long (is_shown s (bytes_of bs)) found.0), plan.1 (subst (λ w. shape.Shows s w (bytes_of bs)) found.1 value)),
      λ h.
          let shown = plan.0 h.1 in
          let there : is_shown s (bytes_of bs) ≡ true = shown_where s v (bytes_of bs) shown in
          let whole : long ≡ true = eq-eqb (length bs) n h.0 in
          let value : v ≡ value_shown s (bytes_of bs) = told_where s v (bytes_of bs) shown in
          rw (whole, there, value) refl,
    )

-- ---- one bit turned over

abbrev AtPlace : ℕ → ℕ → Type 0
AtPlace i m = ((i == m) ≡ true) × (i ≡ m) ⊎ ((i == m) ≡ false) × (i ≢ m)

turned : (f : ByteMap) (n i : ℕ) → (i == n / 8) ≡ true → flipped n f i ≡ bit_xor (f i) (2 ^ (n % 8))
turned f n i e = rw e refl

kept : (f : ByteMap) (n i : ℕ) → (i == n / 8) ≡ false → flipped n f i ≡ f i
kept f n i e = rw e refl

flipped_byte : (f : ByteMap) (n i : ℕ) → AreBytes f → AtPlace i (n / 8) → flipped n f i < 256
flipped_byte f n i b (inl e) = rw (turned f n i e.0) (xor_lt 8 (f i) (2 ^ (n % 8)) (b i) (pow_below (n % 8) 8 (omega arith)))
flipped_byte f n i b (inr e) = rw (kept f n i e.0) (b i)

flipped_bytes : (f : ByteMap) (n : ℕ) → AreBytes f → AreBytes (flipped n f)
flipped_bytes f n b i = flipped_byte f n i b (eqb_tells i (n / 8))

other_bit : (x b k : ℕ) → k ≢ b → bit_at (bit_xor x (2 ^ b)) k ≡ bit_at x k
other_bit x b k h =
    let bit : bit_at x k < 2 = bit_at-lt x k in rw (bit_at_xor x (2 ^ b) k, bit_at-pow_other b k h) (omega arith)

own_bit : (x b : ℕ) → bit_at x b ≡ bit_at (bit_xor x (2 ^ b)) b → ⊥
own_bit x b h =
    let bit : bit_at x b < 2 = bit_at-lt x b in
    let over : bit_at x b ≡ (bit_at x b + 1) % 2 = rw (bit_at_xor x (2 ^ b) b, bit_at-pow_same b) at h in absurd (omega arith)

flipped_other : (f : ByteMap) (n i k : ℕ) → (i ≡ n / 8 → k ≡ n % 8 → ⊥) → AtPlace i (n / 8) → bit_at (f i) k ≡ bit_at (flipped n f i) k
flipped_other f n i k apart (inl e) = rw (turned f n i e.0) (sym (other_bit (f i) (n % 8) k (λ h. apart e.1 h)))
flipped_other f n i k apart (inr e) = rw (kept f n i e.0) refl

same_place : (m : ℕ) → (m == m) ≡ true
same_place m = grind (arith, nat_tests)

flip_held : (rules : Rules) (target : Target) (t : Tree) (v : Plain) (f : ByteMap) (n : ℕ) → desc_fault rules target t ≡ None → AreBytes f
    → n < 8 * (written_frame rules target t).size → Shows rules target t v f → Holds rules target t v n → Shows rules target t v (flipped n f) → ⊥
flip_held rules target t v f n none bytes low shown held after =
    let same : bit_at (f (n / 8)) (n % 8) ≡ bit_at (flipped n f (n / 8)) (n % 8) =
    tree_held rules target t v f (flipped n f) none bytes (flipped_bytes f n bytes) shown after (n / 8) (n % 8) (omega arith) (omega arith) held in
    own_bit (f (n / 8)) (n % 8) (rw (turned f n (n / 8) (same_place (n / 8))) at same)

flip_free : (rules : Rules) (target : Target) (t : Tree) (v : Plain) (f : ByteMap) (n : ℕ) → desc_fault rules target t ≡ None → AreBytes f
    → n < 8 * (written_frame rules target t).size → Shows rules target t v f
    → (holds rules target t v (n / 8) (n % 8) ≡ true) ⊎ (holds rules target t v (n / 8) (n % 8) ≡ false) → (Shows rules target t v (flipped n f) → ⊥) → Holds rules target t v n
flip_free rules target t v f n none bytes low shown (inl held) lost = held
flip_free rules target t v f n none bytes low shown (inr free) lost =
    absurd (lost (tree_agree rules target t v f (flipped n f) none bytes (flipped_bytes f n bytes)
    (λ i k l small held. flipped_other f n i k (λ a b. never i k held a b) (eqb_tells i (n / 8))) shown))
  where
    never : (i k : ℕ) → holds rules target t v i k ≡ true → i ≡ n / 8 → k ≡ n % 8 → ⊥
    never i k held a b =
        let same : holds rules target t v (n / 8) (n % 8) ≡ true = subst (λ j. holds rules target t v j (n % 8) ≡ true) a (subst (λ l. holds rules target t v i l ≡ true) b held) in absurd (cc)

pub flip_law : FlipLaw
flip_law rules target t v f n none bytes low shown =
    (λ held after. flip_held rules target t v f n none bytes low shown held after, λ lost. flip_free rules target t v f n none bytes low shown (two_truths (holds rules target t v (n / 8) (n % 8))) lost)
