-- Which bits decide what bytes show: those that the value holds, and no others.
use Rattle.std.specs.Int.{bit_at}
use Rattle.std.proofs.Common.{◌≡◌, ℕ, ◌+◌, ◌-◌, ◌<◌, ◌≤◌, ◌⊎◌, inl, inr, Bool, true, false, ◌||◌, ◌∙◌, sym, arith}
use Rattle.abi_det.specs.State.{test_holds, is_state_ok}
use Rattle.abi_det.specs.SoundPlacement.{is_imposed, IsTest}
use Rattle.abi_det.specs.declared.determinant.Test.{Test}
use Rattle.abi_det.specs.declared.determinant.Test.TheVariants as test
use Rattle.abi_pack.specs.Agree.{Agree}
use Rattle.abi_pack.specs.ByteMap.{ByteMap, AreBytes, seen_from}
use Rattle.abi_pack.specs.Plain.{Plain, Plains, list, variant, end, more}
use Rattle.abi_layout.specs.Shape.{Shape, Shapes, atom, fields, sum, last, field, size, size_in}
use Rattle.abi_pack.specs.Shows.{Shows, ShowIn, holds, holds_in, held_at, start_of, sign_of, holds_test}
use Rattle.abi_pack.specs.Consistent.{IsConsistent, AreConsistent, IsSide}
use Rattle.abi_layout.specs.declared.part.SumLayout.{SumLayout}
use Rattle.abi_pack.proofs.Atoms.{atom_agree, atom_same}
use Rattle.abi_pack.proofs.Choice.{in_gap, in_field, behind_field, three_places, and_first, and_second, and_both, either_way, or_left, or_right, two_truths}
use Rattle.abi_pack.proofs.Truths.{state_sign, sign_state, keeps, tested_same}

-- the bits that a value of a variant holds
abbrev pub side_holds : Shape → Plain → Bool → SumLayout → ℕ → ℕ → Bool
side_holds s v first at i k = held_at (start_of at first) (size s) (λ j l. holds s v j l) i k || holds_test at.determinant first i k

pub held_there : (s : Shape) (v : Plain) (shift i k : ℕ) → i < size s → holds s v i k ≡ true → held_at shift (size s) (λ j l. holds s v j l) (shift + i) k ≡ true
held_there s v shift i k inside held =
    let back : shift + i - shift ≡ i = omega arith in
    in_field (shift + i) shift (size s) false (holds s v (shift + i - shift) k) false (omega arith) (omega arith) ∙ rw back held

pub side_agree : (s : Shape) (v : Plain) (first : Bool) (at : SumLayout) (f g : ByteMap) → start_of at first + size s ≤ at.size
    → Agree (side_holds s v first at) at.size f g → Agree (λ i k. holds s v i k) (size s) (seen_from (start_of at first) f) (seen_from (start_of at first) g)
side_agree s v first at f g inside same i k low small held =
    same (start_of at first + i) k (omega arith) small
    (or_left (held_at (start_of at first) (size s) (λ j l. holds s v j l) (start_of at first + i) k) _ (held_there s v (start_of at first) i k low held))

lacks_sign : (t : Test) (sign : Bool) → is_imposed t sign ≡ false → sign ≡ false
lacks_sign test.BitDeterminant sign lacks = absurd (cc)
lacks_sign (test.ValueIsErr ps) sign lacks = lacks
lacks_sign (test.BitIsErr o m) sign lacks = absurd (cc)

-- what no value of the part has does not stand in bytes that show one
pub missing : (s : Shape) (v : Plain) (first : Bool) (at : SumLayout) (g : ByteMap) → IsSide s first at → Shows s v (seen_from (start_of at first) g)
    → is_imposed at.determinant.test (sign_of at first) ≡ false → test_holds at.determinant.test g ≡ sign_of at first
missing s v first at g side shown lacks = pick (two_truths (test_holds at.determinant.test g))
  where
    pick : (test_holds at.determinant.test g ≡ true) ⊎ (test_holds at.determinant.test g ≡ false) → test_holds at.determinant.test g ≡ sign_of at first
    pick (inl h) = absurd (side.forbids lacks v g h shown)
    pick (inr h) = h ∙ sym (lacks_sign at.determinant.test (sign_of at first) lacks)

pub variant_agree : (s : Shape) (v : Plain) (first : Bool) (at : SumLayout) (f g : ByteMap) → IsSide s first at
    → IsTest at.determinant.test at.size → AreBytes f → AreBytes g → Agree (side_holds s v first at) at.size f g
    → is_state_ok at.determinant f ≡ first → Shows s v (seen_from (start_of at first) g) → is_state_ok at.determinant g ≡ first
variant_agree s v first at f g is tested fb gb same state shown =
    sign_state at g first
    (keeps at.determinant.test at.size (sign_of at first) f g tested fb gb (state_sign at f first state)
    (λ imposed i k low small own. same i k low small
    (or_right (held_at (start_of at first) (size s) (λ j l. holds s v j l) i k) _ (and_both (is_imposed at.determinant.test (sign_of at first)) _ imposed own)))
    (missing s v first at g is shown))

first_agree : (gap : ℕ) (s : Shape) (fs : Shapes) (v : Plain) (vs : Plains) (f g : ByteMap)
    → Agree (λ i k. holds_in (field gap s fs) (more v vs) i k) (size_in (field gap s fs)) f g
    → Agree (λ i k. holds s v i k) (size s) (seen_from gap f) (seen_from gap g)
first_agree gap s fs v vs f g same i k low small held =
    let back : gap + i - gap ≡ i = omega arith in
    same (gap + i) k (omega arith) small
    (in_field (gap + i) gap (size s) false (holds s v (gap + i - gap) k) (holds_in fs vs (gap + i - (gap + size s)) k) (omega arith) (omega arith) ∙ rw back held)

rest_agree : (gap : ℕ) (s : Shape) (fs : Shapes) (v : Plain) (vs : Plains) (f g : ByteMap)
    → Agree (λ i k. holds_in (field gap s fs) (more v vs) i k) (size_in (field gap s fs)) f g
    → Agree (λ i k. holds_in fs vs i k) (size_in fs) (seen_from (gap + size s) f) (seen_from (gap + size s) g)
rest_agree gap s fs v vs f g same i k low small held =
    let back : gap + size s + i - (gap + size s) ≡ i = omega arith in
    same (gap + size s + i) k (omega arith) small
    (behind_field (gap + size s + i) gap (size s) false (holds s v (gap + size s + i - gap) k) (holds_in fs vs (gap + size s + i - (gap + size s)) k) (omega arith) ∙ rw back held)

pub from_bytes : (o : ℕ) (f : ByteMap) → AreBytes f → AreBytes (seen_from o f)
from_bytes o f b i = b (o + i)

-- fields lie within their whole
within_whole : (n m : ℕ) (held : ℕ → ℕ → Bool) (f g : ByteMap) → m ≤ n → Agree held n f g → Agree held m f g
within_whole n m held f g le same i k low small h = same i k (omega arith) small h

-- bytes that agree with bytes that show the value, at each bit that it holds, show it
mutual
  pub agree : (s : Shape) (v : Plain) (f g : ByteMap) → IsConsistent s → AreBytes f → AreBytes g
      → Agree (λ i k. holds s v i k) (size s) f g → Shows s v f → Shows s v g
  agree (atom a) v f g sound fb gb same h = atom_agree a v f g sound fb gb same h
  agree (fields compound n fs) (list vs) f g sound fb gb same h =
      agree_in fs vs f g sound.0 fb gb (within_whole n (size_in fs) (λ i k. holds_in fs vs i k) f g sound.1 same) h
  agree (sum names side at) (variant kind first v) f g sound fb gb same h =
      let start : ℕ = start_of at first in
      let is : IsSide (side first) first at = sound.1.each first in
      let inner : Shows (side first) v (seen_from start g) = agree (side first) v (seen_from start f) (seen_from start g) (sound.0 first) (from_bytes start f fb) (from_bytes start g gb)
      (side_agree (side first) v first at f g is.inside same) h.2 in
      (h.0, variant_agree (side first) v first at f g is sound.1.tested fb gb same h.1 inner, inner)
  agree _ _ f g sound fb gb same h = absurd h

  pub agree_in : (fs : Shapes) (vs : Plains) (f g : ByteMap) → AreConsistent fs → AreBytes f → AreBytes g
      → Agree (λ i k. holds_in fs vs i k) (size_in fs) f g → ShowIn fs vs f → ShowIn fs vs g
  agree_in last end f g sound fb gb same h = tt
  agree_in (field gap s fs) (more v vs) f g sound fb gb same h = (
    agree s v (seen_from gap f) (seen_from gap g) sound.0 (from_bytes gap f fb) (from_bytes gap g gb) (first_agree gap s fs v vs f g same) h.0,
    agree_in fs vs (seen_from (gap + size s) f) (seen_from (gap + size s) g) sound.1 (from_bytes (gap + size s) f fb) (from_bytes (gap + size s) g gb)
        (rest_agree gap s fs v vs f g same) h.1,
  )
  agree_in _ _ f g sound fb gb same h = absurd h

-- ---- and the converse: a value fixes all that it holds

moved_same : (s : Shape) (v : Plain) (shift : ℕ) (f g : ByteMap) → Agree (λ i k. holds s v i k) (size s) (seen_from shift f) (seen_from shift g)
    → (i k : ℕ) → k < 8 → held_at shift (size s) (λ j l. holds s v j l) i k ≡ true → bit_at (f i) k ≡ bit_at (g i) k
moved_same s v shift f g same i k small held =
    three_places i shift (size s)
    (λ h. let no_bit : false ≡ true = sym (in_gap i shift (size s) false (holds s v (i - shift) k) false h) ∙ held in absurd (cc))
    (λ h l. let there : shift + (i - shift) ≡ i = omega arith in
    rw there at (same (i - shift) k (omega arith) small (sym (in_field i shift (size s) false (holds s v (i - shift) k) false h l) ∙ held)))
    (λ h. let no_bit : false ≡ true = sym (behind_field i shift (size s) false (holds s v (i - shift) k) false h) ∙ held in absurd (cc))

variant_same : (s : Shape) (v : Plain) (first : Bool) (at : SumLayout) (f g : ByteMap) → IsTest at.determinant.test at.size
    → Agree (λ i k. holds s v i k) (size s) (seen_from (start_of at first) f) (seen_from (start_of at first) g)
    → is_state_ok at.determinant f ≡ first → is_state_ok at.determinant g ≡ first
    → (i k : ℕ) → k < 8 → side_holds s v first at i k ≡ true → bit_at (f i) k ≡ bit_at (g i) k
variant_same s v first at f g tested same hf hg i k small held =
    either_way (held_at (start_of at first) (size s) (λ j l. holds s v j l) i k) _ held
    (λ h. moved_same s v (start_of at first) f g same i k small h)
    (λ h. tested_same at.determinant.test at.size (sign_of at first) f g tested (state_sign at f first hf) (state_sign at g first hg)
    (and_first (is_imposed at.determinant.test (sign_of at first)) _ h) i k (and_second (is_imposed at.determinant.test (sign_of at first)) _ h))

mutual
  pub same_held : (s : Shape) (v : Plain) (f g : ByteMap) → IsConsistent s → Shows s v f → Shows s v g → Agree (λ i k. holds s v i k) (size s) f g
  same_held (atom a) v f g sound hf hg i k low small held = atom_same a v f g sound hf hg i k low small held
  same_held (fields compound n fs) (list vs) f g sound hf hg i k low small held = same_held_in fs vs f g sound.0 hf hg i k small held
  same_held (sum names side at) (variant kind first v) f g sound hf hg i k low small held =
      variant_same (side first) v first at f g sound.1.tested
      (λ j l x y z. same_held (side first) v (seen_from (start_of at first) f) (seen_from (start_of at first) g) (sound.0 first) hf.2 hg.2 j l x y z)
      hf.1 hg.1 i k small held
  same_held _ _ f g sound hf hg i k low small held = absurd hf

  pub same_held_in : (fs : Shapes) (vs : Plains) (f g : ByteMap) → AreConsistent fs → ShowIn fs vs f → ShowIn fs vs g
      → (i k : ℕ) → k < 8 → holds_in fs vs i k ≡ true → bit_at (f i) k ≡ bit_at (g i) k
  same_held_in last vs f g sound hf hg i k small held = absurd (cc)
  same_held_in (field gap s fs) end f g sound hf hg i k small held = absurd hf
  same_held_in (field gap s fs) (more v vs) f g sound hf hg i k small held =
      three_places i gap (size s)
      (λ h. let no_bit : false ≡ true = sym (in_gap i gap (size s) false (holds s v (i - gap) k) (holds_in fs vs (i - (gap + size s)) k) h) ∙ held in absurd (cc))
      (λ h l. let there : gap + (i - gap) ≡ i = omega arith in
      rw there at (same_held s v (seen_from gap f) (seen_from gap g) sound.0 hf.0 hg.0 (i - gap) k (omega arith) small
      (sym (in_field i gap (size s) false (holds s v (i - gap) k) (holds_in fs vs (i - (gap + size s)) k) h l) ∙ held)))
      (λ h. let there : gap + size s + (i - (gap + size s)) ≡ i = omega arith in
      rw there at (same_held_in fs vs (seen_from (gap + size s) f) (seen_from (gap + size s) g) sound.1 hf.1 hg.1 (i - (gap + size s)) k small
      (sym (behind_field i gap (size s) false (holds s v (i - gap) k) (holds_in fs vs (i - (gap + size s)) k) h) ∙ held)))
