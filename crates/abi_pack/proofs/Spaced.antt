-- What bytes show at places of one distance.
use Rattle.std.specs.Prelude.{nat_lt}
use Rattle.std.proofs.Common.{◌≡◌, ℕ, zero, suc, ◌+◌, ◌*◌, ◌-◌, ◌<◌, ◌≤◌, List, [], ◌∷◌, length, Bool, true, false, ◌&&◌, refl, ap, ◌∙◌, sym, arith}
use mathlib.Core.Path.{fun_ext}
use Rattle.std.proofs.lemmas.Bool.Decides.{nat_tests}
use Rattle.std.specs.declared.boxed.Box.{Box}
use Rattle.std.specs.declared.alloc.Global.{Global}
use Rattle.abi_det.specs.SoundPlacement.{IsTest}
use Rattle.abi_det.specs.declared.determinant.Test.{Test}
use Rattle.abi_det.specs.declared.determinant.Test.TheVariants as test
use Rattle.abi_layout.specs.Prims.{width_size, scalar_size}
use Rattle.abi_layout.specs.Shape.{Shape, Shapes, Atom, scalar, raw, atom_size, atom, fields, sum, last, field, size, size_in, repeated}
use Rattle.abi_layout.specs.declared.scalar.Scalar.{Scalar}
use Rattle.abi_layout.specs.declared.scalar.Scalar.TheVariants as scalars
use Rattle.abi_layout.specs.declared.scalar.Width.{Width}
use Rattle.abi_layout.specs.declared.scalar.Width.TheVariants as width
use Rattle.abi_layout.specs.declared.part.PartField.{PartField}
use Rattle.abi_layout.specs.declared.part.Part.{Part}
use Rattle.abi_layout.specs.declared.part.Part.TheVariants as part
use Rattle.abi_pack.specs.Atoms.{IsAtom, is_legal_atom}
use Rattle.abi_pack.specs.ByteMap.{ByteMap, seen_from}
use Rattle.abi_pack.specs.Consistent.{IsConsistent, AreConsistent}
use Rattle.abi_pack.specs.Scalars.{is_legal}
use Rattle.abi_pack.specs.ValueShown.{is_shown, is_shown_in, at_each}
use Rattle.abi_pack.specs.View.{shape, shapes}
use Rattle.abi_pack.proofs.Choice.{and_first}
use Rattle.abi_pack.proofs.Cleared.{solid_none}
use Rattle.abi_pack.proofs.Offsets.{from_from}
use Rattle.abi_pack.proofs.Nodes.{nodes}
use Rattle.abi_pack.proofs.Rows.{from_nothing, array_is, array_one, row_size, row_sound}
use Rattle.abi_pack.proofs.Steps.{struct_is}

-- ---- what is without bytes shows the same everywhere

some_width : (w : Width) → 0 < width_size w
some_width width.One = omega arith
some_width width.Two = omega arith
some_width width.Four = omega arith
some_width width.Eight = omega arith
some_width width.Sixteen = omega arith

scalar_byteless : (c : Scalar) (f g : ByteMap) → scalar_size c ≡ 0 → is_legal c f ≡ is_legal c g
scalar_byteless scalars.Unit f g none = refl
scalar_byteless scalars.Bool f g none = absurd (omega (arith, none))
scalar_byteless scalars.Order f g none = absurd (omega (arith, none))
scalar_byteless (scalars.Int i) f g none = let some = some_width i.width in absurd (omega (arith, none, some))

atom_byteless : (a : Atom) (f g : ByteMap) → IsAtom a → atom_size a ≡ 0 → is_legal_atom a f ≡ is_legal_atom a g
atom_byteless (scalar c) f g is none = scalar_byteless c f g none
atom_byteless (raw n free its) f g is none = solid_none n free f g its (λ i low clear. absurd (omega (arith, low, none))) is.1

-- a test looks at a byte
test_somewhere : (t : Test) (n : ℕ) → IsTest t n → 0 < n
test_somewhere test.BitDeterminant n is = is
test_somewhere (test.ValueIsErr []) n is = absurd (cc)
test_somewhere (test.ValueIsErr (p ∷ ps)) n is = let low : nat_lt p.0 n ≡ true = and_first (nat_lt p.0 n) _ is.1 in grind (arith, nat_tests)
test_somewhere (test.BitIsErr o m) n is = let low = is.0 in omega (arith, low)

mutual
  pub byteless : (s : Shape) (f g : ByteMap) → IsConsistent s → size s ≡ 0 → is_shown s f ≡ is_shown s g
  byteless (atom a) f g is none = atom_byteless a f g is none
  byteless (fields compound n fs) f g is none = all_byteless fs f g is.0 (let less = is.1 in omega (arith, less, none))
  byteless (sum names side at) f g is none =
      let some : 0 < at.size = test_somewhere at.determinant.test at.size is.1.tested in absurd (omega (arith, some, none))

  all_byteless : (fs : Shapes) (f g : ByteMap) → AreConsistent fs → size_in fs ≡ 0 → is_shown_in fs f ≡ is_shown_in fs g
  all_byteless last f g are none = refl
  all_byteless (field gap s fs) f g are none =
      let first = byteless s (seen_from gap f) (seen_from gap g) are.0 (omega (arith, none)) in
      let rest = all_byteless fs (seen_from (gap + size s) f) (seen_from (gap + size s) g) are.1 (omega (arith, none)) in
      rw (first, rest) refl

-- so it is enough to ask once
pub each_same : (n stride : ℕ) (is : ByteMap → Bool) (f : ByteMap) → 0 < n → ((g h : ByteMap) → is g ≡ is h) → is f ≡ at_each n stride is f
each_same zero stride is f some same = absurd (omega (arith, some))
each_same (suc n) stride is f some same = both (is f) (at_each n stride is (seen_from stride f)) (holds n (seen_from stride f))
  where
    holds : (n : ℕ) (g : ByteMap) → is f ≡ true → at_each n stride is g ≡ true
    holds zero g h = refl
    holds (suc n) g h = let here : is g ≡ true = same g f ∙ h in rw here (holds n (seen_from stride g) h)

    both : (p q : Bool) → (p ≡ true → q ≡ true) → p ≡ (p && q)
    both true q h = sym (h refl)
    both false q h = refl

pub each_byteless : (n stride : ℕ) (s : Shape) (f : ByteMap) → 0 < n → IsConsistent s → size s ≡ 0 → is_shown s f ≡ at_each n stride (is_shown s) f
each_byteless n stride s f some is none = each_same n stride (is_shown s) f some (λ g h. byteless s g h is none)

-- ---- fields: all places show all fields where all places show each

swapped : (f : ByteMap) (a b : ℕ) → seen_from b (seen_from a f) ≡ seen_from a (seen_from b f)
swapped f a b = fun_ext (λ i. ap f (omega arith))

both_of : (p q r s : Bool) → p ≡ r → q ≡ s → (p && q) ≡ (r && s)
both_of p q r s a b = rw (a, b) refl

exchanged : (p q r s t : Bool) → t ≡ (r && s) → ((p && q) && t) ≡ ((p && r) && (q && s))
exchanged true true r s t e = e
exchanged true false true s t e = refl
exchanged true false false s t e = refl
exchanged false q r s t e = refl

each_both : (n stride x y : ℕ) (p q : ByteMap → Bool) (f : ByteMap)
    → at_each n stride (λ g. p (seen_from x g) && q (seen_from y g)) f ≡ (at_each n stride p (seen_from x f) && at_each n stride q (seen_from y f))
each_both zero stride x y p q f = refl
each_both (suc n) stride x y p q f =
    exchanged (p (seen_from x f)) (q (seen_from y f)) (at_each n stride p (seen_from stride (seen_from x f))) (at_each n stride q (seen_from stride (seen_from y f))) _
    (each_both n stride x y p q (seen_from stride f)
    ∙ both_of _ _ _ _ (ap (at_each n stride p) (swapped f stride x)) (ap (at_each n stride q) (swapped f stride y)))

each_last : (n stride : ℕ) (f : ByteMap) → true ≡ at_each n stride (is_shown_in last) f
each_last zero stride f = refl
each_last (suc n) stride f = each_last n stride (seen_from stride f)

pub each_of_none : (n stride : ℕ) (all : List PartField) (f : ByteMap) → length all ≡ 0 → true ≡ at_each n stride (is_shown_in (shapes all)) f
each_of_none n stride [] f none = each_last n stride f
each_of_none n stride (one ∷ after) f none = absurd (cc)

pub each_field : (n stride : ℕ) (all after : List PartField) (one : PartField) (f : ByteMap) (o x y : ℕ) (p q : Bool) → all ≡ one ∷ after
    → x ≡ o + one.gap → y ≡ x + size (shape one.part) → p ≡ at_each n stride (is_shown (shape one.part)) (seen_from x f)
    → q ≡ at_each n stride (is_shown_in (shapes after)) (seen_from y f) → (p && q) ≡ at_each n stride (is_shown_in (shapes all)) (seen_from o f)
each_field n stride all after one f o x y p q e ex ey first rest =
    rw (e, first, rest, from_from f x o one.gap ex, from_from f y o (one.gap + size (shape one.part)) (omega arith))
    (sym (each_both n stride one.gap (one.gap + size (shape one.part)) (is_shown (shape one.part)) (is_shown_in (shapes after)) (seen_from o f)))

pub each_struct : (n stride : ℕ) (p : Part) (fs all : List PartField) (whole : ℕ) (f : ByteMap) (r : Bool) → p ≡ part.Struct all whole → fs ≡ all
    → r ≡ at_each n stride (is_shown_in (shapes fs)) f → r ≡ at_each n stride (is_shown (shape p)) f
each_struct n stride p fs all whole f r e same is = is ∙ sym (ap (λ s. at_each n stride (is_shown s) f) (struct_is p fs all whole e same))

-- ---- items: arrays in a row are one

pub each_row : (n : ℕ) (s : Shape) (f : ByteMap) → is_shown_in (repeated n s) f ≡ at_each n (size s) (is_shown s) f
each_row zero s f = refl
each_row (suc n) s f =
    let nothing : 0 + size s ≡ size s = omega arith in
    both_of _ _ _ _ (ap (is_shown s) (from_nothing f))
    (ap (λ o. is_shown_in (repeated n s) (seen_from o f)) nothing ∙ each_row n s (seen_from (size s) f))

each_more : (a b stride : ℕ) (is : ByteMap → Bool) (f : ByteMap) → at_each (a + b) stride is f ≡ (at_each a stride is f && at_each b stride is (seen_from (a * stride) f))
each_more zero b stride is f =
    let none : 0 + b ≡ b = omega arith in let nowhere : 0 * stride ≡ 0 = omega arith in
    ap (λ m. at_each m stride is f) none ∙ ap (at_each b stride is) (sym (from_nothing f)) ∙ ap (λ o. at_each b stride is (seen_from o f)) (sym nowhere)
each_more (suc a) b stride is f =
    let next : suc a + b ≡ suc (a + b) = omega arith in
    let there : suc a * stride ≡ stride + a * stride = grind arith in
    ap (λ m. at_each m stride is f) next ∙ ap (λ t. is f && t) (each_more a b stride is (seen_from stride f))
    ∙ grouped (is f) _ _
    ∙ ap (λ g. at_each (suc a) stride is f && at_each b stride is g) (sym (from_from f (suc a * stride) stride (a * stride) there))
  where
    grouped : (p q r : Bool) → (p && (q && r)) ≡ ((p && q) && r)
    grouped true q r = refl
    grouped false q r = refl

each_each : (n m stride : ℕ) (is : ByteMap → Bool) (f : ByteMap) → at_each n (m * stride) (at_each m stride is) f ≡ at_each (n * m) stride is f
each_each zero m stride is f = let none : 0 * m ≡ 0 = omega arith in ap (λ k. at_each k stride is f) (sym none)
each_each (suc n) m stride is f =
    let more_ : suc n * m ≡ m + n * m = grind arith in
    ap (λ t. at_each m stride is f && t) (each_each n m stride is (seen_from (m * stride) f))
    ∙ sym (ap (λ k. at_each k stride is f) more_ ∙ each_more m (n * m) stride is f)

pub each_array : (n stride step : ℕ) (p one : Part) (item : Box Part Global) (len whole : ℕ) (f : ByteMap) (r : Bool) → p ≡ part.Array item len whole → one ≡ item.value
    → step ≡ size (shape one) → stride ≡ step * len → r ≡ at_each (n * len) step (is_shown (shape one)) f → r ≡ at_each n stride (is_shown (shape p)) f
each_array n stride step p one item len whole f r e same is apart h =
    let s : Shape = shape one in
    let wide : stride ≡ len * size s = grind (arith, apart, is) in
    h ∙ ap (λ d. at_each (n * len) d (is_shown s) f) is ∙ sym (each_each n len (size s) (is_shown s) f)
    ∙ ap (λ q. at_each n (len * size s) q f) (fun_ext (λ g. sym (each_row len s g)))
    ∙ ap (λ d. at_each n d (is_shown_in (repeated len s)) f) (sym wide)
    ∙ sym (ap (λ t. at_each n stride (is_shown t) f) (array_is p one item len whole e same))

-- ---- one place after another

each_next : (n i stride : ℕ) (is : ByteMap → Bool) (f : ByteMap) (o y : ℕ) → i < n → y ≡ o + stride
    → at_each (n - i) stride is (seen_from o f) ≡ (is (seen_from o f) && at_each (n - (i + 1)) stride is (seen_from y f))
each_next n i stride is f o y h ey =
    let next : n - i ≡ suc (n - (i + 1)) = omega arith in
    ap (λ m. at_each m stride is (seen_from o f)) next
    ∙ ap (λ g. is (seen_from o f) && at_each (n - (i + 1)) stride is g) (sym (from_from f y o stride ey))

pub each_on : (n i stride : ℕ) (s : Shape) (f : ByteMap) (o y : ℕ) (r : Bool) → i < n → y ≡ o + stride → true ≡ is_shown s (seen_from o f)
    → at_each (n - i) stride (is_shown s) (seen_from o f) ≡ r → at_each (n - (i + 1)) stride (is_shown s) (seen_from y f) ≡ r
each_on n i stride s f o y r h ey one e = let next = each_next n i stride (is_shown s) f o y h ey in sym (rw (← one) at next) ∙ e

pub each_not : (n i stride : ℕ) (s : Shape) (f : ByteMap) (o : ℕ) (r : Bool) → i < n → false ≡ is_shown s (seen_from o f)
    → at_each (n - i) stride (is_shown s) (seen_from o f) ≡ r → false ≡ r
each_not n i stride s f o r h one e = let next = each_next n i stride (is_shown s) f o (o + stride) h refl in sym (rw (← one) at next) ∙ e

-- from one place to the next, and to the last
pub times_next : (n i stride : ℕ) → i < n → (n - i) * stride ≡ stride + (n - (i + 1)) * stride
times_next n i stride h = let next : n - i ≡ (n - (i + 1)) + 1 = omega arith in rw next (grind arith)

pub times_some : (n stride : ℕ) → 0 < n → stride ≤ n * stride
times_some zero stride h = absurd (omega (arith, h))
times_some (suc n) stride h = let next : suc n * stride ≡ stride + n * stride = grind arith in omega (arith, next)

-- ---- arrays that stand in a row, as one

turned_product : (a b : ℕ) → a * b ≡ b * a
turned_product a b = grind arith

pub array_room : (p one : Part) (item : Box Part Global) (len whole step : ℕ) → p ≡ part.Array item len whole → one ≡ item.value → step ≡ size (shape one)
    → IsConsistent (shape p) → step * len ≤ size (shape p)
array_room p one item len whole step e same is sound =
    let array = array_is p one item len whole e same in
    let less : size_in (repeated len (shape one)) ≤ whole = (rw array at sound).1 in
    let all : size (shape p) ≡ whole = ap size array in
    let row : size_in (repeated len (shape one)) ≡ len * size (shape one) = row_size len (shape one) in
    let turned : step * len ≡ len * size (shape one) = turned_product step len ∙ ap (λ n. len * n) is in
    omega (arith, less, all, row, turned)

-- n of them, of m bytes from an offset on
pub record IsOneRow (p one : Part) (n stride step len o m : ℕ) : Type 0 where
  pub fewer : nodes (shape one) < nodes (shape p)
  pub sound : IsConsistent (shape one)
  pub some : 0 < n * len
  pub few : n * len ≤ n * stride
  pub near : step ≤ stride
  pub within : o + n * len * step ≤ m

second_some : (a b : ℕ) → 0 < a * b → 0 < b
second_some a zero h = let none : a * 0 ≡ 0 = omega arith in absurd (omega (arith, h, none))
second_some a (suc b) h = omega arith

pub one_row : (n stride step o m : ℕ) (p one : Part) (item : Box Part Global) (len whole : ℕ) → p ≡ part.Array item len whole → one ≡ item.value
    → step ≡ size (shape one) → stride ≡ step * len → IsConsistent (shape p) → 0 < n → 0 < size (shape p) → size (shape p) ≤ stride
    → o + n * stride + size (shape p) ≤ m + stride → IsOneRow p one n stride step len o m
one_row n stride step o m p one item len whole e same is apart sound some some_bytes fits within =
    let room : step * len ≤ size (shape p) = array_room p one item len whole step e same is sound in
    let items : 0 < len = second_some step len (omega (arith, apart, some_bytes, fits)) in
    let turned = turned_product step len in
    let bytes : 0 < step = second_some len step (omega (arith, apart, some_bytes, fits, turned)) in
    let wide : n * len * step ≡ n * stride = rw apart (grind arith) in
    let much : n * len ≤ n * len * step = times_many (n * len) step bytes in
    let near_ : step ≤ step * len = times_many step len items in
    record {
      fewer = array_one p one item len whole e same items;
      sound = row_sound len (shape one) items (rw (array_is p one item len whole e same) at sound).0;
      some = product_some n len some items;
      few = omega (arith, much, wide);
      near = omega (arith, near_, apart);
      within = omega (arith, wide, within, room, apart);
    }
  where
    times_many : (a b : ℕ) → 0 < b → a ≤ a * b
    times_many a zero h = absurd (omega (arith, h))
    times_many a (suc b) h = let next : a * suc b ≡ a + a * b = grind arith in omega (arith, next)

    product_some : (a b : ℕ) → 0 < a → 0 < b → 0 < a * b
    product_some a b ha hb = let much = times_many a b hb in omega (arith, much, ha)
