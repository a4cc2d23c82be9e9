-- What a description says of values and bytes is what its plan says.
use Rattle.std.specs.Prelude.{nat_lt}
use Rattle.std.specs.Int.{bit_at, bit_not, w8}
use Rattle.std.specs.List.{list_any}
use Rattle.std.proofs.Common.{◌≡◌, ◌↔◌, ℕ, zero, suc, ◌+◌, ◌-◌, ◌*◌, ◌<◌, ◌≤◌, List, [], Bool, true, false, cond, ◌&&◌, ◌||◌, not, ◌==◌, bit_and, refl, ap, ◌∙◌, sym, subst, arith}
use Rattle.std.proofs.lemmas.Grind.{and_numeral}
use Rattle.std.proofs.lemmas.Nat.Bits.{bit_at-zero}
use mathlib.Core.Path.{fun_ext}
use Rattle.abi_num.specs.Target.{same_bool}
use Rattle.abi_num.specs.declared.target.Target.{Target}
use Rattle.abi_bits.specs.Pairs.{Pair, is_matched}
use Rattle.abi_det.specs.Frame.{Frame}
use Rattle.abi_det.specs.Offers.{Rules}
use Rattle.abi_det.specs.Written.{written_sum}
use Rattle.abi_layout.specs.Builders.{start_after}
use Rattle.abi_layout.specs.CoreSums.{payload_first, absence}
use Rattle.abi_layout.specs.Forms.{form_of}
use Rattle.abi_layout.specs.Frames.{written_frame, written_frames, wrapped}
use Rattle.abi_layout.specs.Leaves.{leaf_frame}
use Rattle.abi_layout.specs.Plans.{shape_of, shapes_of, sum_layout_of, core_layout}
use Rattle.abi_layout.specs.Prims.{scalar_size, scalar_of, pointer_row, row_frame, is_form}
use Rattle.abi_layout.specs.Shape.{Shape, atom, raw, repeated, size}
use Rattle.abi_layout.specs.Structs.{positions}
use Rattle.abi_layout.specs.Trees as trees
use Rattle.abi_layout.specs.Trees.{Tree, Branches, sides}
use Rattle.abi_layout.specs.declared.desc.WrapKind.{WrapKind}
use Rattle.abi_layout.specs.declared.desc.WrapKind.TheVariants as wrapper
use Rattle.abi_layout.specs.declared.primitives.Row.{Row}
use Rattle.abi_pack.specs.ByteMap.{ByteMap, AreBytes, seen_from, firsts}
use Rattle.abi_pack.specs.Plain.{Plain, Plains, bytes as bytes_as_they_stand, list, variant, end, more}
use Rattle.abi_pack.specs.Raw.{are_bytes_of, are_raw, cleared}
use Rattle.abi_pack.specs.Shows as shape
use Rattle.abi_pack.specs.Values as tree
use Rattle.abi_pack.specs.Variants.{truth_of, held_at, holds_test}
use Rattle.abi_pack.proofs.Agreed.{from_bytes}
use Rattle.abi_pack.proofs.Choice.{in_gap, in_field, behind_field, three_places}
use Rattle.abi_pack.proofs.PrimValues.{prim_fits, prim_shows, row_scalar, pointer_scalar}

-- each integer that a restricted primitive leaves out is one of its kind
abbrev mutual
  pub IsFormed : Target → Tree → Type 0
  IsFormed target (trees.prim p) = is_form target (form_of p) ≡ true
  IsFormed target (trees.struct label fs align) = AreFormed target fs
  IsFormed target (trees.array item len) = IsFormed target item
  IsFormed target (trees.sum names side) = (first : Bool) → IsFormed target (side first)
  IsFormed target (trees.core names side) = (first : Bool) → IsFormed target (side first)
  IsFormed target (trees.wrap kind t) = IsFormed target t
  IsFormed target (trees.stable_if value condition) = IsFormed target value
  IsFormed target _ = Unit {0}

  pub AreFormed : Target → Branches → Type 0
  AreFormed target trees.none = Unit {0}
  AreFormed target (trees.field name t fs) = IsFormed target t × AreFormed target fs

-- ---- sizes

sum_size : (rules : Rules) (f g : Frame) → (sum_layout_of rules f g).size ≡ (written_sum rules f g).size
unfolding written_sum
sum_size rules f g = refl

row_size : (r : Row) → scalar_size r.scalar ≡ (row_frame r).size
unfolding row_frame
row_size r = refl

wrapped_size : (kind : WrapKind) (f : Frame) → f.size ≡ (wrapped kind f).size
wrapped_size wrapper.ManuallyDrop f = refl
wrapped_size wrapper.MaybeUninit f = refl
wrapped_size wrapper.UnsafeCell f = refl
wrapped_size wrapper.Pin f = refl
wrapped_size wrapper.NotPod f = refl
wrapped_size wrapper.OrInfallible f = refl

pub same_size : (rules : Rules) (target : Target) (t : Tree) → size (shape_of rules target t) ≡ (written_frame rules target t).size
unfolding leaf_frame
same_size rules target (trees.prim p) = row_size _
same_size rules target (trees.struct label fs align) = refl
same_size rules target (trees.array item len) = refl
same_size rules target (trees.union side) = refl
same_size rules target (trees.sum names side) = sum_size rules (written_frame rules target (side true)) (written_frame rules target (side false))
same_size rules target (trees.core names side) = refl
same_size rules target (trees.wrap kind t) = same_size rules target t ∙ wrapped_size kind (written_frame rules target t)
same_size rules target (trees.stable_if value condition) = same_size rules target value
same_size rules target (trees.pointer kind t) = row_size (pointer_row target kind)
same_size rules target (trees.no_niches size align niches indirections) = refl
same_size rules target (trees.leaf l) = refl

-- a variant's shape is the plan of what it holds
pub planned_side : (rules : Rules) (target : Target) (side : Bool → Tree) (first : Bool)
    → shape_of rules target (side first) ≡ sides (shape_of rules target (side true)) (shape_of rules target (side false)) first
planned_side rules target side true = refl
planned_side rules target side false = refl

pub same_start : (rules : Rules) (target : Target) (side : Bool → Tree) (first : Bool)
    → tree.variant_start (tree.placement_of rules target side) first
    ≡ shape.start_of (sum_layout_of rules (written_frame rules target (side true)) (written_frame rules target (side false))) first
same_start rules target side true = refl
same_start rules target side false = refl

-- both variants of a core sum stand at its start
pub core_start : (ok err : Frame) (first : Bool) → 0 ≡ shape.start_of (core_layout ok err) first
core_start ok err true = refl
core_start ok err false = refl

pub after_end : (before : ℕ) (f : Frame) → before ≤ start_after before f
after_end before f = omega arith

-- ---- which values

-- bytes without free bits or forbidden items
raw_fits : (n : ℕ) (xs : List ℕ) → are_bytes_of n xs ≡ are_raw n [] [] xs
raw_fits n xs = kept (are_bytes_of n xs) where
  kept : (b : Bool) → b ≡ (b && true && true)
  kept true = refl
  kept false = refl

items_fit : (n : ℕ) (s : Shape) (fit : Plain → Bool) → ((v : Plain) → fit v ≡ shape.fits s v) → (vs : Plains)
    → tree.fit_items fit n vs ≡ shape.fits_in (repeated n s) vs
items_fit zero s fit h end = refl
items_fit zero s fit h (more v vs) = refl
items_fit (suc n) s fit h end = refl
items_fit (suc n) s fit h (more v vs) = rw (h v, items_fit n s fit h vs) refl

side_fits : (rules : Rules) (target : Target) (side : Bool → Tree) (first same : Bool) (v : Plain)
    → tree.fits rules target (side first) v ≡ shape.fits (shape_of rules target (side first)) v
    → (same && tree.fits rules target (side first) v)
    ≡ (same && shape.fits (sides (shape_of rules target (side true)) (shape_of rules target (side false)) first) v)
side_fits rules target side first same v h = ap (λ b. same && b) (h ∙ ap (λ s. shape.fits s v) (planned_side rules target side first))

mutual
  pub same_fits : (rules : Rules) (target : Target) (t : Tree) (v : Plain) → IsFormed target t → tree.fits rules target t v ≡ shape.fits (shape_of rules target t) v
  same_fits rules target (trees.prim p) v formed = prim_fits (scalar_of target p) v (row_scalar target (form_of p) formed)
  same_fits rules target (trees.struct label fs align) (list vs) formed = same_fits_in rules target 0 fs vs formed
  same_fits rules target (trees.array item len) (list vs) formed =
      items_fit len (shape_of rules target item) (λ v. tree.fits rules target item v) (λ v. same_fits rules target item v formed) vs
  same_fits rules target (trees.union side) (bytes_as_they_stand xs) formed = raw_fits (written_frame rules target (trees.union side)).size xs
  same_fits rules target (trees.sum names side) (variant kind first v) formed =
      side_fits rules target side first (shape.same_sort names kind) v (same_fits rules target (side first) v (formed first))
  same_fits rules target (trees.core names side) (variant kind first v) formed =
      side_fits rules target side first (shape.same_sort names kind) v (same_fits rules target (side first) v (formed first))
  same_fits rules target (trees.wrap kind t) v formed = same_fits rules target t v formed
  same_fits rules target (trees.stable_if value condition) v formed = same_fits rules target value v formed
  same_fits rules target (trees.pointer kind t) v formed = prim_fits (pointer_row target kind).scalar v (pointer_scalar target kind)
  same_fits rules target (trees.no_niches size align niches indirections) (bytes_as_they_stand xs) formed = raw_fits size xs
  same_fits rules target _ _ formed = refl

  same_fits_in : (rules : Rules) (target : Target) (before : ℕ) (fs : Branches) (vs : Plains) → AreFormed target fs
      → tree.fits_in rules target fs vs ≡ shape.fits_in (shapes_of rules target before fs) vs
  same_fits_in rules target before (trees.field name t fs) (more v vs) formed =
      let f = written_frame rules target t in
      let here : tree.fits rules target t v ≡ shape.fits (shape_of rules target t) v = same_fits rules target t v formed.0 in
      let rest = same_fits_in rules target (start_after before f + f.size) fs vs formed.1 in
      rw (here, rest) refl
  same_fits_in rules target before _ _ formed = refl

-- ---- which bytes

later : (before x y : ℕ) (f g : ByteMap) → ((i : ℕ) → g i ≡ f (before + i)) → x ≡ before + y → (i : ℕ) → g (y + i) ≡ f (x + i)
later before x y f g e same i = e (y + i) ∙ ap f (omega arith)

pub moved : (before x y : ℕ) (f g : ByteMap) → ((i : ℕ) → g i ≡ f (before + i)) → x ≡ before + y → seen_from x f ≡ seen_from y g
moved before x y f g e same = fun_ext (λ i. sym (later before x y f g e same i))

pub from_zero : (f : ByteMap) → seen_from 0 f ≡ f
from_zero f = fun_ext (λ i. ap f (omega arith))

both : {A B C D : Type 0} → (A ↔ C) → (B ↔ D) → (A × B) ↔ (C × D)
both p q = (λ h. (p.0 h.0, q.0 h.1), λ h. (p.1 h.0, q.1 h.1))

third : {A B C D E : Type 0} → (B ↔ E) → (C ↔ D) → (A × B × C) ↔ (A × E × D)
third p q = (λ h. (h.0, p.0 h.1, q.0 h.2), λ h. (h.0, p.1 h.1, q.1 h.2))

alike : {A : Type 0} → A ↔ A
alike = (λ h. h, λ h. h)

-- without free bits, what is cleared is what stands there
nothing_cleared : (n : ℕ) (f : ByteMap) → AreBytes f → firsts n f ≡ cleared [] n f
nothing_cleared n f bytes = ap (firsts n) (fun_ext (λ i. sym (whole (f i) (bytes i)))) where
  whole : (x : ℕ) → x < 256 → bit_and x (bit_not w8 0) ≡ x
  whole x h = and_numeral x 254 refl ∙ omega (arith, h)

raw_shows : (n : ℕ) (xs : List ℕ) (f : ByteMap) → AreBytes f → (xs ≡ firsts n f) ↔ shape.Shows (atom (raw n [] [])) (bytes_as_they_stand xs) f
raw_shows n xs f bytes = (λ h. (refl, h ∙ nothing_cleared n f bytes), λ h. h.1 ∙ sym (nothing_cleared n f bytes))

-- a shape that shows a value in these bytes, named in other ways
shown_as : {T : Type 0} (s r : Shape) (v : Plain) (g h : ByteMap) → s ≡ r → g ≡ h → (T ↔ shape.Shows s v g) → T ↔ shape.Shows r v h
shown_as {T} s r v g h es eg p = subst (λ q. T ↔ shape.Shows q v h) es (subst (λ x. T ↔ shape.Shows s v x) eg p)

items_shown : (n i m : ℕ) (s : Shape) (Show : Plain → ByteMap → Type 0) (vs : Plains) (f g : ByteMap)
    → ((v : Plain) (h : ByteMap) → AreBytes h → Show v h ↔ shape.Shows s v h) → size s ≡ m → ((j : ℕ) → g j ≡ f (i * m + j)) → AreBytes f
    → tree.ShowItems Show m i n vs f ↔ shape.ShowIn (repeated n s) vs g
items_shown zero i m s Show end f g h e same bytes = (λ _. tt, λ _. tt)
items_shown zero i m s Show (more v vs) f g h e same bytes = (λ x. absurd x, λ x. absurd x)
items_shown (suc n) i m s Show end f g h e same bytes = (λ x. absurd x, λ x. absurd x)
items_shown (suc n) i m s Show (more v vs) f g h e same bytes =
    both
    (shown_as s s v (seen_from (i * m) f) (seen_from 0 g) refl (moved (i * m) (i * m) 0 f g same (omega arith)) (h v (seen_from (i * m) f) (from_bytes (i * m) f bytes)))
    (items_shown n (i + 1) m s Show vs f (seen_from (0 + size s) g) h e (λ j. later (i * m) ((i + 1) * m) (0 + size s) f g same (omega (arith, e)) j) bytes)

-- the state of a core sum is that of a test for what the payload never is
pub same_state : (first matched : Bool) → cond matched (not first) first ≡ cond (not first) matched (not matched)
same_state true true = refl
same_state true false = refl
same_state false true = refl
same_state false false = refl

state_is : {b c first : Bool} → b ≡ c → (b ≡ first) ↔ (c ≡ first)
state_is e = (λ h. sym e ∙ h, λ h. e ∙ h)

mutual
  pub same_shows : (rules : Rules) (target : Target) (t : Tree) (v : Plain) (f : ByteMap) → IsFormed target t → AreBytes f
      → tree.Shows rules target t v f ↔ shape.Shows (shape_of rules target t) v f
  same_shows rules target (trees.prim p) v f formed bytes = prim_shows (scalar_of target p) v f (row_scalar target (form_of p) formed) bytes
  same_shows rules target (trees.struct label fs align) (list vs) f formed bytes =
      same_shows_in rules target 0 fs vs f f (λ i. ap f (omega arith)) formed bytes
  same_shows rules target (trees.array item len) (list vs) f formed bytes =
      items_shown len 0 (written_frame rules target item).size (shape_of rules target item) (λ v g. tree.Shows rules target item v g) vs f f
      (λ v g b. same_shows rules target item v g formed b) (same_size rules target item) (λ j. ap f (omega arith)) bytes
  same_shows rules target (trees.union side) (bytes_as_they_stand xs) f formed bytes = raw_shows (written_frame rules target (trees.union side)).size xs f bytes
  same_shows rules target (trees.sum names side) (variant kind first v) f formed bytes =
      let o : ℕ = tree.variant_start (tree.placement_of rules target side) first in
      third alike
      (shown_as (shape_of rules target (side first)) (sides (shape_of rules target (side true)) (shape_of rules target (side false)) first) v (seen_from o f) _
      (planned_side rules target side first) (ap (λ x. seen_from x f) (same_start rules target side first))
      (same_shows rules target (side first) v (seen_from o f) (formed first) (from_bytes o f bytes)))
  same_shows rules target (trees.core names side) (variant kind first v) f formed bytes =
      let ok = written_frame rules target (side true) in
      let err = written_frame rules target (side false) in
      third (state_is (same_state (payload_first ok err) (is_matched (absence ok err) f)))
      (shown_as (shape_of rules target (side first)) (sides (shape_of rules target (side true)) (shape_of rules target (side false)) first) v f _
      (planned_side rules target side first) (sym (from_zero f) ∙ ap (λ x. seen_from x f) (core_start ok err first))
      (same_shows rules target (side first) v f (formed first) bytes))
  same_shows rules target (trees.wrap kind t) v f formed bytes = same_shows rules target t v f formed bytes
  same_shows rules target (trees.stable_if value condition) v f formed bytes = same_shows rules target value v f formed bytes
  same_shows rules target (trees.pointer kind t) v f formed bytes = prim_shows (pointer_row target kind).scalar v f (pointer_scalar target kind) bytes
  same_shows rules target (trees.no_niches size align niches indirections) (bytes_as_they_stand xs) f formed bytes = raw_shows size xs f bytes
  same_shows rules target (trees.leaf l) (bytes_as_they_stand xs) f formed bytes = alike
  same_shows rules target _ _ f formed bytes = (λ h. absurd h, λ h. absurd h)

  same_shows_in : (rules : Rules) (target : Target) (before : ℕ) (fs : Branches) (vs : Plains) (f g : ByteMap) → ((i : ℕ) → g i ≡ f (before + i)) → AreFormed target fs → AreBytes f
      → tree.ShowIn rules target fs (positions before (written_frames rules target fs)) vs f ↔ shape.ShowIn (shapes_of rules target before fs) vs g
  same_shows_in rules target before trees.none end f g e formed bytes = (λ h. tt, λ h. tt)
  same_shows_in rules target before (trees.field name t fs) (more v vs) f g e formed bytes =
      let w = written_frame rules target t in
      let start = start_after before w in
      let gap : ℕ = start - before in
      let s : Shape = shape_of rules target t in
      let le = after_end before w in
      let n : size s ≡ w.size = same_size rules target t in
      both
      (shown_as s s v (seen_from start f) (seen_from gap g) refl (moved before start gap f g e (omega (arith, le)))
      (same_shows rules target t v (seen_from start f) formed.0 (from_bytes start f bytes)))
      (same_shows_in rules target (start + w.size) fs vs f (seen_from (gap + size s) g) (λ i. later before (start + w.size) (gap + size s) f g e (omega (arith, le, n)) i) formed.1 bytes)
  same_shows_in rules target before _ _ f g e formed bytes = (λ h. absurd h, λ h. absurd h)

-- ---- which bits

held_same : (o n m : ℕ) (H G : ℕ → ℕ → Bool) → n ≡ m → ((j l : ℕ) → H j l ≡ G j l) → (i k : ℕ) → held_at o m H i k ≡ held_at o n G i k
held_same o n m H G e h i k = rw (e, h (i - o) k) refl

or_none : (b : Bool) → (b || false) ≡ b
or_none true = refl
or_none false = refl

raw_holds : (n i k : ℕ) (v : Plain) → nat_lt i n ≡ shape.holds (atom (raw n [] [])) v i k
raw_holds n i k v = let none : (bit_at 0 k == 1) ≡ false = rw (bit_at-zero k) refl in rw none (whole (nat_lt i n)) where
  whole : (b : Bool) → b ≡ (b && true)
  whole true = refl
  whole false = refl

-- a field of n bytes at `start`, behind a gap, with what is held before it and behind it
held_step : (s : Shape) (v : Plain) (H : ℕ → ℕ → Bool) (start n gap at i k : ℕ) (next rest : Bool) → size s ≡ n → at + gap ≡ start + i
    → ((j l : ℕ) → H j l ≡ shape.holds s v j l) → (at < start + n → next ≡ false) → (start + n ≤ at → next ≡ rest)
    → (held_at start n H at k || next) ≡ cond (nat_lt i gap) false (cond (nat_lt i (gap + size s)) (shape.holds s v (i - gap) k) rest)
held_step s v H start n gap at i k next rest e place h none same =
    let own : Bool = H (at - start) k in
    let here : Bool = shape.holds s v (i - gap) k in
    three_places i gap (size s)
    (λ lt. rw (in_gap at start n false own false (omega (arith, place)), in_gap i gap (size s) false here rest lt) (none (omega (arith, place))))
    (λ le lt.
    let inner : own ≡ here = (let o : at - start ≡ i - gap = omega (arith, place) in rw o (h (i - gap) k)) in
    let empty : next ≡ false = none (omega (arith, place, e)) in
    rw (in_field at start n false own false (omega (arith, place)) (omega (arith, place, e)), in_field i gap (size s) false here rest le lt, empty, inner) (or_none here))
    (λ le. rw (behind_field at start n false own false (omega (arith, place, e)), behind_field i gap (size s) false here rest le) (same (omega (arith, place, e))))

-- no field holds a bit before the first
fields_before : (rules : Rules) (target : Target) (before : ℕ) (fs : Branches) (vs : Plains) (at k : ℕ) → at < before
    → tree.holds_in rules target fs (positions before (written_frames rules target fs)) vs at k ≡ false
fields_before rules target before (trees.field name t fs) (more v vs) at k h =
    let w = written_frame rules target t in
    let start = start_after before w in
    let le = after_end before w in
    let here : held_at start w.size (λ j l. tree.holds rules target t v j l) at k ≡ false =
    in_gap at start w.size false (tree.holds rules target t v (at - start) k) false (omega (arith, le)) in
    let rest : tree.holds_in rules target fs (positions (start + w.size) (written_frames rules target fs)) vs at k ≡ false =
    fields_before rules target (start + w.size) fs vs at k (omega (arith, le)) in
    rw (here, rest) refl
fields_before rules target before _ _ at k h = refl

items_before : (n i m : ℕ) (held : Plain → ℕ → ℕ → Bool) (vs : Plains) (at k : ℕ) → at < i * m → tree.held_items held m i n vs at k ≡ false
items_before zero i m held end at k h = refl
items_before zero i m held (more v vs) at k h = refl
items_before (suc n) i m held end at k h = refl
items_before (suc n) i m held (more v vs) at k h =
    let here : held_at (i * m) m (λ j l. held v j l) at k ≡ false = in_gap at (i * m) m false (held v (at - i * m) k) false h in
    let rest : tree.held_items held m (i + 1) n vs at k ≡ false = items_before n (i + 1) m held vs at k (omega arith) in
    rw (here, rest) refl

items_held : (n i m : ℕ) (s : Shape) (held : Plain → ℕ → ℕ → Bool) (vs : Plains) (at j k : ℕ) → ((v : Plain) (x y : ℕ) → held v x y ≡ shape.holds s v x y)
    → size s ≡ m → at ≡ i * m + j → tree.held_items held m i n vs at k ≡ shape.holds_in (repeated n s) vs j k
items_held zero i m s held end at j k h e place = refl
items_held zero i m s held (more v vs) at j k h e place = refl
items_held (suc n) i m s held end at j k h e place = refl
items_held (suc n) i m s held (more v vs) at j k h e place =
    held_step s v (λ x y. held v x y) (i * m) m 0 at j k (tree.held_items held m (i + 1) n vs at k) (shape.holds_in (repeated n s) vs (j - (0 + size s)) k) e (omega (arith, place))
    (h v) (λ lt. items_before n (i + 1) m held vs at k (omega (arith, lt)))
    (λ le. items_held n (i + 1) m s held vs at (j - (0 + size s)) k h e (omega (arith, place, le, e)))

-- a variant that stands at o or x, with what its sum's test holds
side_holds : (s r : Shape) (v : Plain) (o x n : ℕ) (H : ℕ → ℕ → Bool) (tested test : Bool) → s ≡ r → o ≡ x → size s ≡ n → ((j l : ℕ) → H j l ≡ shape.holds s v j l) → tested ≡ test
    → (i k : ℕ) → (held_at o n H i k || tested) ≡ (held_at x (size r) (λ j l. shape.holds r v j l) i k || test)
side_holds s r v o x n H tested test es eo en h et i k =
    ap (λ b. b || tested) (held_same o (size s) n H (λ j l. shape.holds s v j l) en h i k)
    ∙ subst (λ q. (held_at o (size s) (λ j l. shape.holds s v j l) i k || tested) ≡ (held_at x (size q) (λ j l. shape.holds q v j l) i k || test)) es
    (ap (λ y. held_at y (size s) (λ j l. shape.holds s v j l) i k || tested) eo ∙ ap (λ b. held_at x (size s) (λ j l. shape.holds s v j l) i k || b) et)

-- the variant of a core sum that is not its payload holds the test
core_test : (ok err : Frame) (first : Bool) (i k : ℕ)
    → (not (same_bool first (payload_first ok err)) && list_any (λ (p : Pair). p.0 == i) (absence ok err)) ≡ holds_test (core_layout ok err).determinant first i k
core_test ok err first i k = ap (λ b. b && list_any (λ (p : Pair). p.0 == i) (absence ok err)) (other first (payload_first ok err)) where
  other : (first payload : Bool) → not (same_bool first payload) ≡ truth_of (record { «not» = not payload; test = (core_layout ok err).determinant.test }) first
  other true payload = refl
  other false payload = refl

mutual
  pub same_holds : (rules : Rules) (target : Target) (t : Tree) (v : Plain) (i k : ℕ) → tree.holds rules target t v i k ≡ shape.holds (shape_of rules target t) v i k
  same_holds rules target (trees.prim p) v i k = ap (λ n. nat_lt i n) (sym (same_size rules target (trees.prim p)))
  same_holds rules target (trees.struct label fs align) (list vs) i k = same_holds_in rules target 0 fs vs i i k (omega arith)
  same_holds rules target (trees.array item len) (list vs) i k =
      items_held len 0 (written_frame rules target item).size (shape_of rules target item) (λ v j l. tree.holds rules target item v j l) vs i i k
      (λ v j l. same_holds rules target item v j l) (same_size rules target item) (omega arith)
  same_holds rules target (trees.union side) v i k = raw_holds (written_frame rules target (trees.union side)).size i k v
  same_holds rules target (trees.sum names side) (variant kind first v) i k =
      let p = tree.placement_of rules target side in
      side_holds (shape_of rules target (side first)) (sides (shape_of rules target (side true)) (shape_of rules target (side false)) first) v
      (tree.variant_start p first) _ (written_frame rules target (side first)).size (λ j l. tree.holds rules target (side first) v j l)
      (holds_test p.determinant first i k) (holds_test p.determinant first i k)
      (planned_side rules target side first) (same_start rules target side first) (same_size rules target (side first))
      (λ j l. same_holds rules target (side first) v j l) refl i k
  same_holds rules target (trees.core names side) (variant kind first v) i k =
      let ok = written_frame rules target (side true) in
      let err = written_frame rules target (side false) in
      side_holds (shape_of rules target (side first)) (sides (shape_of rules target (side true)) (shape_of rules target (side false)) first) v
      0 _ (written_frame rules target (side first)).size (λ j l. tree.holds rules target (side first) v j l) _ _
      (planned_side rules target side first) (core_start ok err first) (same_size rules target (side first))
      (λ j l. same_holds rules target (side first) v j l) (core_test ok err first i k) i k
  same_holds rules target (trees.wrap kind t) v i k = same_holds rules target t v i k
  same_holds rules target (trees.stable_if value condition) v i k = same_holds rules target value v i k
  same_holds rules target (trees.pointer kind t) v i k = ap (λ n. nat_lt i n) (sym (same_size rules target (trees.pointer kind t)))
  same_holds rules target (trees.no_niches size align niches indirections) v i k = raw_holds size i k v
  same_holds rules target (trees.leaf l) v i k = refl
  same_holds rules target _ _ i k = refl

  same_holds_in : (rules : Rules) (target : Target) (before : ℕ) (fs : Branches) (vs : Plains) (at i k : ℕ) → at ≡ before + i
      → tree.holds_in rules target fs (positions before (written_frames rules target fs)) vs at k ≡ shape.holds_in (shapes_of rules target before fs) vs i k
  same_holds_in rules target before (trees.field name t fs) (more v vs) at i k e =
      let w = written_frame rules target t in
      let start = start_after before w in
      let gap : ℕ = start - before in
      let s : Shape = shape_of rules target t in
      let le = after_end before w in
      let n : size s ≡ w.size = same_size rules target t in
      held_step s v (λ j l. tree.holds rules target t v j l) start w.size gap at i k
      (tree.holds_in rules target fs (positions (start + w.size) (written_frames rules target fs)) vs at k)
      (shape.holds_in (shapes_of rules target (start + w.size) fs) vs (i - (gap + size s)) k) n (omega (arith, le, e)) (λ j l. same_holds rules target t v j l)
      (fields_before rules target (start + w.size) fs vs at k)
      (λ past. same_holds_in rules target (start + w.size) fs vs at (i - (gap + size s)) k (omega (arith, le, n, e, past)))
  same_holds_in rules target before _ _ at i k e = refl
