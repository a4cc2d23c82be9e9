-- What a description says of edits is what its plan says.
use Rattle.std.specs.Prelude.{nat_lt}
use Rattle.std.proofs.Common.{◌≡◌, ℕ, zero, suc, ◌+◌, ◌-◌, ◌*◌, ◌<◌, ◌≤◌, ◌⊎◌, inl, inr, List, [], ◌∷◌, Bool, true, false, cond, Option, Some, None, refl, ap, ◌∙◌, sym, subst, arith}
use Rattle.std.proofs.lemmas.Bool.{cases_lt}
use Rattle.std.proofs.lemmas.Bool.Decides.{nat_tests}
use Rattle.abi_num.specs.Target.{same_bool}
use Rattle.abi_num.specs.declared.target.Target.{Target}
use Rattle.abi_det.specs.Offers.{Rules}
use Rattle.abi_layout.specs.Builders.{start_after}
use Rattle.abi_layout.specs.Frames.{written_frame, written_frames}
use Rattle.abi_layout.specs.Plans.{shape_of, shapes_of, sum_layout_of, core_layout}
use Rattle.abi_layout.specs.Shape.{size, repeated}
use Rattle.abi_layout.specs.Structs.{positions}
use Rattle.abi_layout.specs.Trees as trees
use Rattle.abi_layout.specs.Trees.{Tree, Branches, sides}
use Rattle.abi_layout.specs.declared.part.Sort.{Sort}
use Rattle.abi_layout.specs.declared.part.SumLayout.{SumLayout}
use Rattle.abi_pack.specs.ByteMap.{ByteMap, AreBytes, seen_from}
use Rattle.abi_pack.specs.Edits.{Entered, nothing, other_variant, part, variant_entered, in_variant, field_at, item_at, entered, fault_in, edit_fault, range_in, range_of, replaced, edited_in, edited}
use Rattle.abi_pack.specs.Plain.{Plain, Plains, list, variant, end, more}
use Rattle.abi_pack.specs.ShapeEdits.{Inner, field_named, side_named, named, is_in, is_there, fault_by, shape_fault, bytes_from, inner_range, shape_range, value_at, inner_value, edited_value}
use Rattle.abi_pack.specs.Shows as of_shape
use Rattle.abi_pack.specs.Values as of_tree
use Rattle.abi_pack.specs.declared.plan.EditError.TheVariants as error
use Rattle.abi_pack.specs.declared.step.Step.{Step}
use Rattle.abi_pack.specs.declared.step.Step.TheVariants as step
use Rattle.abi_pack.proofs.Agreed.{from_bytes}
use Rattle.abi_pack.proofs.Inners.{item_is, item_is_none}
use Rattle.abi_pack.proofs.TreeValues.{IsFormed, AreFormed, same_size, same_fits, same_shows, same_start, core_start, after_end, from_zero}

-- ---- one step

-- what a step enters in a description is what it names in the description's shape
abbrev IsEntered : Rules → Target → Plain → Step → ByteMap → Option Inner → Bool → Entered → Type 0
IsEntered rules target v s f found there nothing = found ≡ None
IsEntered rules target v s f found there other_variant = (inner : Inner) × (found ≡ Some inner) × (there ≡ false)
IsEntered rules target v s f found there (part t o w) =
    (found ≡ Some (record { part = shape_of rules target t; start = o })) × (there ≡ true) × IsFormed target t
    × of_tree.Shows rules target t w (seen_from o f) × (w ≡ inner_value v s)

own_payload : (kind : Sort) (first : Bool) (v : Plain) (s : Step) → v ≡ inner_value (variant kind first v) s
own_payload kind first v s = refl

module _ (rules : Rules) (target : Target) where
  field_entered : (before k : ℕ) (fs : Branches) (vs ws : Plains) (n : ℕ) (s : Step) (f : ByteMap) → before ≡ k → AreFormed target fs
      → of_tree.ShowIn rules target fs (positions before (written_frames rules target fs)) vs f → value_at vs n ≡ inner_value (list ws) s
      → IsEntered rules target (list ws) s f (field_named (shapes_of rules target before fs) n k) true
      (field_at fs (positions before (written_frames rules target fs)) vs n)
  field_entered before k trees.none end ws n s f e formed shown is = refl
  field_entered before k trees.none (more v vs) ws n s f e formed shown is = absurd shown
  field_entered before k (trees.field name t fs) end ws n s f e formed shown is = absurd shown
  field_entered before k (trees.field name t fs) (more v vs) ws zero s f e formed shown is =
      let start = start_after before (written_frame rules target t) in
      let le = after_end before (written_frame rules target t) in (
        ap (λ x. Some (record { part = shape_of rules target t; start = x })) (omega (arith, le, e)),
        refl,
        formed.0,
        shown.0,
        is,
      )
  field_entered before k (trees.field name t fs) (more v vs) ws (suc n) s f e formed shown is =
      let w = written_frame rules target t in
      let start = start_after before w in
      let le = after_end before w in
      let m : size (shape_of rules target t) ≡ w.size = same_size rules target t in
      field_entered (start + w.size) (k + (start - before) + size (shape_of rules target t)) fs vs ws n s f (omega (arith, le, e, m)) formed.1 shown.1 is

  -- item number n of those from number i on
  item_entered : (item : Tree) (len i n : ℕ) (vs ws : Plains) (s : Step) (f : ByteMap) → IsFormed target item → n < len
      → of_tree.ShowItems (λ v g. of_tree.Shows rules target item v g) (written_frame rules target item).size i len vs f → value_at vs n ≡ inner_value (list ws) s
      → (found : Option Inner) (o : ℕ) → o ≡ (i + n) * (written_frame rules target item).size → found ≡ Some (record { part = shape_of rules target item; start = o })
      → IsEntered rules target (list ws) s f found true (item_at item o vs n)
  item_entered item zero i n vs ws s f formed low shown is found o eo e = absurd (omega (arith, low))
  item_entered item (suc len) i n end ws s f formed low shown is found o eo e = absurd shown
  item_entered item (suc len) i zero (more v vs) ws s f formed low shown is found o eo e =
      let there : o ≡ i * (written_frame rules target item).size = eo ∙ ap (λ j. j * (written_frame rules target item).size) (omega arith) in
      (e, refl, formed, subst (λ x. of_tree.Shows rules target item v (seen_from x f)) (sym there) shown.0, is)
  item_entered item (suc len) i (suc n) (more v vs) ws s f formed low shown is found o eo e =
      item_entered item len (i + 1) n vs ws s f formed (omega (arith, low)) shown.1 is found o
      (eo ∙ ap (λ j. j * (written_frame rules target item).size) (omega arith)) e

  array_entered : (item : Tree) (len n : ℕ) (vs : Plains) (f : ByteMap) → IsFormed target item
      → of_tree.ShowItems (λ v g. of_tree.Shows rules target item v g) (written_frame rules target item).size 0 len vs f → (n < len) ⊎ (len ≤ n)
      → IsEntered rules target (list vs) (step.Item n) f (field_named (repeated len (shape_of rules target item)) n 0) true
      (cond (nat_lt n len) (item_at item (n * (written_frame rules target item).size) vs n) nothing)
  array_entered item len n vs f formed shown (inl low) =
      let inside : nat_lt n len ≡ true = grind (arith, nat_tests) in
      let o : ℕ = n * (written_frame rules target item).size in
      let found : field_named (repeated len (shape_of rules target item)) n 0 ≡ Some (record { part = shape_of rules target item; start = o }) =
      item_is len n (shape_of rules target item) 0 low
      ∙ ap (λ x. Some (record { part = shape_of rules target item; start = x })) (rw (same_size rules target item) (omega arith)) in
      rw inside (item_entered item len 0 n vs vs (step.Item n) f formed low shown refl _ o (ap (λ j. j * (written_frame rules target item).size) (omega arith)) found)
  array_entered item len n vs f formed shown (inr past) =
      let beside : nat_lt n len ≡ false = grind (arith, nat_tests) in rw beside (item_is_none len n (shape_of rules target item) 0 past)

  -- a sum whose variants start where its plan says
  variant_found : (side : Bool → Tree) (at : SumLayout) (kind : Sort) (first state : Bool) (v : Plain) (s : Step) (f : ByteMap) (start : Bool → ℕ) (wanted : Option Bool)
      → ((b : Bool) → start b ≡ of_shape.start_of at b) → state ≡ first → ((b : Bool) → IsFormed target (side b)) → of_tree.Shows rules target (side first) v (seen_from (start first) f)
      → v ≡ inner_value (variant kind first v) s
      → IsEntered rules target (variant kind first v) s f (side_named (sides (shape_of rules target (side true)) (shape_of rules target (side false))) at wanted) (is_in wanted state)
      (in_variant wanted first (part (side first) (start first) v))
  variant_found side at kind first state v s f start None starts e formed shown is = refl
  variant_found side at kind true state v s f start (Some true) starts e formed shown is =
      (ap (λ x. Some (record { part = shape_of rules target (side true); start = x })) (sym (starts true)), e, formed true, shown, is)
  variant_found side at kind false state v s f start (Some false) starts e formed shown is =
      (ap (λ x. Some (record { part = shape_of rules target (side false); start = x })) (sym (starts false)), ap (same_bool false) e, formed false, shown, is)
  variant_found side at kind true state v s f start (Some false) starts e formed shown is = (record { part = _; start = _ }, refl, ap (same_bool false) e)
  variant_found side at kind false state v s f start (Some true) starts e formed shown is = (record { part = _; start = _ }, refl, e)

  step_entered : (t : Tree) (v : Plain) (s : Step) (f : ByteMap) → IsFormed target t → AreBytes f → of_tree.Shows rules target t v f
      → IsEntered rules target v s f (named (shape_of rules target t) s) (is_there (shape_of rules target t) f s) (entered rules target t v s)
  step_entered (trees.prim p) v s f formed b shown = refl
  step_entered (trees.struct label fs align) (list vs) (step.Field n) f formed b shown =
      field_entered 0 0 fs vs vs n (step.Field n) f refl formed shown refl
  step_entered (trees.struct label fs align) (list vs) s f formed b shown = refl
  step_entered (trees.struct label fs align) v s f formed b shown = absurd shown
  step_entered (trees.array item len) (list vs) (step.Item n) f formed b shown = array_entered item len n vs f formed shown (cases_lt n len)
  step_entered (trees.array item len) (list vs) s f formed b shown = refl
  step_entered (trees.array item len) v s f formed b shown = absurd shown
  step_entered (trees.union side) v s f formed b shown = refl
  step_entered (trees.sum names side) (variant kind first v) s f formed b shown =
      let ok = written_frame rules target (side true) in
      let err = written_frame rules target (side false) in
      variant_found side (sum_layout_of rules ok err) kind first _ v s f (of_tree.variant_start (of_tree.placement_of rules target side)) (variant_entered names s)
      (same_start rules target side) shown.1 formed shown.2 (own_payload kind first v s)
  step_entered (trees.sum names side) v s f formed b shown = absurd shown
  step_entered (trees.core names side) (variant kind first v) s f formed b shown =
      let ok = written_frame rules target (side true) in
      let err = written_frame rules target (side false) in
      let as_plan = (same_shows rules target (trees.core names side) (variant kind first v) f formed b).0 shown in
      variant_found side (core_layout ok err) kind first _ v s f (λ _. 0) (variant_entered names s) (core_start ok err) as_plan.1 formed
      (subst (λ g. of_tree.Shows rules target (side first) v g) (sym (from_zero f)) shown.2) (own_payload kind first v s)
  step_entered (trees.core names side) v s f formed b shown = absurd shown
  step_entered (trees.wrap kind t) v s f formed b shown = step_entered t v s f formed b shown
  step_entered (trees.stable_if value condition) v s f formed b shown = step_entered value v s f formed b shown
  step_entered (trees.pointer kind t) v s f formed b shown = refl
  step_entered (trees.no_niches size align niches indirections) v s f formed b shown = refl
  step_entered (trees.leaf l) v s f formed b shown = refl

  -- ---- paths

  -- what a path does in a description is what it does in the shape
  pub record IsFollowed (t : Tree) (v : Plain) (f : ByteMap) (path : List Step) (w : Plain) : Type 0 where
    pub fault : edit_fault rules target t v path w ≡ shape_fault (shape_of rules target t) f path w
    pub range : edit_fault rules target t v path w ≡ None → range_of rules target t v path ≡ shape_range (shape_of rules target t) path
    pub value : edit_fault rules target t v path w ≡ None → edited rules target t v path w ≡ edited_value v path w

  step_followed : (t : Tree) (v : Plain) (f : ByteMap) (s : Step) (path : List Step) (w : Plain) (found : Option Inner) (there : Bool) (e : Entered)
      → IsEntered rules target v s f found there e
      → ((t' : Tree) (v' : Plain) (g : ByteMap) → IsFormed target t' → AreBytes g → of_tree.Shows rules target t' v' g → IsFollowed t' v' g path w) → AreBytes f
      → (fault_in (λ t' v'. edit_fault rules target t' v' path w) e ≡ fault_by found there (λ inner. shape_fault inner.part (seen_from inner.start f) path w))
      × (fault_in (λ t' v'. edit_fault rules target t' v' path w) e ≡ None
      → (range_in (λ t' v'. range_of rules target t' v' path) e ≡ inner_range (λ inner. shape_range inner.part path) found)
      × (edited_in (λ t' v'. edited rules target t' v' path w) e v ≡ edited_value (inner_value v s) path w))
  step_followed t v f s path w found there nothing is rest b = (rw is refl, λ none. absurd (cc))
  step_followed t v f s path w found there other_variant is rest b = (rw (is.1, is.2) refl, λ none. absurd (cc))
  step_followed t v f s path w found there (part t' o v') is rest b =
      let inner : IsFollowed t' v' (seen_from o f) path w = rest t' v' (seen_from o f) is.2 (from_bytes o f b) is.3 in (
        rw (is.0, is.1) inner.fault,
        λ none. (
          rw is.0 (ap (λ r. bytes_from (o + r.start) r.size) (inner.range none)),
          inner.value none ∙ ap (λ x. edited_value x path w) is.4,
        ),
      )

  pub followed : (path : List Step) (w : Plain) (t : Tree) (v : Plain) (f : ByteMap) → IsFormed target t → AreBytes f → of_tree.Shows rules target t v f → IsFollowed t v f path w
  followed [] w t v f formed b shown = record {
    fault = ap (λ (x : Bool). cond x None (Some error.WrongPart)) (same_fits rules target t w formed);
    range = λ none. ap (bytes_from 0) (sym (same_size rules target t));
    value = λ none. refl;
  }
  followed (s ∷ path) w t v f formed b shown =
      let is = step_followed t v f s path w (named (shape_of rules target t) s) (is_there (shape_of rules target t) f s) (entered rules target t v s)
      (step_entered t v s f formed b shown) (λ t' v' g. followed path w t' v' g) b in
      record {
        fault = is.0;
        range = λ none. (is.1 none).0;
        value = λ none. ap (replaced v s) (is.1 none).1;
      }
