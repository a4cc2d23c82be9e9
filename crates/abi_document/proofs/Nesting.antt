-- Parts of a tree nest fewer levels than the tree, so a count of levels above them refuses none.
use Rattle.std.specs.Prelude.{codes, option_and_then, option_map}
use Rattle.std.specs.Ordering.{match_ordering}
use Rattle.std.specs.Cmp.Lexicographic.{slice_cmp}
use Rattle.std.specs.Ordering.{nat_cmp}
use Rattle.std.proofs.Common.{◌≡◌, ℕ, zero, suc, ◌<◌, ◌≤◌, max, List, [], ◌∷◌, Bool, Option, Some, None, Ordering, Less, Equal, Greater, refl, sym, ap, arith}
use Rattle.std.proofs.Math.Nat.{le-max_left, le-max_right}
use Rattle.serde_json.specs.Data.{Data, null, boolean, number, string, array, object, Items, no_items, item, Members, no_members, member, depth, items_depth, members_depth}
use Rattle.serde_json.specs.Find.{get, get_member, as_array, as_object}
use Rattle.abi_layout.specs.Trees.{Tree}
use Rattle.abi_layout.specs.declared.part.Sort.{Sort}
use Rattle.abi_pack.specs.Plain.{Plain, list, variant}
use Rattle.abi_pack.specs.View.{plains_of}
use Rattle.abi_document.specs.Forms.{nested, by_name, by_key, only_one, sole_member, only_two, pair_of, all_of}
use Rattle.abi_document.specs.Descriptions as desc
use Rattle.abi_document.specs.Descriptions.{Rule, alone, one_sided, two_sided, array_rule, struct_rule, field_of, struct_of, array_of, pair_at, read_by, desc_step, desc_at}
use Rattle.abi_document.specs.Values as value
use Rattle.abi_document.specs.Values.{value_step, value_at}

-- ---- parts nest less

bound : {A B : Type 0} (found : Option A) (next : A → Option B) (b : B) → option_and_then next found ≡ Some b → (a : A) × (found ≡ Some a) × (next a ≡ Some b)
bound None next b is = absurd (cc)
bound (Some a) next b is = (a, refl, is)

chosen_below : (o : Ordering) (rest : Option Data) (x e : Data) (n : ℕ) → match_ordering o rest (Some x) rest ≡ Some e → (rest ≡ Some e → depth e ≤ n) → depth e ≤ max (depth x) n
chosen_below Less rest x e n is below = omega (arith, below is, le-max_right (depth x) n)
chosen_below Equal rest x e n is below = let same : x ≡ e = cc in rw (sym same) (le-max_left (depth x) n)
chosen_below Greater rest x e n is below = omega (arith, below is, le-max_right (depth x) n)

member_below : (key : List ℕ) (ms : Members) (e : Data) → get_member key ms ≡ Some e → depth e ≤ members_depth ms
member_below key no_members e is = absurd (cc)
member_below key (member l x ms) e is = chosen_below (slice_cmp nat_cmp key l) (get_member key ms) x e (members_depth ms) is (member_below key ms e)

get_below : (key : List ℕ) (d e : Data) → get key d ≡ Some e → depth e < depth d
get_below key null e is = absurd (cc)
get_below key (boolean b) e is = absurd (cc)
get_below key (number n) e is = absurd (cc)
get_below key (string s) e is = absurd (cc)
get_below key (array ds) e is = absurd (cc)
get_below key (object ms) e is = omega (arith, member_below key ms e is)

members_below : (d : Data) (ms : Members) → as_object d ≡ Some ms → members_depth ms < depth d
members_below null ms is = absurd (cc)
members_below (boolean b) ms is = absurd (cc)
members_below (number n) ms is = absurd (cc)
members_below (string s) ms is = absurd (cc)
members_below (array ds) ms is = absurd (cc)
members_below (object os) ms is = let same : os ≡ ms = cc in omega (arith, ap members_depth same)

one_below : (ms : Members) (m : List ℕ × Data) → only_one ms ≡ Some m → depth m.1 ≤ members_depth ms
one_below no_members m is = absurd (cc)
one_below (member key x no_members) m is = let same : (key, x) ≡ m = cc in omega (arith, ap (λ q. depth q.1) same, le-max_left (depth x) 0)
one_below (member key x (member l y ms)) m is = absurd (cc)

sole_below : (d : Data) (m : List ℕ × Data) → sole_member d ≡ Some m → depth m.1 < depth d
sole_below d m is =
    let found = bound (as_object d) only_one m is in
    omega (arith, members_below d found.0 found.1, one_below found.0 m found.2)

items_below : (d : Data) (ds : Items) → as_array d ≡ Some ds → items_depth ds < depth d
items_below null ds is = absurd (cc)
items_below (boolean b) ds is = absurd (cc)
items_below (number n) ds is = absurd (cc)
items_below (string s) ds is = absurd (cc)
items_below (array es) ds is = let same : es ≡ ds = cc in omega (arith, ap items_depth same)
items_below (object ms) ds is = absurd (cc)

two_below : (ds : Items) (p : Data × Data) → only_two ds ≡ Some p → (depth p.0 ≤ items_depth ds) × (depth p.1 ≤ items_depth ds)
two_below no_items p is = absurd (cc)
two_below (item a no_items) p is = absurd (cc)
two_below (item a (item b no_items)) p is =
    let same : (a, b) ≡ p = cc in (
      omega (arith, ap (λ q. depth q.0) same, le-max_left (depth a) (max (depth b) 0)),
      omega (arith, ap (λ q. depth q.1) same, le-max_right (depth a) (max (depth b) 0), le-max_left (depth b) 0),
    )
two_below (item a (item b (item c ds))) p is = absurd (cc)

pair_below : (d : Data) (p : Data × Data) → pair_of d ≡ Some p → (depth p.0 < depth d) × (depth p.1 < depth d)
pair_below d p is =
    let found = bound (as_array d) only_two p is in
    let less = items_below d found.0 found.1 in
    let both = two_below found.0 p found.2 in
    (omega (arith, less, both.0), omega (arith, less, both.1))

-- ---- readers that agree on what nests less

abbrev Agree : {A : Type 0} → (f g : Data → A) → ℕ → Type 0
Agree f g n = (e : Data) → depth e < n → f e ≡ g e

nested_same : {A : Type 0} (step : (Data → Option A) → Data → Option A) → ((f g : Data → Option A) (d : Data) → Agree f g (depth d) → step f d ≡ step g d)
    → (d : Data) (n m : ℕ) → depth d < n → depth d < m → nested step n d ≡ nested step m d
unfolding nested
nested_same step same d zero m a b = absurd (omega (arith, a))
nested_same step same d (suc n) zero a b = absurd (omega (arith, b))
nested_same step same d (suc n) (suc m) a b =
    same (nested step n) (nested step m) d (λ e lt. nested_same step same e n m (omega (arith, lt, a)) (omega (arith, lt, b)))

bind_same : {A B : Type 0} (found : Option A) (next other : A → Option B) → ((a : A) → found ≡ Some a → next a ≡ other a) → option_and_then next found ≡ option_and_then other found
bind_same None next other h = refl
bind_same (Some a) next other h = h a refl

all_same : {A : Type 0} (f g : Data → Option A) (ds : Items) → ((e : Data) → depth e ≤ items_depth ds → f e ≡ g e) → all_of f ds ≡ all_of g ds
all_same f g no_items h = refl
all_same f g (item d ds) h =
    let first : f d ≡ g d = h d (le-max_left (depth d) (items_depth ds)) in
    rw (first, all_same f g ds (λ e le. h e (omega (arith, le, le-max_right (depth d) (items_depth ds))))) refl

-- two tables have the same keys, and rules that agree on the content
abbrev AreAlike : {A : Type 0} → List (List ℕ × (Data → Option A)) → List (List ℕ × (Data → Option A)) → Data → Type 0
AreAlike [] [] d = Unit {0}
AreAlike [] (q ∷ qs) d = ⊥
AreAlike (p ∷ ps) [] d = ⊥
AreAlike (p ∷ ps) (q ∷ qs) d = ((p.0 ≡ q.0) × (p.1 d ≡ q.1 d)) × AreAlike ps qs d

keys_same : {A : Type 0} (ps qs : List (List ℕ × (Data → Option A))) (key : List ℕ) (d : Data) → AreAlike ps qs d → by_key ps key d ≡ by_key qs key d
keys_same [] [] key d h = refl
keys_same [] (q ∷ qs) key d h = absurd h
keys_same (p ∷ ps) [] key d h = absurd h
keys_same (p ∷ ps) (q ∷ qs) key d h = rw (h.0.0, h.0.1, keys_same ps qs key d h.1) refl

-- ---- descriptions

field_same : (f g : Data → Option Tree) (d : Data) → Agree f g (depth d) → field_of f d ≡ field_of g d
field_same f g d h =
    bind_same (pair_of d) _ _ (λ p is. let held : f p.1 ≡ g p.1 = h p.1 (pair_below d p is).1 in rw held refl)

struct_same : (f g : Data → Option Tree) (d : Data) → Agree f g (depth d) → struct_of f d ≡ struct_of g d
unfolding struct_of
struct_same f g d h =
    let fields : Option Items = option_and_then as_array (get (codes "fields") d) in
    let e : option_and_then (all_of (field_of f)) fields ≡ option_and_then (all_of (field_of g)) fields
    = bind_same fields (all_of (field_of f)) (all_of (field_of g)) (
    λ ds is. let found = bound (get (codes "fields") d) as_array ds is in
    let less = items_below found.0 ds found.2 in
    let below = get_below (codes "fields") d found.0 found.1 in
    all_same (field_of f) (field_of g) ds (λ x le. field_same f g x (λ y lt. h y (omega (arith, lt, le, less, below))))
    )
    in rw e refl

pair_same : (f g : Data → Option Tree) (d : Data) → Agree f g (depth d) → pair_at f d ≡ pair_at g d
pair_same f g d h =
    bind_same (pair_of d) _ _ (
    λ p is. let both = pair_below d p is in
    let first : f p.0 ≡ g p.0 = h p.0 both.0 in
    let second : f p.1 ≡ g p.1 = h p.1 both.1 in
    rw (first, second) refl
    )

array_same : (f g : Data → Option Tree) (d : Data) → Agree f g (depth d) → array_of f d ≡ array_of g d
array_same f g d h =
    bind_same (pair_of d) _ _ (λ p is. let held : f p.0 ≡ g p.0 = h p.0 (pair_below d p is).0 in rw held refl)

inside : (f g : Data → Option Tree) (d : Data) (n : ℕ) → Agree f g n → depth d < n → Agree f g (depth d)
inside f g d n h lt e less = h e (omega (arith, less, lt))

rule_same : (f g : Data → Option Tree) (r : Rule) (d : Data) (n : ℕ) → Agree f g n → depth d < n → read_by f r d ≡ read_by g r d
rule_same f g (alone read) d n h lt = refl
rule_same f g (one_sided make) d n h lt = ap (option_map make) (h d lt)
rule_same f g (two_sided make) d n h lt = ap (option_map (λ p. make p.0 p.1)) (pair_same f g d (inside f g d n h lt))
rule_same f g array_rule d n h lt = array_same f g d (inside f g d n h lt)
rule_same f g struct_rule d n h lt = struct_same f g d (inside f g d n h lt)

form_same : (f g : Data → Option Tree) (key : List ℕ) (d : Data) (n : ℕ) → Agree f g n → depth d < n → desc.form_of f key d ≡ desc.form_of g key d
unfolding desc.form_of
form_same f g key d n h lt = bind_same (by_name desc.forms key) _ _ (λ rule is. rule_same f g rule d n h lt)

step_same : (f g : Data → Option Tree) (d : Data) → Agree f g (depth d) → desc_step f d ≡ desc_step g d
unfolding desc_step
step_same f g null h = refl
step_same f g (boolean b) h = refl
step_same f g (number n) h = refl
step_same f g (string s) h = refl
step_same f g (array ds) h = refl
step_same f g (object ms) h =
    bind_same (sole_member (object ms)) _ _ (λ m is. form_same f g m.0 m.1 (depth (object ms)) h (sole_below (object ms) m is))

pub description_law : (d : Data) (n m : ℕ) → depth d < n → depth d < m → desc_at n d ≡ desc_at m d
description_law d n m a b = nested_same desc_step step_same d n m a b

-- ---- values

variant_same : (f g : Data → Option Plain) (key : List ℕ) (d : Data) → f d ≡ g d → value.form_of f key d ≡ value.form_of g key d
unfolding value.form_of
variant_same f g key d h =
    let same : (names : Sort) (first : Bool) → value.variant_of f names first d ≡ value.variant_of g names first d = λ names first. ap (option_map (variant names first)) h in
    keys_same (value.forms f) (value.forms g) key d (
      (refl, same _ _),
      ((refl, same _ _), ((refl, same _ _), ((refl, refl), tt))),
    )

value_same : (f g : Data → Option Plain) (d : Data) → Agree f g (depth d) → value_step f d ≡ value_step g d
unfolding value_step
value_same f g null h = refl
value_same f g (boolean b) h = refl
value_same f g (number n) h = refl
value_same f g (string s) h = refl
value_same f g (array ds) h = ap (option_map (λ vs. list (plains_of vs))) (all_same f g ds (λ e le. h e (omega (arith, le))))
value_same f g (object ms) h =
    bind_same (sole_member (object ms)) _ _ (λ m is. variant_same f g m.0 m.1 (h m.1 (sole_below (object ms) m is)))

pub value_law : (d : Data) (n m : ℕ) → depth d < n → depth d < m → value_at n d ≡ value_at m d
value_law d n m a b = nested_same value_step value_same d n m a b
