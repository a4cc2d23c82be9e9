-- A list of items holds just its items, in order: so a type may hold itself through `Items`.
use mathlib.Core.Path.{◌≡◌, refl, sym}
use mathlib.Core.List.{List, []}
use mathlib.Core.Former.{Former, this, list, via, children}
use base.Stored.{code_map}
use denote.RattleType.{RattleType}
use denote.HoleLaws.{Alike}
use denote.HolePlaces.{Recodes, struct_places, laid}
use denote.Hole.Carrier.{listed, list-listed}
use denote.Hole.Fix.{over}
use denote.Param.Weighed.{Weighed, w_list}
use denote.Model.Placed.{view_places}
use Rattle.std.specs.formers.vec.Vec as vec
use Rattle.std.specs.declared.alloc.Global.{Global}
use Rattle.std.specs.contracts.alloc.Global as global
use Rattle.std.specs.contracts.impls.GlobalAllocator.TheImpl as allocator
use Rattle.abi_num.specs.declared.items.Items.TheInside.{Inside}
use Rattle.abi_num.specs.declared.items.Items.TheView.{view, invariant}
use Rattle.abi_num.specs.contracts.items.Items as outer
use Rattle.abi_num.specs.contracts.items.Items.TheInside as inner

abbrev pub the_former : Former {0} → Former {0}
the_former held = list held

abbrev pub the_weighed : {held : Former {0}} → Weighed held → Weighed (the_former held)
the_weighed weighed = w_list weighed

pub the_empty : List ⊥
the_empty = []

abbrev pub the_items : (X : Type 0) → List X → List X
the_items X xs = xs

pub the_items_listed : (X : Type 0) (xs : List X) → listed _ (children (the_former this) X xs) ≡ the_items X xs
the_items_listed X xs = list-listed X xs

-- the one field, a `Vec` over the global allocator
abbrev the_vec : Former {0}
the_vec = via (vec.the_former this Global) Inside (λ X it. it.items) (λ X v. record { items = v }) (λ X it. refl) (λ X v. refl)

module _ (From Into : RattleType) (change : From.Denot → Into.Denot) where
  pub the_places : Alike From Into change → Alike (outer.the_row From) (outer.the_row Into) ((the_former this).map From.Denot Into.Denot change)
  the_places alike = view_places the_vec (list this) view (λ X Y k u. refl) (λ X u. refl) From.Denot Into.Denot change
      (outer.the_row From).coded (outer.the_row Into).coded
      (invariant From.Denot) (invariant Into.Denot) (λ u p q. refl) (λ u p q. refl) (λ u e. tt) (λ u e. tt)
      (over (inner.the_row From)) (over (inner.the_row Into))
      (struct_places (inner.the_type From) (inner.the_type Into) (vec.mapped change, tt) _ (λ d. refl) refl
      (laid _ _ _ (vec.the_places global.the_row allocator.ghosts From Into change alike), tt))

  pub the_codes_placed : Recodes From Into change → Recodes (outer.the_row From) (outer.the_row Into) ((the_former this).map From.Denot Into.Denot change)
  the_codes_placed same d = sym (code_map From.coded.code Into.coded.code change (λ x. sym (same x)) d)
