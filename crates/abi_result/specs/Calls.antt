-- What a clause says of a call of a value with a context in front of a reference.
use Rattle.std.specs.Prelude.{◌≡◌}
use Rattle.std.specs.Borrow.{Bor, MutBor}
use Rattle.std.specs.Fn.{Once}

-- f may be called once at ctx and at a `&` to x
abbrev pub TakesWith : {F I T R : Type 0} → Once F (I × (Bor T × Unit {0})) R → F → I → T → Type 0
TakesWith {F} {I} {T} g f ctx x = (p : Bor T) → p.now ≡ x → g.pre f (ctx, (p, tt))

-- and it may give r there
abbrev pub ReturnsWith : {F I T R : Type 0} → Once F (I × (Bor T × Unit {0})) R → F → I → T → R → Type 0
ReturnsWith {F} {I} {T} g f ctx x r = (p : Bor T) × g.post f (ctx, (p, tt)) r × (p.now ≡ x)

-- f may be called once at ctx and at a `&mut` to x
abbrev pub TakesWithMut : {F I T R : Type 0} → Once F (I × (MutBor T × Unit {0})) R → F → I → T → Type 0
TakesWithMut {F} {I} {T} g f ctx x = (p : MutBor T) → p.now ≡ x → g.pre f (ctx, (p, tt))

-- and it may give r there and leave x'
pub record ReturnsWithMut {F I T R : Type 0} (g : Once F (I × (MutBor T × Unit {0})) (R × (MutBor T × Unit {0})))
    (f : F) (ctx : I) (x : T) (r : R) (x' : T) : Type 0 where
  pub shown : MutBor T
  pub shows : shown.now ≡ x
  pub left : MutBor T
  pub met : g.post f (ctx, (shown, tt)) (r, (left, tt))
  pub leaves : left.now ≡ x'
