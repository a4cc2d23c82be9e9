-- What has no parts: what is written of a value shows it, and which bits decide what bytes show.
use Rattle.std.specs.Prelude.{nat_lt}
use Rattle.std.specs.List.{list_any}
use Rattle.std.specs.Int.{bit_at}
use Rattle.std.proofs.Common.{◌≡◌, ℕ, ◌<◌, List, length, get_or, Bool, true, false, not, ◌==◌, bit_and, refl, ap, ◌∙◌, sym, arith}
use Rattle.std.proofs.lemmas.Bool.Decides.{nat_tests}
use Rattle.std.proofs.lemmas.Nat.Bits.{bit_at-lt, bit_at-zero, bit_at_and}
use Rattle.abi_bits.specs.Mask.{mask_at}
use Rattle.abi_bits.specs.Forbidden.{Item, is_match}
use Rattle.abi_layout.specs.Prims.{scalar_size, scalar_items}
use Rattle.abi_layout.specs.Shape.{Atom, scalar, raw, atom_size}
use Rattle.abi_pack.specs.Agree.{Agree}
use Rattle.abi_pack.specs.Atoms.{has_value, atom_bytes, is_legal_atom, atom_shown, ShowsAtom, atom_holds, IsAtom}
use Rattle.abi_pack.specs.ByteMap.{ByteMap, AreBytes, bytes_of}
use Rattle.abi_pack.specs.Plain.{Plain, bytes}
use Rattle.abi_pack.specs.Raw.{cleared}
use Rattle.abi_pack.proofs.Cleared.{raw_is, raw_where, solid_none, agree_cleared, agree_solid, cleared_agree, clear_cleared, cleared_raw, raw_unheld}
use Rattle.abi_pack.proofs.Numbers.{AllBytes}
use Rattle.abi_pack.proofs.Stored.{stored_length, stored_small, shown_legal, shown_told, legal_shown, scalar_allowed}
use Rattle.abi_pack.proofs.Truths.{same_byte}

-- the bytes that no value has
abbrev pub atom_items : Atom → List Item
atom_items (scalar c) = scalar_items c
atom_items (raw n free its) = its

-- ---- what is written of a value

pub atom_length : (a : Atom) (v : Plain) → has_value a v ≡ true → length (atom_bytes a v) ≡ atom_size a
atom_length (scalar c) v fit = stored_length c v fit
atom_length (raw n free its) (bytes xs) fit = (raw_is n free its xs fit).long
atom_length (raw n free its) _ fit = absurd (cc)

pub atom_small : (a : Atom) (v : Plain) → has_value a v ≡ true → AllBytes (atom_bytes a v)
atom_small (scalar c) v fit i = stored_small c v fit i
atom_small (raw n free its) (bytes xs) fit i = (raw_is n free its xs fit).bytes i
atom_small (raw n free its) _ fit i = absurd (cc)

pub atom_canonical : (a : Atom) (v : Plain) → IsAtom a → has_value a v ≡ true → ShowsAtom a v (bytes_of (atom_bytes a v))
atom_canonical (scalar c) v is fit = record { value = fit; same = λ i h. refl }
atom_canonical (raw n free its) (bytes xs) is fit =
    let of = raw_is n free its xs fit in (of.legal, clear_cleared n free xs is.0 of.long of.bytes of.clear)
atom_canonical (raw n free its) _ is fit = absurd (cc)

no_free_bit : (x m k : ℕ) → bit_and x m ≡ 0 → (bit_at m k == 1) ≡ true → bit_at x k ≡ 0
no_free_bit x m k none free =
    let both = sym (bit_at_and x m k) ∙ ap (λ y. bit_at y k) none ∙ bit_at-zero k in
    let some : bit_at m k ≡ 1 = grind (arith, nat_tests) in let one = bit_at-lt x k in omega (arith, both, some, one)

-- every bit that is not held is 0
pub atom_clear : (a : Atom) (v : Plain) (i k : ℕ) → has_value a v ≡ true → i < atom_size a → k < 8 → atom_holds a i k ≡ false
    → bit_at (get_or (atom_bytes a v) i 0) k ≡ 0
atom_clear (scalar c) v i k fit low eight none = absurd (grind (arith, nat_tests))
atom_clear (raw n free its) (bytes xs) i k fit low eight none =
    no_free_bit (get_or xs i 0) (mask_at free i) k ((raw_is n free its xs fit).clear i) (raw_unheld n free i k low none)
atom_clear (raw n free its) _ i k fit low eight none = absurd (cc)

-- ---- what bytes show

pub shown_legal_atom : (a : Atom) (v : Plain) (f : ByteMap) → ShowsAtom a v f → is_legal_atom a f ≡ true
shown_legal_atom (scalar c) v f h = shown_legal c v f h
shown_legal_atom (raw n free its) (bytes xs) f h = h.0
shown_legal_atom (raw n free its) _ f h = absurd h

pub shown_is_atom : (a : Atom) (v : Plain) (f : ByteMap) → ShowsAtom a v f → v ≡ atom_shown a f
shown_is_atom (scalar c) v f h = shown_told c v f h
shown_is_atom (raw n free its) (bytes xs) f h = ap bytes h.1
shown_is_atom (raw n free its) _ f h = absurd h

pub legal_shown_atom : (a : Atom) (f : ByteMap) → AreBytes f → is_legal_atom a f ≡ true → ShowsAtom a (atom_shown a f) f
legal_shown_atom (scalar c) f b legal = legal_shown c f b legal
legal_shown_atom (raw n free its) f b legal = (legal, refl)

pub atom_fits : (a : Atom) (v : Plain) (f : ByteMap) → IsAtom a → AreBytes f → ShowsAtom a v f → has_value a v ≡ true
atom_fits (scalar c) v f is b h = h.value
atom_fits (raw n free its) (bytes xs) f is b h = rw h.1 (raw_where n free its (cleared free n f) (cleared_raw n free its f is.0 is.1 b h.0))
atom_fits (raw n free its) _ f is b h = absurd h

-- bytes that show a value match no item
pub atom_allowed : (a : Atom) (v : Plain) (f : ByteMap) → ShowsAtom a v f → list_any (is_match f) (atom_items a) ≡ false
atom_allowed (scalar c) v f h = scalar_allowed c v f h
atom_allowed (raw n free its) (bytes xs) f h = by_truth (list_any (is_match f) its) h.0
  where
    by_truth : (p : Bool) → not p ≡ true → p ≡ false
    by_truth true h = absurd (cc)
    by_truth false h = refl
atom_allowed (raw n free its) _ f h = absurd h

-- ---- which bits decide it

-- bytes that agree at each bit of some are equal in them
same_bytes : (n : ℕ) (f g : ByteMap) → AreBytes f → AreBytes g → Agree (λ i k. nat_lt i n) n f g → (i : ℕ) → i < n → f i ≡ g i
same_bytes n f g fb gb same i low =
    let held : nat_lt i n ≡ true = grind (arith, nat_tests) in same_byte (f i) (g i) (fb i) (gb i) (λ k small. same i k low small held)

pub atom_agree : (a : Atom) (v : Plain) (f g : ByteMap) → IsAtom a → AreBytes f → AreBytes g
    → Agree (λ i k. atom_holds a i k) (atom_size a) f g → ShowsAtom a v f → ShowsAtom a v g
atom_agree (scalar c) v f g is fb gb same h =
    record { value = h.value; same = λ i low. sym (same_bytes (scalar_size c) f g fb gb same i low) ∙ h.same i low }
atom_agree (raw n free its) (bytes xs) f g is fb gb same h = (
  sym (solid_none n free f g its (agree_solid n free f g fb gb same) is.1) ∙ h.0,
  h.1 ∙ agree_cleared n free f g is.0 fb gb same,
)
atom_agree (raw n free its) _ f g is fb gb same h = absurd h

pub atom_same : (a : Atom) (v : Plain) (f g : ByteMap) → IsAtom a → ShowsAtom a v f → ShowsAtom a v g → Agree (λ i k. atom_holds a i k) (atom_size a) f g
atom_same (scalar c) v f g is hf hg i k low small held = ap (λ x. bit_at x k) (hf.same i low ∙ sym (hg.same i low))
atom_same (raw n free its) (bytes xs) f g is hf hg i k low small held = cleared_agree n free f g is.0 (sym hf.1 ∙ hg.1) i k low small held
atom_same (raw n free its) _ f g is hf hg i k low small held = absurd hf
