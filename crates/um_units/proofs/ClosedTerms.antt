-- The last term of a unit decides whether the unit holds a variable.
use Rattle.std.proofs.Common.{◌≡◌, ℕ, ◌≤◌, ◌-◌, Bool, true, false, ◌&&◌, List, [], ◌∷◌, length, Option, None, Some, refl, sym, ap, ◌∙◌, subst, arith}
use Rattle.std.specs.Prelude.{IsTrue, nat_lt, slice_get}
use Rattle.std.proofs.lemmas.Bool.{and_parts, ltb-true, false_from_ne_true}
use Rattle.um_units.specs.declared.Atom.{Atom}
use Rattle.um_units.specs.declared.Atom.TheVariants.{Base, Var}
use Rattle.um_units.specs.declared.Term.{Term}
use Rattle.um_units.specs.Atoms.{is_before}
use Rattle.um_units.specs.Terms.{is_before_all, is_normal}
use Rattle.um_units.specs.NormalForm.{head_before_all, tail_normal}
use Rattle.um_units.specs.Variables.{atom_below, variables_below}
use Rattle.um_units.specs.PowerMap.{PowerMap, replace}
use Rattle.um_units.proofs.Replacement.{replace-closed}
use Rattle.um_units.proofs.Variables.{IsClosed-below_zero, VariablesBelow-from_terms}

no_variable : (k : ℕ) → atom_below 0 (Var k) ≡ false
no_variable k = false_from_ne_true (nat_lt k 0) (λ e. let low = ltb-true k 0 e in omega (arith, low))

after_variable : (k : ℕ) (y : Atom) → IsTrue (is_before (Var k) y) → atom_below 0 y ≡ false
after_variable k (Base m) h = cc
after_variable k (Var m) h = no_variable m

-- an atom before another one adds nothing to whether the later ones are closed
before_adds : (x : Atom) (t : Term) (ts : List Term) → IsTrue (is_before x t.atom) → (atom_below 0 x && variables_below 0 (t ∷ ts)) ≡ variables_below 0 (t ∷ ts)
before_adds (Base n) t ts h = refl
before_adds (Var k) t ts h =
    ap (λ b. b && variables_below 0 (t ∷ ts)) (no_variable k) ∙ sym (ap (λ b. b && variables_below 0 ts) (after_variable k t.atom h))

and_true : (b : Bool) → (b && true) ≡ b
and_true true = refl
and_true false = refl

abbrev below : Option Term → Bool
below None = true
below (Some t) = atom_below 0 t.atom

last_of : (t : Term) (ts : List Term) (last : Term) → IsTrue (is_normal (t ∷ ts)) → slice_get (t ∷ ts) (length ts) ≡ Some last → variables_below 0 (t ∷ ts) ≡ atom_below 0 last.atom
last_of t [] last n e = and_true (atom_below 0 t.atom) ∙ ap (λ (o : Option Term). below o) e
last_of t (u ∷ ts) last n e =
    let first = (and_parts (is_before t.atom u.atom) (is_before_all t.atom ts) (head_before_all t (u ∷ ts) n)).0 in
    before_adds t.atom u ts first ∙ last_of u ts last (tail_normal t (u ∷ ts) n) e

pub last_decides : (ts : List Term) (last : Term) → IsTrue (is_normal ts) → slice_get ts (length ts - 1) ≡ Some last → variables_below 0 ts ≡ atom_below 0 last.atom
last_decides [] last n e = cc
last_decides (t ∷ ts) last n e =
    let place : length (t ∷ ts) - 1 ≡ length ts = omega arith in
    last_of t ts last n (subst (λ (k : ℕ). slice_get (t ∷ ts) k ≡ Some last) place e)

pub none_closed : (ts : List Term) → length ts ≤ 0 → variables_below 0 ts ≡ true
none_closed [] e = refl
none_closed (t ∷ ts) e = absurd (omega (arith, e))

pub replace-closed_terms : (s : ℕ → PowerMap) (u : PowerMap) → IsTrue (variables_below 0 u.terms) → replace s u ≡ u
replace-closed_terms s u h = replace-closed s u (IsClosed-below_zero u (VariablesBelow-from_terms 0 u h))
