-- The derived `==` of two terms is true exactly where they are equal.
use Rattle.std.proofs.Common.{◌∙◌, sym, ap, ℤ, ◌≡◌}
use Rattle.std.proofs.lemmas.Slice.Eq.{slice_eq-Decides}
use Rattle.std.proofs.lemmas.Bool.Decides.{Decides-and, Decides-like, Decides-eqb, Decides-int_eq}
use Rattle.std.specs.Bool.{Decides}
use Rattle.um_units.specs.PowerMap.{PowerMap}
use Rattle.um_units.specs.PowerMapCode.{same_from_terms}
use Rattle.um_units.specs.declared.Term.{Term}
use Rattle.um_units.specs.declared.Atom.{Atom}
use Rattle.um_units.specs.declared.Atom.TheVariants.{Base, Var}
use Rattle.um_units.proofs.InRange.{terms-kept}
use Rattle.um_units.proofs.Unit.same.Goals as goal
use Rattle.um_units.specs.contracts.TermPartialEq.TheImpl as test

abbrev make : Atom → ℤ → Term
make x k = record { atom = x; power = k }

by_parts : (x y : Atom) (k l : ℤ) → Decides (test.eq-value.it (make x k) (make y l)) (make x k ≡ make y l)
by_parts (Base a) (Base b) k l = Decides-like _ (λ (p, q). cc) (λ e. let f = ap (λ (t : Term). t.atom) e in let g = ap (λ (t : Term). t.power) e in (cc f, cc g)) (Decides-and _ _ (Decides-eqb a b) (Decides-int_eq k l))
by_parts (Base a) (Var b) k l = (λ e. cc, λ e. cc)
by_parts (Var a) (Base b) k l = (λ e. cc, λ e. cc)
by_parts (Var a) (Var b) k l = Decides-like _ (λ (p, q). cc) (λ e. let f = ap (λ (t : Term). t.atom) e in let g = ap (λ (t : Term). t.power) e in (cc f, cc g)) (Decides-and _ _ (Decides-eqb a b) (Decides-int_eq k l))

each : (s t : Term) → Decides (test.eq-value.it s t) (s ≡ t)
each s t = by_parts s.atom t.atom s.power t.power

pub returns : goal.returns
returns c =
    let d = slice_eq-Decides each c.as_slice.result.now c.as_slice-2.result.now c.eq.result c.eq.ensures in
    let e = c.as_slice.ensures ∙ terms-kept c.self.inside.terms c.args.self.now c.self.invariant c.self.view_is in
    let f = c.as_slice-2.ensures ∙ terms-kept c.other.inside.terms c.args.other.now c.other.invariant c.other.view_is in
    record { same = (λ h. same_from_terms _ _ (sym e ∙ d.0 h ∙ f), λ g. d.1 (e ∙ ap (λ (u : PowerMap). u.terms) g ∙ sym f)) }
