-- The derived `==` of two terms is true exactly where they are equal.
use Rattle.std.proofs.Common.{◌∙◌, sym, ap, ℤ, ◌≡◌}
use Rattle.std.proofs.lemmas.Slice.Eq.{slice_eq-Decides}
use Rattle.std.proofs.lemmas.Bool.Decides.{Decides-and, Decides-like, Decides-eqb, Decides-int_eq}
use Rattle.std.specs.Bool.{Decides}
use Rattle.um_units.specs.PowerMap.{PowerMap, product}
use Rattle.um_units.specs.declared.Atom.{Atom}
use Rattle.um_units.specs.declared.Atom.TheVariants.{Base, Var}
use Rattle.um_units.specs.declared.wide.WideTerm.{WideTerm}
use Rattle.um_units.specs.Wide.{as_terms}
use Rattle.um_wide.proofs.Terms.{terms_of, as_terms_inj}
use Rattle.um_wide.proofs.WideUnit.same.Goals as goal
use Rattle.um_units.specs.contracts.wide.WideTermPartialEq.TheImpl as test

abbrev make : Atom → ℤ → WideTerm
make x k = record { atom = x; power = k }

by_parts : (x y : Atom) (k l : ℤ) → Decides (test.eq-value.it (make x k) (make y l)) (make x k ≡ make y l)
by_parts (Base a) (Base b) k l =
    Decides-like _ (λ (p, q). cc) (λ e. let f = ap (λ (t : WideTerm). t.atom) e in let g = ap (λ (t : WideTerm). t.power) e in (cc f, cc g)) (Decides-and _ _ (Decides-eqb a b) (Decides-int_eq k l))
by_parts (Base a) (Var b) k l = (λ e. cc, λ e. cc)
by_parts (Var a) (Base b) k l = (λ e. cc, λ e. cc)
by_parts (Var a) (Var b) k l =
    Decides-like _ (λ (p, q). cc) (λ e. let f = ap (λ (t : WideTerm). t.atom) e in let g = ap (λ (t : WideTerm). t.power) e in (cc f, cc g)) (Decides-and _ _ (Decides-eqb a b) (Decides-int_eq k l))

each : (s t : WideTerm) → Decides (test.eq-value.it s t) (s ≡ t)
each s t = by_parts s.atom t.atom s.power t.power

pub returns : goal.returns
returns c =
    let ws = c.self.inside.terms.items in
    let vs = c.other.inside.terms.items in
    let d = slice_eq-Decides each ws vs c.eq.result c.eq.ensures in
    let e = terms_of ws c.args.self.now c.self.invariant c.self.view_is in
    let f = terms_of vs c.args.other.now c.other.invariant c.other.view_is in
    record {
      same = (
        (λ h. sym c.self.view_is ∙ ap (λ us. product (as_terms us)) (d.0 h) ∙ c.other.view_is),
        (λ g. d.1 (as_terms_inj ws vs (e ∙ ap (λ (u : PowerMap). u.terms) g ∙ sym f))),
      );
    }
