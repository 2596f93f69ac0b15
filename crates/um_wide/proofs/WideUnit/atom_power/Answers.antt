use Rattle.std.proofs.Common.{◌≡◌, List, [], ◌++◌, ◌∙◌, ℤ, ap, to_z, of_z}
use Rattle.std.specs.Int.{w128}
use Rattle.std.proofs.lemmas.Int.{to_z-of_z}
use Rattle.um_units.specs.declared.Atom.{Atom}
use Rattle.um_units.specs.Terms.{unless_zero}
use Rattle.um_units.specs.PowerMap.{atom, pow}
use Rattle.um_units.specs.declared.wide.WideTerm.{WideTerm}
use Rattle.um_units.specs.Wide.{as_terms}
use Rattle.um_wide.proofs.Terms.{atom_terms, normal_terms, product_terms}
use Rattle.um_wide.proofs.WideUnit.atom_power.Goals as goal

pushed : (ws none : List WideTerm) (x : Atom) (k : ℤ) → none ≡ [] → as_terms ws ≡ as_terms none ++ unless_zero (record { atom = x; power = k }) [] → as_terms ws ≡ (pow (atom x) k).terms
pushed ws none x k e f = atom_terms x k (as_terms ws) (f ∙ ap (λ vs. as_terms vs ++ unless_zero (record { atom = x; power = k }) []) e)

pub invariant_of-result : goal.invariant_of-result
invariant_of-result c =
    let k = to_z w128 (of_z w128 c.args.power) in
    let ws = c.push_nonzero.new.out.items in
    normal_terms ws (pow (atom c.args.a) k) (pushed ws c.new-terms.result.items c.args.a k c.new-terms.ensures.items c.in_ok-push_nonzero.ensures.pushed)

pub returns : goal.returns
returns c =
    let k = to_z w128 (of_z w128 c.args.power) in
    let ws = c.push_nonzero.new.out.items in
    record {
      exact =
          product_terms ws (pow (atom c.args.a) k) (pushed ws c.new-terms.result.items c.args.a k c.new-terms.ensures.items c.in_ok-push_nonzero.ensures.pushed)
          ∙ ap (pow (atom c.args.a)) (to_z-of_z w128 c.args.power c.ranges.power);
    }
