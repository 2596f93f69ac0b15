use Rattle.std.proofs.Common.{◌≢◌, ◌∙◌, ℕ, ap, pos, get_or, refl}
use Rattle.std.specs.Prelude.{IsTrue}
use Rattle.std.proofs.lemmas.Bool.{and_from}
use Rattle.std.proofs.lemmas.List.Folds.{list_all_more}
use Rattle.um_units.specs.declared.Atom.{Atom}
use Rattle.um_units.specs.declared.Atom.TheVariants.{Base, Var}
use Rattle.um_units.specs.declared.Term.{Term}
use Rattle.um_units.specs.Variables.{atom_below, variables_below}
use Rattle.um_units.proofs.images.parted.Goals as goal

abbrev none : Term
none = record { atom = Base 0; power = pos 0 }

base_unit : (x : Atom) → ((k : ℕ) → x ≢ Var k) → IsTrue (atom_below 0 x)
base_unit (Base n) h = refl
base_unit (Var k) h = absurd (h k refl)

pub returns-in-Var-clause-closed : goal.returns-in-Var-clause-closed
returns-in-Var-clause-closed c = ap (variables_below 0) c.split_at.ensures.front ∙ c.loop-i.invariant

pub loop-i-preserved : goal.loop-i-preserved
loop-i-preserved c =
    let ts = c.args.terms.now in
    let i = c.loop-i.i in
    list_all_more (λ t. atom_below 0 t.atom) ts i none c.loop-i-test.true ∙ and_from _ _ c.loop-i.invariant (base_unit (get_or ts i none).atom c.in_default.not-Var)
