use Rattle.std.proofs.Common.{rules, ℕ, List, IfOk, IfErr, Ok, ◌≡◌, ◌∙◌, sym, ap, subst}
use Rattle.std.specs.Prelude.{Option}
use Rattle.um_units.specs.PowerMap.{PowerMap}
use Rattle.um_tree.specs.RawTree.{UnitSyntax, unit_syntax, measure_syntax, variable_syntax}
use Rattle.um_tree.specs.declared.raw.RawUnit.{the_lemmas}
use Rattle.um_measures.specs.Known.{short_unit}
use Rattle.um_measures.specs.Faults.{Found}
use Rattle.um_measures.specs.UnitNames.{resolved_unit, variable_unit}
use Rattle.um_measures.specs.SingleUnits.{known_unit}
use Rattle.um_measures.specs.Stops.{IsFirst}
use Rattle.um_measures.proofs.OneName.{measure_is, variable_is}
use Rattle.um_measures.proofs.unit.resolved_unit.Goals as goal

name_is : (m : List ℕ → Option PowerMap) (vars : List (List ℕ)) (raw : UnitSyntax) (at : ℕ) (x : List ℕ) → raw ≡ measure_syntax at x → known_unit (m x) at ≡ resolved_unit m vars raw
name_is m vars raw at x seen = measure_is m vars at x ∙ ap (resolved_unit m vars) (sym seen)

var_is : (m : List ℕ → Option PowerMap) (vars : List (List ℕ)) (raw : UnitSyntax) (at : ℕ) (x : List ℕ) → raw ≡ variable_syntax at x → known_unit (variable_unit vars x) at ≡ resolved_unit m vars raw
var_is m vars raw at x seen = variable_is m vars at x ∙ ap (resolved_unit m vars) (sym seen)

pub returns-in-Name-clause-exact : goal.returns-in-Name-clause-exact
returns-in-Name-clause-exact c =
    let seen : unit_syntax c.args.raw.now ≡ measure_syntax c.in-Name.at c.in-Name.name = search (rules, the_lemmas) in
    subst (λ (r : Found PowerMap). IfOk c.measure_alone.result (λ unit. r ≡ Ok unit)) (name_is (short_unit c.args.measures.now) c.args.variables.now (unit_syntax c.args.raw.now) c.in-Name.at c.in-Name.name seen) c.measure_alone.ensures.exact

pub returns-in-Name-clause-faults : goal.returns-in-Name-clause-faults
returns-in-Name-clause-faults c =
    let seen : unit_syntax c.args.raw.now ≡ measure_syntax c.in-Name.at c.in-Name.name = search (rules, the_lemmas) in
    subst (λ (r : Found PowerMap). IfErr c.measure_alone.result (IsFirst r)) (name_is (short_unit c.args.measures.now) c.args.variables.now (unit_syntax c.args.raw.now) c.in-Name.at c.in-Name.name seen) c.measure_alone.ensures.faults

pub returns-in-Var-clause-exact : goal.returns-in-Var-clause-exact
returns-in-Var-clause-exact c =
    let seen : unit_syntax c.args.raw.now ≡ variable_syntax c.in-Var.at c.in-Var.name = search (rules, the_lemmas) in
    subst (λ (r : Found PowerMap). IfOk c.variable_alone.result (λ unit. r ≡ Ok unit)) (var_is (short_unit c.args.measures.now) c.args.variables.now (unit_syntax c.args.raw.now) c.in-Var.at c.in-Var.name seen) c.variable_alone.ensures.exact

pub returns-in-Var-clause-faults : goal.returns-in-Var-clause-faults
returns-in-Var-clause-faults c =
    let seen : unit_syntax c.args.raw.now ≡ variable_syntax c.in-Var.at c.in-Var.name = search (rules, the_lemmas) in
    subst (λ (r : Found PowerMap). IfErr c.variable_alone.result (IsFirst r)) (var_is (short_unit c.args.measures.now) c.args.variables.now (unit_syntax c.args.raw.now) c.in-Var.at c.in-Var.name seen) c.variable_alone.ensures.faults
