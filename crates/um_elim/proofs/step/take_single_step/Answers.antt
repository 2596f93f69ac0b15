use Rattle.std.proofs.Common.{◌∙◌, sym, ap, subst, map}
use Rattle.std.specs.Prelude.{IsTrue}
use Rattle.std.specs.List.{list_all}
use Rattle.std.proofs.lemmas.Result.{err_from_is_err_and}
use Rattle.um_units.specs.declared.Atom.TheVariants.{Var}
use Rattle.um_units.specs.PowerMap.{atom, replace}
use Rattle.um_units.specs.Range.{fits, IsStopUnless}
use Rattle.um_units.proofs.InRange.{fits-atom}
use Rattle.um_elim.specs.ElimStep.{multiply}
use Rattle.um_elim.specs.Elimination.{Solved}
use Rattle.um_elim.proofs.StepsOfCode.{slots_stop, steps_solved}
use Rattle.um_elim.proofs.StepVariables.{step_absent}
use Rattle.um_elim.proofs.LastStep.{all_fit-alike, one_for_all_multiplied}
use Rattle.um_elim.proofs.SingleSteps.{single_set, no_other_in_variable, no_base_in_variable}
use Rattle.um_elim.proofs.step.take_single_step.Goals as goal

pub returns-in_err-put_single_step-clause-outcome : goal.returns-in_err-put_single_step-clause-outcome
returns-in_err-put_single_step-clause-outcome c =
    let x = err_from_is_err_and c.from_residual.result c.from_residual.ensures.1 in
    let r = c.args.r.now in
    let t = c.args.step.now in
    let old = c.args.units.now.items in
    let alike = all_fit-alike t.variable t.by (step_absent r t c.requires.step) old c.requires.indexed.fit in
    let stop = c.in_err-put_single_step.field-0.0 in
    rw (x.1, x.2) (slots_stop old r t (atom (Var t.variable)) (single_set r t c.requires.step c.requires.single) stop (subst (λ b. IsStopUnless b stop) alike c.in_err-put_single_step.ensures.range))

pub returns-clause-outcome : goal.returns-clause-outcome
returns-clause-outcome c =
    let r = c.args.r.now in
    let t = c.args.step.now in
    let m = t.variable in
    let old = c.args.units.now.items in
    let absent = step_absent r t c.requires.step in
    let fs : IsTrue (list_all fits (map (replace (multiply m t.by)) old)) = sym (all_fit-alike m t.by absent old c.requires.indexed.fit) ∙ c.in_ok-put_single_step.ensures.range in
    λ again. steps_solved old r t (atom (Var m)) (single_set r t c.requires.step c.requires.single) (fits-atom (Var m)) fs (no_other_in_variable m) (no_base_in_variable m) again
    ∙ ap Solved (one_for_all_multiplied m t.by absent old ∙ sym c.in_ok-put_single_step.ensures.exact)
