use Rattle.std.proofs.Common.{◌∙◌, sym, ap, subst}
use Rattle.std.proofs.lemmas.Result.{err_from_is_err_and}
use Rattle.um_units.specs.PowerMap.{replace, nth}
use Rattle.um_units.specs.Variables.{VariablesBelow}
use Rattle.um_units.proofs.Variables.{VariablesBelow-replace_nth}
use Rattle.um_kept.proofs.RowStops.{row_stops, before_steps}
use Rattle.um_kept.proofs.row.make_row.Goals as goal

pub returns-in_err-r-clause-range : goal.returns-in_err-r-clause-range
returns-in_err-r-clause-range c = λ rows kept e a.
    let p = err_from_is_err_and c.from_residual.result c.from_residual.ensures.1 in
    rw (p.1, p.2) (row_stops rows c.deref.result.now c.args.row.now kept c.args.k c.in_err-r.field-0.0 e (c.deref.ensures.value ∙ a.solution) c.in_err-r.ensures)

pub make_steps-treated-requires-clause-left_below : goal.make_steps-treated-requires-clause-left_below
make_steps-treated-requires-clause-left_below c =
    let a = c.requires.partial.1 in
    let us = c.args.partial.now.solution.items in
    let row = c.args.row.now in
    let n = c.args.head.slots in
    let is = c.in_ok-r.ensures ∙ ap (λ vs. replace (nth vs) row) c.deref.ensures.value in
    subst (VariablesBelow n) (sym is) (VariablesBelow-replace_nth n us row a.below (subst (λ m. VariablesBelow m row) (sym a.count) c.requires.below))

pub make_steps-treated-requires-clause-row_under_way : goal.make_steps-treated-requires-clause-row_under_way
make_steps-treated-requires-clause-row_under_way c =
    let row = c.args.row.now in
    let is = c.in_ok-r.ensures ∙ ap (λ vs. replace (nth vs) row) c.deref.ensures.value in
    λ rows kept e b. before_steps rows kept c.args.k c.args.head c.args.partial.now row c.in_ok-r.r e is b
