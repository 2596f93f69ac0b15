use Rattle.std.proofs.Common.{sym, ap, ◌∙◌, subst}
use Rattle.std.specs.Prelude.{All}
use Rattle.std.proofs.lemmas.Result.{IfOk-weaker}
use Rattle.um_units.specs.Variables.{VariablesBelow}
use Rattle.um_elim.specs.Solution.{parameter_rows}
use Rattle.um_equal_types.specs.declared.row.Row.{Row}
use Rattle.um_equal_types.specs.Steps.{units_of}
use Rattle.um_rows.specs.FirstUnsolvable.{rows_up_to}
use Rattle.um_reasons.specs.Core.{IsCore}
use Rattle.um_unit_reasons.proofs.FailingSteps.{rows_low, holds_last}
use Rattle.um_unit_reasons.proofs.failing.core_reason.Goals as goal

pub core_of-requires-clause-variables : goal.core_of-requires-clause-variables
core_of-requires-clause-variables c =
    let x = c.args.x.now in
    let s = c.requires.sound in
    let same = c.up_to-rows.ensures ∙ ap (rows_up_to x.row) c.deref.ensures.value in
    subst (All (λ (row : Row). VariablesBelow x.found.now.rows.slots row.unit)) (sym same) (rows_low x s.0 s.1)

pub by_core-told-requires-clause-last : goal.by_core-told-requires-clause-last
by_core-told-requires-clause-last c =
    let x = c.args.x.now in
    let s = c.requires.sound in
    let same = c.up_to-rows.ensures ∙ ap (rows_up_to x.row) c.deref.ensures.value in
    let is =
    subst (λ rs. IsCore x.found.now.rows.slots (parameter_rows c.base_count.result x.parameters) (units_of rs) c.in_ok-core.core.rows.items c.in_ok-core.core.cut_off) same c.in_ok-core.ensures.core in
    holds_last x s.0 s.1 c.in_ok-core.core.rows.items c.in_ok-core.core.cut_off
    (subst (λ b. IsCore x.found.now.rows.slots (parameter_rows b x.parameters) (units_of (rows_up_to x.row x.found.now.rows.list.items.items)) c.in_ok-core.core.rows.items c.in_ok-core.core.cut_off) c.base_count.ensures is)

pub returns : goal.returns
returns c = λ agreed sound.
    let x = c.args.x.now in
    let core = c.in_ok-core.core.rows.items in
    let cut_off = c.in_ok-core.core.cut_off in
    let same = c.up_to-rows.ensures ∙ ap (rows_up_to x.row) c.deref.ensures.value in
    let is =
    subst (λ rs. IsCore x.found.now.rows.slots (parameter_rows c.base_count.result x.parameters) (units_of rs) core cut_off) same c.in_ok-core.ensures.core in
    let also =
    subst (λ b. IsCore x.found.now.rows.slots (parameter_rows b x.parameters) (units_of (rows_up_to x.row x.found.now.rows.list.items.items)) core cut_off) c.base_count.ensures is in
    IfOk-weaker c.by_core-told.result _ _ (λ r h. (core, cut_off, also, h)) (c.by_core-told.ensures agreed sound)
