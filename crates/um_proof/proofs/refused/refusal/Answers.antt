use Rattle.std.proofs.Common.{suc, sym, ap, ◌∙◌, subst, arith}
use Rattle.std.specs.Prelude.{All, IfOk, IfErr}
use Rattle.std.proofs.lemmas.List.Elements.{All-take}
use Rattle.um_units.specs.Variables.{VariablesBelow}
use Rattle.um_elim.specs.Solution.{own_variables}
use Rattle.um_equal_types.specs.declared.row.Row.{Row}
use Rattle.um_rows.specs.FirstUnsolvable.{solve, rows_up_to}
use Rattle.um_equal_types.specs.Steps.{units_of}
use Rattle.um_check.specs.Refutation.{IsValidNo}
use Rattle.um_kept.specs.Answers.{CarriesInRows}
use Rattle.um_proof.proofs.Judged.{rows_low}
use Rattle.um_proof.proofs.ValidNo.{refuted, no_range, own_answers, general_answers, loose_answers}
use Rattle.um_proof.proofs.refused.refusal.Goals as goal

pub no_of-requires-clause-rows : goal.no_of-requires-clause-rows
no_of-requires-clause-rows c =
    let by = refuted c.args.bases c.args.units c.args.rows.now c.requires.rows c.args.row c.args.refused c.requires.refused c.requires.judged in by.closed

pub returns-then-units-eq0-clause-tidy : goal.returns-then-units-eq0-clause-tidy
returns-then-units-eq0-clause-tidy c =
    let by = refuted c.args.bases c.args.units c.args.rows.now c.requires.rows c.args.row c.args.refused c.requires.refused c.requires.judged in
    c.no_of.ensures.tidy (suc c.args.row) (let l = c.requires.refused.1 in let n = c.requires.rows.number in omega (arith, l, n)) by.below

pub returns-then-units-eq0-clause-made : goal.returns-then-units-eq0-clause-made
returns-then-units-eq0-clause-made c =
    let f = c.no_of.ensures in
    own_answers c.args.bases c.args.units c.args.rows.now c.requires.rows c.args.row c.args.refused c.requires.refused c.requires.judged c.if-units-eq0.true c.no_of.result f.loose f.last f.modulus f.parts f.named f.memory

pub have_solution-requires-clause-rows : goal.have_solution-requires-clause-rows
have_solution-requires-clause-rows c =
    let r = c.args.rows.now in
    let low = λ (row : Row). VariablesBelow r.slots row.unit in
    subst (All low) (sym (c.up_to.ensures ∙ ap (rows_up_to c.args.row) c.deref.ensures.value)) (All-take low (suc c.args.row) r.list.items.items (rows_low r.slots r.list.items.items c.requires.rows.rows))

pub have_solution-requires-clause-range : goal.have_solution-requires-clause-range
have_solution-requires-clause-range c = λ at e.
    let r = c.args.rows.now in
    no_range c.args.bases c.args.units r c.requires.rows c.args.row c.args.refused c.requires.refused c.requires.judged at
    (ap (λ rs. solve 0 rs (own_variables r.slots)) (sym (c.up_to.ensures ∙ ap (rows_up_to c.args.row) c.deref.ensures.value)) ∙ e)

pub no_of-requires-in-Ok-true-clause-rows : goal.no_of-requires-in-Ok-true-clause-rows
no_of-requires-in-Ok-true-clause-rows c =
    let by = refuted c.args.bases c.args.units c.args.rows.now c.requires.rows c.args.row c.args.refused c.requires.refused c.requires.judged in by.closed

pub loose_no-requires-clause-rows : goal.loose_no-requires-clause-rows
loose_no-requires-clause-rows c =
    let r = c.args.rows.now in
    subst (All (λ (row : Row). VariablesBelow r.slots row.unit)) (sym c.deref-in-Ok-false.ensures.value) (rows_low r.slots r.list.items.items c.requires.rows.rows)

pub loose_no-requires-clause-refused : goal.loose_no-requires-clause-refused
loose_no-requires-clause-refused c =
    let w = c.in-Ok-false.ensures.unsolved c.in-Ok-false.field-0-test in
    (w.0, w.1, ap (λ rs. solve 0 rs (own_variables c.args.rows.now.slots)) (ap (rows_up_to c.args.row) (c.deref-in-Ok-false.ensures.value ∙ sym c.deref.ensures.value) ∙ sym c.up_to.ensures) ∙ w.2)

pub returns-in-Ok-true-clause-tidy : goal.returns-in-Ok-true-clause-tidy
returns-in-Ok-true-clause-tidy c =
    let by = refuted c.args.bases c.args.units c.args.rows.now c.requires.rows c.args.row c.args.refused c.requires.refused c.requires.judged in
    c.no_of-in-Ok-true.ensures.tidy (suc c.args.row) (let l = c.requires.refused.1 in let n = c.requires.rows.number in omega (arith, l, n)) by.below

pub returns-in-Ok-true-clause-made : goal.returns-in-Ok-true-clause-made
returns-in-Ok-true-clause-made c =
    let r = c.args.rows.now in
    let w = c.in-Ok-true.ensures.solved c.in-Ok-true.field-0-test in
    let f = c.no_of-in-Ok-true.ensures in
    general_answers c.args.bases c.args.units r c.requires.rows c.args.row c.args.refused c.requires.refused c.requires.judged w.0
    (ap (λ rs. solve 0 rs (own_variables r.slots)) (sym (c.up_to.ensures ∙ ap (rows_up_to c.args.row) c.deref.ensures.value)) ∙ w.1) c.no_of-in-Ok-true.result f.loose f.last f.modulus f.parts f.named f.memory

pub returns-in-Ok-false-clause-made : goal.returns-in-Ok-false-clause-made
returns-in-Ok-false-clause-made c =
    let r = c.args.rows.now in
    let w = c.in-Ok-false.ensures.unsolved c.in-Ok-false.field-0-test in
    let f = c.loose_no.ensures in
    let list = c.deref-in-Ok-false.ensures.value in
    loose_answers c.args.bases c.args.units r c.requires.rows c.args.row c.args.refused c.requires.refused c.requires.judged w.0 w.1
    (ap (λ rs. solve 0 rs (own_variables r.slots)) (sym (c.up_to.ensures ∙ ap (rows_up_to c.args.row) c.deref.ensures.value)) ∙ w.2) c.loose_no.result
    (subst (λ rs. IfOk c.loose_no.result (IsValidNo c.args.bases c.args.units (units_of rs))) list (f.valid c.args.units)) f.last f.loose
    (subst (λ rs. IfErr c.loose_no.result (CarriesInRows (record { slots = r.slots; parameters = 0; bases = c.args.bases }) rs)) list f.range)
