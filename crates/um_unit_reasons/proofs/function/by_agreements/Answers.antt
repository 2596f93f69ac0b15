use Rattle.std.proofs.Common.{◌≡◌, ℕ, get_or, None, refl, sym, ap, ◌∙◌, subst, arith}
use Rattle.std.specs.Prelude.{All}
use Rattle.std.proofs.lemmas.Result.{IfOk-weaker}
use Rattle.um_units.specs.Variables.{VariablesBelow}
use Rattle.um_tree.specs.ProgramTree.{program_tree}
use Rattle.um_elim.specs.Solution.{rigid_units}
use Rattle.um_equal_types.specs.declared.row.Row.{Row}
use Rattle.um_rows.specs.FirstUnsolvable.{solve, unsolved}
use Rattle.um_slots.specs.Slots.{function_slots}
use Rattle.um_agree.specs.FunctionAgreements.{function_agreements}
use Rattle.um_infer.specs.Answers.{scheme_trees}
use Rattle.um_unit_reasons.specs.declared.failing.Failing.{Failing}
use Rattle.um_unit_reasons.specs.UnitReasons.{IsUnitReason, slot_in, rigid_parameters}
use Rattle.um_unit_reasons.specs.Answers.{reason_tree}
use Rattle.um_unit_reasons.proofs.FunctionFacts.{few, rows_low, units_within, stops, is_refusal, is_sound}
use Rattle.um_unit_reasons.proofs.function.by_agreements.Goals as goal

pub first_unsolvable-requires-clause-parameters : goal.first_unsolvable-requires-clause-parameters
first_unsolvable-requires-clause-parameters c =
    let x = c.args.function.now in
    let h = c.requires.refused in
    units_within (program_tree x.shaped.now) c.requires.formed c.requires.shaped (scheme_trees c.args.schemes.now) x.number x.rigid h c.args.found.now.rows (c.requires.rows h.function h.declared) c.unit_parameters-units.result (c.unit_parameters-units.ensures h.function h.declared)

pub first_unsolvable-requires-clause-bases : goal.first_unsolvable-requires-clause-bases
first_unsolvable-requires-clause-bases c =
    let x = c.args.function.now in
    let h = c.requires.refused in
    let p = program_tree x.shaped.now in
    let low = units_within p c.requires.formed c.requires.shaped (scheme_trees c.args.schemes.now) x.number x.rigid h c.args.found.now.rows (c.requires.rows h.function h.declared) c.unit_parameters-units.result (c.unit_parameters-units.ensures h.function h.declared) in
    let slots = few p c.requires.formed c.requires.shaped (scheme_trees c.args.schemes.now) x.number x.rigid h c.args.found.now.rows (c.requires.rows h.function h.declared) in
    let bases = c.requires.formed.few_bases in
    omega (arith, low, slots, bases, c.requires.bases)

pub first_unsolvable-requires-clause-variables : goal.first_unsolvable-requires-clause-variables
first_unsolvable-requires-clause-variables c =
    let x = c.args.function.now in
    let h = c.requires.refused in
    let r = c.args.found.now.rows in
    subst (All (λ (row : Row). VariablesBelow r.slots row.unit)) (sym c.deref.ensures.value)
    (rows_low (program_tree x.shaped.now) c.requires.formed c.requires.shaped (scheme_trees c.args.schemes.now) x.number x.rigid h r (c.requires.rows h.function h.declared))

pub first_unsolvable-requires-clause-unsolvable : goal.first_unsolvable-requires-clause-unsolvable
first_unsolvable-requires-clause-unsolvable c =
    let x = c.args.function.now in
    let h = c.requires.refused in
    let r = c.args.found.now.rows in
    let s =
    stops (program_tree x.shaped.now) c.requires.formed c.requires.shaped (scheme_trees c.args.schemes.now) x.number x.rigid h r (c.requires.rows h.function h.declared) c.args.bases c.unit_parameters-units.result c.requires.bases
    (c.unit_parameters-units.ensures h.function h.declared) in
    (h.row, s.0, subst (λ rs. solve 0 rs (rigid_units c.args.bases c.unit_parameters-units.result r.slots) ≡ unsolved h.row s.0) (sym c.deref.ensures.value) s.1)

pub core_reason-requires : goal.core_reason-requires
core_reason-requires c =
    let x = c.args.function.now in
    let p = program_tree x.shaped.now in
    let schemes = scheme_trees c.args.schemes.now in
    let h = c.requires.refused in
    let r = c.args.found.now.rows in
    let e = c.requires.rows h.function h.declared in
    let units = c.unit_parameters-units.ensures h.function h.declared in
    let s = stops p c.requires.formed c.requires.shaped schemes x.number x.rigid h r e c.args.bases c.unit_parameters-units.result c.requires.bases units in
    let row = c.in_ok-row.ensures h.row s.0 (subst (λ rs. solve 0 rs (rigid_units c.args.bases c.unit_parameters-units.result r.slots) ≡ unsolved h.row s.0) (sym c.deref.ensures.value) s.1) in
    let variables : (v : ℕ) → get_or c.deref-2.result.now v None ≡ slot_in (function_slots p.records schemes x.number h.function) v = λ v.
    ap (λ vs. get_or vs v None) c.deref-2.ensures.value ∙ c.in_ok-variables.ensures h.function h.declared v in
    let failing : Failing = record { program = c.program.result; names = x.names; variables = c.deref-2.result; found = c.args.found; parameters = c.rigid_parameters.result; row = c.in_ok-row.row } in
    let kept = c.requires.agreed h.function h.declared in
    let program = ap program_tree c.program.ensures.program in
    let parameters = c.rigid_parameters.ensures ∙ ap (rigid_parameters x.rigid) units in
    record {
      sound = (
        function_agreements p.records schemes x.number h.function,
        is_sound p c.requires.formed c.requires.shaped schemes x.number x.rigid h r e failing kept refl program parameters row variables,
      );
    }

pub returns : goal.returns
returns c =
    let x = c.args.function.now in
    let p = program_tree x.shaped.now in
    let schemes = scheme_trees c.args.schemes.now in
    let h = c.requires.refused in
    let r = c.args.found.now.rows in
    let e = c.requires.rows h.function h.declared in
    let units = c.unit_parameters-units.ensures h.function h.declared in
    let s = stops p c.requires.formed c.requires.shaped schemes x.number x.rigid h r e c.args.bases c.unit_parameters-units.result c.requires.bases units in
    let row = c.in_ok-row.ensures h.row s.0 (subst (λ rs. solve 0 rs (rigid_units c.args.bases c.unit_parameters-units.result r.slots) ≡ unsolved h.row s.0) (sym c.deref.ensures.value) s.1) in
    let variables : (v : ℕ) → get_or c.deref-2.result.now v None ≡ slot_in (function_slots p.records schemes x.number h.function) v = λ v.
    ap (λ vs. get_or vs v None) c.deref-2.ensures.value ∙ c.in_ok-variables.ensures h.function h.declared v in
    let failing : Failing = record { program = c.program.result; names = x.names; variables = c.deref-2.result; found = c.args.found; parameters = c.rigid_parameters.result; row = c.in_ok-row.row } in
    let kept = c.requires.agreed h.function h.declared in
    let program = ap program_tree c.program.ensures.program in
    let parameters = c.rigid_parameters.ensures ∙ ap (rigid_parameters x.rigid) units in
    let sound = is_sound p c.requires.formed c.requires.shaped schemes x.number x.rigid h r e failing kept refl program parameters row variables in
    let same = is_refusal p c.requires.formed c.requires.shaped schemes x.number x.rigid h r e failing kept refl program parameters row variables in
    IfOk-weaker c.core_reason.result _ _ (λ told is. (h, subst (λ z. IsUnitReason z (reason_tree told)) same is))
    (c.core_reason.ensures (function_agreements p.records schemes x.number h.function) sound)
