use Rattle.std.proofs.Common.{◌≡◌, ◌∙◌, true, false, cond, map, sym, ap}
use Rattle.std.specs.List.{list_any}
use Rattle.um_units.specs.declared.Term.{Term}
use Rattle.um_units.specs.PowerMap.{one, replace}
use Rattle.um_elim.specs.Elimination.{Solved, NoSolution}
use Rattle.um_elim.specs.ElimStep.{substitute}
use Rattle.um_pivots.specs.Pivot.{is_base, has_base}
use Rattle.um_reasons.proofs.WideProducts.{any_wide}
use Rattle.um_reasons.proofs.wide_rows.end_row.Goals as goal

pub returns-then-has_base_unit-clause-ended : goal.returns-then-has_base_unit-clause-ended
returns-then-has_base_unit-clause-ended c =
    let f : has_base c.args.left.now ≡ true =
    sym (c.has_base_unit.ensures ∙ any_wide is_base c.terms.result.now ∙ ap (list_any (λ (t : Term). is_base t.atom)) c.terms.ensures.terms) ∙ c.if-has_base_unit.true in
    sym (ap (λ b. cond b NoSolution (Solved (map (replace (substitute c.args.m one)) c.args.units.now.items))) f)

pub returns-clause-ended : goal.returns-clause-ended
returns-clause-ended c =
    let f : has_base c.args.left.now ≡ false =
    sym (c.has_base_unit.ensures ∙ any_wide is_base c.terms.result.now ∙ ap (list_any (λ (t : Term). is_base t.atom)) c.terms.ensures.terms) ∙ c.if-has_base_unit.false in
    ap Solved (c.in_ok-units.ensures.exact ∙ ap (map (replace (substitute c.args.m one))) c.deref.ensures.value)
    ∙ sym (ap (λ b. cond b NoSolution (Solved (map (replace (substitute c.args.m one)) c.args.units.now.items))) f)
