use Rattle.std.proofs.Common.{◌≡◌, ◌∙◌, Bool, true, false, not, ℕ, List, sym, ap, subst, arith}
use Rattle.std.specs.Prelude.{if◌then◌else◌}
use Rattle.std.specs.List.{list_any}
use Rattle.std.proofs.lemmas.Result.{err_from_is_err_and}
use Rattle.um_units.specs.declared.Term.{Term}
use Rattle.um_units.specs.PowerMap.{PowerMap, replace}
use Rattle.um_units.specs.Variables.{VariablesBelow}
use Rattle.um_pivots.specs.Pivot.{is_other, has_other}
use Rattle.um_elim.specs.declared.elim_step.ElimStep.{ElimStep}
use Rattle.um_elim.specs.ElimStep.{multiply, signed, IsStepOf, IsNextStep}
use Rattle.um_elim.proofs.StepVariables.{step_low, factor_below}
use Rattle.um_kept.specs.declared.kept.PartialCertificate.{PartialCertificate}
use Rattle.um_kept.specs.declared.kept.Head.{Head}
use Rattle.um_kept.specs.Kept.{Kept}
use Rattle.um_kept.specs.Answers.{Agrees}
use Rattle.um_kept.specs.Steps.{IsAfterStep, IsRowUnderWay}
use Rattle.um_kept.proofs.AfterSteps.{unit_after_step_below}
use Rattle.um_kept.proofs.StepEnds.{step_leaves, least_falls, left_alone}
use Rattle.um_kept.proofs.WayBack.{after_step, agrees_after_step}
use Rattle.um_kept.proofs.RowStops.{step_stops, next_under_way}
use Rattle.um_kept.proofs.row.make_steps.Goals as goal

-- after a step
agrees_after : (h : Head) (old new : PartialCertificate) (r : PowerMap) (t : ElimStep) → ((kept : Kept) × Agrees h old kept) → IsStepOf r t → VariablesBelow h.slots r → IsAfterStep h old new t.variable t.by → (kept : Kept) × Agrees h new kept
agrees_after h old new r t a is below kept_after_steps =
    (after_step a.0 t, agrees_after_step h old new a.0 t a.1 (step_low h.slots r t is below) (factor_below h.slots r t is below) kept_after_steps)

under_way_after : (rows : List PowerMap) (kept : Kept) (k : ℕ) (h : Head) (old new : PartialCertificate) (r left : PowerMap) (inverted flipped : Bool) (t : ElimStep) → IsRowUnderWay rows kept k h old r inverted → IsStepOf r t → VariablesBelow h.slots r →
    left ≡ replace (multiply t.variable t.by) (signed t.inverted r) → IsAfterStep h old new t.variable t.by → flipped ≡ (if t.inverted then not inverted else inverted) → IsRowUnderWay rows kept k h new left flipped
under_way_after rows kept k h old new r left inverted flipped t w is below e kept_after_steps f =
    next_under_way rows kept k h old r inverted w t is new left flipped (step_low h.slots r t is below) (factor_below h.slots r t is below) e kept_after_steps f

pub loop-r-init : goal.loop-r-init
loop-r-init c = record {
  agrees = c.requires.partial;
  below = c.requires.left_below;
  row_under_way = c.requires.row_under_way;
}

pub closed_end-requires-clause-ready : goal.closed_end-requires-clause-ready
closed_end-requires-clause-ready c =
    let a = c.loop-r.invariant.agrees.1 in
    let n = a.parts_count in
    let f = c.requires.few in
    record {
      few = omega (arith, n, f);
      narrow = a.narrow;
      below = subst (λ m. VariablesBelow m c.args.row.now) (sym n) c.requires.below;
      positive = a.positive;
    }

pub closed_end-requires-clause-closed : goal.closed_end-requires-clause-closed
closed_end-requires-clause-closed c = subst (IsNextStep c.loop-r.r) c.in-None.is c.in_ok-next_step.ensures.next

pub returns-in-None-clause-treated : goal.returns-in-None-clause-treated
returns-in-None-clause-treated c = λ rows kept e a. c.closed_end.ensures.treated c.args.head rows kept e (c.loop-r.invariant.row_under_way rows kept e a)

pub returns-in-None-clause-range : goal.returns-in-None-clause-range
returns-in-None-clause-range c = λ rows kept e a. c.closed_end.ensures.range c.args.head rows kept e (c.loop-r.invariant.row_under_way rows kept e a)

pub make_step-requires-clause-count : goal.make_step-requires-clause-count
make_step-requires-clause-count c = c.loop-r.invariant.agrees.1.back_count

pub make_step-requires-clause-variable : goal.make_step-requires-clause-variable
make_step-requires-clause-variable c =
    let is : IsStepOf c.loop-r.r c.in-Some.step = subst (IsNextStep c.loop-r.r) c.in-Some.is c.in_ok-next_step.ensures.next in
    step_low c.args.head.slots c.loop-r.r c.in-Some.step is c.loop-r.invariant.below

pub make_step-requires-clause-below : goal.make_step-requires-clause-below
make_step-requires-clause-below c =
    let is : IsStepOf c.loop-r.r c.in-Some.step = subst (IsNextStep c.loop-r.r) c.in-Some.is c.in_ok-next_step.ensures.next in
    factor_below c.args.head.slots c.loop-r.r c.in-Some.step is c.loop-r.invariant.below

pub make_step-requires-clause-slots : goal.make_step-requires-clause-slots
make_step-requires-clause-slots c = let f = c.requires.few in let p = c.requires.parameters in omega (arith, f, p)

pub returns-in_err-left-in-Some-clause-range : goal.returns-in_err-left-in-Some-clause-range
returns-in_err-left-in-Some-clause-range c = λ rows kept e a.
    let p = err_from_is_err_and c.from_residual-in_err-left-in-Some.result c.from_residual-in_err-left-in-Some.ensures.1 in
    let t = c.in-Some.step in
    let r = c.loop-r.r in
    let n = c.args.head.slots in
    let is : IsStepOf r t = subst (IsNextStep r) c.in-Some.is c.in_ok-next_step.ensures.next in
    rw (p.1, p.2) (step_stops rows kept c.args.k c.args.head c.loop-r.partial r c.loop-r.inverted (c.loop-r.invariant.row_under_way rows kept e a) t is
    (step_low n r t is c.loop-r.invariant.below) (factor_below n r t is c.loop-r.invariant.below) c.in_err-left-in-Some.field-0.0 c.in_err-left-in-Some.ensures.range)

pub power_end-requires-clause-ready : goal.power_end-requires-clause-ready
power_end-requires-clause-ready c =
    let t = c.in-Some.step in
    let r = c.loop-r.r in
    let is : IsStepOf r t = subst (IsNextStep r) c.in-Some.is c.in_ok-next_step.ensures.next in
    let a = agrees_after c.args.head c.loop-r.partial c.make_step.new.partial r t c.loop-r.invariant.agrees is c.loop-r.invariant.below c.in_ok-left-in-Some.ensures.kept in
    let n = a.1.parts_count in
    let f = c.requires.few in
    record {
      few = omega (arith, n, f);
      narrow = a.1.narrow;
      below = subst (λ m. VariablesBelow m c.args.row.now) (sym n) c.requires.below;
      positive = a.1.positive;
    }

pub power_end-requires-clause-count : goal.power_end-requires-clause-count
power_end-requires-clause-count c =
    let t = c.in-Some.step in
    let r = c.loop-r.r in
    let n = c.args.head.slots in
    let is : IsStepOf r t = subst (IsNextStep r) c.in-Some.is c.in_ok-next_step.ensures.next in
    let a = agrees_after c.args.head c.loop-r.partial c.make_step.new.partial r t c.loop-r.invariant.agrees is c.loop-r.invariant.below c.in_ok-left-in-Some.ensures.kept in
    a.1.parts_count ∙ sym a.1.count

pub power_end-requires-clause-alone : goal.power_end-requires-clause-alone
power_end-requires-clause-alone c =
    let t = c.in-Some.step in
    let r = c.loop-r.r in
    let is : IsStepOf r t = subst (IsNextStep r) c.in-Some.is c.in_ok-next_step.ensures.next in
    let o : has_other t.variable c.in_ok-left-in-Some.left ≡ false = sym (c.has_other_variable.ensures ∙ ap (list_any (λ (x : Term). is_other t.variable x.atom)) c.terms.ensures.terms) ∙ c.if-not-has_other_variable.true in
    left_alone r t.variable c.in_ok-left-in-Some.left (step_leaves r t c.in_ok-left-in-Some.left is c.in_ok-left-in-Some.ensures.left) o

pub returns-then-not-has_other_variable-clause-treated : goal.returns-then-not-has_other_variable-clause-treated
returns-then-not-has_other_variable-clause-treated c = λ rows kept e b.
    let t = c.in-Some.step in
    let r = c.loop-r.r in
    let is : IsStepOf r t = subst (IsNextStep r) c.in-Some.is c.in_ok-next_step.ensures.next in
    c.power_end.ensures.treated c.args.head rows kept e (under_way_after rows kept c.args.k c.args.head c.loop-r.partial c.make_step.new.partial r c.in_ok-left-in-Some.left c.loop-r.inverted c.flipped-inverted.result t (c.loop-r.invariant.row_under_way rows kept e b) is c.loop-r.invariant.below c.in_ok-left-in-Some.ensures.left c.in_ok-left-in-Some.ensures.kept c.flipped-inverted.ensures)

pub returns-then-not-has_other_variable-clause-range : goal.returns-then-not-has_other_variable-clause-range
returns-then-not-has_other_variable-clause-range c = λ rows kept e b.
    let t = c.in-Some.step in
    let r = c.loop-r.r in
    let is : IsStepOf r t = subst (IsNextStep r) c.in-Some.is c.in_ok-next_step.ensures.next in
    c.power_end.ensures.range c.args.head rows kept e (under_way_after rows kept c.args.k c.args.head c.loop-r.partial c.make_step.new.partial r c.in_ok-left-in-Some.left c.loop-r.inverted c.flipped-inverted.result t (c.loop-r.invariant.row_under_way rows kept e b) is c.loop-r.invariant.below c.in_ok-left-in-Some.ensures.left c.in_ok-left-in-Some.ensures.kept c.flipped-inverted.ensures)

pub loop-r-smaller : goal.loop-r-smaller
loop-r-smaller c =
    let t = c.in-Some.step in
    let r = c.loop-r.r in
    let is : IsStepOf r t = subst (IsNextStep r) c.in-Some.is c.in_ok-next_step.ensures.next in
    let o : has_other t.variable c.in_ok-left-in-Some.left ≡ true = sym (c.has_other_variable.ensures ∙ ap (list_any (λ (x : Term). is_other t.variable x.atom)) c.terms.ensures.terms) ∙ c.if-not-has_other_variable.false in
    least_falls r t.variable c.in_ok-left-in-Some.left (step_leaves r t c.in_ok-left-in-Some.left is c.in_ok-left-in-Some.ensures.left) o

pub loop-r-preserved : goal.loop-r-preserved
loop-r-preserved c =
    let t = c.in-Some.step in
    let r = c.loop-r.r in
    let n = c.args.head.slots in
    let is : IsStepOf r t = subst (IsNextStep r) c.in-Some.is c.in_ok-next_step.ensures.next in
    let a = agrees_after c.args.head c.loop-r.partial c.make_step.new.partial r t c.loop-r.invariant.agrees is c.loop-r.invariant.below c.in_ok-left-in-Some.ensures.kept in
    record {
      agrees = a;
      below = subst (VariablesBelow n) (sym c.in_ok-left-in-Some.ensures.left) (unit_after_step_below n r t c.loop-r.invariant.below is);
      row_under_way = λ rows kept e b. under_way_after rows kept c.args.k c.args.head c.loop-r.partial c.make_step.new.partial r c.in_ok-left-in-Some.left c.loop-r.inverted c.flipped-inverted.result t (c.loop-r.invariant.row_under_way rows kept e b) is c.loop-r.invariant.below c.in_ok-left-in-Some.ensures.left c.in_ok-left-in-Some.ensures.kept c.flipped-inverted.ensures;
    }
