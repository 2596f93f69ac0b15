use Rattle.std.proofs.Common.{◌<◌, inl, inr, ℕ, Bool, List, map, length, subst}
use Rattle.std.proofs.lemmas.List.{length-map}
use Rattle.std.proofs.lemmas.Result.{err_from_is_err_and}
use Rattle.um_units.specs.PowerMap.{PowerMap, replace}
use Rattle.um_units.proofs.Replacement.{nth-map}
use Rattle.um_elim.specs.ElimStep.{multiply, signed}
use Rattle.um_kept.specs.declared.kept.Head.{Head}
use Rattle.um_kept.specs.declared.stop.CertStop.{CertStop}
use Rattle.um_kept.specs.declared.stop.CertStop.TheVariants as stop
use Rattle.um_kept.specs.Formed.{IsPowerIn}
use Rattle.um_kept.specs.Answers.{CarriesPower}
use Rattle.um_kept.specs.Steps.{CarriesInStep, CarriesOneOf, divided_at}
use Rattle.um_kept.proofs.row.make_step.Goals as goal

left_stops : (h : Head) (solution bs : List PowerMap) (r : PowerMap) (x : ℕ) (b : Bool) (w : PowerMap) (s : CertStop) → CarriesPower 2147483647 (replace (multiply x w) (signed b r)) s → CarriesInStep h solution bs r x b w s
left_stops h solution bs r x b w (stop.CertRange z) c = (c.1, inl c.0)
left_stops h solution bs r x b w stop.NoMemory c = tt

slot_stops : (h : Head) (solution bs : List PowerMap) (r : PowerMap) (x : ℕ) (b : Bool) (w : PowerMap) (s : CertStop) → CarriesOneOf 2147483647 (map (replace (multiply x w)) solution) s → CarriesInStep h solution bs r x b w s
slot_stops h solution bs r x b w (stop.CertRange z) c =
    let l : c.0 < length solution = subst (λ n. c.0 < n) (length-map solution (replace (multiply x w))) c.1 in
    (c.3, inr (inl (c.0, l, subst (IsPowerIn z) (nth-map (replace (multiply x w)) solution c.0 l) c.2)))
slot_stops h solution bs r x b w stop.NoMemory c = tt

back_stops : (h : Head) (solution bs : List PowerMap) (r : PowerMap) (x : ℕ) (b : Bool) (w : PowerMap) (s : CertStop) → CarriesPower 2147483647 (divided_at h bs x w) s → CarriesInStep h solution bs r x b w s
back_stops h solution bs r x b w (stop.CertRange z) c = (c.1, inr (inr c.0))
back_stops h solution bs r x b w stop.NoMemory c = tt

pub returns-in_err-left-clause-range : goal.returns-in_err-left-clause-range
returns-in_err-left-clause-range c =
    let p = err_from_is_err_and c.from_residual.result c.from_residual.ensures.1 in
    let t = c.args.step.now in
    rw (p.1, p.2) (left_stops c.args.head c.args.partial.now.solution.items c.args.partial.now.back.items c.args.r.now t.variable t.inverted t.by c.in_err-left.field-0.0 c.in_err-left.ensures)

pub returns-in_err-multiply_all-clause-range : goal.returns-in_err-multiply_all-clause-range
returns-in_err-multiply_all-clause-range c =
    let p = err_from_is_err_and c.from_residual-in_err-multiply_all.result c.from_residual-in_err-multiply_all.ensures.1 in
    let t = c.args.step.now in
    rw (p.1, p.2) (slot_stops c.args.head c.args.partial.now.solution.items c.args.partial.now.back.items c.args.r.now t.variable t.inverted t.by c.in_err-multiply_all.field-0.0 c.in_err-multiply_all.ensures.range)

pub returns-in_err-divide_back-clause-range : goal.returns-in_err-divide_back-clause-range
returns-in_err-divide_back-clause-range c =
    let p = err_from_is_err_and c.from_residual-in_err-divide_back.result c.from_residual-in_err-divide_back.ensures.1 in
    let t = c.args.step.now in
    rw (p.1, p.2) (back_stops c.args.head c.args.partial.now.solution.items c.args.partial.now.back.items c.args.r.now t.variable t.inverted t.by c.in_err-divide_back.field-0.0 c.in_err-divide_back.ensures.range)
