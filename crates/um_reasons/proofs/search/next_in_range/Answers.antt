use Rattle.std.proofs.Common.{◌<◌, length, [], ◌∷◌, ◌++◌, take, subst, sym, ap, ◌∙◌, arith}
use Rattle.std.proofs.lemmas.List.{append_assoc, append-nil, take_all}
use Rattle.std.proofs.lemmas.List.Elements.{All-get_or}
use Rattle.um_elim.specs.Solution.{Solution, parameter_rows}
use Rattle.um_equal_types.specs.Steps.{units_of}
use Rattle.um_reasons.specs.Core.{picked}
use Rattle.um_reasons.specs.Search.{AreSolved}
use Rattle.um_reasons.proofs.SearchSteps.{none_joined, joined_are_solvable, picked_more, first_more, row_below, when_joined, when_refused, front_of_list, next_row_is, all_solvable}
use Rattle.um_reasons.proofs.search.next_in_range.Goals as goal

pub loop-i-init : goal.loop-i-init
loop-i-init c =
    none_joined c.args.slots c.args.bases c.args.parameters c.in_ok-solver.solver.units (ap (λ (s : Solution). s.units) c.in_ok-solver.ensures.rigid) c.in_ok-solver.ensures.rows

pub loop-i-preserved : goal.loop-i-preserved
loop-i-preserved c =
    let slots = c.args.slots in
    let bases = c.args.bases in
    let parameters = c.args.parameters in
    let given = parameter_rows bases parameters in
    let rows = c.args.rows.now in
    let list = c.args.list.now in
    let i = c.loop-i.i in
    let row = c.index-rows-list.result in
    let within = All-get_or (λ k. k < length rows) list i 0 (omega (arith, c.loop-i-test.true)) c.requires.list in
    (subst (λ rs. AreSolved slots bases parameters rs c.join.new.solver.units)
    (picked_more slots given rows list i row (omega (arith, c.loop-i-test.true)) within c.index-rows-list.is)
    (when_joined c.loop-i.solver.units c.join.new.solver.units row.unit c.in_ok-join.field-0 c.if-not-branch.false c.in_ok-join.ensures.right slots bases parameters (picked slots given (units_of rows) (take i list)) c.loop-i.invariant))

pub join-requires : goal.join-requires
join-requires c =
    let rows = c.args.rows.now in
    let list = c.args.list.now in
    let within = All-get_or (λ k. k < length rows) list c.loop-i.i 0 (omega (arith, c.loop-i-test.true)) c.requires.list in
    record { variables = row_below c.args.slots (length c.loop-i.solver.units) rows _ c.index-rows-list.result c.loop-i.invariant.count within c.index-rows-list.is c.requires.variables }

pub bounds-rows-list : goal.bounds-rows-list
bounds-rows-list c = All-get_or (λ k. k < length c.args.rows.now) c.args.list.now c.loop-i.i 0 (omega (arith, c.loop-i-test.true)) c.requires.list

pub loop-j-init : goal.loop-j-init
loop-j-init c =
    let slots = c.args.slots in
    let part = picked slots (parameter_rows c.args.bases c.args.parameters) (units_of c.args.rows.now) in
    let list = c.args.list.now in
    subst (λ rs. AreSolved slots c.args.bases c.args.parameters rs c.loop-i.solver.units)
    (ap part (take_all c.loop-i.i list c.loop-i-test.false) ∙ sym (append-nil (part list))) c.loop-i.invariant

pub join-requires-in-loop-j : goal.join-requires-in-loop-j
join-requires-in-loop-j c = record {
  variables = row_below c.args.slots (length c.loop-j.solver.units) c.args.rows.now c.loop-j.j c.index-rows-j.result c.loop-j.invariant.count (omega (arith, c.loop-j-test.true)) c.index-rows-j.is c.requires.variables;
}

pub loop-j-preserved : goal.loop-j-preserved
loop-j-preserved c =
    let slots = c.args.slots in
    let bases = c.args.bases in
    let parameters = c.args.parameters in
    let given = parameter_rows bases parameters in
    let rows = c.args.rows.now in
    let part = picked slots given (units_of rows) c.args.list.now in
    let j = c.loop-j.j in
    let row = c.index-rows-j.result in
    (subst (λ rs. AreSolved slots bases parameters rs c.join-in-loop-j.new.solver.units)
    (append_assoc part (take j (units_of rows)) (row.unit ∷ []) ∙ ap (λ l. part ++ l) (first_more slots given rows j row (omega (arith, c.loop-j-test.true)) c.index-rows-j.is))
    (when_joined c.loop-j.solver.units c.join-in-loop-j.new.solver.units row.unit c.in_ok-join-2.field-0 c.if-not-branch-2.false c.in_ok-join-2.ensures.right slots bases parameters (part ++ take j (units_of rows)) c.loop-j.invariant))

pub returns-then-not-branch : goal.returns-then-not-branch
returns-then-not-branch c = λ solvable.
    let slots = c.args.slots in
    let given = parameter_rows c.args.bases c.args.parameters in
    let rows = c.args.rows.now in
    let list = c.args.list.now in
    let i = c.loop-i.i in
    let row = c.index-rows-list.result in
    let within = All-get_or (λ k. k < length rows) list i 0 (omega (arith, c.loop-i-test.true)) c.requires.list in
    when_refused c.loop-i.solver.units c.join.new.solver.units row.unit c.in_ok-join.field-0 c.if-not-branch.true c.in_ok-join.ensures.right slots (given ++ picked slots given (units_of rows) (take i list)) c.loop-i.invariant.exact
    (front_of_list slots given rows list i row (omega (arith, c.loop-i-test.true)) within c.index-rows-list.is solvable)

pub returns-then-not-branch-2 : goal.returns-then-not-branch-2
returns-then-not-branch-2 c =
    let slots = c.args.slots in
    let bases = c.args.bases in
    let parameters = c.args.parameters in
    let given = parameter_rows bases parameters in
    let rows = c.args.rows.now in
    let part = picked slots given (units_of rows) c.args.list.now in
    let j = c.loop-j.j in
    let row = c.index-rows-j.result in
    next_row_is slots given rows c.args.list.now j row (omega (arith, c.loop-j-test.true)) c.index-rows-j.is
    (joined_are_solvable slots bases parameters (part ++ take j (units_of rows)) c.loop-j.solver.units c.loop-j.invariant)
    (when_refused c.loop-j.solver.units c.join-in-loop-j.new.solver.units row.unit c.in_ok-join-2.field-0 c.if-not-branch-2.true c.in_ok-join-2.ensures.right slots (given ++ (part ++ take j (units_of rows))) c.loop-j.invariant.exact)

pub unreachable-requires : goal.unreachable-requires
unreachable-requires c =
    let slots = c.args.slots in
    let bases = c.args.bases in
    let parameters = c.args.parameters in
    let given = parameter_rows bases parameters in
    let rows = c.args.rows.now in
    let part = picked slots given (units_of rows) c.args.list.now in
    let j = c.loop-j.j in
    c.requires.unsolvable.unsolvable (all_solvable slots given rows c.args.list.now j (omega (arith, c.loop-j-test.false))
    (joined_are_solvable slots bases parameters (part ++ take j (units_of rows)) c.loop-j.solver.units c.loop-j.invariant))
