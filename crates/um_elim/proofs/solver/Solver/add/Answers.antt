use Rattle.std.proofs.Common.{◌≡◌, sym, ◌∙◌, ap, subst, refl, length}
use Rattle.std.proofs.lemmas.Result.{err_from_is_err_and}
use Rattle.um_elim.specs.Elimination.{eliminate}
use Rattle.um_elim.specs.Solution.{Solution}
use Rattle.um_elim.specs.Steps.{StopsAs}
use Rattle.um_elim.proofs.Added.{stop-added, stop-instances, stop-rows}
use Rattle.um_elim.proofs.Rows.{solved_is_most_general, exactly-more}
use Rattle.um_elim.proofs.VariablesKept.{solved_below}
use Rattle.um_elim.proofs.solver.Solver.add.Goals as goal

pub returns-in_err-eliminate_row-clause-outcome : goal.returns-in_err-eliminate_row-clause-outcome
returns-in_err-eliminate_row-clause-outcome c =
    let p = err_from_is_err_and c.from_residual.result c.from_residual.ensures.1 in
    let us : c.self.inside.units.items ≡ c.args.self.now.units = ap (λ (s : Solution). s.units) c.self.view_is in
    rw (p.1, p.2) (stop-added c.args.self.now _ c.args.row.now c.in_err-eliminate_row.field-0.0 (sym (ap (λ (s : Solution). s.spent) c.self.view_is) ∙ c.if-self.false) refl
    (subst (λ vs. StopsAs (eliminate vs c.args.row.now) c.in_err-eliminate_row.field-0.0) us c.in_err-eliminate_row.ensures.outcome))

pub returns-in_err-eliminate_row-clause-instances : goal.returns-in_err-eliminate_row-clause-instances
returns-in_err-eliminate_row-clause-instances c =
    let p = err_from_is_err_and c.from_residual.result c.from_residual.ensures.1 in
    let us : c.self.inside.units.items ≡ c.args.self.now.units = ap (λ (s : Solution). s.units) c.self.view_is in
    rw (p.1, p.2) (stop-instances c.args.self.now c.args.self.now c.args.row.now c.in_err-eliminate_row.field-0.0 c.requires
    (subst (λ vs. StopsAs (eliminate vs c.args.row.now) c.in_err-eliminate_row.field-0.0) us c.in_err-eliminate_row.ensures.outcome))

pub returns-in_err-eliminate_row-clause-rows : goal.returns-in_err-eliminate_row-clause-rows
returns-in_err-eliminate_row-clause-rows c =
    let p = err_from_is_err_and c.from_residual.result c.from_residual.ensures.1 in
    let us : c.self.inside.units.items ≡ c.args.self.now.units = ap (λ (s : Solution). s.units) c.self.view_is in
    rw (p.1, p.2) (stop-rows c.args.self.now c.args.self.now c.args.row.now c.in_err-eliminate_row.field-0.0 c.requires
    (subst (λ vs. StopsAs (eliminate vs c.args.row.now) c.in_err-eliminate_row.field-0.0) us c.in_err-eliminate_row.ensures.outcome))

pub returns-clause-instances : goal.returns-clause-instances
returns-clause-instances c =
    let us : c.self.inside.units.items ≡ c.args.self.now.units = ap (λ (s : Solution). s.units) c.self.view_is in
    solved_is_most_general c.args.self.now.units c.args.row.now _ c.requires (ap (λ vs. eliminate vs c.args.row.now) (sym us) ∙ c.in_ok-eliminate_row.ensures.outcome)

pub returns-clause-rows : goal.returns-clause-rows
returns-clause-rows c =
    let us : c.self.inside.units.items ≡ c.args.self.now.units = ap (λ (s : Solution). s.units) c.self.view_is in
    λ rows exact. exactly-more (length c.args.self.now.units) rows c.args.row.now c.args.self.now.units _ exact
    (solved_is_most_general c.args.self.now.units c.args.row.now _ c.requires (ap (λ vs. eliminate vs c.args.row.now) (sym us) ∙ c.in_ok-eliminate_row.ensures.outcome))

pub returns-clause-variables : goal.returns-clause-variables
returns-clause-variables c =
    let us : c.self.inside.units.items ≡ c.args.self.now.units = ap (λ (s : Solution). s.units) c.self.view_is in
    solved_below c.args.self.now.units c.args.row.now _ c.requires (ap (λ vs. eliminate vs c.args.row.now) (sym us) ∙ c.in_ok-eliminate_row.ensures.outcome)
