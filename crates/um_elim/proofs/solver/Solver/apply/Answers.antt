use Rattle.std.proofs.Common.{◌≡◌, ◌<◌, sym, ap, subst, ◌∙◌}
use Rattle.std.specs.Prelude.{All}
use Rattle.um_units.specs.PowerMap.{nth}
use Rattle.um_tree.specs.TypeTree.{type_tree}
use Rattle.um_tree.specs.Typing.{put}
use Rattle.um_tree.specs.Scheme.{type_variables}
use Rattle.um_elim.specs.Solution.{Solution}
use Rattle.um_elim.proofs.VariablesKept.{put_below}
use Rattle.um_elim.proofs.solver.Solver.apply.Goals as goal

pub returns-then-not-self-clause-variables : goal.returns-then-not-self-clause-variables
returns-then-not-self-clause-variables c =
    λ n all slots.
    let us : c.deref.result.now ≡ c.args.self.now.units = c.deref.ensures.value ∙ ap (λ (s : Solution). s.units) c.self.view_is in
    let t = type_tree c.args.ty.now in
    let same = c.in_ok-put_in_type.ensures.exact ∙ ap (λ vs. put (nth vs) t) us in
    subst (λ u. All (λ k. k < n) (type_variables u)) (sym same) (put_below n c.args.self.now.units all t slots)
