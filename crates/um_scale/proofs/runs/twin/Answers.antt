use Rattle.std.proofs.Common.{map, sym, subst}
use Rattle.std.proofs.lemmas.Result.{IfOk-weaker}
use Rattle.um_tree.specs.ValueTree.{value_tree, outcome_tree}
use Rattle.um_cells.specs.Running.{EndsAsMeant}
use Rattle.um_scale.proofs.TwinLaws.{twins}
use Rattle.um_scale.proofs.runs.twin.Goals as goal

pub returns-in-Ok-clause-first : goal.returns-in-Ok-clause-first
returns-in-Ok-clause-first g c =
    let a = c.args in let vs = map value_tree a.args.items.items in
    IfOk-weaker c.beside.result _ (λ t. EndsAsMeant (g.R.Runner.runs a.first.now) a.f vs a.budget (outcome_tree t.first))
    (λ t same. subst (λ o. EndsAsMeant (g.R.Runner.runs a.first.now) a.f vs a.budget o) (sym same) c.in-Ok.ensures)
    c.beside.ensures.first

pub returns-in-Ok-clause-scaled : goal.returns-in-Ok-clause-scaled
returns-in-Ok-clause-scaled g c =
    let a = c.args in
    twins (g.R.Runner.runs a.first.now) (g.R.Runner.runs a.second.now) a.scales.now a.f (map value_tree a.args.items.items) (map value_tree a.scaled.items.items) a.budget (outcome_tree c.in-Ok.outcome) c.beside.result c.len-bases.ensures.positive c.in-Ok.ensures c.beside.ensures.first c.beside.ensures.second
