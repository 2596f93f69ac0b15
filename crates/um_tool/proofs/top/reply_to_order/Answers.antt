use Rattle.std.proofs.Common.{◌≡◌, false, rules}
use Rattle.um_tool.specs.Asked.{StatesUnits}
use Rattle.um_tool.proofs.Serving.{if_ok, unstated_planned}
use Rattle.um_tool.proofs.top.reply_to_order.Goals as goal

pub returns-else-branch-clause-planned : goal.returns-else-branch-clause-planned
returns-else-branch-clause-planned g c =
    let no : c.in_ok-states_units.field-0 ≡ false = search rules in
    let none : StatesUnits c.args.order c.args.words.now → ⊥ = rw no at c.in_ok-states_units.ensures in
    if_ok c.reply_line.result
    (λ reply is. unstated_planned c.args.words.now (g.S.Source.left c.args.source.now) _ _ c.args.order reply.text.items reply.status c.requires.ordered none is)
    c.reply_line.ensures
