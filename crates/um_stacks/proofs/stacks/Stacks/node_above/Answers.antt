use Rattle.std.proofs.Common.{refl, ◌+◌}
use Rattle.um_stacks.proofs.Nodes as nodes
use Rattle.um_stacks.proofs.stacks.Stacks.node_above.Goals as goal

pub returns-clause-node : goal.returns-clause-node
returns-clause-node c = nodes.node_above c.args.self.now (record { top = c.args.top; below = c.args.below; height = c.height.result + 1; jump = c.jump_above.result }) c.height.result c.requires.below c.jump_above.ensures.number c.height.ensures.height c.height.ensures.few refl c.jump_above.ensures.passed
