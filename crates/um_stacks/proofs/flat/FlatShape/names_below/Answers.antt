use Rattle.std.proofs.Common.{sym, ◌∙◌}
use Rattle.um_stacks.specs.FlatShapes.{item_shape}
use Rattle.um_stacks.proofs.Below.{below_in_lists}
use Rattle.um_stacks.proofs.flat.FlatShape.names_below.Goals as goal

pub returns : goal.returns
returns c = c.names_below.ensures ∙ sym (below_in_lists c.args.count c.args.self.lists (item_shape c.args.self.item))
