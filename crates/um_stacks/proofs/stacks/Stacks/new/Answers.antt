use Rattle.um_stacks.specs.Stacks.{stacks_of}
use Rattle.um_stacks.proofs.KeptJoins.{nodes_none, kept_none}
use Rattle.um_stacks.proofs.stacks.Stacks.new.Goals as goal

pub invariant_of-result : goal.invariant_of-result
invariant_of-result c = (nodes_none c.new.result.items c.new.ensures.items, kept_none (stacks_of c.new.result.items) c.new-2.result.items c.new-2.ensures.items)
