use Rattle.um_stacks.specs.Stacks.{stack_at}
use Rattle.um_stacks.proofs.JoinedStacks.{no_join, top_join}
use Rattle.um_stacks.proofs.stacks.Stacks.joined_tops.Goals as goal

pub returns-in-None-join-clause-join : goal.returns-in-None-join-clause-join
returns-in-None-join-clause-join c = no_join (stack_at c.args.self.now c.args.one) (stack_at c.args.self.now c.args.other) (stack_at c.args.self.now c.in-Some.low) (stack_at c.args.self.now c.in-Some-pop.under) c.in-Some.x c.in-Some-pop.y c.join.result c.in-Some.ensures c.in-Some-pop.ensures c.in-None-join.is c.join.ensures

pub returns-in-Some-join-clause-join : goal.returns-in-Some-join-clause-join
returns-in-Some-join-clause-join c = top_join (stack_at c.args.self.now c.args.one) (stack_at c.args.self.now c.args.other) (stack_at c.args.self.now c.in-Some.low) (stack_at c.args.self.now c.in-Some-pop.under) c.in-Some.x c.in-Some-pop.y c.in-Some-join.join c.join.result c.in-Some.ensures c.in-Some-pop.ensures c.in-Some-join.is c.join.ensures
