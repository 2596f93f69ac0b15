use Rattle.std.proofs.Common.{arith}
use Rattle.um_stacks.proofs.Nests.{lower_void, lower_plain, higher_void, higher_plain, level_none, level_some}
use Rattle.um_stacks.proofs.flat.FlatShape.join.Goals as goal

pub returns-in-Void : goal.returns-in-Void
returns-in-Void c = lower_void c.args.self c.args.other c.if-self-other.true c.in-Void.is

pub returns-in-Bool : goal.returns-in-Bool
returns-in-Bool c = lower_plain c.args.self c.args.other _ c.if-self-other.true c.in-Bool.is tt

pub returns-in-Num : goal.returns-in-Num
returns-in-Num c = lower_plain c.args.self c.args.other _ c.if-self-other.true c.in-Num.is tt

pub returns-in-Record : goal.returns-in-Record
returns-in-Record c = lower_plain c.args.self c.args.other _ c.if-self-other.true c.in-Record.is tt

pub returns-in-Void-item : goal.returns-in-Void-item
returns-in-Void-item c = higher_void c.args.self c.args.other c.if-other-self.true c.in-Void-item.is

pub returns-in-Bool-item : goal.returns-in-Bool-item
returns-in-Bool-item c = higher_plain c.args.self c.args.other _ c.if-other-self.true c.in-Bool-item.is tt

pub returns-in-Num-item : goal.returns-in-Num-item
returns-in-Num-item c = higher_plain c.args.self c.args.other _ c.if-other-self.true c.in-Num-item.is tt

pub returns-in-Record-item : goal.returns-in-Record-item
returns-in-Record-item c = higher_plain c.args.self c.args.other _ c.if-other-self.true c.in-Record-item.is tt

pub returns-in-None : goal.returns-in-None
returns-in-None c = level_none c.args.self c.args.other c.join.result (omega (arith, c.if-self-other.false, c.if-other-self.false)) c.in-None.is c.join.ensures

pub returns-in-Some : goal.returns-in-Some
returns-in-Some c = level_some c.args.self c.args.other c.in-Some.item c.join.result (omega (arith, c.if-self-other.false, c.if-other-self.false)) c.in-Some.is c.join.ensures
