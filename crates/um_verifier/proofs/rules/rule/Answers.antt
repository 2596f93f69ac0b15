use Rattle.std.proofs.Common.{sym, subst}
use Rattle.um_machine.specs.declared.op.Op.{Op}
use Rattle.um_verifier.specs.Points.{PassesOn, rule_at}
use Rattle.um_verifier.proofs.rules.rule.Goals as goal

pub returns-in-Load : goal.returns-in-Load
returns-in-Load c = λ code body n r. subst (λ (op : Op). PassesOn c.args.point.now c.load.result (rule_at c.args.point.now code body op)) (sym c.in-Load.is) (c.load.ensures code body)

pub returns-in-JumpIfNot : goal.returns-in-JumpIfNot
returns-in-JumpIfNot c = λ code body n r. subst (λ (op : Op). PassesOn c.args.point.now c.jump_if_not.result (rule_at c.args.point.now code body op)) (sym c.in-JumpIfNot.is) (c.jump_if_not.ensures code body)

pub returns-in-MakeList : goal.returns-in-MakeList
returns-in-MakeList c = λ code body n r. subst (λ (op : Op). PassesOn c.args.point.now c.make_list.result (rule_at c.args.point.now code body op)) (sym c.in-MakeList.is) (c.make_list.ensures code body)

pub returns-in-Cons : goal.returns-in-Cons
returns-in-Cons c = λ code body n r. subst (λ (op : Op). PassesOn c.args.point.now c.cons.result (rule_at c.args.point.now code body op)) (sym c.in-Cons.is) (c.cons.ensures code body)

pub returns-in-Split : goal.returns-in-Split
returns-in-Split c = λ code body n r. subst (λ (op : Op). PassesOn c.args.point.now c.split.result (rule_at c.args.point.now code body op)) (sym c.in-Split.is) (c.split.ensures code body)

pub returns-in-MakeRec : goal.returns-in-MakeRec
returns-in-MakeRec c = λ code body n r. subst (λ (op : Op). PassesOn c.args.point.now c.make_rec.result (rule_at c.args.point.now code body op)) (sym c.in-MakeRec.is) (c.make_rec.ensures code body)

pub returns-in-Field : goal.returns-in-Field
returns-in-Field c = λ code body n r. subst (λ (op : Op). PassesOn c.args.point.now c.field.result (rule_at c.args.point.now code body op)) (sym c.in-Field.is) (c.field.ensures code body)

pub returns-in-Slide : goal.returns-in-Slide
returns-in-Slide c = λ code body n r. subst (λ (op : Op). PassesOn c.args.point.now c.slide.result (rule_at c.args.point.now code body op)) (sym c.in-Slide.is) (c.slide.ensures code body)

pub returns-in-Call : goal.returns-in-Call
returns-in-Call c = λ code body n r. subst (λ (op : Op). PassesOn c.args.point.now c.call.result (rule_at c.args.point.now code body op)) (sym c.in-Call.is) (c.call.ensures code body n)

pub returns-in-Ret : goal.returns-in-Ret
returns-in-Ret c = λ code body n r. subst (λ (op : Op). PassesOn c.args.point.now c.ret.result (rule_at c.args.point.now code body op)) (sym c.in-Ret.is) (c.ret.ensures code body r)
