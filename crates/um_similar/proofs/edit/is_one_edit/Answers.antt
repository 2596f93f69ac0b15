use Rattle.std.proofs.Common.{◌∙◌, arith}
use Rattle.um_similar.proofs.EditSteps.{second_ends}
use Rattle.um_similar.proofs.edit.is_one_edit.Goals as goal

pub returns-then-i-second : goal.returns-then-i-second
returns-then-i-second c = record {
  edit = second_ends c.args.first.now c.args.second.now c.loop-i.i (omega (arith, c.loop-i-test.true)) (omega (arith, c.if-i-second.true)) ∙ c.loop-i.invariant.same;
}
