use Rattle.um_forms.specs.ExprForms.{power_of}
use Rattle.um_forms.proofs.expected.inside.Goals as goal

pub returns-in-LetEqual : goal.returns-in-LetEqual
returns-in-LetEqual c = rw c.in-LetEqual.is (c.let_equal.ensures c.args.token.now.start (power_of c.args.token.now))

pub returns-in-FieldEqual : goal.returns-in-FieldEqual
returns-in-FieldEqual c = rw c.in-FieldEqual.is (c.field_equal.ensures c.args.token.now.start (power_of c.args.token.now))

pub returns-in-ArmArrow : goal.returns-in-ArmArrow
returns-in-ArmArrow c = rw c.in-ArmArrow.is (c.arm_arrow.ensures c.args.token.now.start (power_of c.args.token.now))

pub returns-in-TailArrow : goal.returns-in-TailArrow
returns-in-TailArrow c = rw c.in-TailArrow.is (c.tail_arrow.ensures c.args.token.now.start (power_of c.args.token.now))
