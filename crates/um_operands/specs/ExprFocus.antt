-- What is in focus, without where it lies in memory, and its height.
-- Source: this project's own.
use Rattle.std.specs.Prelude.{ℕ, ◌+◌, max, List}
use Rattle.um_tree.specs.RawTree.{binder_syntax}
use Rattle.um_tree.specs.Heights.{expr_height}
use Rattle.um_operands.specs.declared.begun.Begun.{Begun}
use Rattle.um_operands.specs.declared.focus.Expected.{Expected as ExpectedToken}
use Rattle.um_operands.specs.declared.focus.Expected.TheVariants as expected
use Rattle.um_operands.specs.declared.focus.Focus.{Focus}
use Rattle.um_operands.specs.declared.focus.Focus.TheVariants as focus
use Rattle.um_operands.specs.ExprBegun.{Frame, Expected, LetBinder, LetEqual, FieldName, FieldEqual, DotName, ArmBegin}
use Rattle.um_operands.specs.ExprBegun.{ArmOpen, ArmClose, ArmArrow, HeadBinder, HeadCons, TailBinder, TailArrow}
use Rattle.um_operands.specs.ExprBegun.{NilColon, PownMinus, PownDigits, PownClose, State, Need, Have, HavePower}
use Rattle.um_operands.specs.ExprBegun.{Greater, Inside}
use Rattle.um_operands.specs.ExprLeast.{expected_least}
use Rattle.um_operands.specs.ExprOperands.{operand_expr, read_fields}
use Rattle.um_operands.specs.ExprStack.{frames_of}

abbrev pub view_expected : ExpectedToken → Expected
view_expected (expected.LetBinder at) = LetBinder at
view_expected (expected.LetEqual at x) = LetEqual at (binder_syntax x)
view_expected (expected.FieldName at before) = FieldName at (read_fields before)
view_expected (expected.FieldEqual at before p x) = FieldEqual at (read_fields before) p x
view_expected (expected.DotName at e) = DotName at (operand_expr e)
view_expected (expected.ArmBegin at l) = ArmBegin at (operand_expr l)
view_expected (expected.ArmOpen at l) = ArmOpen at (operand_expr l)
view_expected (expected.ArmClose at l) = ArmClose at (operand_expr l)
view_expected (expected.ArmArrow at l) = ArmArrow at (operand_expr l)
view_expected (expected.HeadBinder m) = HeadBinder m.at (operand_expr m.list) (operand_expr m.empty)
view_expected (expected.HeadCons m x) =
    HeadCons m.at (operand_expr m.list) (operand_expr m.empty) (binder_syntax x.value)
view_expected (expected.TailBinder m x) =
    TailBinder m.at (operand_expr m.list) (operand_expr m.empty) (binder_syntax x.value)
view_expected (expected.TailArrow m x y) =
    TailArrow m.at (operand_expr m.list) (operand_expr m.empty) (binder_syntax x.value) (binder_syntax y.value)
view_expected (expected.NilColon at) = NilColon at
view_expected (expected.PownMinus at e) = PownMinus at (operand_expr e)
view_expected (expected.PownDigits at e) = PownDigits at (operand_expr e)
view_expected (expected.PownClose at e k) = PownClose at (operand_expr e) k

abbrev pub state_of : List Frame → Focus → State
state_of frames focus.Wanted = Need frames
state_of frames (focus.Read t) = Have frames (operand_expr t)
state_of frames (focus.Power t) = HavePower frames (operand_expr t)
state_of frames (focus.Greater at left) = Greater frames at (operand_expr left)
state_of frames (focus.Inside p) = Inside frames (view_expected p)

-- the frames that are open in an expression that has begun, and its state
abbrev pub open_in : Begun → List Frame
open_in b = frames_of b.frames

abbrev pub begun_state : Begun → State
begun_state b = state_of (open_in b) b.focus

-- the height of what is in focus; what is missing counts 1
abbrev pub focus_height : Focus → ℕ
focus_height focus.Wanted = 1
focus_height (focus.Read t) = expr_height (operand_expr t)
focus_height (focus.Power t) = expr_height (operand_expr t)
focus_height (focus.Greater at left) = max (expr_height (operand_expr left)) 1 + 1
focus_height (focus.Inside p) = expected_least (view_expected p)
