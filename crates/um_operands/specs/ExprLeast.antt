-- The least height of an expression that begins with what was read, and the least that the greatest height of the
-- notes and types in it is.
-- A part that is missing counts 1.
-- Source: this project's own.
use Rattle.std.specs.Prelude.{ℕ, ◌+◌, max, List, [], ◌∷◌}
use Rattle.um_tree.specs.RawTree.{exprs_in_order, fields_in_order}
use Rattle.um_tree.specs.Heights.{expr_height, tallest_expr, tallest_field}
use Rattle.um_types.specs.NoteMachine.{note_least}
use Rattle.um_types.specs.TypeMachine.{type_least}
use Rattle.um_operands.specs.ExprBegun.{Frame, InBracket, InItem, InField, InValue, InBody, InTest, InThen, InElse}
use Rattle.um_operands.specs.ExprBegun.{InMatched, InEmptyArm, InFullArm, InNegate, InNot, InPown, InRight, InArgument}
use Rattle.um_operands.specs.ExprBegun.{Expected, LetBinder, LetEqual, FieldName, FieldEqual, DotName, ArmBegin}
use Rattle.um_operands.specs.ExprBegun.{ArmOpen, ArmClose, ArmArrow, HeadBinder, HeadCons, TailBinder, TailArrow}
use Rattle.um_operands.specs.ExprBegun.{NilColon, PownMinus, PownDigits, PownClose, State, Need, Have, HavePower}
use Rattle.um_operands.specs.ExprBegun.{Greater, Inside, InNote, InType, Refused}
use Rattle.um_operands.specs.ExprHeights.{notes_in, notes_in_all, notes_in_fields}

-- the height of a frame's other parts
abbrev pub side : Frame → ℕ
side (InBracket at) = 0
side (InItem at before) = tallest_expr (exprs_in_order before)
side (InField at before place x) = tallest_field (fields_in_order before)
side (InValue at x) = 1
side (InBody at x v) = expr_height v
side (InTest at) = 1
side (InThen at c) = max (expr_height c) 1
side (InElse at c a) = max (expr_height c) (expr_height a)
side (InMatched at) = 1
side (InEmptyArm at l) = max (expr_height l) 1
side (InFullArm at l a x y) = max (expr_height l) (expr_height a)
side (InNegate at) = 0
side (InNot at) = 0
side (InPown at) = 0
side (InRight at sign left) = expr_height left
side (InArgument at f before) = tallest_expr (exprs_in_order before)

-- the height of the frames once the innermost holds something of this height
abbrev pub least_over : List Frame → ℕ → ℕ
least_over [] h = h
least_over (frame ∷ frames) h = least_over frames (max (side frame) h + 1)

-- the height of a run of tokens once it is whole
abbrev pub expected_least : Expected → ℕ
expected_least (LetBinder at) = 2
expected_least (LetEqual at x) = 2
expected_least (FieldName at before) = max (tallest_field (fields_in_order before)) 1 + 1
expected_least (FieldEqual at before place x) = max (tallest_field (fields_in_order before)) 1 + 1
expected_least (DotName at e) = expr_height e + 1
expected_least (ArmBegin at l) = max (expr_height l) 1 + 1
expected_least (ArmOpen at l) = max (expr_height l) 1 + 1
expected_least (ArmClose at l) = max (expr_height l) 1 + 1
expected_least (ArmArrow at l) = max (expr_height l) 1 + 1
expected_least (HeadBinder at l a) = max (expr_height l) (max (expr_height a) 1) + 1
expected_least (HeadCons at l a x) = max (expr_height l) (max (expr_height a) 1) + 1
expected_least (TailBinder at l a x) = max (expr_height l) (max (expr_height a) 1) + 1
expected_least (TailArrow at l a x y) = max (expr_height l) (max (expr_height a) 1) + 1
expected_least (NilColon at) = 3
expected_least (PownMinus at e) = expr_height e + 1
expected_least (PownDigits at e) = expr_height e + 1
expected_least (PownClose at e n) = expr_height e + 1

abbrev pub expr_least : State → ℕ
expr_least (Need frames) = least_over frames 1
expr_least (Have frames t) = least_over frames (expr_height t)
expr_least (HavePower frames t) = least_over frames (expr_height t)
expr_least (Greater frames at left) = least_over frames (max (expr_height left) 1 + 1)
expr_least (Inside frames expected) = least_over frames (expected_least expected)
expr_least (InNote frames at c n) = least_over frames 1
expr_least (InType frames at s) = least_over frames 3
expr_least Refused = 0

-- the same for the heights of notes and types
abbrev pub notes_side : Frame → ℕ
notes_side (InBracket at) = 0
notes_side (InItem at before) = notes_in_all (exprs_in_order before)
notes_side (InField at before place x) = notes_in_fields (fields_in_order before)
notes_side (InValue at x) = 0
notes_side (InBody at x v) = notes_in v
notes_side (InTest at) = 0
notes_side (InThen at c) = notes_in c
notes_side (InElse at c a) = max (notes_in c) (notes_in a)
notes_side (InMatched at) = 0
notes_side (InEmptyArm at l) = notes_in l
notes_side (InFullArm at l a x y) = max (notes_in l) (notes_in a)
notes_side (InNegate at) = 0
notes_side (InNot at) = 0
notes_side (InPown at) = 0
notes_side (InRight at sign left) = notes_in left
notes_side (InArgument at f before) = notes_in_all (exprs_in_order before)

abbrev pub notes_over : List Frame → ℕ → ℕ
notes_over [] m = m
notes_over (frame ∷ frames) m = notes_over frames (max (notes_side frame) m)

abbrev pub expected_notes : Expected → ℕ
expected_notes (LetBinder at) = 0
expected_notes (LetEqual at x) = 0
expected_notes (FieldName at before) = notes_in_fields (fields_in_order before)
expected_notes (FieldEqual at before place x) = notes_in_fields (fields_in_order before)
expected_notes (DotName at e) = notes_in e
expected_notes (ArmBegin at l) = notes_in l
expected_notes (ArmOpen at l) = notes_in l
expected_notes (ArmClose at l) = notes_in l
expected_notes (ArmArrow at l) = notes_in l
expected_notes (HeadBinder at l a) = max (notes_in l) (notes_in a)
expected_notes (HeadCons at l a x) = max (notes_in l) (notes_in a)
expected_notes (TailBinder at l a x) = max (notes_in l) (notes_in a)
expected_notes (TailArrow at l a x y) = max (notes_in l) (notes_in a)
expected_notes (NilColon at) = 1
expected_notes (PownMinus at e) = notes_in e
expected_notes (PownDigits at e) = notes_in e
expected_notes (PownClose at e n) = notes_in e

abbrev pub notes_least : State → ℕ
notes_least (Need frames) = notes_over frames 0
notes_least (Have frames t) = notes_over frames (notes_in t)
notes_least (HavePower frames t) = notes_over frames (notes_in t)
notes_least (Greater frames at left) = notes_over frames (notes_in left)
notes_least (Inside frames expected) = notes_over frames (expected_notes expected)
notes_least (InNote frames at c n) = notes_over frames (note_least n)
notes_least (InType frames at s) = notes_over frames (type_least s)
notes_least Refused = 0

-- the least that the greatest of all heights in the expression is
abbrev pub whole_least : State → ℕ
whole_least st = max (expr_least st) (notes_least st)
