-- What is open, without where it lies in memory, and the heights beside it.
-- Source: this project's own.
use Rattle.std.specs.Prelude.{◌≡◌, ℕ, ◌+◌, Bool, true, false, max, nat_lt, List, [], ◌∷◌, length, map, reverse, Option}
use Rattle.std.specs.Prelude.{Some, None}
use Rattle.um_tree.specs.RawTree.{ExprSyntax, binder_syntax}
use Rattle.um_unit_texts.specs.UnitCount.{counted}
use Rattle.um_operands.specs.declared.frame.Frame.{Frame as Open}
use Rattle.um_operands.specs.declared.frame.Frame.TheVariants as open_at
use Rattle.um_operands.specs.declared.frame.Entry.{Entry}
use Rattle.um_operands.specs.ExprBegun.{Frame, InBracket, InItem, InField, InValue, InBody, InTest, InThen, InElse}
use Rattle.um_operands.specs.ExprBegun.{InMatched, InEmptyArm, InFullArm, InNegate, InNot, InPown, InRight, InArgument}
use Rattle.um_operands.specs.ExprBegun.{own_rank, top_rank}
use Rattle.um_operands.specs.ExprLeast.{side}
use Rattle.um_operands.specs.ExprOperands.{operand_expr, operand_exprs, read_fields}

abbrev pub view_frame : Open → Frame
view_frame (open_at.InBracket at) = InBracket at
view_frame (open_at.InItem at before) = InItem at (operand_exprs before)
view_frame (open_at.InField at before place x) = InField at (read_fields before) place x
view_frame (open_at.InValue at x) = InValue at (binder_syntax x)
view_frame (open_at.InBody at x v) = InBody at (binder_syntax x) (operand_expr v)
view_frame (open_at.InTest at) = InTest at
view_frame (open_at.InThen at c) = InThen at (operand_expr c)
view_frame (open_at.InElse at c a) = InElse at (operand_expr c) (operand_expr a)
view_frame (open_at.InMatched at) = InMatched at
view_frame (open_at.InEmptyArm at l) = InEmptyArm at (operand_expr l)
view_frame (open_at.InFullArm m x y) =
    InFullArm m.at (operand_expr m.list) (operand_expr m.empty) (binder_syntax x.value) (binder_syntax y.value)
view_frame (open_at.InNegate at) = InNegate at
view_frame (open_at.InNot at) = InNot at
view_frame (open_at.InPown at) = InPown at
view_frame (open_at.InRight at sign left) = InRight at sign (operand_expr left)
view_frame (open_at.InArgument at f before) = InArgument at f (operand_exprs before)

abbrev pub entry_frame : Entry → Frame
entry_frame e = view_frame e.frame

abbrev pub entry_least : Entry → ℕ
entry_least e = e.least

-- the frames from the innermost out
abbrev pub stack : List Entry → List Frame
stack entries = map entry_frame (reverse entries)

-- the least height that the parts in the frames ask for
abbrev pub base : List Frame → ℕ
base [] = 0
base (frame ∷ frames) = max (base frames) (side frame + 1 + length frames)

-- the same for each frame with those around it, counted
abbrev pub bases : List Frame → List ℕ
bases [] = []
bases (frame ∷ frames) = counted (base (frame ∷ frames)) ∷ bases frames

-- whether it is a call
abbrev pub is_call : Frame → Bool
is_call (InArgument at f before) = true
is_call _ = false

-- the innermost frame was taken off
abbrev pub Taken : List Frame → Option Open → List Frame → Type 0
Taken old None new = (old ≡ []) × (new ≡ [])
Taken old (Some frame) new = old ≡ view_frame frame ∷ new

-- the innermost frame was taken off if it needs no token to end up to this rank
abbrev pub Ended : ℕ → List Frame → Option Open → List Frame → Type 0
Ended limit old None new = (new ≡ old) × (nat_lt limit (top_rank old) ≡ true)
Ended limit old (Some frame) new = (old ≡ view_frame frame ∷ new) × (nat_lt limit (own_rank (view_frame frame)) ≡ false)

-- the operand as the whole expression, if no frame is open around it
abbrev pub left_over : Option Open → ExprSyntax → Option ExprSyntax
left_over None t = Some t
left_over (Some frame) t = None
