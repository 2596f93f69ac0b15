-- The state of a reader.
-- Source: this project's own.
use Rattle.std.specs.Prelude.{◌≡◌, ◌≤◌, Some}
use Rattle.um_tree.specs.RawTree.{NoteSyntax, TypeSyntax}
use Rattle.um_unit_texts.specs.UnitStops.{greatest_height}
use Rattle.um_types.specs.TypeHeights.{note_height, whole_height}
use Rattle.um_types.specs.NoteMachine.{note_finish}
use Rattle.um_types.specs.NoteView.{note_state}
use Rattle.um_types.specs.TypeMachine.{type_finish}
use Rattle.um_types.specs.TypeView.{type_state}
use Rattle.um_operands.specs.declared.begun.Begun.{Begun}
use Rattle.um_operands.specs.ExprBegun.{State, InNote, InType}
use Rattle.um_operands.specs.ExprFocus.{open_in, begun_state}
use Rattle.um_expr.specs.declared.reader.ExprReader.{ExprReader}
use Rattle.um_expr.specs.declared.reader.Inner.{Inner}
use Rattle.um_expr.specs.declared.reader.Inner.TheVariants as inner

-- the state of an expression that has begun, with the note or the type that is read inside it
abbrev pub inner_state : Begun → Inner → State
inner_state b inner.Nothing = begun_state b
inner_state b (inner.Note at c n) = InNote (open_in b) at c (note_state n)
inner_state b (inner.Type at t) = InType (open_in b) at (type_state t)

-- the state of a reader
abbrev pub expr_state : ExprReader → State
expr_state r = inner_state r.begun r.inner

-- the note or the type that ends here, if one has begun, isn't too high
abbrev pub IsLow : State → Type 0
IsLow (InNote frames at c n) = (m : NoteSyntax) → note_finish n ≡ Some m → note_height m ≤ greatest_height
IsLow (InType frames at s) = (t : TypeSyntax) → type_finish s ≡ Some t → whole_height t ≤ greatest_height
IsLow st = Unit {0}
