-- How many units are left open: in notes, and in an expression.
-- Source: F# specification, Units Of Measure, on `_`; Kennedy (1996): each use of an earlier function is a new instance
-- of its scheme. That a record's units are left open where its value is written is this project's own.
use Rattle.std.specs.Prelude.{ℕ, ◌+◌, List, [], ◌∷◌, Option, Some, None, slice_get}
use Rattle.um_tree.specs.declared.note.UnitNote.{UnitNote}
use Rattle.um_tree.specs.declared.note.UnitNote.TheVariants.{Hole, Written}
use Rattle.um_tree.specs.TypeTree.{NoteTree, bool_note, num_note, list_note, record_note}
use Rattle.um_tree.specs.ExprTree.{ExprTree, ExprTrees, truth, number, local, call, negate, not_expr, pown, arith}
use Rattle.um_tree.specs.ExprTree.{compare, both, either, if, bind, split, nil, list_expr, cons, record_expr, field}
use Rattle.um_tree.specs.ExprTree.{none, more}
use Rattle.um_tree.specs.ProgramTree.{RecordTree, SchemeTree}

-- ---- notes

abbrev pub unit_holes : UnitNote → ℕ
unit_holes Hole = 1
unit_holes (Written u) = 0

abbrev pub units_holes : List UnitNote → ℕ
units_holes [] = 0
units_holes (n ∷ ns) = unit_holes n + units_holes ns

abbrev pub note_holes : NoteTree → ℕ
note_holes bool_note = 0
note_holes (num_note n) = unit_holes n
note_holes (list_note n) = note_holes n
note_holes (record_note r ns) = units_holes ns

abbrev pub notes_holes : List NoteTree → ℕ
notes_holes [] = 0
notes_holes (n ∷ ns) = note_holes n + notes_holes ns

abbrev pub result_holes : Option NoteTree → ℕ
result_holes None = 0
result_holes (Some n) = note_holes n

-- ---- expressions

-- what a call goes to: an earlier function by its scheme, the function itself, or none that it may call
pub data Callee : Type 0 where
  known_by : SchemeTree → Callee
  itself : Callee
  nobody : Callee

-- one for each variable of the scheme. A call of the function itself leaves no unit open
abbrev pub callee_holes : Callee → ℕ
callee_holes (known_by s) = s.vars
callee_holes itself = 0
callee_holes nobody = 0

-- one for each unit that the record takes
abbrev pub record_holes : Option RecordTree → ℕ
record_holes None = 0
record_holes (Some d) = d.units

module _ (records : List RecordTree) (callee : ℕ → Callee) where
  abbrev mutual
    pub expr_holes : ExprTree → ℕ
    expr_holes (truth at b) = 0
    expr_holes (number at c n) = unit_holes n
    expr_holes (local at k) = 0
    expr_holes (call at j es) = callee_holes (callee j) + exprs_holes es
    expr_holes (negate at a) = expr_holes a
    expr_holes (not_expr at a) = expr_holes a
    expr_holes (pown at a k) = expr_holes a
    expr_holes (arith at op a b) = expr_holes a + expr_holes b
    expr_holes (compare at sign a b) = expr_holes a + expr_holes b
    expr_holes (both at a b) = expr_holes a + expr_holes b
    expr_holes (either at a b) = expr_holes a + expr_holes b
    expr_holes (if at c a b) = expr_holes c + (expr_holes a + expr_holes b)
    expr_holes (bind at a b) = expr_holes a + expr_holes b
    expr_holes (split at l a b) = expr_holes l + (expr_holes a + expr_holes b)
    expr_holes (nil at n) = note_holes n
    expr_holes (list_expr at es) = exprs_holes es
    expr_holes (cons at a b) = expr_holes a + expr_holes b
    expr_holes (record_expr at r es) = record_holes (slice_get records r) + exprs_holes es
    expr_holes (field at r k a) = expr_holes a

    pub exprs_holes : ExprTrees → ℕ
    exprs_holes none = 0
    exprs_holes (more e es) = expr_holes e + exprs_holes es
