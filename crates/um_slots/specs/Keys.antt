-- What asks for a slot in a function: first its unit parameters, then in the order of its text its holes, and its named
-- variables wherever they occur.
-- Source: Kennedy (1996): the unknowns of the equations. Their order is this project's own.
use Rattle.std.specs.Prelude.{ℕ, zero, suc, ◌+◌, List, [], ◌∷◌, ◌++◌, map, Option, Some, None, slice_get}
use Rattle.um_tree.specs.declared.note.UnitNote.{UnitNote}
use Rattle.um_tree.specs.declared.note.UnitNote.TheVariants.{Hole, Written}
use Rattle.um_tree.specs.TypeTree.{NoteTree, bool_note, num_note, list_note, record_note}
use Rattle.um_tree.specs.ExprTree.{ExprTree, ExprTrees, truth, number, local, call, negate, not_expr, pown, arith}
use Rattle.um_tree.specs.ExprTree.{compare, both, either, if, bind, split, nil, list_expr, cons, record_expr, field}
use Rattle.um_tree.specs.ExprTree.{none, more}
use Rattle.um_tree.specs.ProgramTree.{RecordTree, FunctionTree, SchemeTree}
use Rattle.um_tree.specs.Scheme.{unit_variables}
use Rattle.um_uses.specs.Holes.{unit_holes, note_holes, notes_holes, Callee, callee_holes, record_holes, expr_holes}
use Rattle.um_uses.specs.Callees.{callee, head_holes}

-- what a slot stands for: the hole of a number, or a named variable
pub data Key : Type 0 where
  hole : ℕ → Key
  name : ℕ → Key

-- m holes from n on
abbrev pub hole_keys : ℕ → ℕ → List Key
hole_keys n zero = []
hole_keys n (suc m) = hole n ∷ hole_keys (suc n) m

-- m named variables from n on
abbrev pub name_keys : ℕ → ℕ → List Key
name_keys n zero = []
name_keys n (suc m) = name n ∷ name_keys (suc n) m

-- ---- the keys of notes and expressions whose holes are numbered from n on, in the order of the text, a node before
-- its parts. The named variables of one unit come by their numbers

abbrev pub unit_keys : ℕ → UnitNote → List Key
unit_keys n Hole = hole n ∷ []
unit_keys n (Written u) = map name (unit_variables u)

abbrev pub units_keys : ℕ → List UnitNote → List Key
units_keys n [] = []
units_keys n (m ∷ ms) = unit_keys n m ++ units_keys (n + unit_holes m) ms

abbrev pub note_keys : ℕ → NoteTree → List Key
note_keys n bool_note = []
note_keys n (num_note m) = unit_keys n m
note_keys n (list_note m) = note_keys n m
note_keys n (record_note r ms) = units_keys n ms

abbrev pub notes_keys : ℕ → List NoteTree → List Key
notes_keys n [] = []
notes_keys n (m ∷ ms) = note_keys n m ++ notes_keys (n + note_holes m) ms

abbrev pub result_keys : ℕ → Option NoteTree → List Key
result_keys n None = []
result_keys n (Some m) = note_keys n m

module _ (records : List RecordTree) (callee : ℕ → Callee) where
  abbrev mutual
    pub expr_keys : ℕ → ExprTree → List Key
    expr_keys n (truth at b) = []
    expr_keys n (number at c m) = unit_keys n m
    expr_keys n (local at k) = []
    expr_keys n (call at j es) = hole_keys n (callee_holes (callee j)) ++ exprs_keys (n + callee_holes (callee j)) es
    expr_keys n (negate at a) = expr_keys n a
    expr_keys n (not_expr at a) = expr_keys n a
    expr_keys n (pown at a k) = expr_keys n a
    expr_keys n (arith at op a b) = expr_keys n a ++ expr_keys (n + expr_holes records callee a) b
    expr_keys n (compare at sign a b) = expr_keys n a ++ expr_keys (n + expr_holes records callee a) b
    expr_keys n (both at a b) = expr_keys n a ++ expr_keys (n + expr_holes records callee a) b
    expr_keys n (either at a b) = expr_keys n a ++ expr_keys (n + expr_holes records callee a) b
    expr_keys n (if at c a b) =
        expr_keys n c ++ (expr_keys (n + expr_holes records callee c) a
        ++ expr_keys (n + expr_holes records callee c + expr_holes records callee a) b)
    expr_keys n (bind at a b) = expr_keys n a ++ expr_keys (n + expr_holes records callee a) b
    expr_keys n (split at l a b) =
        expr_keys n l ++ (expr_keys (n + expr_holes records callee l) a
        ++ expr_keys (n + expr_holes records callee l + expr_holes records callee a) b)
    expr_keys n (nil at m) = note_keys n m
    expr_keys n (list_expr at es) = exprs_keys n es
    expr_keys n (cons at a b) = expr_keys n a ++ expr_keys (n + expr_holes records callee a) b
    expr_keys n (record_expr at r es) =
        hole_keys n (record_holes (slice_get records r)) ++ exprs_keys (n + record_holes (slice_get records r)) es
    expr_keys n (field at r k a) = expr_keys n a

    pub exprs_keys : ℕ → ExprTrees → List Key
    exprs_keys n none = []
    exprs_keys n (more e es) = expr_keys n e ++ exprs_keys (n + expr_holes records callee e) es

-- the keys of what is written: notes and body
abbrev pub text_keys : List RecordTree → List SchemeTree → ℕ → FunctionTree → List Key
text_keys records schemes i f =
    notes_keys 0 f.params ++ (result_keys (notes_holes f.params) f.result
    ++ expr_keys records (callee schemes i f) (head_holes f) f.body)

-- those of the unit parameters, which are the first named variables, come before
abbrev pub function_keys : List RecordTree → List SchemeTree → ℕ → FunctionTree → List Key
function_keys records schemes i f = name_keys 0 f.units ++ text_keys records schemes i f
