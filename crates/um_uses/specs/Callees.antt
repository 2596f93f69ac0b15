-- What the calls in a function go to, given the schemes of the functions before it, and how many holes a function has.
-- Source: Kennedy (1996): a recursive use has one type, an earlier function is used at any instance of its scheme.
use Rattle.std.specs.Prelude.{ℕ, ◌+◌, nat_lt, ◌==◌, ◌&&◌, Bool, if◌then◌else◌, is_some, List, Option, Some, None}
use Rattle.std.specs.Prelude.{slice_get}
use Rattle.um_tree.specs.ProgramTree.{RecordTree, FunctionTree, SchemeTree}
use Rattle.um_uses.specs.Holes.{Callee, known_by, itself, nobody, notes_holes, result_holes, expr_holes}

abbrev pub known_function : Option SchemeTree → Callee
known_function (Some s) = known_by s
known_function None = nobody

-- the function may call itself
abbrev pub may_recur : FunctionTree → Bool
may_recur f = f.recursive && is_some f.result

abbrev pub callee_of : List SchemeTree → ℕ → Bool → ℕ → Callee
callee_of schemes i recurs j =
    if nat_lt j i then known_function (slice_get schemes j) else if j == i && recurs then itself else nobody

abbrev pub callee : List SchemeTree → ℕ → FunctionTree → ℕ → Callee
callee schemes i f = callee_of schemes i (may_recur f)

-- ---- the holes of a function: those of its parameters, of its result and of its body, in this order

abbrev pub head_holes : FunctionTree → ℕ
head_holes f = notes_holes f.params + result_holes f.result

abbrev pub function_holes : List RecordTree → List SchemeTree → ℕ → FunctionTree → ℕ
function_holes records schemes i f =
    notes_holes f.params + (result_holes f.result + expr_holes records (callee schemes i f) f.body)
