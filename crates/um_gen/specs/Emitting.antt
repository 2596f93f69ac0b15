-- The code of expressions after what is written, where the variables stand at the places that are kept. This mirrors
-- the code.
-- Source: this project's own.
use Rattle.std.specs.Prelude.{ℕ, ◌+◌, Bool, List, [], ◌∷◌, ◌++◌, length, cond}
use Rattle.um_tree.specs.ExprTree.{ExprTree, ExprTrees}
use Rattle.um_machine.specs.declared.op.Op.{Op}
use Rattle.um_gen.specs.declared.emitter.Emitter.{Emitter}
use Rattle.um_gen.specs.ProgramCode.{expr_size, expr_code, all_code}

abbrev pub code_in : Emitter → ℕ → ExprTree → List Op
code_in out d e = expr_code e out.places.items d (length out.ops.items)

abbrev pub all_code_in : Emitter → ℕ → ExprTrees → List Op
all_code_in out d es = all_code es out.places.items d (length out.ops.items)

-- two parts, and the instructions after them
abbrev pub pair_in : Emitter → ℕ → ExprTree → ExprTree → List Op → List Op
pair_in out d x y tail =
    code_in out d x ++ (expr_code y out.places.items (d + 1) (length out.ops.items + expr_size x) ++ tail)

-- an instruction, if the test holds
abbrev pub op_where : Bool → Op → List Op
op_where test op = cond test (op ∷ []) []
