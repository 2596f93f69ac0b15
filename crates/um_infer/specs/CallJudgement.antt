-- What a call is answered, given the schemes of all functions.
-- Source: this project's own: a call is one more function, after all others.
use Rattle.std.specs.Prelude.{ℕ, List, length}
use Rattle.um_tree.specs.ValueTree.{InputTrees}
use Rattle.um_tree.specs.ProgramTree.{FunctionTree, ProgramTree, SchemeTree}
use Rattle.um_rows.specs.Judgement.{Judgement, judge}
use Rattle.um_slots.specs.CallFunction.{call_function}

-- the judgement of the call of function k, which is f, on the inputs. The result of its scheme is the type of the call
abbrev pub judge_call : ProgramTree → List SchemeTree → ℕ → FunctionTree → InputTrees → Judgement
judge_call p schemes k f inputs =
    judge (length p.bases) p.records schemes (length p.functions) (call_function p.records k f inputs)
