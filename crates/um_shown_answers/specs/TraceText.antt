-- The text of a call that stops: the line of `run`, with the node's function and place; the excerpt at the place; the
-- operands; and the calls that are open.
-- Source: this project's own.
use Rattle.std.specs.Prelude.{ℕ, ◌-◌, List, [], ◌∷◌, ◌++◌, length, take, codes, nat_lt, if◌then◌else◌}
use Rattle.std.specs.Prelude.{slice_get, Option, Some, None}
use Rattle.std.specs.Fmt.{decimal}
use Rattle.std.specs.List.{flat_map}
use Rattle.um_frac.specs.declared.number.Trap.TheVariants as trap_of
use Rattle.um_tree.specs.ValueTree.{ValueTree, truth_value, number_value, list_value, record_value}
use Rattle.um_tree.specs.ProgramTree.{FunctionTree}
use Rattle.um_tree.specs.Meaning.{Stop, trap, budget_end, wrong}
use Rattle.um_show.specs.NumberText.{number_text}
use Rattle.um_excerpt.specs.Excerpt.{excerpt}
use Rattle.um_reports.specs.Places.{place_text}
use Rattle.um_reports.specs.Steps.{line}
use Rattle.um_eval.specs.Traces.{Spot, Trace}

-- what `run` says of a call that stops so, without the line feed
abbrev pub stop_label : Stop → List ℕ
stop_label (trap trap_of.Overflow) = codes "error 12: overflow"
stop_label (trap trap_of.DivZero) = codes "error 12: division by zero"
stop_label budget_end = codes "error 13: budget"
stop_label wrong = []

-- ---- operands

-- a number without a unit; operands are numbers
abbrev pub operand_text : ValueTree → List ℕ
operand_text (number_value c) = number_text c
operand_text (truth_value b) = []
operand_text (list_value vs) = []
operand_text (record_value r vs) = []

abbrev pub operand_line : List ℕ → ValueTree → List ℕ
operand_line label v = line (codes "  " ++ label ++ codes ": " ++ operand_text v)

-- of a whole power its base; of another operation both sides; of the end of the budget none
abbrev pub operand_lines : List ValueTree → List ℕ
operand_lines [] = []
operand_lines (v ∷ []) = operand_line (codes "base") v
operand_lines (v ∷ w ∷ more) = operand_line (codes "left") v ++ operand_line (codes "right") w

-- ---- nodes

abbrev pub name_of : Option FunctionTree → List ℕ
name_of None = []
name_of (Some f) = f.name

-- how many more there are than ten
abbrev pub more_line : List Spot → List ℕ
more_line calls =
    if nat_lt 10 (length calls) then line (codes "and " ++ decimal (length calls - 10) ++ codes " more") else []

-- in a program with these functions, from these bytes
module _ (fs : List FunctionTree) (bytes : List ℕ) where
  -- NAME at L:C
  abbrev pub spot_text : Spot → List ℕ
  spot_text s = name_of (slice_get fs s.function) ++ codes " at " ++ place_text bytes s.at

  abbrev pub call_line : Spot → List ℕ
  call_line s = line (codes "called from " ++ spot_text s)

  -- the innermost ten, and how many more
  abbrev pub call_lines : List Spot → List ℕ
  call_lines calls = flat_map call_line (take 10 calls) ++ more_line calls

  -- what follows on what `run` says
  abbrev pub where_text : Spot → List ValueTree → List Spot → List ℕ
  where_text node operands calls =
      line (codes " in " ++ spot_text node) ++ excerpt bytes node.at ++ operand_lines operands ++ call_lines calls

  abbrev pub trace_text : Trace → List ℕ
  trace_text t = stop_label t.why ++ where_text t.node t.operands t.calls
