-- How code is printed: of each function a line with its name and the number of its parameters, and then a line for each
-- of its instructions, with its address.
-- Source: this project's own.
use Rattle.std.specs.Prelude.{ℕ, ◌+◌, ◌-◌, Bool, true, false, List, [], ◌∷◌, ◌++◌, codes, take, drop, slice_get, Option}
use Rattle.std.specs.Prelude.{Some, None}
use Rattle.std.specs.List.{flat_map}
use Rattle.std.specs.Fmt.{decimal, signed_decimal}
use Rattle.um_tree.specs.ProgramTree.{FunctionTree, ProgramTree}
use Rattle.um_show.specs.NumberText.{number_text}
use Rattle.um_show.specs.SchemeText.{record_name}
use Rattle.um_machine.specs.declared.op.Op.{Op}
use Rattle.um_machine.specs.declared.table.Operand.{Operand}
use Rattle.um_machine.specs.declared.table.Operand.TheVariants as operand
use Rattle.um_machine.specs.declared.code.Entry.{Entry}
use Rattle.um_machine.specs.declared.code.Code.{Code}
use Rattle.um_machine.specs.Table.{op_word, op_operands}

abbrev pub truth_text : Bool → List ℕ
truth_text true = codes "true"
truth_text false = codes "false"

abbrev pub declared_function_name : Option FunctionTree → List ℕ
declared_function_name None = []
declared_function_name (Some f) = f.name

-- the name of the function of this number
abbrev pub function_name : ProgramTree → ℕ → List ℕ
function_name p f = declared_function_name (slice_get p.functions f)

-- numbers in base 10, records and functions by their names
abbrev pub operand_text : ProgramTree → Operand → List ℕ
operand_text p (operand.Num c) = number_text c
operand_text p (operand.Bool b) = truth_text b
operand_text p (operand.Count n) = decimal n
operand_text p (operand.Record r) = record_name p r
operand_text p (operand.Function f) = function_name p f
operand_text p (operand.Power k) = signed_decimal k

-- the instruction's word, and its operands after spaces
abbrev pub op_text : ProgramTree → Op → List ℕ
op_text p i = op_word i ++ flat_map (λ o. codes " " ++ operand_text p o) (op_operands i)

-- the lines of instructions from an address on
abbrev pub op_lines : ProgramTree → ℕ → List Op → List ℕ
op_lines p a [] = []
op_lines p a (i ∷ is) = decimal a ++ codes " " ++ op_text p i ++ codes "\n" ++ op_lines p (a + 1) is

-- the instructions of an entry
abbrev pub ops_of : Entry → List Op → List Op
ops_of e ops = take (e.end - e.start) (drop e.start ops)

abbrev pub function_lines : ProgramTree → List Op → FunctionTree → Entry → List ℕ
function_lines p ops f e =
    f.name ++ codes " " ++ decimal e.params ++ codes "\n" ++ op_lines p e.start (ops_of e ops)

-- function by function, each with its entry
abbrev pub functions_lines : ProgramTree → List Op → List FunctionTree → List Entry → List ℕ
functions_lines p ops [] es = []
functions_lines p ops (f ∷ fs) [] = []
functions_lines p ops (f ∷ fs) (e ∷ es) = function_lines p ops f e ++ functions_lines p ops fs es

abbrev pub listing_text : ProgramTree → Code → List ℕ
listing_text p code = functions_lines p code.ops p.functions code.entries
