-- How certificates are printed: a line that names the function and says which kind its certificate is of, and after
-- it lines that begin with two spaces.
-- Source: this project's own; units in the notation of F#.
use Rattle.std.specs.Prelude.{ℕ, suc, ◌+◌, ℤ, Bool, if◌then◌else◌, List, [], ◌∷◌, ◌++◌, codes, length, map, Option}
use Rattle.std.specs.Prelude.{Some, None, slice_get}
use Rattle.std.specs.Fmt.{decimal, signed_decimal}
use Rattle.std.specs.List.{join_by, range_with_len}
use Rattle.um_units.specs.PowerMap.{PowerMap}
use Rattle.um_tree.specs.ProgramTree.{FunctionTree, ProgramTree}
use Rattle.um_show.specs.UnitText.{unit_text}
use Rattle.um_check.specs.declared.certificate.Part.{Part}
use Rattle.um_check.specs.declared.certificate.Yes.{Yes}
use Rattle.um_check.specs.declared.certificate.No.{No}

-- the texts of the items, one after the other, each by its number from n on
abbrev pub numbered : {X : Type 0} → (ℕ → X → List ℕ) → ℕ → List X → List ℕ
numbered text n [] = []
numbered text n (x ∷ xs) = text n x ++ numbered text (suc n) xs

-- ---- units and rows

abbrev pub unit_line : List ℕ → List (List ℕ) → ℕ → PowerMap → List ℕ
unit_line word bases k u = word ++ decimal k ++ codes ": " ++ unit_text bases u ++ codes "\n"

-- a row by its number, counted from 0, and its power
abbrev pub part_text : Part → List ℕ
part_text p = decimal p.row ++ codes "*" ++ signed_decimal p.times

abbrev pub parts_text : List Part → List ℕ
parts_text ps = join_by part_text (codes " ") ps

-- of a slot that has parts
abbrev pub rows_line : ℕ → List Part → List ℕ
rows_line k [] = []
rows_line k (p ∷ ps) = codes "  rows " ++ decimal k ++ codes ": " ++ parts_text (p ∷ ps) ++ codes "\n"

-- ---- names

-- after the declared base units those of unit parameters are `$0`, `$1` and so on
abbrev pub parameter_name : ℕ → List ℕ
parameter_name k = codes "$" ++ decimal k

abbrev pub with_parameters : List (List ℕ) → ℕ → List (List ℕ)
with_parameters bases n = bases ++ map parameter_name (range_with_len 0 n)

abbrev pub name_of : Option FunctionTree → List ℕ
name_of None = []
name_of (Some f) = f.name

abbrev pub function_name : ProgramTree → ℕ → List ℕ
function_name p i = name_of (slice_get p.functions i)

-- ---- certificates, over base units of these names

-- the name, the kind and two numbers
abbrev pub heading : List ℕ → List ℕ → ℕ → ℤ → List ℕ
heading name kind n k = name ++ kind ++ decimal n ++ codes " " ++ signed_decimal k ++ codes "\n"

-- the lines that name no unit parameter
abbrev pub open_text : List (List ℕ) → List ℕ → Yes → List ℕ
open_text bases name c =
    heading name (codes " yes ") c.vars c.divisor ++ numbered (unit_line (codes "  slot ") bases) 0 c.solution
    ++ numbered (unit_line (codes "  back ") bases) 0 c.back ++ numbered rows_line 0 c.parts

-- the units that are put for unit parameters
abbrev pub rigid_text : List (List ℕ) → List PowerMap → List ℕ
rigid_text bases us = numbered (unit_line (codes "  rigid ") (with_parameters bases (length us))) 0 us

abbrev pub yes_text : List (List ℕ) → List ℕ → Yes → List ℕ
yes_text bases name c = open_text bases name c ++ rigid_text bases c.rigid

-- not general is a function that has a typing, but none where each unit parameter is a unit of its own
abbrev pub kind_text : Bool → List ℕ
kind_text loose = if loose then codes " no " else codes " not general "

-- the rows are counted from 1 in the heading
abbrev pub no_text : List ℕ → No → List ℕ
no_text name c =
    heading name (kind_text c.loose) (c.last + 1) c.modulus ++ codes "  rows: " ++ parts_text c.parts ++ codes "\n"

-- ---- of a program: of its first functions, and of the refusal of the next

abbrev pub refusal_text : ProgramTree → ℕ → Option No → List ℕ
refusal_text p i None = []
refusal_text p i (Some c) = no_text (function_name p i) c

abbrev pub certificates_text : ProgramTree → List Yes → Option No → List ℕ
certificates_text p list refusal =
    numbered (λ i. yes_text p.bases (function_name p i)) 0 list ++ refusal_text p (length list) refusal
