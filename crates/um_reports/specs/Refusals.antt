-- The report lines of refusals of a text, each with its place but those of a source that isn't read.
-- Source: this project's own.
use Rattle.std.specs.Prelude.{ℕ, ℤ, List, ◌++◌, codes}
use Rattle.std.specs.Fmt.{signed_decimal}
use Rattle.um_wire.specs.declared.read.ReadStop.{ReadStop}
use Rattle.um_wire.specs.declared.read.ReadStop.TheVariants as read_stop
use Rattle.um_syntax.specs.declared.token.TextStop.{TextStop}
use Rattle.um_syntax.specs.declared.token.TextStop.TheVariants as text_stop
use Rattle.um_types.specs.declared.parse.LimitKind.{LimitKind}
use Rattle.um_types.specs.declared.parse.LimitKind.TheVariants as limit
use Rattle.um_types.specs.declared.parse.ParseStop.{ParseStop}
use Rattle.um_types.specs.declared.parse.ParseStop.TheVariants as parse_stop
use Rattle.um_measures.specs.declared.stop.NameStop.{NameStop}
use Rattle.um_measures.specs.declared.stop.NameStop.TheVariants as name_stop
use Rattle.um_shape.specs.declared.stop.ShapeStop.{ShapeStop}
use Rattle.um_shape.specs.declared.stop.ShapeStop.TheVariants as shape_stop
use Rattle.um_reports.specs.declared.status.Status.{Status}
use Rattle.um_reports.specs.declared.status.Status.TheVariants.{TooLong, ReadFault, Utf8, Lexical, Syntax, Limit, Names}
use Rattle.um_reports.specs.declared.status.Status.TheVariants.{Shape, Units, PowerRange, NotGeneral, CertRange}
use Rattle.um_reports.specs.Places.{place_text}
use Rattle.um_reports.specs.Steps.{line, IsReply}

-- the label and the place
abbrev pub placed : List ℕ → List ℕ → ℕ → List ℕ
placed label bytes at = line (label ++ place_text bytes at)

-- the line and the status of a source that isn't read; want of memory has none
abbrev pub IsReadReply : ReadStop → List ℕ → Status → Type 0
IsReadReply read_stop.TooLong text status = IsReply text status (line (codes "error 2: text too long")) TooLong
IsReadReply read_stop.Failed text status = IsReply text status (line (codes "error 15: read")) ReadFault
IsReadReply read_stop.NoMemory text status = ⊥

-- the line and the status of a refusal of the text; want of memory has none
abbrev pub IsTextReply : List ℕ → TextStop → List ℕ → Status → Type 0
IsTextReply bytes (text_stop.Utf8 at) text status =
    IsReply text status (placed (codes "error 3: not UTF-8 at ") bytes at) Utf8
IsTextReply bytes (text_stop.BadChar at) text status =
    IsReply text status (placed (codes "error 4: character at ") bytes at) Lexical
IsTextReply bytes (text_stop.NumberRange at) text status =
    IsReply text status (placed (codes "error 4: number at ") bytes at) Lexical
IsTextReply bytes (text_stop.PowerText at) text status =
    IsReply text status (placed (codes "error 4: power at ") bytes at) Lexical
IsTextReply bytes text_stop.NoMemory text status = ⊥

abbrev pub limit_name : LimitKind → List ℕ
limit_name limit.Height = codes "height"
limit_name limit.Functions = codes "functions"
limit_name limit.Parameters = codes "parameters"
limit_name limit.Fields = codes "fields"
limit_name limit.UnitParameters = codes "unit parameters"
limit_name limit.Nodes = codes "nodes"
limit_name limit.Depth = codes "depth"
limit_name limit.Slots = codes "slots"

abbrev pub limit_label : LimitKind → List ℕ
limit_label kind = codes "error 6: limit " ++ limit_name kind ++ codes " at "

-- the line and the status of a refusal of the tokens
abbrev pub IsParseReply : List ℕ → ParseStop → List ℕ → Status → Type 0
IsParseReply bytes (parse_stop.Syntax at) text status =
    IsReply text status (placed (codes "error 5: syntax at ") bytes at) Syntax
IsParseReply bytes (parse_stop.Limit kind at) text status =
    IsReply text status (placed (limit_label kind) bytes at) Limit
IsParseReply bytes parse_stop.NoMemory text status = ⊥

-- the line and the status of a refusal of the names
abbrev pub IsNameReply : List ℕ → NameStop → List ℕ → Status → Type 0
IsNameReply bytes (name_stop.Unknown at) text status =
    IsReply text status (placed (codes "error 7: unknown name at ") bytes at) Names
IsNameReply bytes (name_stop.Twice at) text status =
    IsReply text status (placed (codes "error 7: declared twice at ") bytes at) Names
IsNameReply bytes (name_stop.WrongCount at) text status =
    IsReply text status (placed (codes "error 7: wrong count at ") bytes at) Names
IsNameReply bytes (name_stop.Hole at) text status =
    IsReply text status (placed (codes "error 7: hole at ") bytes at) Names
IsNameReply bytes (name_stop.Range at) text status =
    IsReply text status (placed (codes "error 10: power range at ") bytes at) PowerRange
IsNameReply bytes name_stop.NoMemory text status = ⊥

-- the line and the status of a refusal of the shapes
abbrev pub IsShapeReply : List ℕ → ShapeStop → List ℕ → Status → Type 0
IsShapeReply bytes (shape_stop.Shape at) text status =
    IsReply text status (placed (codes "error 8: shape at ") bytes at) Shape
IsShapeReply bytes (shape_stop.Depth at) text status =
    IsReply text status (placed (limit_label limit.Depth) bytes at) Limit
IsShapeReply bytes shape_stop.NoMemory text status = ⊥

-- ---- of a function, by its name and a place

-- no units satisfy its equations up to the one at the place
abbrev pub units_label : List ℕ → List ℕ
units_label name = codes "error 9: units of " ++ name ++ codes " at "

abbrev pub IsUnitsReply : List ℕ → List ℕ → ℕ → List ℕ → Status → Type 0
IsUnitsReply bytes name at text status = IsReply text status (placed (units_label name) bytes at) Units

-- some units satisfy its equations up to the one at the place, but none with its unit parameters as units of their own
abbrev pub not_general_label : List ℕ → List ℕ
not_general_label name = codes "error 19: not general in " ++ name ++ codes " at "

abbrev pub IsNotGeneralReply : List ℕ → List ℕ → ℕ → List ℕ → Status → Type 0
IsNotGeneralReply bytes name at text status = IsReply text status (placed (not_general_label name) bytes at) NotGeneral

-- a power passes the range there
abbrev pub range_label : List ℕ → List ℕ
range_label name = codes "error 10: power range of " ++ name ++ codes " at "

abbrev pub IsRangeReply : List ℕ → List ℕ → ℕ → List ℕ → Status → Type 0
IsRangeReply bytes name at text status = IsReply text status (placed (range_label name) bytes at) PowerRange

-- it has more slots than are allowed; the place is that of its name
abbrev pub IsSlotsReply : List ℕ → ℕ → List ℕ → Status → Type 0
IsSlotsReply bytes at text status = IsReply text status (placed (limit_label limit.Slots) bytes at) Limit

-- the number is too large for its certificate
abbrev pub IsCertificateReply : List ℕ → ℤ → List ℕ → Status → Type 0
IsCertificateReply name number text status =
    IsReply text status
    (line (codes "error 21: certificate of " ++ name ++ codes ": number " ++ signed_decimal number)) CertRange
