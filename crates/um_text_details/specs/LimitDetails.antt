-- What is told of a limit that a program passes: how much is allowed.
-- Source: this project's own texts.
use Rattle.std.specs.Prelude.{ℕ, List, ◌++◌, codes}
use Rattle.um_types.specs.declared.parse.LimitKind.{LimitKind}
use Rattle.um_types.specs.declared.parse.LimitKind.TheVariants as limit

abbrev pub most : LimitKind → List ℕ
most limit.Height = codes "400 levels"
most limit.Functions = codes "2000 functions"
most limit.Parameters = codes "16 parameters"
most limit.Fields = codes "32 fields"
most limit.UnitParameters = codes "4 unit parameters"
most limit.Nodes = codes "20000 nodes"
most limit.Depth = codes "400 levels of types"
most limit.Slots = codes "2000 open units"

abbrev pub limit_details : LimitKind → List ℕ
limit_details kind = codes "at most " ++ most kind ++ codes "\n"

-- a power that is out of range
abbrev pub range_details : List ℕ
range_details = codes "powers go from -2147483647 to 2147483647\n"
