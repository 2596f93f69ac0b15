-- How the code makes an agreement: one type stands at a node, and the other is that type with the rows put in.
-- Source: this project's own: a row is the first unit over the second, so that the second times the row is the first,
-- and the first over the row the second.
use Rattle.std.specs.Prelude.{◌≡◌, ℕ, Bool, true, false, if◌then◌else◌, List, [], ◌∷◌, map, length, get_or}
use Rattle.std.specs.List.{flat_map}
use Rattle.um_units.specs.PowerMap.{PowerMap, mul, inv}
use Rattle.um_tree.specs.TypeTree.{TypeTree, bool_type, num_type, list_type, record_type}
use Rattle.um_equal_types.specs.declared.row.Row.{Row}
use Rattle.um_rows.specs.NodeTypes.{TypedNode}
use Rattle.um_rows.specs.RightShapes.{HaveRightShapes}
use Rattle.um_agree.specs.declared.rule.Rule.{Rule}
use Rattle.um_agree.specs.declared.rule.Rule.TheVariants as asks
use Rattle.um_agree.specs.declared.found.Asked.{Asked}
use Rattle.um_agree.specs.declared.agreement.By.{By}
use Rattle.um_agree.specs.declared.agreement.By.TheVariants as by
use Rattle.um_agree.specs.Agreements.{Agreement, agreement_steps, agreement_rows}

-- the type of the node of this number
abbrev pub node_type : List TypedNode → ℕ → TypeTree
node_type nodes k = let n = get_or nodes k (record { at = 0; type = bool_type }) in n.type

-- at the node of a result's note stands the body's type, the first of the two; at each other node the second
abbrev pub is_result : Rule → Bool
is_result asks.ResultNote = true
is_result r = false

-- and at that of a list with a new head the list, of whose items the agreement speaks
abbrev pub is_head : Rule → Bool
is_head asks.Head = true
is_head r = false

abbrev pub inner : TypeTree → TypeTree
inner (list_type t) = t
inner t = t

abbrev pub known_type : Rule → TypeTree → TypeTree
known_type r t = if is_head r then inner t else t

abbrev pub known_of : Rule → TypeTree → TypeTree → TypeTree
known_of r s t = if is_result r then s else t

-- ---- the other type, from the rows that begin at the agreement's
-- how many rows it has: one for each unit
abbrev pub units_in : TypeTree → ℕ
units_in bool_type = 0
units_in (num_type u) = 1
units_in (list_type t) = units_in t
units_in (record_type r us) = length us

-- a unit times its row, or over it
abbrev pub unit_by : By → PowerMap → PowerMap → PowerMap
unit_by by.Times u r = mul u r
unit_by by.Over u r = mul u (inv r)

abbrev pub units_by : By → List PowerMap → List PowerMap → List PowerMap
units_by b (u ∷ us) (r ∷ rows) = unit_by b u r ∷ units_by b us rows
units_by b us rows = []

-- each unit of the type with its row
abbrev pub type_by : By → TypeTree → List PowerMap → TypeTree
type_by b bool_type rows = bool_type
type_by b (num_type u) (r ∷ rows) = num_type (unit_by b u r)
type_by b (num_type u) [] = num_type u
type_by b (list_type t) rows = list_type (type_by b t rows)
type_by b (record_type q us) rows = record_type q (units_by b us rows)

-- ---- the agreement
abbrev pub by_of : Rule → By
by_of r = if is_result r then by.Over else by.Times

abbrev pub placed_of : Rule → ℕ → TypeTree → TypeTree → Agreement
placed_of r at t other = record {
  rule = r;
  at = at;
  first = if is_result r then t else other;
  second = if is_result r then other else t;
}

-- rows: those from the agreement's first on
abbrev pub made_of : Rule → ℕ → TypeTree → List PowerMap → Agreement
made_of r at t rows = placed_of r at t (type_by (by_of r) t rows)

-- ---- the agreements of a function, as the code has them

-- an agreement by what stands at its node
pub record Known : Type 0 where
  pub rule : Rule
  pub at : ℕ
  pub type : TypeTree

abbrev pub known : Agreement → Known
known a = record { rule = a.rule; at = a.at; type = known_of a.rule a.first a.second }

abbrev pub seen : List TypedNode → Asked → Known
seen nodes x = record { rule = x.rule; at = x.at; type = known_type x.rule (node_type nodes x.node) }

-- the two types of each have one shape
abbrev pub AllRight : List Agreement → Type 0
AllRight [] = Unit {0}
AllRight (a ∷ agreed) = HaveRightShapes (agreement_steps a) × AllRight agreed

pub record AreAgreed (agreed : List Agreement) (nodes : List TypedNode) (rows : List Row) (xs : List Asked)
    : Type 0 where
  pub nodes_are : map (seen nodes) xs ≡ map known agreed
  pub rows_are : rows ≡ flat_map agreement_rows agreed
  pub right : AllRight agreed
