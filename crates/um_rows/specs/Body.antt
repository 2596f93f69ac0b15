-- What the code knows of a body, as the derivation sees it.
-- Source: this project's own.
use Rattle.std.specs.Prelude.{◌≡◌, ℕ, ◌+◌, ◌≤◌, List, [], ◌++◌, length, map, Option, Some, None, Result}
use Rattle.um_units.specs.PowerMap.{nth}
use Rattle.um_tree.specs.declared.program.Record.{Record}
use Rattle.um_tree.specs.declared.program.Scheme.{Scheme}
use Rattle.um_tree.specs.TypeTree.{TypeTree, type_tree, type_trees, NoteTree}
use Rattle.um_tree.specs.ExprTree.{ExprTree, ExprTrees, expr_tree}
use Rattle.um_tree.specs.ProgramTree.{Signature, record_tree, scheme_tree, result_tree}
use Rattle.um_slots.specs.declared.context.Context.{Context}
use Rattle.um_slots.specs.declared.definition.Definition.{Definition}
use Rattle.um_slots.specs.Holes.{Callee, expr_holes, exprs_holes}
use Rattle.um_slots.specs.Callees.{callee_of}
use Rattle.um_equal_types.specs.declared.row.Row.{Row}
use Rattle.um_equal_types.specs.declared.row.Rows.{Rows}
use Rattle.um_rows.specs.declared.walker.Walk.{Walk as Walker}
use Rattle.um_rows.specs.declared.progress.State.{State}
use Rattle.um_equal_types.specs.Steps.{Step, rows_of, first_past}
use Rattle.um_equal_types.specs.Against.{against}
use Rattle.um_rows.specs.Rules.{Derived}
use Rattle.um_rows.specs.Derivation.{offered, derive}
use Rattle.um_rows.specs.Walk.{Walked, AllWalked, PairWalked, pair, walk, walk_all}

-- what calls of the function itself are used at
abbrev pub noted_signature : Context → Signature
noted_signature c = record { params = map type_tree c.params.items; result = type_tree c.result }

-- what a call of function j goes to
abbrev pub called : List Scheme → Context → ℕ → Callee
called schemes c j = callee_of (map scheme_tree schemes) c.number c.recurs j

-- and what it is used at, if its holes are numbered from n on
abbrev pub offer : List Record → List Scheme → Context → ℕ → ℕ → Option Signature
offer records schemes c n j =
    offered (nth c.holes.items) (nth c.names.items) (map record_tree records) (noted_signature c) (called schemes c) n
    (called schemes c j)

abbrev pub body_walk : List Record → List Scheme → Context → List Row → ℕ → List TypeTree → ExprTree → Result Walked ℕ
body_walk records schemes c =
    walk (nth c.holes.items) (nth c.names.items) (map record_tree records) (noted_signature c) (called schemes c)

abbrev pub body_walk_pair : List Record → List Scheme → Context → List Row → ℕ → List TypeTree → ExprTree → ExprTree
    → Result PairWalked ℕ
body_walk_pair records schemes c rows n vars a b =
    pair (body_walk records schemes c rows n vars a) (λ x. body_walk records schemes c x.rows x.holes vars b)

abbrev pub body_walk_all : List Record → List Scheme → Context → List Row → ℕ → List TypeTree → ExprTrees
    → Result AllWalked ℕ
body_walk_all records schemes c =
    walk_all (nth c.holes.items) (nth c.names.items) (map record_tree records) (noted_signature c) (called schemes c)

abbrev pub body_holes : List Record → List Scheme → Context → ExprTree → ℕ
body_holes records schemes c = expr_holes (map record_tree records) (called schemes c)

abbrev pub bodies_holes : List Record → List Scheme → Context → ExprTrees → ℕ
bodies_holes records schemes c = exprs_holes (map record_tree records) (called schemes c)

-- ---- a walk that goes on from a state
abbrev pub walk_from : Walker → State → ExprTree → Result Walked ℕ
walk_from w s = body_walk w.records.now w.schemes.now w.context s.progress.rows.items s.progress.holes
    (map type_tree s.scope.items)

abbrev pub walk_pair_from : Walker → State → ExprTree → ExprTree → Result PairWalked ℕ
walk_pair_from w s = body_walk_pair w.records.now w.schemes.now w.context s.progress.rows.items s.progress.holes
    (map type_tree s.scope.items)

abbrev pub walk_all_from : Walker → State → ExprTrees → Result AllWalked ℕ
walk_all_from w s = body_walk_all w.records.now w.schemes.now w.context s.progress.rows.items s.progress.holes
    (map type_tree s.scope.items)

abbrev pub holes_in : Walker → ExprTree → ℕ
holes_in w = body_holes w.records.now w.schemes.now w.context

abbrev pub all_holes_in : Walker → ExprTrees → ℕ
all_holes_in w = bodies_holes w.records.now w.schemes.now w.context

-- so many holes more have units
abbrev pub HasRoom : Walker → State → ℕ → Type 0
HasRoom w s m = s.progress.holes + m ≤ length w.context.holes.items

-- ---- the head of a function: its parameters and its result's note
abbrev pub noted_rows : ℕ → TypeTree → TypeTree → Option NoteTree → List Step
noted_rows at t s None = []
noted_rows at t s (Some m) = against at t s

-- the derivation of the body, and all steps after the head
abbrev pub body_derived : List Record → List Scheme → Context → ℕ → ExprTree → Derived
body_derived records schemes c n e =
    derive (nth c.holes.items) (nth c.names.items) (map record_tree records) (noted_signature c) (called schemes c) n
    (map type_tree c.params.items) e

abbrev pub body_steps : List Record → List Scheme → Context → ℕ → ℕ → Option NoteTree → ExprTree → List Step
body_steps records schemes c n at note e =
    let d = body_derived records schemes c n e in
    d.steps ++ noted_rows at d.type (type_tree c.result) note

abbrev pub walk_derived : Walker → ℕ → Definition → Derived
walk_derived w n d = body_derived w.records.now w.schemes.now w.context n (expr_tree d.body.now)

abbrev pub walk_steps : Walker → ℕ → Definition → List Step
walk_steps w n d =
    body_steps w.records.now w.schemes.now w.context n d.at (result_tree d.result.now) (expr_tree d.body.now)

-- the rows of a body, after the head
pub record AreBodyRows (steps : List Step) (d : Derived) (params : List TypeTree) (count : ℕ) (r : Rows) : Type 0 where
  pub in_range : first_past steps ≡ None
  pub slots_are : r.slots ≡ count
  pub list_is : r.list.items.items ≡ rows_of steps
  pub params_are : type_trees r.params ≡ params
  pub result_is : type_tree r.result ≡ d.type
