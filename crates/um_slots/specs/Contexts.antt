-- What the code knows of a function: its keys and holes, and the types of its notes.
-- Source: this project's own.
use Rattle.std.specs.Prelude.{◌≡◌, ℕ, ◌+◌, Bool, List, ◌++◌, map, Option}
use Rattle.um_units.specs.PowerMap.{PowerMap, nth}
use Rattle.um_tree.specs.TypeTree.{type_tree, NoteTree, note_tree}
use Rattle.um_tree.specs.ExprTree.{ExprTree, ExprTrees, expr_tree}
use Rattle.um_tree.specs.ProgramTree.{RecordTree, record_tree, scheme_tree, result_tree}
use Rattle.um_slots.specs.declared.context.Context.{Context}
use Rattle.um_slots.specs.declared.definition.Definition.{Definition}
use Rattle.um_slots.specs.declared.definition.Environment.{Environment}
use Rattle.um_uses.specs.Holes.{Callee, notes_holes, result_holes, expr_holes, exprs_holes}
use Rattle.um_uses.specs.Callees.{callee_of}
use Rattle.um_slots.specs.Keys.{Key, name_keys, notes_keys, result_keys, expr_keys, exprs_keys}
use Rattle.um_slots.specs.Noted.{noted_types, noted_result}

-- what a call of function j goes to
abbrev pub callee_in : Environment → ℕ → Callee
callee_in c = callee_of (map scheme_tree c.schemes.now) c.number c.recurs

abbrev pub holes_in : Environment → ExprTree → ℕ
holes_in c = expr_holes (map record_tree c.records.now) (callee_in c)

abbrev pub all_holes_in : Environment → ExprTrees → ℕ
all_holes_in c = exprs_holes (map record_tree c.records.now) (callee_in c)

abbrev pub keys_in : Environment → ℕ → ExprTree → List Key
keys_in c = expr_keys (map record_tree c.records.now) (callee_in c)

abbrev pub all_keys_in : Environment → ℕ → ExprTrees → List Key
all_keys_in c = exprs_keys (map record_tree c.records.now) (callee_in c)

-- the keys of the whole function
abbrev pub whole_keys : List RecordTree → (ℕ → Callee) → ℕ → List NoteTree → Option NoteTree → ExprTree → List Key
whole_keys records callee units params note e =
    let n = notes_holes params in
    name_keys 0 units
    ++ (notes_keys 0 params ++ (result_keys n note ++ expr_keys records callee (n + result_holes note) e))

abbrev pub definition_keys : Environment → Definition → List Key
definition_keys c d =
    whole_keys (map record_tree c.records.now) (callee_in c) d.units (map note_tree d.params.now)
    (result_tree d.result.now) (expr_tree d.body.now)

-- the context is that of a function with these notes
pub record IsContextOf
    (number : ℕ) (recurs : Bool) (holes names : List PowerMap) (params : List NoteTree) (note : Option NoteTree)
    (c : Context)
    : Type 0 where
  pub number_is : c.number ≡ number
  pub recurs_is : c.recurs ≡ recurs
  pub holes_are : c.holes.items ≡ holes
  pub names_are : c.names.items ≡ names
  pub params_are : map type_tree c.params.items ≡ noted_types (nth holes) (nth names) 0 params
  pub result_is : type_tree c.result ≡ noted_result (nth holes) (nth names) (notes_holes params) note
