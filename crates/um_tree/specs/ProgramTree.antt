-- Programs and schemes as pure records.
-- Source: this project's own programs; schemes after Kennedy 1996.
use Rattle.std.specs.Prelude.{ℕ, Bool, List, map, Option, Some, None}
use Rattle.um_tree.specs.TypeTree.{TypeTree, type_tree, type_trees, NoteTree, note_tree, note_trees}
use Rattle.um_tree.specs.ExprTree.{ExprTree, expr_tree}
use Rattle.um_tree.specs.declared.note.Note.{Note}
use Rattle.um_tree.specs.declared.program.FieldDecl.{FieldDecl}
use Rattle.um_tree.specs.declared.program.Record.{Record}
use Rattle.um_tree.specs.declared.program.Function.{Function}
use Rattle.um_tree.specs.declared.program.Program.{Program}
use Rattle.um_tree.specs.declared.program.Scheme.{Scheme}

-- a field of a record: in its type variable k is the record's k-th unit parameter
pub record FieldTree : Type 0 where
  pub name : List ℕ
  pub type : TypeTree

pub record RecordTree : Type 0 where
  pub name : List ℕ
  pub at : ℕ
  pub units : ℕ
  pub fields : List FieldTree

-- a function: in its notes variable k is its k-th named variable, and the first of them are its unit parameters
pub record FunctionTree : Type 0 where
  pub name : List ℕ
  pub at : ℕ
  pub recursive : Bool
  pub units : ℕ
  pub params : List NoteTree
  pub named : ℕ
  pub result : Option NoteTree
  pub body : ExprTree

pub record ProgramTree : Type 0 where
  pub bases : List (List ℕ)
  pub records : List RecordTree
  pub functions : List FunctionTree

-- the types of a function's parameters and of its result
pub record Signature : Type 0 where
  pub params : List TypeTree
  pub result : TypeTree

-- a scheme: it stands for its signature with any units in place of the variables below `vars`
pub record SchemeTree : Type 0 where
  pub signature : Signature
  pub vars : ℕ

abbrev pub field_tree : FieldDecl → FieldTree
field_tree f = record { name = f.name; type = type_tree f.ty }

abbrev pub record_tree : Record → RecordTree
record_tree r = record { name = r.name; at = r.at; units = r.units; fields = map field_tree r.fields.items.items }

abbrev pub result_tree : Option Note → Option NoteTree
result_tree None = None
result_tree (Some n) = Some (note_tree n)

abbrev pub function_tree : Function → FunctionTree
function_tree f = record {
  name = f.name;
  at = f.at;
  recursive = f.recursive;
  units = f.units;
  params = note_trees f.params;
  named = f.named;
  result = result_tree f.result;
  body = expr_tree f.body;
}

abbrev pub program_tree : Program → ProgramTree
program_tree p = record {
  bases = p.bases;
  records = map record_tree p.records.items.items;
  functions = map function_tree p.functions.items.items;
}

abbrev pub scheme_tree : Scheme → SchemeTree
scheme_tree s = record {
  signature = record { params = type_trees s.params; result = type_tree s.result };
  vars = s.vars;
}
