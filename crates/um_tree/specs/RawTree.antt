-- The raw tree as pure trees: what the grammar reads, places and brackets included.
-- Source: this project's own.
use Rattle.std.specs.Prelude.{ℕ, Bool, List, [], ◌∷◌, map, ℤ, Option, Some, None}
use Rattle.um_frac.specs.declared.number.Frac.{Frac}
use Rattle.um_tree.specs.declared.expression.Arith.{Arith}
use Rattle.um_tree.specs.declared.expression.Sign.{Sign}
use Rattle.um_tree.specs.declared.raw.RawUnit.{RawUnit}
use Rattle.um_tree.specs.declared.raw.RawUnit.TheOpen.{RawUnit-F, RawUnits-F}
use Rattle.um_tree.specs.declared.raw.RawUnit.TheFolds.{fold-RawUnit}
use Rattle.um_tree.specs.declared.raw.RawNote.{RawNote}
use Rattle.um_tree.specs.declared.raw.RawNote.TheVariants.{Hole as Hole-note, Unit as Unit-note}
use Rattle.um_tree.specs.declared.raw.RawNotes.{RawNotes}
use Rattle.um_tree.specs.declared.raw.RawType.{RawType, Bool as Bool-type, Num as Num-type, Name as Name-type}
use Rattle.um_tree.specs.declared.raw.RawType.{List' as List-type, Bracket' as Bracket-type}
use Rattle.um_tree.specs.declared.raw.RawTypes.{RawTypes}
use Rattle.um_tree.specs.declared.raw.Binder.{Binder}
use Rattle.um_tree.specs.declared.raw.RawExpr.{RawExpr, fold-RawExpr}
use Rattle.um_tree.specs.declared.raw.RawField.{RawField, fold-RawField}
use Rattle.um_tree.specs.declared.raw.RawNode.TheOpen.{RawNode-F, RawExpr-F, RawExprs-F, RawField-F, RawFields-F}
use Rattle.um_tree.specs.declared.raw.RawVar.{RawVar}
use Rattle.um_tree.specs.declared.raw.RawFieldDecl.{RawFieldDecl}
use Rattle.um_tree.specs.declared.raw.RawParam.{RawParam}
use Rattle.um_tree.specs.declared.raw.RawFunction.{RawFunction}
use Rattle.um_tree.specs.declared.raw.RawDecl.{RawDecl}
use Rattle.um_tree.specs.declared.raw.RawDecl.TheVariants.{Base, Short, Record, Function}
use Rattle.um_tree.specs.declared.raw.RawProgram.{RawProgram}

-- a unit text, at the place of its first token
mutual
  pub data UnitSyntax : Type 0 where
    one_syntax : ℕ → UnitSyntax
    -- a measure; a variable without its quote
    measure_syntax : ℕ → List ℕ → UnitSyntax
    variable_syntax : ℕ → List ℕ → UnitSyntax
    power_syntax : UnitSyntax → ℤ → UnitSyntax
    -- a juxtaposition of two or more
    side_syntax : UnitSyntaxes → UnitSyntax
    times_syntax : UnitSyntax → UnitSyntax → UnitSyntax
    over_syntax : UnitSyntax → UnitSyntax → UnitSyntax
    inverse_syntax : ℕ → UnitSyntax → UnitSyntax
    bracket_syntax : ℕ → UnitSyntax → UnitSyntax

  pub data UnitSyntaxes : Type 0 where
    no_units : UnitSyntaxes
    more_units : UnitSyntax → UnitSyntaxes → UnitSyntaxes

abbrev pub units_in_order : List UnitSyntax → UnitSyntaxes
units_in_order [] = no_units
units_in_order (u ∷ us) = more_units u (units_in_order us)

abbrev pub listed_unit : RawUnit-F UnitSyntax UnitSyntaxes → UnitSyntax
listed_unit (RawUnit-F.One at) = one_syntax at
listed_unit (RawUnit-F.Name at x) = measure_syntax at x
listed_unit (RawUnit-F.Var at x) = variable_syntax at x
listed_unit (RawUnit-F.Power u k) = power_syntax u.value k
listed_unit (RawUnit-F.Side us) = side_syntax us
listed_unit (RawUnit-F.Times u v) = times_syntax u.value v.value
listed_unit (RawUnit-F.Over u v) = over_syntax u.value v.value
listed_unit (RawUnit-F.Inverse at u) = inverse_syntax at u.value
listed_unit (RawUnit-F.Bracket at u) = bracket_syntax at u.value

abbrev pub listed_units : RawUnits-F UnitSyntax UnitSyntaxes → UnitSyntaxes
listed_units us = units_in_order us.items.items

-- the tree that a unit text stands for
abbrev pub unit_syntax : RawUnit → UnitSyntax
unit_syntax = fold-RawUnit UnitSyntax UnitSyntaxes listed_unit listed_units

-- what stands between `<` and `>`
pub data NoteSyntax : Type 0 where
  hole_syntax : ℕ → NoteSyntax
  unit_note_syntax : ℕ → UnitSyntax → NoteSyntax

abbrev pub note_syntax : RawNote → NoteSyntax
note_syntax (Hole-note at) = hole_syntax at
note_syntax (Unit-note at u) = unit_note_syntax at (unit_syntax u)

abbrev pub note_syntaxes : RawNotes → List NoteSyntax
note_syntaxes ns = map note_syntax ns.items.items

abbrev pub written_note : Option RawNote → Option NoteSyntax
written_note None = None
written_note (Some n) = Some (note_syntax n)

pub data TypeSyntax : Type 0 where
  bool_syntax : TypeSyntax
  -- `num`, with what stands in its angle brackets, if any
  num_syntax : Option NoteSyntax → TypeSyntax
  record_syntax : ℕ → List ℕ → List NoteSyntax → TypeSyntax
  list_type_syntax : TypeSyntax → TypeSyntax
  bracket_type_syntax : TypeSyntax → TypeSyntax

abbrev pub type_syntax : RawType → TypeSyntax
type_syntax Bool-type = bool_syntax
type_syntax (Num-type n) = num_syntax (written_note n)
type_syntax (Name-type at x ns) = record_syntax at x (note_syntaxes ns)
type_syntax (List-type p t) = list_type_syntax (type_syntax t)
type_syntax (Bracket-type p t) = bracket_type_syntax (type_syntax t)

abbrev pub type_syntaxes : RawTypes → List TypeSyntax
type_syntaxes ts = map type_syntax ts.items.items

-- a name that is bound, or nothing for `_`
pub record BinderSyntax : Type 0 where
  pub at : ℕ
  pub name : Option (List ℕ)

abbrev pub binder_syntax : Binder → BinderSyntax
binder_syntax b = record { at = b.at; name = b.name }

-- an expression: the first part of each is its place
mutual
  pub data ExprSyntax : Type 0 where
    truth_syntax : ℕ → Bool → ExprSyntax
    number_syntax : ℕ → Frac → Option NoteSyntax → ExprSyntax
    name_syntax : ℕ → List ℕ → ExprSyntax
    -- a name with arguments, at least one
    call_syntax : ℕ → List ℕ → ExprSyntaxes → ExprSyntax
    negate_syntax : ℕ → ExprSyntax → ExprSyntax
    not_syntax : ℕ → ExprSyntax → ExprSyntax
    pown_syntax : ℕ → ExprSyntax → ℤ → ExprSyntax
    arith_syntax : ℕ → Arith → ExprSyntax → ExprSyntax → ExprSyntax
    compare_syntax : ℕ → Sign → ExprSyntax → ExprSyntax → ExprSyntax
    and_syntax : ℕ → ExprSyntax → ExprSyntax → ExprSyntax
    or_syntax : ℕ → ExprSyntax → ExprSyntax → ExprSyntax
    if_syntax : ℕ → ExprSyntax → ExprSyntax → ExprSyntax → ExprSyntax
    let_syntax : ℕ → BinderSyntax → ExprSyntax → ExprSyntax → ExprSyntax
    -- the list, the empty arm, head and tail, the full arm
    match_syntax : ℕ → ExprSyntax → ExprSyntax → BinderSyntax → BinderSyntax → ExprSyntax → ExprSyntax
    nil_syntax : ℕ → TypeSyntax → ExprSyntax
    list_syntax : ℕ → ExprSyntaxes → ExprSyntax
    cons_syntax : ℕ → ExprSyntax → ExprSyntax → ExprSyntax
    fields_syntax : ℕ → FieldSyntaxes → ExprSyntax
    -- the place and the name of the field, and the part
    field_syntax : ℕ → ℕ → List ℕ → ExprSyntax → ExprSyntax
    bracket_expr_syntax : ℕ → ExprSyntax → ExprSyntax

  pub data ExprSyntaxes : Type 0 where
    no_exprs : ExprSyntaxes
    more_exprs : ExprSyntax → ExprSyntaxes → ExprSyntaxes

  -- fields with their places and names
  pub data FieldSyntaxes : Type 0 where
    no_fields : FieldSyntaxes
    more_fields : ℕ → List ℕ → ExprSyntax → FieldSyntaxes → FieldSyntaxes

-- a field with its place, its name and its part
pub record FieldPart : Type 0 where
  pub at : ℕ
  pub name : List ℕ
  pub part : ExprSyntax

abbrev pub exprs_in_order : List ExprSyntax → ExprSyntaxes
exprs_in_order [] = no_exprs
exprs_in_order (e ∷ es) = more_exprs e (exprs_in_order es)

abbrev pub fields_in_order : List FieldPart → FieldSyntaxes
fields_in_order [] = no_fields
fields_in_order (f ∷ fs) = more_fields f.at f.name f.part (fields_in_order fs)

abbrev pub listed_node : RawNode-F (ℕ → ExprSyntax) ExprSyntax ExprSyntaxes FieldPart FieldSyntaxes → ℕ → ExprSyntax
listed_node (RawNode-F.Bool b) at = truth_syntax at b
listed_node (RawNode-F.Num c n) at = number_syntax at c (written_note n)
listed_node (RawNode-F.Name x) at = name_syntax at x
listed_node (RawNode-F.Call x es) at = call_syntax at x es
listed_node (RawNode-F.Neg a) at = negate_syntax at a.value
listed_node (RawNode-F.Not a) at = not_syntax at a.value
listed_node (RawNode-F.Pow a k) at = pown_syntax at a.value k
listed_node (RawNode-F.Arith op a b) at = arith_syntax at op a.value b.value
listed_node (RawNode-F.Compare s a b) at = compare_syntax at s a.value b.value
listed_node (RawNode-F.And a b) at = and_syntax at a.value b.value
listed_node (RawNode-F.Or a b) at = or_syntax at a.value b.value
listed_node (RawNode-F.If c a b) at = if_syntax at c.value a.value b.value
listed_node (RawNode-F.Let x a b) at = let_syntax at (binder_syntax x) a.value b.value
listed_node (RawNode-F.Match l a x y b) at =
    match_syntax at l.value a.value (binder_syntax x.value) (binder_syntax y.value) b.value
listed_node (RawNode-F.Nil t) at = nil_syntax at (type_syntax t)
listed_node (RawNode-F.List es) at = list_syntax at es
listed_node (RawNode-F.Cons a b) at = cons_syntax at a.value b.value
listed_node (RawNode-F.Rec fs) at = fields_syntax at fs
listed_node (RawNode-F.Field place x a) at = field_syntax at place x a.value
listed_node (RawNode-F.Bracket a) at = bracket_expr_syntax at a.value

abbrev pub listed_expr : RawExpr-F (ℕ → ExprSyntax) ExprSyntax ExprSyntaxes FieldPart FieldSyntaxes → ExprSyntax
listed_expr e = e.node e.at

abbrev pub listed_exprs : RawExprs-F (ℕ → ExprSyntax) ExprSyntax ExprSyntaxes FieldPart FieldSyntaxes → ExprSyntaxes
listed_exprs es = exprs_in_order es.items.items

abbrev pub listed_field : RawField-F (ℕ → ExprSyntax) ExprSyntax ExprSyntaxes FieldPart FieldSyntaxes → FieldPart
listed_field f = record { at = f.at; name = f.name; part = f.value }

abbrev pub listed_fields : RawFields-F (ℕ → ExprSyntax) ExprSyntax ExprSyntaxes FieldPart FieldSyntaxes → FieldSyntaxes
listed_fields fs = fields_in_order fs.items.items

-- the tree that an expression stands for
abbrev pub expr_syntax : RawExpr → ExprSyntax
expr_syntax =
    fold-RawExpr (ℕ → ExprSyntax) ExprSyntax ExprSyntaxes FieldPart FieldSyntaxes
    listed_node listed_expr listed_exprs listed_field listed_fields

-- the part that a field of a record text stands for
abbrev pub field_part : RawField → FieldPart
field_part =
    fold-RawField (ℕ → ExprSyntax) ExprSyntax ExprSyntaxes FieldPart FieldSyntaxes
    listed_node listed_expr listed_exprs listed_field listed_fields

-- a unit parameter at its quote
pub record VarSyntax : Type 0 where
  pub at : ℕ
  pub name : List ℕ

pub record FieldDeclSyntax : Type 0 where
  pub at : ℕ
  pub name : List ℕ
  pub type : TypeSyntax

pub record ParamSyntax : Type 0 where
  pub binder : BinderSyntax
  pub type : TypeSyntax

pub record FunctionSyntax : Type 0 where
  pub at : ℕ
  pub name : List ℕ
  pub recursive : Bool
  pub units : List VarSyntax
  pub params : List ParamSyntax
  pub result : Option TypeSyntax
  pub body : ExprSyntax

-- a declaration at its name
pub data DeclSyntax : Type 0 where
  base_syntax : ℕ → List ℕ → DeclSyntax
  short_syntax : ℕ → List ℕ → UnitSyntax → DeclSyntax
  record_decl_syntax : ℕ → List ℕ → List VarSyntax → List FieldDeclSyntax → DeclSyntax
  function_syntax : FunctionSyntax → DeclSyntax

abbrev pub var_syntax : RawVar → VarSyntax
var_syntax v = record { at = v.at; name = v.name }

abbrev pub field_decl_syntax : RawFieldDecl → FieldDeclSyntax
field_decl_syntax f = record { at = f.at; name = f.name; type = type_syntax f.ty }

abbrev pub param_syntax : RawParam → ParamSyntax
param_syntax p = record { binder = binder_syntax p.binder; type = type_syntax p.ty }

abbrev pub written_type : Option RawType → Option TypeSyntax
written_type None = None
written_type (Some t) = Some (type_syntax t)

abbrev pub whole_function_syntax : RawFunction → FunctionSyntax
whole_function_syntax f = record {
  at = f.at;
  name = f.name;
  recursive = f.recursive;
  units = map var_syntax f.units.items.items;
  params = map param_syntax f.params.items.items;
  result = written_type f.result;
  body = expr_syntax f.body;
}

abbrev pub decl_syntax : RawDecl → DeclSyntax
decl_syntax (Base at x) = base_syntax at x
decl_syntax (Short at x u) = short_syntax at x (unit_syntax u)
decl_syntax (Record at x vs fs) =
    record_decl_syntax at x (map var_syntax vs.items.items) (map field_decl_syntax fs.items.items)
decl_syntax (Function f) = function_syntax (whole_function_syntax f)

-- a program as it is written
abbrev pub program_syntax : RawProgram → List DeclSyntax
program_syntax p = map decl_syntax p.items.items
