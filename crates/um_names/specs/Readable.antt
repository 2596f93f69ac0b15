-- What the grammar, the lexer and the limits say of each raw tree that is read from a text.
-- Source: this project's own limits; names by Unicode Standard Annex 31.
use Rattle.std.specs.Prelude.{ℕ, ◌<◌, ◌≤◌, ◌+◌, IsTrue, IsSome, List, [], ◌∷◌, length, Option, Some, None}
use Rattle.um_tree.specs.Formed.{IsNameBytes}
use Rattle.um_tree.specs.Heights.{greatest_height, type_height, expr_height, expr_nodes}
use Rattle.um_tree.specs.RawTree.{TypeSyntax, ExprSyntax, ExprSyntaxes, FieldSyntaxes, truth_syntax, number_syntax}
use Rattle.um_tree.specs.RawTree.{name_syntax, call_syntax, negate_syntax, not_syntax, pown_syntax, arith_syntax}
use Rattle.um_tree.specs.RawTree.{compare_syntax, and_syntax, or_syntax, if_syntax, let_syntax, match_syntax}
use Rattle.um_tree.specs.RawTree.{nil_syntax, list_syntax, cons_syntax, fields_syntax, field_syntax}
use Rattle.um_tree.specs.RawTree.{bracket_expr_syntax, no_exprs, more_exprs, no_fields, more_fields, VarSyntax}
use Rattle.um_tree.specs.RawTree.{FieldDeclSyntax, ParamSyntax, FunctionSyntax, DeclSyntax, base_syntax}
use Rattle.um_tree.specs.RawTree.{short_syntax, record_decl_syntax, function_syntax}
use Rattle.um_names.specs.ExprNames.{length_of}

-- a list text has an item, and a type text is low
abbrev mutual
  pub IsReadExpr : ExprSyntax → Type 0
  IsReadExpr (truth_syntax at b) = Unit {0}
  IsReadExpr (number_syntax at c n) = Unit {0}
  IsReadExpr (name_syntax at x) = Unit {0}
  IsReadExpr (call_syntax at x es) = AreReadExprs es
  IsReadExpr (negate_syntax at a) = IsReadExpr a
  IsReadExpr (not_syntax at a) = IsReadExpr a
  IsReadExpr (pown_syntax at a k) = IsReadExpr a
  IsReadExpr (arith_syntax at op a b) = IsReadExpr a × IsReadExpr b
  IsReadExpr (compare_syntax at s a b) = IsReadExpr a × IsReadExpr b
  IsReadExpr (and_syntax at a b) = IsReadExpr a × IsReadExpr b
  IsReadExpr (or_syntax at a b) = IsReadExpr a × IsReadExpr b
  IsReadExpr (if_syntax at c a b) = IsReadExpr c × IsReadExpr a × IsReadExpr b
  IsReadExpr (let_syntax at x a b) = IsReadExpr a × IsReadExpr b
  IsReadExpr (match_syntax at l a x y b) = IsReadExpr l × IsReadExpr a × IsReadExpr b
  IsReadExpr (nil_syntax at t) = type_height t ≤ greatest_height
  IsReadExpr (list_syntax at es) = (0 < length_of es) × AreReadExprs es
  IsReadExpr (cons_syntax at a b) = IsReadExpr a × IsReadExpr b
  IsReadExpr (fields_syntax at fs) = AreReadFields fs
  IsReadExpr (field_syntax at place x a) = IsReadExpr a
  IsReadExpr (bracket_expr_syntax at a) = IsReadExpr a

  pub AreReadExprs : ExprSyntaxes → Type 0
  AreReadExprs no_exprs = Unit {0}
  AreReadExprs (more_exprs e es) = IsReadExpr e × AreReadExprs es

  pub AreReadFields : FieldSyntaxes → Type 0
  AreReadFields no_fields = Unit {0}
  AreReadFields (more_fields at x e fs) = IsReadExpr e × AreReadFields fs

abbrev pub AreReadFieldDecls : List FieldDeclSyntax → Type 0
AreReadFieldDecls [] = Unit {0}
AreReadFieldDecls (f ∷ fs) = IsNameBytes f.name × (type_height f.type ≤ greatest_height) × AreReadFieldDecls fs

pub record IsReadRecord (x : List ℕ) (vs : List VarSyntax) (fs : List FieldDeclSyntax) : Type 0 where
  pub name : IsNameBytes x
  pub few_units : length vs ≤ 4
  pub some_field : 0 < length fs
  pub few_fields : length fs ≤ 32
  pub fields : AreReadFieldDecls fs

abbrev pub AreReadParams : List ParamSyntax → Type 0
AreReadParams [] = Unit {0}
AreReadParams (p ∷ ps) = (type_height p.type ≤ greatest_height) × AreReadParams ps

abbrev pub IsReadResult : Option TypeSyntax → Type 0
IsReadResult None = Unit {0}
IsReadResult (Some t) = type_height t ≤ greatest_height

pub record IsReadFunction (f : FunctionSyntax) : Type 0 where
  pub name : IsNameBytes f.name
  pub few_units : length f.units ≤ 4
  pub few_params : length f.params ≤ 16
  pub params : AreReadParams f.params
  pub result : IsReadResult f.result
  pub noted : IsTrue f.recursive → IsSome f.result
  pub body : IsReadExpr f.body
  pub height : expr_height f.body ≤ greatest_height
  pub nodes : expr_nodes f.body ≤ 20000

abbrev pub IsReadDecl : DeclSyntax → Type 0
IsReadDecl (base_syntax at x) = IsNameBytes x
IsReadDecl (short_syntax at x u) = IsNameBytes x
IsReadDecl (record_decl_syntax at x vs fs) = IsReadRecord x vs fs
IsReadDecl (function_syntax f) = IsReadFunction f

abbrev pub AreReadDecls : List DeclSyntax → Type 0
AreReadDecls [] = Unit {0}
AreReadDecls (d ∷ ds) = IsReadDecl d × AreReadDecls ds

-- one for a function
abbrev pub functions_in : List DeclSyntax → ℕ
functions_in [] = 0
functions_in (base_syntax at x ∷ ds) = functions_in ds
functions_in (short_syntax at x u ∷ ds) = functions_in ds
functions_in (record_decl_syntax at x vs fs ∷ ds) = functions_in ds
functions_in (function_syntax f ∷ ds) = functions_in ds + 1

-- a program text that was read
pub record IsReadable (ds : List DeclSyntax) : Type 0 where
  pub few : length ds ≤ 16777216
  pub few_functions : functions_in ds ≤ 2000
  pub each : AreReadDecls ds
