-- The layout of a program, by cases on its raw tree: one declaration a line, one space round signs between operands and
-- between words.
--   [<Measure>] type A            [<Measure>] type A = UNIT
--   type R<[<Measure>] 'u, [<Measure>] 'v> = { f: TYPE; g: TYPE }     type R = { f: TYPE }
--   let f (x: TYPE) (y: TYPE) : TYPE = EXPR                           let rec f (x: TYPE) : TYPE = EXPR
--   let f<[<Measure>] 'u, [<Measure>] 'v> (x: TYPE) = EXPR
--   expressions: let x = A in B, if A then B else C, match A with [] -> B | x :: y -> C, A + B, -A, not A, pown A 3,
--                pown A (-2), f A B, A.f, (A), ([] : TYPE), [A; B], { f = A; g = B }, true, false, 5r2<UNIT>
--   types: num, num<UNIT>, bool, R, R<UNIT, UNIT>, T list, (T)
--   units: A B, A*B, A/B, /A, A^2, A^-2, 1, _, 'u, (A)
-- Source: this project's own.
use Rattle.std.specs.Prelude.{ℕ, suc, ℤ, pos, negsuc, Bool, true, false, List, [], ◌∷◌, ◌++◌, Option, Some, None}
use Rattle.std.specs.List.{flat_map, join_by}
use Rattle.um_tree.specs.declared.expression.Arith.{Arith}
use Rattle.um_tree.specs.declared.expression.Arith.TheVariants as arith
use Rattle.um_tree.specs.declared.expression.Sign.{Sign}
use Rattle.um_tree.specs.declared.expression.Sign.TheVariants as compare
use Rattle.um_tree.specs.RawTree.{UnitSyntax, UnitSyntaxes, one_syntax, measure_syntax, variable_syntax, power_syntax}
use Rattle.um_tree.specs.RawTree.{side_syntax, times_syntax, over_syntax, inverse_syntax, bracket_syntax, no_units}
use Rattle.um_tree.specs.RawTree.{more_units, NoteSyntax, hole_syntax, unit_note_syntax, TypeSyntax, bool_syntax}
use Rattle.um_tree.specs.RawTree.{num_syntax, record_syntax, list_type_syntax, bracket_type_syntax, BinderSyntax}
use Rattle.um_tree.specs.RawTree.{ExprSyntax, ExprSyntaxes, FieldSyntaxes, truth_syntax, number_syntax, name_syntax}
use Rattle.um_tree.specs.RawTree.{call_syntax, negate_syntax, not_syntax, pown_syntax, arith_syntax, compare_syntax}
use Rattle.um_tree.specs.RawTree.{and_syntax, or_syntax, if_syntax, let_syntax, match_syntax, nil_syntax, list_syntax}
use Rattle.um_tree.specs.RawTree.{cons_syntax, fields_syntax, field_syntax, bracket_expr_syntax, no_exprs, more_exprs}
use Rattle.um_tree.specs.RawTree.{no_fields, more_fields, VarSyntax, FieldDeclSyntax, ParamSyntax, FunctionSyntax}
use Rattle.um_tree.specs.RawTree.{DeclSyntax, base_syntax, short_syntax, record_decl_syntax, function_syntax}
use Rattle.um_show.specs.Pieces.{Piece, name, variable, number, digits, hole, space, line_end, text_of, let_word}
use Rattle.um_show.specs.Pieces.{rec_word, in_word, if_word, then_word, else_word, match_word, with_word, type_word}
use Rattle.um_show.specs.Pieces.{true_word, false_word, not_word, pown_word, num_word, bool_word, list_word}
use Rattle.um_show.specs.Pieces.{measure_word}
use Rattle.um_show.specs.Pieces.{bracket_open, bracket_close, list_open, list_close, record_open, record_close}
use Rattle.um_show.specs.Pieces.{attribute_open, less, greater, equal, at_most, unequal, plus, minus, times, over}
use Rattle.um_show.specs.Pieces.{caret, semi, colon, double_colon, comma, dot, bar, double_bar, double_and, arrow}

-- the digits of a power, with `-` where it is negative
abbrev pub power_pieces : ℤ → List Piece
power_pieces (pos n) = digits n ∷ []
power_pieces (negsuc n) = minus ∷ digits (suc n) ∷ []

abbrev mutual
  pub unit_pieces : UnitSyntax → List Piece
  unit_pieces (one_syntax at) = digits 1 ∷ []
  unit_pieces (measure_syntax at x) = name x ∷ []
  unit_pieces (variable_syntax at x) = variable x ∷ []
  unit_pieces (power_syntax u k) = unit_pieces u ++ caret ∷ power_pieces k
  unit_pieces (side_syntax us) = side_pieces us
  unit_pieces (times_syntax u v) = unit_pieces u ++ times ∷ unit_pieces v
  unit_pieces (over_syntax u v) = unit_pieces u ++ over ∷ unit_pieces v
  unit_pieces (inverse_syntax at u) = over ∷ unit_pieces u
  unit_pieces (bracket_syntax at u) = bracket_open ∷ unit_pieces u ++ bracket_close ∷ []

  -- with a space between each two
  pub side_pieces : UnitSyntaxes → List Piece
  side_pieces no_units = []
  side_pieces (more_units u us) = unit_pieces u ++ more_side_pieces us

  pub more_side_pieces : UnitSyntaxes → List Piece
  more_side_pieces no_units = []
  more_side_pieces (more_units u us) = space ∷ unit_pieces u ++ more_side_pieces us

abbrev pub note_pieces : NoteSyntax → List Piece
note_pieces (hole_syntax at) = hole ∷ []
note_pieces (unit_note_syntax at u) = unit_pieces u

-- a note in angle brackets, where there is one
abbrev pub written_pieces : Option NoteSyntax → List Piece
written_pieces None = []
written_pieces (Some n) = less ∷ note_pieces n ++ greater ∷ []

-- notes in angle brackets, where there are some
abbrev pub angled_pieces : List NoteSyntax → List Piece
angled_pieces [] = []
angled_pieces (n ∷ ns) = less ∷ join_by note_pieces (comma ∷ space ∷ []) (n ∷ ns) ++ greater ∷ []

abbrev pub type_pieces : TypeSyntax → List Piece
type_pieces bool_syntax = bool_word ∷ []
type_pieces (num_syntax n) = num_word ∷ written_pieces n
type_pieces (record_syntax at x ns) = name x ∷ angled_pieces ns
type_pieces (list_type_syntax t) = type_pieces t ++ space ∷ list_word ∷ []
type_pieces (bracket_type_syntax t) = bracket_open ∷ type_pieces t ++ bracket_close ∷ []

abbrev pub bound_piece : Option (List ℕ) → Piece
bound_piece None = hole
bound_piece (Some x) = name x

abbrev pub binder_piece : BinderSyntax → Piece
binder_piece x = bound_piece x.name

abbrev pub truth_piece : Bool → Piece
truth_piece true = true_word
truth_piece false = false_word

abbrev pub arith_piece : Arith → Piece
arith_piece arith.Add = plus
arith_piece arith.Sub = minus
arith_piece arith.Mul = times
arith_piece arith.Div = over

abbrev pub compare_pieces : Sign → List Piece
compare_pieces compare.Lt = less ∷ []
compare_pieces compare.Le = at_most ∷ []
compare_pieces compare.Eq = equal ∷ []
compare_pieces compare.Ne = unequal ∷ []
compare_pieces compare.Gt = greater ∷ []
compare_pieces compare.Ge = greater ∷ equal ∷ []

-- the power of `pown`: in brackets where it is negative
abbrev pub whole_power_pieces : ℤ → List Piece
whole_power_pieces (pos n) = digits n ∷ []
whole_power_pieces (negsuc n) = bracket_open ∷ minus ∷ digits (suc n) ∷ bracket_close ∷ []

-- a sign between two operands, with one space on each side
abbrev pub between : List Piece → List Piece → List Piece → List Piece
between a signs b = a ++ space ∷ signs ++ space ∷ b

abbrev mutual
  pub expr_pieces : ExprSyntax → List Piece
  expr_pieces (truth_syntax at b) = truth_piece b ∷ []
  expr_pieces (number_syntax at c n) = number c ∷ written_pieces n
  expr_pieces (name_syntax at x) = name x ∷ []
  expr_pieces (call_syntax at f args) = name f ∷ argument_pieces args
  expr_pieces (negate_syntax at e) = minus ∷ expr_pieces e
  expr_pieces (not_syntax at e) = not_word ∷ space ∷ expr_pieces e
  expr_pieces (pown_syntax at e k) = pown_word ∷ space ∷ expr_pieces e ++ space ∷ whole_power_pieces k
  expr_pieces (arith_syntax at op a b) = between (expr_pieces a) (arith_piece op ∷ []) (expr_pieces b)
  expr_pieces (compare_syntax at sign a b) = between (expr_pieces a) (compare_pieces sign) (expr_pieces b)
  expr_pieces (and_syntax at a b) = between (expr_pieces a) (double_and ∷ []) (expr_pieces b)
  expr_pieces (or_syntax at a b) = between (expr_pieces a) (double_bar ∷ []) (expr_pieces b)
  expr_pieces (cons_syntax at a b) = between (expr_pieces a) (double_colon ∷ []) (expr_pieces b)
  expr_pieces (if_syntax at c a b) =
      if_word ∷ space ∷ expr_pieces c ++ space ∷ then_word ∷ space ∷ expr_pieces a
      ++ space ∷ else_word ∷ space ∷ expr_pieces b
  expr_pieces (let_syntax at x a b) =
      let_word ∷ space ∷ binder_piece x ∷ space ∷ equal ∷ space ∷ expr_pieces a
      ++ space ∷ in_word ∷ space ∷ expr_pieces b
  expr_pieces (match_syntax at l a x y b) =
      match_word ∷ space ∷ expr_pieces l
      ++ space ∷ with_word ∷ space ∷ list_open ∷ list_close ∷ space ∷ arrow ∷ space ∷ expr_pieces a
      ++ space ∷ bar ∷ space ∷ binder_piece x ∷ space ∷ double_colon ∷ space ∷ binder_piece y ∷ space
      ∷ arrow ∷ space ∷ expr_pieces b
  expr_pieces (nil_syntax at t) =
      bracket_open ∷ list_open ∷ list_close ∷ space ∷ colon ∷ space ∷ type_pieces t ++ bracket_close ∷ []
  expr_pieces (list_syntax at es) = list_open ∷ item_pieces es ++ list_close ∷ []
  expr_pieces (fields_syntax at fs) = record_open ∷ space ∷ field_pieces fs ++ space ∷ record_close ∷ []
  expr_pieces (field_syntax at place x e) = expr_pieces e ++ dot ∷ name x ∷ []
  expr_pieces (bracket_expr_syntax at e) = bracket_open ∷ expr_pieces e ++ bracket_close ∷ []

  -- with a space before each
  pub argument_pieces : ExprSyntaxes → List Piece
  argument_pieces no_exprs = []
  argument_pieces (more_exprs e es) = space ∷ expr_pieces e ++ argument_pieces es

  -- with `; ` between each two
  pub item_pieces : ExprSyntaxes → List Piece
  item_pieces no_exprs = []
  item_pieces (more_exprs e es) = expr_pieces e ++ more_item_pieces es

  pub more_item_pieces : ExprSyntaxes → List Piece
  more_item_pieces no_exprs = []
  more_item_pieces (more_exprs e es) = semi ∷ space ∷ expr_pieces e ++ more_item_pieces es

  pub field_pieces : FieldSyntaxes → List Piece
  field_pieces no_fields = []
  field_pieces (more_fields at x e fs) = name x ∷ space ∷ equal ∷ space ∷ expr_pieces e ++ more_field_pieces fs

  pub more_field_pieces : FieldSyntaxes → List Piece
  more_field_pieces no_fields = []
  more_field_pieces (more_fields at x e fs) =
      semi ∷ space ∷ name x ∷ space ∷ equal ∷ space ∷ expr_pieces e ++ more_field_pieces fs

-- `[<Measure>]`
abbrev pub attribute_pieces : List Piece
attribute_pieces = attribute_open ∷ measure_word ∷ greater ∷ list_close ∷ []

abbrev pub var_pieces : VarSyntax → List Piece
var_pieces v = attribute_pieces ++ space ∷ variable v.name ∷ []

-- unit parameters in angle brackets, where there are some
abbrev pub var_list_pieces : List VarSyntax → List Piece
var_list_pieces [] = []
var_list_pieces (v ∷ vs) = less ∷ join_by var_pieces (comma ∷ space ∷ []) (v ∷ vs) ++ greater ∷ []

abbrev pub field_decl_pieces : FieldDeclSyntax → List Piece
field_decl_pieces f = name f.name ∷ colon ∷ space ∷ type_pieces f.type

-- with a space before it
abbrev pub param_pieces : ParamSyntax → List Piece
param_pieces p = space ∷ bracket_open ∷ binder_piece p.binder ∷ colon ∷ space ∷ type_pieces p.type ++ bracket_close ∷ []

abbrev pub result_pieces : Option TypeSyntax → List Piece
result_pieces None = []
result_pieces (Some t) = space ∷ colon ∷ space ∷ type_pieces t

abbrev pub rec_pieces : Bool → List Piece
rec_pieces false = []
rec_pieces true = rec_word ∷ space ∷ []

abbrev pub function_pieces : FunctionSyntax → List Piece
function_pieces f =
    let_word ∷ space ∷ rec_pieces f.recursive ++ name f.name ∷ var_list_pieces f.units
    ++ flat_map param_pieces f.params ++ result_pieces f.result ++ space ∷ equal ∷ space ∷ expr_pieces f.body

abbrev pub decl_pieces : DeclSyntax → List Piece
decl_pieces (base_syntax at x) = attribute_pieces ++ space ∷ type_word ∷ space ∷ name x ∷ []
decl_pieces (short_syntax at x u) =
    attribute_pieces ++ space ∷ type_word ∷ space ∷ name x ∷ space ∷ equal ∷ space ∷ unit_pieces u
decl_pieces (record_decl_syntax at x vs fs) =
    type_word ∷ space ∷ name x ∷ var_list_pieces vs ++ space ∷ equal ∷ space ∷ record_open ∷ space
    ∷ join_by field_decl_pieces (semi ∷ space ∷ []) fs ++ space ∷ record_close ∷ []
decl_pieces (function_syntax f) = function_pieces f

-- a declaration on its line
abbrev pub line_pieces : DeclSyntax → List Piece
line_pieces d = decl_pieces d ++ line_end ∷ []

abbrev pub program_pieces : List DeclSyntax → List Piece
program_pieces ds = flat_map line_pieces ds

-- the text of a program in its layout
abbrev pub layout : List DeclSyntax → List ℕ
layout ds = text_of (program_pieces ds)
