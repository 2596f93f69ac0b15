-- The layout of a program depends on the program without its places alone.
use Rattle.std.proofs.Common.{◌≡◌, refl, sym, ap, ◌∙◌, List, [], ◌∷◌, ◌++◌, Option, Some, None, map}
use Rattle.std.specs.List.{flat_map, join_by}
use Rattle.um_tree.specs.RawTree.{UnitSyntax, UnitSyntaxes, one_syntax, measure_syntax, variable_syntax, power_syntax, side_syntax, times_syntax, over_syntax, inverse_syntax, bracket_syntax, no_units, more_units, NoteSyntax, hole_syntax, unit_note_syntax, TypeSyntax, bool_syntax, num_syntax, record_syntax, list_type_syntax, bracket_type_syntax, ExprSyntax, ExprSyntaxes, FieldSyntaxes, truth_syntax, number_syntax, name_syntax, call_syntax, negate_syntax, not_syntax, pown_syntax, arith_syntax, compare_syntax, and_syntax, or_syntax, if_syntax, let_syntax, match_syntax, nil_syntax, list_syntax, cons_syntax, fields_syntax, field_syntax, bracket_expr_syntax, no_exprs, more_exprs, no_fields, more_fields, VarSyntax, FieldDeclSyntax, ParamSyntax, FunctionSyntax, DeclSyntax, base_syntax, short_syntax, record_decl_syntax, function_syntax}
use Rattle.um_show.specs.Pieces.{name, number, space, line_end, text_of, let_word, in_word, if_word, then_word, else_word, match_word, with_word, type_word, not_word, pown_word, num_word, list_word, bracket_open, bracket_close, list_open, list_close, record_open, record_close, less, greater, equal, minus, times, over, caret, semi, colon, double_colon, comma, dot, bar, double_bar, double_and, arrow}
use Rattle.um_show.specs.Layout.{power_pieces, unit_pieces, side_pieces, more_side_pieces, note_pieces, written_pieces, angled_pieces, type_pieces, binder_piece, arith_piece, compare_pieces, whole_power_pieces, between, expr_pieces, argument_pieces, item_pieces, more_item_pieces, field_pieces, more_field_pieces, attribute_pieces, var_pieces, var_list_pieces, field_decl_pieces, param_pieces, result_pieces, rec_pieces, decl_pieces, line_pieces, layout}
use Rattle.um_show.specs.Unplaced.{bare_unit, bare_units, bare_note, bare_written, bare_type, bare_expr, bare_exprs, bare_fields, bare_var, bare_field_decl, bare_param, bare_result, bare_decl, bare_program}

both : {A B C : Type 0} {a c : A} {b d : B} (f : A → B → C) → a ≡ c → b ≡ d → f a b ≡ f c d
both f p q = λ i. f (p i) (q i)

three : {A B C D : Type 0} {a b : A} {c d : B} {g h : C} (f : A → B → C → D) → a ≡ b → c ≡ d → g ≡ h → f a c g ≡ f b d h
three f p q r = λ i. f (p i) (q i) (r i)

four : {A B C D E : Type 0} {a b : A} {c d : B} {g h : C} {k l : D} (f : A → B → C → D → E) → a ≡ b → c ≡ d → g ≡ h → k ≡ l → f a c g k ≡ f b d h l
four f p q r s = λ i. f (p i) (q i) (r i) (s i)

-- ---- lists

flat_bare : {X A : Type 0} (f : X → List A) (bare : X → X) → ((x : X) → f (bare x) ≡ f x) → (xs : List X) → flat_map f (map bare xs) ≡ flat_map f xs
flat_bare f bare same [] = refl
flat_bare f bare same (x ∷ xs) = both (λ ps qs. ps ++ qs) (same x) (flat_bare f bare same xs)

join_bare : {X A : Type 0} (f : X → List A) (between : List A) (bare : X → X) → ((x : X) → f (bare x) ≡ f x) → (xs : List X) → join_by f between (map bare xs) ≡ join_by f between xs
join_bare f between bare same [] = refl
join_bare f between bare same (x ∷ xs) = both (λ ps qs. ps ++ qs) (same x) (flat_bare (λ y. between ++ f y) bare (λ y. ap (λ ps. between ++ ps) (same y)) xs)

-- ---- units and types

mutual
  unit_bare : (u : UnitSyntax) → unit_pieces (bare_unit u) ≡ unit_pieces u
  unit_bare (one_syntax at) = refl
  unit_bare (measure_syntax at x) = refl
  unit_bare (variable_syntax at x) = refl
  unit_bare (power_syntax u k) = ap (λ ps. ps ++ caret ∷ power_pieces k) (unit_bare u)
  unit_bare (side_syntax us) = side_bare us
  unit_bare (times_syntax u v) = both (λ ps qs. ps ++ times ∷ qs) (unit_bare u) (unit_bare v)
  unit_bare (over_syntax u v) = both (λ ps qs. ps ++ over ∷ qs) (unit_bare u) (unit_bare v)
  unit_bare (inverse_syntax at u) = ap (λ ps. over ∷ ps) (unit_bare u)
  unit_bare (bracket_syntax at u) = ap (λ ps. bracket_open ∷ ps ++ bracket_close ∷ []) (unit_bare u)

  side_bare : (us : UnitSyntaxes) → side_pieces (bare_units us) ≡ side_pieces us
  side_bare no_units = refl
  side_bare (more_units u us) = both (λ ps qs. ps ++ qs) (unit_bare u) (more_side_bare us)

  more_side_bare : (us : UnitSyntaxes) → more_side_pieces (bare_units us) ≡ more_side_pieces us
  more_side_bare no_units = refl
  more_side_bare (more_units u us) = both (λ ps qs. space ∷ ps ++ qs) (unit_bare u) (more_side_bare us)

note_bare : (n : NoteSyntax) → note_pieces (bare_note n) ≡ note_pieces n
note_bare (hole_syntax at) = refl
note_bare (unit_note_syntax at u) = unit_bare u

written_bare : (n : Option NoteSyntax) → written_pieces (bare_written n) ≡ written_pieces n
written_bare None = refl
written_bare (Some n) = ap (λ ps. less ∷ ps ++ greater ∷ []) (note_bare n)

angled_bare : (ns : List NoteSyntax) → angled_pieces (map bare_note ns) ≡ angled_pieces ns
angled_bare [] = refl
angled_bare (n ∷ ns) = ap (λ ps. less ∷ ps ++ greater ∷ []) (join_bare note_pieces (comma ∷ space ∷ []) bare_note note_bare (n ∷ ns))

type_bare : (t : TypeSyntax) → type_pieces (bare_type t) ≡ type_pieces t
type_bare bool_syntax = refl
type_bare (num_syntax n) = ap (λ ps. num_word ∷ ps) (written_bare n)
type_bare (record_syntax at x ns) = ap (λ ps. name x ∷ ps) (angled_bare ns)
type_bare (list_type_syntax t) = ap (λ ps. ps ++ space ∷ list_word ∷ []) (type_bare t)
type_bare (bracket_type_syntax t) = ap (λ ps. bracket_open ∷ ps ++ bracket_close ∷ []) (type_bare t)

-- ---- expressions

mutual
  expr_bare : (e : ExprSyntax) → expr_pieces (bare_expr e) ≡ expr_pieces e
  expr_bare (truth_syntax at v) = refl
  expr_bare (number_syntax at c n) = ap (λ ps. number c ∷ ps) (written_bare n)
  expr_bare (name_syntax at x) = refl
  expr_bare (call_syntax at f es) = ap (λ ps. name f ∷ ps) (arguments_bare es)
  expr_bare (negate_syntax at a) = ap (λ ps. minus ∷ ps) (expr_bare a)
  expr_bare (not_syntax at a) = ap (λ ps. not_word ∷ space ∷ ps) (expr_bare a)
  expr_bare (pown_syntax at a k) = ap (λ ps. pown_word ∷ space ∷ ps ++ space ∷ whole_power_pieces k) (expr_bare a)
  expr_bare (arith_syntax at op a b) = both (λ ps qs. between ps (arith_piece op ∷ []) qs) (expr_bare a) (expr_bare b)
  expr_bare (compare_syntax at sign a b) = both (λ ps qs. between ps (compare_pieces sign) qs) (expr_bare a) (expr_bare b)
  expr_bare (and_syntax at a b) = both (λ ps qs. between ps (double_and ∷ []) qs) (expr_bare a) (expr_bare b)
  expr_bare (or_syntax at a b) = both (λ ps qs. between ps (double_bar ∷ []) qs) (expr_bare a) (expr_bare b)
  expr_bare (cons_syntax at a b) = both (λ ps qs. between ps (double_colon ∷ []) qs) (expr_bare a) (expr_bare b)
  expr_bare (if_syntax at c a b) =
      three (λ ps qs rs. if_word ∷ space ∷ ps ++ space ∷ then_word ∷ space ∷ qs ++ space ∷ else_word ∷ space ∷ rs) (expr_bare c) (expr_bare a) (expr_bare b)
  expr_bare (let_syntax at x a b) =
      both (λ ps qs. let_word ∷ space ∷ binder_piece x ∷ space ∷ equal ∷ space ∷ ps ++ space ∷ in_word ∷ space ∷ qs) (expr_bare a) (expr_bare b)
  expr_bare (match_syntax at l a x y b) =
      three
      (λ ps qs rs.
      match_word ∷ space ∷ ps
      ++ space ∷ with_word ∷ space ∷ list_open ∷ list_close ∷ space ∷ arrow ∷ space ∷ qs
      ++ space ∷ bar ∷ space ∷ binder_piece x ∷ space ∷ double_colon ∷ space ∷ binder_piece y ∷ space
      ∷ arrow ∷ space ∷ rs)
      (expr_bare l) (expr_bare a) (expr_bare b)
  expr_bare (nil_syntax at t) = ap (λ ps. bracket_open ∷ list_open ∷ list_close ∷ space ∷ colon ∷ space ∷ ps ++ bracket_close ∷ []) (type_bare t)
  expr_bare (list_syntax at es) = ap (λ ps. list_open ∷ ps ++ list_close ∷ []) (items_bare es)
  expr_bare (fields_syntax at fs) = ap (λ ps. record_open ∷ space ∷ ps ++ space ∷ record_close ∷ []) (fields_bare fs)
  expr_bare (field_syntax at place x a) = ap (λ ps. ps ++ dot ∷ name x ∷ []) (expr_bare a)
  expr_bare (bracket_expr_syntax at a) = ap (λ ps. bracket_open ∷ ps ++ bracket_close ∷ []) (expr_bare a)

  arguments_bare : (es : ExprSyntaxes) → argument_pieces (bare_exprs es) ≡ argument_pieces es
  arguments_bare no_exprs = refl
  arguments_bare (more_exprs e es) = both (λ ps qs. space ∷ ps ++ qs) (expr_bare e) (arguments_bare es)

  items_bare : (es : ExprSyntaxes) → item_pieces (bare_exprs es) ≡ item_pieces es
  items_bare no_exprs = refl
  items_bare (more_exprs e es) = both (λ ps qs. ps ++ qs) (expr_bare e) (more_items_bare es)

  more_items_bare : (es : ExprSyntaxes) → more_item_pieces (bare_exprs es) ≡ more_item_pieces es
  more_items_bare no_exprs = refl
  more_items_bare (more_exprs e es) = both (λ ps qs. semi ∷ space ∷ ps ++ qs) (expr_bare e) (more_items_bare es)

  fields_bare : (fs : FieldSyntaxes) → field_pieces (bare_fields fs) ≡ field_pieces fs
  fields_bare no_fields = refl
  fields_bare (more_fields at x e fs) = both (λ ps qs. name x ∷ space ∷ equal ∷ space ∷ ps ++ qs) (expr_bare e) (more_fields_bare fs)

  more_fields_bare : (fs : FieldSyntaxes) → more_field_pieces (bare_fields fs) ≡ more_field_pieces fs
  more_fields_bare no_fields = refl
  more_fields_bare (more_fields at x e fs) = both (λ ps qs. semi ∷ space ∷ name x ∷ space ∷ equal ∷ space ∷ ps ++ qs) (expr_bare e) (more_fields_bare fs)

-- ---- declarations

vars_bare : (vs : List VarSyntax) → var_list_pieces (map bare_var vs) ≡ var_list_pieces vs
vars_bare [] = refl
vars_bare (v ∷ vs) = ap (λ ps. less ∷ ps ++ greater ∷ []) (join_bare var_pieces (comma ∷ space ∷ []) bare_var (λ x. refl) (v ∷ vs))

field_bare : (f : FieldDeclSyntax) → field_decl_pieces (bare_field_decl f) ≡ field_decl_pieces f
field_bare f = ap (λ ps. name f.name ∷ colon ∷ space ∷ ps) (type_bare f.type)

param_bare : (p : ParamSyntax) → param_pieces (bare_param p) ≡ param_pieces p
param_bare p = ap (λ ps. space ∷ bracket_open ∷ binder_piece p.binder ∷ colon ∷ space ∷ ps ++ bracket_close ∷ []) (type_bare p.type)

result_bare : (r : Option TypeSyntax) → result_pieces (bare_result r) ≡ result_pieces r
result_bare None = refl
result_bare (Some t) = ap (λ ps. space ∷ colon ∷ space ∷ ps) (type_bare t)

function_bare : (f : FunctionSyntax) → decl_pieces (bare_decl (function_syntax f)) ≡ decl_pieces (function_syntax f)
function_bare f =
    four
    (λ vs ps rs qs. let_word ∷ space ∷ rec_pieces f.recursive ++ name f.name ∷ vs ++ ps ++ rs ++ space ∷ equal ∷ space ∷ qs)
    (vars_bare f.units) (flat_bare param_pieces bare_param param_bare f.params) (result_bare f.result) (expr_bare f.body)

decl_bare : (d : DeclSyntax) → decl_pieces (bare_decl d) ≡ decl_pieces d
decl_bare (base_syntax at x) = refl
decl_bare (short_syntax at x u) = ap (λ ps. attribute_pieces ++ space ∷ type_word ∷ space ∷ name x ∷ space ∷ equal ∷ space ∷ ps) (unit_bare u)
decl_bare (record_decl_syntax at x vs fs) =
    both (λ ps qs. type_word ∷ space ∷ name x ∷ ps ++ space ∷ equal ∷ space ∷ record_open ∷ space ∷ qs ++ space ∷ record_close ∷ [])
    (vars_bare vs)
    (join_bare field_decl_pieces (semi ∷ space ∷ []) bare_field_decl field_bare fs)
decl_bare (function_syntax f) = function_bare f

layout_bare : (ds : List DeclSyntax) → layout (bare_program ds) ≡ layout ds
layout_bare ds = ap text_of (flat_bare line_pieces bare_decl (λ d. ap (λ ps. ps ++ line_end ∷ []) (decl_bare d)) ds)

-- two programs that are one, places aside, have one layout
pub same_layout : (ds es : List DeclSyntax) → bare_program ds ≡ bare_program es → layout ds ≡ layout es
same_layout ds es same = sym (layout_bare ds) ∙ ap layout same ∙ layout_bare es
