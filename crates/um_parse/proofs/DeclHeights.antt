-- The least height of a declaration that the tokens begin: it is that of the completion, no token lowers it, and what is found has it.
use Rattle.std.proofs.Common.{◌≡◌, ◌≢◌, ℕ, ◌≤◌, max, List, [], ◌∷◌, ◌++◌, Bool, true, false, Option, Some, None, refl, sym, ap, subst, ◌∙◌, arith}
use Rattle.um_syntax.specs.declared.token.Token.{Token}
use Rattle.um_tree.specs.declared.expression.Sign.TheVariants as compare
use Rattle.um_tree.specs.RawTree.{UnitSyntax, TypeSyntax, bool_syntax, BinderSyntax, ExprSyntax, VarSyntax, FieldDeclSyntax, ParamSyntax, DeclSyntax, base_syntax, short_syntax, record_decl_syntax}
use Rattle.um_unit_texts.specs.UnitMachine.{State as UnitState, Refused as NoUnit, unit_step, finish as unit_finish}
use Rattle.um_unit_texts.specs.UnitLeast.{least}
use Rattle.um_types.specs.TypeHeights.{whole_height}
use Rattle.um_types.specs.TypeMachine.{TypeState, NoType, type_step, type_finish, type_least}
use Rattle.um_unit_texts.proofs.UnitHeights.{completed_height, unit_up, found_height}
use Rattle.um_types.proofs.TypeLaws.{type_completed, type_completed_height, type_up, type_found_height}
use Rattle.um_vocabulary.specs.declared.vocabulary.Keyword.TheVariants as keyword
use Rattle.um_vocabulary.specs.declared.vocabulary.Symbol.TheVariants as symbol
use Rattle.um_operands.specs.declared.infix.Infix.TheVariants as between
use Rattle.um_operands.specs.ExprBegun.{State, Refused, finish}
use Rattle.um_operands.specs.ExprLeast.{whole_least}
use Rattle.um_forms.specs.declared.token.ExprToken.{ExprToken}
use Rattle.um_forms.specs.declared.token.ExprToken.TheVariants.{Name as name, Variable as variable, Hole as hole, Operator as operator, Word as word, Mark as mark}
use Rattle.um_forms.specs.ExprTokens.{expr_token}
use Rattle.um_expr.specs.ExprMachine.{step}
use Rattle.um_decls.specs.DeclHeights.{fields_height, params_height, result_height}
use Rattle.um_parse.specs.ProgramHeights.{decl_height}
use Rattle.um_decls.specs.DeclLeast.{expected_least, decl_least}
use Rattle.um_decls.specs.DeclMachine.{FunctionStart, VarOwner, OfRecord, OfFunction, started, after_vars, body_begins_if, take_params, function_from, DeclExpected, DeclBegin, AttributeWord, AttributeGreater, AttributeClose, MeasureType, MeasureName, RecordName, RecordVars, VarBegin, VarWord, VarGreater, VarClose, VarName, VarEnd, RecordEqual, RecordBrace, FieldName, FieldColon, LetName, RecName, FunctionVars, Params, ParamBinder, ParamColon, DeclState, Expects, HaveBase, InShort, HaveRecord, InField, InParam, InResult, InBody, NoDecl, body_begins, take_expected, base_after, field_ends, param_ends, result_ends, short_goes, field_goes, param_goes, result_goes, body_goes, decl_step, short_found, body_found, decl_finish}
use Rattle.um_expr.proofs.ExprHeights.{expr_completed_height, expr_up, expr_found_height}
use Rattle.um_decls.proofs.DeclLists.{fields_height_last, params_height_last}
use Rattle.um_parse.proofs.DeclPrefixes.{DeclSpellsPrefix}
use Rattle.um_parse.proofs.DeclCompletions.{unnamed_var, owner_with, expected_completed, decl_completed}

-- ---- the completion

owner_height : (owner : VarOwner) (vs : List VarSyntax) → decl_height (owner_with owner vs) ≡ 1
owner_height (OfRecord at x) vs = omega arith
owner_height (OfFunction recursive at x) vs = omega arith

expected_height : (expected : DeclExpected) → decl_height (expected_completed expected) ≡ expected_least expected
expected_height (VarBegin owner vs) = owner_height owner (vs ++ unnamed_var ∷ [])
expected_height (VarWord owner vs) = owner_height owner (vs ++ unnamed_var ∷ [])
expected_height (VarGreater owner vs) = owner_height owner (vs ++ unnamed_var ∷ [])
expected_height (VarClose owner vs) = owner_height owner (vs ++ unnamed_var ∷ [])
expected_height (VarName owner vs) = owner_height owner (vs ++ unnamed_var ∷ [])
expected_height (VarEnd owner vs) = owner_height owner vs
expected_height (FieldName at x vs fs) = let e = fields_height_last fs (record { at = 0; name = []; type = bool_syntax }) in omega (arith, e)
expected_height (FieldColon at x vs fs place y) = let e = fields_height_last fs (record { at = place; name = y; type = bool_syntax }) in omega (arith, e)
expected_height (ParamBinder head ps) = let e = params_height_last ps (record { binder = record { at = 0; name = None }; type = bool_syntax }) in omega (arith, e)
expected_height (ParamColon head ps b) = let e = params_height_last ps (record { binder = b; type = bool_syntax }) in omega (arith, e)
expected_height _ = omega arith

pub decl_completed_height : (st : DeclState) (tokens rest : List Token) → DeclSpellsPrefix st tokens rest → st ≢ NoDecl → decl_height (decl_completed st) ≡ decl_least st
decl_completed_height (Expects expected) tokens rest h ok = expected_height expected
decl_completed_height (HaveBase at x) tokens rest h ok = refl
decl_completed_height (InShort at x u) tokens rest h ok = completed_height u h.7
decl_completed_height (HaveRecord at x vs fs) tokens rest h ok = refl
decl_completed_height (InField at x vs fs place y s) tokens rest h ok =
    let e = fields_height_last fs (record { at = place; name = y; type = type_completed s }) in
    let t : whole_height (type_completed s) ≡ type_least s = type_completed_height s h.3 rest h.8 h.10 in
    omega (arith, e, t)
decl_completed_height (InParam head ps b s) tokens rest h ok =
    let e = params_height_last ps (record { binder = b; type = type_completed s }) in
    let t : whole_height (type_completed s) ≡ type_least s = type_completed_height s h.3 rest h.8 h.10 in
    omega (arith, e, t)
decl_completed_height (InResult head ps s) tokens rest h ok =
    let t : whole_height (type_completed s) ≡ type_least s = type_completed_height s h.1 rest h.4 h.6 in
    omega (arith, t)
decl_completed_height (InBody head ps r e) tokens rest h ok =
    let t = expr_completed_height e h.2 rest h.6 h.9 in
    omega (arith, t)
decl_completed_height NoDecl tokens rest h ok = absurd (ok refl)

-- ---- a token never lowers it

abbrev Above : ℕ → DeclState → Type 0
Above n NoDecl = Unit {0}
Above n st = n ≤ decl_least st

body_up : (head : FunctionStart) (ps : List ParamSyntax) → Above (max (params_height ps) 1) (body_begins head ps)
body_up head ps = by (head.recursive)
  where
    by : (b : Bool) → Above (max (params_height ps) 1) (body_begins_if b head ps)
    by true = tt
    by false = omega arith

take_params_up : (head : FunctionStart) (ps : List ParamSyntax) (what : ExprToken) → Above (max (params_height ps) 1) (take_params head ps what)
take_params_up head ps (mark symbol.LeftParen) = omega arith
take_params_up head ps (mark symbol.Colon) = omega arith
take_params_up head ps (operator (between.Compare compare.Eq)) = body_up head ps
take_params_up head ps _ = tt

-- after the name of a function
named_up : (recursive : Bool) (at : ℕ) (x : List ℕ) (what : ExprToken) → Above 1 (take_params (started recursive at x []) [] what)
named_up recursive at x what = subst (λ n. Above n (take_params (started recursive at x []) [] what)) least_is (take_params_up (started recursive at x []) [] what)
  where
    least_is : max (params_height []) 1 ≡ 1
    least_is = omega arith

-- a record without fields, or a function without parameters
vars_up : (owner : VarOwner) (vs : List VarSyntax) → Above 1 (Expects (after_vars owner vs))
vars_up (OfRecord at x) vs = omega arith
vars_up (OfFunction recursive at x) vs = omega arith

expected_up : (expected : DeclExpected) (what : ExprToken) (at : ℕ) → Above (expected_least expected) (take_expected expected what at)
expected_up DeclBegin (mark symbol.AttributeOpen) at = omega arith
expected_up DeclBegin (word keyword.Type) at = omega arith
expected_up DeclBegin (word keyword.Let) at = omega arith
expected_up AttributeWord (word keyword.Measure) at = omega arith
expected_up AttributeGreater (operator (between.Compare compare.Gt)) at = omega arith
expected_up AttributeClose (mark symbol.RightBracket) at = omega arith
expected_up MeasureType (word keyword.Type) at = omega arith
expected_up MeasureName (name x) at = omega arith
expected_up RecordName (name x) at = omega arith
expected_up (RecordVars p x) (operator (between.Compare compare.Lt)) at = omega arith
expected_up (RecordVars p x) (operator (between.Compare compare.Eq)) at = omega arith
expected_up (VarBegin owner vs) (mark symbol.AttributeOpen) at = omega arith
expected_up (VarWord owner vs) (word keyword.Measure) at = omega arith
expected_up (VarGreater owner vs) (operator (between.Compare compare.Gt)) at = omega arith
expected_up (VarClose owner vs) (mark symbol.RightBracket) at = omega arith
expected_up (VarName owner vs) (variable v) at = omega arith
expected_up (VarEnd owner vs) (mark symbol.Comma) at = omega arith
expected_up (VarEnd owner vs) (operator (between.Compare compare.Gt)) at = vars_up owner vs
expected_up (RecordEqual p x vs) (operator (between.Compare compare.Eq)) at = omega arith
expected_up (RecordBrace p x vs) (mark symbol.LeftBrace) at = omega arith
expected_up (FieldName p x vs fs) (name y) at = omega arith
expected_up (FieldColon p x vs fs place y) (mark symbol.Colon) at = omega arith
expected_up LetName (word keyword.Rec) at = omega arith
expected_up LetName (name x) at = omega arith
expected_up RecName (name x) at = omega arith
expected_up (FunctionVars recursive p x) (operator (between.Compare compare.Lt)) at = omega arith
expected_up (FunctionVars recursive p x) what at = named_up recursive p x what
expected_up (Params head ps) what at = take_params_up head ps what
expected_up (ParamBinder head ps) (name y) at = omega arith
expected_up (ParamBinder head ps) hole at = omega arith
expected_up (ParamColon head ps b) (mark symbol.Colon) at = omega arith
expected_up _ _ at = tt

base_up : (at : ℕ) (x : List ℕ) (what : ExprToken) → Above 0 (base_after at x what)
base_up at x (operator (between.Compare compare.Eq)) = omega arith
base_up at x _ = tt

short_up : (at n : ℕ) (x : List ℕ) (u : UnitState) → (u ≢ NoUnit → n ≤ least u) → Above n (short_goes at x u)
short_up at n x NoUnit up = tt
short_up at n x _ up = up (λ e. cc)

field_end_up : (at : ℕ) (x : List ℕ) (vs : List VarSyntax) (fs : List FieldDeclSyntax) (place : ℕ) (y : List ℕ) (s : TypeState) (found : Option TypeSyntax) (what : ExprToken) → type_finish s ≡ found
    → Above (max (fields_height fs) (type_least s)) (field_ends at x vs fs place y found what)
field_end_up at x vs fs place y s (Some t) (mark symbol.Semicolon) e =
    let same = type_found_height s t e in
    let last = fields_height_last fs (record { at = place; name = y; type = t }) in
    omega (arith, same, last)
field_end_up at x vs fs place y s (Some t) (mark symbol.RightBrace) e =
    let same = type_found_height s t e in
    let last = fields_height_last fs (record { at = place; name = y; type = t }) in
    omega (arith, same, last)
field_end_up at x vs fs place y s _ _ e = tt

param_end_up : (head : FunctionStart) (ps : List ParamSyntax) (b : BinderSyntax) (s : TypeState) (found : Option TypeSyntax) (what : ExprToken) → type_finish s ≡ found
    → Above (max (params_height ps) (max (type_least s) 1)) (param_ends head ps b found what)
param_end_up head ps b s (Some t) (mark symbol.RightParen) e =
    let same = type_found_height s t e in
    let last = params_height_last ps (record { binder = b; type = t }) in
    omega (arith, same, last)
param_end_up head ps b s _ _ e = tt

result_end_up : (head : FunctionStart) (ps : List ParamSyntax) (s : TypeState) (found : Option TypeSyntax) (what : ExprToken) → type_finish s ≡ found
    → Above (max (params_height ps) (max (type_least s) 1)) (result_ends head ps found what)
result_end_up head ps s (Some t) (operator (between.Compare compare.Eq)) e =
    let same = type_found_height s t e in
    omega (arith, same)
result_end_up head ps s _ _ e = tt

field_up : (at : ℕ) (x : List ℕ) (vs : List VarSyntax) (fs : List FieldDeclSyntax) (place : ℕ) (y : List ℕ) (low : ℕ) (s : TypeState) (over : DeclState) → (s ≢ NoType → low ≤ type_least s)
    → Above (max (fields_height fs) low) over → Above (max (fields_height fs) low) (field_goes at x vs fs place y s over)
field_up at x vs fs place y low NoType over up h = h
field_up at x vs fs place y low _ over up h = let le = up (λ e. cc) in omega (arith, le)

param_up : (head : FunctionStart) (ps : List ParamSyntax) (b : BinderSyntax) (low : ℕ) (s : TypeState) (over : DeclState) → (s ≢ NoType → low ≤ type_least s)
    → Above (max (params_height ps) (max low 1)) over → Above (max (params_height ps) (max low 1)) (param_goes head ps b s over)
param_up head ps b low NoType over up h = h
param_up head ps b low _ over up h = let le = up (λ e. cc) in omega (arith, le)

result_up : (head : FunctionStart) (ps : List ParamSyntax) (low : ℕ) (s : TypeState) (over : DeclState) → (s ≢ NoType → low ≤ type_least s)
    → Above (max (params_height ps) (max low 1)) over → Above (max (params_height ps) (max low 1)) (result_goes head ps s over)
result_up head ps low NoType over up h = h
result_up head ps low _ over up h = let le = up (λ e. cc) in omega (arith, le)

in_body_up : (head : FunctionStart) (ps : List ParamSyntax) (r : Option TypeSyntax) (low : ℕ) (e : State) → (e ≢ Refused → low ≤ whole_least e)
    → Above (max (params_height ps) (max (result_height r) low)) (body_goes head ps r e)
in_body_up head ps r low Refused up = tt
in_body_up head ps r low _ up = let le = up (λ h. cc) in omega (arith, le)

decl_above : (st : DeclState) (x : Token) → Above (decl_least st) (decl_step st x)
decl_above (Expects expected) x = expected_up expected (expr_token x.kind) x.start
decl_above (HaveBase at y) x = base_up at y (expr_token x.kind)
decl_above (InShort at y u) x = short_up at (least u) y (unit_step u x) (λ goes. unit_up u x goes)
decl_above (HaveRecord at y vs fs) x = tt
decl_above (InField at y vs fs place z s) x =
    field_up at y vs fs place z (type_least s) (type_step s x) (field_ends at y vs fs place z (type_finish s) (expr_token x.kind)) (λ goes. type_up s x goes)
    (field_end_up at y vs fs place z s (type_finish s) (expr_token x.kind) refl)
decl_above (InParam head ps b s) x =
    param_up head ps b (type_least s) (type_step s x) (param_ends head ps b (type_finish s) (expr_token x.kind)) (λ goes. type_up s x goes)
    (param_end_up head ps b s (type_finish s) (expr_token x.kind) refl)
decl_above (InResult head ps s) x =
    result_up head ps (type_least s) (type_step s x) (result_ends head ps (type_finish s) (expr_token x.kind)) (λ goes. type_up s x goes)
    (result_end_up head ps s (type_finish s) (expr_token x.kind) refl)
decl_above (InBody head ps r e) x = in_body_up head ps r (whole_least e) (step e x) (λ goes. expr_up e x goes)
decl_above NoDecl x = tt

above_least : (n : ℕ) (st : DeclState) → st ≢ NoDecl → Above n st → n ≤ decl_least st
above_least n NoDecl ok h = absurd (ok refl)
above_least n _ ok h = h

pub decl_up : (st : DeclState) (x : Token) → decl_step st x ≢ NoDecl → decl_least st ≤ decl_least (decl_step st x)
decl_up st x ok = above_least (decl_least st) (decl_step st x) ok (decl_above st x)

-- ---- what is found has it

short_height : (at : ℕ) (x : List ℕ) (u : UnitState) (o : Option UnitSyntax) (d : DeclSyntax) → unit_finish u ≡ o → short_found at x o ≡ Some d → decl_height d ≡ least u
short_height at x u (Some t) d f e = let same : short_syntax at x t ≡ d = cc in ap decl_height (sym same) ∙ found_height u t f
short_height at x u None d f e = absurd cc

body_height : (head : FunctionStart) (ps : List ParamSyntax) (r : Option TypeSyntax) (e : State) (o : Option ExprSyntax) (d : DeclSyntax) → finish e ≡ o → body_found head ps r o ≡ Some d
    → decl_height d ≡ max (params_height ps) (max (result_height r) (whole_least e))
body_height head ps r e (Some t) d f h =
    let same : function_from head ps r t ≡ d = cc in
    ap decl_height (sym same) ∙ ap (λ n. max (params_height ps) (max (result_height r) n)) (expr_found_height e t f)
body_height head ps r e None d f h = absurd cc

pub decl_found_height : (st : DeclState) (d : DeclSyntax) → decl_finish st ≡ Some d → decl_height d ≡ decl_least st
decl_found_height (HaveBase at x) d e = let same : base_syntax at x ≡ d = cc in ap decl_height (sym same)
decl_found_height (InShort at x u) d e = short_height at x u (unit_finish u) d refl e
decl_found_height (HaveRecord at x vs fs) d e = let same : record_decl_syntax at x vs fs ≡ d = cc in ap decl_height (sym same)
decl_found_height (InBody head ps r b) d e = body_height head ps r b (finish b) d refl e
decl_found_height _ d e = absurd cc
