-- Reading declarations token by token, with the machines of units, types and expressions inside. A token that a
-- machine inside refuses ends what it has read, and is looked at again; one that a declaration refuses begins the next.
-- Source: this project's own.
use Rattle.std.specs.Prelude.{ℕ, Bool, true, false, cond, List, [], ◌∷◌, ◌++◌, Option, Some, None}
use Rattle.um_syntax.specs.declared.token.Token.{Token}
use Rattle.um_syntax.specs.declared.token.Kind.{Kind}
use Rattle.um_tree.specs.declared.expression.Sign.TheVariants as compare
use Rattle.um_tree.specs.RawTree.{UnitSyntax, TypeSyntax, BinderSyntax, ExprSyntax, VarSyntax, FieldDeclSyntax}
use Rattle.um_tree.specs.RawTree.{ParamSyntax, DeclSyntax, base_syntax, short_syntax, record_decl_syntax}
use Rattle.um_tree.specs.RawTree.{FunctionSyntax, function_syntax}
use Rattle.um_unit_texts.specs.UnitTokens.{unit_token}
use Rattle.um_unit_texts.specs.UnitMachine.{State as UnitState, Need as NeedUnit, Refused as NoUnit, act as unit_act}
use Rattle.um_unit_texts.specs.UnitMachine.{finish as unit_finish}
use Rattle.um_types.specs.TypeMachine.{TypeState, NeedType, NoType, type_act, type_finish}
use Rattle.um_vocabulary.specs.declared.vocabulary.Keyword.TheVariants as keyword
use Rattle.um_vocabulary.specs.declared.vocabulary.Symbol.TheVariants as symbol
use Rattle.um_operands.specs.declared.infix.Infix.TheVariants as between
use Rattle.um_operands.specs.ExprBegun.{State, Need, Refused, finish}
use Rattle.um_forms.specs.declared.token.ExprToken.{ExprToken}
use Rattle.um_forms.specs.declared.token.ExprToken.TheVariants.{Name as name, Variable as variable, Hole as hole}
use Rattle.um_forms.specs.declared.token.ExprToken.TheVariants.{Operator as operator, Word as word, Mark as mark}
use Rattle.um_forms.specs.ExprTokens.{expr_token}
use Rattle.um_expr.specs.ExprMachine.{act}

-- a function up to its parameters
pub record FunctionStart : Type 0 where
  pub at : ℕ
  pub name : List ℕ
  pub recursive : Bool
  pub units : List VarSyntax

abbrev pub start_of : FunctionSyntax → FunctionStart
start_of f = record { at = f.at; name = f.name; recursive = f.recursive; units = f.units }

-- whose unit parameters are read: a record's, or a function's, with its name at its place
pub data VarOwner : Type 0 where
  OfRecord : (at : ℕ) (x : List ℕ) → VarOwner
  OfFunction : (recursive : Bool) (at : ℕ) (x : List ℕ) → VarOwner

-- a place inside a run of tokens that is fixed
pub data DeclExpected : Type 0 where
  DeclBegin : DeclExpected
  -- after `[<`; `Measure`; `>`; `]`; `type`
  AttributeWord : DeclExpected
  AttributeGreater : DeclExpected
  AttributeClose : DeclExpected
  MeasureType : DeclExpected
  MeasureName : DeclExpected
  -- after `type`; after the name
  RecordName : DeclExpected
  RecordVars : (at : ℕ) (x : List ℕ) → DeclExpected
  -- after `<` or `,` and these parameters; `[<`; `Measure`; `>`; `]`; after a parameter
  VarBegin : (owner : VarOwner) (vs : List VarSyntax) → DeclExpected
  VarWord : (owner : VarOwner) (vs : List VarSyntax) → DeclExpected
  VarGreater : (owner : VarOwner) (vs : List VarSyntax) → DeclExpected
  VarClose : (owner : VarOwner) (vs : List VarSyntax) → DeclExpected
  VarName : (owner : VarOwner) (vs : List VarSyntax) → DeclExpected
  VarEnd : (owner : VarOwner) (vs : List VarSyntax) → DeclExpected
  -- after the parameters; `=`; `{` or `;` and these fields; after a field's name
  RecordEqual : (at : ℕ) (x : List ℕ) (vs : List VarSyntax) → DeclExpected
  RecordBrace : (at : ℕ) (x : List ℕ) (vs : List VarSyntax) → DeclExpected
  FieldName : (at : ℕ) (x : List ℕ) (vs : List VarSyntax) (fs : List FieldDeclSyntax) → DeclExpected
  FieldColon : (at : ℕ) (x : List ℕ) (vs : List VarSyntax) (fs : List FieldDeclSyntax) (place : ℕ) (y : List ℕ)
      → DeclExpected
  -- after `let`; `rec`; the name; the unit parameters and these parameters; `(`; after the binder
  LetName : DeclExpected
  RecName : DeclExpected
  FunctionVars : (recursive : Bool) (at : ℕ) (x : List ℕ) → DeclExpected
  Params : (head : FunctionStart) (ps : List ParamSyntax) → DeclExpected
  ParamBinder : (head : FunctionStart) (ps : List ParamSyntax) → DeclExpected
  ParamColon : (head : FunctionStart) (ps : List ParamSyntax) (b : BinderSyntax) → DeclExpected

pub data DeclState : Type 0 where
  Expects : (expected : DeclExpected) → DeclState
  -- a measure that may still be an abbreviation; the unit text of an abbreviation; a whole record
  HaveBase : (at : ℕ) (x : List ℕ) → DeclState
  InShort : (at : ℕ) (x : List ℕ) (unit : UnitState) → DeclState
  HaveRecord : (at : ℕ) (x : List ℕ) (vs : List VarSyntax) (fs : List FieldDeclSyntax) → DeclState
  -- in the type of a field, of a parameter, of a result; in a body
  InField : (at : ℕ) (x : List ℕ) (vs : List VarSyntax) (fs : List FieldDeclSyntax) (place : ℕ) (y : List ℕ)
      (s : TypeState)
      → DeclState
  InParam : (head : FunctionStart) (ps : List ParamSyntax) (b : BinderSyntax) (s : TypeState)
      → DeclState
  InResult : (head : FunctionStart) (ps : List ParamSyntax) (s : TypeState) → DeclState
  InBody : (head : FunctionStart) (ps : List ParamSyntax) (result : Option TypeSyntax) (e : State)
      → DeclState
  NoDecl : DeclState

-- a function up to its parameters, by its parts
abbrev pub started : Bool → ℕ → List ℕ → List VarSyntax → FunctionStart
started recursive at x vs = record { at = at; name = x; recursive = recursive; units = vs }

-- after the `>` of unit parameters
abbrev pub after_vars : VarOwner → List VarSyntax → DeclExpected
after_vars (OfRecord at x) vs = RecordEqual at x vs
after_vars (OfFunction recursive at x) vs = Params (started recursive at x vs) []

-- `=` after the parameters: a function with `rec` has a result type
abbrev pub body_begins_if : Bool → FunctionStart → List ParamSyntax → DeclState
body_begins_if true head ps = NoDecl
body_begins_if false head ps = InBody head ps None (Need [])

abbrev pub body_begins : FunctionStart → List ParamSyntax → DeclState
body_begins head ps = body_begins_if head.recursive head ps

-- after the parameters of a function, or its name
abbrev pub take_params : FunctionStart → List ParamSyntax → ExprToken → DeclState
take_params head ps (mark symbol.LeftParen) = Expects (ParamBinder head ps)
take_params head ps (mark symbol.Colon) = InResult head ps (NeedType 0)
take_params head ps (operator (between.Compare compare.Eq)) = body_begins head ps
take_params head ps _ = NoDecl

abbrev pub take_expected : DeclExpected → ExprToken → ℕ → DeclState
take_expected DeclBegin (mark symbol.AttributeOpen) p = Expects AttributeWord
take_expected DeclBegin (word keyword.Type) p = Expects RecordName
take_expected DeclBegin (word keyword.Let) p = Expects LetName
take_expected AttributeWord (word keyword.Measure) p = Expects AttributeGreater
take_expected AttributeGreater (operator (between.Compare compare.Gt)) p = Expects AttributeClose
take_expected AttributeClose (mark symbol.RightBracket) p = Expects MeasureType
take_expected MeasureType (word keyword.Type) p = Expects MeasureName
take_expected MeasureName (name x) p = HaveBase p x
take_expected RecordName (name x) p = Expects (RecordVars p x)
take_expected (RecordVars at x) (operator (between.Compare compare.Lt)) p = Expects (VarBegin (OfRecord at x) [])
take_expected (RecordVars at x) (operator (between.Compare compare.Eq)) p = Expects (RecordBrace at x [])
take_expected (VarBegin owner vs) (mark symbol.AttributeOpen) p = Expects (VarWord owner vs)
take_expected (VarWord owner vs) (word keyword.Measure) p = Expects (VarGreater owner vs)
take_expected (VarGreater owner vs) (operator (between.Compare compare.Gt)) p = Expects (VarClose owner vs)
take_expected (VarClose owner vs) (mark symbol.RightBracket) p = Expects (VarName owner vs)
take_expected (VarName owner vs) (variable v) p = Expects (VarEnd owner (vs ++ (record { at = p; name = v }) ∷ []))
take_expected (VarEnd owner vs) (mark symbol.Comma) p = Expects (VarBegin owner vs)
take_expected (VarEnd owner vs) (operator (between.Compare compare.Gt)) p = Expects (after_vars owner vs)
take_expected (RecordEqual at x vs) (operator (between.Compare compare.Eq)) p = Expects (RecordBrace at x vs)
take_expected (RecordBrace at x vs) (mark symbol.LeftBrace) p = Expects (FieldName at x vs [])
take_expected (FieldName at x vs fs) (name y) p = Expects (FieldColon at x vs fs p y)
take_expected (FieldColon at x vs fs place y) (mark symbol.Colon) p = InField at x vs fs place y (NeedType 0)
take_expected LetName (word keyword.Rec) p = Expects RecName
take_expected LetName (name x) p = Expects (FunctionVars false p x)
take_expected RecName (name x) p = Expects (FunctionVars true p x)
take_expected (FunctionVars recursive at x) (operator (between.Compare compare.Lt)) p =
    Expects (VarBegin (OfFunction recursive at x) [])
take_expected (FunctionVars recursive at x) w p = take_params (started recursive at x []) [] w
take_expected (Params head ps) w p = take_params head ps w
take_expected (ParamBinder head ps) (name y) p =
    Expects (ParamColon head ps (record { at = p; name = Some y }))
take_expected (ParamBinder head ps) hole p =
    Expects (ParamColon head ps (record { at = p; name = None }))
take_expected (ParamColon head ps b) (mark symbol.Colon) p = InParam head ps b (NeedType 0)
take_expected _ _ p = NoDecl

-- `=` after the name of a measure
abbrev pub base_after : ℕ → List ℕ → ExprToken → DeclState
base_after at x (operator (between.Compare compare.Eq)) = InShort at x (NeedUnit [])
base_after at x _ = NoDecl

-- the token after a type
abbrev pub with_field_decl : List FieldDeclSyntax → ℕ → List ℕ → TypeSyntax → List FieldDeclSyntax
with_field_decl fs place y t = fs ++ (record { at = place; name = y; type = t }) ∷ []

abbrev pub with_param : List ParamSyntax → BinderSyntax → TypeSyntax → List ParamSyntax
with_param ps b t = ps ++ (record { binder = b; type = t }) ∷ []

abbrev pub field_ends : ℕ → List ℕ → List VarSyntax → List FieldDeclSyntax → ℕ → List ℕ → Option TypeSyntax
    → ExprToken → DeclState
field_ends at x vs fs place y (Some t) (mark symbol.Semicolon) =
    Expects (FieldName at x vs (with_field_decl fs place y t))
field_ends at x vs fs place y (Some t) (mark symbol.RightBrace) = HaveRecord at x vs (with_field_decl fs place y t)
field_ends at x vs fs place y _ _ = NoDecl

abbrev pub param_ends : FunctionStart → List ParamSyntax → BinderSyntax → Option TypeSyntax → ExprToken → DeclState
param_ends head ps b (Some t) (mark symbol.RightParen) = Expects (Params head (with_param ps b t))
param_ends head ps b _ _ = NoDecl

abbrev pub result_ends : FunctionStart → List ParamSyntax → Option TypeSyntax → ExprToken → DeclState
result_ends head ps (Some t) (operator (between.Compare compare.Eq)) =
    InBody head ps (Some t) (Need [])
result_ends head ps _ _ = NoDecl

-- the machine inside goes on, or not
abbrev pub short_goes : ℕ → List ℕ → UnitState → DeclState
short_goes at x NoUnit = NoDecl
short_goes at x u = InShort at x u

abbrev pub field_goes : ℕ → List ℕ → List VarSyntax → List FieldDeclSyntax → ℕ → List ℕ → TypeState → DeclState
    → DeclState
field_goes at x vs fs place y NoType ended = ended
field_goes at x vs fs place y s ended = InField at x vs fs place y s

abbrev pub param_goes : FunctionStart → List ParamSyntax → BinderSyntax → TypeState → DeclState → DeclState
param_goes head ps b NoType ended = ended
param_goes head ps b s ended = InParam head ps b s

abbrev pub result_goes : FunctionStart → List ParamSyntax → TypeState → DeclState → DeclState
result_goes head ps NoType ended = ended
result_goes head ps s ended = InResult head ps s

abbrev pub body_goes : FunctionStart → List ParamSyntax → Option TypeSyntax → State → DeclState
body_goes head ps r Refused = NoDecl
body_goes head ps r e = InBody head ps r e

-- one token more
abbrev pub decl_act : DeclState → ExprToken → ℕ → Bool → Kind → DeclState
decl_act (Expects expected) w p glued k = take_expected expected w p
decl_act (HaveBase at x) w p glued k = base_after at x w
decl_act (InShort at x u) w p glued k = short_goes at x (unit_act u (unit_token k) p)
decl_act (HaveRecord at x vs fs) w p glued k = NoDecl
decl_act (InField at x vs fs place y s) w p glued k =
    field_goes at x vs fs place y (type_act s k p) (field_ends at x vs fs place y (type_finish s) w)
decl_act (InParam head ps b s) w p glued k =
    param_goes head ps b (type_act s k p) (param_ends head ps b (type_finish s) w)
decl_act (InResult head ps s) w p glued k =
    result_goes head ps (type_act s k p) (result_ends head ps (type_finish s) w)
decl_act (InBody head ps r e) w p glued k = body_goes head ps r (act e w p glued k)
decl_act NoDecl w p glued k = NoDecl

abbrev pub decl_step : DeclState → Token → DeclState
decl_step state token = decl_act state (expr_token token.kind) token.start token.glued token.kind

-- the token outside the machines inside, or the token that the type inside has refused
abbrev pub own_step : DeclState → Token → DeclState
own_step (Expects expected) token = take_expected expected (expr_token token.kind) token.start
own_step (HaveBase at x) token = base_after at x (expr_token token.kind)
own_step (InField at x vs fs place y s) token =
    field_ends at x vs fs place y (type_finish s) (expr_token token.kind)
own_step (InParam head ps b s) token = param_ends head ps b (type_finish s) (expr_token token.kind)
own_step (InResult head ps s) token = result_ends head ps (type_finish s) (expr_token token.kind)
own_step _ token = NoDecl

-- the declaration, if all is read
abbrev pub short_found : ℕ → List ℕ → Option UnitSyntax → Option DeclSyntax
short_found at x None = None
short_found at x (Some u) = Some (short_syntax at x u)

abbrev pub function_from : FunctionStart → List ParamSyntax → Option TypeSyntax → ExprSyntax → DeclSyntax
function_from head ps r e =
    function_syntax (record {
      at = head.at;
      name = head.name;
      recursive = head.recursive;
      units = head.units;
      params = ps;
      result = r;
      body = e;
    })

abbrev pub body_found : FunctionStart → List ParamSyntax → Option TypeSyntax → Option ExprSyntax → Option DeclSyntax
body_found head ps r None = None
body_found head ps r (Some e) =
    Some (function_from head ps r e)

abbrev pub decl_finish : DeclState → Option DeclSyntax
decl_finish (HaveBase at x) = Some (base_syntax at x)
decl_finish (InShort at x u) = short_found at x (unit_finish u)
decl_finish (HaveRecord at x vs fs) = Some (record_decl_syntax at x vs fs)
decl_finish (InBody head ps r e) = body_found head ps r (finish e)
decl_finish _ = None

-- declarations, and the one that is read
pub data ProgramState : Type 0 where
  InProgram : (decls : List DeclSyntax) (decl : DeclState) → ProgramState
  NoProgram : ProgramState

-- the declaration goes on, or not
abbrev pub program_goes : List DeclSyntax → DeclState → ProgramState → ProgramState
program_goes decls NoDecl ended = ended
program_goes decls d ended = InProgram decls d

-- the token that a declaration refused, if it begins the next
abbrev pub next_decl : List DeclSyntax → Option DeclSyntax → DeclState → ProgramState
next_decl decls None begun = NoProgram
next_decl decls (Some d) begun = program_goes (decls ++ d ∷ []) begun NoProgram

abbrev pub program_step : ProgramState → Token → ProgramState
program_step (InProgram decls d) token =
    program_goes decls (decl_step d token) (next_decl decls (decl_finish d) (decl_step (Expects DeclBegin) token))
program_step NoProgram token = NoProgram

-- whether no token of a declaration was read
abbrev pub at_start : DeclState → Bool
at_start (Expects DeclBegin) = true
at_start _ = false

-- the program, if all is read
abbrev pub program_found : List DeclSyntax → Option DeclSyntax → Option (List DeclSyntax)
program_found decls None = None
program_found decls (Some d) = Some (decls ++ d ∷ [])

abbrev pub program_finish : ProgramState → Option (List DeclSyntax)
program_finish (InProgram decls d) = cond (at_start d) (Some decls) (program_found decls (decl_finish d))
program_finish NoProgram = None
