-- What a declaration that was begun can be completed to.
use Rattle.std.proofs.Common.{◌≡◌, ◌≢◌, ℕ, List, [], ◌∷◌, ◌++◌, true, false, Some, None, refl, sym, subst, ◌∙◌, append_assoc}
use Rattle.um_syntax.specs.declared.token.Token.{Token}
use Rattle.um_syntax.specs.declared.token.Kind.{Kind}
use Rattle.um_syntax.specs.declared.token.Kind.TheVariants as kind
use Rattle.um_vocabulary.specs.declared.vocabulary.Keyword.{Keyword}
use Rattle.um_vocabulary.specs.declared.vocabulary.Keyword.TheVariants as keyword
use Rattle.um_vocabulary.specs.declared.vocabulary.Symbol.{Symbol}
use Rattle.um_vocabulary.specs.declared.vocabulary.Symbol.TheVariants as symbol
use Rattle.um_tree.specs.RawTree.{bool_syntax, BinderSyntax, VarSyntax, FieldDeclSyntax, ParamSyntax, DeclSyntax, base_syntax, short_syntax, record_decl_syntax}
use Rattle.um_unit_texts.specs.UnitGrammar.{Spells as UnitSpells, IsUnit}
use Rattle.um_unit_texts.specs.UnitMachine.{Need as NeedUnit, Refused as NoUnit, run as unit_run}
use Rattle.um_unit_texts.proofs.UnitLaws.{ending_of, completed, can_go_on}
use Rattle.um_unit_texts.proofs.UnitCut.{unit_before}
use Rattle.um_types.proofs.TypeSound.{TypeSpellsPrefix}
use Rattle.um_types.proofs.TypeLaws.{type_ending, type_completed, type_can_end}
use Rattle.um_parse.specs.DeclGrammar.{Attribute, VarsSpell, FieldDeclsSpell, DeclSpells, DeclFits}
use Rattle.um_decls.specs.DeclMachine.{FunctionStart, VarOwner, OfRecord, OfFunction, started, function_from, DeclExpected, DeclBegin, AttributeWord, AttributeGreater, AttributeClose, MeasureType, MeasureName, RecordName, RecordVars, VarBegin, VarWord, VarGreater, VarClose, VarName, VarEnd, RecordEqual, RecordBrace, FieldName, FieldColon, LetName, RecName, FunctionVars, Params, ParamBinder, ParamColon, DeclState, Expects, HaveBase, InShort, HaveRecord, InField, InParam, InResult, InBody, NoDecl}
use Rattle.um_expr.proofs.ExprCompletions.{operand_token, operand, expr_ending, expr_completed, expr_can_end}
use Rattle.um_parse.proofs.DeclPrefixes.{OwnerReads, RecordHead, VarsOpen, RecordOpens, FunctionHead, ExpectedReads, ExpectedFits, DeclSpellsPrefix, vars_last, vars_close, fields_last, fields_fit, params_fit, head_last}

abbrev token_of : Kind → Token
token_of k = record { kind = k; start = 0; end = 0; glued = false }

abbrev word : Keyword → Token
word k = token_of (kind.Word k)

abbrev sign : Symbol → Token
sign k = token_of (kind.Sign k)

abbrev name_token : Token
name_token = token_of (kind.Name [])

abbrev var_token : Token
var_token = token_of (kind.Var [])

abbrev hole_token : Token
hole_token = token_of kind.Hole

-- parts without letters, of the type `bool`
abbrev pub unnamed_var : VarSyntax
unnamed_var = record { at = 0; name = [] }

abbrev field_of : ℕ → List ℕ → FieldDeclSyntax
field_of at y = record { at = at; name = y; type = bool_syntax }

abbrev param_of : BinderSyntax → ParamSyntax
param_of b = record { binder = b; type = bool_syntax }

abbrev unnamed : BinderSyntax
unnamed = record { at = 0; name = None }

abbrev function_of : FunctionStart → List ParamSyntax → DeclSyntax
function_of head ps = function_from head ps (Some bool_syntax) operand

-- `: bool }`; `name : bool }`; `{ name : bool }`; `= { name : bool }`; `: bool = true`
abbrev field_rest : List Token
field_rest = sign symbol.Colon ∷ word keyword.Bool ∷ sign symbol.RightBrace ∷ []

abbrev brace_rest : List Token
brace_rest = sign symbol.LeftBrace ∷ name_token ∷ field_rest

abbrev record_rest : List Token
record_rest = sign symbol.Equal ∷ brace_rest

abbrev function_rest : List Token
function_rest = sign symbol.Colon ∷ word keyword.Bool ∷ sign symbol.Equal ∷ operand_token ∷ []

-- `type name`; what is after unit parameters; a variable, `>` and that
abbrev measure_rest : List Token
measure_rest = word keyword.Type ∷ name_token ∷ []

abbrev owner_rest : VarOwner → List Token
owner_rest (OfRecord at x) = record_rest
owner_rest (OfFunction recursive at x) = function_rest

abbrev var_rest : VarOwner → List Token
var_rest owner = var_token ∷ sign symbol.Greater ∷ owner_rest owner

-- the declaration with these unit parameters
abbrev pub owner_with : VarOwner → List VarSyntax → DeclSyntax
owner_with (OfRecord at x) vs = record_decl_syntax at x vs (field_of 0 [] ∷ [])
owner_with (OfFunction recursive at x) vs = function_of (started recursive at x vs) []

abbrev pub expected_ending : DeclExpected → List Token
expected_ending DeclBegin = sign symbol.AttributeOpen ∷ word keyword.Measure ∷ sign symbol.Greater ∷ sign symbol.RightBracket ∷ measure_rest
expected_ending AttributeWord = word keyword.Measure ∷ sign symbol.Greater ∷ sign symbol.RightBracket ∷ measure_rest
expected_ending AttributeGreater = sign symbol.Greater ∷ sign symbol.RightBracket ∷ measure_rest
expected_ending AttributeClose = sign symbol.RightBracket ∷ measure_rest
expected_ending MeasureType = measure_rest
expected_ending MeasureName = name_token ∷ []
expected_ending RecordName = name_token ∷ record_rest
expected_ending (RecordVars at x) = record_rest
expected_ending (VarBegin owner vs) = sign symbol.AttributeOpen ∷ word keyword.Measure ∷ sign symbol.Greater ∷ sign symbol.RightBracket ∷ var_rest owner
expected_ending (VarWord owner vs) = word keyword.Measure ∷ sign symbol.Greater ∷ sign symbol.RightBracket ∷ var_rest owner
expected_ending (VarGreater owner vs) = sign symbol.Greater ∷ sign symbol.RightBracket ∷ var_rest owner
expected_ending (VarClose owner vs) = sign symbol.RightBracket ∷ var_rest owner
expected_ending (VarName owner vs) = var_rest owner
expected_ending (VarEnd owner vs) = sign symbol.Greater ∷ owner_rest owner
expected_ending (RecordEqual at x vs) = record_rest
expected_ending (RecordBrace at x vs) = brace_rest
expected_ending (FieldName at x vs fs) = name_token ∷ field_rest
expected_ending (FieldColon at x vs fs place y) = field_rest
expected_ending LetName = name_token ∷ function_rest
expected_ending RecName = name_token ∷ function_rest
expected_ending (FunctionVars recursive at x) = function_rest
expected_ending (Params head ps) = function_rest
expected_ending (ParamBinder head ps) = hole_token ∷ sign symbol.Colon ∷ word keyword.Bool ∷ sign symbol.RightParen ∷ function_rest
expected_ending (ParamColon head ps b) = sign symbol.Colon ∷ word keyword.Bool ∷ sign symbol.RightParen ∷ function_rest

abbrev pub expected_completed : DeclExpected → DeclSyntax
expected_completed DeclBegin = base_syntax 0 []
expected_completed AttributeWord = base_syntax 0 []
expected_completed AttributeGreater = base_syntax 0 []
expected_completed AttributeClose = base_syntax 0 []
expected_completed MeasureType = base_syntax 0 []
expected_completed MeasureName = base_syntax 0 []
expected_completed RecordName = record_decl_syntax 0 [] [] (field_of 0 [] ∷ [])
expected_completed (RecordVars at x) = record_decl_syntax at x [] (field_of 0 [] ∷ [])
expected_completed (VarBegin owner vs) = owner_with owner (vs ++ unnamed_var ∷ [])
expected_completed (VarWord owner vs) = owner_with owner (vs ++ unnamed_var ∷ [])
expected_completed (VarGreater owner vs) = owner_with owner (vs ++ unnamed_var ∷ [])
expected_completed (VarClose owner vs) = owner_with owner (vs ++ unnamed_var ∷ [])
expected_completed (VarName owner vs) = owner_with owner (vs ++ unnamed_var ∷ [])
expected_completed (VarEnd owner vs) = owner_with owner vs
expected_completed (RecordEqual at x vs) = record_decl_syntax at x vs (field_of 0 [] ∷ [])
expected_completed (RecordBrace at x vs) = record_decl_syntax at x vs (field_of 0 [] ∷ [])
expected_completed (FieldName at x vs fs) = record_decl_syntax at x vs (fs ++ field_of 0 [] ∷ [])
expected_completed (FieldColon at x vs fs place y) = record_decl_syntax at x vs (fs ++ field_of place y ∷ [])
expected_completed LetName = function_of (started false 0 [] []) []
expected_completed RecName = function_of (started true 0 [] []) []
expected_completed (FunctionVars recursive at x) = function_of (started recursive at x []) []
expected_completed (Params head ps) = function_of head ps
expected_completed (ParamBinder head ps) = function_of head (ps ++ param_of unnamed ∷ [])
expected_completed (ParamColon head ps b) = function_of head (ps ++ param_of b ∷ [])

abbrev pub decl_ending : DeclState → List Token
decl_ending (Expects expected) = expected_ending expected
decl_ending (HaveBase at x) = []
decl_ending (InShort at x u) = ending_of u
decl_ending (HaveRecord at x vs fs) = []
decl_ending (InField at x vs fs place y s) = type_ending s ++ sign symbol.RightBrace ∷ []
decl_ending (InParam head ps b s) = type_ending s ++ sign symbol.RightParen ∷ function_rest
decl_ending (InResult head ps s) = type_ending s ++ sign symbol.Equal ∷ operand_token ∷ []
decl_ending (InBody head ps r e) = expr_ending e
decl_ending NoDecl = []

abbrev pub decl_completed : DeclState → DeclSyntax
decl_completed (Expects expected) = expected_completed expected
decl_completed (HaveBase at x) = base_syntax at x
decl_completed (InShort at x u) = short_syntax at x (completed u)
decl_completed (HaveRecord at x vs fs) = record_decl_syntax at x vs fs
decl_completed (InField at x vs fs place y s) = record_decl_syntax at x vs (fs ++ (record { at = place; name = y; type = type_completed s }) ∷ [])
decl_completed (InParam head ps b s) = function_of head (ps ++ (record { binder = b; type = type_completed s }) ∷ [])
decl_completed (InResult head ps s) = function_from head ps (Some (type_completed s)) operand
decl_completed (InBody head ps r e) = function_from head ps r (expr_completed e)
decl_completed NoDecl = base_syntax 0 []

-- ---- the tokens

record_reads : (at : ℕ) (x : List ℕ) (vs : List VarSyntax) (tokens vars rest : List Token) → RecordHead at x tokens vars → VarsSpell vs vars (record_rest ++ rest)
    → DeclSpells (record_decl_syntax at x vs (field_of 0 [] ∷ [])) tokens rest
record_reads at x vs tokens vars rest h s = (
  h.0,
  vars,
  record_rest ++ rest,
  brace_rest ++ rest,
  name_token ∷ (field_rest ++ rest),
  sign symbol.RightBrace ∷ rest,
  h.1,
  h.2,
  s,
  (sign symbol.Equal, refl, refl),
  (sign symbol.LeftBrace, refl, refl),
  (sign symbol.RightBrace ∷ rest, (field_rest ++ rest, word keyword.Bool ∷ sign symbol.RightBrace ∷ rest, (name_token, refl, refl, refl), (sign symbol.Colon, refl, refl), (word keyword.Bool, refl, refl)), refl),
  (sign symbol.RightBrace, refl, refl),
)

function_reads : (head : FunctionStart) (ps : List ParamSyntax) (tokens rest : List Token) → FunctionHead head ps tokens (function_rest ++ rest) → DeclSpells (function_of head ps) tokens rest
function_reads head ps tokens rest h = (
  h.2.0,
  h.2.1,
  h.0,
  h.1,
  function_rest ++ rest,
  sign symbol.Equal ∷ operand_token ∷ rest,
  operand_token ∷ rest,
  h.2.2,
  h.2.3,
  h.2.4,
  h.3,
  h.4,
  (word keyword.Bool ∷ sign symbol.Equal ∷ operand_token ∷ rest, (sign symbol.Colon, refl, refl), (word keyword.Bool, refl, refl)),
  (sign symbol.Equal, refl, refl),
  (operand_token, refl, refl, refl),
)

owner_reads : (owner : VarOwner) (vs : List VarSyntax) (tokens vars rest : List Token) → OwnerReads owner tokens vars → VarsSpell vs vars (owner_rest owner ++ rest) → DeclSpells (owner_with owner vs) tokens rest
owner_reads (OfRecord at x) vs tokens vars rest h s = record_reads at x vs tokens vars rest h s
owner_reads (OfFunction recursive at x) vs tokens vars rest h s = function_reads (started recursive at x vs) [] tokens rest (vars, function_rest ++ rest, h, s, refl)

var_reads : (owner : VarOwner) (vs : List VarSyntax) (tokens mid rest : List Token) → VarsOpen owner vs tokens mid → Attribute mid (var_rest owner ++ rest) → DeclSpells (owner_with owner (vs ++ unnamed_var ∷ [])) tokens rest
var_reads owner vs tokens mid rest o a =
    let behind : List Token = sign symbol.Greater ∷ (owner_rest owner ++ rest) in
    owner_reads owner (vs ++ unnamed_var ∷ []) tokens o.0 rest o.2
    (vars_close (vs ++ unnamed_var ∷ []) o.0 o.1 behind (owner_rest owner ++ rest) o.3 (vars_last vs unnamed_var o.1 mid behind o.4 (var_rest owner ++ rest, a, (var_token, refl, refl, refl))) (sign symbol.Greater, refl, refl))

fields_read : (at : ℕ) (x : List ℕ) (vs : List VarSyntax) (fs : List FieldDeclSyntax) (f : FieldDeclSyntax) (tokens fields rest : List Token) → RecordOpens at x vs tokens fields → FieldDeclsSpell (fs ++ f ∷ []) fields (sign symbol.RightBrace ∷ rest)
    → DeclSpells (record_decl_syntax at x vs (fs ++ f ∷ [])) tokens rest
fields_read at x vs fs f tokens fields rest o s =
    (o.3.0, o.0, o.1, o.2, fields, sign symbol.RightBrace ∷ rest, o.3.1, o.3.2, o.4, o.5, o.6, s, (sign symbol.RightBrace, refl, refl))

measure_reads : (tokens rest : List Token) → Attribute tokens (measure_rest ++ rest) → DeclSpells (base_syntax 0 []) tokens rest
measure_reads tokens rest a = (measure_rest ++ rest, name_token ∷ rest, a, (word keyword.Type, refl, refl), (name_token, refl, refl, refl))

expected_reads : (expected : DeclExpected) (tokens rest : List Token) → ExpectedReads expected tokens (expected_ending expected ++ rest) → DeclSpells (expected_completed expected) tokens rest
expected_reads DeclBegin tokens rest h =
    measure_reads tokens rest (
      word keyword.Measure ∷ sign symbol.Greater ∷ sign symbol.RightBracket ∷ (measure_rest ++ rest),
      sign symbol.Greater ∷ sign symbol.RightBracket ∷ (measure_rest ++ rest),
      sign symbol.RightBracket ∷ (measure_rest ++ rest),
      (sign symbol.AttributeOpen, refl, h),
      (word keyword.Measure, refl, refl),
      (sign symbol.Greater, refl, refl),
      (sign symbol.RightBracket, refl, refl),
    )
expected_reads AttributeWord tokens rest h =
    measure_reads tokens rest (
      word keyword.Measure ∷ sign symbol.Greater ∷ sign symbol.RightBracket ∷ (measure_rest ++ rest),
      sign symbol.Greater ∷ sign symbol.RightBracket ∷ (measure_rest ++ rest),
      sign symbol.RightBracket ∷ (measure_rest ++ rest),
      h,
      (word keyword.Measure, refl, refl),
      (sign symbol.Greater, refl, refl),
      (sign symbol.RightBracket, refl, refl),
    )
expected_reads AttributeGreater tokens rest h =
    measure_reads tokens rest (h.0, sign symbol.Greater ∷ sign symbol.RightBracket ∷ (measure_rest ++ rest), sign symbol.RightBracket ∷ (measure_rest ++ rest), h.1, h.2, (sign symbol.Greater, refl, refl), (sign symbol.RightBracket, refl, refl))
expected_reads AttributeClose tokens rest h = measure_reads tokens rest (h.0, h.1, sign symbol.RightBracket ∷ (measure_rest ++ rest), h.2, h.3, h.4, (sign symbol.RightBracket, refl, refl))
expected_reads MeasureType tokens rest h = measure_reads tokens rest h
expected_reads MeasureName tokens rest h = (h.0, name_token ∷ rest, h.1, h.2, (name_token, refl, refl, refl))
expected_reads RecordName tokens rest h = record_reads 0 [] [] tokens (record_rest ++ rest) rest (name_token ∷ (record_rest ++ rest), h, (name_token, refl, refl, refl)) refl
expected_reads (RecordVars at x) tokens rest h = record_reads at x [] tokens (record_rest ++ rest) rest h refl
expected_reads (VarBegin owner vs) tokens rest h =
    let begin : List Token = sign symbol.AttributeOpen ∷ word keyword.Measure ∷ sign symbol.Greater ∷ sign symbol.RightBracket ∷ (var_rest owner ++ rest) in
    var_reads owner vs tokens begin rest h (
      word keyword.Measure ∷ sign symbol.Greater ∷ sign symbol.RightBracket ∷ (var_rest owner ++ rest),
      sign symbol.Greater ∷ sign symbol.RightBracket ∷ (var_rest owner ++ rest),
      sign symbol.RightBracket ∷ (var_rest owner ++ rest),
      (sign symbol.AttributeOpen, refl, refl),
      (word keyword.Measure, refl, refl),
      (sign symbol.Greater, refl, refl),
      (sign symbol.RightBracket, refl, refl),
    )
expected_reads (VarWord owner vs) tokens rest h =
    var_reads owner vs tokens h.0 rest h.1 (
      word keyword.Measure ∷ sign symbol.Greater ∷ sign symbol.RightBracket ∷ (var_rest owner ++ rest),
      sign symbol.Greater ∷ sign symbol.RightBracket ∷ (var_rest owner ++ rest),
      sign symbol.RightBracket ∷ (var_rest owner ++ rest),
      h.2,
      (word keyword.Measure, refl, refl),
      (sign symbol.Greater, refl, refl),
      (sign symbol.RightBracket, refl, refl),
    )
expected_reads (VarGreater owner vs) tokens rest h =
    var_reads owner vs tokens h.0 rest h.2 (h.1, sign symbol.Greater ∷ sign symbol.RightBracket ∷ (var_rest owner ++ rest), sign symbol.RightBracket ∷ (var_rest owner ++ rest), h.3, h.4, (sign symbol.Greater, refl, refl), (sign symbol.RightBracket, refl, refl))
expected_reads (VarClose owner vs) tokens rest h = var_reads owner vs tokens h.0 rest h.3 (h.1, h.2, sign symbol.RightBracket ∷ (var_rest owner ++ rest), h.4, h.5, h.6, (sign symbol.RightBracket, refl, refl))
expected_reads (VarName owner vs) tokens rest h = var_reads owner vs tokens h.0 rest h.1 h.2
expected_reads (VarEnd owner vs) tokens rest h =
    owner_reads owner vs tokens h.0 rest h.2 (vars_close vs h.0 h.1 (sign symbol.Greater ∷ (owner_rest owner ++ rest)) (owner_rest owner ++ rest) h.3 h.4 (sign symbol.Greater, refl, refl))
expected_reads (RecordEqual at x vs) tokens rest h = record_reads at x vs tokens h.0 rest h.1 h.2
expected_reads (RecordBrace at x vs) tokens rest h = (
  h.2.0,
  h.0,
  h.1,
  brace_rest ++ rest,
  name_token ∷ (field_rest ++ rest),
  sign symbol.RightBrace ∷ rest,
  h.2.1,
  h.2.2,
  h.3,
  h.4,
  (sign symbol.LeftBrace, refl, refl),
  (sign symbol.RightBrace ∷ rest, (field_rest ++ rest, word keyword.Bool ∷ sign symbol.RightBrace ∷ rest, (name_token, refl, refl, refl), (sign symbol.Colon, refl, refl), (word keyword.Bool, refl, refl)), refl),
  (sign symbol.RightBrace, refl, refl),
)
expected_reads (FieldName at x vs fs) tokens rest h =
    let begin : List Token = name_token ∷ (field_rest ++ rest) in
    fields_read at x vs fs (field_of 0 []) tokens h.0 rest h.1
    (
    fields_last fs (field_of 0 []) h.0 begin (sign symbol.RightBrace ∷ rest) h.2
    (field_rest ++ rest, word keyword.Bool ∷ sign symbol.RightBrace ∷ rest, (name_token, refl, refl, refl), (sign symbol.Colon, refl, refl), (word keyword.Bool, refl, refl))
    )
expected_reads (FieldColon at x vs fs place y) tokens rest h =
    fields_read at x vs fs (field_of place y) tokens h.0 rest h.2
    (fields_last fs (field_of place y) h.0 h.1 (sign symbol.RightBrace ∷ rest) h.3 (field_rest ++ rest, word keyword.Bool ∷ sign symbol.RightBrace ∷ rest, h.4, (sign symbol.Colon, refl, refl), (word keyword.Bool, refl, refl)))
expected_reads LetName tokens rest h =
    let named : List Token = name_token ∷ (function_rest ++ rest) in
    function_reads (started false 0 [] []) [] tokens rest (function_rest ++ rest, function_rest ++ rest, (named, named, h, refl, (name_token, refl, refl, refl)), refl, refl)
expected_reads RecName tokens rest h =
    let named : List Token = name_token ∷ (function_rest ++ rest) in
    function_reads (started true 0 [] []) [] tokens rest (function_rest ++ rest, function_rest ++ rest, (h.0, named, h.1, h.2, (name_token, refl, refl, refl)), refl, refl)
expected_reads (FunctionVars recursive at x) tokens rest h =
    function_reads (started recursive at x []) [] tokens rest (function_rest ++ rest, function_rest ++ rest, h, refl, refl)
expected_reads (Params head ps) tokens rest h = function_reads head ps tokens rest h
expected_reads (ParamBinder head ps) tokens rest h =
    let behind : List Token = sign symbol.Colon ∷ word keyword.Bool ∷ sign symbol.RightParen ∷ (function_rest ++ rest) in
    function_reads head (ps ++ param_of unnamed ∷ []) tokens rest
    (
    head_last head ps (param_of unnamed) tokens h.0 (function_rest ++ rest) h.1 (
      hole_token ∷ behind,
      behind,
      word keyword.Bool ∷ sign symbol.RightParen ∷ (function_rest ++ rest),
      sign symbol.RightParen ∷ (function_rest ++ rest),
      h.2,
      (hole_token, refl, refl, refl),
      (sign symbol.Colon, refl, refl),
      (word keyword.Bool, refl, refl),
      (sign symbol.RightParen, refl, refl),
    )
    )
expected_reads (ParamColon head ps b) tokens rest h =
    function_reads head (ps ++ param_of b ∷ []) tokens rest
    (
    head_last head ps (param_of b) tokens h.0 (function_rest ++ rest) h.2 (
      h.1,
      sign symbol.Colon ∷ word keyword.Bool ∷ sign symbol.RightParen ∷ (function_rest ++ rest),
      word keyword.Bool ∷ sign symbol.RightParen ∷ (function_rest ++ rest),
      sign symbol.RightParen ∷ (function_rest ++ rest),
      h.3,
      h.4,
      (sign symbol.Colon, refl, refl),
      (word keyword.Bool, refl, refl),
      (sign symbol.RightParen, refl, refl),
    )
    )

owner_fits : (owner : VarOwner) (vs : List VarSyntax) → DeclFits (owner_with owner vs)
owner_fits (OfRecord at x) vs = (tt, tt)
owner_fits (OfFunction recursive at x) vs = (tt, tt, tt)

expected_fits : (expected : DeclExpected) → ExpectedFits expected → DeclFits (expected_completed expected)
expected_fits RecordName f = (tt, tt)
expected_fits (RecordVars at x) f = (tt, tt)
expected_fits (VarBegin owner vs) f = owner_fits owner (vs ++ unnamed_var ∷ [])
expected_fits (VarWord owner vs) f = owner_fits owner (vs ++ unnamed_var ∷ [])
expected_fits (VarGreater owner vs) f = owner_fits owner (vs ++ unnamed_var ∷ [])
expected_fits (VarClose owner vs) f = owner_fits owner (vs ++ unnamed_var ∷ [])
expected_fits (VarName owner vs) f = owner_fits owner (vs ++ unnamed_var ∷ [])
expected_fits (VarEnd owner vs) f = owner_fits owner vs
expected_fits (RecordEqual at x vs) f = (tt, tt)
expected_fits (RecordBrace at x vs) f = (tt, tt)
expected_fits (FieldName at x vs fs) f = fields_fit fs (field_of 0 []) f tt
expected_fits (FieldColon at x vs fs place y) f = fields_fit fs (field_of place y) f tt
expected_fits LetName f = (tt, tt, tt)
expected_fits RecName f = (tt, tt, tt)
expected_fits (FunctionVars recursive at x) f = (tt, tt, tt)
expected_fits (Params head ps) f = (f, tt, tt)
expected_fits (ParamBinder head ps) f = (params_fit ps (param_of unnamed) f tt, tt, tt)
expected_fits (ParamColon head ps b) f = (params_fit ps (param_of b) f tt, tt, tt)
expected_fits _ f = tt

-- what isn't refused can be completed
pub decl_can_end : (st : DeclState) (tokens rest : List Token) → DeclSpellsPrefix st tokens (decl_ending st ++ rest) → st ≢ NoDecl → DeclSpells (decl_completed st) tokens rest × DeclFits (decl_completed st)
decl_can_end (Expects expected) tokens rest h ok = (expected_reads expected tokens rest h.0, expected_fits expected h.1)
decl_can_end (HaveBase at x) tokens rest h ok = ((h.0, h.1, h.2, h.3, h.4), tt)
decl_can_end (InShort at x u) tokens rest h ok =
    let run_ok : unit_run (NeedUnit []) h.2 ≢ NoUnit = λ e. h.7 (sym h.6 ∙ e) in
    let p : IsUnit (h.2 ++ ending_of u) (completed u) = subst (λ s. IsUnit (h.2 ++ ending_of s) (completed s)) h.6 (can_go_on h.2 run_ok) in
    let parts : h.1 ≡ (h.2 ++ ending_of u) ++ rest = h.5 ∙ sym (append_assoc h.2 (ending_of u) rest) in
    let m = h.3 in
    ((m.0, m.1, h.0, h.1, m.2, m.3, m.4, h.4, subst (λ s. UnitSpells (completed u) s rest) (sym parts) (unit_before (completed u) (h.2 ++ ending_of u) rest p)), p.fits)
decl_can_end (HaveRecord at x vs fs) tokens rest h ok = h
decl_can_end (InField at x vs fs place y s) tokens rest h ok =
    let p = type_can_end s h.3 (sign symbol.RightBrace ∷ rest) (subst (λ w. TypeSpellsPrefix s h.3 w) (append_assoc (type_ending s) (sign symbol.RightBrace ∷ []) rest) h.8) h.10 in
    let f : FieldDeclSyntax = record { at = place; name = y; type = type_completed s } in
    (fields_read at x vs fs f tokens h.0 rest h.4 (fields_last fs f h.0 h.1 (sign symbol.RightBrace ∷ rest) h.5 (h.2, h.3, h.6, h.7, p.0)), fields_fit fs f h.9 p.1)
decl_can_end (InParam head ps b s) tokens rest h ok =
    let behind : List Token = function_rest ++ rest in
    let p = type_can_end s h.3 (sign symbol.RightParen ∷ behind) (subst (λ w. TypeSpellsPrefix s h.3 w) (append_assoc (type_ending s) (sign symbol.RightParen ∷ function_rest) rest) h.8) h.10 in
    let q : ParamSyntax = record { binder = b; type = type_completed s } in (
      function_reads head (ps ++ q ∷ []) tokens rest (head_last head ps q tokens h.0 behind h.4 (h.1, h.2, h.3, sign symbol.RightParen ∷ behind, h.5, h.6, h.7, p.0, (sign symbol.RightParen, refl, refl))),
      (params_fit ps q h.9 p.1, tt, tt),
    )
decl_can_end (InResult head ps s) tokens rest h ok =
    let p = type_can_end s h.1 (sign symbol.Equal ∷ operand_token ∷ rest) (subst (λ w. TypeSpellsPrefix s h.1 w) (append_assoc (type_ending s) (sign symbol.Equal ∷ operand_token ∷ []) rest) h.4) h.6 in
    let f = h.2 in (
      (f.2.0, f.2.1, f.0, f.1, h.0, sign symbol.Equal ∷ operand_token ∷ rest, operand_token ∷ rest, f.2.2, f.2.3, f.2.4, f.3, f.4, (h.1, h.3, p.0), (sign symbol.Equal, refl, refl), (operand_token, refl, refl, refl)),
      (h.5, p.1, tt),
    )
decl_can_end (InBody head ps r e) tokens rest h ok =
    let p = expr_can_end e h.2 rest h.6 h.9 in
    let f = h.3 in
    ((f.2.0, f.2.1, f.0, f.1, h.0, h.1, h.2, f.2.2, f.2.3, f.2.4, f.3, f.4, h.4, h.5, p.0), (h.7, h.8, p.1))
decl_can_end NoDecl tokens rest h ok = absurd (ok refl)
