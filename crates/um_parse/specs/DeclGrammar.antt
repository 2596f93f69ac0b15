-- The grammar of declarations and programs: relations between tokens and raw trees, by cases on the tree.
--   program   = { decl }
--   attribute = "[<" "Measure" ">" "]"
--   decl      = attribute "type" Name [ "=" unit ]
--             | "type" Name [ "<" parameter { "," parameter } ">" ] "=" "{" field { ";" field } "}"
--             | "let" [ "rec" ] Name [ "<" parameter { "," parameter } ">" ] { "(" binder ":" type ")" }
--               [ ":" type ] "=" expr
--   parameter = attribute Var
--   field     = Name ":" type
-- A function with "rec" has a result type.
-- Source: the F# specification, Type Definitions, Function Definitions and Units Of Measure, for the forms that this
-- language has.
use Rattle.std.specs.Prelude.{◌≡◌, Bool, true, false, List, [], ◌∷◌, Option, Some, None}
use Rattle.um_syntax.specs.declared.token.Token.{Token}
use Rattle.um_tree.specs.RawTree.{TypeSyntax, VarSyntax, FieldDeclSyntax, ParamSyntax, FunctionSyntax, DeclSyntax}
use Rattle.um_tree.specs.RawTree.{base_syntax, short_syntax, record_decl_syntax, function_syntax}
use Rattle.um_unit_texts.specs.UnitGrammar.{Spells as UnitSpells, Fits as UnitFits}
use Rattle.um_types.specs.TypeGrammar.{TypeSpells, TypeFits}
use Rattle.um_vocabulary.specs.declared.vocabulary.Keyword.TheVariants as keyword
use Rattle.um_vocabulary.specs.declared.vocabulary.Symbol.TheVariants as symbol
use Rattle.um_forms.specs.declared.token.ExprToken.TheVariants.{Name as name, Variable as variable, Word as word}
use Rattle.um_forms.specs.declared.token.ExprToken.TheVariants.{Mark as mark}
use Rattle.um_forms.specs.ExprTokens.{equal, less, greater}
use Rattle.um_expr.specs.ExprGrammar.{First, FirstAt, BinderSpells, Spells, Fits}

-- `[<Measure>]`
abbrev pub Attribute : List Token → List Token → Type 0
Attribute tokens rest =
    (next sign last : List Token) × First (mark symbol.AttributeOpen) tokens next
    × First (word keyword.Measure) next sign × First greater sign last × First (mark symbol.RightBracket) last rest

abbrev pub VarSpells : VarSyntax → List Token → List Token → Type 0
VarSpells v tokens rest = (next : List Token) × Attribute tokens next × FirstAt (variable v.name) v.at next rest

abbrev pub MoreVars : List VarSyntax → List Token → List Token → Type 0
MoreVars [] tokens rest = tokens ≡ rest
MoreVars (v ∷ vs) tokens rest =
    (next mid : List Token) × First (mark symbol.Comma) tokens next × VarSpells v next mid × MoreVars vs mid rest

-- unit parameters in angle brackets, or nothing if there are none
abbrev pub VarsSpell : List VarSyntax → List Token → List Token → Type 0
VarsSpell [] tokens rest = tokens ≡ rest
VarsSpell (v ∷ vs) tokens rest =
    (next mid last : List Token) × First less tokens next × VarSpells v next mid × MoreVars vs mid last
    × First greater last rest

abbrev pub FieldDeclSpells : FieldDeclSyntax → List Token → List Token → Type 0
FieldDeclSpells f tokens rest =
    (colon written : List Token) × FirstAt (name f.name) f.at tokens colon × First (mark symbol.Colon) colon written
    × TypeSpells f.type written rest

abbrev pub MoreFieldDecls : List FieldDeclSyntax → List Token → List Token → Type 0
MoreFieldDecls [] tokens rest = tokens ≡ rest
MoreFieldDecls (f ∷ fs) tokens rest =
    (next mid : List Token) × First (mark symbol.Semicolon) tokens next × FieldDeclSpells f next mid
    × MoreFieldDecls fs mid rest

-- at least one field, separated by `;`
abbrev pub FieldDeclsSpell : List FieldDeclSyntax → List Token → List Token → Type 0
FieldDeclsSpell [] tokens rest = ⊥
FieldDeclsSpell (f ∷ fs) tokens rest = (mid : List Token) × FieldDeclSpells f tokens mid × MoreFieldDecls fs mid rest

abbrev pub ParamSpells : ParamSyntax → List Token → List Token → Type 0
ParamSpells p tokens rest =
    (bound colon written last : List Token) × First (mark symbol.LeftParen) tokens bound
    × BinderSpells p.binder bound colon × First (mark symbol.Colon) colon written
    × TypeSpells p.type written last × First (mark symbol.RightParen) last rest

abbrev pub ParamsSpell : List ParamSyntax → List Token → List Token → Type 0
ParamsSpell [] tokens rest = tokens ≡ rest
ParamsSpell (p ∷ ps) tokens rest = (mid : List Token) × ParamSpells p tokens mid × ParamsSpell ps mid rest

abbrev pub ResultSpells : Option TypeSyntax → List Token → List Token → Type 0
ResultSpells None tokens rest = tokens ≡ rest
ResultSpells (Some t) tokens rest =
    (written : List Token) × First (mark symbol.Colon) tokens written × TypeSpells t written rest

-- `rec`, or nothing
abbrev pub RecSpells : Bool → List Token → List Token → Type 0
RecSpells false tokens rest = tokens ≡ rest
RecSpells true tokens rest = First (word keyword.Rec) tokens rest

abbrev pub FunctionSpells : FunctionSyntax → List Token → List Token → Type 0
FunctionSpells f tokens rest =
    (next named units params result sign body : List Token) × First (word keyword.Let) tokens next
    × RecSpells f.recursive next named × FirstAt (name f.name) f.at named units × VarsSpell f.units units params
    × ParamsSpell f.params params result × ResultSpells f.result result sign × First equal sign body
    × Spells f.body body rest

-- the tokens are those of the declaration, and then the rest
abbrev pub DeclSpells : DeclSyntax → List Token → List Token → Type 0
DeclSpells (base_syntax at x) tokens rest =
    (next named : List Token) × Attribute tokens next × First (word keyword.Type) next named
    × FirstAt (name x) at named rest
DeclSpells (short_syntax at x u) tokens rest =
    (next named sign unit : List Token) × Attribute tokens next × First (word keyword.Type) next named
    × FirstAt (name x) at named sign × First equal sign unit × UnitSpells u unit rest
DeclSpells (record_decl_syntax at x vs fs) tokens rest =
    (named vars sign brace fields last : List Token) × First (word keyword.Type) tokens named
    × FirstAt (name x) at named vars × VarsSpell vs vars sign × First equal sign brace
    × First (mark symbol.LeftBrace) brace fields × FieldDeclsSpell fs fields last
    × First (mark symbol.RightBrace) last rest
DeclSpells (function_syntax f) tokens rest = FunctionSpells f tokens rest

abbrev pub DeclsSpell : List DeclSyntax → List Token → List Token → Type 0
DeclsSpell [] tokens rest = tokens ≡ rest
DeclsSpell (d ∷ ds) tokens rest = (mid : List Token) × DeclSpells d tokens mid × DeclsSpell ds mid rest

-- each part stands where the grammar lets it stand
abbrev pub FieldDeclsFit : List FieldDeclSyntax → Type 0
FieldDeclsFit [] = Unit {0}
FieldDeclsFit (f ∷ fs) = TypeFits f.type × FieldDeclsFit fs

abbrev pub ParamsFit : List ParamSyntax → Type 0
ParamsFit [] = Unit {0}
ParamsFit (p ∷ ps) = TypeFits p.type × ParamsFit ps

-- a function with `rec` has a result type
abbrev pub ResultFits : Bool → Option TypeSyntax → Type 0
ResultFits recursive (Some t) = TypeFits t
ResultFits recursive None = recursive ≡ false

abbrev pub DeclFits : DeclSyntax → Type 0
DeclFits (base_syntax at x) = Unit {0}
DeclFits (short_syntax at x u) = UnitFits u
DeclFits (record_decl_syntax at x vs fs) = FieldDeclsFit fs
DeclFits (function_syntax f) = ParamsFit f.params × ResultFits f.recursive f.result × Fits f.body

abbrev pub DeclsFit : List DeclSyntax → Type 0
DeclsFit [] = Unit {0}
DeclsFit (d ∷ ds) = DeclFits d × DeclsFit ds

-- the tokens are this program
pub record IsProgram (tokens : List Token) (ds : List DeclSyntax) : Type 0 where
  pub spelled : DeclsSpell ds tokens []
  pub fits : DeclsFit ds
