-- What declarations leave of the tokens, and that each takes a token.
use Rattle.std.proofs.Common.{◌≡◌, ◌+◌, ◌≤◌, Bool, true, false, List, [], ◌∷◌, length, Option, Some, None, ap, arith}
use Rattle.um_syntax.specs.declared.token.Token.{Token}
use Rattle.um_tree.specs.RawTree.{UnitSyntax, TypeSyntax, VarSyntax, FieldDeclSyntax, ParamSyntax, DeclSyntax, base_syntax, short_syntax, record_decl_syntax, function_syntax}
use Rattle.um_types.specs.TypeGrammar.{TypeFits}
use Rattle.um_unit_texts.specs.UnitGrammar.{Spells as UnitSpells, Fits as UnitFits}
use Rattle.um_unit_texts.proofs.UnitNested.{unit_reaches}
use Rattle.um_forms.specs.declared.token.ExprToken.{ExprToken}
use Rattle.um_expr.specs.ExprGrammar.{First}
use Rattle.um_parse.specs.DeclGrammar.{Attribute, VarSpells, MoreVars, VarsSpell, FieldDeclSpells, MoreFieldDecls, FieldDeclsSpell, ParamsSpell, ResultSpells, RecSpells, DeclSpells, DeclsSpell, FieldDeclsFit, ParamsFit, ResultFits, DeclFits, DeclsFit}
use Rattle.um_front.proofs.TokensLeft.{Leaves, leaves_all, leaves_few, thence, first_leaves, at_leaves, type_leaves, expr_leaves}

pub unit_leaves : (u : UnitSyntax) (tokens rest : List Token) → UnitSpells u tokens rest → UnitFits u → Leaves tokens rest
unit_leaves u tokens rest s fits = let r = unit_reaches u tokens rest s fits in (r.0, r.1)

pub attribute_leaves : (tokens rest : List Token) → Attribute tokens rest → Leaves tokens rest
attribute_leaves tokens rest s = thence (first_leaves _ tokens s.0 s.3) (thence (first_leaves _ s.0 s.1 s.4) (thence (first_leaves _ s.1 s.2 s.5) (first_leaves _ s.2 rest s.6)))

pub var_leaves : (v : VarSyntax) (tokens rest : List Token) → VarSpells v tokens rest → Leaves tokens rest
var_leaves v tokens rest s = thence (attribute_leaves tokens s.0 s.1) (at_leaves _ v.at s.0 rest s.2)

more_vars_leave : (vs : List VarSyntax) (tokens rest : List Token) → MoreVars vs tokens rest → Leaves tokens rest
more_vars_leave [] tokens rest s = leaves_all tokens rest s
more_vars_leave (v ∷ vs) tokens rest s = thence (first_leaves _ tokens s.0 s.2) (thence (var_leaves v s.0 s.1 s.3) (more_vars_leave vs s.1 rest s.4))

pub vars_leave : (vs : List VarSyntax) (tokens rest : List Token) → VarsSpell vs tokens rest → Leaves tokens rest
vars_leave [] tokens rest s = leaves_all tokens rest s
vars_leave (v ∷ vs) tokens rest s =
    thence (first_leaves _ tokens s.0 s.3) (thence (var_leaves v s.0 s.1 s.4) (thence (more_vars_leave vs s.1 s.2 s.5) (first_leaves _ s.2 rest s.6)))

pub field_leaves : (f : FieldDeclSyntax) (tokens rest : List Token) → FieldDeclSpells f tokens rest → TypeFits f.type → Leaves tokens rest
field_leaves f tokens rest s fits = thence (at_leaves _ f.at tokens s.0 s.2) (thence (first_leaves _ s.0 s.1 s.3) (type_leaves f.type s.1 rest s.4 fits))

more_field_decls_leave : (fs : List FieldDeclSyntax) (tokens rest : List Token) → MoreFieldDecls fs tokens rest → FieldDeclsFit fs → Leaves tokens rest
more_field_decls_leave [] tokens rest s fits = leaves_all tokens rest s
more_field_decls_leave (f ∷ fs) tokens rest s fits =
    thence (first_leaves _ tokens s.0 s.2) (thence (field_leaves f s.0 s.1 s.3 fits.0) (more_field_decls_leave fs s.1 rest s.4 fits.1))

field_decls_leave : (fs : List FieldDeclSyntax) (tokens rest : List Token) → FieldDeclsSpell fs tokens rest → FieldDeclsFit fs → Leaves tokens rest
field_decls_leave [] tokens rest s fits = absurd s
field_decls_leave (f ∷ fs) tokens rest s fits = thence (field_leaves f tokens s.0 s.1 fits.0) (more_field_decls_leave fs s.0 rest s.2 fits.1)

pub params_leave : (ps : List ParamSyntax) (tokens rest : List Token) → ParamsSpell ps tokens rest → ParamsFit ps → Leaves tokens rest
params_leave [] tokens rest s fits = leaves_all tokens rest s
params_leave (p ∷ ps) tokens rest s fits =
    let one = s.1 in
    thence (first_leaves _ tokens one.0 one.4)
    (
    thence (at_leaves _ p.binder.at one.0 one.1 one.5)
    (
    thence (first_leaves _ one.1 one.2 one.6)
    (thence (type_leaves p.type one.2 one.3 one.7 fits.0) (thence (first_leaves _ one.3 s.0 one.8) (params_leave ps s.0 rest s.2 fits.1)))
    )
    )

pub result_leaves : (recursive : Bool) (r : Option TypeSyntax) (tokens rest : List Token) → ResultSpells r tokens rest → ResultFits recursive r → Leaves tokens rest
result_leaves recursive None tokens rest s fits = leaves_all tokens rest s
result_leaves recursive (Some t) tokens rest s fits = thence (first_leaves _ tokens s.0 s.1) (type_leaves t s.0 rest s.2 fits)

pub rec_leaves : (recursive : Bool) (tokens rest : List Token) → RecSpells recursive tokens rest → Leaves tokens rest
rec_leaves false tokens rest s = leaves_all tokens rest s
rec_leaves true tokens rest s = first_leaves _ tokens rest s

-- ---- declarations

first_less : (what : ExprToken) (tokens rest : List Token) → First what tokens rest → length tokens ≡ length rest + 1
first_less what tokens rest f = let same : length tokens ≡ length (f.0 ∷ rest) = ap length f.2 in omega (arith, same)

-- a first token and what is left behind it
first_and_more : (what : ExprToken) (tokens mid rest : List Token) → First what tokens mid → Leaves mid rest → Leaves tokens rest × (length rest + 1 ≤ length tokens)
first_and_more what tokens mid rest f l =
    let one = first_less what tokens mid f in
    let others = leaves_few mid rest l in
    (thence (first_leaves what tokens mid f) l, omega (arith, one, others))

-- behind `[<Measure>]`
attribute_and_more : (tokens mid rest : List Token) → Attribute tokens mid → Leaves mid rest → Leaves tokens rest × (length rest + 1 ≤ length tokens)
attribute_and_more tokens mid rest s l =
    first_and_more _ tokens s.0 rest s.3 (thence (first_leaves _ s.0 s.1 s.4) (thence (first_leaves _ s.1 s.2 s.5) (thence (first_leaves _ s.2 mid s.6) l)))

pub decl_leaves : (d : DeclSyntax) (tokens rest : List Token) → DeclSpells d tokens rest → DeclFits d → Leaves tokens rest × (length rest + 1 ≤ length tokens)
decl_leaves (base_syntax at x) tokens rest s fits = attribute_and_more tokens s.0 rest s.2 (thence (first_leaves _ s.0 s.1 s.3) (at_leaves _ at s.1 rest s.4))
decl_leaves (short_syntax at x u) tokens rest s fits =
    attribute_and_more tokens s.0 rest s.4
    (thence (first_leaves _ s.0 s.1 s.5) (thence (at_leaves _ at s.1 s.2 s.6) (thence (first_leaves _ s.2 s.3 s.7) (unit_leaves u s.3 rest s.8 fits))))
decl_leaves (record_decl_syntax at x vs fs) tokens rest s fits =
    first_and_more _ tokens s.0 rest s.6
    (
    thence (at_leaves _ at s.0 s.1 s.7)
    (
    thence (vars_leave vs s.1 s.2 s.8)
    (thence (first_leaves _ s.2 s.3 s.9) (thence (first_leaves _ s.3 s.4 s.10) (thence (field_decls_leave fs s.4 s.5 s.11 fits) (first_leaves _ s.5 rest s.12))))
    )
    )
decl_leaves (function_syntax f) tokens rest s fits =
    first_and_more _ tokens s.0 rest s.7
    (
    thence (rec_leaves f.recursive s.0 s.1 s.8)
    (
    thence (at_leaves _ f.at s.1 s.2 s.9)
    (
    thence (vars_leave f.units s.2 s.3 s.10)
    (
    thence (params_leave f.params s.3 s.4 s.11 fits.0)
    (thence (result_leaves f.recursive f.result s.4 s.5 s.12 fits.1) (thence (first_leaves _ s.5 s.6 s.13) (expr_leaves f.body s.6 rest s.14 fits.2)))
    )
    )
    )
    )

-- a program has no more declarations than tokens
pub few_decls : (ds : List DeclSyntax) (tokens rest : List Token) → DeclsSpell ds tokens rest → DeclsFit ds → length ds ≤ length tokens
few_decls [] tokens rest s fits = omega arith
few_decls (d ∷ ds) tokens rest s fits =
    let one = (decl_leaves d tokens s.0 s.1 fits.0).1 in
    let others = few_decls ds s.0 rest s.2 fits.1 in
    omega (arith, one, others)
