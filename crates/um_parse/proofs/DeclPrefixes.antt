-- What a state of the machine of declarations says of the tokens that were read.
use Rattle.std.proofs.Common.{◌≡◌, ◌≢◌, ℕ, List, [], ◌∷◌, ◌++◌, Bool, refl, sym, subst}
use Rattle.um_syntax.specs.declared.token.Token.{Token}
use Rattle.um_tree.specs.RawTree.{VarSyntax, FieldDeclSyntax, ParamSyntax, record_decl_syntax}
use Rattle.um_unit_texts.specs.UnitMachine.{Need as NeedUnit, Refused as NoUnit, run as unit_run}
use Rattle.um_types.specs.TypeGrammar.{TypeFits}
use Rattle.um_types.specs.TypeMachine.{NoType}
use Rattle.um_types.proofs.TypeSound.{TypeSpellsPrefix}
use Rattle.um_vocabulary.specs.declared.vocabulary.Keyword.TheVariants as keyword
use Rattle.um_vocabulary.specs.declared.vocabulary.Symbol.TheVariants as symbol
use Rattle.um_operands.specs.ExprBegun.{Refused}
use Rattle.um_forms.specs.declared.token.ExprToken.TheVariants.{Name as name, Word as word, Mark as mark}
use Rattle.um_forms.specs.ExprTokens.{equal, less, greater}
use Rattle.um_expr.specs.ExprGrammar.{First, FirstAt, BinderSpells}
use Rattle.um_parse.specs.DeclGrammar.{Attribute, VarSpells, MoreVars, VarsSpell, FieldDeclSpells, MoreFieldDecls, FieldDeclsSpell, ParamSpells, ParamsSpell, ResultSpells, RecSpells, DeclSpells, FieldDeclsFit, ParamsFit, ResultFits}
use Rattle.um_decls.specs.DeclMachine.{FunctionStart, VarOwner, OfRecord, OfFunction, DeclExpected, DeclBegin, AttributeWord, AttributeGreater, AttributeClose, MeasureType, MeasureName, RecordName, RecordVars, VarBegin, VarWord, VarGreater, VarClose, VarName, VarEnd, RecordEqual, RecordBrace, FieldName, FieldColon, LetName, RecName, FunctionVars, Params, ParamBinder, ParamColon, DeclState, Expects, HaveBase, InShort, HaveRecord, InField, InParam, InResult, InBody, NoDecl}
use Rattle.um_expr.proofs.ExprPrefixes.{SpellsPrefix}

-- each unit parameter with the comma after it; at least one, with commas between them
abbrev pub VarsRead : List VarSyntax → List Token → List Token → Type 0
VarsRead [] tokens rest = tokens ≡ rest
VarsRead (v ∷ vs) tokens rest = (mid next : List Token) × VarSpells v tokens mid × First (mark symbol.Comma) mid next × VarsRead vs next rest

abbrev pub VarsBetween : List VarSyntax → List Token → List Token → Type 0
VarsBetween [] tokens rest = ⊥
VarsBetween (v ∷ vs) tokens rest = (mid : List Token) × VarSpells v tokens mid × MoreVars vs mid rest

-- each field with the `;` after it
abbrev pub FieldsRead : List FieldDeclSyntax → List Token → List Token → Type 0
FieldsRead [] tokens rest = tokens ≡ rest
FieldsRead (f ∷ fs) tokens rest = (mid next : List Token) × FieldDeclSpells f tokens mid × First (mark symbol.Semicolon) mid next × FieldsRead fs next rest

-- `type` and a name
abbrev pub RecordHead : ℕ → List ℕ → List Token → List Token → Type 0
RecordHead at x tokens rest = (named : List Token) × First (word keyword.Type) tokens named × FirstAt (name x) at named rest

-- `let`, `rec` or not, and a name
abbrev pub FunctionNamed : Bool → ℕ → List ℕ → List Token → List Token → Type 0
FunctionNamed recursive at x tokens rest =
    (behind named : List Token) × First (word keyword.Let) tokens behind × RecSpells recursive behind named × FirstAt (name x) at named rest

-- a record or a function up to its name
abbrev pub OwnerReads : VarOwner → List Token → List Token → Type 0
OwnerReads (OfRecord at x) tokens rest = RecordHead at x tokens rest
OwnerReads (OfFunction recursive at x) tokens rest = FunctionNamed recursive at x tokens rest

-- up to a unit parameter; a record up to `{`
abbrev pub VarsOpen : VarOwner → List VarSyntax → List Token → List Token → Type 0
VarsOpen owner vs tokens rest = (sign vars : List Token) × OwnerReads owner tokens sign × First less sign vars × VarsRead vs vars rest

abbrev pub RecordOpens : ℕ → List ℕ → List VarSyntax → List Token → List Token → Type 0
RecordOpens at x vs tokens rest = (vars sign brace : List Token) × RecordHead at x tokens vars × VarsSpell vs vars sign × First equal sign brace × First (mark symbol.LeftBrace) brace rest

-- the attribute, `type` and a name
abbrev pub MeasureReads : ℕ → List ℕ → List Token → List Token → Type 0
MeasureReads at x tokens rest = (behind named : List Token) × Attribute tokens behind × First (word keyword.Type) behind named × FirstAt (name x) at named rest

-- `let`, `rec` or not, a name, unit parameters and parameters
abbrev pub FunctionHead : FunctionStart → List ParamSyntax → List Token → List Token → Type 0
FunctionHead head ps tokens rest =
    (units params : List Token) × FunctionNamed head.recursive head.at head.name tokens units × VarsSpell head.units units params × ParamsSpell ps params rest

abbrev pub ExpectedReads : DeclExpected → List Token → List Token → Type 0
ExpectedReads DeclBegin tokens rest = tokens ≡ rest
ExpectedReads AttributeWord tokens rest = First (mark symbol.AttributeOpen) tokens rest
ExpectedReads AttributeGreater tokens rest = (a : List Token) × First (mark symbol.AttributeOpen) tokens a × First (word keyword.Measure) a rest
ExpectedReads AttributeClose tokens rest = (a b : List Token) × First (mark symbol.AttributeOpen) tokens a × First (word keyword.Measure) a b × First greater b rest
ExpectedReads MeasureType tokens rest = Attribute tokens rest
ExpectedReads MeasureName tokens rest = (a : List Token) × Attribute tokens a × First (word keyword.Type) a rest
ExpectedReads RecordName tokens rest = First (word keyword.Type) tokens rest
ExpectedReads (RecordVars at x) tokens rest = RecordHead at x tokens rest
ExpectedReads (VarBegin owner vs) tokens rest = VarsOpen owner vs tokens rest
ExpectedReads (VarWord owner vs) tokens rest = (c : List Token) × VarsOpen owner vs tokens c × First (mark symbol.AttributeOpen) c rest
ExpectedReads (VarGreater owner vs) tokens rest = (c d : List Token) × VarsOpen owner vs tokens c × First (mark symbol.AttributeOpen) c d × First (word keyword.Measure) d rest
ExpectedReads (VarClose owner vs) tokens rest =
    (c d e : List Token) × VarsOpen owner vs tokens c × First (mark symbol.AttributeOpen) c d × First (word keyword.Measure) d e × First greater e rest
ExpectedReads (VarName owner vs) tokens rest = (c : List Token) × VarsOpen owner vs tokens c × Attribute c rest
ExpectedReads (VarEnd owner vs) tokens rest = (sign vars : List Token) × OwnerReads owner tokens sign × First less sign vars × VarsBetween vs vars rest
ExpectedReads (RecordEqual at x vs) tokens rest = (vars : List Token) × RecordHead at x tokens vars × VarsSpell vs vars rest
ExpectedReads (RecordBrace at x vs) tokens rest = (vars sign : List Token) × RecordHead at x tokens vars × VarsSpell vs vars sign × First equal sign rest
ExpectedReads (FieldName at x vs fs) tokens rest = (fields : List Token) × RecordOpens at x vs tokens fields × FieldsRead fs fields rest
ExpectedReads (FieldColon at x vs fs place y) tokens rest = (fields named : List Token) × RecordOpens at x vs tokens fields × FieldsRead fs fields named × FirstAt (name y) place named rest
ExpectedReads LetName tokens rest = First (word keyword.Let) tokens rest
ExpectedReads RecName tokens rest = (a : List Token) × First (word keyword.Let) tokens a × First (word keyword.Rec) a rest
ExpectedReads (FunctionVars recursive at x) tokens rest = FunctionNamed recursive at x tokens rest
ExpectedReads (Params head ps) tokens rest = FunctionHead head ps tokens rest
ExpectedReads (ParamBinder head ps) tokens rest = (d : List Token) × FunctionHead head ps tokens d × First (mark symbol.LeftParen) d rest
ExpectedReads (ParamColon head ps b) tokens rest = (d e : List Token) × FunctionHead head ps tokens d × First (mark symbol.LeftParen) d e × BinderSpells b e rest

abbrev pub ExpectedFits : DeclExpected → Type 0
ExpectedFits (FieldName at x vs fs) = FieldDeclsFit fs
ExpectedFits (FieldColon at x vs fs place y) = FieldDeclsFit fs
ExpectedFits (Params head ps) = ParamsFit ps
ExpectedFits (ParamBinder head ps) = ParamsFit ps
ExpectedFits (ParamColon head ps b) = ParamsFit ps
ExpectedFits _ = Unit {0}

-- the tokens up to the rest are those of the state, and what stands in it fits
abbrev pub DeclSpellsPrefix : DeclState → List Token → List Token → Type 0
DeclSpellsPrefix (Expects expected) tokens rest = ExpectedReads expected tokens rest × ExpectedFits expected
DeclSpellsPrefix (HaveBase at x) tokens rest = MeasureReads at x tokens rest
DeclSpellsPrefix (InShort at x u) tokens rest =
    (sign next read : List Token) × MeasureReads at x tokens sign × First equal sign next × (next ≡ read ++ rest) × (unit_run (NeedUnit []) read ≡ u) × (u ≢ NoUnit)
DeclSpellsPrefix (HaveRecord at x vs fs) tokens rest = DeclSpells (record_decl_syntax at x vs fs) tokens rest × FieldDeclsFit fs
DeclSpellsPrefix (InField at x vs fs place y s) tokens rest =
    (fields named colon next : List Token) × RecordOpens at x vs tokens fields × FieldsRead fs fields named × FirstAt (name y) place named colon × First (mark symbol.Colon) colon next
    × TypeSpellsPrefix s next rest × FieldDeclsFit fs × (s ≢ NoType)
DeclSpellsPrefix (InParam head ps b s) tokens rest =
    (d e colon next : List Token) × FunctionHead head ps tokens d × First (mark symbol.LeftParen) d e × BinderSpells b e colon × First (mark symbol.Colon) colon next
    × TypeSpellsPrefix s next rest × ParamsFit ps × (s ≢ NoType)
DeclSpellsPrefix (InResult head ps s) tokens rest =
    (d next : List Token) × FunctionHead head ps tokens d × First (mark symbol.Colon) d next × TypeSpellsPrefix s next rest × ParamsFit ps × (s ≢ NoType)
DeclSpellsPrefix (InBody head ps r e) tokens rest =
    (d sign next : List Token) × FunctionHead head ps tokens d × ResultSpells r d sign × First equal sign next × SpellsPrefix e next rest × ParamsFit ps × ResultFits head.recursive r × (e ≢ Refused)
DeclSpellsPrefix NoDecl tokens rest = Unit {0}

-- ---- one part more

more_comma : (vs : List VarSyntax) (tokens mid rest : List Token) → MoreVars vs tokens mid → First (mark symbol.Comma) mid rest → (next : List Token) × First (mark symbol.Comma) tokens next × VarsRead vs next rest
more_comma [] tokens mid rest s c = (rest, subst (λ w. First (mark symbol.Comma) w rest) (sym s) c, refl)
more_comma (v ∷ vs) tokens mid rest s c = let m = more_comma vs s.1 mid rest s.4 c in (s.0, s.2, (s.1, m.0, s.3, m.1, m.2))

pub vars_comma : (vs : List VarSyntax) (tokens mid rest : List Token) → VarsBetween vs tokens mid → First (mark symbol.Comma) mid rest → VarsRead vs tokens rest
vars_comma [] tokens mid rest s c = absurd s
vars_comma (v ∷ vs) tokens mid rest s c = let m = more_comma vs s.0 mid rest s.2 c in (s.0, m.0, s.1, m.1, m.2)

more_var : (vs : List VarSyntax) (v : VarSyntax) (tokens next mid rest : List Token) → First (mark symbol.Comma) tokens next → VarsRead vs next mid → VarSpells v mid rest → MoreVars (vs ++ v ∷ []) tokens rest
more_var [] v tokens next mid rest c f s = (next, rest, c, subst (λ w. VarSpells v w rest) (sym f) s, refl)
more_var (w ∷ ws) v tokens next mid rest c f s = (next, f.0, c, f.2, more_var ws v f.0 f.1 mid rest f.3 f.4 s)

pub vars_last : (vs : List VarSyntax) (v : VarSyntax) (tokens mid rest : List Token) → VarsRead vs tokens mid → VarSpells v mid rest → VarsBetween (vs ++ v ∷ []) tokens rest
vars_last [] v tokens mid rest f s = (rest, subst (λ w. VarSpells v w rest) (sym f) s, refl)
vars_last (w ∷ ws) v tokens mid rest f s = (f.0, f.2, more_var ws v f.0 f.1 mid rest f.3 f.4 s)

pub vars_close : (vs : List VarSyntax) (tokens vars mid rest : List Token) → First less tokens vars → VarsBetween vs vars mid → First greater mid rest → VarsSpell vs tokens rest
vars_close [] tokens vars mid rest o s c = absurd s
vars_close (v ∷ vs) tokens vars mid rest o s c = (vars, s.0, mid, o, s.1, s.2, c)

pub fields_semi : (fs : List FieldDeclSyntax) (f : FieldDeclSyntax) (tokens mid next rest : List Token) → FieldsRead fs tokens mid → FieldDeclSpells f mid next → First (mark symbol.Semicolon) next rest → FieldsRead (fs ++ f ∷ []) tokens rest
fields_semi [] f tokens mid next rest r s c = (next, rest, subst (λ w. FieldDeclSpells f w next) (sym r) s, c, refl)
fields_semi (g ∷ gs) f tokens mid next rest r s c = (r.0, r.1, r.2, r.3, fields_semi gs f r.1 mid next rest r.4 s c)

more_field : (fs : List FieldDeclSyntax) (f : FieldDeclSyntax) (tokens next mid rest : List Token) → First (mark symbol.Semicolon) tokens next → FieldsRead fs next mid → FieldDeclSpells f mid rest
    → MoreFieldDecls (fs ++ f ∷ []) tokens rest
more_field [] f tokens next mid rest c r s = (next, rest, c, subst (λ w. FieldDeclSpells f w rest) (sym r) s, refl)
more_field (g ∷ gs) f tokens next mid rest c r s = (next, r.0, c, r.2, more_field gs f r.0 r.1 mid rest r.3 r.4 s)

pub fields_last : (fs : List FieldDeclSyntax) (f : FieldDeclSyntax) (tokens mid rest : List Token) → FieldsRead fs tokens mid → FieldDeclSpells f mid rest → FieldDeclsSpell (fs ++ f ∷ []) tokens rest
fields_last [] f tokens mid rest r s = (rest, subst (λ w. FieldDeclSpells f w rest) (sym r) s, refl)
fields_last (g ∷ gs) f tokens mid rest r s = (r.0, r.2, more_field gs f r.0 r.1 mid rest r.3 r.4 s)

pub fields_fit : (fs : List FieldDeclSyntax) (f : FieldDeclSyntax) → FieldDeclsFit fs → TypeFits f.type → FieldDeclsFit (fs ++ f ∷ [])
fields_fit [] f h fits = (fits, tt)
fields_fit (g ∷ gs) f h fits = (h.0, fields_fit gs f h.1 fits)

pub params_last : (ps : List ParamSyntax) (p : ParamSyntax) (tokens mid rest : List Token) → ParamsSpell ps tokens mid → ParamSpells p mid rest → ParamsSpell (ps ++ p ∷ []) tokens rest
params_last [] p tokens mid rest r s = (rest, subst (λ w. ParamSpells p w rest) (sym r) s, refl)
params_last (q ∷ qs) p tokens mid rest r s = (r.0, r.1, params_last qs p r.0 mid rest r.2 s)

pub params_fit : (ps : List ParamSyntax) (p : ParamSyntax) → ParamsFit ps → TypeFits p.type → ParamsFit (ps ++ p ∷ [])
params_fit [] p h fits = (fits, tt)
params_fit (q ∷ qs) p h fits = (h.0, params_fit qs p h.1 fits)

-- the head with one parameter more
pub head_last : (head : FunctionStart) (ps : List ParamSyntax) (p : ParamSyntax) (tokens mid rest : List Token) → FunctionHead head ps tokens mid → ParamSpells p mid rest
    → FunctionHead head (ps ++ p ∷ []) tokens rest
head_last head ps p tokens mid rest h s = (h.0, h.1, h.2, h.3, params_last ps p h.1 mid rest h.4 s)
