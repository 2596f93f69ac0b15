-- The tokens of a declaration that were read are those of the state, and what stands in it fits.
use Rattle.std.proofs.Common.{◌≡◌, ◌≢◌, ℕ, List, [], ◌∷◌, ◌++◌, Bool, true, false, Option, Some, None, refl, sym, ap, subst, ◌∙◌, append_assoc}
use Rattle.um_syntax.specs.declared.token.Token.{Token}
use Rattle.um_tree.specs.declared.expression.Sign.TheVariants as compare
use Rattle.um_tree.specs.RawTree.{UnitSyntax, TypeSyntax, BinderSyntax, ExprSyntax, VarSyntax, FieldDeclSyntax, ParamSyntax, DeclSyntax, base_syntax, short_syntax, record_decl_syntax}
use Rattle.um_unit_texts.specs.UnitGrammar.{Spells as UnitSpells, IsUnit}
use Rattle.um_unit_texts.specs.UnitMachine.{State as UnitState, Need as NeedUnit, Refused as NoUnit, unit_step, run as unit_run, finish as unit_finish}
use Rattle.um_types.specs.TypeMachine.{TypeState, NeedType, NoType, type_step, type_finish}
use Rattle.um_reader.proofs.Reaching.{runs_append}
use Rattle.um_unit_texts.proofs.UnitLaws.{found}
use Rattle.um_unit_texts.proofs.UnitCut.{unit_before}
use Rattle.um_types.proofs.TypeSound.{TypeSpellsPrefix, type_sound, type_found}
use Rattle.um_vocabulary.specs.declared.vocabulary.Keyword.TheVariants as keyword
use Rattle.um_vocabulary.specs.declared.vocabulary.Symbol.TheVariants as symbol
use Rattle.um_operands.specs.declared.infix.Infix.TheVariants as between
use Rattle.um_operands.specs.ExprBegun.{State, Need, Refused, finish}
use Rattle.um_forms.specs.declared.token.ExprToken.{ExprToken}
use Rattle.um_forms.specs.declared.token.ExprToken.TheVariants.{Name as name, Variable as variable, Hole as hole, Operator as operator, Word as word, Mark as mark}
use Rattle.um_forms.specs.ExprTokens.{expr_token, equal}
use Rattle.um_expr.specs.ExprGrammar.{First, FirstAt, BinderSpells}
use Rattle.um_expr.specs.ExprMachine.{step}
use Rattle.um_parse.specs.DeclGrammar.{VarsSpell, DeclSpells, ResultSpells, ParamsFit, ResultFits, FieldDeclsFit, DeclFits}
use Rattle.um_decls.specs.DeclMachine.{FunctionStart, VarOwner, OfRecord, OfFunction, started, after_vars, body_begins_if, take_params, function_from, DeclExpected, DeclBegin, AttributeWord, AttributeGreater, AttributeClose, MeasureType, MeasureName, RecordName, RecordVars, VarBegin, VarWord, VarGreater, VarClose, VarName, VarEnd, RecordEqual, RecordBrace, FieldName, FieldColon, LetName, RecName, FunctionVars, Params, ParamBinder, ParamColon, DeclState, Expects, HaveBase, InShort, HaveRecord, InField, InParam, InResult, InBody, NoDecl, body_begins, take_expected, base_after, field_ends, param_ends, result_ends, short_goes, field_goes, param_goes, result_goes, body_goes, decl_step, short_found, body_found, decl_finish}
use Rattle.um_expr.proofs.ExprPrefixes.{SpellsPrefix}
use Rattle.um_expr.proofs.ExprSound.{step_sound, expr_found}
use Rattle.um_parse.proofs.DeclPrefixes.{OwnerReads, FieldsRead, RecordOpens, MeasureReads, FunctionHead, DeclSpellsPrefix, vars_comma, vars_last, vars_close, fields_semi, fields_last, fields_fit, params_fit, head_last}

need_type : NeedType 0 ≢ NoType
need_type e = cc

need_expr : Need [] ≢ Refused
need_expr e = cc

body_begins_sound : (head : FunctionStart) (ps : List ParamSyntax) (tokens mid rest : List Token) → FunctionHead head ps tokens mid → First equal mid rest → ParamsFit ps
    → DeclSpellsPrefix (body_begins head ps) tokens rest
body_begins_sound head ps tokens mid rest h s fits = by (head.recursive) refl
  where
    by : (b : Bool) → head.recursive ≡ b → DeclSpellsPrefix (body_begins_if b head ps) tokens rest
    by true e = tt
    by false e = (mid, mid, rest, h, refl, s, (refl, tt), fits, e, need_expr)

-- after the parameters of a function, or its name
params_sound : (head : FunctionStart) (ps : List ParamSyntax) (what : ExprToken) (at : ℕ) (tokens mid rest : List Token) → FunctionHead head ps tokens mid → ParamsFit ps → FirstAt what at mid rest
    → DeclSpellsPrefix (take_params head ps what) tokens rest
params_sound head ps (mark symbol.LeftParen) at tokens mid rest h fits s = ((mid, h, (s.0, s.1, s.3)), fits)
params_sound head ps (mark symbol.Colon) at tokens mid rest h fits s = (mid, rest, h, (s.0, s.1, s.3), refl, fits, need_type)
params_sound head ps (operator (between.Compare compare.Eq)) at tokens mid rest h fits s = body_begins_sound head ps tokens mid rest h (s.0, s.1, s.3) fits
params_sound head ps _ at tokens mid rest h fits s = tt

-- after the `>` of unit parameters
vars_sound : (owner : VarOwner) (vs : List VarSyntax) (tokens sign rest : List Token) → OwnerReads owner tokens sign → VarsSpell vs sign rest → DeclSpellsPrefix (Expects (after_vars owner vs)) tokens rest
vars_sound (OfRecord p x) vs tokens sign rest h s = ((sign, h, s), tt)
vars_sound (OfFunction recursive p x) vs tokens sign rest h s = ((sign, rest, h, s, refl), tt)

expected_sound : (expected : DeclExpected) (what : ExprToken) (at : ℕ) (tokens mid rest : List Token) → DeclSpellsPrefix (Expects expected) tokens mid → FirstAt what at mid rest → DeclSpellsPrefix (take_expected expected what at) tokens rest
expected_sound DeclBegin (mark symbol.AttributeOpen) at tokens mid rest h s = ((s.0, s.1, h.0 ∙ s.3), tt)
expected_sound DeclBegin (word keyword.Type) at tokens mid rest h s = ((s.0, s.1, h.0 ∙ s.3), tt)
expected_sound DeclBegin (word keyword.Let) at tokens mid rest h s = ((s.0, s.1, h.0 ∙ s.3), tt)
expected_sound AttributeWord (word keyword.Measure) at tokens mid rest h s = ((mid, h.0, (s.0, s.1, s.3)), tt)
expected_sound AttributeGreater (operator (between.Compare compare.Gt)) at tokens mid rest h s = ((h.0.0, mid, h.0.1, h.0.2, (s.0, s.1, s.3)), tt)
expected_sound AttributeClose (mark symbol.RightBracket) at tokens mid rest h s = ((h.0.0, h.0.1, mid, h.0.2, h.0.3, h.0.4, (s.0, s.1, s.3)), tt)
expected_sound MeasureType (word keyword.Type) at tokens mid rest h s = ((mid, h.0, (s.0, s.1, s.3)), tt)
expected_sound MeasureName (name x) at tokens mid rest h s = (h.0.0, mid, h.0.1, h.0.2, s)
expected_sound RecordName (name x) at tokens mid rest h s = ((mid, h.0, s), tt)
expected_sound (RecordVars p x) (operator (between.Compare compare.Lt)) at tokens mid rest h s = ((mid, rest, h.0, (s.0, s.1, s.3), refl), tt)
expected_sound (RecordVars p x) (operator (between.Compare compare.Eq)) at tokens mid rest h s = ((mid, mid, h.0, refl, (s.0, s.1, s.3)), tt)
expected_sound (VarBegin owner vs) (mark symbol.AttributeOpen) at tokens mid rest h s = ((mid, h.0, (s.0, s.1, s.3)), tt)
expected_sound (VarWord owner vs) (word keyword.Measure) at tokens mid rest h s = ((h.0.0, mid, h.0.1, h.0.2, (s.0, s.1, s.3)), tt)
expected_sound (VarGreater owner vs) (operator (between.Compare compare.Gt)) at tokens mid rest h s = ((h.0.0, h.0.1, mid, h.0.2, h.0.3, h.0.4, (s.0, s.1, s.3)), tt)
expected_sound (VarClose owner vs) (mark symbol.RightBracket) at tokens mid rest h s =
    let r = h.0 in ((r.0, r.3, (r.1, r.2, mid, r.4, r.5, r.6, (s.0, s.1, s.3))), tt)
expected_sound (VarName owner vs) (variable v) at tokens mid rest h s =
    let o = h.0.1 in
    let var : VarSyntax = record { at = at; name = v } in
    ((o.0, o.1, o.2, o.3, vars_last vs var o.1 h.0.0 rest o.4 (mid, h.0.2, s)), tt)
expected_sound (VarEnd owner vs) (mark symbol.Comma) at tokens mid rest h s = let r = h.0 in ((r.0, r.1, r.2, r.3, vars_comma vs r.1 mid rest r.4 (s.0, s.1, s.3)), tt)
expected_sound (VarEnd owner vs) (operator (between.Compare compare.Gt)) at tokens mid rest h s =
    let r = h.0 in vars_sound owner vs tokens r.0 rest r.2 (vars_close vs r.0 r.1 mid rest r.3 r.4 (s.0, s.1, s.3))
expected_sound (RecordEqual p x vs) (operator (between.Compare compare.Eq)) at tokens mid rest h s = ((h.0.0, mid, h.0.1, h.0.2, (s.0, s.1, s.3)), tt)
expected_sound (RecordBrace p x vs) (mark symbol.LeftBrace) at tokens mid rest h s = ((rest, (h.0.0, h.0.1, mid, h.0.2, h.0.3, h.0.4, (s.0, s.1, s.3)), refl), tt)
expected_sound (FieldName p x vs fs) (name y) at tokens mid rest h s = ((h.0.0, mid, h.0.1, h.0.2, s), h.1)
expected_sound (FieldColon p x vs fs place y) (mark symbol.Colon) at tokens mid rest h s = (h.0.0, h.0.1, mid, rest, h.0.2, h.0.3, h.0.4, (s.0, s.1, s.3), refl, h.1, need_type)
expected_sound LetName (word keyword.Rec) at tokens mid rest h s = ((mid, h.0, (s.0, s.1, s.3)), tt)
expected_sound LetName (name x) at tokens mid rest h s = ((mid, mid, h.0, refl, s), tt)
expected_sound RecName (name x) at tokens mid rest h s = ((h.0.0, mid, h.0.1, h.0.2, s), tt)
expected_sound (FunctionVars recursive p x) (operator (between.Compare compare.Lt)) at tokens mid rest h s = ((mid, rest, h.0, (s.0, s.1, s.3), refl), tt)
expected_sound (FunctionVars recursive p x) what at tokens mid rest h s = params_sound (started recursive p x []) [] what at tokens mid rest (mid, mid, h.0, refl, refl) tt s
expected_sound (Params head ps) what at tokens mid rest h s = params_sound head ps what at tokens mid rest h.0 h.1 s
expected_sound (ParamBinder head ps) (name y) at tokens mid rest h s = ((h.0.0, mid, h.0.1, h.0.2, s), h.1)
expected_sound (ParamBinder head ps) hole at tokens mid rest h s = ((h.0.0, mid, h.0.1, h.0.2, s), h.1)
expected_sound (ParamColon head ps b) (mark symbol.Colon) at tokens mid rest h s = (h.0.0, h.0.1, mid, rest, h.0.2, h.0.3, h.0.4, (s.0, s.1, s.3), refl, h.1, need_type)
expected_sound _ _ at tokens mid rest h s = tt

need_unit : NeedUnit [] ≢ NoUnit
need_unit e = cc

base_sound : (at : ℕ) (x : List ℕ) (what : ExprToken) (tokens mid rest : List Token) → DeclSpellsPrefix (HaveBase at x) tokens mid → First what mid rest → DeclSpellsPrefix (base_after at x what) tokens rest
base_sound at x (operator (between.Compare compare.Eq)) tokens mid rest h s = (mid, rest, [], h, s, refl, refl, need_unit)
base_sound at x _ tokens mid rest h s = tt

-- ---- machines inside

short_sound : (at : ℕ) (x : List ℕ) (u : UnitState) (tokens sign next read rest : List Token) → MeasureReads at x tokens sign → First equal sign next → next ≡ read ++ rest → unit_run (NeedUnit []) read ≡ u
    → DeclSpellsPrefix (short_goes at x u) tokens rest
short_sound at x NoUnit tokens sign next read rest m e p r = tt
short_sound at x _ tokens sign next read rest m e p r = (sign, next, read, m, e, p, r, λ h. cc)

field_end_sound : (at : ℕ) (x : List ℕ) (vs : List VarSyntax) (fs : List FieldDeclSyntax) (place : ℕ) (y : List ℕ) (s : TypeState) (found : Option TypeSyntax) (what : ExprToken) (tokens mid rest : List Token)
    → DeclSpellsPrefix (InField at x vs fs place y s) tokens mid → First what mid rest → type_finish s ≡ found → DeclSpellsPrefix (field_ends at x vs fs place y found what) tokens rest
field_end_sound at x vs fs place y s (Some t) (mark symbol.Semicolon) tokens mid rest h n e =
    let p = type_found s t h.3 mid h.8 e in
    let f : FieldDeclSyntax = record { at = place; name = y; type = t } in
    ((h.0, h.4, fields_semi fs f h.0 h.1 mid rest h.5 (h.2, h.3, h.6, h.7, p.0) n), fields_fit fs f h.9 p.1)
field_end_sound at x vs fs place y s (Some t) (mark symbol.RightBrace) tokens mid rest h n e =
    let p = type_found s t h.3 mid h.8 e in
    let f : FieldDeclSyntax = record { at = place; name = y; type = t } in
    let o = h.4 in
    let head = o.3 in
    ((head.0, o.0, o.1, o.2, h.0, mid, head.1, head.2, o.4, o.5, o.6, fields_last fs f h.0 h.1 mid h.5 (h.2, h.3, h.6, h.7, p.0), n), fields_fit fs f h.9 p.1)
field_end_sound at x vs fs place y s _ _ tokens mid rest h n e = tt

param_end_sound : (head : FunctionStart) (ps : List ParamSyntax) (b : BinderSyntax) (s : TypeState) (found : Option TypeSyntax) (what : ExprToken) (tokens mid rest : List Token)
    → DeclSpellsPrefix (InParam head ps b s) tokens mid → First what mid rest → type_finish s ≡ found → DeclSpellsPrefix (param_ends head ps b found what) tokens rest
param_end_sound head ps b s (Some t) (mark symbol.RightParen) tokens mid rest h n e =
    let p = type_found s t h.3 mid h.8 e in
    let q : ParamSyntax = record { binder = b; type = t } in
    (head_last head ps q tokens h.0 rest h.4 (h.1, h.2, h.3, mid, h.5, h.6, h.7, p.0, n), params_fit ps q h.9 p.1)
param_end_sound head ps b s _ _ tokens mid rest h n e = tt

result_end_sound : (head : FunctionStart) (ps : List ParamSyntax) (s : TypeState) (found : Option TypeSyntax) (what : ExprToken) (tokens mid rest : List Token)
    → DeclSpellsPrefix (InResult head ps s) tokens mid → First what mid rest → type_finish s ≡ found → DeclSpellsPrefix (result_ends head ps found what) tokens rest
result_end_sound head ps s (Some t) (operator (between.Compare compare.Eq)) tokens mid rest h n e =
    let p = type_found s t h.1 mid h.4 e in (h.0, mid, rest, h.2, (h.1, h.3, p.0), n, (refl, tt), h.5, p.1, need_expr)
result_end_sound head ps s _ _ tokens mid rest h n e = tt

field_goes_sound : (at : ℕ) (x : List ℕ) (vs : List VarSyntax) (fs : List FieldDeclSyntax) (place : ℕ) (y : List ℕ) (s : TypeState) (over : DeclState) (tokens fields named colon next rest : List Token)
    → RecordOpens at x vs tokens fields → FieldsRead fs fields named → FirstAt (name y) place named colon → First (mark symbol.Colon) colon next → TypeSpellsPrefix s next rest → FieldDeclsFit fs
    → DeclSpellsPrefix over tokens rest → DeclSpellsPrefix (field_goes at x vs fs place y s over) tokens rest
field_goes_sound at x vs fs place y NoType over tokens fields named colon next rest o r n c s f h = h
field_goes_sound at x vs fs place y _ over tokens fields named colon next rest o r n c s f h = (fields, named, colon, next, o, r, n, c, s, f, λ e. cc)

param_goes_sound : (head : FunctionStart) (ps : List ParamSyntax) (b : BinderSyntax) (s : TypeState) (over : DeclState) (tokens d e colon next rest : List Token)
    → FunctionHead head ps tokens d → First (mark symbol.LeftParen) d e → BinderSpells b e colon → First (mark symbol.Colon) colon next → TypeSpellsPrefix s next rest → ParamsFit ps
    → DeclSpellsPrefix over tokens rest → DeclSpellsPrefix (param_goes head ps b s over) tokens rest
param_goes_sound head ps b NoType over tokens d e colon next rest o r n c s f h = h
param_goes_sound head ps b _ over tokens d e colon next rest o r n c s f h = (d, e, colon, next, o, r, n, c, s, f, λ h. cc)

result_goes_sound : (head : FunctionStart) (ps : List ParamSyntax) (s : TypeState) (over : DeclState) (tokens d next rest : List Token) → FunctionHead head ps tokens d
    → First (mark symbol.Colon) d next → TypeSpellsPrefix s next rest → ParamsFit ps → DeclSpellsPrefix over tokens rest → DeclSpellsPrefix (result_goes head ps s over) tokens rest
result_goes_sound head ps NoType over tokens d next rest o c s f h = h
result_goes_sound head ps _ over tokens d next rest o c s f h = (d, next, o, c, s, f, λ e. cc)

body_sound : (head : FunctionStart) (ps : List ParamSyntax) (r : Option TypeSyntax) (e : State) (tokens d sign next rest : List Token) → FunctionHead head ps tokens d
    → ResultSpells r d sign → First equal sign next → SpellsPrefix e next rest → ParamsFit ps → ResultFits head.recursive r → DeclSpellsPrefix (body_goes head ps r e) tokens rest
body_sound head ps r Refused tokens d sign next rest o w q s f g = tt
body_sound head ps r _ tokens d sign next rest o w q s f g = (d, sign, next, o, w, q, s, f, g, λ h. cc)

-- the token that is read goes over to the state
pub decl_sound : (st : DeclState) (x : Token) (tokens rest : List Token) → DeclSpellsPrefix st tokens (x ∷ rest) → DeclSpellsPrefix (decl_step st x) tokens rest
decl_sound (Expects expected) x tokens rest h = expected_sound expected (expr_token x.kind) x.start tokens (x ∷ rest) rest h (x, refl, refl, refl)
decl_sound (HaveBase at y) x tokens rest h = base_sound at y (expr_token x.kind) tokens (x ∷ rest) rest h (x, refl, refl)
decl_sound (InShort at y u) x tokens rest h =
    short_sound at y (unit_step u x) tokens h.0 h.1 (h.2 ++ x ∷ []) rest h.3 h.4 (h.5 ∙ sym (append_assoc h.2 (x ∷ []) rest)) (runs_append unit_step h.2 (x ∷ []) (NeedUnit []) ∙ ap (λ s. unit_step s x) h.6)
decl_sound (HaveRecord at y vs fs) x tokens rest h = tt
decl_sound (InField at y vs fs place z s) x tokens rest h =
    field_goes_sound at y vs fs place z (type_step s x) (field_ends at y vs fs place z (type_finish s) (expr_token x.kind)) tokens h.0 h.1 h.2 h.3 rest h.4 h.5 h.6 h.7 (type_sound s x h.3 rest h.8) h.9
    (field_end_sound at y vs fs place z s (type_finish s) (expr_token x.kind) tokens (x ∷ rest) rest h (x, refl, refl) refl)
decl_sound (InParam head ps b s) x tokens rest h =
    param_goes_sound head ps b (type_step s x) (param_ends head ps b (type_finish s) (expr_token x.kind)) tokens h.0 h.1 h.2 h.3 rest h.4 h.5 h.6 h.7 (type_sound s x h.3 rest h.8) h.9
    (param_end_sound head ps b s (type_finish s) (expr_token x.kind) tokens (x ∷ rest) rest h (x, refl, refl) refl)
decl_sound (InResult head ps s) x tokens rest h =
    result_goes_sound head ps (type_step s x) (result_ends head ps (type_finish s) (expr_token x.kind)) tokens h.0 h.1 rest h.2 h.3 (type_sound s x h.1 rest h.4) h.5
    (result_end_sound head ps s (type_finish s) (expr_token x.kind) tokens (x ∷ rest) rest h (x, refl, refl) refl)
decl_sound (InBody head ps r e) x tokens rest h = body_sound head ps r (step e x) tokens h.0 h.1 h.2 rest h.3 h.4 h.5 (step_sound e x h.2 rest h.6) h.7 h.8
decl_sound NoDecl x tokens rest h = tt

-- ---- what is found

short_is : (at : ℕ) (x : List ℕ) (o : Option UnitSyntax) (d : DeclSyntax) → short_found at x o ≡ Some d → (u : UnitSyntax) × (o ≡ Some u) × (short_syntax at x u ≡ d)
short_is at x (Some u) d e = (u, refl, cc)
short_is at x None d e = absurd cc

body_is : (head : FunctionStart) (ps : List ParamSyntax) (r : Option TypeSyntax) (o : Option ExprSyntax) (d : DeclSyntax) → body_found head ps r o ≡ Some d
    → (e : ExprSyntax) × (o ≡ Some e) × (function_from head ps r e ≡ d)
body_is head ps r (Some e) d h = (e, refl, cc)
body_is head ps r None d h = absurd cc

-- what is found is a declaration
pub decl_found : (st : DeclState) (d : DeclSyntax) (tokens rest : List Token) → DeclSpellsPrefix st tokens rest → decl_finish st ≡ Some d → DeclSpells d tokens rest × DeclFits d
decl_found (HaveBase at x) d tokens rest h e = let same : base_syntax at x ≡ d = cc in subst (λ w. DeclSpells w tokens rest × DeclFits w) same ((h.0, h.1, h.2, h.3, h.4), tt)
decl_found (InShort at x u) d tokens rest h e =
    let w = short_is at x (unit_finish u) d e in
    let p : IsUnit h.2 w.0 = found h.2 w.0 (ap unit_finish h.6 ∙ w.1) in
    let s : UnitSpells w.0 h.1 rest = subst (λ t. UnitSpells w.0 t rest) (sym h.5) (unit_before w.0 h.2 rest p) in
    let m = h.3 in
    subst (λ t. DeclSpells t tokens rest × DeclFits t) w.2 ((m.0, m.1, h.0, h.1, m.2, m.3, m.4, h.4, s), p.fits)
decl_found (HaveRecord at x vs fs) d tokens rest h e = let same : record_decl_syntax at x vs fs ≡ d = cc in subst (λ w. DeclSpells w tokens rest × DeclFits w) same h
decl_found (InBody head ps r e) d tokens rest h same =
    let w = body_is head ps r (finish e) d same in
    let p = expr_found e w.0 h.2 rest h.6 w.1 in
    let f = h.3 in
    subst (λ t. DeclSpells t tokens rest × DeclFits t) w.2 ((f.2.0, f.2.1, f.0, f.1, h.0, h.1, h.2, f.2.2, f.2.3, f.2.4, f.3, f.4, h.4, h.5, p.0), (h.7, h.8, p.1))
decl_found _ d tokens rest h e = absurd cc
