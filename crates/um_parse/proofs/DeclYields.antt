-- Reading declarations in parts: from one state the tokens up to the rest lead to another.
use Rattle.std.proofs.Common.{◌≡◌, ◌≢◌, ℕ, List, [], ◌∷◌, Bool, Option, Some, None, refl, ap, ◌∙◌}
use Rattle.um_syntax.specs.declared.token.Token.{Token}
use Rattle.um_syntax.specs.declared.token.Kind.{Kind}
use Rattle.um_tree.specs.RawTree.{UnitSyntax, TypeSyntax, BinderSyntax, ExprSyntax, VarSyntax, FieldDeclSyntax, ParamSyntax}
use Rattle.um_reader.specs.Machine.{Yields}
use Rattle.um_unit_texts.specs.UnitGrammar.{Spells as UnitSpells, Fits as UnitFits}
use Rattle.um_unit_texts.specs.UnitMachine.{State as UnitState, Need as NeedUnit, Refused as NoUnit, unit_step}
use Rattle.um_types.specs.TypeGrammar.{TypeSpells, TypeFits}
use Rattle.um_types.specs.TypeMachine.{TypeState, NeedType, HaveType, NoType, type_step, type_finish}
use Rattle.um_reader.proofs.Reaching.{yields_then, lift}
use Rattle.um_unit_texts.proofs.UnitComplete.{into as unit_into}
use Rattle.um_unit_texts.proofs.UnitNested.{unit_reaches}
use Rattle.um_types.proofs.TypeComplete.{type_reaches}
use Rattle.um_vocabulary.specs.declared.vocabulary.Keyword.TheVariants as keyword
use Rattle.um_vocabulary.specs.declared.vocabulary.Symbol.TheVariants as symbol
use Rattle.um_operands.specs.ExprBegun.{Need, Refused}
use Rattle.um_forms.specs.declared.token.ExprToken.{ExprToken}
use Rattle.um_forms.specs.declared.token.ExprToken.TheVariants.{Name as name, Hole as hole, Word as word, Mark as mark}
use Rattle.um_forms.specs.ExprTokens.{expr_token, greater}
use Rattle.um_expr.specs.ExprGrammar.{First, FirstAt, bound, BinderSpells, Spells, Fits}
use Rattle.um_expr.specs.ExprMachine.{step}
use Rattle.um_parse.specs.DeclGrammar.{Attribute}
use Rattle.um_decls.specs.DeclMachine.{FunctionStart, DeclState, InShort, InField, InParam, InResult, InBody, short_goes, field_goes, param_goes, result_goes, field_ends, param_ends, result_ends, decl_act, decl_step}
use Rattle.um_expr.proofs.ExprEnds.{opened, last_atom}
use Rattle.um_expr.proofs.ExprAtEnd.{at_end}
use Rattle.um_expr.proofs.ExprLaws.{expr_reaches}
use Rattle.um_decls.proofs.DeclTokens.{body_inside}

pub thence : {a b c : DeclState} → {s t r : List Token} → Yields decl_step a s b t → Yields decl_step b t c r → Yields decl_step a s c r
thence {a = a} {b = b} {c = c} {s = s} {t = t} {r = r} p q = yields_then decl_step a b c s t r p q

pub yields_first : (old new : DeclState) (what : ExprToken) (tokens rest : List Token) → First what tokens rest → ((at : ℕ) (glued : Bool) (k : Kind) → decl_act old what at glued k ≡ new) → Yields decl_step old tokens new rest
yields_first old new what tokens rest f e =
    (f.0 ∷ [], f.2, ap (λ w. decl_act old w f.0.start f.0.glued f.0.kind) f.1 ∙ e f.0.start f.0.glued f.0.kind)

pub yields_at : (old new : DeclState) (what : ExprToken) (at : ℕ) (tokens rest : List Token) → FirstAt what at tokens rest → ((glued : Bool) (k : Kind) → decl_act old what at glued k ≡ new) → Yields decl_step old tokens new rest
yields_at old new what at tokens rest f e = (
  f.0 ∷ [],
  f.3,
  ap (λ w. decl_act old w f.0.start f.0.glued f.0.kind) f.1 ∙ ap (λ a. decl_act old what a f.0.glued f.0.kind) f.2 ∙ e f.0.glued f.0.kind,
)

pub yields_binder : (old : DeclState) (new : BinderSyntax → DeclState) (x : BinderSyntax) (tokens rest : List Token) → BinderSpells x tokens rest
    → ((y : List ℕ) (p : ℕ) (g : Bool) (k : Kind) → decl_act old (name y) p g k ≡ new (record { at = p; name = Some y }))
    → ((p : ℕ) (g : Bool) (k : Kind) → decl_act old hole p g k ≡ new (record { at = p; name = None })) → Yields decl_step old tokens (new x) rest
yields_binder old new x tokens rest s named free = by_name x.name s
  where
    by_name : (o : Option (List ℕ)) → FirstAt (bound o) x.at tokens rest → Yields decl_step old tokens (new (record { at = x.at; name = o })) rest
    by_name (Some y) f = yields_at old (new (record { at = x.at; name = Some y })) (name y) x.at tokens rest f (λ g k. named y x.at g k)
    by_name None f = yields_at old (new (record { at = x.at; name = None })) hole x.at tokens rest f (λ g k. free x.at g k)

-- `[<Measure>]`, by the states after its tokens
pub yields_attribute : (a b c d e : DeclState) (tokens rest : List Token) → Attribute tokens rest → ((p : ℕ) (g : Bool) (k : Kind) → decl_act a (mark symbol.AttributeOpen) p g k ≡ b)
    → ((p : ℕ) (g : Bool) (k : Kind) → decl_act b (word keyword.Measure) p g k ≡ c) → ((p : ℕ) (g : Bool) (k : Kind) → decl_act c greater p g k ≡ d)
    → ((p : ℕ) (g : Bool) (k : Kind) → decl_act d (mark symbol.RightBracket) p g k ≡ e) → Yields decl_step a tokens e rest
yields_attribute a b c d e tokens rest s one two three four =
    thence (yields_first a b (mark symbol.AttributeOpen) tokens s.0 s.3 one)
    (thence (yields_first b c (word keyword.Measure) s.0 s.1 s.4 two) (thence (yields_first c d greater s.1 s.2 s.5 three) (yields_first d e (mark symbol.RightBracket) s.2 rest s.6 four)))

-- ---- machines inside

pub yields_type : (inside : TypeState → DeclState) → ((s new : TypeState) (token : Token) → type_step s token ≡ new → new ≢ NoType → decl_step (inside s) token ≡ inside new)
    → (t : TypeSyntax) (tokens rest : List Token) → TypeSpells t tokens rest → TypeFits t → Yields decl_step (inside (NeedType 0)) tokens (inside (HaveType 0 t)) rest
yields_type inside goes t tokens rest s fits =
    let r = type_reaches t 0 tokens rest s fits in (r.0, r.1, lift type_step NoType (λ x. refl) decl_step inside goes r.0 (NeedType 0) (HaveType 0 t) r.2 r.3)

short_inside : (at : ℕ) (x : List ℕ) (u new : UnitState) (token : Token) → unit_step u token ≡ new → new ≢ NoUnit → decl_step (InShort at x u) token ≡ InShort at x new
short_inside at x u new token e ok = ap (short_goes at x) e ∙ short_on new ok
  where
    short_on : (w : UnitState) → w ≢ NoUnit → short_goes at x w ≡ InShort at x w
    short_on NoUnit h = absurd (h refl)
    short_on _ h = refl

pub yields_unit : (at : ℕ) (x : List ℕ) (u : UnitSyntax) (tokens rest : List Token) → UnitSpells u tokens rest → UnitFits u → Yields decl_step (InShort at x (NeedUnit [])) tokens (InShort at x (unit_into [] u)) rest
yields_unit at x u tokens rest s fits =
    let r = unit_reaches u tokens rest s fits in (r.0, r.1, lift unit_step NoUnit (λ t. refl) decl_step (λ w. InShort at x w) (short_inside at x) r.0 (NeedUnit []) (unit_into [] u) r.2 r.3)

pub yields_body : (head : FunctionStart) (ps : List ParamSyntax) (r : Option TypeSyntax) (e : ExprSyntax) (tokens rest : List Token) → Spells e tokens rest → Fits e
    → (b : Bool) × Yields decl_step (InBody head ps r (Need [])) tokens (InBody head ps r (at_end b (opened [] e) (last_atom e))) rest
yields_body head ps r e tokens rest s fits =
    let p = expr_reaches e tokens rest s fits in
    (p.2, (p.0, p.1, lift step Refused (λ t. refl) decl_step (λ w. InBody head ps r w) (body_inside head ps r) p.0 (Need []) (at_end p.2 (opened [] e) (last_atom e)) p.3 p.4))

-- the machine of types goes on inside
pub field_inside : (at : ℕ) (x : List ℕ) (vs : List VarSyntax) (fs : List FieldDeclSyntax) (place : ℕ) (y : List ℕ) (s new : TypeState) (token : Token) → type_step s token ≡ new → new ≢ NoType
    → decl_step (InField at x vs fs place y s) token ≡ InField at x vs fs place y new
field_inside at x vs fs place y s new token e ok = ap (λ w. field_goes at x vs fs place y w (field_ends at x vs fs place y (type_finish s) (expr_token token.kind))) e ∙ field_on new ok
  where
    field_on : (w : TypeState) → w ≢ NoType → field_goes at x vs fs place y w (field_ends at x vs fs place y (type_finish s) (expr_token token.kind)) ≡ InField at x vs fs place y w
    field_on NoType h = absurd (h refl)
    field_on _ h = refl

pub param_inside : (head : FunctionStart) (ps : List ParamSyntax) (b : BinderSyntax) (s new : TypeState) (token : Token) → type_step s token ≡ new → new ≢ NoType
    → decl_step (InParam head ps b s) token ≡ InParam head ps b new
param_inside head ps b s new token e ok = ap (λ w. param_goes head ps b w (param_ends head ps b (type_finish s) (expr_token token.kind))) e ∙ param_on new ok
  where
    param_on : (w : TypeState) → w ≢ NoType → param_goes head ps b w (param_ends head ps b (type_finish s) (expr_token token.kind)) ≡ InParam head ps b w
    param_on NoType h = absurd (h refl)
    param_on _ h = refl

pub result_inside : (head : FunctionStart) (ps : List ParamSyntax) (s new : TypeState) (token : Token) → type_step s token ≡ new → new ≢ NoType
    → decl_step (InResult head ps s) token ≡ InResult head ps new
result_inside head ps s new token e ok = ap (λ w. result_goes head ps w (result_ends head ps (type_finish s) (expr_token token.kind))) e ∙ result_on new ok
  where
    result_on : (w : TypeState) → w ≢ NoType → result_goes head ps w (result_ends head ps (type_finish s) (expr_token token.kind)) ≡ InResult head ps w
    result_on NoType h = absurd (h refl)
    result_on _ h = refl
