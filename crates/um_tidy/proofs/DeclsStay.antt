-- The tokens of a program, in a text laid out anew, are the same program, places aside.
use Rattle.std.proofs.Common.{◌≡◌, refl, ap, ◌∙◌, subst, ℕ, Bool, true, false, cond, List, [], ◌∷◌, Option, Some, None, map}
use Rattle.um_syntax.specs.declared.token.Token.{Token}
use Rattle.um_syntax.specs.declared.token.Kind.TheVariants as kind
use Rattle.um_vocabulary.specs.declared.vocabulary.Keyword.TheVariants as keyword
use Rattle.um_vocabulary.specs.declared.vocabulary.Symbol.TheVariants as symbol
use Rattle.um_tree.specs.declared.expression.Sign.TheVariants as compare
use Rattle.um_tree.specs.RawTree.{TypeSyntax, ExprSyntax, VarSyntax, FieldDeclSyntax, ParamSyntax, FunctionSyntax, DeclSyntax, base_syntax, short_syntax, record_decl_syntax, function_syntax}
use Rattle.um_operands.specs.declared.infix.Infix.TheVariants as infix_of
use Rattle.um_forms.specs.ExprTokens.{expr_token}
use Rattle.um_types.specs.TypeGrammar.{TypeFits}
use Rattle.um_parse.specs.DeclGrammar.{Attribute, VarSpells, MoreVars, VarsSpell, FieldDeclSpells, MoreFieldDecls, ParamSpells, ParamsSpell, ResultSpells, RecSpells, FunctionSpells, DeclSpells, DeclsSpell, FieldDeclsFit, ParamsFit, ResultFits, DeclFits, DeclsFit, IsProgram}
use Rattle.um_expr.proofs.ExprTokenKinds.{mark_is, greater_is, equal_is}
use Rattle.um_show.specs.Unplaced.{bare_expr, bare_var, bare_field_decl, bare_param, bare_result, bare_decl, bare_program}
use Rattle.um_tidy.specs.declared.stand.Next.{Next}
use Rattle.um_tidy.specs.declared.stand.Next.TheVariants as next_of
use Rattle.um_tidy.specs.declared.stand.Within.{Within}
use Rattle.um_tidy.specs.declared.stand.Within.TheVariants as within_of
use Rattle.um_tidy.specs.declared.stand.Stand.{Stand}
use Rattle.um_tidy.specs.Stands.{may_begin, in_attribute, attribute_stand, kind_stand}
use Rattle.um_tidy.proofs.SpacedPieces.{is_typed, operand_ended, bracket_binds}
use Rattle.um_tidy.proofs.DeclsSpaced.{typed_names, colon_is, ended_begins}
use Rattle.um_tidy.proofs.DeclsSpaced.{equal_is as equal_stands}
use Rattle.um_tidy.proofs.TokenKinds.{name_is, variable_is, word_is, bound_kind, operator_is}
use Rattle.um_tidy.proofs.Alike.{Alike, step}
use Rattle.um_tidy.proofs.UnitsStay.{unit_stays}
use Rattle.um_tidy.proofs.TypesStay.{type_stays}
use Rattle.um_tidy.proofs.PartsStay.{binder_stays, bound_plain}
use Rattle.um_tidy.proofs.ExprsStay.{expr_stays}

-- ---- `[<Measure>]`

record AttributeStays (v : Within) (rest others : List Token) : Type 0 where
  pub left : List Token
  pub spelled : Attribute others left
  pub later : Alike rest next_of.Ended v left

attribute_stays : (tokens rest : List Token) → Attribute tokens rest → (n : Next) (w v : Within) (others : List Token) → (attribute_stand n w).within ≡ v → Alike tokens n w others → AttributeStays v rest others
attribute_stays tokens rest s n w v others inside a =
    let o = step s.3.0 tokens s.0 (kind.Sign symbol.AttributeOpen) n next_of.Operand w v others (mark_is s.3.0.kind symbol.AttributeOpen s.3.1) refl inside s.3.2 a in
    let m = step s.4.0 s.0 s.1 (kind.Word keyword.Measure) next_of.Operand next_of.MeasureWord v v o.left (word_is s.4.0.kind keyword.Measure s.4.1) refl refl s.4.2 o.later in
    let g = step s.5.0 s.1 s.2 (kind.Sign symbol.Greater) next_of.MeasureWord next_of.Ended v v m.left (greater_is s.5.0.kind s.5.1) refl refl s.5.2 m.later in
    let c = step s.6.0 s.2 rest (kind.Sign symbol.RightBracket) next_of.Ended next_of.Ended v v g.left (mark_is s.6.0.kind symbol.RightBracket s.6.1) refl refl s.6.2 g.later in
    record {
      left = c.left;
      spelled = (o.left, m.left, g.left, (o.token, ap expr_token o.same ∙ s.3.1, o.first), (m.token, ap expr_token m.same ∙ s.4.1, m.first), (g.token, ap expr_token g.same ∙ s.5.1, g.first), (c.token, ap expr_token c.same ∙ s.6.1, c.first));
      later = c.later;
    }

-- ---- unit parameters

record VarStays (v : VarSyntax) (rest others : List Token) : Type 0 where
  pub again : VarSyntax
  pub left : List Token
  pub spelled : VarSpells again others left
  pub same : bare_var again ≡ bare_var v
  pub later : Alike rest next_of.Ended within_of.Angle left

var_stays : (v : VarSyntax) (tokens rest : List Token) → VarSpells v tokens rest → (others : List Token) → Alike tokens next_of.Operand within_of.Angle others → VarStays v rest others
var_stays v tokens rest s others a =
    let b = attribute_stays tokens s.0 s.1 next_of.Operand within_of.Angle within_of.Angle others refl a in
    let o = step s.2.0 s.0 rest (kind.Var v.name) next_of.Ended next_of.Ended within_of.Angle within_of.Angle b.left (variable_is s.2.0.kind v.name s.2.1) refl refl s.2.3 b.later in
    record { again = record { at = o.token.start; name = v.name }; left = o.left; spelled = (b.left, b.spelled, (o.token, ap expr_token o.same ∙ s.2.1, refl, o.first)); same = refl; later = o.later }

record MoreVarsStay (vs : List VarSyntax) (rest others : List Token) : Type 0 where
  pub again : List VarSyntax
  pub left : List Token
  pub spelled : MoreVars again others left
  pub same : map bare_var again ≡ map bare_var vs
  pub later : Alike rest next_of.Ended within_of.Angle left

more_vars_stay : (vs : List VarSyntax) (tokens rest : List Token) → MoreVars vs tokens rest → (others : List Token) → Alike tokens next_of.Ended within_of.Angle others → MoreVarsStay vs rest others
more_vars_stay [] tokens rest s others a = record { again = []; left = others; spelled = refl; same = refl; later = subst (λ ts. Alike ts next_of.Ended within_of.Angle others) s a }
more_vars_stay (v ∷ vs) tokens rest s others a =
    let o = step s.2.0 tokens s.0 (kind.Sign symbol.Comma) next_of.Ended next_of.Operand within_of.Angle within_of.Angle others (mark_is s.2.0.kind symbol.Comma s.2.1) refl refl s.2.2 a in
    let r = var_stays v s.0 s.1 s.3 o.left o.later in
    let q = more_vars_stay vs s.1 rest s.4 r.left r.later in
    record {
      again = r.again ∷ q.again;
      left = q.left;
      spelled = (o.left, r.left, (o.token, ap expr_token o.same ∙ s.2.1, o.first), r.spelled, q.spelled);
      same = ap (λ x. x ∷ map bare_var q.again) r.same ∙ ap (λ xs. bare_var v ∷ xs) q.same;
      later = q.later;
    }

record VarsStay (vs : List VarSyntax) (rest others : List Token) : Type 0 where
  pub again : List VarSyntax
  pub left : List Token
  pub next : Next
  pub typed : is_typed next ≡ true
  pub spelled : VarsSpell again others left
  pub same : map bare_var again ≡ map bare_var vs
  pub later : Alike rest next within_of.Plain left

vars_stay : (vs : List VarSyntax) (tokens rest : List Token) → VarsSpell vs tokens rest → (others : List Token) → Alike tokens next_of.Head within_of.Plain others → VarsStay vs rest others
vars_stay [] tokens rest s others a = record { again = []; left = others; next = next_of.Head; typed = refl; spelled = refl; same = refl; later = subst (λ ts. Alike ts next_of.Head within_of.Plain others) s a }
vars_stay (v ∷ vs) tokens rest s others a =
    let o = step s.3.0 tokens s.0 (kind.Sign symbol.Less) next_of.Head next_of.Operand within_of.Plain within_of.Angle others (operator_is s.3.0.kind (infix_of.Compare compare.Lt) s.3.1) refl refl s.3.2 a in
    let r = var_stays v s.0 s.1 s.4 o.left o.later in
    let q = more_vars_stay vs s.1 s.2 s.5 r.left r.later in
    let c = step s.6.0 s.2 rest (kind.Sign symbol.Greater) next_of.Ended next_of.Ended within_of.Angle within_of.Plain q.left (greater_is s.6.0.kind s.6.1) refl refl s.6.2 q.later in
    record {
      again = r.again ∷ q.again;
      left = c.left;
      next = next_of.Ended;
      typed = refl;
      spelled = (o.left, r.left, q.left, (o.token, ap expr_token o.same ∙ s.3.1, o.first), r.spelled, q.spelled, (c.token, ap expr_token c.same ∙ s.6.1, c.first));
      same = ap (λ x. x ∷ map bare_var q.again) r.same ∙ ap (λ xs. bare_var v ∷ xs) q.same;
      later = c.later;
    }

-- ---- fields

record FieldStays (f : FieldDeclSyntax) (rest others : List Token) : Type 0 where
  pub again : FieldDeclSyntax
  pub left : List Token
  pub next : Next
  pub typed : is_typed next ≡ true
  pub spelled : FieldDeclSpells again others left
  pub fits : TypeFits again.type
  pub same : bare_field_decl again ≡ bare_field_decl f
  pub later : Alike rest next within_of.Plain left

field_stays : (f : FieldDeclSyntax) (tokens rest : List Token) → FieldDeclSpells f tokens rest → TypeFits f.type → (others : List Token) → Alike tokens next_of.Binds within_of.Plain others → FieldStays f rest others
field_stays f tokens rest s fits others a =
    let o = step s.2.0 tokens s.0 (kind.Name f.name) next_of.Binds next_of.Bound within_of.Plain within_of.Plain others (name_is s.2.0.kind f.name s.2.1) refl refl s.2.3 a in
    let c = step s.3.0 s.0 s.1 (kind.Sign symbol.Colon) next_of.Bound next_of.Heads within_of.Plain within_of.Plain o.left (mark_is s.3.0.kind symbol.Colon s.3.1) refl refl s.3.2 o.later in
    let r = type_stays f.type s.1 rest s.4 fits c.left c.later in
    record {
      again = record { at = o.token.start; name = f.name; type = r.again };
      left = r.left;
      next = r.next;
      typed = r.typed;
      spelled = (o.left, c.left, (o.token, ap expr_token o.same ∙ s.2.1, refl, o.first), (c.token, ap expr_token c.same ∙ s.3.1, c.first), r.spelled);
      fits = r.fits;
      same = ap (λ t. record { at = 0; name = f.name; type = t }) r.same;
      later = r.later;
    }

record MoreFieldsStay (fs : List FieldDeclSyntax) (rest others : List Token) : Type 0 where
  pub again : List FieldDeclSyntax
  pub left : List Token
  pub next : Next
  pub typed : is_typed next ≡ true
  pub spelled : MoreFieldDecls again others left
  pub fits : FieldDeclsFit again
  pub same : map bare_field_decl again ≡ map bare_field_decl fs
  pub later : Alike rest next within_of.Plain left

more_fields_stay : (fs : List FieldDeclSyntax) (tokens rest : List Token) → MoreFieldDecls fs tokens rest → FieldDeclsFit fs → (n : Next) → is_typed n ≡ true → (others : List Token) → Alike tokens n within_of.Plain others → MoreFieldsStay fs rest others
more_fields_stay [] tokens rest s fits n e others a = record { again = []; left = others; next = n; typed = e; spelled = refl; fits = tt; same = refl; later = subst (λ ts. Alike ts n within_of.Plain others) s a }
more_fields_stay (f ∷ fs) tokens rest s fits n e others a =
    let o = step s.2.0 tokens s.0 (kind.Sign symbol.Semicolon) n next_of.Binds within_of.Plain within_of.Plain others (mark_is s.2.0.kind symbol.Semicolon s.2.1) refl refl s.2.2 a in
    let r = field_stays f s.0 s.1 s.3 fits.0 o.left o.later in
    let q = more_fields_stay fs s.1 rest s.4 fits.1 r.next r.typed r.left r.later in
    record {
      again = r.again ∷ q.again;
      left = q.left;
      next = q.next;
      typed = q.typed;
      spelled = (o.left, r.left, (o.token, ap expr_token o.same ∙ s.2.1, o.first), r.spelled, q.spelled);
      fits = (r.fits, q.fits);
      same = ap (λ x. x ∷ map bare_field_decl q.again) r.same ∙ ap (λ xs. bare_field_decl f ∷ xs) q.same;
      later = q.later;
    }

-- ---- functions

bound_next : (o : Option (List ℕ)) (g : Bool) → (kind_stand next_of.Binds within_of.Plain g (bound_kind o)).next ≡ next_of.Bound
bound_next None g = refl
bound_next (Some x) g = refl

record ParamStays (p : ParamSyntax) (rest others : List Token) : Type 0 where
  pub again : ParamSyntax
  pub left : List Token
  pub spelled : ParamSpells again others left
  pub fits : TypeFits again.type
  pub same : bare_param again ≡ bare_param p
  pub later : Alike rest next_of.Ended within_of.Plain left

param_stays : (p : ParamSyntax) (tokens rest : List Token) → ParamSpells p tokens rest → TypeFits p.type → (n : Next) → is_typed n ≡ true → (others : List Token) → Alike tokens n within_of.Plain others → ParamStays p rest others
param_stays p tokens rest s fits n e others a =
    let b = bracket_binds n within_of.Plain (typed_names n e) in
    let o = step s.4.0 tokens s.0 (kind.Sign symbol.LeftParen) n next_of.Binds within_of.Plain within_of.Plain others (mark_is s.4.0.kind symbol.LeftParen s.4.1) (ap (λ (z : Stand). z.next) b) (ap (λ (z : Stand). z.within) b) s.4.2 a in
    let x = binder_stays p.binder s.0 s.1 s.5 next_of.Binds next_of.Bound o.left (bound_next p.binder.name) (bound_plain next_of.Binds p.binder.name) o.later in
    let c = step s.6.0 s.1 s.2 (kind.Sign symbol.Colon) next_of.Bound next_of.Heads within_of.Plain within_of.Plain x.left (mark_is s.6.0.kind symbol.Colon s.6.1) refl refl s.6.2 x.later in
    let r = type_stays p.type s.2 s.3 s.7 fits c.left c.later in
    let d = step s.8.0 s.3 rest (kind.Sign symbol.RightParen) r.next next_of.Ended within_of.Plain within_of.Plain r.left (mark_is s.8.0.kind symbol.RightParen s.8.1) refl refl s.8.2 r.later in
    record {
      again = record { binder = x.again; type = r.again };
      left = d.left;
      spelled = (o.left, x.left, c.left, r.left, (o.token, ap expr_token o.same ∙ s.4.1, o.first), x.spelled, (c.token, ap expr_token c.same ∙ s.6.1, c.first), r.spelled, (d.token, ap expr_token d.same ∙ s.8.1, d.first));
      fits = r.fits;
      same = λ i. record { binder = x.same i; type = r.same i };
      later = d.later;
    }

record ParamsStay (ps : List ParamSyntax) (rest others : List Token) : Type 0 where
  pub again : List ParamSyntax
  pub left : List Token
  pub next : Next
  pub typed : is_typed next ≡ true
  pub spelled : ParamsSpell again others left
  pub fits : ParamsFit again
  pub same : map bare_param again ≡ map bare_param ps
  pub later : Alike rest next within_of.Plain left

params_stay : (ps : List ParamSyntax) (tokens rest : List Token) → ParamsSpell ps tokens rest → ParamsFit ps → (n : Next) → is_typed n ≡ true → (others : List Token) → Alike tokens n within_of.Plain others → ParamsStay ps rest others
params_stay [] tokens rest s fits n e others a = record { again = []; left = others; next = n; typed = e; spelled = refl; fits = tt; same = refl; later = subst (λ ts. Alike ts n within_of.Plain others) s a }
params_stay (p ∷ ps) tokens rest s fits n e others a =
    let r = param_stays p tokens s.0 s.1 fits.0 n e others a in
    let q = params_stay ps s.0 rest s.2 fits.1 next_of.Ended refl r.left r.later in
    record {
      again = r.again ∷ q.again;
      left = q.left;
      next = q.next;
      typed = q.typed;
      spelled = (r.left, r.spelled, q.spelled);
      fits = (r.fits, q.fits);
      same = ap (λ x. x ∷ map bare_param q.again) r.same ∙ ap (λ xs. bare_param p ∷ xs) q.same;
      later = q.later;
    }

record ResultStays (recursive : Bool) (t : Option TypeSyntax) (rest others : List Token) : Type 0 where
  pub again : Option TypeSyntax
  pub left : List Token
  pub next : Next
  pub typed : is_typed next ≡ true
  pub spelled : ResultSpells again others left
  pub fits : ResultFits recursive again
  pub same : bare_result again ≡ bare_result t
  pub later : Alike rest next within_of.Plain left

result_stays : (recursive : Bool) (t : Option TypeSyntax) (tokens rest : List Token) → ResultSpells t tokens rest → ResultFits recursive t → (n : Next) → is_typed n ≡ true → (others : List Token) → Alike tokens n within_of.Plain others → ResultStays recursive t rest others
result_stays recursive None tokens rest s fits n e others a = record { again = None; left = others; next = n; typed = e; spelled = refl; fits = fits; same = refl; later = subst (λ ts. Alike ts n within_of.Plain others) s a }
result_stays recursive (Some t) tokens rest s fits n e others a =
    let c = colon_is n e in
    let o = step s.1.0 tokens s.0 (kind.Sign symbol.Colon) n next_of.Heads within_of.Plain within_of.Plain others (mark_is s.1.0.kind symbol.Colon s.1.1) (ap (λ (z : Stand). z.next) c) (ap (λ (z : Stand). z.within) c) s.1.2 a in
    let r = type_stays t s.0 rest s.2 fits o.left o.later in
    record { again = Some r.again; left = r.left; next = r.next; typed = r.typed; spelled = (o.left, (o.token, ap expr_token o.same ∙ s.1.1, o.first), r.spelled); fits = r.fits; same = ap (λ x. Some x) r.same; later = r.later }

record RecStays (r : Bool) (rest others : List Token) : Type 0 where
  pub left : List Token
  pub spelled : RecSpells r others left
  pub later : Alike rest next_of.Heads within_of.Plain left

rec_stays : (r : Bool) (tokens rest : List Token) → RecSpells r tokens rest → (others : List Token) → Alike tokens next_of.Heads within_of.Plain others → RecStays r rest others
rec_stays false tokens rest s others a = record { left = others; spelled = refl; later = subst (λ ts. Alike ts next_of.Heads within_of.Plain others) s a }
rec_stays true tokens rest s others a =
    let o = step s.0 tokens rest (kind.Word keyword.Rec) next_of.Heads next_of.Heads within_of.Plain within_of.Plain others (word_is s.0.kind keyword.Rec s.1) refl refl s.2 a in
    record { left = o.left; spelled = (o.token, ap expr_token o.same ∙ s.1, o.first); later = o.later }

-- ---- declarations

record DeclStays (d : DeclSyntax) (rest others : List Token) : Type 0 where
  pub again : DeclSyntax
  pub left : List Token
  pub next : Next
  pub within : Within
  pub begins : may_begin next ≡ true
  pub outside : in_attribute within ≡ false
  pub spelled : DeclSpells again others left
  pub fits : DeclFits again
  pub same : bare_decl again ≡ bare_decl d
  pub later : Alike rest next within left

abbrev bare_parts : FunctionSyntax → List VarSyntax → List ParamSyntax → Option TypeSyntax → ExprSyntax → DeclSyntax
bare_parts f vs ps r e = function_syntax (record { at = 0; name = f.name; recursive = f.recursive; units = vs; params = ps; result = r; body = e })

function_stays : (f : FunctionSyntax) (tokens rest : List Token) → FunctionSpells f tokens rest → DeclFits (function_syntax f) → (n : Next) (w : Within) (others : List Token) → Alike tokens n w others → DeclStays (function_syntax f) rest others
function_stays f tokens rest s fits n w others a =
    let o = step s.7.0 tokens s.0 (kind.Word keyword.Let) n next_of.Heads w within_of.Plain others (word_is s.7.0.kind keyword.Let s.7.1) refl refl s.7.2 a in
    let c = rec_stays f.recursive s.0 s.1 s.8 o.left o.later in
    let x = step s.9.0 s.1 s.2 (kind.Name f.name) next_of.Heads next_of.Head within_of.Plain within_of.Plain c.left (name_is s.9.0.kind f.name s.9.1) refl refl s.9.3 c.later in
    let v = vars_stay f.units s.2 s.3 s.10 x.left x.later in
    let p = params_stay f.params s.3 s.4 s.11 fits.0 v.next v.typed v.left v.later in
    let t = result_stays f.recursive f.result s.4 s.5 s.12 fits.1 p.next p.typed p.left p.later in
    let m = equal_stands t.next t.typed in
    let e = step s.13.0 s.5 s.6 (kind.Sign symbol.Equal) t.next next_of.Operand within_of.Plain within_of.Plain t.left (equal_is s.13.0.kind s.13.1) (ap (λ (z : Stand). z.next) m) (ap (λ (z : Stand). z.within) m) s.13.2 t.later in
    let b = expr_stays f.body s.6 rest s.14 fits.2 next_of.Operand e.left refl e.later in
    let units = map bare_var f.units in let params = map bare_param f.params in
    record {
      again = function_syntax (record { at = x.token.start; name = f.name; recursive = f.recursive; units = v.again; params = p.again; result = t.again; body = b.again });
      left = b.left;
      next = b.next;
      within = within_of.Plain;
      begins = ended_begins b.next (operand_ended b.next b.operand);
      outside = refl;
      spelled = (o.left, c.left, x.left, v.left, p.left, t.left, e.left, (o.token, ap expr_token o.same ∙ s.7.1, o.first), c.spelled, (x.token, ap expr_token x.same ∙ s.9.1, refl, x.first), v.spelled, p.spelled, t.spelled, (e.token, ap expr_token e.same ∙ s.13.1, e.first), b.spelled);
      fits = (p.fits, t.fits, b.fits);
      same =
          ap (λ y. bare_parts f y (map bare_param p.again) (bare_result t.again) (bare_expr b.again)) v.same
          ∙ ap (λ y. bare_parts f units y (bare_result t.again) (bare_expr b.again)) p.same
          ∙ ap (λ y. bare_parts f units params y (bare_expr b.again)) t.same ∙ ap (bare_parts f units params (bare_result f.result)) b.same;
      later = b.later;
    }

-- the attribute of a declaration
attribute_inside : (n : Next) (w : Within) → may_begin n ≡ true → (attribute_stand n w).within ≡ within_of.Attribute
attribute_inside n w m = ap (λ b. cond b within_of.Attribute w) m

decl_stays : (d : DeclSyntax) (tokens rest : List Token) → DeclSpells d tokens rest → DeclFits d → (n : Next) (w : Within) → may_begin n ≡ true → in_attribute w ≡ false → (others : List Token) → Alike tokens n w others → DeclStays d rest others
decl_stays (base_syntax at x) tokens rest s fits n w m i others a =
    let b = attribute_stays tokens s.0 s.2 n w within_of.Attribute others (attribute_inside n w m) a in
    let t = step s.3.0 s.0 s.1 (kind.Word keyword.Type) next_of.Ended next_of.Measures within_of.Attribute within_of.Plain b.left (word_is s.3.0.kind keyword.Type s.3.1) refl refl s.3.2 b.later in
    let o = step s.4.0 s.1 rest (kind.Name x) next_of.Measures next_of.Measure within_of.Plain within_of.Plain t.left (name_is s.4.0.kind x s.4.1) refl refl s.4.3 t.later in
    record {
      again = base_syntax o.token.start x;
      left = o.left;
      next = next_of.Measure;
      within = within_of.Plain;
      begins = refl;
      outside = refl;
      spelled = (b.left, t.left, b.spelled, (t.token, ap expr_token t.same ∙ s.3.1, t.first), (o.token, ap expr_token o.same ∙ s.4.1, refl, o.first));
      fits = tt;
      same = refl;
      later = o.later;
    }
decl_stays (short_syntax at x u) tokens rest s fits n w m i others a =
    let b = attribute_stays tokens s.0 s.4 n w within_of.Attribute others (attribute_inside n w m) a in
    let t = step s.5.0 s.0 s.1 (kind.Word keyword.Type) next_of.Ended next_of.Measures within_of.Attribute within_of.Plain b.left (word_is s.5.0.kind keyword.Type s.5.1) refl refl s.5.2 b.later in
    let o = step s.6.0 s.1 s.2 (kind.Name x) next_of.Measures next_of.Measure within_of.Plain within_of.Plain t.left (name_is s.6.0.kind x s.6.1) refl refl s.6.3 t.later in
    let e = step s.7.0 s.2 s.3 (kind.Sign symbol.Equal) next_of.Measure next_of.Operand within_of.Plain within_of.Unit o.left (equal_is s.7.0.kind s.7.1) refl refl s.7.2 o.later in
    let r = unit_stays u s.3 rest s.8 fits next_of.Operand within_of.Unit e.left e.later in
    record {
      again = short_syntax o.token.start x r.again;
      left = r.left;
      next = r.next;
      within = within_of.Unit;
      begins = ended_begins r.next r.ends;
      outside = refl;
      spelled = (b.left, t.left, o.left, e.left, b.spelled, (t.token, ap expr_token t.same ∙ s.5.1, t.first), (o.token, ap expr_token o.same ∙ s.6.1, refl, o.first), (e.token, ap expr_token e.same ∙ s.7.1, e.first), r.spelled);
      fits = r.fits;
      same = ap (short_syntax 0 x) r.same;
      later = r.later;
    }
decl_stays (record_decl_syntax at x vs []) tokens rest s fits n w m i others a = absurd s.11
decl_stays (record_decl_syntax at x vs (f ∷ fs)) tokens rest s fits n w m i others a =
    let t = step s.6.0 tokens s.0 (kind.Word keyword.Type) n next_of.Heads w within_of.Plain others (word_is s.6.0.kind keyword.Type s.6.1) (ap (λ b. cond b next_of.Measures next_of.Heads) i) refl s.6.2 a in
    let o = step s.7.0 s.0 s.1 (kind.Name x) next_of.Heads next_of.Head within_of.Plain within_of.Plain t.left (name_is s.7.0.kind x s.7.1) refl refl s.7.3 t.later in
    let v = vars_stay vs s.1 s.2 s.8 o.left o.later in
    let h = equal_stands v.next v.typed in
    let e = step s.9.0 s.2 s.3 (kind.Sign symbol.Equal) v.next next_of.Operand within_of.Plain within_of.Plain v.left (equal_is s.9.0.kind s.9.1) (ap (λ (z : Stand). z.next) h) (ap (λ (z : Stand). z.within) h) s.9.2 v.later in
    let b = step s.10.0 s.3 s.4 (kind.Sign symbol.LeftBrace) next_of.Operand next_of.Binds within_of.Plain within_of.Plain e.left (mark_is s.10.0.kind symbol.LeftBrace s.10.1) refl refl s.10.2 e.later in
    let p = field_stays f s.4 s.11.0 s.11.1 fits.0 b.left b.later in
    let q = more_fields_stay fs s.11.0 s.5 s.11.2 fits.1 p.next p.typed p.left p.later in
    let c = step s.12.0 s.5 rest (kind.Sign symbol.RightBrace) q.next next_of.Ended within_of.Plain within_of.Plain q.left (mark_is s.12.0.kind symbol.RightBrace s.12.1) refl refl s.12.2 q.later in
    record {
      again = record_decl_syntax o.token.start x v.again (p.again ∷ q.again);
      left = c.left;
      next = next_of.Ended;
      within = within_of.Plain;
      begins = refl;
      outside = refl;
      spelled = (
        t.left,
        o.left,
        v.left,
        e.left,
        b.left,
        q.left,
        (t.token, ap expr_token t.same ∙ s.6.1, t.first),
        (o.token, ap expr_token o.same ∙ s.7.1, refl, o.first),
        v.spelled,
        (e.token, ap expr_token e.same ∙ s.9.1, e.first),
        (b.token, ap expr_token b.same ∙ s.10.1, b.first),
        (p.left, p.spelled, q.spelled),
        (c.token, ap expr_token c.same ∙ s.12.1, c.first),
      );
      fits = (p.fits, q.fits);
      same =
          ap (λ z. record_decl_syntax 0 x z (bare_field_decl p.again ∷ map bare_field_decl q.again)) v.same
          ∙ ap (λ z. record_decl_syntax 0 x (map bare_var vs) (z ∷ map bare_field_decl q.again)) p.same
          ∙ ap (λ z. record_decl_syntax 0 x (map bare_var vs) (bare_field_decl f ∷ z)) q.same;
      later = c.later;
    }
decl_stays (function_syntax f) tokens rest s fits n w m i others a = function_stays f tokens rest s fits n w others a

-- ---- programs

record DeclsStay (ds : List DeclSyntax) (rest others : List Token) : Type 0 where
  pub again : List DeclSyntax
  pub left : List Token
  pub next : Next
  pub within : Within
  pub spelled : DeclsSpell again others left
  pub fits : DeclsFit again
  pub same : bare_program again ≡ bare_program ds
  pub later : Alike rest next within left

decls_stay : (ds : List DeclSyntax) (tokens rest : List Token) → DeclsSpell ds tokens rest → DeclsFit ds → (n : Next) (w : Within) → may_begin n ≡ true → in_attribute w ≡ false → (others : List Token) → Alike tokens n w others → DeclsStay ds rest others
decls_stay [] tokens rest s fits n w m i others a = record { again = []; left = others; next = n; within = w; spelled = refl; fits = tt; same = refl; later = subst (λ ts. Alike ts n w others) s a }
decls_stay (d ∷ ds) tokens rest s fits n w m i others a =
    let r = decl_stays d tokens s.0 s.1 fits.0 n w m i others a in
    let q = decls_stay ds s.0 rest s.2 fits.1 r.next r.within r.begins r.outside r.left r.later in
    record {
      again = r.again ∷ q.again;
      left = q.left;
      next = q.next;
      within = q.within;
      spelled = (r.left, r.spelled, q.spelled);
      fits = (r.fits, q.fits);
      same = ap (λ x. x ∷ bare_program q.again) r.same ∙ ap (λ xs. bare_decl d ∷ xs) q.same;
      later = q.later;
    }

pub all_stays : (tokens : List Token) (ds : List DeclSyntax) (others : List Token) → IsProgram tokens ds → Alike tokens next_of.First within_of.Plain others → (again : List DeclSyntax) × IsProgram others again × (bare_program again ≡ bare_program ds)
all_stays tokens ds others program a =
    let r = decls_stay ds tokens [] program.spelled program.fits next_of.First within_of.Plain refl refl others a in
    (r.again, record { spelled = subst (DeclsSpell r.again others) r.later r.spelled; fits = r.fits }, r.same)
