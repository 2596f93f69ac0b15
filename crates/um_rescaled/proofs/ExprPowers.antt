-- No `<` follows a power of a unit in an expression or a declaration.
use Rattle.std.proofs.Common.{◌≡◌, ◌⊎◌, inl, inr, ℕ, ℤ, Bool, true, false, List, [], ◌∷◌, Option, Some, None, refl, sym, subst, ◌∙◌}
use Rattle.std.proofs.lemmas.Bool.{false≢true}
use Rattle.um_syntax.specs.declared.token.Kind.{Kind}
use Rattle.um_syntax.specs.declared.token.Kind.TheVariants as kind
use Rattle.um_syntax.specs.declared.token.Token.{Token}
use Rattle.um_vocabulary.specs.declared.vocabulary.Symbol.TheVariants as symbol
use Rattle.um_syntax.specs.Lexing.{is_caret_kind}
use Rattle.um_tree.specs.declared.expression.Sign.TheVariants as sign
use Rattle.um_tree.specs.RawTree.{NoteSyntax, TypeSyntax, BinderSyntax, VarSyntax, FieldDeclSyntax, ParamSyntax, DeclSyntax, base_syntax, short_syntax, record_decl_syntax, function_syntax}
use Rattle.um_tree.specs.RawTree.{ExprSyntax, ExprSyntaxes, FieldSyntaxes, truth_syntax, number_syntax, name_syntax, call_syntax, negate_syntax, not_syntax, pown_syntax, arith_syntax, compare_syntax, and_syntax, or_syntax, if_syntax, let_syntax, match_syntax, nil_syntax, list_syntax, cons_syntax, fields_syntax, field_syntax, bracket_expr_syntax, no_exprs, more_exprs, no_fields, more_fields}
use Rattle.um_unit_texts.specs.UnitTokens.{unit_token}
use Rattle.um_unit_texts.specs.UnitMachine.{power_in}
use Rattle.um_operands.specs.declared.infix.Infix.{Infix}
use Rattle.um_operands.specs.declared.infix.Infix.TheVariants as between
use Rattle.um_forms.specs.declared.token.ExprToken.TheVariants.{Mark as mark}
use Rattle.um_expr.specs.ExprGrammar.{First, InfixAt, bound, BinderSpells, WrittenNote, FirstPower, PowerSpells, EmptyArm, FullArm, NilSpells, Spells, AllSpell, ItemsSpell, MoreItems, FieldsSpell, MoreFields}
use Rattle.um_parse.specs.DeclGrammar.{Attribute, VarSpells, MoreVars, VarsSpell, FieldDeclSpells, MoreFieldDecls, FieldDeclsSpell, ParamsSpell, ResultSpells, RecSpells, DeclSpells, DeclsSpell}
use Rattle.um_rescaled.proofs.CaretTokens.{NotLess, AllSafe, is_caret_token, over_one, over, over_at, over_glued, not_less}
use Rattle.um_rescaled.proofs.UnitPowers.{unit_safe, note_safe, type_safe}

none_bound : (o : Option (List ℕ)) → is_caret_token (bound o) ≡ false
none_bound None = refl
none_bound (Some x) = refl

bound_over : (x : BinderSyntax) (tokens rest : List Token) → BinderSpells x tokens rest → AllSafe rest → AllSafe tokens
bound_over x tokens rest s h = over_at _ x.at tokens rest (none_bound x.name) s h

infix_over : (i : Infix) (left : List Token) (at : ℕ) (tokens rest : List Token) → InfixAt i left at tokens rest → AllSafe rest → AllSafe tokens
infix_over (between.Compare sign.Lt) left at tokens rest s h = over_one _ s.0 tokens rest refl s.1 s.4 h
infix_over (between.Compare sign.Ge) left at tokens rest s h = over_at _ at tokens s.0 refl s.1 (over_glued _ s.0 rest refl s.2 h)
infix_over (between.Compare sign.Le) left at tokens rest s h = over_at _ at tokens rest refl s h
infix_over (between.Compare sign.Gt) left at tokens rest s h = over_at _ at tokens rest refl s h
infix_over (between.Compare sign.Eq) left at tokens rest s h = over_at _ at tokens rest refl s h
infix_over (between.Compare sign.Ne) left at tokens rest s h = over_at _ at tokens rest refl s h
infix_over between.Or left at tokens rest s h = over_at _ at tokens rest refl s h
infix_over between.And left at tokens rest s h = over_at _ at tokens rest refl s h
infix_over between.Cons left at tokens rest s h = over_at _ at tokens rest refl s h
infix_over (between.Arith op) left at tokens rest s h = over_at _ at tokens rest refl s h

written_safe : (n : Option NoteSyntax) (tokens rest : List Token) → WrittenNote n tokens rest → AllSafe rest → AllSafe tokens
written_safe None tokens rest s h = subst AllSafe (sym s) h
written_safe (Some n) tokens rest s h = over_glued _ tokens s.0 refl s.2 (note_safe n s.0 s.1 s.3 (not_less _ s.1 rest refl s.4) (over _ s.1 rest refl s.4 h))

-- the number of `pown` is no `^`
no_caret : (k : Kind) (n : ℕ) → power_in (unit_token k) ≡ Some n → is_caret_kind k ≡ false
no_caret (kind.Name x) n e = refl
no_caret (kind.Var x) n e = refl
no_caret (kind.Number v d o) n e = refl
no_caret (kind.Word w) n e = refl
no_caret kind.Hole n e = refl
no_caret (kind.Sign s) n e = absurd (cc e)

power_over : (n : ℕ) (tokens rest : List Token) → FirstPower n tokens rest → AllSafe rest → AllSafe tokens
power_over n tokens rest f h = subst AllSafe (sym f.2) ((λ c. absurd (false≢true (sym (no_caret f.0.kind n f.1) ∙ c))), h)

powers_over : (k : ℤ) (tokens rest : List Token) → PowerSpells k tokens rest → AllSafe rest → AllSafe tokens
powers_over k tokens rest (inl s) h = power_over s.0 tokens rest s.2 h
powers_over k tokens rest (inr s) h =
    over _ tokens s.1 refl s.5 (over _ s.1 s.2 refl s.6 (power_over s.0 s.2 s.3 s.7 (over _ s.3 rest refl s.8 h)))

empty_over : (tokens rest : List Token) → EmptyArm tokens rest → AllSafe rest → AllSafe tokens
empty_over tokens rest s h = over _ tokens s.0 refl s.4 (bar s.5 (over _ s.1 s.2 refl s.6 (over _ s.2 s.3 refl s.7 (over _ s.3 rest refl s.8 h))))
  where
    bar : (s.0 ≡ s.1) ⊎ First (mark symbol.Bar) s.0 s.1 → AllSafe s.1 → AllSafe s.0
    bar (inl e) k = subst AllSafe (sym e) k
    bar (inr b) k = over _ s.0 s.1 refl b k

full_over : (x y : BinderSyntax) (tokens rest : List Token) → FullArm x y tokens rest → AllSafe rest → AllSafe tokens
full_over x y tokens rest s h =
    over _ tokens s.0 refl s.4 (bound_over x s.0 s.1 s.5 (over _ s.1 s.2 refl s.6 (bound_over y s.2 s.3 s.7 (over _ s.3 rest refl s.8 h))))

nil_over : (at : ℕ) (t : TypeSyntax) (tokens rest : List Token) → NilSpells at t tokens rest → AllSafe rest → AllSafe tokens
nil_over at t tokens rest s h =
    over_at _ at tokens s.0 refl s.5 (over _ s.0 s.1 refl s.6 (over _ s.1 s.2 refl s.7 (over _ s.2 s.3 refl s.8 (type_safe t s.3 s.4 s.9 (over _ s.4 rest refl s.10 h)))))

mutual
  expr_safe : (e : ExprSyntax) (tokens rest : List Token) → Spells e tokens rest → AllSafe rest → AllSafe tokens
  expr_safe (truth_syntax at b) tokens rest s h = over_at _ at tokens rest refl s h
  expr_safe (number_syntax at c n) tokens rest s h = over_at _ at tokens s.0 refl s.1 (written_safe n s.0 rest s.2 h)
  expr_safe (name_syntax at x) tokens rest s h = over_at _ at tokens rest refl s h
  expr_safe (call_syntax at f args) tokens rest s h = over_at _ at tokens s.0 refl s.1 (all_safe args s.0 rest s.2 h)
  expr_safe (negate_syntax at e) tokens rest s h = over_at _ at tokens s.0 refl s.1 (expr_safe e s.0 rest s.2 h)
  expr_safe (not_syntax at e) tokens rest s h = over_at _ at tokens s.0 refl s.1 (expr_safe e s.0 rest s.2 h)
  expr_safe (pown_syntax at e k) tokens rest s h = over_at _ at tokens s.0 refl s.2 (expr_safe e s.0 s.1 s.3 (powers_over k s.1 rest s.4 h))
  expr_safe (arith_syntax at op a b) tokens rest s h = expr_safe a tokens s.0 s.2 (infix_over (between.Arith op) tokens at s.0 s.1 s.3 (expr_safe b s.1 rest s.4 h))
  expr_safe (compare_syntax at c a b) tokens rest s h = expr_safe a tokens s.0 s.2 (infix_over (between.Compare c) tokens at s.0 s.1 s.3 (expr_safe b s.1 rest s.4 h))
  expr_safe (and_syntax at a b) tokens rest s h = expr_safe a tokens s.0 s.2 (infix_over between.And tokens at s.0 s.1 s.3 (expr_safe b s.1 rest s.4 h))
  expr_safe (or_syntax at a b) tokens rest s h = expr_safe a tokens s.0 s.2 (infix_over between.Or tokens at s.0 s.1 s.3 (expr_safe b s.1 rest s.4 h))
  expr_safe (cons_syntax at a b) tokens rest s h = expr_safe a tokens s.0 s.2 (infix_over between.Cons tokens at s.0 s.1 s.3 (expr_safe b s.1 rest s.4 h))
  expr_safe (if_syntax at c a b) tokens rest s h =
      over_at _ at tokens s.0 refl s.5 (expr_safe c s.0 s.1 s.6 (over _ s.1 s.2 refl s.7 (expr_safe a s.2 s.3 s.8 (over _ s.3 s.4 refl s.9 (expr_safe b s.4 rest s.10 h)))))
  expr_safe (let_syntax at x a b) tokens rest s h =
      over_at _ at tokens s.0 refl s.5 (bound_over x s.0 s.1 s.6 (over _ s.1 s.2 refl s.7 (expr_safe a s.2 s.3 s.8 (over _ s.3 s.4 refl s.9 (expr_safe b s.4 rest s.10 h)))))
  expr_safe (match_syntax at l a x y b) tokens rest s h =
      over_at _ at tokens s.0 refl s.5 (expr_safe l s.0 s.1 s.6 (empty_over s.1 s.2 s.7 (expr_safe a s.2 s.3 s.8 (full_over x y s.3 s.4 s.9 (expr_safe b s.4 rest s.10 h)))))
  expr_safe (nil_syntax at t) tokens rest s h = nil_over at t tokens rest s h
  expr_safe (list_syntax at es) tokens rest s h = over_at _ at tokens s.0 refl s.2 (items_safe es s.0 s.1 s.3 (over _ s.1 rest refl s.4 h))
  expr_safe (fields_syntax at fs) tokens rest s h = over_at _ at tokens s.0 refl s.2 (fields_safe fs s.0 s.1 s.3 (over _ s.1 rest refl s.4 h))
  expr_safe (field_syntax at place x e) tokens rest s h = expr_safe e tokens s.0 s.2 (over_at _ at s.0 s.1 refl s.3 (over_at _ place s.1 rest refl s.4 h))
  expr_safe (bracket_expr_syntax at e) tokens rest s h = over_at _ at tokens s.0 refl s.2 (expr_safe e s.0 s.1 s.3 (over _ s.1 rest refl s.4 h))

  all_safe : (es : ExprSyntaxes) (tokens rest : List Token) → AllSpell es tokens rest → AllSafe rest → AllSafe tokens
  all_safe no_exprs tokens rest s h = subst AllSafe (sym s) h
  all_safe (more_exprs e es) tokens rest s h = expr_safe e tokens s.0 s.1 (all_safe es s.0 rest s.2 h)

  items_safe : (es : ExprSyntaxes) (tokens rest : List Token) → ItemsSpell es tokens rest → AllSafe rest → AllSafe tokens
  items_safe no_exprs tokens rest s h = absurd s
  items_safe (more_exprs e es) tokens rest s h = expr_safe e tokens s.0 s.1 (more_items_safe es s.0 rest s.2 h)

  more_items_safe : (es : ExprSyntaxes) (tokens rest : List Token) → MoreItems es tokens rest → AllSafe rest → AllSafe tokens
  more_items_safe no_exprs tokens rest s h = subst AllSafe (sym s) h
  more_items_safe (more_exprs e es) tokens rest s h = over _ tokens s.0 refl s.2 (expr_safe e s.0 s.1 s.3 (more_items_safe es s.1 rest s.4 h))

  fields_safe : (fs : FieldSyntaxes) (tokens rest : List Token) → FieldsSpell fs tokens rest → AllSafe rest → AllSafe tokens
  fields_safe no_fields tokens rest s h = absurd s
  fields_safe (more_fields at x e fs) tokens rest s h =
      over_at _ at tokens s.0 refl s.3 (over _ s.0 s.1 refl s.4 (expr_safe e s.1 s.2 s.5 (more_fields_safe fs s.2 rest s.6 h)))

  more_fields_safe : (fs : FieldSyntaxes) (tokens rest : List Token) → MoreFields fs tokens rest → AllSafe rest → AllSafe tokens
  more_fields_safe no_fields tokens rest s h = subst AllSafe (sym s) h
  more_fields_safe (more_fields at x e fs) tokens rest s h =
      over _ tokens s.0 refl s.4 (over_at _ at s.0 s.1 refl s.5 (over _ s.1 s.2 refl s.6 (expr_safe e s.2 s.3 s.7 (more_fields_safe fs s.3 rest s.8 h))))

-- ---- declarations

attribute_over : (tokens rest : List Token) → Attribute tokens rest → AllSafe rest → AllSafe tokens
attribute_over tokens rest s h = over _ tokens s.0 refl s.3 (over _ s.0 s.1 refl s.4 (over _ s.1 s.2 refl s.5 (over _ s.2 rest refl s.6 h)))

attribute_not_less : (tokens rest : List Token) → Attribute tokens rest → NotLess tokens
attribute_not_less tokens rest s = not_less _ tokens s.0 refl s.3

var_over : (v : VarSyntax) (tokens rest : List Token) → VarSpells v tokens rest → AllSafe rest → AllSafe tokens
var_over v tokens rest s h = attribute_over tokens s.0 s.1 (over_at _ v.at s.0 rest refl s.2 h)

more_vars_over : (vs : List VarSyntax) (tokens rest : List Token) → MoreVars vs tokens rest → AllSafe rest → AllSafe tokens
more_vars_over [] tokens rest s h = subst AllSafe (sym s) h
more_vars_over (v ∷ vs) tokens rest s h = over _ tokens s.0 refl s.2 (var_over v s.0 s.1 s.3 (more_vars_over vs s.1 rest s.4 h))

vars_over : (vs : List VarSyntax) (tokens rest : List Token) → VarsSpell vs tokens rest → AllSafe rest → AllSafe tokens
vars_over [] tokens rest s h = subst AllSafe (sym s) h
vars_over (v ∷ vs) tokens rest s h = over _ tokens s.0 refl s.3 (var_over v s.0 s.1 s.4 (more_vars_over vs s.1 s.2 s.5 (over _ s.2 rest refl s.6 h)))

field_over : (f : FieldDeclSyntax) (tokens rest : List Token) → FieldDeclSpells f tokens rest → AllSafe rest → AllSafe tokens
field_over f tokens rest s h = over_at _ f.at tokens s.0 refl s.2 (over _ s.0 s.1 refl s.3 (type_safe f.type s.1 rest s.4 h))

more_fields_over : (fs : List FieldDeclSyntax) (tokens rest : List Token) → MoreFieldDecls fs tokens rest → AllSafe rest → AllSafe tokens
more_fields_over [] tokens rest s h = subst AllSafe (sym s) h
more_fields_over (f ∷ fs) tokens rest s h = over _ tokens s.0 refl s.2 (field_over f s.0 s.1 s.3 (more_fields_over fs s.1 rest s.4 h))

fields_over : (fs : List FieldDeclSyntax) (tokens rest : List Token) → FieldDeclsSpell fs tokens rest → AllSafe rest → AllSafe tokens
fields_over [] tokens rest s h = absurd s
fields_over (f ∷ fs) tokens rest s h = field_over f tokens s.0 s.1 (more_fields_over fs s.0 rest s.2 h)

params_over : (ps : List ParamSyntax) (tokens rest : List Token) → ParamsSpell ps tokens rest → AllSafe rest → AllSafe tokens
params_over [] tokens rest s h = subst AllSafe (sym s) h
params_over (p ∷ ps) tokens rest s h =
    let one = s.1 in
    over _ tokens one.0 refl one.4 (bound_over p.binder one.0 one.1 one.5 (over _ one.1 one.2 refl one.6 (type_safe p.type one.2 one.3 one.7 (over _ one.3 s.0 refl one.8 (params_over ps s.0 rest s.2 h)))))

result_over : (r : Option TypeSyntax) (tokens rest : List Token) → ResultSpells r tokens rest → AllSafe rest → AllSafe tokens
result_over None tokens rest s h = subst AllSafe (sym s) h
result_over (Some t) tokens rest s h = over _ tokens s.0 refl s.1 (type_safe t s.0 rest s.2 h)

rec_over : (recursive : Bool) (tokens rest : List Token) → RecSpells recursive tokens rest → AllSafe rest → AllSafe tokens
rec_over false tokens rest s h = subst AllSafe (sym s) h
rec_over true tokens rest s h = over _ tokens rest refl s h

decl_safe : (d : DeclSyntax) (tokens rest : List Token) → DeclSpells d tokens rest → NotLess rest → AllSafe rest → AllSafe tokens × NotLess tokens
decl_safe (base_syntax at x) tokens rest s less h =
    (attribute_over tokens s.0 s.2 (over _ s.0 s.1 refl s.3 (over_at _ at s.1 rest refl s.4 h)), attribute_not_less tokens s.0 s.2)
decl_safe (short_syntax at x u) tokens rest s less h =
    let unit = (unit_safe u s.3 rest s.8 less h).0 in
    (attribute_over tokens s.0 s.4 (over _ s.0 s.1 refl s.5 (over_at _ at s.1 s.2 refl s.6 (over _ s.2 s.3 refl s.7 unit))), attribute_not_less tokens s.0 s.4)
decl_safe (record_decl_syntax at x vs fs) tokens rest s less h =
    let fields = fields_over fs s.4 s.5 s.11 (over _ s.5 rest refl s.12 h) in
    (over _ tokens s.0 refl s.6 (over_at _ at s.0 s.1 refl s.7 (vars_over vs s.1 s.2 s.8 (over _ s.2 s.3 refl s.9 (over _ s.3 s.4 refl s.10 fields)))), not_less _ tokens s.0 refl s.6)
decl_safe (function_syntax f) tokens rest s less h =
    let body = over _ s.5 s.6 refl s.13 (expr_safe f.body s.6 rest s.14 h) in
    let params = params_over f.params s.3 s.4 s.11 (result_over f.result s.4 s.5 s.12 body) in
    (over _ tokens s.0 refl s.7 (rec_over f.recursive s.0 s.1 s.8 (over_at _ f.at s.1 s.2 refl s.9 (vars_over f.units s.2 s.3 s.10 params))), not_less _ tokens s.0 refl s.7)

pub decls_safe : (ds : List DeclSyntax) (tokens rest : List Token) → DeclsSpell ds tokens rest → NotLess rest → AllSafe rest → AllSafe tokens × NotLess tokens
decls_safe [] tokens rest s less h = (subst AllSafe (sym s) h, subst NotLess (sym s) less)
decls_safe (d ∷ ds) tokens rest s less h =
    let q = decls_safe ds s.0 rest s.2 less h in
    decl_safe d tokens s.0 s.1 q.1 q.0
