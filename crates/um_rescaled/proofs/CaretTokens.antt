-- Tokens where no `<` follows a power, and what begins them.
use Rattle.std.proofs.Common.{◌≡◌, Bool, true, false, List, [], ◌∷◌, refl, sym, ap, subst, ◌∙◌, ℕ}
use Rattle.std.proofs.lemmas.Bool.{false≢true}
use Rattle.um_syntax.specs.declared.token.Kind.{Kind}
use Rattle.um_syntax.specs.declared.token.Kind.TheVariants as kind
use Rattle.um_syntax.specs.declared.token.Token.{Token}
use Rattle.um_vocabulary.specs.declared.vocabulary.Keyword.{Keyword}
use Rattle.um_vocabulary.specs.declared.vocabulary.Keyword.TheVariants as keyword
use Rattle.um_vocabulary.specs.declared.vocabulary.Symbol.{Symbol}
use Rattle.um_vocabulary.specs.declared.vocabulary.Symbol.TheVariants as symbol
use Rattle.um_syntax.specs.Lexing.{is_caret_kind, is_minus_kind}
use Rattle.um_unit_texts.specs.UnitTokens.{UnitToken, sign, unit_token}
use Rattle.um_unit_texts.specs.UnitGrammar.{First as UnitFirst, FirstAt as UnitFirstAt}
use Rattle.um_types.specs.TypeGrammar.{FirstKind, FirstKindAt}
use Rattle.um_tree.specs.declared.expression.Sign.TheVariants as compare
use Rattle.um_operands.specs.declared.infix.Infix.TheVariants as between
use Rattle.um_forms.specs.declared.token.ExprToken.{ExprToken}
use Rattle.um_forms.specs.declared.token.ExprToken.TheVariants.{Operator as operator, Mark as mark}
use Rattle.um_forms.specs.ExprTokens.{expr_token, keyword_token, symbol_token}
use Rattle.um_expr.specs.ExprGrammar.{First, FirstAt, FirstGlued}
use Rattle.um_scale.specs.RescaledText.{is_number, is_less}

abbrev pub NotLess : List Token → Type 0
NotLess [] = Unit {0}
NotLess (t ∷ ts) = is_less t.kind ≡ false

abbrev pub AfterMinus : List Token → Type 0
AfterMinus [] = Unit {0}
AfterMinus (n ∷ ts) = NotLess ts

-- no `<` follows a number, or `-` and a number
abbrev pub AfterCaret : List Token → Type 0
AfterCaret [] = Unit {0}
AfterCaret (n ∷ ts) = (is_number n.kind ≡ true → NotLess ts) × (is_minus_kind n.kind ≡ true → AfterMinus ts)

abbrev pub AllSafe : List Token → Type 0
AllSafe [] = Unit {0}
AllSafe (t ∷ ts) = (is_caret_kind t.kind ≡ true → AfterCaret ts) × AllSafe ts

-- ---- tokens of units

abbrev pub is_caret_unit : UnitToken → Bool
is_caret_unit (sign symbol.Caret) = true
is_caret_unit _ = false

abbrev pub is_less_unit : UnitToken → Bool
is_less_unit (sign symbol.Less) = true
is_less_unit _ = false

abbrev pub is_minus_unit : UnitToken → Bool
is_minus_unit (sign symbol.Minus) = true
is_minus_unit _ = false

caret_sign : (s : Symbol) → is_caret_kind (kind.Sign s) ≡ is_caret_unit (sign s)
caret_sign symbol.Caret = refl
caret_sign _ = refl

less_sign : (s : Symbol) → is_less (kind.Sign s) ≡ is_less_unit (sign s)
less_sign symbol.Less = refl
less_sign _ = refl

minus_sign : (s : Symbol) → is_minus_kind (kind.Sign s) ≡ is_minus_unit (sign s)
minus_sign symbol.Minus = refl
minus_sign _ = refl

unit_caret : (k : Kind) → is_caret_kind k ≡ is_caret_unit (unit_token k)
unit_caret (kind.Name x) = refl
unit_caret (kind.Var x) = refl
unit_caret (kind.Number v d o) = refl
unit_caret (kind.Word w) = refl
unit_caret kind.Hole = refl
unit_caret (kind.Sign s) = caret_sign s

unit_less : (k : Kind) → is_less k ≡ is_less_unit (unit_token k)
unit_less (kind.Name x) = refl
unit_less (kind.Var x) = refl
unit_less (kind.Number v d o) = refl
unit_less (kind.Word w) = refl
unit_less kind.Hole = refl
unit_less (kind.Sign s) = less_sign s

pub unit_minus : (k : Kind) → is_minus_kind k ≡ is_minus_unit (unit_token k)
unit_minus (kind.Name x) = refl
unit_minus (kind.Var x) = refl
unit_minus (kind.Number v d o) = refl
unit_minus (kind.Word w) = refl
unit_minus kind.Hole = refl
unit_minus (kind.Sign s) = minus_sign s

-- a token that is no `^`, before safe ones
safe_token : (token : Token) (tokens rest : List Token) → tokens ≡ token ∷ rest → is_caret_kind token.kind ≡ false → AllSafe rest → AllSafe tokens
safe_token token tokens rest is none h = subst AllSafe (sym is) ((λ c. absurd (false≢true (sym none ∙ c))), h)

pub unit_over : (what : UnitToken) (tokens rest : List Token) → is_caret_unit what ≡ false → UnitFirst what tokens rest → AllSafe rest → AllSafe tokens
unit_over what tokens rest none f h = safe_token f.0 tokens rest f.2 (unit_caret f.0.kind ∙ ap is_caret_unit f.1 ∙ none) h

pub unit_over_at : (what : UnitToken) (at : ℕ) (tokens rest : List Token) → is_caret_unit what ≡ false → UnitFirstAt what at tokens rest → AllSafe rest → AllSafe tokens
unit_over_at what at tokens rest none f h = safe_token f.0 tokens rest f.3 (unit_caret f.0.kind ∙ ap is_caret_unit f.1 ∙ none) h

pub unit_not_less : (what : UnitToken) (tokens rest : List Token) → is_less_unit what ≡ false → UnitFirst what tokens rest → NotLess tokens
unit_not_less what tokens rest none f = subst NotLess (sym f.2) (unit_less f.0.kind ∙ ap is_less_unit f.1 ∙ none)

pub unit_not_less_at : (what : UnitToken) (at : ℕ) (tokens rest : List Token) → is_less_unit what ≡ false → UnitFirstAt what at tokens rest → NotLess tokens
unit_not_less_at what at tokens rest none f = subst NotLess (sym f.3) (unit_less f.0.kind ∙ ap is_less_unit f.1 ∙ none)

-- ---- tokens by their kinds

pub kind_over : (what : Kind) (tokens rest : List Token) → is_caret_kind what ≡ false → FirstKind what tokens rest → AllSafe rest → AllSafe tokens
kind_over what tokens rest none f h = safe_token f.0 tokens rest f.2 (ap is_caret_kind f.1 ∙ none) h

pub kind_over_at : (what : Kind) (at : ℕ) (tokens rest : List Token) → is_caret_kind what ≡ false → FirstKindAt what at tokens rest → AllSafe rest → AllSafe tokens
kind_over_at what at tokens rest none f h = safe_token f.0 tokens rest f.3 (ap is_caret_kind f.1 ∙ none) h

pub kind_not_less : (what : Kind) (tokens rest : List Token) → is_less what ≡ false → FirstKind what tokens rest → NotLess tokens
kind_not_less what tokens rest none f = subst NotLess (sym f.2) (ap is_less f.1 ∙ none)

-- ---- tokens of expressions

abbrev pub is_caret_token : ExprToken → Bool
is_caret_token (mark symbol.Caret) = true
is_caret_token _ = false

abbrev pub is_less_token : ExprToken → Bool
is_less_token (operator (between.Compare compare.Lt)) = true
is_less_token _ = false

caret_mark : (s : Symbol) → is_caret_kind (kind.Sign s) ≡ is_caret_token (symbol_token s)
caret_mark symbol.Caret = refl
caret_mark _ = refl

caret_word : (w : Keyword) → false ≡ is_caret_token (keyword_token w)
caret_word keyword.True = refl
caret_word _ = refl

less_mark : (s : Symbol) → is_less (kind.Sign s) ≡ is_less_token (symbol_token s)
less_mark symbol.Less = refl
less_mark _ = refl

less_word : (w : Keyword) → false ≡ is_less_token (keyword_token w)
less_word keyword.True = refl
less_word _ = refl

expr_caret : (k : Kind) → is_caret_kind k ≡ is_caret_token (expr_token k)
expr_caret (kind.Name x) = refl
expr_caret (kind.Var x) = refl
expr_caret (kind.Number v d o) = refl
expr_caret (kind.Word w) = caret_word w
expr_caret kind.Hole = refl
expr_caret (kind.Sign s) = caret_mark s

expr_less : (k : Kind) → is_less k ≡ is_less_token (expr_token k)
expr_less (kind.Name x) = refl
expr_less (kind.Var x) = refl
expr_less (kind.Number v d o) = refl
expr_less (kind.Word w) = less_word w
expr_less kind.Hole = refl
expr_less (kind.Sign s) = less_mark s

pub over_one : (what : ExprToken) (token : Token) (tokens rest : List Token) → is_caret_token what ≡ false → expr_token token.kind ≡ what → tokens ≡ token ∷ rest → AllSafe rest → AllSafe tokens
over_one what token tokens rest none e is h = safe_token token tokens rest is (expr_caret token.kind ∙ ap is_caret_token e ∙ none) h

pub over : (what : ExprToken) (tokens rest : List Token) → is_caret_token what ≡ false → First what tokens rest → AllSafe rest → AllSafe tokens
over what tokens rest none f h = over_one what f.0 tokens rest none f.1 f.2 h

pub over_at : (what : ExprToken) (at : ℕ) (tokens rest : List Token) → is_caret_token what ≡ false → FirstAt what at tokens rest → AllSafe rest → AllSafe tokens
over_at what at tokens rest none f h = over_one what f.0 tokens rest none f.1 f.3 h

pub over_glued : (what : ExprToken) (tokens rest : List Token) → is_caret_token what ≡ false → FirstGlued what tokens rest → AllSafe rest → AllSafe tokens
over_glued what tokens rest none f h = over_one what f.0 tokens rest none f.1 f.3 h

pub not_less : (what : ExprToken) (tokens rest : List Token) → is_less_token what ≡ false → First what tokens rest → NotLess tokens
not_less what tokens rest none f = subst NotLess (sym f.2) (expr_less f.0.kind ∙ ap is_less_token f.1 ∙ none)
