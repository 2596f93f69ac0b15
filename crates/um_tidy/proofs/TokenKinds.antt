-- The kind of a token, by what it is to expressions and declarations.
use Rattle.std.proofs.Common.{◌≡◌, refl, ap, ℕ, Bool, true, false, List, Option, Some, None}
use Rattle.um_frac.specs.declared.number.Frac.{Frac}
use Rattle.um_syntax.specs.declared.token.Kind.{Kind}
use Rattle.um_syntax.specs.declared.token.Kind.TheVariants as kind
use Rattle.um_vocabulary.specs.declared.vocabulary.Keyword.{Keyword}
use Rattle.um_vocabulary.specs.declared.vocabulary.Keyword.TheVariants as keyword
use Rattle.um_vocabulary.specs.declared.vocabulary.Symbol.{Symbol}
use Rattle.um_vocabulary.specs.declared.vocabulary.Symbol.TheVariants as symbol
use Rattle.um_tree.specs.declared.expression.Arith.TheVariants as arith
use Rattle.um_tree.specs.declared.expression.Sign.TheVariants as compare
use Rattle.um_operands.specs.declared.infix.Infix.{Infix}
use Rattle.um_operands.specs.declared.infix.Infix.TheVariants as between
use Rattle.um_forms.specs.declared.token.ExprToken.TheVariants.{Name as name, Variable as variable, Number as number}
use Rattle.um_forms.specs.declared.token.ExprToken.TheVariants.{Truth as truth, Hole as hole, Operator as operator}
use Rattle.um_forms.specs.declared.token.ExprToken.TheVariants.{Word as word}
use Rattle.um_forms.specs.ExprTokens.{expr_token}
use Rattle.um_expr.specs.ExprGrammar.{bound}
use Rattle.um_tidy.proofs.UnitsStay.{IsNumber}

pub name_is : (k : Kind) (x : List ℕ) → expr_token k ≡ name x → k ≡ kind.Name x
name_is (kind.Name y) x e = cc
name_is (kind.Sign symbol.Less) x e = cc
name_is (kind.Word keyword.True) x e = cc
name_is _ x e = cc

pub variable_is : (k : Kind) (x : List ℕ) → expr_token k ≡ variable x → k ≡ kind.Var x
variable_is (kind.Var y) x e = cc
variable_is (kind.Sign symbol.Less) x e = cc
variable_is (kind.Word keyword.True) x e = cc
variable_is _ x e = cc

pub word_is : (k : Kind) (w : Keyword) → expr_token k ≡ word w → k ≡ kind.Word w
word_is (kind.Sign symbol.Less) w e = cc
word_is (kind.Word keyword.True) w e = cc
word_is _ w e = cc

pub number_is : (k : Kind) (c : Frac) → expr_token k ≡ number c → IsNumber k
number_is (kind.Number value digits one) c e = record { value = value; digits = digits; one = one; is = refl }
number_is (kind.Sign symbol.Less) c e = absurd cc
number_is (kind.Word keyword.True) c e = absurd cc
number_is _ c e = absurd cc

abbrev pub truth_word : Bool → Keyword
truth_word true = keyword.True
truth_word false = keyword.False

pub truth_is : (k : Kind) (b : Bool) → expr_token k ≡ truth b → k ≡ kind.Word (truth_word b)
truth_is (kind.Word keyword.True) b e = let same : true ≡ b = cc in ap (λ v. kind.Word (truth_word v)) same
truth_is (kind.Word keyword.False) b e = let same : false ≡ b = cc in ap (λ v. kind.Word (truth_word v)) same
truth_is (kind.Sign symbol.Less) b e = cc
truth_is _ b e = cc

-- what is bound
abbrev pub bound_kind : Option (List ℕ) → Kind
bound_kind None = kind.Hole
bound_kind (Some x) = kind.Name x

hole_is : (k : Kind) → expr_token k ≡ hole → k ≡ kind.Hole
hole_is kind.Hole e = refl
hole_is (kind.Sign symbol.Less) e = cc
hole_is (kind.Word keyword.True) e = cc
hole_is _ e = cc

pub bound_is : (o : Option (List ℕ)) (k : Kind) → expr_token k ≡ bound o → k ≡ bound_kind o
bound_is None k e = hole_is k e
bound_is (Some x) k e = name_is k x e

-- the sign that an operator is; `>=` is two
abbrev pub infix_symbol : Infix → Symbol
infix_symbol between.Or = symbol.BarBar
infix_symbol between.And = symbol.AndAnd
infix_symbol between.Cons = symbol.ColonColon
infix_symbol (between.Arith arith.Add) = symbol.Plus
infix_symbol (between.Arith arith.Sub) = symbol.Minus
infix_symbol (between.Arith arith.Mul) = symbol.Star
infix_symbol (between.Arith arith.Div) = symbol.Slash
infix_symbol (between.Compare compare.Lt) = symbol.Less
infix_symbol (between.Compare compare.Le) = symbol.LessEqual
infix_symbol (between.Compare compare.Eq) = symbol.Equal
infix_symbol (between.Compare compare.Ne) = symbol.NotEqual
infix_symbol (between.Compare compare.Gt) = symbol.Greater
infix_symbol (between.Compare compare.Ge) = symbol.Greater

pub operator_is : (k : Kind) (op : Infix) → expr_token k ≡ operator op → k ≡ kind.Sign (infix_symbol op)
operator_is (kind.Sign symbol.Less) op e = let same : between.Compare compare.Lt ≡ op = cc in ap (λ o. kind.Sign (infix_symbol o)) same
operator_is (kind.Sign symbol.Greater) op e = let same : between.Compare compare.Gt ≡ op = cc in ap (λ o. kind.Sign (infix_symbol o)) same
operator_is (kind.Sign symbol.Equal) op e = let same : between.Compare compare.Eq ≡ op = cc in ap (λ o. kind.Sign (infix_symbol o)) same
operator_is (kind.Sign symbol.LessEqual) op e = let same : between.Compare compare.Le ≡ op = cc in ap (λ o. kind.Sign (infix_symbol o)) same
operator_is (kind.Sign symbol.NotEqual) op e = let same : between.Compare compare.Ne ≡ op = cc in ap (λ o. kind.Sign (infix_symbol o)) same
operator_is (kind.Sign symbol.Plus) op e = let same : between.Arith arith.Add ≡ op = cc in ap (λ o. kind.Sign (infix_symbol o)) same
operator_is (kind.Sign symbol.Minus) op e = let same : between.Arith arith.Sub ≡ op = cc in ap (λ o. kind.Sign (infix_symbol o)) same
operator_is (kind.Sign symbol.Star) op e = let same : between.Arith arith.Mul ≡ op = cc in ap (λ o. kind.Sign (infix_symbol o)) same
operator_is (kind.Sign symbol.Slash) op e = let same : between.Arith arith.Div ≡ op = cc in ap (λ o. kind.Sign (infix_symbol o)) same
operator_is (kind.Sign symbol.ColonColon) op e = let same : between.Cons ≡ op = cc in ap (λ o. kind.Sign (infix_symbol o)) same
operator_is (kind.Sign symbol.BarBar) op e = let same : between.Or ≡ op = cc in ap (λ o. kind.Sign (infix_symbol o)) same
operator_is (kind.Sign symbol.AndAnd) op e = let same : between.And ≡ op = cc in ap (λ o. kind.Sign (infix_symbol o)) same
operator_is (kind.Word keyword.True) op e = absurd cc
operator_is _ op e = absurd cc
