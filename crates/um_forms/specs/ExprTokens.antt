-- What a token is to expressions and declarations: each reserved word and sign keeps its name, except that `true` and
-- `false` are values, and that a sign between two operands is an operator.
-- Source: this project's own; the words and signs are those of the F# specification, Lexical Analysis.
use Rattle.std.specs.Prelude.{true, false}
use Rattle.um_syntax.specs.declared.token.Kind.{Kind}
use Rattle.um_syntax.specs.declared.token.Kind.TheVariants as kind
use Rattle.um_vocabulary.specs.declared.vocabulary.Keyword.{Keyword}
use Rattle.um_vocabulary.specs.declared.vocabulary.Keyword.TheVariants as keyword
use Rattle.um_vocabulary.specs.declared.vocabulary.Symbol.{Symbol}
use Rattle.um_vocabulary.specs.declared.vocabulary.Symbol.TheVariants as symbol
use Rattle.um_tree.specs.declared.expression.Arith.TheVariants as arith
use Rattle.um_tree.specs.declared.expression.Sign.TheVariants as compare
use Rattle.um_operands.specs.declared.infix.Infix.TheVariants as between
use Rattle.um_forms.specs.declared.token.ExprToken.{ExprToken}
use Rattle.um_forms.specs.declared.token.ExprToken.TheVariants.{Name as name, Variable as variable, Number as number}
use Rattle.um_forms.specs.declared.token.ExprToken.TheVariants.{Truth as truth, Hole as hole, Operator as operator}
use Rattle.um_forms.specs.declared.token.ExprToken.TheVariants.{Word as word, Mark as mark}

abbrev pub keyword_token : Keyword → ExprToken
keyword_token keyword.True = truth true
keyword_token keyword.False = truth false
keyword_token k = word k

-- the signs that rules name
abbrev pub equal : ExprToken
equal = operator (between.Compare compare.Eq)

abbrev pub less : ExprToken
less = operator (between.Compare compare.Lt)

abbrev pub greater : ExprToken
greater = operator (between.Compare compare.Gt)

abbrev pub minus : ExprToken
minus = operator (between.Arith arith.Sub)

abbrev pub double_colon : ExprToken
double_colon = operator between.Cons

abbrev pub symbol_token : Symbol → ExprToken
symbol_token symbol.Less = less
symbol_token symbol.Greater = greater
symbol_token symbol.Equal = equal
symbol_token symbol.LessEqual = operator (between.Compare compare.Le)
symbol_token symbol.NotEqual = operator (between.Compare compare.Ne)
symbol_token symbol.Plus = operator (between.Arith arith.Add)
symbol_token symbol.Minus = minus
symbol_token symbol.Star = operator (between.Arith arith.Mul)
symbol_token symbol.Slash = operator (between.Arith arith.Div)
symbol_token symbol.ColonColon = double_colon
symbol_token symbol.BarBar = operator between.Or
symbol_token symbol.AndAnd = operator between.And
symbol_token s = mark s

abbrev pub expr_token : Kind → ExprToken
expr_token (kind.Name x) = name x
expr_token (kind.Var x) = variable x
expr_token (kind.Number value digits one) = number value
expr_token (kind.Word k) = keyword_token k
expr_token kind.Hole = hole
expr_token (kind.Sign s) = symbol_token s
