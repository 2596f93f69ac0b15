-- What the tokens of a text say of their names and numbers.
use Rattle.std.proofs.Common.{◌≡◌, ℕ, zero, suc, ◌≤◌, ◌/◌, ℤ, pos, negsuc, Bool, true, false, cond, nat_le, List, [], ◌∷◌, ◌++◌, Option, Some, None, refl, sym, ap, subst, ◌∙◌, arith}
use Rattle.std.proofs.lemmas.Bool.{false≢true, and_parts, and_from}
use Rattle.std.proofs.lemmas.Bool.Decides.{nat_tests}
use Rattle.std.proofs.lemmas.Option.{cond_some}
use Rattle.std.specs.Str.{all_scalars}
use lib.Utf8.{scalar}
use Rattle.um_frac.specs.declared.number.Frac.{Frac}
use Rattle.um_frac.specs.Gcd.{gcd}
use Rattle.um_frac.specs.Fraction.{numerator, reduced}
use Rattle.um_frac.proofs.LowestTerms.{fraction-parts, reduced-zero, reduced-signed}
use Rattle.um_syntax.specs.declared.token.Token.{Token}
use Rattle.um_syntax.specs.declared.token.Kind.{Kind}
use Rattle.um_syntax.specs.declared.token.Kind.TheVariants as kind
use Rattle.um_syntax.specs.Numeral.{Numeral, Whole, Decimal, Ratio, numerator_of, denominator_of, value_of, number_value}
use Rattle.um_syntax.specs.Lexing.{HasTokens}
use Rattle.um_syntax.proofs.TokenKinds.{AllKinds, KindsHold, kinds_hold}
use Rattle.um_unit_texts.specs.UnitTokens.{unit_token, power_from, greatest_power}
use Rattle.um_unit_texts.specs.UnitTokens as of_unit
use Rattle.um_unit_texts.specs.UnitMachine.{power_in}
use Rattle.um_vocabulary.specs.declared.vocabulary.Keyword.{Keyword}
use Rattle.um_vocabulary.specs.declared.vocabulary.Keyword.TheVariants as keyword
use Rattle.um_vocabulary.specs.declared.vocabulary.Symbol.{Symbol}
use Rattle.um_vocabulary.specs.declared.vocabulary.Symbol.TheVariants as symbol
use Rattle.um_forms.specs.declared.token.ExprToken.{ExprToken}
use Rattle.um_forms.specs.declared.token.ExprToken.TheVariants.{Name as name, Variable as variable, Number as number, Truth as truth, Hole as hole, Operator as operator, Word as word, Mark as mark}
use Rattle.um_forms.specs.ExprTokens.{expr_token, keyword_token, symbol_token}
use Rattle.um_show.proofs.Chain.{IsGoodName}

-- a number that isn't negative
abbrev pub IsNatural : Frac → Type 0
IsNatural c = (n : ℕ) × (numerator c ≡ pos n)

abbrev pub GoodKind : Kind → Type 0
GoodKind (kind.Name letters) = IsGoodName letters
GoodKind (kind.Var letters) = IsGoodName letters
GoodKind (kind.Number value digits one) = IsNatural value
GoodKind (kind.Word k) = Unit {0}
GoodKind kind.Hole = Unit {0}
GoodKind (kind.Sign k) = Unit {0}

abbrev pub AllGood : List Token → Type 0
AllGood = AllKinds GoodKind

-- ---- numbers

none_some : (v : Frac) → ◌≡◌ {A = Option Frac} None (Some v) → ⊥
none_some v e = cc

reduced_natural : (a b : ℕ) (v : Frac) → reduced (pos a) (pos b) ≡ Some v → IsNatural v
reduced_natural a zero v e = absurd (none_some v (sym (reduced-zero (pos a)) ∙ e))
reduced_natural a (suc d) v e = (a / gcd a (suc d), (fraction-parts _ _ v (sym (reduced-signed false a (suc d) (omega arith)) ∙ e)).0)

allowed_value : (b : Bool) (o : Option Frac) (v : Frac) → cond b o None ≡ Some v → o ≡ Some v
allowed_value true o v e = e
allowed_value false o v e = absurd (none_some v e)

number_natural : (power : Bool) (n : Numeral) (v : Frac) → number_value power n ≡ Some v → IsNatural v
number_natural true (Whole ds) v e = reduced_natural (value_of ds) 1 v (allowed_value _ _ v e)
number_natural true (Decimal w q) v e = absurd (none_some v e)
number_natural true (Ratio a b) v e = absurd (none_some v e)
number_natural false n v e = reduced_natural (numerator_of n) (denominator_of n) v (allowed_value _ _ v e)

-- ---- tokens

scalars_parts : (xs ys : List ℕ) → all_scalars (xs ++ ys) ≡ true → (all_scalars xs ≡ true) × (all_scalars ys ≡ true)
scalars_parts [] ys e = (refl, e)
scalars_parts (x ∷ xs) ys e =
    let p = and_parts (scalar x) (all_scalars (xs ++ ys)) e in let q = scalars_parts xs ys p.1 in
    (and_from (scalar x) (all_scalars xs) p.0 q.0, q.1)

-- each is a Unicode scalar value
abbrev AreScalars : List ℕ → Type 0
AreScalars cs = all_scalars cs ≡ true

good_kinds : KindsHold GoodKind AreScalars
good_kinds = record {
  name = λ text named s. record { text = text; scalars = s; bytes = refl; named = named };
  variable = λ name named s. record { text = name; scalars = s; bytes = refl; named = named };
  number = number_natural;
  word = λ k. tt;
  hole = tt;
  sign = λ k. tt;
}

pub tokens_good : (cs : List ℕ) (tokens : List Token) → all_scalars cs ≡ true → HasTokens cs tokens → AllGood tokens
tokens_good cs tokens s l = kinds_hold GoodKind AreScalars good_kinds scalars_parts cs tokens s l

-- the first token and the others
pub first_good : (tokens rest : List Token) (token : Token) → tokens ≡ token ∷ rest → AllGood tokens → AllGood (token ∷ rest)
first_good tokens rest token e h = subst (λ w. AllGood w) e h

-- ---- what a token is to units

abbrev Named : List ℕ → Type 0
Named x = IsGoodName x

pub measure_good : (k : Kind) (x : List ℕ) → unit_token k ≡ of_unit.measure x → GoodKind k → IsGoodName x
measure_good (kind.Name y) x e h = let same : y ≡ x = cc in subst (λ w. Named w) same h
measure_good (kind.Var y) x e h = absurd cc
measure_good (kind.Number value whole one) x e h = absurd cc
measure_good (kind.Word k) x e h = absurd cc
measure_good kind.Hole x e h = absurd cc
measure_good (kind.Sign k) x e h = absurd cc

pub unit_variable_good : (k : Kind) (x : List ℕ) → unit_token k ≡ of_unit.variable x → GoodKind k → IsGoodName x
unit_variable_good (kind.Name y) x e h = absurd cc
unit_variable_good (kind.Var y) x e h = let same : y ≡ x = cc in subst (λ w. Named w) same h
unit_variable_good (kind.Number value whole one) x e h = absurd cc
unit_variable_good (kind.Word k) x e h = absurd cc
unit_variable_good kind.Hole x e h = absurd cc
unit_variable_good (kind.Sign k) x e h = absurd cc

low_enough : (m n : ℕ) → nat_le m 2147483647 ≡ true → m ≡ n → n ≤ 2147483647
low_enough m n t e = let low : m ≤ 2147483647 = grind (arith, nat_tests) in omega (arith, low, e)

power_low : (whole : Bool) (z : ℤ) (n : ℕ) → power_from whole z ≡ Some n → n ≤ 2147483647
power_low true (pos m) n e = let p = cond_some (nat_le m greatest_power) m n e in low_enough m n p.0 p.1
power_low true (negsuc m) n e = absurd cc
power_low false z n e = absurd cc

pub power_good : (k : Kind) (n : ℕ) → power_in (unit_token k) ≡ Some n → n ≤ 2147483647
power_good (kind.Name y) n e = absurd cc
power_good (kind.Var y) n e = absurd cc
power_good (kind.Number value whole text) n e = power_low whole (numerator value) n e
power_good (kind.Word k) n e = absurd cc
power_good kind.Hole n e = absurd cc
power_good (kind.Sign k) n e = absurd cc

-- ---- to types

pub type_name_good : (k : Kind) (x : List ℕ) → k ≡ kind.Name x → GoodKind k → IsGoodName x
type_name_good k x e h = subst (λ w. GoodKind w) e h

-- ---- to expressions and declarations

abbrev is_atom : ExprToken → Bool
is_atom (name x) = true
is_atom (variable x) = true
is_atom (number c) = true
is_atom (truth b) = false
is_atom hole = false
is_atom (operator sign) = false
is_atom (word k) = false
is_atom (mark s) = false

word_no_atom : (k : Keyword) → is_atom (keyword_token k) ≡ false
word_no_atom keyword.True = refl
word_no_atom _ = refl

sign_no_atom : (s : Symbol) → is_atom (symbol_token s) ≡ false
sign_no_atom symbol.Less = refl
sign_no_atom _ = refl

no_atom : (b t : ExprToken) → is_atom b ≡ false → is_atom t ≡ true → b ≡ t → ⊥
no_atom b t none atom e = false≢true (sym none ∙ ap is_atom e ∙ atom)

pub name_good : (k : Kind) (x : List ℕ) → expr_token k ≡ name x → GoodKind k → IsGoodName x
name_good (kind.Name y) x e h = let same : y ≡ x = cc in subst (λ w. Named w) same h
name_good (kind.Var y) x e h = absurd cc
name_good (kind.Number value whole one) x e h = absurd cc
name_good (kind.Word k) x e h = absurd (no_atom (keyword_token k) (name x) (word_no_atom k) refl e)
name_good kind.Hole x e h = absurd cc
name_good (kind.Sign k) x e h = absurd (no_atom (symbol_token k) (name x) (sign_no_atom k) refl e)

pub variable_good : (k : Kind) (x : List ℕ) → expr_token k ≡ variable x → GoodKind k → IsGoodName x
variable_good (kind.Name y) x e h = absurd cc
variable_good (kind.Var y) x e h = let same : y ≡ x = cc in subst (λ w. Named w) same h
variable_good (kind.Number value whole one) x e h = absurd cc
variable_good (kind.Word k) x e h = absurd (no_atom (keyword_token k) (variable x) (word_no_atom k) refl e)
variable_good kind.Hole x e h = absurd cc
variable_good (kind.Sign k) x e h = absurd (no_atom (symbol_token k) (variable x) (sign_no_atom k) refl e)

pub number_good : (k : Kind) (c : Frac) → expr_token k ≡ number c → GoodKind k → IsNatural c
number_good (kind.Name y) c e h = absurd cc
number_good (kind.Var y) c e h = absurd cc
number_good (kind.Number value whole one) c e h = let same : value ≡ c = cc in subst (λ w. IsNatural w) same h
number_good (kind.Word k) c e h = absurd (no_atom (keyword_token k) (number c) (word_no_atom k) refl e)
number_good kind.Hole c e h = absurd cc
number_good (kind.Sign k) c e h = absurd (no_atom (symbol_token k) (number c) (sign_no_atom k) refl e)
