-- The laws of expected words.
use Rattle.std.proofs.Common.{◌≡◌, ◌⊎◌, inl, inr, true, false, Bool, List, length, refl, arith}
use Rattle.std.specs.List.{Contains}
use Rattle.um_syntax.specs.declared.token.Kind.TheVariants as kind
use Rattle.um_vocabulary.specs.declared.vocabulary.Keyword.TheVariants as keyword
use Rattle.um_vocabulary.specs.declared.vocabulary.Symbol.{Symbol}
use Rattle.um_vocabulary.specs.declared.vocabulary.Symbol.TheVariants as symbol
use Rattle.um_text_details.specs.declared.word.Word.{Word}
use Rattle.um_text_details.specs.declared.word.Word.TheVariants as word
use Rattle.um_text_details.specs.Words.{is_operator, operators, words}
use Rattle.um_text_details.specs.Expected.{Place, CanStand, AllOperatorsStand, AreExpected, IsExpected}
use Rattle.um_text_details.specs.Laws.{ExpectedWordsAreUnique, WordsAreToldIfTheyStand}
use Rattle.um_text_details.proofs.WordLists.{one_choice, chosen_is, chosen_or_not, is_chosen}

pub expected_words_are_unique : ExpectedWordsAreUnique
expected_words_are_unique p told other a b = one_choice (IsExpected p) words told other a b

-- ---- every word is one of the words

count : length words ≡ 51
count = refl

is_word : (w : Word) → Contains words w
is_word word.Name = (0, omega (arith, count), refl)
is_word word.Variable = (1, omega (arith, count), refl)
is_word word.Hole = (2, omega (arith, count), refl)
is_word word.Number = (3, omega (arith, count), refl)
is_word word.Whole = (4, omega (arith, count), refl)
is_word word.One = (5, omega (arith, count), refl)
is_word (word.Keyword keyword.Let) = (6, omega (arith, count), refl)
is_word (word.Keyword keyword.Rec) = (7, omega (arith, count), refl)
is_word (word.Keyword keyword.In) = (8, omega (arith, count), refl)
is_word (word.Keyword keyword.If) = (9, omega (arith, count), refl)
is_word (word.Keyword keyword.Then) = (10, omega (arith, count), refl)
is_word (word.Keyword keyword.Else) = (11, omega (arith, count), refl)
is_word (word.Keyword keyword.Match) = (12, omega (arith, count), refl)
is_word (word.Keyword keyword.With) = (13, omega (arith, count), refl)
is_word (word.Keyword keyword.Type) = (14, omega (arith, count), refl)
is_word (word.Keyword keyword.True) = (15, omega (arith, count), refl)
is_word (word.Keyword keyword.False) = (16, omega (arith, count), refl)
is_word (word.Keyword keyword.Not) = (17, omega (arith, count), refl)
is_word (word.Keyword keyword.Num) = (18, omega (arith, count), refl)
is_word (word.Keyword keyword.Bool) = (19, omega (arith, count), refl)
is_word (word.Keyword keyword.List) = (20, omega (arith, count), refl)
is_word (word.Keyword keyword.Measure) = (21, omega (arith, count), refl)
is_word (word.Keyword keyword.Pown) = (22, omega (arith, count), refl)
is_word word.Operator = (23, omega (arith, count), refl)
is_word (word.Sign symbol.LeftParen) = (24, omega (arith, count), refl)
is_word (word.Sign symbol.RightParen) = (25, omega (arith, count), refl)
is_word (word.Sign symbol.LeftBracket) = (26, omega (arith, count), refl)
is_word (word.Sign symbol.RightBracket) = (27, omega (arith, count), refl)
is_word (word.Sign symbol.LeftBrace) = (28, omega (arith, count), refl)
is_word (word.Sign symbol.RightBrace) = (29, omega (arith, count), refl)
is_word (word.Sign symbol.AttributeOpen) = (30, omega (arith, count), refl)
is_word (word.Sign symbol.Less) = (31, omega (arith, count), refl)
is_word (word.Sign symbol.Greater) = (32, omega (arith, count), refl)
is_word (word.Sign symbol.Equal) = (33, omega (arith, count), refl)
is_word (word.Sign symbol.LessEqual) = (34, omega (arith, count), refl)
is_word (word.Sign symbol.NotEqual) = (35, omega (arith, count), refl)
is_word (word.Sign symbol.Plus) = (36, omega (arith, count), refl)
is_word (word.Sign symbol.Minus) = (37, omega (arith, count), refl)
is_word (word.Sign symbol.Star) = (38, omega (arith, count), refl)
is_word (word.Sign symbol.Slash) = (39, omega (arith, count), refl)
is_word (word.Sign symbol.Caret) = (40, omega (arith, count), refl)
is_word (word.Sign symbol.Semicolon) = (41, omega (arith, count), refl)
is_word (word.Sign symbol.Colon) = (42, omega (arith, count), refl)
is_word (word.Sign symbol.ColonColon) = (43, omega (arith, count), refl)
is_word (word.Sign symbol.Comma) = (44, omega (arith, count), refl)
is_word (word.Sign symbol.Dot) = (45, omega (arith, count), refl)
is_word (word.Sign symbol.Bar) = (46, omega (arith, count), refl)
is_word (word.Sign symbol.BarBar) = (47, omega (arith, count), refl)
is_word (word.Sign symbol.AndAnd) = (48, omega (arith, count), refl)
is_word (word.Sign symbol.Arrow) = (49, omega (arith, count), refl)
is_word word.End = (50, omega (arith, count), refl)

-- ---- each operator is one of the operators

twelve : length operators ≡ 12
twelve = refl

clash : false ≡ true → ⊥
clash e = cc

operator_stands : (p : Place) (s : Symbol) → AllOperatorsStand p → is_operator s ≡ true → CanStand p (kind.Sign s)
operator_stands p symbol.LeftParen all e = absurd (clash e)
operator_stands p symbol.RightParen all e = absurd (clash e)
operator_stands p symbol.LeftBracket all e = absurd (clash e)
operator_stands p symbol.RightBracket all e = absurd (clash e)
operator_stands p symbol.LeftBrace all e = absurd (clash e)
operator_stands p symbol.RightBrace all e = absurd (clash e)
operator_stands p symbol.AttributeOpen all e = absurd (clash e)
operator_stands p symbol.Less all e = all 0 symbol.Less (omega (arith, twelve))
operator_stands p symbol.Greater all e = all 1 symbol.Greater (omega (arith, twelve))
operator_stands p symbol.Equal all e = all 2 symbol.Equal (omega (arith, twelve))
operator_stands p symbol.LessEqual all e = all 3 symbol.LessEqual (omega (arith, twelve))
operator_stands p symbol.NotEqual all e = all 4 symbol.NotEqual (omega (arith, twelve))
operator_stands p symbol.Plus all e = all 5 symbol.Plus (omega (arith, twelve))
operator_stands p symbol.Minus all e = all 6 symbol.Minus (omega (arith, twelve))
operator_stands p symbol.Star all e = all 7 symbol.Star (omega (arith, twelve))
operator_stands p symbol.Slash all e = all 8 symbol.Slash (omega (arith, twelve))
operator_stands p symbol.Caret all e = absurd (clash e)
operator_stands p symbol.Semicolon all e = absurd (clash e)
operator_stands p symbol.Colon all e = absurd (clash e)
operator_stands p symbol.ColonColon all e = all 9 symbol.ColonColon (omega (arith, twelve))
operator_stands p symbol.Comma all e = absurd (clash e)
operator_stands p symbol.Dot all e = absurd (clash e)
operator_stands p symbol.Bar all e = absurd (clash e)
operator_stands p symbol.BarBar all e = all 10 symbol.BarBar (omega (arith, twelve))
operator_stands p symbol.AndAnd all e = all 11 symbol.AndAnd (omega (arith, twelve))
operator_stands p symbol.Arrow all e = absurd (clash e)

-- ---- what is told of a place

module _ (p : Place) (told : List Word) (e : AreExpected p told) where
  right : (w : Word) → Contains told w → IsExpected p w
  right w m = chosen_is (IsExpected p) words told w e m

  is_told : (w : Word) → IsExpected p w → Contains told w
  is_told w is = is_chosen (IsExpected p) words told w e (is_word w) is

  abbrev pub Tells : Symbol → Type 0
  Tells s = Contains told (word.Sign s) ⊎ ((is_operator s ≡ true) × Contains told word.Operator)

  sign_stands : (s : Symbol) → Tells s → CanStand p (kind.Sign s)
  sign_stands s (inl m) = (right (word.Sign s) m).1
  sign_stands s (inr m) = operator_stands p s (right word.Operator m.1) m.0

  told_if : (s : Symbol) (b : Bool) → is_operator s ≡ b → Contains told word.Operator → CanStand p (kind.Sign s) → Tells s
  told_if s true o m stands = inr (o, m)
  told_if s false o m stands = inl (is_told (word.Sign s) ((λ all. o), stands))

  sign_is_told : (s : Symbol) → CanStand p (kind.Sign s) → Tells s
  sign_is_told s stands =
      elim (chosen_or_not (IsExpected p) words told word.Operator e (is_word word.Operator)) [
        | inl m ↦ told_if s (is_operator s) refl m stands
        | inr isnt ↦ inl (is_told (word.Sign s) ((λ all. absurd (isnt all)), stands))
      ]

pub words_are_told : WordsAreToldIfTheyStand
words_are_told p told e =
    record {
      name = (right p told e word.Name, is_told p told e word.Name);
      variable = (right p told e word.Variable, is_told p told e word.Variable);
      hole = (right p told e word.Hole, is_told p told e word.Hole);
      keyword = λ k. (right p told e (word.Keyword k), is_told p told e (word.Keyword k));
      sign = λ s. (sign_stands p told e s, sign_is_told p told e s);
      end = (right p told e word.End, is_told p told e word.End);
    }
