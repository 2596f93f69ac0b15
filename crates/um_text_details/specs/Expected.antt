-- Which words could stand at a place, in that of a refused token or at the end: those whose token there goes on
-- beginning a program. No height is asked for.
-- Source: viable prefixes, as in Knuth, On the Translation of Languages from Left to Right.
use Rattle.std.specs.Prelude.{◌≡◌, ◌⊎◌, ℕ, Bool, true, false, List, [], ◌∷◌, ◌++◌, codes, Some, pos, ℤ}
use Rattle.std.specs.List.{All}
use Rattle.um_frac.specs.declared.number.Frac.{Frac}
use Rattle.um_frac.specs.Fraction.{reduced}
use Rattle.um_syntax.specs.declared.token.Kind.{Kind}
use Rattle.um_syntax.specs.declared.token.Kind.TheVariants as kind
use Rattle.um_syntax.specs.declared.token.Token.{Token}
use Rattle.um_syntax.specs.Lexing.{is_power_place}
use Rattle.um_reader.specs.Texts.{BeginsText}
use Rattle.um_tree.specs.RawTree.{DeclSyntax}
use Rattle.um_parse.specs.DeclGrammar.{IsProgram}
use Rattle.um_text_details.specs.declared.word.Word.{Word}
use Rattle.um_text_details.specs.declared.word.Word.TheVariants as word
use Rattle.um_text_details.specs.Words.{is_operator, operators, words}

-- the tokens before a place, where it is, and whether a token there is glued; the end is not
pub record Place : Type 0 where
  pub before : List Token
  pub at : ℕ
  pub glued : Bool

-- a token of the kind at the place
abbrev pub put_there : Place → Kind → Token
put_there p k = record { kind = k; start = p.at; end = p.at; glued = p.glued }

-- through it the tokens begin a program
abbrev pub CanStand : Place → Kind → Type 0
CanStand p k = BeginsText IsProgram (p.before ++ put_there p k ∷ [])

-- the number n / d, which is written in digits alone or not, and as the one digit 1 or not
abbrev pub NumberCanStand : Place → ℤ → ℤ → Bool → Bool → Type 0
NumberCanStand p n d digits one =
    (value : Frac) × (reduced n d ≡ Some value) × CanStand p (kind.Number value digits one)

abbrev pub FractionCanStand : Place → Type 0
FractionCanStand p = NumberCanStand p (pos 5) (pos 2) false false

abbrev pub TwoCanStand : Place → Type 0
TwoCanStand p = NumberCanStand p (pos 2) (pos 1) true false

abbrev pub OneCanStand : Place → Type 0
OneCanStand p = NumberCanStand p (pos 1) (pos 1) true true

-- after `^` or `^ -` a number is a power, and the power 2 alone is tried
abbrev pub IsPower : Place → Type 0
IsPower p = is_power_place p.before ≡ true

abbrev pub AllOperatorsStand : Place → Type 0
AllOperatorsStand p = All (λ s. CanStand p (kind.Sign s)) operators

-- the tokens before the place are a program
abbrev pub IsWhole : Place → Type 0
IsWhole p = (ds : List DeclSyntax) × IsProgram p.before ds

-- the word is told
abbrev pub IsExpected : Place → Word → Type 0
IsExpected p word.Name = CanStand p (kind.Name (codes "a"))
IsExpected p word.Variable = CanStand p (kind.Var (codes "a"))
IsExpected p word.Hole = CanStand p kind.Hole
IsExpected p word.Number = (IsPower p → ⊥) × FractionCanStand p
IsExpected p word.Whole = (FractionCanStand p → IsPower p) × TwoCanStand p
IsExpected p word.One =
    (IsPower p → ⊥) × (FractionCanStand p → ⊥) × (TwoCanStand p → ⊥) × OneCanStand p
IsExpected p (word.Keyword k) = CanStand p (kind.Word k)
IsExpected p word.Operator = AllOperatorsStand p
IsExpected p (word.Sign s) = (AllOperatorsStand p → is_operator s ≡ false) × CanStand p (kind.Sign s)
IsExpected p word.End = IsWhole p

-- of these words those of which this holds are chosen, in order
abbrev pub AreChosen : (Word → Type 0) → List Word → List Word → Type 0
AreChosen Is [] chosen = chosen ≡ []
AreChosen Is (w ∷ ws) chosen =
    (Is w × (more : List Word) × (chosen ≡ w ∷ more) × AreChosen Is ws more)
    ⊎ ((Is w → ⊥) × AreChosen Is ws chosen)

-- of all words those that are told, in order
abbrev pub AreExpected : Place → List Word → Type 0
AreExpected p told = AreChosen (IsExpected p) words told
