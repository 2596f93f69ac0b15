-- What expected words come to. The definitions do not rest on this.
-- Source: this project's own.
use Rattle.std.specs.Prelude.{◌≡◌, ◌⊎◌, ◌↔◌, true, List, Contains, codes}
use Rattle.um_syntax.specs.declared.token.Kind.TheVariants as kind
use Rattle.um_vocabulary.specs.declared.vocabulary.Keyword.{Keyword}
use Rattle.um_vocabulary.specs.declared.vocabulary.Symbol.{Symbol}
use Rattle.um_text_details.specs.declared.word.Word.{Word}
use Rattle.um_text_details.specs.declared.word.Word.TheVariants as word
use Rattle.um_text_details.specs.Words.{is_operator}
use Rattle.um_text_details.specs.Expected.{Place, CanStand, IsWhole, AreExpected}

-- the words of a place are told exactly if they can stand there
pub record TellsWhatCanStand (p : Place) (told : List Word) : Type 0 where
  pub name : Contains told word.Name ↔ CanStand p (kind.Name (codes "a"))
  pub variable : Contains told word.Variable ↔ CanStand p (kind.Var (codes "a"))
  pub hole : Contains told word.Hole ↔ CanStand p kind.Hole
  pub keyword : (k : Keyword) → Contains told (word.Keyword k) ↔ CanStand p (kind.Word k)
  -- a sign by itself, or by the word for all operators
  pub sign : (s : Symbol) → (Contains told (word.Sign s) ⊎ ((is_operator s ≡ true) × Contains told word.Operator))
      ↔ CanStand p (kind.Sign s)
  pub end : Contains told word.End ↔ IsWhole p

abbrev pub WordsAreToldIfTheyStand : Type 0
WordsAreToldIfTheyStand = (p : Place) (told : List Word) → AreExpected p told → TellsWhatCanStand p told

-- there is one list of them
abbrev pub ExpectedWordsAreUnique : Type 0
ExpectedWordsAreUnique =
    (p : Place) (told other : List Word) → AreExpected p told → AreExpected p other → told ≡ other
