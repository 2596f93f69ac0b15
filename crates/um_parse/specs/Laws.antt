-- What holds of the grammar of programs and of the answers of `parse`.
-- Source: this project's own.
use Rattle.std.specs.Prelude.{◌≡◌, ◌≢◌, ◌↔◌, ◌⊎◌, ℕ, Bool, true, false, List, ◌∷◌, ◌++◌, Result, Ok, Err}
use Rattle.um_syntax.specs.declared.token.Kind.{Kind}
use Rattle.um_syntax.specs.declared.token.Kind.TheVariants as kind
use Rattle.um_syntax.specs.declared.token.Token.{Token}
use Rattle.um_vocabulary.specs.declared.vocabulary.Keyword.TheVariants as keyword
use Rattle.um_vocabulary.specs.declared.vocabulary.Symbol.TheVariants as symbol
use Rattle.um_tree.specs.declared.raw.RawProgram.{RawProgram}
use Rattle.um_tree.specs.RawTree.{DeclSyntax, program_syntax}
use Rattle.um_reader.specs.Texts.{BeginsText, BeginsTextWithin}
use Rattle.um_unit_texts.specs.UnitStops.{greatest_height}
use Rattle.um_types.specs.declared.parse.ParseStop.{ParseStop}
use Rattle.um_types.specs.declared.parse.ParseStop.TheVariants as stop
use Rattle.um_parse.specs.DeclGrammar.{IsProgram}
use Rattle.um_parse.specs.ProgramHeights.{program_height}
use Rattle.um_parse.specs.Parsed.{IsRead, Parsed}

-- a list of tokens is one program at most
abbrev pub ProgramsAreUnique : Type 0
ProgramsAreUnique =
    (tokens : List Token) (ds es : List DeclSyntax) → IsProgram tokens ds → IsProgram tokens es → ds ≡ es

-- both answers are the same tree, or the same refusal at the same place, apart from want of memory
abbrev pub AreSameAnswer : Result RawProgram ParseStop → Result RawProgram ParseStop → Type 0
AreSameAnswer (Ok p) (Ok q) = program_syntax p ≡ program_syntax q
AreSameAnswer (Err stop.NoMemory) other = Unit {0}
AreSameAnswer one (Err stop.NoMemory) = Unit {0}
AreSameAnswer (Err (stop.Syntax at)) (Err (stop.Syntax place)) = at ≡ place
AreSameAnswer (Err (stop.Limit kind at)) (Err (stop.Limit other place)) = (kind ≡ other) × (at ≡ place)
AreSameAnswer one other = ⊥

-- the tokens alone decide what `parse` answers
abbrev pub AnswersAreUnique : Type 0
AnswersAreUnique =
    (tokens : List Token) (end : ℕ) (one other : Result RawProgram ParseStop) → Parsed tokens end one
    → Parsed tokens end other → AreSameAnswer one other

-- ---- that there is an answer

-- the tokens are a program within the limits, or there is a refusal of them
abbrev pub AreReadOrRefused : List Token → ℕ → Type 0
AreReadOrRefused tokens end =
    ((ds : List DeclSyntax) × IsRead tokens ds)
    ⊎ ((refusal : ParseStop) × (refusal ≢ stop.NoMemory) × Parsed tokens end (Err refusal))

-- so it is with each list of tokens
abbrev pub EachListIsAnswered : Type 0
EachListIsAnswered = (tokens : List Token) (end : ℕ) → AreReadOrRefused tokens end

-- it is decided whether tokens begin a program, and whether they are one
abbrev pub ProgramsAreDecided : Type 0
ProgramsAreDecided =
    (tokens : List Token) →
    (BeginsText IsProgram tokens ⊎ (BeginsText IsProgram tokens → ⊥))
    × (((ds : List DeclSyntax) × IsProgram tokens ds) ⊎ ((ds : List DeclSyntax) → IsProgram tokens ds → ⊥))

-- ---- the last declaration

-- a declaration begins with `let`, `type` or `[<`
abbrev pub begins_declaration : Kind → Bool
begins_declaration (kind.Word keyword.Let) = true
begins_declaration (kind.Word keyword.Type) = true
begins_declaration (kind.Sign symbol.AttributeOpen) = true
begins_declaration _ = false

-- what holds of these tokens holds of those from the declaration on
pub record IsCut (pre part : List Token) : Type 0 where
  pub begins : BeginsText IsProgram (pre ++ part) ↔ BeginsText IsProgram part
  pub within :
      BeginsTextWithin IsProgram program_height greatest_height (pre ++ part)
      → BeginsTextWithin IsProgram program_height greatest_height part
  pub whole : ((ds : List DeclSyntax) × IsProgram (pre ++ part) ds) ↔ ((ds : List DeclSyntax) × IsProgram part ds)

-- after a program a token that begins a declaration begins the next one, whatever stands in the program
abbrev pub DeclarationsAreCut : Type 0
DeclarationsAreCut =
    (pre : List Token) (ds : List DeclSyntax) (t : Token) (rest : List Token) → IsProgram pre ds
    → begins_declaration t.kind ≡ true → IsCut pre (t ∷ rest)
