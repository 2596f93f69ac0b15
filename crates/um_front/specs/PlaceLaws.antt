-- What holds of all texts and of the programs that are read from them, by the definitions alone.
use Rattle.std.specs.Prelude.{◌≡◌, ℕ, ◌≤◌, All, List, length, Ok, Err}
use Rattle.std.specs.Str.{chars, IsUtf8}
use Rattle.um_syntax.specs.declared.token.Token.{Token}
use Rattle.um_syntax.specs.declared.token.LexStop.{LexStop}
use Rattle.um_syntax.specs.Lexing.{HasTokens, HasFault}
use Rattle.um_syntax.specs.Feeding.{IsTextAnswer}
use Rattle.um_tree.specs.ProgramTree.{ProgramTree}
use Rattle.um_tree.specs.RawTree.{DeclSyntax}
use Rattle.um_types.specs.declared.parse.ParseStop.{ParseStop}
use Rattle.um_parse.specs.DeclGrammar.{IsProgram}
use Rattle.um_parse.specs.Parsed.{Parsed, IsRead}
use Rattle.um_measures.specs.declared.stop.NameStop.{NameStop}
use Rattle.um_measures.specs.Stops.{IsFirst}
use Rattle.um_names.specs.Readable.{IsReadable}
use Rattle.um_names.specs.Resolution.{resolved_program}
use Rattle.um_front.specs.Places.{IsPlace, BeginsToken, BeginsTokenOrEnds, EachPlace, EachProgramPlace}
use Rattle.um_front.specs.Places.{LexPlace, ParsePlace, NamePlace}

-- A text has no more tokens than characters.
abbrev pub TokensAreWithin : Type 0
TokensAreWithin = (cs : List ℕ) (tokens : List Token) → HasTokens cs tokens → length tokens ≤ length cs

-- What is read from a text of at most 1,048,576 characters can be resolved.
abbrev pub ReadProgramsAreReadable : Type 0
ReadProgramsAreReadable =
    (cs : List ℕ) (tokens : List Token) (ds : List DeclSyntax)
    → HasTokens cs tokens → length cs ≤ 1048576 → IsRead tokens ds → IsReadable ds

-- P holds of the name of each base unit, record, field and function
pub record EachName (P : List ℕ → Type 0) (p : ProgramTree) : Type 0 where
  pub bases : All P p.bases
  pub records : All (λ d. P d.name × All (λ f. P f.name) d.fields) p.records
  pub functions : All (λ f. P f.name) p.functions

-- No name of a program is longer than its text, in bytes.
abbrev pub NamesAreWithin : Type 0
NamesAreWithin =
    (bytes : List ℕ) (tokens : List Token) (ds : List DeclSyntax) (p : ProgramTree)
    → IsTextAnswer bytes (Ok tokens) → IsRead tokens ds → resolved_program ds ≡ Ok p
    → EachName (λ name. length name ≤ length bytes) p

-- Each node of a program stands before a character of its text.
abbrev pub NodesHavePlaces : Type 0
NodesHavePlaces =
    (bytes : List ℕ) (tokens : List Token) (ds : List DeclSyntax) (p : ProgramTree)
    → IsTextAnswer bytes (Ok tokens) → IsRead tokens ds → resolved_program ds ≡ Ok p
    → All (λ f. EachPlace (IsPlace bytes) f.body) p.functions

-- ---- where texts are refused, and where tokens begin

-- A text without tokens is refused at a character.
abbrev pub LexicalFaultsHavePlaces : Type 0
LexicalFaultsHavePlaces =
    (bytes : List ℕ) (stop : LexStop) → IsUtf8 bytes → HasFault (chars bytes) stop → LexPlace (IsPlace bytes) stop

-- Each token begins at a character of its text.
abbrev pub TokensBeginCharacters : Type 0
TokensBeginCharacters =
    (bytes : List ℕ) (tokens : List Token) (at : ℕ) → IsTextAnswer bytes (Ok tokens) → BeginsToken tokens at
    → IsPlace bytes at

-- Tokens that are no program within the limits are refused where one of them begins, or at the end.
abbrev pub SyntaxFaultsBeginTokens : Type 0
SyntaxFaultsBeginTokens =
    (tokens : List Token) (end : ℕ) (stop : ParseStop) → Parsed tokens end (Err stop)
    → ParsePlace (BeginsTokenOrEnds tokens end) stop

-- Each declared name and each node of a program has the place of a token.
abbrev pub ProgramsBeginTokens : Type 0
ProgramsBeginTokens =
    (tokens : List Token) (ds : List DeclSyntax) (p : ProgramTree) → IsProgram tokens ds → resolved_program ds ≡ Ok p
    → EachProgramPlace (BeginsToken tokens) p

-- A name that stands for nothing is refused where a token begins.
abbrev pub NameFaultsBeginTokens : Type 0
NameFaultsBeginTokens =
    (tokens : List Token) (ds : List DeclSyntax) (stop : NameStop) → IsProgram tokens ds
    → IsFirst (resolved_program ds) stop → NamePlace (BeginsToken tokens) stop
