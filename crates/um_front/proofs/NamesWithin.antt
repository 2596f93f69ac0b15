-- No name that a program declares is longer than its text: each is the letters of one of the tokens.
use Rattle.std.proofs.Common.{◌≡◌, ℕ, ◌+◌, ◌≤◌, List, [], ◌++◌, length, length-append, Ok, ap, ◌∙◌, arith}
use Rattle.std.specs.Str.{chars, encode_utf8_all}
use Rattle.std.proofs.lemmas.Str.{encodes-append, encodes-chars}
use Rattle.um_syntax.specs.declared.token.Token.{Token}
use Rattle.um_syntax.specs.Lexing.{HasTokens}
use Rattle.um_syntax.specs.Feeding.{IsTextAnswer}
use Rattle.um_syntax.proofs.TokenKinds.{KindsHold, kinds_hold}
use Rattle.um_tree.specs.ProgramTree.{ProgramTree}
use Rattle.um_tree.specs.RawTree.{DeclSyntax}
use Rattle.um_parse.specs.Parsed.{IsRead}
use Rattle.um_names.specs.Resolution.{resolved_program}
use Rattle.um_front.specs.PlaceLaws.{EachName}
use Rattle.um_front.proofs.NameTokens.{IsNamed, AllNamed}
use Rattle.um_front.proofs.DeclNames.{decls_named}
use Rattle.um_front.proofs.ProgramNames.{program_named}

module _ (n : ℕ) where
  -- at most so many bytes
  abbrev IsWithin : List ℕ → Type 0
  IsWithin bytes = length bytes ≤ n

  -- the characters take at most so many
  abbrev TakeWithin : List ℕ → Type 0
  TakeWithin cs = IsWithin (encode_utf8_all cs)

  within_parts : (xs ys : List ℕ) → TakeWithin (xs ++ ys) → TakeWithin xs × TakeWithin ys
  within_parts xs ys h =
      let whole : length (encode_utf8_all (xs ++ ys)) ≡ length (encode_utf8_all xs) + length (encode_utf8_all ys) = ap length (encodes-append xs ys) ∙ length-append (encode_utf8_all xs) (encode_utf8_all ys) in
      (omega (arith, whole, h), omega (arith, whole, h))

  kinds_within : KindsHold (IsNamed IsWithin) TakeWithin
  kinds_within = record {
    name = λ text named within. within;
    variable = λ name named within. tt;
    number = λ power n v is. tt;
    word = λ k. tt;
    hole = tt;
    sign = λ k. tt;
  }

  letters_within : (cs : List ℕ) (tokens : List Token) → TakeWithin cs → HasTokens cs tokens → AllNamed IsWithin tokens
  letters_within cs tokens within lexed = kinds_hold (IsNamed IsWithin) TakeWithin kinds_within within_parts cs tokens within lexed

pub names_within : (bytes : List ℕ) (tokens : List Token) (ds : List DeclSyntax) (p : ProgramTree) → IsTextAnswer bytes (Ok tokens) → IsRead tokens ds → resolved_program ds ≡ Ok p → EachName (λ x. length x ≤ length bytes) p
names_within bytes tokens ds p lexed read resolved =
    let n = length bytes in
    let whole : length (encode_utf8_all (chars bytes)) ≡ length bytes = ap length (encodes-chars bytes lexed.0) in
    let letters = letters_within n (chars bytes) tokens (omega (arith, whole)) lexed.1 in
    program_named (IsWithin n) ds p (decls_named (IsWithin n) ds tokens [] read.is.spelled read.is.fits letters) resolved
