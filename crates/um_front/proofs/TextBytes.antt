-- Texts as bytes: what is read from one can be resolved.
use Rattle.std.proofs.Common.{ℕ, ◌≤◌, List, length, arith}
use Rattle.std.specs.Str.{chars, IsUtf8}
use Rattle.um_syntax.specs.declared.token.Token.{Token}
use Rattle.um_syntax.specs.Lexing.{HasTokens}
use Rattle.um_syntax.proofs.TokenCounts.{chars_within}
use Rattle.um_tree.specs.RawTree.{DeclSyntax}
use Rattle.um_parse.specs.Parsed.{IsRead}
use Rattle.um_names.specs.Readable.{IsReadable}
use Rattle.um_front.proofs.Readability.{readable}

pub readable_program : (bytes : List ℕ) (tokens : List Token) (ds : List DeclSyntax) → IsUtf8 bytes → length bytes ≤ 1048576 → HasTokens (chars bytes) tokens → IsRead tokens ds → IsReadable ds
readable_program bytes tokens ds utf8 short h read =
    let within = chars_within bytes utf8 in
    readable (chars bytes) tokens ds h (omega (arith, short, within)) read
