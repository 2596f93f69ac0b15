-- What a text that is being read stands for.
-- Source: this project's own.
use Rattle.std.specs.Prelude.{◌≡◌, ℕ, List, length, Option, Some, None}
use Rattle.um_syntax.specs.declared.feed.Lexer.{Lexer}
use Rattle.um_syntax.specs.Feeding.{Stands, fed_of}

-- the lexer was fed these bytes; after want of memory there is none
abbrev pub Follows : List ℕ → Option Lexer → Type 0
Follows bytes None = Unit {0}
Follows bytes (Some lexer) = Stands lexer bytes × (fed_of lexer ≡ length bytes)
