-- Blocks of tokens.
use Rattle.std.specs.Prelude.{◌≡◌, List, [], ◌∷◌, ◌++◌, length}
use Rattle.std.specs.Global.{Vec}
use Rattle.um_syntax.specs.declared.token.Token.{Token}

-- the tokens of the blocks, in their order
abbrev pub joined : List (Vec Token) → List Token
joined [] = []
joined (block ∷ blocks) = block.items ++ joined blocks

-- each of the blocks has 256 tokens
abbrev pub AreWhole : List (Vec Token) → Type 0
AreWhole [] = Unit {0}
AreWhole (block ∷ blocks) = (length block.items ≡ 256) × AreWhole blocks
