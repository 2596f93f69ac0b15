-- Tokens that a question asks for by name.
-- Source: this project's own.
use Rattle.std.specs.Prelude.{Bool, true, false}
use Rattle.um_syntax.specs.declared.token.Kind.{Kind}
use Rattle.um_syntax.specs.declared.token.Kind.TheVariants as kind
use Rattle.um_vocabulary.specs.declared.vocabulary.Symbol.TheVariants as symbol

abbrev pub is_equal : Kind → Bool
is_equal (kind.Sign symbol.Equal) = true
is_equal _ = false

-- `<` directly after what stands before it
abbrev pub is_glued_less : Kind → Bool → Bool
is_glued_less (kind.Sign symbol.Less) glued = glued
is_glued_less _ glued = false
