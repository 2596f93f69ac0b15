-- The tokens of a text in which numbers before units are printed anew.
-- Source: this project's own.
use Rattle.std.specs.Prelude.{◌≡◌, ℕ, Bool, false, List, [], ◌∷◌, ◌++◌, slice_get, Option, Some, None}
use Rattle.um_frac.specs.declared.number.Frac.{Frac}
use Rattle.um_syntax.specs.declared.token.Kind.{Kind}
use Rattle.um_syntax.specs.declared.token.Kind.TheVariants as kind
use Rattle.um_syntax.specs.declared.token.Token.{Token}
use Rattle.um_syntax.specs.Lexing.{is_power_place}
use Rattle.um_scale.specs.RescaledText.{opens_unit, new_number}

-- the second kind is that of the number that was printed, or the first one if none was
abbrev pub HasKind : Option Frac → Kind → Kind → Type 0
HasKind None k j = j ≡ k
HasKind (Some c) k j = (digits one : Bool) × (j ≡ kind.Number c digits one)

-- Token by token, the kind is the same, but for a number that is printed anew. Each token follows the one before it
-- directly exactly if it did.
abbrev pub AreRespelled : (ℕ → Option Frac) → List Token → List Token → Type 0
AreRespelled numbers [] [] = Unit {0}
AreRespelled numbers (t ∷ ts) (u ∷ us) =
    HasKind (new_number numbers t (opens_unit (slice_get ts 0))) t.kind u.kind × (u.glued ≡ t.glued)
    × AreRespelled numbers ts us
AreRespelled numbers ts us = ⊥

-- after the tokens before, none that gets a number of the table is a power
abbrev pub NoPowers : (ℕ → Option Frac) → List Token → List Token → Type 0
NoPowers numbers before [] = Unit {0}
NoPowers numbers before (t ∷ ts) =
    ((c : Frac) → new_number numbers t (opens_unit (slice_get ts 0)) ≡ Some c → is_power_place before ≡ false)
    × NoPowers numbers (before ++ t ∷ []) ts
