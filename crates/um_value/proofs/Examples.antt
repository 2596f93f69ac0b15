-- Value texts on which the definitions are tried.
use Rattle.std.proofs.Common.{◌≡◌, ℕ, Bool, true, false, List, [], ◌∷◌, pos, Option, Some, None, refl, arith}
use Rattle.std.proofs.lemmas.Int.{ints}
use Rattle.um_frac.specs.declared.number.Frac.{Frac}
use Rattle.um_frac.proofs.Gcd.{gcd-one}
use Rattle.um_units.specs.PowerMap.{PowerMap}
use Rattle.um_syntax.specs.declared.token.Token.{Token}
use Rattle.um_syntax.specs.declared.token.Kind.{Kind}
use Rattle.um_syntax.specs.declared.token.Kind.TheVariants as kind
use Rattle.um_vocabulary.specs.declared.vocabulary.Symbol.TheVariants as symbol
use Rattle.um_tree.specs.RawTree.{hole_syntax, unit_note_syntax, measure_syntax}
use Rattle.um_tree.specs.TypeTree.{num_shape, list_shape}
use Rattle.um_reader.specs.Machine.{reached}
use Rattle.um_value.specs.ValueSyntax.{raw_number, raw_list, raw_none, raw_more}
use Rattle.um_value.specs.ValueGrammar.{IsValueText}
use Rattle.um_value.specs.ValueNames.{name_fault}
use Rattle.um_value.specs.ValueMachine.{NoValue, value_finish, machine_of_values}

abbrev one_number : Frac
one_number = record { num = pos 1; den = pos 1; positive = omega (arith, ints); den_fits = omega (arith, ints); above = omega (arith, ints); num_fits = omega (arith, ints); lowest = gcd-one 1 }

abbrev token : Kind → ℕ → Bool → Token
token k at glued = record { kind = k; start = at; end = at; glued = glued }

abbrev one_at : ℕ → Token
one_at at = token (kind.Number one_number true true) at true

-- no measure is known
abbrev none_known : List ℕ → Option PowerMap
none_known x = None

-- `[]` and `[1; 1]` are lists of numbers
empty_list : IsValueText [] (list_shape num_shape) (token (kind.Sign symbol.LeftBracket) 0 false ∷ token (kind.Sign symbol.RightBracket) 1 true ∷ []) (raw_list raw_none)
empty_list = (num_shape, token (kind.Sign symbol.RightBracket) 1 true ∷ [], refl, (token (kind.Sign symbol.LeftBracket) 0 false, refl, refl), (token (kind.Sign symbol.RightBracket) 1 true, refl, refl))

two_items : value_finish (reached (machine_of_values [] (list_shape num_shape)) (token (kind.Sign symbol.LeftBracket) 0 false ∷ one_at 1 ∷ token (kind.Sign symbol.Semicolon) 2 true ∷ one_at 4 ∷ token (kind.Sign symbol.RightBracket) 5 true ∷ []))
    ≡ Some (raw_list (raw_more (raw_number 1 false one_number None) (raw_more (raw_number 4 false one_number None) raw_none)))
two_items = refl

-- behind `;` an item is wanted, and a `<` that isn't glued stands behind no number
no_item : reached (machine_of_values [] (list_shape num_shape)) (token (kind.Sign symbol.LeftBracket) 0 false ∷ one_at 1 ∷ token (kind.Sign symbol.Semicolon) 2 true ∷ token (kind.Sign symbol.RightBracket) 3 true ∷ []) ≡ NoValue
no_item = refl

apart : reached (machine_of_values [] num_shape) (one_at 0 ∷ token (kind.Sign symbol.Less) 2 false ∷ []) ≡ NoValue
apart = refl

-- `-1<_>`: the fault stands at the number
hole_at_number : name_fault none_known (raw_number 1 true one_number (Some (hole_syntax 3))) ≡ Some 1
hole_at_number = refl

-- `[1<_>; 1<q>]`: the earlier one comes first
first_fault : name_fault none_known (raw_list (raw_more (raw_number 1 false one_number (Some (hole_syntax 3))) (raw_more (raw_number 7 false one_number (Some (unit_note_syntax 9 (measure_syntax 9 (113 ∷ []))))) raw_none))) ≡ Some 1
first_fault = refl
