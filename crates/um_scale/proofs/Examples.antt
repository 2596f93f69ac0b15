-- Small factors, misfits, inputs and texts: each is as expected, and a swapped case would give another one.
use Rattle.std.proofs.Common.{◌≡◌, refl, ℕ, ◌+◌, true, false, List, [], ◌∷◌, ◌++◌, map, codes, ℤ, pos, Option, Some, None, arith}
use Rattle.um_frac.specs.declared.number.Frac.{Frac}
use Rattle.um_frac.specs.Gcd.{gcd}
use Rattle.um_frac.specs.Fraction.{numerator, denominator, fraction, divided, reduced}
use Rattle.um_frac.specs.Arithmetic.{product_of, whole_power_of}
use Rattle.um_units.specs.declared.Atom.TheVariants.{Base, Var}
use Rattle.um_units.specs.PowerMap.{PowerMap, product, atom, mul, pow, inv}
use Rattle.um_tree.specs.declared.note.UnitNote.{UnitNote}
use Rattle.um_tree.specs.declared.note.UnitNote.TheVariants.{Hole, Written}
use Rattle.um_tree.specs.declared.expression.Arith.TheVariants.{Add}
use Rattle.um_tree.specs.ExprTree.{number, arith as arith_tree}
use Rattle.um_tree.specs.ValueTree.{InputTree, truth_input, number_input, list_input, record_input, no_inputs, more_inputs}
use Rattle.um_tree.proofs.ExamplePrograms.{whole, zero_number, one_number, metre, second}
use Rattle.um_syntax.specs.declared.token.Token.{Token}
use Rattle.um_syntax.specs.declared.token.Kind.TheVariants as kind
use Rattle.um_vocabulary.specs.declared.vocabulary.Symbol.{Symbol}
use Rattle.um_vocabulary.specs.declared.vocabulary.Symbol.TheVariants as symbol
use Rattle.um_show.specs.NumberText.{number_text}
use Rattle.um_scale.specs.Sizes.{factor_within}
use Rattle.um_scale.specs.RescaledLiterals.{misfit}
use Rattle.um_scale.specs.RescaledInputs.{input_numbers, input_misfit, rescaled_input}
use Rattle.um_scale.specs.RescaledText.{literals, literal_at, respelled}

abbrev parts : Option Frac → Option (ℤ × ℤ)
parts None = None
parts (Some c) = Some (numerator c, denominator c)

-- three of the new metres make an old one, and two of the new seconds
abbrev scales : List Frac
scales = whole 3 (omega arith) ∷ whole 2 (omega arith) ∷ []

abbrev large : List Frac
large = whole 1000000 (omega arith) ∷ []

-- 3 / 2^2, and not 3 * 2^2
of_acceleration : parts (factor_within scales (mul metre (inv (mul second second)))) ≡ Some (pos 3, pos 4)
unfolding product product_of whole_power_of reduced divided fraction gcd
of_acceleration = refl

-- a variable, and a base unit behind the last scale, keep 1
of_variable : parts (factor_within scales (mul metre (atom (Var 0)))) ≡ Some (pos 3, pos 1)
unfolding product product_of whole_power_of reduced divided fraction gcd
of_variable = refl

of_other : parts (factor_within scales (atom (Base 2))) ≡ Some (pos 1, pos 1)
unfolding product product_of whole_power_of reduced divided fraction gcd
of_other = refl

-- a power out of range
abbrev fourth : PowerMap
fourth = pow metre (pos 4)

out_of_range : parts (factor_within large fourth) ≡ None
unfolding product product_of whole_power_of reduced divided fraction gcd
out_of_range = refl

-- the first of two misfits is told, and a zero with a hole is none
two_misfits : misfit large (arith_tree 4 Add (number 1 one_number (Written fourth)) (number 9 one_number (Written fourth))) ≡ Some 1
unfolding product product_of whole_power_of reduced divided fraction gcd
two_misfits = refl

second_misfit : misfit large (arith_tree 4 Add (number 1 zero_number Hole) (number 9 one_number (Written fourth))) ≡ Some 9
unfolding product product_of whole_power_of reduced divided fraction gcd
second_misfit = refl

-- ---- inputs: numbers are counted through lists and records, and the first misfit is told
abbrev fits : InputTree
fits = number_input one_number (Written metre)

abbrev too_large : InputTree
too_large = number_input one_number (Written fourth)

second_number : input_misfit large (record_input 0 (more_inputs (list_input (more_inputs (truth_input true) (more_inputs fits no_inputs))) (more_inputs too_large (more_inputs too_large no_inputs)))) ≡ Some 1
unfolding product product_of whole_power_of reduced divided fraction gcd
second_number = refl

no_number : input_misfit large (list_input (more_inputs fits (more_inputs (number_input zero_number Hole) no_inputs))) ≡ None
unfolding product product_of whole_power_of reduced divided fraction gcd
no_number = refl

abbrev number_parts : Frac × UnitNote → ℤ × ℤ
number_parts x = (numerator x.0, denominator x.0)

-- 1 old metre is 3 new ones, and a zero with a hole stays
rescaled_numbers : map number_parts (input_numbers (rescaled_input scales (list_input (more_inputs fits (more_inputs (number_input zero_number Hole) no_inputs))))) ≡ (pos 3, pos 1) ∷ (pos 0, pos 1) ∷ []
unfolding product product_of whole_power_of reduced divided fraction gcd
rescaled_numbers = refl

-- ---- texts: literals in the order of the text, without those that have a hole
abbrev three : Frac
three = whole 3 (omega arith)

two_literals : literals (arith_tree 4 Add (number 0 one_number (Written metre)) (arith_tree 8 Add (number 5 zero_number Hole) (number 9 three (Written metre)))) ≡ (0, one_number) ∷ (9, three) ∷ []
two_literals = refl

-- 1<m>+1: the number with a unit is printed anew, and the one without keeps its spelling
abbrev bytes : List ℕ
bytes = codes "1<m>+1"

abbrev sign : Symbol → ℕ → Token
sign k start = record { kind = kind.Sign k; start = start; end = start + 1; glued = true }

abbrev one_at : ℕ → Token
one_at start = record { kind = kind.Number one_number true true; start = start; end = start + 1; glued = true }

abbrev name_at : ℕ → Token
name_at start = record { kind = kind.Name (codes "m"); start = start; end = start + 1; glued = true }

abbrev tokens : List Token
tokens = one_at 0 ∷ sign symbol.Less 1 ∷ name_at 2 ∷ sign symbol.Greater 3 ∷ sign symbol.Plus 4 ∷ one_at 5 ∷ []

respelled_once : respelled bytes (literal_at ((0, three) ∷ (5, three) ∷ [])) 0 tokens ≡ number_text three ++ codes "<m>+1"
respelled_once = refl

-- 1 <m: what stands behind a space opens no unit
abbrev spaced : List Token
spaced = one_at 0 ∷ record { kind = kind.Sign symbol.Less; start = 2; end = 3; glued = false } ∷ name_at 3 ∷ []

left_alone : respelled (codes "1 <m") (literal_at ((0, three) ∷ [])) 0 spaced ≡ codes "1 <m"
left_alone = refl
