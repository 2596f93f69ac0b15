-- What is told, by computation of the definitions: of `x + 1<m>`, then `y + 1<s>`, then `x + y`.
use Rattle.std.proofs.Common.{◌≡◌, ℕ, ℤ, pos, negsuc, false, List, [], ◌∷◌, map, codes, Option, Some, None, refl}
use Rattle.um_units.specs.declared.Atom.TheVariants.{Base, Var}
use Rattle.um_units.specs.declared.Term.{Term}
use Rattle.um_units.specs.PowerMap.{product}
use Rattle.um_tree.specs.TypeTree.{num_type}
use Rattle.um_equal_types.specs.declared.row.Row.{Row}
use Rattle.um_agree.specs.declared.rule.Rule.TheVariants as asks
use Rattle.um_agree.specs.Agreements.{Agreement}
use Rattle.um_unit_reasons.specs.declared.reason.Told.{Told}
use Rattle.um_unit_reasons.specs.VariableNames.{letter, letters}
use Rattle.um_unit_reasons.specs.UnitReasons.{UnitReason, told_of, out_of_range, Refusal, core_reason}

-- ---- letters: a name is passed over
first_letters : letters (codes "a" ∷ []) 2 ≡ codes "b" ∷ codes "c" ∷ []
first_letters = refl

last_letter : letter 25 ≡ codes "z"
last_letter = refl

-- ---- the agreements that are told: rows 0 and 1 are of the first, row 2 is of the second, and the last is the third
abbrev metre : ℤ → Term
metre k = record { atom = Base 0; power = k }

abbrev second : ℤ → Term
second k = record { atom = Base 1; power = k }

abbrev x : ℤ → Term
x k = record { atom = Var 0; power = k }

abbrev y : ℤ → Term
y k = record { atom = Var 1; power = k }

abbrev sum : ℕ → Term → Term → Agreement
sum at s t = record { rule = asks.Sum; at = at; first = num_type (product (s ∷ [])); second = num_type (product (t ∷ [])) }

abbrev row : ℕ → Term → Term → Row
row at s t = record { unit = product (s ∷ t ∷ []); at = at }

abbrev example : List (List ℕ) → (ℕ → Option ℕ) → Refusal
example names slot_of = record {
  program = record { bases = codes "m" ∷ codes "s" ∷ []; records = []; functions = [] };
  names = names;
  slot_of = slot_of;
  slots = 2;
  agreed = sum 70 (x (pos 1)) (metre (pos 1)) ∷ sum 80 (y (pos 1)) (second (pos 1)) ∷ sum 90 (x (pos 1)) (y (pos 1)) ∷ [];
  rows = row 70 (x (pos 1)) (metre (negsuc 0)) ∷ row 80 (y (pos 1)) (second (negsuc 0)) ∷ row 90 (x (pos 1)) (y (negsuc 0)) ∷ [];
  parameters = 0;
}

abbrev texts : UnitReason → List (ℕ × List ℕ × List ℕ)
texts (told_of told factor cut_off) = map (λ (t : Told). (t.at, t.first, t.second)) told
texts out_of_range = []

sums : texts (core_reason (example [] (λ v. None)) (2 ∷ 1 ∷ 0 ∷ []) false)
    ≡ (90, codes "num<m>", codes "num<s>") ∷ (70, codes "num<'a>", codes "num<m>") ∷ (80, codes "num<'b>", codes "num<s>") ∷ []
unfolding product
sums = refl

-- a named variable has its name in the other agreements
named_sums : texts (core_reason (example (codes "a" ∷ []) (λ v. Some 1)) (2 ∷ 1 ∷ 0 ∷ []) false)
    ≡ (90, codes "num<m>", codes "num<s>") ∷ (70, codes "num<'b>", codes "num<m>") ∷ (80, codes "num<'a>", codes "num<s>") ∷ []
unfolding product
named_sums = refl

-- one that is open in the agreement that fails has a letter of its own
open_sum : texts (core_reason (example [] (λ v. None)) (2 ∷ 0 ∷ []) false)
    ≡ (90, codes "num<m>", codes "num<'a>") ∷ (70, codes "num<'b>", codes "num<m>") ∷ []
unfolding product
open_sum = refl
