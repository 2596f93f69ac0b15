-- Small certificates, by computation of the definitions.
use Rattle.std.proofs.Common.{◌≡◌, ◌≢◌, ℕ, ◌<◌, true, false, List, [], ◌∷◌, map, length, ℤ, pos, negsuc, refl, ap, subst, ◌∙◌, sym, arith}
use Rattle.std.specs.Prelude.{All}
use Rattle.std.proofs.lemmas.Int.{ints}
use Rattle.std.proofs.lemmas.List.Elements.{All-nil, All-cons, All-head}
use Rattle.um_units.specs.declared.Atom.{Atom}
use Rattle.um_units.specs.declared.Atom.TheVariants.{Base, Var}
use Rattle.um_units.specs.declared.Term.{Term}
use Rattle.um_units.specs.PowerMap.{PowerMap, power_of, product, one, atom, pow, replace, nth}
use Rattle.um_units.proofs.Group.{power_of-atom}
use Rattle.um_tree.specs.ProgramTree.{Signature, SchemeTree}
use Rattle.um_tree.specs.Formed.{BasesBelow}
use Rattle.um_check.specs.declared.certificate.Part.{Part}
use Rattle.um_check.specs.declared.certificate.Yes.{Yes}
use Rattle.um_check.specs.Combination.{combined}
use Rattle.um_check.specs.Validity.{returned, IsValidYes}
use Rattle.um_check.specs.Refutation.{rigid_rows}
use Rattle.um_check.specs.Tidy.{AreTidyParts, IsTidyYes}
use Rattle.um_check.specs.Tests.{divides}

abbrev power : Atom → ℤ → Term
power x k = record { atom = x; power = k }

abbrev a : ℤ → Term
a k = power (Var 0) k

abbrev b : ℤ → Term
b k = power (Var 1) k

abbrev metre : ℤ → Term
metre k = power (Base 0) k

abbrev unit : List Term → PowerMap
unit = product

-- ---- a^2 = b^3: the solution /'a^3, /'a^2, back by a/b^2, and the rows to the powers -2 and -1
abbrev rows : List PowerMap
rows = unit (a (pos 2) ∷ b (negsuc 2) ∷ []) ∷ []

abbrev solution : List PowerMap
solution = unit (a (negsuc 2) ∷ []) ∷ unit (a (negsuc 1) ∷ []) ∷ []

abbrev back : List PowerMap
back = unit (a (pos 1) ∷ b (negsuc 1) ∷ []) ∷ []

solves : (replace (nth solution) (nth rows 0)).terms ≡ []
unfolding product
solves = refl

-- each slot comes back
first_slot : (pow (returned solution back 0) (pos 1)).terms ≡ (combined rows (record { row = 0; times = negsuc 1 } ∷ [])).terms
unfolding product
first_slot = refl

second_slot : (pow (returned solution back 1) (pos 1)).terms ≡ (combined rows (record { row = 0; times = negsuc 0 } ∷ [])).terms
unfolding product
second_slot = refl

-- by other powers it doesn't: the first slot over the row is a^-4 b^6
first_slot_by_one : (combined rows (record { row = 0; times = negsuc 1 } ∷ [])).terms ≡ a (negsuc 3) ∷ b (pos 6) ∷ []
unfolding product
first_slot_by_one = refl

-- a solution that is less general, 1 and 1, solves the row too, but no `back` makes a of it
less_general : (replace (nth (one ∷ one ∷ [])) (nth rows 0)).terms ≡ []
unfolding product
less_general = refl

-- ---- a^2 = m: modulo 2 the row has a power at m alone, and modulo 3 the slot's power is no multiple
abbrev half_rows : List PowerMap
half_rows = unit (metre (negsuc 0) ∷ a (pos 2) ∷ []) ∷ []

half : (combined half_rows (record { row = 0; times = pos 1 } ∷ [])).terms ≡ metre (negsuc 0) ∷ a (pos 2) ∷ []
unfolding product
half = refl

two_divides : divides (pos 2) (pos 2) ≡ true
two_divides = refl

two_leaves_base : divides (pos 2) (negsuc 0) ≡ false
two_leaves_base = refl

three_leaves_slot : divides (pos 3) (pos 2) ≡ false
three_leaves_slot = refl

-- 0 is a multiple of each number, and each number of 1
zero_divided : divides (pos 5) (pos 0) ≡ true
zero_divided = refl

one_divides : divides (pos 1) (negsuc 6) ≡ true
one_divides = refl

-- ---- a = m with a unit parameter for a, which is the base unit 1 behind the one that is declared
abbrev parameter_rows : List PowerMap
parameter_rows = unit (metre (negsuc 0) ∷ a (pos 1) ∷ []) ∷ []

parameter_fixed : map (λ (u : PowerMap). u.terms) (rigid_rows 1 1 parameter_rows) ≡ (metre (negsuc 0) ∷ power (Base 1) (pos 1) ∷ []) ∷ []
unfolding product
parameter_fixed = refl

-- without parameters the rows stay
parameter_loose : map (λ (u : PowerMap). u.terms) (rigid_rows 1 0 parameter_rows) ≡ (metre (negsuc 0) ∷ a (pos 1) ∷ []) ∷ []
unfolding product
parameter_loose = refl

-- two rows to the powers 1 and -2, the second named twice
named_twice : (combined (unit (a (pos 1) ∷ []) ∷ unit (b (pos 1) ∷ []) ∷ []) (record { row = 1; times = negsuc 0 } ∷ record { row = 0; times = pos 1 } ∷ record { row = 1; times = negsuc 0 } ∷ [])).terms ≡ a (pos 1) ∷ b (negsuc 1) ∷ []
unfolding product
named_twice = refl

-- ---- a certificate over a variable without a way back isn't valid, whatever else it says
no_way_back : (bases parameters slots : ℕ) (rs : List PowerMap) (g : Signature) (s : SchemeTree) (c : Yes) → c.vars ≡ 1 → c.back ≡ [] → IsValidYes bases parameters slots rs g s c → ⊥
no_way_back bases parameters slots rs g s c vars none valid = let e : 0 ≡ 1 = sym (ap length none) ∙ valid.back_count ∙ vars in omega (arith, e)

-- ---- parts in order
abbrev part : ℕ → ℤ → Part
part row times = record { row = row; times = times }

abbrev HasPower : Part → Type 0
HasPower p = p.times ≢ pos 0

in_order : AreTidyParts (part 0 (negsuc 1) ∷ part 3 (pos 1) ∷ [])
in_order = record {
  ordered = (All-cons (λ (q : Part). 0 < q.row) (part 3 (pos 1)) [] (omega arith) (All-nil (λ (q : Part). 0 < q.row)), (All-nil (λ (q : Part). 3 < q.row), tt));
  powers =
      All-cons HasPower (part 0 (negsuc 1)) (part 3 (pos 1) ∷ []) (λ e. omega (arith, ints, e))
      (All-cons HasPower (part 3 (pos 1)) [] (λ e. omega (arith, ints, e)) (All-nil HasPower));
  few = omega arith;
}

none_in_order : AreTidyParts []
none_in_order = record { ordered = tt; powers = All-nil HasPower; few = omega arith }

-- the later row first, a row twice, and a row to the power 0
later_first : AreTidyParts (part 3 (pos 1) ∷ part 0 (pos 1) ∷ []) → ⊥
later_first h = let l = All-head (λ (q : Part). 3 < q.row) (part 0 (pos 1)) [] h.ordered.0 in omega (arith, l)

row_twice : AreTidyParts (part 1 (pos 1) ∷ part 1 (pos 1) ∷ []) → ⊥
row_twice h = let l = All-head (λ (q : Part). 1 < q.row) (part 1 (pos 1)) [] h.ordered.0 in omega (arith, l)

row_to_zero : AreTidyParts (part 1 (pos 0) ∷ []) → ⊥
row_to_zero h = All-head HasPower (part 1 (pos 0)) [] h.powers refl

-- ---- with one declared base unit, that of a unit parameter is base unit 1: it may stand in `rigid` alone
held_one : power_of (atom (Base 1)) (Base 1) ≡ pos 0 → ⊥
held_one e = let f = sym (power_of-atom (Base 1)) ∙ e in omega (arith, ints, f)

parameter_in_solution : (c : Yes) → c.solution ≡ atom (Base 1) ∷ [] → IsTidyYes 1 1 c → ⊥
parameter_in_solution c e tidy =
    let low = All-head (BasesBelow 1) (atom (Base 1)) [] (subst (All (BasesBelow 1)) e tidy.solution) 1 held_one in
    omega (arith, low)
