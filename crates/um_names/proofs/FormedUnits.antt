-- The base units and variables of a unit text's unit exist.
use Rattle.std.proofs.Common.{◌≡◌, inl, inr, ℕ, ◌<◌, ◌≤◌, ◌+◌, Bool, true, false, cond, List, [], ◌∷◌, ◌++◌, length, ℤ, pos, negsuc, ◌+ℤ◌, ◌*ℤ◌, refl, ap, subst, ◌∙◌, arith, Ok, Err}
use Rattle.std.specs.Prelude.{Option, Some, None}
use Rattle.std.specs.Str.{bytes_eq}
use Rattle.std.proofs.lemmas.Bool.{cases_eq, ne_eqb}
use Rattle.std.proofs.Math.IntN.{*ℤ-zero}
use Rattle.um_units.specs.declared.Atom.TheVariants.{Base, Var}
use Rattle.um_units.specs.Terms.{indicator}
use Rattle.um_units.specs.PowerMap.{PowerMap, power_of, one, atom, mul, pow, inv}
use Rattle.um_units.proofs.Integers.{zero_cases}
use Rattle.um_units.proofs.Group.{weight-one, weight-mul, weight-pow, power_of-other_atom}
use Rattle.um_units.proofs.Variables.{IsClosed-one, IsClosed-base, VariablesBelow-closed, VariablesBelow-more, VariablesBelow-variable, VariablesBelow-mul, VariablesBelow-pow}
use Rattle.um_tree.specs.Formed.{BasesBelow, IsUnitIn}
use Rattle.um_tree.specs.RawTree.{UnitSyntax, UnitSyntaxes, one_syntax, measure_syntax, variable_syntax, power_syntax, side_syntax, times_syntax, over_syntax, inverse_syntax, bracket_syntax, no_units, more_units}
use Rattle.um_measures.specs.declared.abbreviation.Abbreviation.{Abbreviation}
use Rattle.um_measures.specs.Faults.{range}
use Rattle.um_measures.specs.Known.{Known, number_of, short_unit, base_or, measure_unit}
use Rattle.um_measures.specs.UnitNames.{first_place, or_one, numbered_variable, variable_unit, unknown_in, unit_of, product_of, parts_fit, ranged, resolved_unit}
use Rattle.um_measures.proofs.NameLists.{number_of-below}

-- ---- base units below a number

BasesBelow-one : (n : ℕ) → BasesBelow n one
BasesBelow-one n k h = absurd (h (weight-one (indicator (Base k))))

pub BasesBelow-more : (m n : ℕ) (u : PowerMap) → m ≤ n → BasesBelow m u → BasesBelow n u
BasesBelow-more m n u l below k h = let i = below k h in omega (arith, i, l)

BasesBelow-base : (n k : ℕ) → k < n → BasesBelow n (atom (Base k))
BasesBelow-base n k l j h =
    elim (cases_eq j k) [ inl e ↦ omega (arith, e, l) | inr ne ↦ absurd (h (power_of-other_atom (Base j) (Base k) (ne_eqb j k ne))) ]

BasesBelow-variable : (n k : ℕ) → BasesBelow n (atom (Var k))
BasesBelow-variable n k j h = absurd (h (power_of-other_atom (Base j) (Var k) refl))

BasesBelow-mul : (n : ℕ) (u v : PowerMap) → BasesBelow n u → BasesBelow n v → BasesBelow n (mul u v)
BasesBelow-mul n u v h j k ne =
    elim (zero_cases (power_of u (Base k))) [
      | inl e ↦ j k (λ f. ne (weight-mul (indicator (Base k)) u v ∙ ap (λ z. z +ℤ power_of v (Base k)) e ∙ ap (λ z. pos 0 +ℤ z) f))
      | inr held ↦ h k held
    ]

BasesBelow-pow : (n : ℕ) (u : PowerMap) (i : ℤ) → BasesBelow n u → BasesBelow n (pow u i)
BasesBelow-pow n u i h k ne = h k (λ e. ne (weight-pow (indicator (Base k)) u i ∙ ap (λ z. i *ℤ z) e ∙ *ℤ-zero i))

-- ---- units in which all exist

pub in_one : (n m : ℕ) → IsUnitIn n m one
in_one n m = (BasesBelow-one n, VariablesBelow-closed m one IsClosed-one)

pub in_base : (n m k : ℕ) → k < n → IsUnitIn n m (atom (Base k))
in_base n m k l = (BasesBelow-base n k l, VariablesBelow-closed m (atom (Base k)) (IsClosed-base k))

in_variable : (n m k : ℕ) → k < m → IsUnitIn n m (atom (Var k))
in_variable n m k l = (BasesBelow-variable n k, VariablesBelow-more (k + 1) m (atom (Var k)) (omega (arith, l)) (VariablesBelow-variable k))

in_mul : (n m : ℕ) (u v : PowerMap) → IsUnitIn n m u → IsUnitIn n m v → IsUnitIn n m (mul u v)
in_mul n m u v h j = (BasesBelow-mul n u v h.0 j.0, VariablesBelow-mul m u v h.1 j.1)

in_pow : (n m : ℕ) (u : PowerMap) (i : ℤ) → IsUnitIn n m u → IsUnitIn n m (pow u i)
in_pow n m u i h = (BasesBelow-pow n u i h.0, VariablesBelow-pow m u i h.1)

in_inv : (n m : ℕ) (u : PowerMap) → IsUnitIn n m u → IsUnitIn n m (inv u)
in_inv n m u h = in_pow n m u (negsuc 0) h

pub in_more : (n m k : ℕ) (u : PowerMap) → n ≤ k → IsUnitIn n m u → IsUnitIn k m u
in_more n m k u l h = (BasesBelow-more n k u l h.0, h.1)

-- ---- the units of measures

-- the units of abbreviations are closed, of these base units
pub AreClosedIn : ℕ → List Abbreviation → Type 0
AreClosedIn n [] = Unit {0}
AreClosedIn n (s ∷ ss) = IsUnitIn n 0 s.unit × AreClosedIn n ss

pub closed_more : (n k : ℕ) (ss : List Abbreviation) → n ≤ k → AreClosedIn n ss → AreClosedIn k ss
unfolding AreClosedIn
closed_more n k [] l h = tt
closed_more n k (s ∷ ss) l h = (in_more n 0 k s.unit l h.0, closed_more n k ss l h.1)

pub closed_last : (n : ℕ) (ss : List Abbreviation) (s : Abbreviation) → AreClosedIn n ss → IsUnitIn n 0 s.unit → AreClosedIn n (ss ++ s ∷ [])
unfolding AreClosedIn
closed_last n [] s h u = (u, tt)
closed_last n (x ∷ ss) s h u = (h.0, closed_last n ss s h.1 u)

pub closed_none : (n : ℕ) → AreClosedIn n []
unfolding AreClosedIn
closed_none n = tt

short_in : (n : ℕ) (ss : List Abbreviation) (x : List ℕ) → AreClosedIn n ss → IsUnitIn n 0 (or_one (short_unit ss x))
unfolding AreClosedIn
short_in n [] x h = in_one n 0
short_in n (s ∷ ss) x h = by (bytes_eq x s.name) (short_in n ss x h.1) where
  by : (b : Bool) → IsUnitIn n 0 (or_one (short_unit ss x)) → IsUnitIn n 0 (or_one (cond b (Some s.unit) (short_unit ss x)))
  by true rest = h.0
  by false rest = rest

pub measure_in : (known : Known) (x : List ℕ) → AreClosedIn (length known.program.bases) known.shorts → IsUnitIn (length known.program.bases) 0 (or_one (measure_unit known x))
measure_in known x h = by (number_of known.program.bases x) (number_of-below x known.program.bases) where
  by : (o : Option ℕ) → ((k : ℕ) → o ≡ Some k → k < length known.program.bases) → IsUnitIn (length known.program.bases) 0 (or_one (base_or o (short_unit known.shorts x)))
  by None below = short_in (length known.program.bases) known.shorts x h
  by (Some k) below = in_base (length known.program.bases) 0 k (below k refl)

-- ---- the unit of a text

module _ (measures : List ℕ → Option PowerMap) (variables : List (List ℕ)) (n : ℕ) (closed : (x : List ℕ) → IsUnitIn n 0 (or_one (measures x))) where
  measure_unit_in : (x : List ℕ) → IsUnitIn n (length variables) (or_one (measures x))
  measure_unit_in x = ((closed x).0, VariablesBelow-more 0 (length variables) (or_one (measures x)) (omega arith) (closed x).1)

  variable_unit_in : (x : List ℕ) → IsUnitIn n (length variables) (or_one (variable_unit variables x))
  variable_unit_in x = by (number_of variables x) (number_of-below x variables) where
    by : (o : Option ℕ) → ((k : ℕ) → o ≡ Some k → k < length variables) → IsUnitIn n (length variables) (or_one (numbered_variable o))
    by None below = in_one n (length variables)
    by (Some k) below = in_variable n (length variables) k (below k refl)

  mutual
    unit_in : (u : UnitSyntax) → IsUnitIn n (length variables) (unit_of measures variables u)
    unit_in (one_syntax at) = in_one n (length variables)
    unit_in (measure_syntax at x) = measure_unit_in x
    unit_in (variable_syntax at x) = variable_unit_in x
    unit_in (power_syntax u k) = in_pow n (length variables) (unit_of measures variables u) k (unit_in u)
    unit_in (side_syntax us) = product_in us one (in_one n (length variables))
    unit_in (times_syntax u v) = in_mul n (length variables) (unit_of measures variables u) (unit_of measures variables v) (unit_in u) (unit_in v)
    unit_in (over_syntax u v) = in_mul n (length variables) (unit_of measures variables u) (inv (unit_of measures variables v)) (unit_in u) (in_inv n (length variables) (unit_of measures variables v) (unit_in v))
    unit_in (inverse_syntax at u) = in_inv n (length variables) (unit_of measures variables u) (unit_in u)
    unit_in (bracket_syntax at u) = unit_in u

    product_in : (us : UnitSyntaxes) (before : PowerMap) → IsUnitIn n (length variables) before → IsUnitIn n (length variables) (product_of measures variables before us)
    product_in no_units before h = h
    product_in (more_units u us) before h = product_in us (mul before (unit_of measures variables u)) (in_mul n (length variables) before (unit_of measures variables u) h (unit_in u))

  pub resolved_unit_in : (u : UnitSyntax) (v : PowerMap) → resolved_unit measures variables u ≡ Ok v → IsUnitIn n (length variables) v
  resolved_unit_in u v e = by (unknown_in measures variables u) e where
    fit : (b : Bool) → cond b (Ok (unit_of measures variables u)) (Err (range (first_place u))) ≡ Ok v → IsUnitIn n (length variables) v
    fit true h = let same : unit_of measures variables u ≡ v = cc h in subst (IsUnitIn n (length variables)) same (unit_in u)
    fit false h = absurd cc

    by : (o : Option ℕ) → ranged measures variables u o ≡ Ok v → IsUnitIn n (length variables) v
    by (Some at) h = absurd cc
    by None h = fit (parts_fit measures variables u) h
