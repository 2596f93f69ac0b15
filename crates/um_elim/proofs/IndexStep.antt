-- What putting m times w for variable m does to the slots of an index.
use Rattle.std.proofs.Common.{◌≡◌, inl, inr, ℕ, ◌<◌, true, false, not, List, get_or, set, length, ℤ, pos, ◌+ℤ◌, ◌*ℤ◌, ap, ◌∙◌, arith}
use Rattle.std.specs.Prelude.{IsTrue, ◌==◌}
use Rattle.std.proofs.lemmas.Bool.{eqb-true}
use Rattle.std.proofs.lemmas.Int.{ints}
use Rattle.std.proofs.lemmas.List.Elements.{All-get_or}
use Rattle.um_units.specs.declared.Atom.TheVariants.{Var}
use Rattle.um_units.specs.Terms.{is_zero}
use Rattle.um_units.specs.PowerMap.{PowerMap, power_of, one, atom, replace}
use Rattle.um_units.specs.Range.{fits}
use Rattle.um_units.specs.Variables.{VariablesBelow}
use Rattle.um_units.proofs.Integers.{zero_cases}
use Rattle.um_units.proofs.Weights.{zero_is}
use Rattle.um_units.proofs.Variables.{VariablesBelow-mul, variables_below-from_VariablesBelow}
use Rattle.um_tree.specs.Scheme.{unit_variables}
use Rattle.um_elim.specs.ElimStep.{multiply}
use Rattle.um_elim.specs.Index.{holds, followed_terms, IsIndex}
use Rattle.um_elim.proofs.Cases.{on_test}
use Rattle.um_elim.proofs.Shear.{power_of-multiply, multiply_nothing}
use Rattle.um_elim.proofs.FirstOccurrences.{member}
use Rattle.um_elim.proofs.RenamedUnits.{held-member}
use Rattle.um_elim.proofs.VariablesKept.{Stays, own_below, replaced_below}
use Rattle.um_elim.proofs.IndexLaws.{index_follows}

-- a unit without m is left
pub not_held : (m : ℕ) (w u : PowerMap) → holds m u ≡ false → replace (multiply m w) u ≡ u
not_held m w u h = multiply_nothing m w u (zero (power_of u (Var m)) h)
  where
    zero : (z : ℤ) → not (is_zero z) ≡ false → z ≡ pos 0
    zero z e = on_test (is_zero z) (λ t. zero_is z t) (λ f. let g : not (is_zero z) ≡ true = ap not f in cc)

-- a variable that doesn't stand in w stays or stays away
pub held_as_before : (m : ℕ) (w u : PowerMap) (k : ℕ) → power_of w (Var k) ≡ pos 0 → holds k (replace (multiply m w) u) ≡ holds k u
held_as_before m w u k e =
    ap (λ z. not (is_zero z)) (power_of-multiply m w u (Var k) ∙ ap (λ z. power_of u (Var k) +ℤ power_of u (Var m) *ℤ z) e ∙ nothing (power_of u (Var k)) (power_of u (Var m)))
  where
    nothing : (a b : ℤ) → a +ℤ b *ℤ pos 0 ≡ a
    nothing a b = omega (arith, ints)

pub not_listed : (w : PowerMap) (k : ℕ) → member k (unit_variables w) ≡ false → power_of w (Var k) ≡ pos 0
not_listed w k h =
    elim (zero_cases (power_of w (Var k))) [
      | inl e ↦ e
      | inr held ↦ absurd (let g = held-member w k held in cc)
    ]

-- only the variables of w come or go
pub held_alike : (m : ℕ) (w u : PowerMap) (k : ℕ) → member k (unit_variables w) ≡ false → holds k (replace (multiply m w) u) ≡ holds k u
held_alike m w u k h = held_as_before m w u k (not_listed w k h)

pub multiply_stays : (n m : ℕ) (w : PowerMap) → VariablesBelow n w → Stays n (multiply m w)
multiply_stays n m w below k h =
    on_test (m == k)
    (λ e. let q = eqb-true m k e in rw e (VariablesBelow-mul n (atom (Var m)) w (own_below n m (omega (arith, q, h))) below))
    (λ e. rw e (own_below n k h))

-- the index after a slot's unit was multiplied
pub index_multiplied : (us : List PowerMap) (index : List (List ℕ)) (i m : ℕ) (w : PowerMap) →
    IsIndex us index → i < length us → VariablesBelow (length us) w → IsTrue (fits (replace (multiply m w) (get_or us i one))) →
    IsIndex (set us i (replace (multiply m w) (get_or us i one))) (followed_terms index w.terms i (get_or us i one) (replace (multiply m w) (get_or us i one)))
index_multiplied us index i m w is h below fit =
    let old = get_or us i one in
    index_follows us index i (replace (multiply m w) old) w.terms is h w.normal (variables_below-from_VariablesBelow (length us) w below) (held_alike m w old)
    (replaced_below (length us) (multiply m w) (multiply_stays (length us) m w below) old (All-get_or (VariablesBelow (length us)) us i one h is.variables)) fit
