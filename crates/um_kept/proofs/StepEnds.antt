-- What one step leaves of a unit, and the ends of a row: a variable to a power alone, a variable that a base unit's power
-- isn't divided by, or base units alone.
use Rattle.std.proofs.Common.{◌≡◌, ◌≢◌, ℕ, ◌<◌, true, false, Some, None, List, [], ◌∷◌, pos, nat_abs, refl, sym, ap, ◌∙◌, subst, arith}
use Rattle.std.specs.Prelude.{IsTrue}
use Rattle.std.proofs.lemmas.Bool.{lt-ltb, and_from}
use Rattle.um_units.specs.declared.Atom.{Atom}
use Rattle.um_units.specs.declared.Atom.TheVariants.{Base, Var}
use Rattle.um_units.specs.declared.Term.{Term}
use Rattle.um_units.specs.Atoms.{same_atom, is_before}
use Rattle.um_units.specs.Terms.{power_in, is_normal, is_zero}
use Rattle.um_units.specs.NormalForm.{head_nonzero, head_before_all, before_all_trans}
use Rattle.um_units.specs.PowerMap.{PowerMap, power_of, one, atom, pow, replace}
use Rattle.um_units.proofs.Equality.{same_unit, power_in-head, power_in-before_all}
use Rattle.um_units.proofs.Group.{weight-one}
use Rattle.um_units.specs.Terms.{indicator}
use Rattle.um_elim.specs.declared.elim_step.ElimStep.{ElimStep}
use Rattle.um_pivots.specs.Pivot.{pivot, size, least_power, has_other, has_base}
use Rattle.um_elim.specs.ElimStep.{multiply, step, inverted_if_negative, signed, IsStepOf}
use Rattle.um_elim.proofs.PivotLaws.{is_pivot, no_pivot, some_base, no_other}
use Rattle.um_elim.proofs.StepLaws.{IsRemainder, power_of-step_pivot, power_of-step_other, least_power-falls, positive_pivot, positive_size, signed_inverted}
use Rattle.um_elim.specs.EliminationSteps.{unit_after, IsStuck, IsClosedLeft}
use Rattle.um_elim.proofs.SingleAtoms.{only_power}
use Rattle.um_kept.specs.Formed.{HasLeastBase}
use Rattle.um_kept.specs.Steps.{IsLeftAlone, first_size}

-- ---- one step: its variable has the least power of r, and each other power is below it
pub record LeavesBelow (r : PowerMap) (m : ℕ) (left : PowerMap) : Type 0 where
  pub p : ℕ
  pub positive : 0 < p
  pub least : least_power r ≡ p
  pub at : power_of left (Var m) ≡ pos p
  pub small : (y : Atom) → same_atom (Var m) y ≡ false → IsRemainder p (power_of left y)

pub step_leaves : (r : PowerMap) (t : ElimStep) (left : PowerMap) → IsStepOf r t → left ≡ replace (multiply t.variable t.by) (signed t.inverted r) → LeavesBelow r t.variable left
step_leaves r t left is made =
    let q = is.0 in
    let found = is_pivot r q is.1 in
    let m = q.variable in
    let n = nat_abs q.power in
    let u = inverted_if_negative q.power r in
    let first : power_of u (Var m) ≡ pos n = positive_pivot q.power m r found.is in
    let h : 0 < n = positive_size q.power found.nonzero in
    let e : left ≡ replace (step m n u) u = made ∙ ap (λ (x : ElimStep). replace (multiply x.variable x.by) (signed x.inverted r)) is.2 ∙ ap (replace (step m n u)) (signed_inverted q.power r) in
    subst (λ (x : ElimStep). LeavesBelow r x.variable left) (sym is.2) (record {
      p = n;
      positive = h;
      least = ap size is.1;
      at = ap (λ v. power_of v (Var m)) e ∙ power_of-step_pivot m n u ∙ first;
      small = λ y f. subst (λ v. IsRemainder n (power_of v y)) (sym e) (power_of-step_other m n u h first y f);
    })

pub least_falls : (r : PowerMap) (m : ℕ) (left : PowerMap) → LeavesBelow r m left → has_other m left ≡ true → least_power left < least_power r
least_falls r m left l o =
    let h = least_power-falls m l.p left l.small o in
    let e = l.least in
    omega (arith, h, e)

pub left_alone : (r : PowerMap) (m : ℕ) (left : PowerMap) → LeavesBelow r m left → has_other m left ≡ false → IsLeftAlone m left
left_alone r m left l o = record { p = l.p; positive = l.positive; is = l.at; alone = o; small = λ n. l.small (Base n) refl }

-- ---- the end where one variable is left
module _ (ts : List ElimStep) (u : PowerMap) (m : ℕ) (r : PowerMap) (left : r ≡ unit_after ts u) (a : IsLeftAlone m r) where
  pub power_left : has_base r ≡ false → unit_after ts u ≡ pow (atom (Var m)) (pos a.p)
  power_left b = sym left ∙ only_power m a.p r a.is a.alone b

  pub stuck_left : has_base r ≡ true → (s : IsStuck ts u) × (s.p ≡ a.p)
  stuck_left b =
      let w = some_base r b in
      let c = a.small w.0 in (
        record {
          m = m;
          p = a.p;
          positive = a.positive;
          is = ap (λ v. power_of v (Var m)) (sym left) ∙ a.is;
          alone = λ k f. ap (λ v. power_of v (Var k)) (sym left) ∙ no_other m r a.alone k f;
          n = w.0;
          e = c.0;
          e_positive = positive c.0 (λ z. w.1 (c.1 ∙ ap pos z));
          below = c.2;
          base = ap (λ v. power_of v (Base w.0)) (sym left) ∙ c.1;
        },
        refl,
      )
    where
      positive : (c : ℕ) → (c ≡ 0 → ⊥) → 0 < c
      positive c n = omega arith

-- ---- the end where none is left
pub no_terms_one : (r : PowerMap) → first_size r.terms ≡ None → r ≡ one
no_terms_one r f = same_unit _ _ (λ x. ap (λ ts. power_in ts x) (no_terms r.terms f) ∙ sym (weight-one (indicator x)))
  where
    no_terms : (ts : List Term) → first_size ts ≡ None → ts ≡ []
    no_terms [] f = refl
    no_terms (t ∷ ts) f = cc

-- the first term is that of the least base unit
pub record FirstBase (r : PowerMap) (size : ℕ) : Type 0 where
  pub n : ℕ
  pub least : HasLeastBase r n
  pub size_is : nat_abs (power_of r (Base n)) ≡ size

pub first_base : (r : PowerMap) (n : ℕ) → pivot r ≡ None → first_size r.terms ≡ Some n → FirstBase r n
first_base r n none f = at r.terms refl r.normal f
  where
    at : (ts : List Term) → ts ≡ r.terms → IsTrue (is_normal ts) → first_size ts ≡ Some n → FirstBase r n
    at [] e h g = absurd (cc g)
    at (t ∷ ts) e h g = atom_at t.atom refl
      where
        here : power_of r t.atom ≡ t.power
        here = ap (λ us. power_in us t.atom) (sym e) ∙ power_in-head t ts (head_before_all t ts h)

        nonzero : power_of r t.atom ≢ pos 0
        nonzero z = let y : is_zero t.power ≡ true = ap is_zero (sym here ∙ z) in let k = head_nonzero t ts h in cc

        same_size : nat_abs t.power ≡ n
        same_size = cc g

        atom_at : (x : Atom) → t.atom ≡ x → FirstBase r n
        atom_at (Base b) q = record {
          n = b;
          least = record {
            closed = no_pivot r none;
            held = λ z. nonzero (ap (power_of r) q ∙ z);
            least = λ m l. ap (λ us. power_in us (Base m)) (sym e)
                ∙ power_in-before_all (Base m) (t ∷ ts) (let before : IsTrue (is_before (Base m) t.atom) = subst (λ x. IsTrue (is_before (Base m) x)) (sym q) (lt-ltb m b l) in and_from _ _ before (before_all_trans (Base m) t.atom ts before (head_before_all t ts h)));
          };
          size_is = ap (λ x. nat_abs (power_of r x)) (sym q) ∙ ap nat_abs here ∙ same_size;
        }
        atom_at (Var k) q = absurd (nonzero (ap (power_of r) q ∙ no_pivot r none k))

pub closed_left : (ts : List ElimStep) (u r : PowerMap) (n : ℕ) → r ≡ unit_after ts u → HasLeastBase r n → IsClosedLeft ts u
closed_left ts u r n left h = record {
  closed = λ k. ap (λ v. power_of v (Var k)) (sym left) ∙ h.closed k;
  n = n;
  nonzero = λ z. h.held (ap (λ v. power_of v (Base n)) left ∙ z);
}
