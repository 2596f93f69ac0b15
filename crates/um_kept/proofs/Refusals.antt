-- A product of rows that refuses a row is a No.
use Rattle.std.proofs.Common.{◌≡◌, inl, inr, ℕ, zero, suc, ◌+◌, ◌-◌, ◌*◌, ◌<◌, ◌≤◌, List, length, ℤ, pos, negsuc, nat_abs, ◌*ℤ◌, refl, sym, ap, ◌∙◌, subst, arith}
use Rattle.std.specs.Prelude.{All, if◌then◌else◌}
use Rattle.std.specs.Int.Signed.{◌≤ℤ◌, ◌<ℤ◌}
use Rattle.std.proofs.lemmas.Bool.{lt-ltb}
use Rattle.std.proofs.lemmas.Int.{ints}
use Rattle.um_units.specs.declared.Atom.TheVariants.{Base, Var}
use Rattle.um_units.specs.PowerMap.{PowerMap, power_of, atom, pow, replace, nth, extension}
use Rattle.um_units.specs.Variables.{VariablesBelow}
use Rattle.um_units.proofs.Replacement.{replace-base, replace-variable}
use Rattle.um_elim.specs.declared.elim_step.ElimStep.{ElimStep}
use Rattle.um_elim.specs.Solution.{rigid_unit}
use Rattle.um_elim.proofs.Cases.{on_test}
use Rattle.um_elim.proofs.StepLaws.{positive_size}
use Rattle.um_rows.specs.Generalised.{is_parameter}
use Rattle.um_elim.specs.EliminationSteps.{unit_after, AreStepsOf}
use Rattle.um_check.specs.Refutation.{IsApart}
use Rattle.um_check.specs.Existence.{inverse_after}
use Rattle.um_check.proofs.InverseSteps.{inverse_after-base}
use Rattle.um_check.proofs.RefutedSteps.{rows_are}
use Rattle.um_check.proofs.RigidRefuted.{rigid_is_apart, rigid_closed_is_apart}
use Rattle.um_kept.specs.declared.row.Refused.{Refused}
use Rattle.um_kept.specs.Kept.{Kept, row_unit, row_total, IsReached, first, first_back}
use Rattle.um_kept.specs.Formed.{IsModulus}
use Rattle.um_kept.specs.Answers.{IsRefusedAs}
use Rattle.um_kept.specs.Answers.{HoldsNoParameter}
use Rattle.um_kept.proofs.AfterSteps.{steps_are_shears}
use Rattle.um_kept.proofs.WayBack.{parameter_range}
use Rattle.um_kept.proofs.Reached.{ReachedState, reached_state, row_within, row_bases, total_of_rows}

pub record RefutedBy (bases parameters : ℕ) (rows : List PowerMap) (row : ℕ) (refused : Refused) : Type 0 where
  pub proper : pos 2 ≤ℤ refused.modulus
  pub below : VariablesBelow (suc row) refused.total
  pub closed : (n : ℕ) → power_of refused.total (Base n) ≡ pos 0
  pub apart : IsApart refused.modulus (replace (rigid_unit bases parameters) (replace (nth rows) refused.total))

-- ---- the base unit of a parameter goes to its slot and back
pub rigid_leaves : (bases parameters n : ℕ) → replace (rigid_unit bases parameters) (first_back bases parameters (Base n)) ≡ atom (Base n)
rigid_leaves bases parameters n =
    on_test (is_parameter bases parameters 0 n)
    (λ e. let r = parameter_range bases parameters n e in
    let least = r.0 in
    let most = r.1 in
    let same : bases + (n - bases) ≡ n = omega (arith, least) in
    rw e (replace-variable (rigid_unit bases parameters) (n - bases)
    ∙ ap (λ b. if b then atom (Base (bases + (n - bases))) else atom (Var (n - bases))) (lt-ltb (n - bases) parameters (omega (arith, least, most)))
    ∙ ap (λ i. atom (Base i)) same))
    (λ e. rw e (replace-base (rigid_unit bases parameters) n))

-- ---- a modulus is at least 2
two_at_least : (d m : ℕ) → 0 < d → 1 < m → pos 2 ≤ℤ (pos d *ℤ pos m)
two_at_least d m h l = whole (d * m) (product d m h l)
  where
    whole : (k : ℕ) → 2 ≤ k → pos 2 ≤ℤ pos k
    whole k h = omega (arith, ints, h)

    product : (a b : ℕ) → 0 < a → 1 < b → 2 ≤ a * b
    product zero b h l = absurd (omega (arith, h))
    product (suc a) zero h l = absurd (omega (arith, l))
    product (suc a) (suc zero) h l = absurd (omega (arith, l))
    product (suc a) (suc (suc b)) h l = omega arith

-- a positive number
as_positive : (d : ℤ) → pos 0 <ℤ d → (d ≡ pos (nat_abs d)) × (0 < nat_abs d)
as_positive (pos n) h = (refl, omega (arith, ints, h))
as_positive (negsuc n) h = absurd (omega (arith, ints, h))

module _ (bases parameters slots : ℕ) (rows : List PowerMap) (few : parameters ≤ slots) (low : All (VariablesBelow slots) rows) (none : All (HoldsNoParameter bases parameters) rows)
    (k : ℕ) (kept : Kept) (inside : k < length rows) (s : ReachedState bases parameters slots rows k kept) (ts : List ElimStep) (are : AreStepsOf (row_unit rows kept k) ts) where
  divisor : kept.divisor ≡ pos (nat_abs kept.divisor)
  divisor = (as_positive kept.divisor s.positive).0

  some : 0 < nat_abs kept.divisor
  some = (as_positive kept.divisor s.positive).1

  leaves : (n : ℕ) → replace (rigid_unit bases parameters) (inverse_after ts kept.back (Base n)) ≡ atom (Base n)
  leaves n = ap (replace (rigid_unit bases parameters)) (inverse_after-base ts kept.back n ∙ s.base n) ∙ rigid_leaves bases parameters n

  total_is : replace (nth rows) (row_total rows kept k ts) ≡ pow (extension (inverse_after ts kept.back) (unit_after ts (row_unit rows kept k))) (pos (nat_abs kept.divisor))
  total_is =
      rows_are rows kept.solution kept.back kept.divisor kept.parts k ts s.kept (row_within bases parameters slots rows few low none k kept inside s) (row_bases bases parameters slots rows few low none k kept inside s)
      (steps_are_shears ts (row_unit rows kept k) are)
      ∙ ap (pow (extension (inverse_after ts kept.back) (unit_after ts (row_unit rows kept k)))) divisor

  modulus_apart : (z : ℤ) → IsModulus rows kept k ts z → (pos 2 ≤ℤ z) × IsApart z (replace (rigid_unit bases parameters) (replace (nth rows) (row_total rows kept k ts)))
  modulus_apart z (inl m) =
      let stuck = m.0 in
      let e = ap (λ d. d *ℤ pos stuck.p) divisor in (
        subst (λ n. pos 2 ≤ℤ n) (sym (m.1 ∙ e)) (two_at_least (nat_abs kept.divisor) stuck.p some (let l = stuck.e_positive in let h = stuck.below in omega (arith, l, h))),
        subst (λ n. IsApart n (replace (rigid_unit bases parameters) (replace (nth rows) (row_total rows kept k ts)))) (sym (m.1 ∙ e))
            (rigid_is_apart (rigid_unit bases parameters) (inverse_after ts kept.back) (unit_after ts (row_unit rows kept k)) (replace (nth rows) (row_total rows kept k ts)) (nat_abs kept.divisor) stuck.m stuck.p stuck.n stuck.e
            some leaves total_is stuck.is stuck.alone stuck.e_positive stuck.below stuck.base),
      )
  modulus_apart z (inr m) =
      let r = unit_after ts (row_unit rows kept k) in
      let size = nat_abs (power_of r (Base m.0)) in
      let e = ap (λ d. d *ℤ pos (size + 1)) divisor in (
        subst (λ n. pos 2 ≤ℤ n) (sym (m.2 ∙ e)) (two_at_least (nat_abs kept.divisor) (size + 1) some (let h = positive_size (power_of r (Base m.0)) (m.1).held in omega (arith, h))),
        subst (λ n. IsApart n (replace (rigid_unit bases parameters) (replace (nth rows) (row_total rows kept k ts)))) (sym (m.2 ∙ e))
            (rigid_closed_is_apart (rigid_unit bases parameters) (inverse_after ts kept.back) r (replace (nth rows) (row_total rows kept k ts)) (nat_abs kept.divisor) m.0 some leaves total_is (m.1).closed (m.1).held),
      )

pub refused_apart : (bases parameters slots : ℕ) (rows : List PowerMap) (row : ℕ) (kept : Kept) (refused : Refused) → parameters ≤ slots → All (VariablesBelow slots) rows → All (HoldsNoParameter bases parameters) rows →
    row < length rows → IsReached rows (first bases parameters slots) row kept → IsRefusedAs rows kept row refused → RefutedBy bases parameters rows row refused
refused_apart bases parameters slots rows row kept refused few low none inside h by =
    let s = reached_state bases parameters slots rows few low none row kept (omega (arith, inside)) h in
    let total = total_of_rows bases parameters slots rows row kept by.steps s in
    let found = modulus_apart bases parameters slots rows few low none row kept inside s by.steps by.are refused.modulus by.modulus in
    record {
      proper = found.0;
      below = subst (VariablesBelow (suc row)) (sym by.total) total.0;
      closed = λ n. ap (λ u. power_of u (Base n)) by.total ∙ total.1 n;
      apart = subst (λ u. IsApart refused.modulus (replace (rigid_unit bases parameters) (replace (nth rows) u))) (sym by.total) found.1;
    }
