-- Two meanings that are alike: both give related values and leave one budget, or both stop for one reason, unless one of them
-- overflows.
use Rattle.std.proofs.Common.{◌≡◌, refl, sym, subst, ℕ, zero, suc, Some}
use Rattle.um_frac.specs.declared.number.Trap.TheVariants.{Overflow, DivZero}
use Rattle.um_tree.specs.TypeTree.{TypeTree}
use Rattle.um_tree.specs.ValueTree.{ValueTree, OutcomeTree, value_outcome, trap_outcome, budget_outcome}
use Rattle.um_tree.specs.ProgramTree.{RecordTree}
use Rattle.std.specs.Prelude.{List}
use Rattle.um_tree.specs.Meaning.{trap, budget_end, wrong, Out, gives, stops, then, spend, end_of}
use Rattle.um_scaling.specs.Rescaling.{Rescaling}
use Rattle.um_scaling.specs.ScaledValues.{Scaled, OutcomesScaled}

abbrev pub Alike : {A : Type 0} → (A → A → Type 0) → Out A → Out A → Type 0
Alike R (stops (trap Overflow)) o = Unit {0}
Alike R o (stops (trap Overflow)) = Unit {0}
Alike R (gives v c) (gives w d) = R v w × (d ≡ c)
Alike R (stops r) (stops s) = s ≡ r
Alike R (gives v c) (stops s) = ⊥
Alike R (stops r) (gives w d) = ⊥

after_overflow : {A : Type 0} (R : A → A → Type 0) (o : Out A) → Alike R o (stops (trap Overflow))
after_overflow R (gives v c) = tt
after_overflow R (stops (trap Overflow)) = tt
after_overflow R (stops (trap DivZero)) = tt
after_overflow R (stops budget_end) = tt
after_overflow R (stops wrong) = tt

pub alike_then : {A B : Type 0} (R : A → A → Type 0) (Q : B → B → Type 0) (m n : Out A) (go ho : A → ℕ → Out B) → Alike R m n → ((x y : A) (c : ℕ) → R x y → Alike Q (go x c) (ho y c)) → Alike Q (then m go) (then n ho)
alike_then R Q (gives x c) (gives y d) go ho h g = subst (λ e. Alike Q (go x c) (ho y e)) (sym h.1) (g x y c h.0)
alike_then R Q (gives x c) (stops (trap Overflow)) go ho h g = after_overflow Q (go x c)
alike_then R Q (gives x c) (stops (trap DivZero)) go ho h g = absurd h
alike_then R Q (gives x c) (stops budget_end) go ho h g = absurd h
alike_then R Q (gives x c) (stops wrong) go ho h g = absurd h
alike_then R Q (stops (trap Overflow)) n go ho h g = tt
alike_then R Q (stops (trap DivZero)) (gives y d) go ho h g = absurd h
alike_then R Q (stops budget_end) (gives y d) go ho h g = absurd h
alike_then R Q (stops wrong) (gives y d) go ho h g = absurd h
alike_then R Q (stops (trap DivZero)) (stops s) go ho h g = h
alike_then R Q (stops budget_end) (stops s) go ho h g = h
alike_then R Q (stops wrong) (stops s) go ho h g = h

pub alike_spend : (R : ValueTree → ValueTree → Type 0) (b : ℕ) (go ho : ℕ → Out ValueTree) → ((c : ℕ) → Alike R (go c) (ho c)) → Alike R (spend b go) (spend b ho)
alike_spend R zero go ho h = refl
alike_spend R (suc b) go ho h = h b

-- ---- outcomes
module _ (records : List RecordTree) (r : Rescaling) where
  -- outcomes that are known
  known : (x o y q : OutcomeTree) (t : TypeTree) → Some x ≡ Some o → Some y ≡ Some q → OutcomesScaled records r x t y → OutcomesScaled records r o t q
  known x o y q t e f h =
      let first : x ≡ o = cc e in
      let second : y ≡ q = cc f in
      subst (λ z. OutcomesScaled records r z t q) first (subst (λ z. OutcomesScaled records r x t z) second h)

  pub ends_alike : (t : TypeTree) (m n : Out ValueTree) (o q : OutcomeTree) → Alike (λ v w. Scaled records r v t w) m n → end_of m ≡ Some o → end_of n ≡ Some q → OutcomesScaled records r o t q
  ends_alike t (gives v c) (gives w d) o q h e f = known (value_outcome v) o (value_outcome w) q t e f h.0
  ends_alike t (gives v c) (stops (trap Overflow)) o q h e f = known (value_outcome v) o (trap_outcome Overflow) q t e f tt
  ends_alike t (gives v c) (stops (trap DivZero)) o q h e f = absurd h
  ends_alike t (gives v c) (stops budget_end) o q h e f = absurd h
  ends_alike t (gives v c) (stops wrong) o q h e f = absurd h
  ends_alike t (stops (trap Overflow)) n o q h e f = let first : trap_outcome Overflow ≡ o = cc e in subst (λ z. OutcomesScaled records r z t q) first tt
  ends_alike t (stops (trap DivZero)) (gives w d) o q h e f = absurd h
  ends_alike t (stops (trap DivZero)) (stops (trap Overflow)) o q h e f = known (trap_outcome DivZero) o (trap_outcome Overflow) q t e f tt
  ends_alike t (stops (trap DivZero)) (stops (trap DivZero)) o q h e f = known (trap_outcome DivZero) o (trap_outcome DivZero) q t e f tt
  ends_alike t (stops (trap DivZero)) (stops budget_end) o q h e f = let g : budget_end ≡ trap DivZero = h in absurd cc
  ends_alike t (stops (trap DivZero)) (stops wrong) o q h e f = absurd cc
  ends_alike t (stops budget_end) (gives w d) o q h e f = absurd h
  ends_alike t (stops budget_end) (stops (trap Overflow)) o q h e f = known budget_outcome o (trap_outcome Overflow) q t e f tt
  ends_alike t (stops budget_end) (stops (trap DivZero)) o q h e f = let g : trap DivZero ≡ budget_end = h in absurd cc
  ends_alike t (stops budget_end) (stops budget_end) o q h e f = known budget_outcome o budget_outcome q t e f tt
  ends_alike t (stops budget_end) (stops wrong) o q h e f = absurd cc
  ends_alike t (stops wrong) n o q h e f = absurd cc
