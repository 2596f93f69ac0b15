-- A run that ends does so after some number of steps and not after fewer.
use Rattle.std.proofs.Common.{◌≡◌, ◌≢◌, ℕ, zero, suc, ◌<◌, List, refl, arith}
use Rattle.std.specs.Prelude.{min, slice_get}
use Rattle.um_tree.specs.ValueTree.{ValueTree, OutcomeTree}
use Rattle.um_machine.specs.declared.code.Code.{Code}
use Rattle.um_machine.specs.Machine.{State, Step, going, done, stuck, step, next, runs, starts, EndsWith}
use Rattle.um_vm.specs.Counting.{CountsSteps}

module _ (code : Code) (o : OutcomeTree) where
  -- so many steps from here end with the outcome, and no fewer end
  abbrev EndsFirst : Step → ℕ → Type 0
  EndsFirst r n = (next r (runs code n) ≡ done o) × ((m : ℕ) (p : OutcomeTree) → m < n → next r (runs code m) ≢ done p)

  -- after a state that goes on
  later : (s : State) (n : ℕ) → EndsFirst (step code s) n → EndsFirst (going s) (suc n)
  later s n first = (first.0, before) where
    before : (m : ℕ) (p : OutcomeTree) → m < suc n → next (going s) (runs code m) ≢ done p
    before zero p less h = cc h
    before (suc m) p less h = first.1 m p (omega (arith, less)) h

  from_step : (n : ℕ) → ((s : State) → runs code n s ≡ done o → (m : ℕ) × EndsFirst (going s) m) → (r : Step) → next r (runs code n) ≡ done o → (m : ℕ) × EndsFirst r m
  from_step n further (going s) e = further s e
  from_step n further (done p) e = (0, (e, (λ m q less. absurd (omega (arith, less)))))
  from_step n further stuck e = absurd (cc e)

  from_state : (n : ℕ) (s : State) → runs code n s ≡ done o → (m : ℕ) × EndsFirst (going s) m
  from_state zero s e = absurd (cc e)
  from_state (suc n) s e = let (m, first) = from_step n (from_state n) (step code s) e in (suc m, later s m first)

pub steps_are_counted : (code : Code) (f : ℕ) (arguments : List ValueTree) (b : ℕ) (o : OutcomeTree) → EndsWith code f arguments b o → (k : ℕ) × CountsSteps code f arguments b o k
steps_are_counted code f arguments b o ends =
    let (n, first) = from_step code o ends.0 (from_state code o ends.0) (starts code f arguments b (slice_get code.entries f)) ends.1 in
    (min n 18446744073709551615, (n, first, refl))
