-- What a machine shows, before and after a step.
use Rattle.std.proofs.Common.{rules, ◌≡◌, refl, sym, ap, ◌∙◌, subst, ℕ, zero, suc, ◌-◌, ◌≤◌, List, slice_get, arith}
use Rattle.std.specs.Prelude.{IsTrue}
use Rattle.um_tree.specs.ValueTree.{ValueTree, OutcomeTree, value_outcome}
use Rattle.um_cells.specs.declared.store.Store.{Store}
use Rattle.um_cells.specs.declared.word.Word.{Word}
use Rattle.um_cells.specs.Stores.{DenotesIn, HasValue}
use Rattle.um_cells.proofs.WellFormed.{value_of_word}
use Rattle.um_cells.proofs.Denoting.{one_value, one_value_each}
use Rattle.um_machine.specs.declared.code.Code.{Code}
use Rattle.um_machine.specs.Machine.{State, Step, going, done, stuck, starts, step}
use Rattle.um_vm.specs.declared.phase.End.{End}
use Rattle.um_vm.specs.declared.phase.End.TheVariants as end
use Rattle.um_vm.specs.declared.phase.Phase.{Phase}
use Rattle.um_vm.specs.declared.phase.Phase.TheVariants as phase
use Rattle.um_steps.specs.declared.run.Run.{Run}
use Rattle.um_vm.specs.declared.machine.Machine.{Machine}
use Rattle.um_steps.specs.Going.{state_of}
use Rattle.um_vm.specs.Ends.{IsEnd}
use Rattle.um_steps.specs.Stepping.{first_state, IsBegun, Makes}
use Rattle.um_vm.specs.Phases.{first_phase, end_holds, phase_holds}
use Rattle.um_vm.specs.Laws.{MachinesShowOneStep}
use Rattle.um_vm.specs.Showing.{ShowsIn, Shows}

-- a machine at the start of a call
pub shows_start : (code : Code) (f : ℕ) (args : List ValueTree) (b : ℕ) (m : Run) (p : Phase) → p ≡ first_phase b → IsBegun code f args (b - 1) m → ShowsIn code m p (starts code f args b (slice_get code.entries f))
shows_start code f args zero m p q h = (end.BudgetEnd, q, refl)
shows_start code f args (suc b) m p q (e, found, is_in, same) =
    let less : suc b - 1 ≡ b = omega arith in
    let first : going (first_state f e args b) ≡ going (state_of m args) = ap (λ n. going (first_state f e args n)) (sym less) ∙ ap going (sym same) in
    subst (λ r. ShowsIn code m p r) (sym (ap (starts code f args (suc b)) found)) (q, args, is_in, ap (λ n. first_state f e args n) (sym less) ∙ sym same)

pub first_holds : (store : Store) (b : ℕ) (p : Phase) → p ≡ first_phase b → IsTrue (phase_holds store p)
first_holds store zero p h = subst (λ x. IsTrue (phase_holds store x)) (sym h) (search rules)
first_holds store (suc b) p h = subst (λ x. IsTrue (phase_holds store x)) (sym h) (search rules)

-- the state of a machine that goes on
pub shown_state : (code : Code) (m : Machine) (r : Step) → m.phase ≡ phase.Going → Shows code m r → (s : State) × (r ≡ going s) × Shows code m (going s)
shown_state code m (going s) p h = (s, refl, h)
shown_state code m (done o) p (e, q, h) = absurd cc
shown_state code m stuck p h = absurd cc

-- the outcome of one that has ended
pub shown_end : (code : Code) (m : Machine) (r : Step) (e : End) → m.phase ≡ phase.Ended e → Shows code m r → (o : OutcomeTree) × (r ≡ done o) × IsEnd m.run.stack.store e o
shown_end code m (going s) e p h = let q = h.0 in absurd cc
shown_end code m (done o) e p (f, q, h) =
    let same : f ≡ e = cc in (o, refl, subst (λ x. IsEnd m.run.stack.store x o) same h)
shown_end code m stuck e p h = absurd cc

pub shown_stuck : (code : Code) (m : Machine) (r : Step) → m.phase ≡ phase.Stuck → Shows code m r → r ≡ stuck
shown_stuck code m (going s) p h = let q = h.0 in absurd cc
shown_stuck code m (done o) p (e, q, h) = absurd cc
shown_stuck code m stuck p h = refl

pub shown_not_failed : (code : Code) (m : Machine) (r : Step) → m.phase ≡ phase.Failed → Shows code m r → ⊥
shown_not_failed code m (going s) p h = let q = h.0 in absurd cc
shown_not_failed code m (done o) p (e, q, h) = absurd cc
shown_not_failed code m stuck p h = absurd cc

-- a value with which a run ended is read out
pub end_value : (store : Store) (w : Word) → IsTrue (end_holds store (end.Value w)) → HasValue store w
end_value store w h = value_of_word store.cells.items store.formed w h

pub end_read : (store : Store) (w : Word) (v : ValueTree) (o : OutcomeTree) → DenotesIn store w v → IsEnd store (end.Value w) o → o ≡ value_outcome v
end_read store w v o d (u, k, e) = e ∙ ap value_outcome (one_value store.cells.items w u v k d)

pub shown_by : (code : Code) (m : Run) (p : Phase) (r t : Step) → r ≡ t → ShowsIn code m p t → ShowsIn code m p r
shown_by code m p r t e h = subst (λ x. ShowsIn code m p x) (sym e) h

-- one step, where no more were made
pub first_made : (code : Code) (k : ℕ) (s : State) (IsLast : Step → Type 0) → Makes code k s IsLast → k ≤ 1 → IsLast (step code s)
first_made code k s IsLast (zero, u, many, reached, last) h = let same : s ≡ u = cc in subst (λ x. IsLast (step code x)) (sym same) last
first_made code k s IsLast (suc n, u, many, reached, last) h = absurd (omega (arith, many, h))

one_outcome : (store : Store) (e : End) (o p : OutcomeTree) → IsEnd store e o → IsEnd store e p → o ≡ p
one_outcome store (end.Value w) o p (v, d, h) (u, k, g) =
    h ∙ ap value_outcome (one_value store.cells.items w v u d k) ∙ sym g
one_outcome store (end.Trap t) o p h k = h ∙ sym k
one_outcome store end.BudgetEnd o p h k = h ∙ sym k

pub one_shown : MachinesShowOneStep
one_shown code m (going s) (going t) (p, vs, (on, h), e) (q, us, (same_on, k), g) =
    let s = m.run.stack in
    let same = one_value_each s.store.cells.items s.words.items vs us h k in
    ap going (e ∙ ap (state_of m.run) same ∙ sym g)
one_shown code m (going s) (done o) (p, vs, x, e) (f, q, k) = absurd cc
one_shown code m (going s) stuck (p, vs, x, e) q = absurd cc
one_shown code m (done o) (going t) (e, p, h) (q, us, x, g) = absurd cc
one_shown code m (done o) (done u) (e, p, h) (f, q, k) =
    let same : f ≡ e = cc in
    ap done (one_outcome m.run.stack.store e o u h (subst (λ x. IsEnd m.run.stack.store x u) same k))
one_shown code m (done o) stuck (e, p, h) q = absurd cc
one_shown code m stuck (going t) p (q, us, x, g) = absurd cc
one_shown code m stuck (done o) p (e, q, h) = absurd cc
one_shown code m stuck stuck p q = refl
