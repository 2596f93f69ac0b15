-- If jumps go forward, each step makes a number fall: so a run ends, whatever the code means.
use Rattle.std.proofs.Common.{◌≡◌, refl, ap, ℕ, zero, suc, ◌+◌, ◌-◌, ◌*◌, ◌<◌, true, false, cond, List, [], ◌∷◌, ◌++◌, length, take, drop, Option, Some, None, Result, Ok, Err, slice_get, arith}
use Rattle.std.specs.Prelude.{nat_le, nat_lt}
use Rattle.std.proofs.lemmas.Option.{slice_get_within}
use Rattle.um_tree.specs.declared.expression.Arith.TheVariants as arith_of
use Rattle.um_tree.specs.declared.expression.Sign.TheVariants as sign
use Rattle.um_tree.specs.ValueTree.{ValueTree, ValueTrees, truth_value, number_value, list_value, record_value, no_values, more_values, values_in_order}
use Rattle.um_tree.specs.Meaning.{Stop, trap, budget_end, wrong, calculated, compared, negated, not_of, raised, longer}
use Rattle.um_machine.specs.declared.op.Op.{Op}
use Rattle.um_machine.specs.declared.op.Op.TheVariants.{PushNum, PushBool, Load, Add, Sub, Mul, Div, Neg, Not, Lt, Le, Eq, Jump, JumpIfNot, MakeList, Cons, Split, MakeRec, Field, Slide, Call, Ret, Pow}
use Rattle.um_machine.specs.declared.code.Entry.{Entry}
use Rattle.um_machine.specs.declared.code.Code.{Code}
use Rattle.um_machine.specs.Stack.{takes, on_one, on_two, on_found}
use Rattle.um_machine.specs.Jumps.{GoesForward, JumpsGoForward}
use Rattle.um_machine.specs.Machine.{Frame, State, Step, going, done, stuck, op_within, op_at, arrive, goes, pushes, after, part_of, by_truth, by_list, takes_one, takes_two, gathers, spends, begun, enters, returns, act, step}

-- what the callers have still to do, at most
abbrev pub waits : ℕ → Frame → List Frame → ℕ
waits l r [] = 0
waits l r (g ∷ gs) = (l - r.back) + waits l g gs

-- in code of l instructions
abbrev pub rank : ℕ → State → ℕ
rank l s = s.budget * (l + 1) + (waits l s.running s.callers + (l - s.at))

within_ops : (ops : List Op) (e : Option Entry) (a : ℕ) (i : Op) → op_within ops e a ≡ Some i → slice_get ops a ≡ Some i
within_ops ops None a i h = absurd cc
within_ops ops (Some e) a i h =
    elim (nat_le e.start a) as (λ b. cond b (cond (nat_lt a e.end) (slice_get ops a) None) None ≡ Some i → slice_get ops a ≡ Some i) [
      | true ↦ elim (nat_lt a e.end) as (λ b. cond b (slice_get ops a) None ≡ Some i → slice_get ops a ≡ Some i) [ true ↦ λ h. h | false ↦ λ h. absurd cc ]
      | false ↦ λ h. absurd cc
    ] h

pub op_is : (code : Code) (f a : ℕ) (i : Op) → op_at code f a ≡ Some i → slice_get code.ops a ≡ Some i
unfolding op_at
op_is code f a i h = within_ops code.ops (slice_get code.entries f) a i h

module _ (code : Code) (l : ℕ) where
  -- whatever goes on has a lower rank
  abbrev pub Falls : ℕ → Step → Type 0
  Falls n (going t) = rank l t < n
  Falls n (done o) = Unit {0}
  Falls n stuck = Unit {0}

  takes_falls : (n base k : ℕ) (st : List ValueTree) (go : List ValueTree → List ValueTree → Step) → ((low vs : List ValueTree) → Falls n (go low vs)) → Falls n (takes base k st stuck go)
  unfolding takes
  takes_falls n base k st go h =
      elim (nat_le (base + k) (length st)) as (λ b. Falls n (cond b (go (take (length st - k) st) (drop (length st - k) st)) stuck)) [ true ↦ h _ _ | false ↦ tt ]

  one_falls : (n : ℕ) (vs : List ValueTree) (go : ValueTree → Step) → ((y : ValueTree) → Falls n (go y)) → Falls n (on_one vs stuck go)
  one_falls n [] go h = tt
  one_falls n (x ∷ []) go h = h x
  one_falls n (x ∷ y ∷ vs) go h = tt

  two_fall : (n : ℕ) (vs : List ValueTree) (go : ValueTree → ValueTree → Step) → ((x y : ValueTree) → Falls n (go x y)) → Falls n (on_two vs stuck go)
  two_fall n [] go h = tt
  two_fall n (x ∷ []) go h = tt
  two_fall n (x ∷ y ∷ []) go h = h x y
  two_fall n (x ∷ y ∷ z ∷ vs) go h = tt

  after_falls : (n : ℕ) (r : Result ValueTree Stop) (go : ValueTree → Step) → ((v : ValueTree) → Falls n (go v)) → Falls n (after r go)
  after_falls n (Ok v) go h = h v
  after_falls n (Err (trap x)) go h = tt
  after_falls n (Err budget_end) go h = tt
  after_falls n (Err wrong) go h = tt

  found_falls : {A : Type 0} (n : ℕ) (o : Option A) (go : A → Step) → ((v : A) → Falls n (go v)) → Falls n (on_found o stuck go)
  found_falls n None go h = tt
  found_falls n (Some v) go h = h v

  arrive_falls : (n : ℕ) (u : State) → rank l u < n → Falls n (arrive code u)
  arrive_falls n u h = found_falls n (op_at code u.running.function u.at) (λ i. going u) (λ i. h)

  -- a later address in the same function
  moves : (s : State) (st : List ValueTree) (a : ℕ) → s.at < a → s.at < l → Falls (rank l s) (goes code s st a)
  moves s st a p q = arrive_falls (rank l s) (record s { at = a; stack = st }) (omega arith)

  pushes_move : (s : State) (st : List ValueTree) (v : ValueTree) → s.at < l → Falls (rank l s) (pushes code s st v)
  pushes_move s st v q = moves s (st ++ v ∷ []) (s.at + 1) (omega arith) q

  truth_falls : (n : ℕ) (y : ValueTree) (a b : Step) → Falls n a → Falls n b → Falls n (by_truth y a b)
  truth_falls n (truth_value true) a b p q = p
  truth_falls n (truth_value false) a b p q = q
  truth_falls n (number_value i) a b p q = tt
  truth_falls n (list_value vs) a b p q = tt
  truth_falls n (record_value k vs) a b p q = tt

  list_falls : (n : ℕ) (y : ValueTree) (a : Step) (b : ValueTree → ValueTree → Step) → Falls n a → ((h r : ValueTree) → Falls n (b h r)) → Falls n (by_list y a b)
  list_falls n (list_value no_values) a b p q = p
  list_falls n (list_value (more_values v vs)) a b p q = q v (list_value vs)
  list_falls n (truth_value x) a b p q = tt
  list_falls n (number_value i) a b p q = tt
  list_falls n (record_value k vs) a b p q = tt

  takes_one_falls : (s : State) (g : ValueTree → Result ValueTree Stop) → s.at < l → Falls (rank l s) (takes_one code s g)
  takes_one_falls s g q =
      takes_falls (rank l s) s.running.base 1 s.stack _ (λ low vs. one_falls (rank l s) vs (λ y. after (g y) (pushes code s low)) (λ y. after_falls (rank l s) (g y) (pushes code s low) (λ v. pushes_move s low v q)))

  takes_two_falls : (s : State) (g : ValueTree → ValueTree → Result ValueTree Stop) → s.at < l → Falls (rank l s) (takes_two code s g)
  takes_two_falls s g q =
      takes_falls (rank l s) s.running.base 2 s.stack _ (λ low vs. two_fall (rank l s) vs (λ x y. after (g x y) (pushes code s low)) (λ x y. after_falls (rank l s) (g x y) (pushes code s low) (λ v. pushes_move s low v q)))

  gathers_falls : (s : State) (n : ℕ) (make : ValueTrees → ValueTree) → s.at < l → Falls (rank l s) (gathers code s n make)
  gathers_falls s n make q = takes_falls (rank l s) s.running.base n s.stack _ (λ low vs. pushes_move s low (make (values_in_order vs)) q)

  spends_fall : (n b : ℕ) (go : ℕ → Step) → ((c : ℕ) → b ≡ suc c → Falls n (go c)) → Falls n (spends b go)
  spends_fall n zero go h = tt
  spends_fall n (suc c) go h = h c refl

  entered_falls : (s : State) (f : ℕ) (e : Entry) (base c : ℕ) → s.budget ≡ suc c → s.at < l → rank l (begun s f e base c) < rank l s
  entered_falls s f e base c h q = let same : s.budget * (l + 1) ≡ suc c * (l + 1) = ap (λ n. n * (l + 1)) h in omega arith

  enters_fall : (s : State) (f : ℕ) (e : Option Entry) → s.at < l → Falls (rank l s) (enters code s f e)
  enters_fall s f None q = tt
  enters_fall s f (Some e) q =
      takes_falls (rank l s) s.running.base e.params s.stack _ (λ low vs. spends_fall (rank l s) s.budget (λ b. on_found (op_at code s.running.function (s.at + 1)) stuck (λ i. arrive code (begun s f e (length low) b))) (λ c h. found_falls (rank l s) (op_at code s.running.function (s.at + 1)) (λ i. arrive code (begun s f e (length low) c)) (λ i. arrive_falls (rank l s) (begun s f e (length low) c) (entered_falls s f e (length low) c h q))))

  returns_fall : (s : State) (y : ValueTree) (low : List ValueTree) (cs : List Frame) → s.callers ≡ cs → s.at < l → Falls (rank l s) (returns code s y low cs)
  returns_fall s y low [] e q = tt
  returns_fall s y low (g ∷ gs) e q =
      let same : waits l s.running s.callers ≡ (l - s.running.back) + waits l g gs = ap (waits l s.running) e in
      arrive_falls (rank l s) (record { at = s.running.back; stack = low ++ y ∷ []; running = g; callers = gs; budget = s.budget }) (omega arith)

  act_falls : (s : State) (i : Op) → GoesForward s.at i → s.at < l → Falls (rank l s) (act code s i)
  act_falls s (PushNum c) f q = pushes_move s s.stack (number_value c) q
  act_falls s (PushBool b) f q = pushes_move s s.stack (truth_value b) q
  act_falls s (Load k) f q = found_falls (rank l s) (slice_get s.stack (s.running.base + k)) (pushes code s s.stack) (λ v. pushes_move s s.stack v q)
  act_falls s Add f q = takes_two_falls s (calculated arith_of.Add) q
  act_falls s Sub f q = takes_two_falls s (calculated arith_of.Sub) q
  act_falls s Mul f q = takes_two_falls s (calculated arith_of.Mul) q
  act_falls s Div f q = takes_two_falls s (calculated arith_of.Div) q
  act_falls s Neg f q = takes_one_falls s negated q
  act_falls s Not f q = takes_one_falls s not_of q
  act_falls s Lt f q = takes_two_falls s (compared sign.Lt) q
  act_falls s Le f q = takes_two_falls s (compared sign.Le) q
  act_falls s Eq f q = takes_two_falls s (compared sign.Eq) q
  act_falls s (Jump a) f q = moves s s.stack a f q
  act_falls s (JumpIfNot a) f q =
      takes_falls (rank l s) s.running.base 1 s.stack _ (λ low vs. one_falls (rank l s) vs (λ y. by_truth y (goes code s low (s.at + 1)) (goes code s low a)) (λ y. truth_falls (rank l s) y _ _ (moves s low (s.at + 1) (omega arith) q) (moves s low a f q)))
  act_falls s (MakeList n) f q = gathers_falls s n list_value q
  act_falls s Cons f q = takes_two_falls s longer q
  act_falls s (Split a) f q =
      takes_falls (rank l s) s.running.base 1 s.stack _ (λ low vs. one_falls (rank l s) vs (λ y. by_list y (goes code s low a) (λ h u. goes code s (low ++ h ∷ u ∷ []) (s.at + 1))) (λ y. list_falls (rank l s) y (goes code s low a) (λ h u. goes code s (low ++ h ∷ u ∷ []) (s.at + 1)) (moves s low a f q) (λ h u. moves s (low ++ h ∷ u ∷ []) (s.at + 1) (omega arith) q)))
  act_falls s (MakeRec r n) f q = gathers_falls s n (record_value r) q
  act_falls s (Field k) f q = takes_one_falls s (part_of k) q
  act_falls s (Slide k) f q =
      takes_falls (rank l s) s.running.base 1 s.stack _ (λ low vs. one_falls (rank l s) vs (λ y. takes s.running.base k low stuck (λ lower dropped. pushes code s lower y)) (λ y. takes_falls (rank l s) s.running.base k low _ (λ lower dropped. pushes_move s lower y q)))
  act_falls s (Call g) f q = enters_fall s g (slice_get code.entries g) q
  act_falls s Ret f q =
      takes_falls (rank l s) s.running.base 1 s.stack _ (λ low vs. one_falls (rank l s) vs (λ y. returns code s y (take s.running.base low) s.callers) (λ y. returns_fall s y (take s.running.base low) s.callers refl q))
  act_falls s (Pow k) f q = takes_one_falls s (raised k) q

  some_falls : (s : State) (o : Option Op) → ((i : Op) → o ≡ Some i → GoesForward s.at i × (s.at < l)) → Falls (rank l s) (on_found o stuck (act code s))
  some_falls s None f = tt
  some_falls s (Some i) f = let g = f i refl in act_falls s i g.0 g.1

pub step_falls : (code : Code) → JumpsGoForward code → (s : State) → Falls code (length code.ops) (rank (length code.ops) s) (step code s)
unfolding step
step_falls code forward s =
    some_falls code (length code.ops) s (op_at code s.running.function s.at) (λ i e. let g = op_is code s.running.function s.at i e in (forward s.at i g, slice_get_within code.ops s.at i g))
