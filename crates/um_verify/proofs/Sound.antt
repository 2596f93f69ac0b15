-- Verified code never gets stuck.
use Rattle.std.proofs.Common.{◌≡◌, ◌≢◌, refl, sym, subst, ap, ◌∙◌, ℕ, zero, suc, ◌+◌, ◌-◌, ◌<◌, ◌≤◌, Bool, true, false, cond, List, [], ◌∷◌, ◌++◌, length, take, drop, Option, Some, None, Result, Ok, Err, slice_get, arith, inl, inr, append_assoc, length-append, length-drop}
use Rattle.std.specs.Prelude.{nat_eq, nat_le}
use Rattle.std.proofs.Math.Seq.{take-append_seam, drop-append_seam}
use Rattle.std.proofs.lemmas.List.{take-append-drop}
use Rattle.std.proofs.lemmas.Bool.{le-leb}
use Rattle.std.proofs.lemmas.Bool.Decides.{nat_tests}
use Rattle.um_tree.specs.declared.expression.Arith.TheVariants as arith_of
use Rattle.um_tree.specs.declared.expression.Sign.TheVariants as sign
use Rattle.um_tree.specs.ValueTree.{ValueTree, ValueTrees, truth_value, number_value, list_value, record_value, no_values, more_values, values_in_order, value_outcome, trap_outcome, budget_outcome}
use Rattle.um_tree.specs.Meaning.{Stop, trap, budget_end, wrong, calculated, compared, negated, not_of, raised, longer, value_at}
use Rattle.um_machine.specs.declared.op.Op.{Op}
use Rattle.um_machine.specs.declared.op.Op.TheVariants.{PushNum, PushBool, Load, Add, Sub, Mul, Div, Neg, Not, Lt, Le, Eq, Jump, JumpIfNot, MakeList, Cons, Split, MakeRec, Field, Slide, Call, Ret, Pow}
use Rattle.um_machine.specs.declared.code.Entry.{Entry}
use Rattle.um_machine.specs.declared.code.Code.{Code}
use Rattle.um_machine.specs.Stack.{takes, on_one, on_two, on_found}
use Rattle.um_machine.specs.Machine.{Frame, State, Step, going, done, stuck, op_at, arrive, pushes, after, part_of, by_truth, by_list, takes_one, takes_two, gathers, spends, begun, enters, returns, act, step, next, runs, starts, Runs}
use Rattle.um_verify.specs.StackShape.{StackShape, void, bool, num, list, made, fits, join, fit_all, join_items}
use Rattle.um_verify.specs.ImageTree.{ImageTree, Match}
use Rattle.um_verify.specs.Rules.{Body, View, view_of, Sent, Flow, fails, passes, need, to, on_list_shape, on_record_shape, fields_of, fit_one, fit_two, rule, inside, low_states, forwards}
use Rattle.um_verify.specs.Verified.{Met, nobody, clash, arrived, passed, met, flow, Passes, CodeHolds}
use Rattle.um_verify.proofs.Fits.{IfSome, HasIt, FieldsHave, Have, Below, each_below, none_void, fits_below, join_left, join_right, fit_below, items_joined, fields_have, same_length, have_both, have_take, have_drop, equal_numbers}
use Rattle.um_verify.proofs.Arrived.{Among, Holds, Opens, passed_on}
use Rattle.um_verify.proofs.Bodies.{entry_of, op_in_body}
use Rattle.um_verify.proofs.Operations.{Gives, calculated_gives, compared_gives, negated_gives, raised_gives, not_gives, part_gives}

same_body : (x y : Body) → Some x ≡ Some y → x ≡ y
same_body x y h = cc

module _ (image : ImageTree) (matched : Match image.code.entries image.heads) (outer : StackShape) where
  abbrev code : Code
  code = image.code

  abbrev view : View
  view = view_of image

  abbrev Is : ValueTree → StackShape → Type 0
  Is v s = HasIt view.fields v s

  abbrev HaveAll : List ValueTree → List StackShape → Type 0
  HaveAll vs ss = Have view.fields vs ss

  -- the callers go on with a value of the result's shape
  abbrev pub Waits : List ValueTree → ℕ → ℕ → List Frame → Type 0
  Waits low f back [] = (e : Body) → slice_get view.bodies f ≡ Some e → (v : ValueTree) → HasIt view.fields v e.result → HasIt view.fields v outer
  Waits low f back (g ∷ gs) =
      (lo own : List ValueTree) × (low ≡ lo ++ own) × (g.base ≡ length lo) × Opens view g.function back (λ vs. (e : Body) × (v : ValueTree) × (slice_get view.bodies f ≡ Some e) × HasIt view.fields v e.result × (vs ≡ own ++ v ∷ [])) × Waits lo g.function g.back gs

  -- the running frame's values have arrived at the address
  abbrev pub Good : State → Type 0
  Good s = (low own : List ValueTree) × (s.stack ≡ low ++ own) × (s.running.base ≡ length low) × Opens view s.running.function s.at (λ vs. vs ≡ own) × Waits low s.running.function s.running.back s.callers

  abbrev pub SafeStep : Step → Type 0
  SafeStep (going s) = Good s
  SafeStep (done (value_outcome v)) = HasIt view.fields v outer
  SafeStep (done (trap_outcome t)) = Unit {0}
  SafeStep (done budget_outcome) = Unit {0}
  SafeStep stuck = ⊥

  module _ (filled : (f : ℕ) (b : Body) → slice_get view.bodies f ≡ Some b → b.start < b.end) (verified : CodeHolds view) where
    passed_some : (e : Body) (a : ℕ) (o : Option Op) (m : Met) → Passes (passed view e a o m) → (i : Op) × (o ≡ Some i)
    passed_some e a None m h = absurd h
    passed_some e a (Some i) m h = (i, refl)

    -- the instruction at an address that opens
    op_there : (f a : ℕ) (P : List ValueTree → Type 0) → Opens view f a P → (i : Op) × (op_at code f a ≡ Some i)
    op_there f a P h =
        let start = h.3 in
        let end = h.4 in
        let g = passed_some h.0 (h.0.start + h.1) (slice_get code.ops (h.0.start + h.1)) (met view h.0 (h.0.start + h.1) h.1) (verified f h.0 h.2 h.1 (subst (λ (x : ℕ). x < h.0.end) (sym h.3) h.4)) in
        (g.0, op_in_body image matched f h.0 a h.2 (omega arith) h.4 ∙ ap (slice_get code.ops) (sym h.3) ∙ g.1)

    arrive_good : (s : State) → Good s → SafeStep (arrive code s)
    arrive_good s h =
        let i = op_there s.running.function s.at _ h.4 in subst (λ (o : Option Op). SafeStep (on_found o stuck (λ i. going s))) (sym i.1) h

    opens_less : (f a : ℕ) (P Q : List ValueTree → Type 0) → ((vs : List ValueTree) → Q vs → P vs) → Opens view f a P → Opens view f a Q
    opens_less f a P Q g h = (h.0, h.1, h.2, h.3, h.4, λ vs q. h.5 vs (g vs q))

    -- within one activation of a function
    module _ (f back a : ℕ) (low : List ValueTree) (callers : List Frame) (b : ℕ) (waits : Waits low f back callers) where
      abbrev frame : Frame
      frame = record { function = f; back = back; base = length low }

      abbrev at_state : ℕ → List ValueTree → State
      at_state t stack = record { at = t; stack = stack; running = frame; callers = callers; budget = b }

      -- where the rule holds, and what it passes on is taken in, the step is safe
      abbrev Backed : Flow → Step → Type 0
      Backed fails st = Unit {0}
      Backed (passes ps) st = ((p : Sent) → Among p ps → Opens view f p.to (λ vs. HaveAll vs p.state)) → SafeStep st

      need_backed : (t : Bool) (fl : Flow) (st : Step) → (t ≡ true → Backed fl st) → Backed (need t fl) st
      need_backed true fl st h = h refl
      need_backed false fl st h = tt

      one_backed : (vs : List ValueTree) (ss : List StackShape) (go : StackShape → Flow) (gone : ValueTree → Step) → HaveAll vs ss → ((v : ValueTree) (s : StackShape) → Is v s → Backed (go s) (gone v)) → Backed (on_one ss fails go) (on_one vs stuck gone)
      one_backed [] [] go gone h k = tt
      one_backed (v ∷ []) (s ∷ []) go gone h k = k v s h.0
      one_backed (v ∷ w ∷ vs) (s ∷ t ∷ ss) go gone h k = tt
      one_backed vs [] go gone h k = tt
      one_backed [] (s ∷ ss) go gone h k = absurd h
      one_backed (v ∷ []) (s ∷ t ∷ ss) go gone h k = tt
      one_backed (v ∷ w ∷ vs) (s ∷ []) go gone h k = absurd h.1

      two_backed : (vs : List ValueTree) (ss : List StackShape) (go : StackShape → StackShape → Flow) (gone : ValueTree → ValueTree → Step) → HaveAll vs ss → ((v w : ValueTree) (s t : StackShape) → Is v s → Is w t → Backed (go s t) (gone v w)) → Backed (on_two ss fails go) (on_two vs stuck gone)
      two_backed (v ∷ w ∷ []) (s ∷ t ∷ []) go gone h k = k v w s t h.0 h.1.0
      two_backed vs [] go gone h k = tt
      two_backed vs (s ∷ []) go gone h k = tt
      two_backed vs (s ∷ t ∷ u ∷ ss) go gone h k = tt
      two_backed [] (s ∷ t ∷ []) go gone h k = absurd h
      two_backed (v ∷ []) (s ∷ t ∷ []) go gone h k = absurd h.1
      two_backed (v ∷ w ∷ x ∷ vs) (s ∷ t ∷ []) go gone h k = absurd h.1.1

      found_backed : (vs : List ValueTree) (ss : List StackShape) (k : ℕ) (go : StackShape → Flow) (gone : ValueTree → Step) → HaveAll vs ss → ((v : ValueTree) (s : StackShape) → Is v s → Backed (go s) (gone v)) → Backed (on_found (slice_get ss k) fails go) (on_found (slice_get vs k) stuck gone)
      found_backed [] [] zero go gone h g = tt
      found_backed [] [] (suc k) go gone h g = tt
      found_backed (v ∷ vs) (s ∷ ss) zero go gone h g = g v s h.0
      found_backed (v ∷ vs) (s ∷ ss) (suc k) go gone h g = found_backed vs ss k go gone h.1 g
      found_backed [] (s ∷ ss) k go gone h g = absurd h
      found_backed (v ∷ vs) [] k go gone h g = absurd h

      get_above : (lo own : List ValueTree) (k : ℕ) → slice_get (lo ++ own) (length lo + k) ≡ slice_get own k
      get_above [] own k = let e : 0 + k ≡ k = omega arith in ap (slice_get own) e
      get_above (v ∷ lo) own k = let e : length (v ∷ lo) + k ≡ suc (length lo + k) = omega arith in ap (slice_get (v ∷ (lo ++ own))) e ∙ get_above lo own k

      takes_top : (own vs : List ValueTree) (n : ℕ) (go : List ValueTree → List ValueTree → Step) → n ≡ length vs → takes (length low) n (low ++ (own ++ vs)) stuck go ≡ go (low ++ own) vs
      unfolding takes
      takes_top own vs n go h =
          let assoc : low ++ (own ++ vs) ≡ (low ++ own) ++ vs = sym (append_assoc low own vs) in
          let len : length ((low ++ own) ++ vs) ≡ length low + length own + length vs = omega (arith, length-append (low ++ own) vs, length-append low own) in
          let lo : length (low ++ own) ≡ length low + length own = length-append low own in
          let enough : length low + n ≤ length ((low ++ own) ++ vs) = omega arith in
          let at : length ((low ++ own) ++ vs) - n ≡ length (low ++ own) = omega arith in
          ap (λ s. cond (nat_le (length low + n) (length s)) (go (take (length s - n) s) (drop (length s - n) s)) stuck) assoc
          ∙ ap (λ b. cond b (go (take (length ((low ++ own) ++ vs) - n) ((low ++ own) ++ vs)) (drop (length ((low ++ own) ++ vs) - n) ((low ++ own) ++ vs))) stuck) (le-leb _ _ enough)
          ∙ ap (λ m. go (take m ((low ++ own) ++ vs)) (drop m ((low ++ own) ++ vs))) at
          ∙ (λ i. go (take-append_seam (low ++ own) vs i) (drop-append_seam (low ++ own) vs i))

      enough_length : (m n : ℕ) → nat_le m n ≡ true → m ≤ n
      enough_length m n h = grind (arith, nat_tests)

      drop_length : (own : List ValueTree) (n : ℕ) → n ≤ length own → n ≡ length (drop (length own - n) own)
      drop_length own n h =
          let e : length (take (length own - n) own) + length (drop (length own - n) own) ≡ length own = sym (length-append (take (length own - n) own) (drop (length own - n) own)) ∙ ap length (take-append-drop (length own - n) own) in
          let k : length (drop (length own - n) own) ≡ length own - (length own - n) = length-drop (length own - n) own in
          omega arith

      -- values from the top, which are the frame's own
      takes_backed : (own : List ValueTree) (st : List StackShape) (n : ℕ) (go : List StackShape → List StackShape → Flow) (gone : List ValueTree → List ValueTree → Step) → HaveAll own st → ((lo hi : List ValueTree) (ls hs : List StackShape) → own ≡ lo ++ hi → HaveAll lo ls → HaveAll hi hs → Backed (go ls hs) (gone (low ++ lo) hi)) → Backed (takes 0 n st fails go) (takes (length low) n (low ++ own) stuck gone)
      unfolding takes
      takes_backed own st n go gone h k =
          elim (nat_le (0 + n) (length st)) as (λ t. nat_le (0 + n) (length st) ≡ t → Backed (cond t (go (take (length st - n) st) (drop (length st - n) st)) fails) (takes (length low) n (low ++ own) stuck gone)) [
            | true ↦ λ e.
                let l : length own ≡ length st = same_length view.fields own st h in
                let w : 0 + n ≤ length st = enough_length _ _ e in
                let x : n ≤ length own = omega arith in
                let m : length own - n ≡ length st - n = ap (λ (z : ℕ). z - n) l in
                let lo : List ValueTree = take (length own - n) own in
                let hi : List ValueTree = drop (length own - n) own in
                let parts : own ≡ lo ++ hi = sym (take-append-drop (length own - n) own) in
                let same : takes (length low) n (low ++ own) stuck gone ≡ gone (low ++ lo) hi = ap (λ (o : List ValueTree). takes (length low) n (low ++ o) stuck gone) parts ∙ takes_top lo hi n gone (drop_length own n x) in
                subst (Backed (go (take (length st - n) st) (drop (length st - n) st))) (sym same)
                (k lo hi (take (length st - n) st) (drop (length st - n) st) parts
                (subst (λ (j : ℕ). HaveAll lo (take j st)) m (have_take view.fields (length own - n) own st h))
                (subst (λ (j : ℕ). HaveAll hi (drop j st)) m (have_drop view.fields (length own - n) own st h)))
            | false ↦ λ e. tt
          ] refl

      -- the step arrives at an address of the function
      arrives_backed : (t : ℕ) (own stack : List ValueTree) (st : List StackShape) → stack ≡ low ++ own → HaveAll own st → Opens view f t (λ vs. HaveAll vs st) → SafeStep (arrive code (at_state t stack))
      arrives_backed t own stack st e h o =
          arrive_good (at_state t stack) (low, own, e, refl, opens_less f t _ (λ vs. vs ≡ own) (λ vs q. subst (λ (ws : List ValueTree). HaveAll ws st) (sym q) h) o, waits)

      pushes_backed : (all own : List ValueTree) (st : List StackShape) (v : ValueTree) (s : StackShape) → HaveAll own st → Is v s → Backed (to (a + 1) (st ++ s ∷ [])) (pushes code (at_state a all) (low ++ own) v)
      pushes_backed all own st v s h k o =
          arrives_backed (a + 1) (own ++ v ∷ []) _ (st ++ s ∷ []) (append_assoc low own (v ∷ [])) (have_both view.fields own st (v ∷ []) (s ∷ []) h (k, tt)) (o _ (inl refl))

      -- what an operation gives is pushed, or it traps
      after_backed : (all own : List ValueTree) (st : List StackShape) (r : Result ValueTree Stop) (s : StackShape) → HaveAll own st → Gives view.fields s r → Backed (to (a + 1) (st ++ s ∷ [])) (after r (pushes code (at_state a all) (low ++ own)))
      after_backed all own st (Ok v) s h k = pushes_backed all own st v s h k
      after_backed all own st (Err (trap t)) s h k = λ o. tt
      after_backed all own st (Err budget_end) s h k = λ o. tt
      after_backed all own st (Err wrong) s h k = absurd k

      fit_one_backed : (own : List ValueTree) (st : List StackShape) (asked given : StackShape) (g : ValueTree → Result ValueTree Stop) → HaveAll own st → ((v : ValueTree) → Is v asked → Gives view.fields given (g v)) → Backed (fit_one a st asked given) (takes_one code (at_state a (low ++ own)) g)
      fit_one_backed own st asked given g h k =
          takes_backed own st 1 _ _ h (λ lo hi ls hs p x y. one_backed hi hs (λ s. need (fits s asked) (to (a + 1) (ls ++ given ∷ []))) (λ v. after (g v) (pushes code (at_state a (low ++ own)) (low ++ lo))) y (λ v s q. need_backed (fits s asked) _ _ (λ c.
          after_backed (low ++ own) lo ls (g v) given x (k v (fits_below view.fields s asked c v q)))))

      fit_two_backed : (own : List ValueTree) (st : List StackShape) (asked given : StackShape) (g : ValueTree → ValueTree → Result ValueTree Stop) → HaveAll own st → ((v w : ValueTree) → Is v asked → Is w asked → Gives view.fields given (g v w)) → Backed (fit_two a st asked given) (takes_two code (at_state a (low ++ own)) g)
      fit_two_backed own st asked given g h k =
          takes_backed own st 2 _ _ h (λ lo hi ls hs p x y. two_backed hi hs (λ s t. need (fits s asked) (need (fits t asked) (to (a + 1) (ls ++ given ∷ [])))) (λ v w. after (g v w) (pushes code (at_state a (low ++ own)) (low ++ lo))) y (λ v w s t q r. need_backed (fits s asked) _ _ (λ c. need_backed (fits t asked) _ _ (λ d.
          after_backed (low ++ own) lo ls (g v w) given x (k v w (fits_below view.fields s asked c v q) (fits_below view.fields t asked d w r))))))

      by_truth_backed : (fl : Flow) (v : ValueTree) (x y : Step) → Is v bool → Backed fl x → Backed fl y → Backed fl (by_truth v x y)
      by_truth_backed fl (truth_value true) x y h k l = k
      by_truth_backed fl (truth_value false) x y h k l = l
      by_truth_backed fl v x y h k l = absurd h

      joined_backed : (o : Option StackShape) (P : StackShape → Type 0) (go : StackShape → Flow) (st : Step) → IfSome o P → ((s : StackShape) → P s → Backed (go s) st) → Backed (on_found o fails go) st
      joined_backed None P go st h k = tt
      joined_backed (Some s) P go st h k = k s h

      both_joined : (x i : StackShape) (o : Option StackShape) → IfSome o (Below view.fields x) → IfSome o (Below view.fields i) → IfSome o (λ s. Below view.fields x s × Below view.fields i s)
      both_joined x i None h k = tt
      both_joined x i (Some s) h k = (h, k)

      -- a head and a tail
      cons_backed : (all lo : List ValueTree) (ls : List StackShape) (v w : ValueTree) (s t : StackShape) → HaveAll lo ls → Is v s → Is w t → Backed (on_list_shape t (λ item tail. on_found (join s item) fails (λ u. to (a + 1) (ls ++ list u ∷ [])))) (after (longer v w) (pushes code (at_state a all) (low ++ lo)))
      cons_backed all lo ls v w s void k q r = none_void view.fields w _ r
      cons_backed all lo ls v w s bool k q r = tt
      cons_backed all lo ls v w s num k q r = tt
      cons_backed all lo ls v (list_value ys) s (list i) k q r =
          joined_backed (join s i) _ _ _ (both_joined s i (join s i) (join_left view.fields s i) (join_right view.fields s i)) (λ u m.
          after_backed all lo ls (longer v (list_value ys)) (list u) k (m.0 v q, each_below view.fields i u m.1 ys r))
      cons_backed all lo ls v w s (list i) k q r = absurd r
      cons_backed all lo ls v w s (made n) k q r = tt

      -- a list that is split
      split_backed : (t : ℕ) (lo : List ValueTree) (ls : List StackShape) (y : ValueTree) (s : StackShape) → HaveAll lo ls → Is y s → Backed (on_list_shape s (λ item tail. passes (record { to = t; state = ls } ∷ record { to = a + 1; state = ls ++ item ∷ tail ∷ [] } ∷ []))) (by_list y (arrive code (at_state t (low ++ lo))) (λ h u. arrive code (at_state (a + 1) ((low ++ lo) ++ h ∷ u ∷ []))))
      split_backed t lo ls y void k q = none_void view.fields y _ q
      split_backed t lo ls y bool k q = tt
      split_backed t lo ls y num k q = tt
      split_backed t lo ls (list_value no_values) (list i) k q = λ o. arrives_backed t lo (low ++ lo) ls refl k (o _ (inl refl))
      split_backed t lo ls (list_value (more_values y ys)) (list i) k q = λ o.
          arrives_backed (a + 1) (lo ++ y ∷ list_value ys ∷ []) _ (ls ++ i ∷ list i ∷ []) (append_assoc low lo (y ∷ list_value ys ∷ [])) (have_both view.fields lo ls (y ∷ list_value ys ∷ []) (i ∷ list i ∷ []) k (q.0, (q.1, tt))) (o _ (inr (inl refl)))
      split_backed t lo ls y (list i) k q = absurd q
      split_backed t lo ls y (made r) k q = tt

      -- a part of a record
      part_backed : (all lo : List ValueTree) (ls : List StackShape) (j : ℕ) (ys : ValueTrees) (ss : List StackShape) (o : Option StackShape) → slice_get ss j ≡ o → HaveAll lo ls → FieldsHave view.fields ys ss → Backed (on_found o fails (λ s. to (a + 1) (ls ++ s ∷ []))) (after (value_at ys j) (pushes code (at_state a all) (low ++ lo)))
      part_backed all lo ls j ys ss None e k h = tt
      part_backed all lo ls j ys ss (Some s) e k h = after_backed all lo ls (value_at ys j) s k (part_gives view.fields ys ss j s h e)

      abbrev fields_flow : ℕ → List StackShape → Option (List StackShape) → Flow
      fields_flow j ls o = on_found (slice_get (fields_of o) j) fails (λ s. to (a + 1) (ls ++ s ∷ []))

      field_backed : (all lo : List ValueTree) (ls : List StackShape) (j : ℕ) (v : ValueTree) (s : StackShape) → HaveAll lo ls → Is v s → Backed (on_record_shape s (to (a + 1) (ls ++ void ∷ [])) (λ r. fields_flow j ls (slice_get view.fields r))) (after (part_of j v) (pushes code (at_state a all) (low ++ lo)))
      field_backed all lo ls j v void k q = none_void view.fields v _ q
      field_backed all lo ls j v bool k q = tt
      field_backed all lo ls j v num k q = tt
      field_backed all lo ls j v (list i) k q = tt
      field_backed all lo ls j (record_value n ys) (made r) k q =
          let there : slice_get view.fields r ≡ Some q.1 = ap (slice_get view.fields) q.0 ∙ q.2 in
          subst (λ (o : Option (List StackShape)). Backed (fields_flow j ls o) (after (value_at ys j) (pushes code (at_state a all) (low ++ lo)))) (sym there)
          (part_backed all lo ls j ys q.1 (slice_get q.1 j) refl k q.3)
      field_backed all lo ls j v (made r) k q = absurd q

      return_safe : (e : Body) → slice_get view.bodies f ≡ Some e → (y : ValueTree) → Is y e.result → (own : List ValueTree) (cs : List Frame) → Waits low f back cs → SafeStep (returns code (at_state a own) y low cs)
      return_safe e s y h own [] w = w e s y h
      return_safe e s y h own (g ∷ gs) w =
          arrive_good (record { at = back; stack = low ++ y ∷ []; running = g; callers = gs; budget = b }) (w.0, w.1 ++ y ∷ [], ap (λ (l : List ValueTree). l ++ y ∷ []) w.2 ∙ append_assoc w.0 w.1 (y ∷ []), w.3, opens_less g.function back _ (λ vs. vs ≡ w.1 ++ y ∷ []) (λ vs q. (e, y, s, h, q)) w.4, w.5)

      start_opens : (g : ℕ) (h : Body) (z : ℕ) → slice_get view.bodies g ≡ Some h → z ≡ h.start → (hi : List ValueTree) → HaveAll hi h.params → Opens view g z (λ vs. vs ≡ hi)
      start_opens g h z s e hi k =
          subst (λ (x : ℕ). Opens view g x (λ vs. vs ≡ hi)) (sym e)
          (h, 0, s, omega arith, filled g h s, λ vs q. subst (λ (t : Bool). Holds view vs (cond t (arrived h.params) nobody)) (sym (equal_numbers h.start h.start refl)) (subst (λ (ws : List ValueTree). HaveAll ws h.params) (sym q) k))

      back_opens : (g : ℕ) (h : Body) → slice_get view.bodies g ≡ Some h → (lo : List ValueTree) (ls : List StackShape) → HaveAll lo ls → Opens view f (a + 1) (λ vs. HaveAll vs (ls ++ h.result ∷ [])) → Opens view f (a + 1) (λ vs. (e : Body) × (v : ValueTree) × (slice_get view.bodies g ≡ Some e) × HasIt view.fields v e.result × (vs ≡ lo ++ v ∷ []))
      back_opens g h s lo ls k =
          opens_less f (a + 1) (λ vs. HaveAll vs (ls ++ h.result ∷ [])) _ (λ vs q.
          let e : q.0 ≡ h = same_body q.0 h (sym q.2 ∙ s) in
          let r : HasIt view.fields q.1 h.result = subst (λ (x : Body). HasIt view.fields q.1 x.result) e q.3 in
          subst (λ (ws : List ValueTree). HaveAll ws (ls ++ h.result ∷ [])) (sym q.4) (have_both view.fields lo ls (q.1 ∷ []) (h.result ∷ []) k (r, tt)))

      spent_safe : (c : ℕ) (go : ℕ → Step) → ((d : ℕ) → SafeStep (go d)) → SafeStep (spends c go)
      spent_safe zero go h = tt
      spent_safe (suc d) go h = h d

      exists_safe : (o : Option Op) (i : Op) (st : Step) → o ≡ Some i → SafeStep st → SafeStep (on_found o stuck (λ i. st))
      exists_safe o i st h k = subst (λ (o : Option Op). SafeStep (on_found o stuck (λ i. st))) (sym h) k

      -- a call of the function with this entry, which takes so many arguments
      abbrev entering : ℕ → Entry → ℕ → List ValueTree → Step
      entering g e n all =
          takes (length low) n all stuck (λ lo args. spends b (λ c. on_found (op_at code f (a + 1)) stuck (λ i. arrive code (begun (at_state a all) g e (length lo) c))))

      abbrev called : Body → ℕ → List StackShape → Flow
      called h n st = takes 0 n st fails (λ ls vs. need (fit_all vs h.params) (to (a + 1) (ls ++ h.result ∷ [])))

      enter_backed : (g : ℕ) (h : Body) (e : Entry) → slice_get view.bodies g ≡ Some h → e.start ≡ h.start → (own : List ValueTree) (st : List StackShape) → HaveAll own st → Backed (called h (length h.params) st) (entering g e (length h.params) (low ++ own))
      enter_backed g h e s q own st k =
          takes_backed own st (length h.params) _ _ k (λ lo hi ls hs p x y. need_backed (fit_all hs h.params) _ _ (λ t o.
          spent_safe b _ (λ c.
          let next = o _ (inl refl) in
          let there = op_there f (a + 1) _ next in
          exists_safe (op_at code f (a + 1)) there.0 _ there.1
          (arrive_good (begun (at_state a (low ++ own)) g e (length (low ++ lo)) c)
          (low ++ lo, hi, ap (λ (ws : List ValueTree). low ++ ws) p ∙ sym (append_assoc low lo hi), refl, start_opens g h e.start s q hi (fit_below view.fields hs h.params t hi y), (low, lo, refl, refl, back_opens g h s lo ls x next, waits))))))

      call_backed : (g : ℕ) (o : Option Body) → slice_get view.bodies g ≡ o → (own : List ValueTree) (st : List StackShape) → HaveAll own st → Backed (on_found o fails (λ h. called h (length h.params) st)) (enters code (at_state a (low ++ own)) g (slice_get code.entries g))
      call_backed g None s own st k = tt
      call_backed g (Some h) s own st k =
          let e = entry_of code.entries image.heads matched g h s in
          subst (λ (o : Option Entry). Backed (called h (length h.params) st) (enters code (at_state a (low ++ own)) g o)) (sym e.1)
          (subst (λ (n : ℕ). Backed (called h (length h.params) st) (entering g e.0 n (low ++ own))) (sym e.4)
          (enter_backed g h e.0 s e.2 own st k))

      module _ (e : Body) (here : slice_get view.bodies f ≡ Some e) where
        made_backed : (r n : ℕ) (own : List ValueTree) (st : List StackShape) → HaveAll own st → (o : Option (List StackShape)) → slice_get view.fields r ≡ o → Backed (on_found o fails (λ ss. need (nat_eq (length ss) n) (takes 0 n st fails (λ ls vs. need (fit_all vs ss) (to (a + 1) (ls ++ made r ∷ [])))))) (gathers code (at_state a (low ++ own)) n (record_value r))
        made_backed r n own st h None g = tt
        made_backed r n own st h (Some ss) g =
            need_backed (nat_eq (length ss) n) _ _ (λ d. takes_backed own st n _ _ h (λ lo hi ls hs p k l. need_backed (fit_all hs ss) _ _ (λ c.
            pushes_backed (low ++ own) lo ls (record_value r (values_in_order hi)) (made r) k (refl, ss, g, fields_have view.fields hi ss (fit_below view.fields hs ss c hi l)))))

        act_backed : (i : Op) (own : List ValueTree) (st : List StackShape) → HaveAll own st → Backed (rule view e a st i) (act code (at_state a (low ++ own)) i)
        act_backed (PushNum c) own st h = pushes_backed (low ++ own) own st (number_value c) num h tt
        act_backed (PushBool t) own st h = pushes_backed (low ++ own) own st (truth_value t) bool h tt
        act_backed (Load k) own st h =
            subst (λ (o : Option ValueTree). Backed (on_found (slice_get st k) fails (λ s. to (a + 1) (st ++ s ∷ []))) (on_found o stuck (pushes code (at_state a (low ++ own)) (low ++ own)))) (sym (get_above low own k))
            (found_backed own st k _ _ h (λ v s r. pushes_backed (low ++ own) own st v s h r))
        act_backed Add own st h = fit_two_backed own st num num (calculated arith_of.Add) h (calculated_gives view.fields arith_of.Add)
        act_backed Sub own st h = fit_two_backed own st num num (calculated arith_of.Sub) h (calculated_gives view.fields arith_of.Sub)
        act_backed Mul own st h = fit_two_backed own st num num (calculated arith_of.Mul) h (calculated_gives view.fields arith_of.Mul)
        act_backed Div own st h = fit_two_backed own st num num (calculated arith_of.Div) h (calculated_gives view.fields arith_of.Div)
        act_backed Neg own st h = fit_one_backed own st num num negated h (negated_gives view.fields)
        act_backed Not own st h = fit_one_backed own st bool bool not_of h (not_gives view.fields)
        act_backed Lt own st h = fit_two_backed own st num bool (compared sign.Lt) h (compared_gives view.fields sign.Lt)
        act_backed Le own st h = fit_two_backed own st num bool (compared sign.Le) h (compared_gives view.fields sign.Le)
        act_backed Eq own st h = fit_two_backed own st num bool (compared sign.Eq) h (compared_gives view.fields sign.Eq)
        act_backed (Jump t) own st h = λ o. arrives_backed t own (low ++ own) st refl h (o _ (inl refl))
        act_backed (JumpIfNot t) own st h =
            takes_backed own st 1 _ _ h (λ lo hi ls hs p k l. one_backed hi hs (λ y. need (fits y bool) (passes (record { to = a + 1; state = ls } ∷ record { to = t; state = ls } ∷ []))) (λ y. by_truth y (arrive code (at_state (a + 1) (low ++ lo))) (arrive code (at_state t (low ++ lo)))) l (λ v s q. need_backed (fits s bool) _ _ (λ c.
            by_truth_backed (passes (record { to = a + 1; state = ls } ∷ record { to = t; state = ls } ∷ [])) v _ _ (fits_below view.fields s bool c v q) (λ o. arrives_backed (a + 1) lo (low ++ lo) ls refl k (o _ (inl refl))) (λ o. arrives_backed t lo (low ++ lo) ls refl k (o _ (inr (inl refl)))))))
        act_backed (MakeList n) own st h =
            takes_backed own st n _ _ h (λ lo hi ls hs p k l. joined_backed (join_items hs) _ _ _ (items_joined view.fields hs) (λ s m. pushes_backed (low ++ own) lo ls (list_value (values_in_order hi)) (list s) k (m hi l)))
        act_backed Cons own st h =
            takes_backed own st 2 _ _ h (λ lo hi ls hs p k l. two_backed hi hs (λ x y. on_list_shape y (λ item tail. on_found (join x item) fails (λ s. to (a + 1) (ls ++ list s ∷ [])))) (λ x y. after (longer x y) (pushes code (at_state a (low ++ own)) (low ++ lo))) l (λ v w s t q r.
            cons_backed (low ++ own) lo ls v w s t k q r))
        act_backed (Split t) own st h =
            takes_backed own st 1 _ _ h (λ lo hi ls hs p k l. one_backed hi hs (λ y. on_list_shape y (λ item tail. passes (record { to = t; state = ls } ∷ record { to = a + 1; state = ls ++ item ∷ tail ∷ [] } ∷ []))) (λ y. by_list y (arrive code (at_state t (low ++ lo))) (λ h u. arrive code (at_state (a + 1) ((low ++ lo) ++ h ∷ u ∷ [])))) l (λ v s q.
            split_backed t lo ls v s k q))
        act_backed (MakeRec r n) own st h = made_backed r n own st h (slice_get view.fields r) refl
        act_backed (Field j) own st h =
            takes_backed own st 1 _ _ h (λ lo hi ls hs p k l. one_backed hi hs (λ y. on_record_shape y (to (a + 1) (ls ++ void ∷ [])) (λ r. fields_flow j ls (slice_get view.fields r))) (λ y. after (part_of j y) (pushes code (at_state a (low ++ own)) (low ++ lo))) l (λ v s q.
            field_backed (low ++ own) lo ls j v s k q))
        act_backed (Slide j) own st h =
            takes_backed own st 1 _ _ h (λ lo hi ls hs p k l. one_backed hi hs (λ y. takes 0 j ls fails (λ lower dropped. to (a + 1) (lower ++ y ∷ []))) (λ y. takes (length low) j (low ++ lo) stuck (λ lower dropped. pushes code (at_state a (low ++ own)) lower y)) l (λ v s q.
            takes_backed lo ls j _ _ k (λ lo2 hi2 ls2 hs2 p2 k2 l2. pushes_backed (low ++ own) lo2 ls2 v s k2 q)))
        act_backed (Call g) own st h = call_backed g (slice_get view.bodies g) refl own st h
        act_backed Ret own st h =
            takes_backed own st 1 _ _ h (λ lo hi ls hs p k l. one_backed hi hs (λ y. need (fits y e.result) (passes [])) (λ y. returns code (at_state a (low ++ own)) y (take (length low) (low ++ lo)) callers) l (λ v s q. need_backed (fits s e.result) _ _ (λ c o.
            subst (λ (lw : List ValueTree). SafeStep (returns code (at_state a (low ++ own)) v lw callers)) (sym (take-append_seam low lo)) (return_safe e here v (fits_below view.fields s e.result c v q) (low ++ own) callers waits))))
        act_backed (Pow k) own st h = fit_one_backed own st num num (raised k) h (raised_gives view.fields k)

        -- what an address passes on is taken in by the function's later addresses
        deliver : (n : ℕ) → e.start + n ≡ a → (fl : Flow) (st : Step) → flow view e n ≡ forwards view e a fl → Passes (forwards view e a fl) → Backed fl st → SafeStep st
        deliver n q fails st g p k = absurd p
        deliver n q (passes ps) st g p k = inside_case (inside a e.end ps) (low_states view.heights ps) refl refl p
          where
            inside_case : (t l : Bool) → inside a e.end ps ≡ t → low_states view.heights ps ≡ l → Passes (need t (need l (passes ps))) → SafeStep st
            inside_case true true j w p =
                let j2 : inside (e.start + n) e.end ps ≡ true = ap (λ (x : ℕ). inside x e.end ps) q ∙ j in
                k (passed_on view f e n ps here (g ∙ ap (λ (t : Bool). need t (need (low_states view.heights ps) (passes ps))) j ∙ ap (λ (l : Bool). need l (passes ps)) w) j2)
            inside_case true false j w p = absurd p
            inside_case false l j w p = absurd p

        met_safe : (n : ℕ) → e.start + n ≡ a → a < e.end → (own : List ValueTree) (o : Option Op) (m : Met) → slice_get code.ops a ≡ o → flow view e n ≡ passed view e a o m → Passes (passed view e a o m) → Holds view own m → SafeStep (step code (at_state a (low ++ own)))
        unfolding step
        met_safe n q l own None m s g p k = absurd p
        met_safe n q l own (Some i) nobody s g p k = absurd p
        met_safe n q l own (Some i) clash s g p k = absurd p
        met_safe n q l own (Some i) (arrived st) s g p k =
            let there : op_at code f a ≡ Some i = op_in_body image matched f e a here (omega arith) l ∙ s in
            subst (λ (o : Option Op). SafeStep (on_found o stuck (act code (at_state a (low ++ own))))) (sym there)
            (deliver n q (rule view e a st i) (act code (at_state a (low ++ own)) i) g p (act_backed i own st k))

        at_safe : (n : ℕ) → e.start + n ≡ a → a < e.end → (own : List ValueTree) → Holds view own (met view e a n) → SafeStep (step code (at_state a (low ++ own)))
        at_safe n q l own k =
            let g : flow view e n ≡ passed view e a (slice_get code.ops a) (met view e a n) = ap (λ (x : ℕ). passed view e x (slice_get code.ops x) (met view e x n)) q in
            let l2 : e.start + n < e.end = omega arith in
            met_safe n q l own (slice_get code.ops a) (met view e a n) refl g (subst Passes g (verified f e here n l2)) k

    pub step_safe : (s : State) → Good s → SafeStep (step code s)
    step_safe s h =
        let o = h.4 in
        let run : SafeStep (step code (record { at = s.at; stack = h.0 ++ h.1; running = record { function = s.running.function; back = s.running.back; base = length h.0 }; callers = s.callers; budget = s.budget })) =
        at_safe s.running.function s.running.back s.at h.0 s.callers s.budget h.5 o.0 o.2 o.1 o.3 o.4 h.1 (o.5 h.1 refl) in
        subst (λ (st : List ValueTree). SafeStep (step code (record s { stack = st }))) (sym h.2)
        (subst (λ (n : ℕ). SafeStep (step code (record { at = s.at; stack = h.0 ++ h.1; running = record { function = s.running.function; back = s.running.back; base = n }; callers = s.callers; budget = s.budget }))) (sym h.3) run)

    next_safe : (r : Step) (go : State → Step) → SafeStep r → ((s : State) → Good s → SafeStep (go s)) → SafeStep (next r go)
    next_safe (going s) go h k = k s h
    next_safe (done o) go h k = h
    next_safe stuck go h k = h

    runs_safe : (n : ℕ) (s : State) → Good s → SafeStep (runs code n s)
    runs_safe zero s h = h
    runs_safe (suc n) s h = next_safe (step code s) (runs code n) (step_safe s h) (λ t g. runs_safe n t g)

    pub starts_safe : (f : ℕ) (e : Body) (x : Entry) → slice_get view.bodies f ≡ Some e → x.start ≡ e.start → e.result ≡ outer → (args : List ValueTree) → HaveAll args e.params → (b : ℕ) → SafeStep (starts code f args b (Some x))
    starts_safe f e x s i r args h zero = tt
    starts_safe f e x s i r args h (suc b) =
        let last : Waits [] f 0 [] = λ y q v k. subst (λ (t : StackShape). Is v t) (ap (λ (o : Body). o.result) (same_body y e (sym q ∙ s)) ∙ r) k in
        ([], args, refl, refl, start_opens f 0 0 [] [] 0 last f e x.start s i args h, last)

    pub whole_safe : (f : ℕ) (e : Body) → slice_get view.bodies f ≡ Some e → e.result ≡ outer → (args : List ValueTree) → HaveAll args e.params → (b n : ℕ) → SafeStep (Runs code f args b n)
    whole_safe f e s r args h b n =
        let x = entry_of code.entries image.heads matched f e s in
        next_safe (starts code f args b (slice_get code.entries f)) (runs code n) (subst (λ (o : Option Entry). SafeStep (starts code f args b o)) (sym x.1) (starts_safe f e x.0 s x.2 r args h b)) (λ t g. runs_safe n t g)

  pub not_stuck : (r : Step) → SafeStep r → r ≢ stuck
  not_stuck (going s) h = λ q. absurd cc
  not_stuck (done o) h = λ q. absurd cc
  not_stuck stuck h = absurd h

  pub value_has : (r : Step) → SafeStep r → (v : ValueTree) → r ≡ done (value_outcome v) → HasIt view.fields v outer
  value_has r h v q = subst SafeStep q h
