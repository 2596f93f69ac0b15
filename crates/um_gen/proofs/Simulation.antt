-- The code does what the program means.
use Rattle.std.proofs.Common.{◌≡◌, refl, sym, subst, ap, ◌∙◌, ℕ, zero, suc, ◌+◌, Bool, true, false, cond, List, [], ◌∷◌, ◌++◌, length, take, Option, Some, None, Result, Err, slice_get, arith, append_assoc, length-append}
use Rattle.std.specs.Prelude.{get_or, nat_eq, not}
use Rattle.std.specs.List.{range_with_len}
use Rattle.std.proofs.Math.Seq.{take-append_seam}
use Rattle.std.proofs.lemmas.Bool.Decides.{nat_tests}
use Rattle.std.proofs.lemmas.List.{append-nil}
use Rattle.um_frac.specs.declared.number.Frac.{Frac}
use Rattle.um_tree.specs.declared.expression.Arith.{Arith}
use Rattle.um_tree.specs.declared.expression.Arith.TheVariants as arith_of
use Rattle.um_tree.specs.declared.expression.Sign.{Sign}
use Rattle.um_tree.specs.declared.expression.Sign.TheVariants as sign
use Rattle.um_tree.specs.ValueTree.{ValueTree, ValueTrees, truth_value, number_value, list_value, record_value, no_values, more_values, values_in_order, OutcomeTree, value_outcome, trap_outcome, budget_outcome}
use Rattle.um_tree.specs.ExprTree.{ExprTree, ExprTrees, truth, number, local, call, negate, not_expr, pown, arith as arith_tree, compare, both, either, if, bind, split, nil, list_expr, cons, record_expr, field, none, more}
use Rattle.um_tree.specs.ProgramTree.{FunctionTree}
use Rattle.um_tree.specs.Formed.{count}
use Rattle.um_tree.specs.Meaning.{Out, gives, stops, Stop, trap, budget_end, wrong, then, Calling, spend, found, with_budget, comparison, calculated, compared, negated, not_of, raised, longer, value_at, field_of, choose, on_list, means, all_mean, body_means, running, Outcome, end_of}
use Rattle.um_machine.specs.declared.op.Op.{Op}
use Rattle.um_machine.specs.declared.op.Op.TheVariants.{PushNum, PushBool, Load, Neg, Not, Lt, Le, Eq, Jump, JumpIfNot, MakeList, Cons, Split, MakeRec, Field, Slide, Call, Ret, Pow}
use Rattle.um_machine.specs.declared.code.Entry.{Entry}
use Rattle.um_machine.specs.declared.code.Code.{Code}
use Rattle.um_machine.specs.Stack.{on_one, on_found}
use Rattle.um_machine.specs.Machine.{Frame, State, going, done, stuck, op_at, arrive, pushes, part_of, takes_one, takes_two, gathers, spends, enters, act, step, next, runs, starts, Runs}
use Rattle.um_machine.proofs.Ends.{Ends, Follows, one_step, last_step, follows_back, follows_then, follows_after, takes_top, frame, at_state, acts, constant_leads, load_leads, one_runs, two_run, gather_leads, jump_leads, true_leads, false_leads, empty_leads, full_leads, slide_leads}
use Rattle.um_gen.specs.ProgramCode.{arith_op, sign_ops, parameter_places}
use Rattle.um_gen.proofs.Stands.{HasOp, IsThere, InRow, Stands, AllStand, first, all_first}

-- the variables' values stand at their places
abbrev Holds : List ℕ → List ValueTree → List ValueTree → Type 0
Holds [] [] own = Unit {0}
Holds (p ∷ ps) (v ∷ vs) own = (slice_get own p ≡ Some v) × Holds ps vs own
Holds [] (v ∷ vs) own = ⊥
Holds (p ∷ ps) [] own = ⊥

holds_get : (ps : List ℕ) (vs own : List ValueTree) (k : ℕ) (v : ValueTree) → Holds ps vs own → slice_get vs k ≡ Some v → slice_get own (get_or ps k 0) ≡ Some v
holds_get [] [] own zero v h e = absurd cc
holds_get [] [] own (suc k) v h e = absurd cc
holds_get (p ∷ ps) (w ∷ vs) own zero v h e = h.0 ∙ e
holds_get (p ∷ ps) (w ∷ vs) own (suc k) v h e = holds_get ps vs own k v h.1 e
holds_get [] (v ∷ vs) own k w h e = absurd h
holds_get (p ∷ ps) [] own k w h e = absurd h

get_more : (own ws : List ValueTree) (p : ℕ) (v : ValueTree) → slice_get own p ≡ Some v → slice_get (own ++ ws) p ≡ Some v
get_more [] ws zero v e = absurd cc
get_more [] ws (suc p) v e = absurd cc
get_more (x ∷ own) ws zero v e = e
get_more (x ∷ own) ws (suc p) v e = get_more own ws p v e

get_seam : (own ws : List ValueTree) (v : ValueTree) (d : ℕ) → d ≡ length own → slice_get (own ++ v ∷ ws) d ≡ Some v
get_seam [] ws v d e = ap (slice_get (v ∷ ws)) e
get_seam (x ∷ own) ws v zero e = absurd (omega arith)
get_seam (x ∷ own) ws v (suc d) e = get_seam own ws v d (omega arith)

holds_more : (ps : List ℕ) (vs own ws : List ValueTree) → Holds ps vs own → Holds ps vs (own ++ ws)
holds_more [] [] own ws h = tt
holds_more (p ∷ ps) (v ∷ vs) own ws h = (get_more own ws p v h.0, holds_more ps vs own ws h.1)
holds_more [] (v ∷ vs) own ws h = absurd h
holds_more (p ∷ ps) [] own ws h = absurd h

holds_both : (ps qs : List ℕ) (vs ws own : List ValueTree) → Holds ps vs own → Holds qs ws own → Holds (ps ++ qs) (vs ++ ws) own
holds_both [] qs [] ws own h k = k
holds_both (p ∷ ps) qs (v ∷ vs) ws own h k = (h.0, holds_both ps qs vs ws own h.1 k)
holds_both [] qs (v ∷ vs) ws own h k = absurd h
holds_both (p ∷ ps) qs [] ws own h k = absurd h

holds_places : (vs pre : List ValueTree) (from : ℕ) → from ≡ length pre → Holds (range_with_len from (length vs)) vs (pre ++ vs)
holds_places [] pre from e = tt
holds_places (v ∷ vs) pre from e =
    (get_seam pre vs v from e, subst (Holds (range_with_len (from + 1) (length vs)) vs) (append_assoc pre (v ∷ []) vs) (holds_places vs (pre ++ v ∷ []) (from + 1) (omega (arith, length-append pre (v ∷ [])))))

-- as many values as expressions
abbrev Counted : ℕ → Out (List ValueTree) → Type 0
Counted n (gives vs c) = n ≡ length vs
Counted n (stops r) = Unit {0}

counted_more : (n : ℕ) (v : ValueTree) (o : Out (List ValueTree)) → Counted n o → Counted (n + 1) (then o (λ vs d. gives (v ∷ vs) d))
counted_more n v (gives vs c) h = omega arith
counted_more n v (stops r) h = tt

counted_then : (n : ℕ) (o : Out ValueTree) (go : ValueTree → ℕ → Out (List ValueTree)) → ((v : ValueTree) (c : ℕ) → Counted n (go v c)) → Counted n (then o go)
counted_then n (gives v c) go h = h v c
counted_then n (stops r) go h = tt

counted : (calling : Calling) (es : ExprTrees) (vars : List ValueTree) (b : ℕ) → Counted (count es) (all_mean calling es vars b)
counted calling none vars b = refl
counted calling (more e es) vars b = counted_then _ _ _ (λ v c. counted_more _ v _ (counted calling es vars c))

second : (own : List ValueTree) (x y : ValueTree) (d : ℕ) → d ≡ length own → slice_get (own ++ x ∷ y ∷ []) (d + 1) ≡ Some y
second own x y d e =
    ap (λ st. slice_get st (d + 1)) (sym (append_assoc own (x ∷ []) (y ∷ []))) ∙ get_seam (own ++ x ∷ []) [] y (d + 1) (omega (arith, length-append own (x ∷ [])))

same_number : (m n : ℕ) → nat_eq m n ≡ true → m ≡ n
same_number m n h = grind (arith, nat_tests)

denied_twice : (b : Bool) → not (not b) ≡ b
denied_twice true = refl
denied_twice false = refl

-- what is known of a call
abbrev pub Sound : Code → Calling → Type 0
Sound code calling =
    (f back : ℕ) (low : List ValueTree) (callers : List Frame) (m : ℕ) (own vs : List ValueTree) (b j : ℕ) → HasOp code f m (Call j) → IsThere code f (m + 1) → Follows code (at_state code f back low callers m (own ++ vs) b) (calling j vs b) (λ v d o. Ends code (at_state code f back low callers (m + 1) (own ++ v ∷ []) d) o)

module _ (code : Code) (calling : Calling) (sound : Sound code calling) (f back : ℕ) (low : List ValueTree) (callers : List Frame) where
  abbrev S : ℕ → List ValueTree → ℕ → State
  S a own b = at_state code f back low callers a own b

  -- the value is pushed
  abbrev Pushed : ℕ → List ValueTree → ValueTree → ℕ → OutcomeTree → Type 0
  Pushed z own v c o = Ends code (S z (own ++ v ∷ []) c) o

  abbrev AllPushed : ℕ → List ValueTree → List ValueTree → ℕ → OutcomeTree → Type 0
  AllPushed z own vs c o = Ends code (S z (own ++ vs) c) o

  -- the address at the end, under another name
  ends_at : {A : Type 0} (s : State) (out : Out A) (go : A → List ValueTree) (m z : ℕ) → z ≡ m → Follows code s out (λ v c o. Ends code (S m (go v) c) o) → Follows code s out (λ v c o. Ends code (S z (go v) c) o)
  ends_at s out go m z e h = subst (λ n. Follows code s out (λ v c o. Ends code (S n (go v) c) o)) (sym e) h

  next_there : (m z : ℕ) → z ≡ m + 1 → IsThere code f z → IsThere code f (m + 1)
  next_there m z e t = subst (IsThere code f) e t

  constant_runs : (a z : ℕ) (own : List ValueTree) (b : ℕ) (v : ValueTree) (i : Op) → HasOp code f a i → z ≡ a + 1 → IsThere code f z → ((s : State) → act code s i ≡ pushes code s s.stack v) → Follows code (S a own b) (gives v b) (Pushed z own)
  constant_runs a z own b v i h e t op =
      ends_at (S a own b) (gives v b) (λ v. own ++ v ∷ []) (a + 1) z e ((constant_leads code f back low callers a own b v i h (next_there a z e t) op).by)

  found_runs : (a z : ℕ) (own : List ValueTree) (b k : ℕ) (o : Option ValueTree) → HasOp code f a (Load k) → ((v : ValueTree) → o ≡ Some v → slice_get own k ≡ Some v) → z ≡ a + 1 → IsThere code f z → Follows code (S a own b) (found o b) (Pushed z own)
  found_runs a z own b k None h g e t = tt
  found_runs a z own b k (Some v) h g e t =
      ends_at (S a own b) (gives v b) (λ v. own ++ v ∷ []) (a + 1) z e ((load_leads code f back low callers a own b k v h (g v refl) (next_there a z e t)).by)

  -- an instruction on one value
  single : (n z : ℕ) (own : List ValueTree) (b : ℕ) (v : ValueTree) (i : Op) (g : ValueTree → Result ValueTree Stop) → HasOp code f n i → z ≡ n + 1 → IsThere code f z → ((s : State) → act code s i ≡ takes_one code s g) → Follows code (S n (own ++ v ∷ []) b) (with_budget (g v) b) (Pushed z own)
  single n z own b v i g h e t op =
      ends_at (S n (own ++ v ∷ []) b) (with_budget (g v) b) (λ r. own ++ r ∷ []) (n + 1) z e (one_runs code f back low callers n own b v i g h (next_there n z e t) op)

  -- on two
  pair : (n z : ℕ) (own : List ValueTree) (b : ℕ) (v w : ValueTree) (i : Op) (g : ValueTree → ValueTree → Result ValueTree Stop) → HasOp code f n i → z ≡ n + 1 → IsThere code f z → ((s : State) → act code s i ≡ takes_two code s g) → Follows code (S n ((own ++ v ∷ []) ++ w ∷ []) b) (with_budget (g v w) b) (Pushed z own)
  pair n z own b v w i g h e t op =
      ends_at (S n ((own ++ v ∷ []) ++ w ∷ []) b) (with_budget (g v w) b) (λ r. own ++ r ∷ []) (n + 1) z e (subst (λ st. Follows code (S n st b) (with_budget (g v w) b) (Pushed (n + 1) own)) (sym (append_assoc own (v ∷ []) (w ∷ []))) (two_run code f back low callers n own b v w i g h (next_there n z e t) op))

  arith_acts : (op : Arith) (s : State) → act code s (arith_op op) ≡ takes_two code s (calculated op)
  arith_acts arith_of.Add s = refl
  arith_acts arith_of.Sub s = refl
  arith_acts arith_of.Mul s = refl
  arith_acts arith_of.Div s = refl

  -- a comparison, and then the other truth value
  turned : (n z : ℕ) (own : List ValueTree) (d : ℕ) (v w : ValueTree) (i : Op) (half whole : Sign) → HasOp code f n i → HasOp code f (n + 1) Not → z ≡ n + 1 + 1 → IsThere code f z → ((s : State) → act code s i ≡ takes_two code s (compared half)) → ((x y : Frac) → not (comparison half x y) ≡ comparison whole x y) → Follows code (S n ((own ++ v ∷ []) ++ w ∷ []) d) (with_budget (compared whole v w) d) (Pushed z own)
  turned n z own d (number_value x) (number_value y) i half whole h k e t op same =
      let run = pair n (n + 1) own d (number_value x) (number_value y) i (compared half) h refl (Not, k) op in
      let turn = single (n + 1) z own d (truth_value (comparison half x y)) Not not_of k e t (λ s. refl) in
      subst (λ b. Follows code (S n ((own ++ number_value x ∷ []) ++ number_value y ∷ []) d) (gives (truth_value b) d) (Pushed z own)) (same x y) (λ o g. run o (turn o g))
  turned n z own d v w i half whole h k e t op same = tt

  sign_runs : (s : Sign) (n z : ℕ) (own : List ValueTree) (d : ℕ) (v w : ValueTree) → InRow code f n (sign_ops s) → z ≡ n + length (sign_ops s) → IsThere code f z → Follows code (S n ((own ++ v ∷ []) ++ w ∷ []) d) (with_budget (compared s v w) d) (Pushed z own)
  sign_runs sign.Lt n z own d v w h e t = pair n z own d v w Lt (compared sign.Lt) h.0 e t (λ s. refl)
  sign_runs sign.Le n z own d v w h e t = pair n z own d v w Le (compared sign.Le) h.0 e t (λ s. refl)
  sign_runs sign.Eq n z own d v w h e t = pair n z own d v w Eq (compared sign.Eq) h.0 e t (λ s. refl)
  sign_runs sign.Gt n z own d v w h e t = turned n z own d v w Le sign.Le sign.Gt h.0 h.1.0 (omega arith) t (λ s. refl) (λ x y. denied_twice (comparison sign.Gt x y))
  sign_runs sign.Ge n z own d v w h e t = turned n z own d v w Lt sign.Lt sign.Ge h.0 h.1.0 (omega arith) t (λ s. refl) (λ x y. refl)
  sign_runs sign.Ne n z own d v w h e t = turned n z own d v w Eq sign.Eq sign.Ne h.0 h.1.0 (omega arith) t (λ s. refl) (λ x y. refl)

  sign_there : (s : Sign) (n : ℕ) → InRow code f n (sign_ops s) → IsThere code f n
  sign_there sign.Lt n h = (Lt, h.0)
  sign_there sign.Le n h = (Le, h.0)
  sign_there sign.Eq n h = (Eq, h.0)
  sign_there sign.Gt n h = (Le, h.0)
  sign_there sign.Ge n h = (Lt, h.0)
  sign_there sign.Ne n h = (Eq, h.0)

  -- the instruction doesn't look at the record's number
  field_follows : (r k : ℕ) (v : ValueTree) (d : ℕ) (s : State) (K : ValueTree → ℕ → OutcomeTree → Type 0) → Follows code s (with_budget (part_of k v) d) K → Follows code s (with_budget (field_of r k v) d) K
  field_follows r k (record_value q vs) d s K h =
      elim (nat_eq q r) as (λ t. Follows code s (with_budget (cond t (value_at vs k) (Err wrong)) d) K) [ true ↦ h | false ↦ tt ]
  field_follows r k (truth_value b) d s K h = tt
  field_follows r k (number_value c) d s K h = tt
  field_follows r k (list_value vs) d s K h = tt

  choose_runs : (m n l z : ℕ) (own : List ValueTree) (d : ℕ) (v : ValueTree) (x y : ℕ → Out ValueTree) → HasOp code f m (JumpIfNot l) → IsThere code f (m + 1) → IsThere code f l → HasOp code f n (Jump z) → IsThere code f z → Follows code (S (m + 1) own d) (x d) (Pushed n own) → Follows code (S l own d) (y d) (Pushed z own) → Follows code (S m (own ++ v ∷ []) d) (choose v x y d) (Pushed z own)
  choose_runs m n l z own d (truth_value true) x y h p q j t hx hy =
      follows_back code _ (S (m + 1) own d) (x d) _ (true_leads code f back low callers m l own d h p) (follows_after code _ (x d) (Pushed n own) (Pushed z own) (λ w c o k. (jump_leads code f back low callers n z (own ++ w ∷ []) c j t).by o k) hx)
  choose_runs m n l z own d (truth_value false) x y h p q j t hx hy =
      follows_back code _ (S l own d) (y d) _ (false_leads code f back low callers m l own d h q) hy
  choose_runs m n l z own d (number_value i) x y h p q j t hx hy = tt
  choose_runs m n l z own d (list_value vs) x y h p q j t hx hy = tt
  choose_runs m n l z own d (record_value r vs) x y h p q j t hx hy = tt

  split_runs : (m n l z : ℕ) (own : List ValueTree) (d : ℕ) (v : ValueTree) (x : ℕ → Out ValueTree) (y : ValueTree → ValueTree → ℕ → Out ValueTree) → HasOp code f m (Split l) → IsThere code f (m + 1) → IsThere code f l → HasOp code f n (Slide 2) → HasOp code f (n + 1) (Jump z) → IsThere code f z → Follows code (S l own d) (x d) (Pushed z own) → ((h t : ValueTree) → Follows code (S (m + 1) (own ++ h ∷ t ∷ []) d) (y h t d) (Pushed n (own ++ h ∷ t ∷ []))) → Follows code (S m (own ++ v ∷ []) d) (on_list v x y d) (Pushed z own)
  split_runs m n l z own d (list_value no_values) x y h p q sl j t hx hy =
      follows_back code _ (S l own d) (x d) _ (empty_leads code f back low callers m l own d h q) hx
  split_runs m n l z own d (list_value (more_values v vs)) x y h p q sl j t hx hy =
      follows_back code _ (S (m + 1) (own ++ v ∷ list_value vs ∷ []) d) (y v (list_value vs) d) _ (full_leads code f back low callers m l own d v vs h p) (follows_after code _ (y v (list_value vs) d) (Pushed n (own ++ v ∷ list_value vs ∷ [])) (Pushed z own) (λ w c o k. (slide_leads code f back low callers n 2 own (v ∷ list_value vs ∷ []) w c sl refl (Jump z, j)).by o ((jump_leads code f back low callers (n + 1) z (own ++ w ∷ []) c j t).by o k)) (hy v (list_value vs)))
  split_runs m n l z own d (truth_value b) x y h p q sl j t hx hy = tt
  split_runs m n l z own d (number_value i) x y h p q sl j t hx hy = tt
  split_runs m n l z own d (record_value r vs) x y h p q sl j t hx hy = tt

  gather_runs : (m z : ℕ) (own : List ValueTree) (s : State) (n : ℕ) (out : Out (List ValueTree)) (i : Op) (make : ValueTrees → ValueTree) → Counted n out → HasOp code f m i → z ≡ m + 1 → IsThere code f z → ((u : State) → act code u i ≡ gathers code u n make) → Follows code s out (AllPushed m own) → Follows code s (then out (λ vs c. gives (make (values_in_order vs)) c)) (Pushed z own)
  gather_runs m z own s n (gives vs c) i make k h e t op r =
      ends_at s (gives (make (values_in_order vs)) c) (λ v. own ++ v ∷ []) (m + 1) z e (λ o x. r o ((gather_leads code f back low callers m own vs c n i make h k (next_there m z e t) op).by o x))
  gather_runs m z own s n (stops r) i make k h e t op x = x

  mutual
    sim : (e : ExprTree) (vars : List ValueTree) (ps : List ℕ) (own : List ValueTree) (b d a z : ℕ) → Stands code f e ps d a z → IsThere code f z → Holds ps vars own → d ≡ length own → Follows code (S a own b) (means calling e vars b) (Pushed z own)
    sim (truth at x) vars ps own b d a z h t p e = constant_runs a z own b (truth_value x) (PushBool x) h.0 h.1 t (λ s. refl)
    sim (number at c n) vars ps own b d a z h t p e = constant_runs a z own b (number_value c) (PushNum c) h.0 h.1 t (λ s. refl)
    sim (local at k) vars ps own b d a z h t p e =
        found_runs a z own b _ (slice_get vars k) h.0 (λ v s. holds_get ps vars own k v p s) h.1 t
    sim (call at j es) vars ps own b d a z h t p e =
        follows_then code (S a own b) (all_mean calling es vars b) (calling j) (λ vs c. S h.0 (own ++ vs) c) (Pushed z own) (sim_all es vars ps own b d a h.0 h.1 (Call j, h.2) p e) (λ vs c. ends_at (S h.0 (own ++ vs) c) (calling j vs c) (λ v. own ++ v ∷ []) (h.0 + 1) z h.3 (sound f back low callers h.0 own vs c j h.2 (next_there h.0 z h.3 t)))
    sim (negate at x) vars ps own b d a z h t p e =
        follows_then code (S a own b) (means calling x vars b) _ (λ v c. S h.0 (own ++ v ∷ []) c) (Pushed z own) (sim x vars ps own b d a h.0 h.1 (Neg, h.2) p e) (λ v c. single h.0 z own c v Neg negated h.2 h.3 t (λ s. refl))
    sim (not_expr at x) vars ps own b d a z h t p e =
        follows_then code (S a own b) (means calling x vars b) _ (λ v c. S h.0 (own ++ v ∷ []) c) (Pushed z own) (sim x vars ps own b d a h.0 h.1 (Not, h.2) p e) (λ v c. single h.0 z own c v Not not_of h.2 h.3 t (λ s. refl))
    sim (pown at x k) vars ps own b d a z h t p e =
        follows_then code (S a own b) (means calling x vars b) _ (λ v c. S h.0 (own ++ v ∷ []) c) (Pushed z own) (sim x vars ps own b d a h.0 h.1 (Pow k, h.2) p e) (λ v c. single h.0 z own c v (Pow k) (raised k) h.2 h.3 t (λ s. refl))
    sim (arith_tree at op x y) vars ps own b d a z h t p e =
        follows_then code (S a own b) (means calling x vars b) _ (λ v c. S h.0 (own ++ v ∷ []) c) (Pushed z own) (sim x vars ps own b d a h.0 h.2 (first code f y ps (d + 1) h.0 h.1 h.3) p e) (λ v c. follows_then code (S h.0 (own ++ v ∷ []) c) (means calling y vars c) _ (λ w c'. S h.1 ((own ++ v ∷ []) ++ w ∷ []) c') (Pushed z own) (sim y vars ps (own ++ v ∷ []) c (d + 1) h.0 h.1 h.3 (arith_op op, h.4) (holds_more ps vars own (v ∷ []) p) (omega (arith, length-append own (v ∷ [])))) (λ w c'. pair h.1 z own c' v w (arith_op op) (calculated op) h.4 h.5 t (arith_acts op)))
    sim (compare at s x y) vars ps own b d a z h t p e =
        follows_then code (S a own b) (means calling x vars b) _ (λ v c. S h.0 (own ++ v ∷ []) c) (Pushed z own) (sim x vars ps own b d a h.0 h.2 (first code f y ps (d + 1) h.0 h.1 h.3) p e) (λ v c. follows_then code (S h.0 (own ++ v ∷ []) c) (means calling y vars c) _ (λ w c'. S h.1 ((own ++ v ∷ []) ++ w ∷ []) c') (Pushed z own) (sim y vars ps (own ++ v ∷ []) c (d + 1) h.0 h.1 h.3 (sign_there s h.1 h.4) (holds_more ps vars own (v ∷ []) p) (omega (arith, length-append own (v ∷ [])))) (λ w c'. sign_runs s h.1 z own c' v w h.4 h.5 t))
    sim (both at x y) vars ps own b d a z h t p e =
        follows_then code (S a own b) (means calling x vars b) _ (λ v c. S h.0 (own ++ v ∷ []) c) (Pushed z own) (sim x vars ps own b d a h.0 h.2 (JumpIfNot (h.1 + 1), h.3) p e) (λ v c. choose_runs h.0 h.1 (h.1 + 1) z own c v (means calling y vars) (gives (truth_value false)) h.3 (first code f y ps d _ _ h.4) (PushBool false, h.6) h.5 t (sim y vars ps own c d _ _ h.4 (Jump z, h.5) p e) (constant_runs (h.1 + 1) z own c (truth_value false) (PushBool false) h.6 h.7 t (λ s. refl)))
    sim (either at x y) vars ps own b d a z h t p e =
        follows_then code (S a own b) (means calling x vars b) _ (λ v c. S h.0 (own ++ v ∷ []) c) (Pushed z own) (sim x vars ps own b d a h.0 h.2 (JumpIfNot h.1, h.3) p e) (λ v c. choose_runs h.0 (h.0 + 1 + 1) h.1 z own c v (gives (truth_value true)) (means calling y vars) h.3 (PushBool true, h.4) (first code f y ps d _ _ h.6) h.5 t (constant_runs (h.0 + 1) (h.0 + 1 + 1) own c (truth_value true) (PushBool true) h.4 refl (Jump z, h.5) (λ s. refl)) (sim y vars ps own c d _ _ h.6 t p e))
    sim (if at c x y) vars ps own b d a z h t p e =
        follows_then code (S a own b) (means calling c vars b) _ (λ v c'. S h.0 (own ++ v ∷ []) c') (Pushed z own) (sim c vars ps own b d a h.0 h.3 (JumpIfNot h.2, h.4) p e) (λ v c'. choose_runs h.0 h.1 h.2 z own c' v (means calling x vars) (means calling y vars) h.4 (first code f x ps d _ _ h.5) (first code f y ps d _ _ h.7) h.6 t (sim x vars ps own c' d _ _ h.5 (Jump z, h.6) p e) (sim y vars ps own c' d _ _ h.7 t p e))
    sim (bind at x y) vars ps own b d a z h t p e =
        follows_then code (S a own b) (means calling x vars b) _ (λ v c. S h.0 (own ++ v ∷ []) c) (Pushed z own) (sim x vars ps own b d a h.0 h.2 (first code f y _ _ _ _ h.3) p e) (λ v c.
        follows_after code (S h.0 (own ++ v ∷ []) c) (means calling y (vars ++ v ∷ []) c) (Pushed h.1 (own ++ v ∷ [])) (Pushed z own) (λ w c' o k. (slide_leads code f back low callers h.1 1 own (v ∷ []) w c' h.4 refl (next_there h.1 z h.5 t)).by o (subst (λ n. Ends code (S n (own ++ w ∷ []) c') o) h.5 k)) (sim y (vars ++ v ∷ []) (ps ++ d ∷ []) (own ++ v ∷ []) c (d + 1) h.0 h.1 h.3 (Slide 1, h.4) (holds_both ps (d ∷ []) vars (v ∷ []) (own ++ v ∷ []) (holds_more ps vars own (v ∷ []) p) (get_seam own [] v d e, tt)) (omega (arith, length-append own (v ∷ [])))))
    sim (split at l x y) vars ps own b d a z h t p e =
        follows_then code (S a own b) (means calling l vars b) _ (λ v c. S h.0 (own ++ v ∷ []) c) (Pushed z own) (sim l vars ps own b d a h.0 h.3 (Split h.2, h.4) p e) (λ v c. split_runs h.0 h.1 h.2 z own c v (means calling x vars) (λ x0 xs. means calling y (vars ++ x0 ∷ xs ∷ [])) h.4 (first code f y _ _ _ _ h.5) (first code f x _ _ _ _ h.8) h.6 h.7 t (sim x vars ps own c d _ _ h.8 t p e) (λ x0 xs. sim y (vars ++ x0 ∷ xs ∷ []) (ps ++ d ∷ (d + 1) ∷ []) (own ++ x0 ∷ xs ∷ []) c (d + 2) _ _ h.5 (Slide 2, h.6) (holds_both ps (d ∷ (d + 1) ∷ []) vars (x0 ∷ xs ∷ []) (own ++ x0 ∷ xs ∷ []) (holds_more ps vars own (x0 ∷ xs ∷ []) p) (get_seam own (xs ∷ []) x0 d e, (second own x0 xs d e, tt))) (omega (arith, length-append own (x0 ∷ xs ∷ [])))))
    sim (nil at n) vars ps own b d a z h t p e =
        gather_runs a z own (S a own b) 0 (gives [] b) (MakeList 0) list_value refl h.0 h.1 t (λ s. refl) (λ o x. subst (λ st. Ends code (S a st b) o) (append-nil own) x)
    sim (list_expr at es) vars ps own b d a z h t p e =
        gather_runs h.0 z own (S a own b) (count es) (all_mean calling es vars b) (MakeList (count es)) list_value (counted calling es vars b) h.2 h.3 t (λ s. refl) (sim_all es vars ps own b d a h.0 h.1 (MakeList (count es), h.2) p e)
    sim (cons at x y) vars ps own b d a z h t p e =
        follows_then code (S a own b) (means calling x vars b) _ (λ v c. S h.0 (own ++ v ∷ []) c) (Pushed z own) (sim x vars ps own b d a h.0 h.2 (first code f y ps (d + 1) h.0 h.1 h.3) p e) (λ v c. follows_then code (S h.0 (own ++ v ∷ []) c) (means calling y vars c) _ (λ w c'. S h.1 ((own ++ v ∷ []) ++ w ∷ []) c') (Pushed z own) (sim y vars ps (own ++ v ∷ []) c (d + 1) h.0 h.1 h.3 (Cons, h.4) (holds_more ps vars own (v ∷ []) p) (omega (arith, length-append own (v ∷ [])))) (λ w c'. pair h.1 z own c' v w Cons longer h.4 h.5 t (λ s. refl)))
    sim (record_expr at r es) vars ps own b d a z h t p e =
        gather_runs h.0 z own (S a own b) (count es) (all_mean calling es vars b) (MakeRec r (count es)) (record_value r) (counted calling es vars b) h.2 h.3 t (λ s. refl) (sim_all es vars ps own b d a h.0 h.1 (MakeRec r (count es), h.2) p e)
    sim (field at r k x) vars ps own b d a z h t p e =
        follows_then code (S a own b) (means calling x vars b) _ (λ v c. S h.0 (own ++ v ∷ []) c) (Pushed z own) (sim x vars ps own b d a h.0 h.1 (Field k, h.2) p e) (λ v c. field_follows r k v c (S h.0 (own ++ v ∷ []) c) (Pushed z own) (single h.0 z own c v (Field k) (part_of k) h.2 h.3 t (λ s. refl)))

    sim_all : (es : ExprTrees) (vars : List ValueTree) (ps : List ℕ) (own : List ValueTree) (b d a z : ℕ) → AllStand code f es ps d a z → IsThere code f z → Holds ps vars own → d ≡ length own → Follows code (S a own b) (all_mean calling es vars b) (AllPushed z own)
    sim_all none vars ps own b d a z h t p e = λ o k. subst (λ n. Ends code (S n own b) o) h (subst (λ st. Ends code (S z st b) o) (append-nil own) k)
    sim_all (more x es) vars ps own b d a z h t p e =
        follows_then code (S a own b) (means calling x vars b) _ (λ v c. S h.0 (own ++ v ∷ []) c) (AllPushed z own) (sim x vars ps own b d a h.0 h.1 (all_first code f es ps (d + 1) h.0 z h.2 t) p e) (λ v c. follows_then code (S h.0 (own ++ v ∷ []) c) (all_mean calling es vars c) _ (λ vs c'. S z ((own ++ v ∷ []) ++ vs) c') (AllPushed z own) (sim_all es vars ps (own ++ v ∷ []) c (d + 1) h.0 z h.2 t (holds_more ps vars own (v ∷ []) p) (omega (arith, length-append own (v ∷ [])))) (λ vs c'. λ o k. subst (λ st. Ends code (S z st c') o) (sym (append_assoc own (v ∷ []) vs)) k))

-- the code of each function stands at its entry, and takes its parameters
abbrev pub Compiled : Code → List FunctionTree → Type 0
Compiled code fs =
    (j : ℕ) (g : FunctionTree) → slice_get fs j ≡ Some g → (e : Entry) × (z : ℕ) × (slice_get code.entries j ≡ Some e) × (e.params ≡ length g.params) × Stands code j g.body (parameter_places g) (length g.params) e.start z × HasOp code j z Ret

-- the end of a function: the value goes to the caller, or out
abbrev pub Returned : Code → ℕ → List ValueTree → List Frame → ValueTree → ℕ → OutcomeTree → Type 0
Returned code back low [] v d o = o ≡ value_outcome v
Returned code back low (g ∷ gs) v d o = Ends code (record { at = back; stack = low ++ v ∷ []; running = g; callers = gs; budget = d }) o × IsThere code g.function back

module _ (code : Code) (fs : List FunctionTree) (compiled : Compiled code fs) where
  returned : (j back : ℕ) (low : List ValueTree) (callers : List Frame) (z : ℕ) (own : List ValueTree) (v : ValueTree) (d : ℕ) (o : OutcomeTree) → HasOp code j z Ret → Returned code back low callers v d o → Ends code (at_state code j back low callers z (own ++ v ∷ []) d) o
  returned j back low [] z own v d o h k =
      subst (Ends code (at_state code j back low [] z (own ++ v ∷ []) d)) (sym k) (last_step code _ (value_outcome v) (acts code j back low [] z (own ++ v ∷ []) d Ret h ∙ takes_top low own (v ∷ []) 1 stuck (λ st taken. on_one taken stuck (λ y. done (value_outcome y))) refl))
  returned j back low (g ∷ gs) z own v d o h k =
      (one_step code _ _ (acts code j back low (g ∷ gs) z (own ++ v ∷ []) d Ret h ∙ takes_top low own (v ∷ []) 1 stuck (λ st taken. on_one taken stuck (λ y. arrive code (record { at = back; stack = take (length low) st ++ y ∷ []; running = g; callers = gs; budget = d }))) refl ∙ ap (λ st. arrive code (record { at = back; stack = st ++ v ∷ []; running = g; callers = gs; budget = d })) (take-append_seam low own) ∙ ap (λ i. on_found i stuck (λ j. going (record { at = back; stack = low ++ v ∷ []; running = g; callers = gs; budget = d }))) k.1.1)).by o k.0

  -- a function's body from its start
  body_runs : (calling : Calling) → Sound code calling → (j : ℕ) (g : FunctionTree) (e : Entry) (z back : ℕ) (low vs : List ValueTree) (callers : List Frame) (c : ℕ) → length vs ≡ length g.params → Stands code j g.body (parameter_places g) (length g.params) e.start z → HasOp code j z Ret → Follows code (at_state code j back low callers e.start vs c) (means calling g.body vs c) (Returned code back low callers)
  body_runs calling sound j g e z back low vs callers c n h r =
      follows_after code (at_state code j back low callers e.start vs c) (means calling g.body vs c) _ (Returned code back low callers) (λ v d o k. returned j back low callers z vs v d o r k) (sim code calling sound j back low callers g.body vs (parameter_places g) vs c (length g.params) e.start z h (Ret, r) (subst (λ m. Holds (range_with_len 0 m) vs vs) n (holds_places vs [] 0 refl)) (sym n))

  -- an instruction that calls, from within a frame
  abbrev calls_step : (f back : ℕ) (low : List ValueTree) (callers : List Frame) (m : ℕ) (own vs : List ValueTree) (b j : ℕ) → Out ValueTree → Type 0
  calls_step f back low callers m own vs b j out = Follows code (at_state code f back low callers m (own ++ vs) b) out (λ v d o. Ends code (at_state code f back low callers (m + 1) (own ++ v ∷ []) d) o)

  entered : (f back : ℕ) (low : List ValueTree) (callers : List Frame) (m : ℕ) (own vs : List ValueTree) (b j : ℕ) (e : Entry) → HasOp code f m (Call j) → slice_get code.entries j ≡ Some e → e.params ≡ length vs → step code (at_state code f back low callers m (own ++ vs) b) ≡ spends b (λ c. on_found (op_at code f (m + 1)) stuck (λ i. arrive code (record { at = e.start; stack = low ++ (own ++ vs); running = record { function = j; back = m + 1; base = length (low ++ own) }; callers = frame code f back low callers ∷ callers; budget = c })))
  entered f back low callers m own vs b j e h s n =
      acts code f back low callers m (own ++ vs) b (Call j) h
      ∙ ap (enters code (at_state code f back low callers m (own ++ vs) b) j) s
      ∙ takes_top low own vs e.params stuck (λ lo arguments. spends b (λ c. on_found (op_at code f (m + 1)) stuck (λ i. arrive code (record { at = e.start; stack = low ++ (own ++ vs); running = record { function = j; back = m + 1; base = length lo }; callers = frame code f back low callers ∷ callers; budget = c })))) n

  spent_runs : (calling : Calling) → Sound code calling → (f back : ℕ) (low : List ValueTree) (callers : List Frame) (m : ℕ) (own vs : List ValueTree) (b j : ℕ) (g : FunctionTree) (e : Entry) (z : ℕ) → HasOp code f m (Call j) → IsThere code f (m + 1) → slice_get code.entries j ≡ Some e → e.params ≡ length g.params → length vs ≡ length g.params → Stands code j g.body (parameter_places g) (length g.params) e.start z → HasOp code j z Ret → calls_step f back low callers m own vs b j (spend b (means calling g.body vs))
  spent_runs calling sound f back low callers m own vs zero j g e z h t s p n st r =
      last_step code _ budget_outcome (entered f back low callers m own vs 0 j e h s (p ∙ sym n))
  spent_runs calling sound f back low callers m own vs (suc c) j g e z h t s p n st r =
      let start : State = record { at = e.start; stack = low ++ (own ++ vs); running = record { function = j; back = m + 1; base = length (low ++ own) }; callers = frame code f back low callers ∷ callers; budget = c } in
      let goes = entered f back low callers m own vs (suc c) j e h s (p ∙ sym n) ∙ ap (λ i. on_found i stuck (λ k. arrive code start)) t.1 ∙ ap (λ i. on_found i stuck (λ k. going start)) (first code j g.body _ _ _ _ st).1 ∙ ap (λ l. going (record start { stack = l })) (sym (append_assoc low own vs)) in
      follows_back code _ (at_state code j (m + 1) (low ++ own) (frame code f back low callers ∷ callers) e.start vs c) (means calling g.body vs c) _ (one_step code _ _ goes) (follows_after code _ (means calling g.body vs c) (Returned code (m + 1) (low ++ own) (frame code f back low callers ∷ callers)) _ (λ v d o k. (subst (λ l. Ends code (record { at = m + 1; stack = l; running = frame code f back low callers; callers = callers; budget = d }) o) (sym (append_assoc low own (v ∷ []))) k, t)) (body_runs calling sound j g e z (m + 1) (low ++ own) vs (frame code f back low callers ∷ callers) c n st r))

  arity_runs : (calling : Calling) → Sound code calling → (f back : ℕ) (low : List ValueTree) (callers : List Frame) (m : ℕ) (own vs : List ValueTree) (b j : ℕ) (g : FunctionTree) (t : Bool) → nat_eq (length vs) (length g.params) ≡ t → slice_get fs j ≡ Some g → HasOp code f m (Call j) → IsThere code f (m + 1) → calls_step f back low callers m own vs b j (cond t (spend b (means calling g.body vs)) (stops wrong))
  arity_runs calling sound f back low callers m own vs b j g true n s h t =
      let c = compiled j g s in
      spent_runs calling sound f back low callers m own vs b j g c.0 c.1 h t c.2 c.3 (same_number (length vs) (length g.params) n) c.4 c.5
  arity_runs calling sound f back low callers m own vs b j g false n s h t = tt

  function_runs : (calling : Calling) → Sound code calling → (f back : ℕ) (low : List ValueTree) (callers : List Frame) (m : ℕ) (own vs : List ValueTree) (b j : ℕ) (g : Option FunctionTree) → slice_get fs j ≡ g → HasOp code f m (Call j) → IsThere code f (m + 1) → calls_step f back low callers m own vs b j (body_means calling g vs b)
  function_runs calling sound f back low callers m own vs b j None s h t = tt
  function_runs calling sound f back low callers m own vs b j (Some g) s h t = arity_runs calling sound f back low callers m own vs b j g (nat_eq (length vs) (length g.params)) refl s h t

  pub calls_sound : (n : ℕ) → Sound code (running fs n)
  calls_sound zero f back low callers m own vs b j h t = tt
  calls_sound (suc n) f back low callers m own vs b j h t = function_runs (running fs n) (calls_sound n) f back low callers m own vs b j (slice_get fs j) refl h t

  -- the run ends as is meant, where something is claimed
  whole : (s : State) (out : Out ValueTree) (o : OutcomeTree) → Follows code s out (Returned code 0 [] []) → end_of out ≡ Some o → Ends code s o
  whole s (gives v c) o h k = let same : value_outcome v ≡ o = cc in h o (sym same)
  whole s (stops (trap t)) o h k = let same : trap_outcome t ≡ o = cc in subst (Ends code s) same h
  whole s (stops budget_end) o h k = let same : budget_outcome ≡ o = cc in subst (Ends code s) same h
  whole s (stops wrong) o h k = absurd cc

  -- the run of a call ends so
  abbrev pub RunEnds : ℕ → List ValueTree → ℕ → OutcomeTree → Type 0
  RunEnds j vs b o = (n : ℕ) × (Runs code j vs b n ≡ done o)

  spend_ends : (calling : Calling) → Sound code calling → (j : ℕ) (vs : List ValueTree) (b : ℕ) (g : FunctionTree) (e : Entry) (z : ℕ) (o : OutcomeTree) → slice_get code.entries j ≡ Some e → length vs ≡ length g.params → Stands code j g.body (parameter_places g) (length g.params) e.start z → HasOp code j z Ret → end_of (spend b (means calling g.body vs)) ≡ Some o → RunEnds j vs b o
  spend_ends calling sound j vs zero g e z o s n st r k = let same : budget_outcome ≡ o = cc in (0, ap done same)
  spend_ends calling sound j vs (suc c) g e z o s n st r k =
      let x = whole (at_state code j 0 [] [] e.start vs c) (means calling g.body vs c) o (body_runs calling sound j g e z 0 [] vs [] c n st r) k in
      (x.0, ap (λ en. next (starts code j vs (suc c) en) (runs code x.0)) s ∙ x.1)

  arity_ends : (calling : Calling) → Sound code calling → (j : ℕ) (vs : List ValueTree) (b : ℕ) (g : FunctionTree) (t : Bool) (o : OutcomeTree) → nat_eq (length vs) (length g.params) ≡ t → slice_get fs j ≡ Some g → end_of (cond t (spend b (means calling g.body vs)) (stops wrong)) ≡ Some o → RunEnds j vs b o
  arity_ends calling sound j vs b g true o n s k =
      let c = compiled j g s in spend_ends calling sound j vs b g c.0 c.1 o c.2 (same_number (length vs) (length g.params) n) c.4 c.5 k
  arity_ends calling sound j vs b g false o n s k = absurd cc

  function_ends : (calling : Calling) → Sound code calling → (j : ℕ) (vs : List ValueTree) (b : ℕ) (g : Option FunctionTree) (o : OutcomeTree) → slice_get fs j ≡ g → end_of (body_means calling g vs b) ≡ Some o → RunEnds j vs b o
  function_ends calling sound j vs b None o s k = absurd cc
  function_ends calling sound j vs b (Some g) o s k = arity_ends calling sound j vs b g (nat_eq (length vs) (length g.params)) o refl s k

  pub simulates : (j : ℕ) (vs : List ValueTree) (b : ℕ) (o : OutcomeTree) → end_of (Outcome fs j vs b) ≡ Some o → RunEnds j vs b o
  unfolding Outcome
  simulates j vs b o k = function_ends (running fs b) (calls_sound b) j vs b (slice_get fs j) o refl k
