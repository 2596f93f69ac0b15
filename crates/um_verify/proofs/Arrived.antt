-- What has arrived at an address is still there when it is looked at.
use Rattle.std.proofs.Common.{◌≡◌, refl, sym, subst, ℕ, zero, suc, ◌+◌, ◌-◌, ◌<◌, Bool, true, false, cond, List, [], ◌∷◌, Option, Some, None, slice_get, arith, ◌⊎◌, inl, inr}
use Rattle.std.specs.Prelude.{nat_eq, nat_lt}
use Rattle.um_tree.specs.ValueTree.{ValueTree}
use Rattle.um_verify.specs.StackShape.{StackShape, join_all}
use Rattle.um_verify.specs.Rules.{Body, View, Sent, Flow, fails, passes, inside}
use Rattle.um_verify.specs.Verified.{Met, nobody, clash, arrived, joined, merge, gather, sends, met, flow}
use Rattle.um_verify.proofs.Fits.{IfSome, Have, AllBelow, joins_left, joins_right, equal_numbers, below_number}

-- one of the states that are passed on
abbrev pub Among : Sent → List Sent → Type 0
Among p [] = ⊥
Among p (q ∷ ps) = (q ≡ p) ⊎ Among p ps

inside_at : (a end : ℕ) (p q : Sent) (ps : List Sent) (b c : Bool) → nat_lt a q.to ≡ b → nat_lt q.to end ≡ c → (inside a end ps ≡ true → Among p ps → (a < p.to) × (p.to < end)) → cond b (cond c (inside a end ps) false) false ≡ true → (q ≡ p) ⊎ Among p ps → (a < p.to) × (p.to < end)
inside_at a end p q ps true true e f ih h (inl k) = subst (λ (p : Sent). (a < p.to) × (p.to < end)) k (below_number a q.to e, below_number q.to end f)
inside_at a end p q ps true true e f ih h (inr k) = ih h k
inside_at a end p q ps true false e f ih h k = absurd cc
inside_at a end p q ps false c e f ih h k = absurd cc

pub among_inside : (a end : ℕ) (p : Sent) (ps : List Sent) → inside a end ps ≡ true → Among p ps → (a < p.to) × (p.to < end)
among_inside a end p [] h k = absurd k
among_inside a end p (q ∷ ps) h k = inside_at a end p q ps (nat_lt a q.to) (nat_lt q.to end) refl refl (among_inside a end p ps) h k

module _ (view : View) where
  -- values of the join of what has arrived, where there is one
  abbrev pub Holds : List ValueTree → Met → Type 0
  Holds vs nobody = ⊥
  Holds vs clash = Unit {0}
  Holds vs (arrived st) = Have view.fields vs st

  joined_holds : (vs : List ValueTree) (o : Option (List StackShape)) (ss : List StackShape) → Have view.fields vs ss → IfSome o (AllBelow view.fields ss) → Holds vs (joined o)
  joined_holds vs None ss h k = tt
  joined_holds vs (Some st) ss h k = k vs h

  merge_old : (vs : List ValueTree) (m : Met) (st : List StackShape) → Holds vs m → Holds vs (merge m st)
  merge_old vs nobody st h = absurd h
  merge_old vs clash st h = tt
  merge_old vs (arrived old) st h = joined_holds vs (join_all old st) old h (joins_left view.fields old st)

  merge_new : (vs : List ValueTree) (m : Met) (st : List StackShape) → Have view.fields vs st → Holds vs (merge m st)
  merge_new vs nobody st h = h
  merge_new vs clash st h = tt
  merge_new vs (arrived old) st h = joined_holds vs (join_all old st) st h (joins_right view.fields old st)

  cond_old : (vs : List ValueTree) (b : Bool) (m : Met) (st : List StackShape) → Holds vs m → Holds vs (cond b (merge m st) m)
  cond_old vs true m st h = merge_old vs m st h
  cond_old vs false m st h = h

  gather_old : (vs : List ValueTree) (ps : List Sent) (m : Met) (t : ℕ) → Holds vs m → Holds vs (gather m ps t)
  gather_old vs [] m t h = h
  gather_old vs (p ∷ ps) m t h = gather_old vs ps (cond (nat_eq p.to t) (merge m p.state) m) t (cond_old vs (nat_eq p.to t) m p.state h)

  gather_new : (vs : List ValueTree) (ps : List Sent) (m : Met) (p : Sent) → Among p ps → Have view.fields vs p.state → Holds vs (gather m ps p.to)
  gather_new vs [] m p k h = absurd k
  gather_new vs (q ∷ ps) m p (inl k) h =
      subst (λ (p : Sent). Have view.fields vs p.state → Holds vs (gather m (q ∷ ps) p.to)) k
      (λ h. gather_old vs ps (cond (nat_eq q.to q.to) (merge m q.state) m) q.to (subst (λ (b : Bool). Holds vs (cond b (merge m q.state) m)) (sym (equal_numbers q.to q.to refl)) (merge_new vs m q.state h))) h
  gather_new vs (q ∷ ps) m p (inr k) h = gather_new vs ps (cond (nat_eq q.to p.to) (merge m q.state) m) p k h

  sends_old : (vs : List ValueTree) (m : Met) (fl : Flow) (t : ℕ) → Holds vs m → Holds vs (sends m fl t)
  sends_old vs m fails t h = h
  sends_old vs m (passes ps) t h = gather_old vs ps m t h

  met_later : (e : Body) (vs : List ValueTree) (t n k : ℕ) → Holds vs (met view e t n) → Holds vs (met view e t (k + n))
  met_later e vs t n zero h = let z : 0 + n ≡ n = omega arith in subst (λ (m : ℕ). Holds vs (met view e t m)) (sym z) h
  met_later e vs t n (suc k) h =
      let z : suc k + n ≡ suc (k + n) = omega arith in
      subst (λ (m : ℕ). Holds vs (met view e t m)) (sym z) (sends_old vs (met view e t (k + n)) (flow view e (k + n)) t (met_later e vs t n k h))

  -- the address is one of function f's, and what arrives there takes these values in
  abbrev pub Opens : ℕ → ℕ → (List ValueTree → Type 0) → Type 0
  Opens f a P = (e : Body) × (n : ℕ) × (slice_get view.bodies f ≡ Some e) × (e.start + n ≡ a) × (a < e.end) × ((vs : List ValueTree) → P vs → Holds vs (met view e a n))

  pub passed_on : (f : ℕ) (e : Body) (n : ℕ) (ps : List Sent) → slice_get view.bodies f ≡ Some e → flow view e n ≡ passes ps → inside (e.start + n) e.end ps ≡ true → (p : Sent) → Among p ps → Opens f p.to (λ vs. Have view.fields vs p.state)
  passed_on f e n ps s h i p k =
      let r = among_inside (e.start + n) e.end p ps i k in
      let j : ℕ = p.to - e.start in
      let d : ℕ = j - suc n in
      let x : d + suc n ≡ j = omega arith in
      (e, j, s, omega arith, r.1, λ vs g. subst (λ (m : ℕ). Holds vs (met view e p.to m)) x (met_later e vs p.to (suc n) d (subst (λ (fl : Flow). Holds vs (sends (met view e p.to n) fl p.to)) (sym h) (gather_new vs ps (met view e p.to n) p k g))))
