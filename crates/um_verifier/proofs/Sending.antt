-- A table after states arrived.
use Rattle.std.proofs.Common.{◌≡◌, ◌≢◌, refl, sym, ap, ◌∙◌, subst, ℕ, ◌+◌, ◌-◌, ◌<◌, Bool, cond, List, [], ◌∷◌, length, get_or, set, ◌⊎◌, inl, inr, true, false, arith}
use Rattle.std.specs.Prelude.{nat_eq}
use Rattle.std.proofs.lemmas.Bool.{cases_order}
use Rattle.std.proofs.lemmas.List.{get_or-set_same, get_or-set_other}
use Rattle.std.proofs.lemmas.Bool.Decides.{nat_tests}
use Rattle.um_verify.specs.StackShape.{StackShape}
use Rattle.um_verify.specs.Rules as rules
use Rattle.um_verify.specs.Verified as verified
use Rattle.um_verify.specs.Verified.{merge, gather, sends}
use Rattle.um_stacks.specs.FlatShapes.{flat_shapes}
use Rattle.um_stacks.specs.Stacks.{shapes_at, Grows}
use Rattle.um_stacks.specs.declared.flat.FlatShape.{FlatShape}
use Rattle.um_stacks.proofs.Growth.{stack_stays, more_stacks}
use Rattle.um_verifier.specs.Tables.{met_of, met_at, IsMetBelow, AreMetBelow, with_pushed, state_of, sent_of, flow_of, StaysIn}
use Rattle.um_verifier.specs.declared.table.Met.{Met}
use Rattle.um_verifier.specs.declared.table.Met.TheVariants.{Nobody, Clash, Arrived}
use Rattle.um_verifier.specs.declared.table.Sent.{Sent}
use Rattle.um_verifier.specs.declared.table.Flow.{Flow}
use Rattle.um_verifier.specs.declared.table.Flow.TheVariants.{Goes, Forks}

equal_numbers : (m n : ℕ) → m ≡ n → nat_eq m n ≡ true
equal_numbers m n h = grind (arith, nat_tests)

other_numbers : (m n : ℕ) → m ≢ n → nat_eq m n ≡ false
other_numbers m n h = grind (arith, nat_tests)

gather_hit : (m : verified.Met) (u t : ℕ) (x : List StackShape) (ps : List rules.Sent) → u ≡ t → gather m (record { to = u; state = x } ∷ ps) t ≡ gather (merge m x) ps t
gather_hit m u t x ps h = ap (λ (b : Bool). gather (cond b (merge m x) m) ps t) (equal_numbers u t h)

gather_miss : (m : verified.Met) (u t : ℕ) (x : List StackShape) (ps : List rules.Sent) → u ≢ t → gather m (record { to = u; state = x } ∷ ps) t ≡ gather m ps t
gather_miss m u t x ps h = ap (λ (b : Bool). gather (cond b (merge m x) m) ps t) (other_numbers u t h)

-- ---- what numbers stand for stays

pub met_stays : (old new : List (List FlatShape)) (m : Met) → Grows old new → IsMetBelow (length old) m → met_of new m ≡ met_of old m
met_stays old new Nobody g h = refl
met_stays old new Clash g h = refl
met_stays old new (Arrived k) g h = ap (λ (st : List FlatShape). verified.arrived (flat_shapes st)) (stack_stays old new k g h)

pub below_stays : (old new : List (List FlatShape)) (m : Met) → Grows old new → IsMetBelow (length old) m → IsMetBelow (length new) m
below_stays old new Nobody g h = tt
below_stays old new Clash g h = tt
below_stays old new (Arrived k) g h = let l = more_stacks old new g in omega (arith, l, h)

pub state_stays : (old new : List (List FlatShape)) (s : Sent) → Grows old new → s.low < length old → state_of new s ≡ state_of old s
state_stays old new s g h = ap (λ (st : List FlatShape). with_pushed (flat_shapes st) s.pushed) (stack_stays old new s.low g h)

-- ---- one state arrives

module _ (first last : List (List FlatShape)) (old new : List Met) (place : ℕ) (m : Met) (within : place < length old) (set_is : new ≡ set old place m) (g : Grows first last) (below : AreMetBelow (length first) old) where
  pub arrived_place : (n : verified.Met) → met_of last m ≡ n → met_at last new place ≡ n
  arrived_place n h = ap (λ (t : List Met). met_at last t place) set_is ∙ ap (met_of last) (get_or-set_same old place m Nobody within) ∙ h

  pub arrived_others : (t : ℕ) → t ≢ place → met_at last new t ≡ met_at first old t
  arrived_others t h =
      ap (λ (u : List Met). met_at last u t) set_is ∙ ap (met_of last) (get_or-set_other old place t m Nobody h) ∙ met_stays first last (get_or old t Nobody) g (below t)

  pub arrived_below : IsMetBelow (length last) m → AreMetBelow (length last) new
  arrived_below h t = subst (λ (u : List Met). IsMetBelow (length last) (get_or u t Nobody)) (sym set_is) (which (cases_order t place)) where
    which : (t ≡ place) ⊎ ((t < place) ⊎ (place < t)) → IsMetBelow (length last) (get_or (set old place m) t Nobody)
    which (inl e) =
        subst (λ (u : ℕ). IsMetBelow (length last) (get_or (set old place m) u Nobody)) (sym e) (subst (IsMetBelow (length last)) (sym (get_or-set_same old place m Nobody within)) h)
    which (inr (inl l)) =
        let ne : t ≢ place = omega arith in
        subst (IsMetBelow (length last)) (sym (get_or-set_other old place t m Nobody ne)) (below_stays first last (get_or old t Nobody) g (below t))
    which (inr (inr l)) =
        let ne : t ≢ place = omega arith in
        subst (IsMetBelow (length last)) (sym (get_or-set_other old place t m Nobody ne)) (below_stays first last (get_or old t Nobody) g (below t))

-- what had arrived at the place, before and after the state was made
pub merged_is : (first mid : List (List FlatShape)) (old : Met) (n : verified.Met) (st : List StackShape) (k : ℕ) → Grows first mid → IsMetBelow (length first) old → n ≡ merge (met_of mid old) (shapes_at mid k) → shapes_at mid k ≡ st → n ≡ merge (met_of first old) st
merged_is first mid old n st k g h e s = e ∙ (λ i. merge (met_stays first mid old g h i) (s i))

-- ---- what is passed on arrives

-- what has arrived at each place
abbrev Arrivals : Type 0
Arrivals = ℕ → verified.Met

one_sent : (old new : Arrivals) (start place to : ℕ) (st : List StackShape) → to ≡ start + place → new place ≡ merge (old place) st → ((t : ℕ) → t ≢ place → new t ≡ old t) → (t : ℕ) → new t ≡ gather (old t) (record { to = to; state = st } ∷ []) (start + t)
one_sent old new start place to st h here there t = which (cases_order t place)
  where
    which : (t ≡ place) ⊎ ((t < place) ⊎ (place < t)) → new t ≡ gather (old t) (record { to = to; state = st } ∷ []) (start + t)
    which (inl e) =
        let q : to ≡ start + t = omega (arith, h, e) in
        ap new e ∙ here ∙ ap (λ (x : ℕ). merge (old x) st) (sym e) ∙ sym (gather_hit (old t) to (start + t) st [] q)
    which (inr (inl l)) =
        let ne : t ≢ place = omega arith in let q : to ≢ start + t = omega arith in
        there t ne ∙ sym (gather_miss (old t) to (start + t) st [] q)
    which (inr (inr l)) =
        let ne : t ≢ place = omega arith in let q : to ≢ start + t = omega arith in
        there t ne ∙ sym (gather_miss (old t) to (start + t) st [] q)

pub goes_sent : (stacks : List (List FlatShape)) (flow : Flow) (p : Sent) (start end : ℕ) (old new : ℕ → verified.Met) → flow ≡ Goes p → StaysIn start end flow → new (p.to - start) ≡ merge (old (p.to - start)) (state_of stacks p) → ((t : ℕ) → t ≢ p.to - start → new t ≡ old t) → (t : ℕ) → new t ≡ sends (old t) (flow_of stacks flow) (start + t)
goes_sent stacks flow p start end old new e s h hs t =
    let i : StaysIn start end (Goes p) = subst (StaysIn start end) e s in
    let a : p.to ≡ start + (p.to - start) = omega (arith, i.0) in
    one_sent old new start (p.to - start) p.to (state_of stacks p) a h hs t ∙ ap (λ (f : Flow). sends (old t) (flow_of stacks f) (start + t)) (sym e)

pub forks_sent : (stacks : List (List FlatShape)) (flow : Flow) (p q : Sent) (to start end : ℕ) (st : List StackShape) (old mid new : ℕ → verified.Met) → flow ≡ Forks p q → StaysIn start end flow → to ≡ q.to → st ≡ state_of stacks q → mid (p.to - start) ≡ merge (old (p.to - start)) (state_of stacks p) → ((t : ℕ) → t ≢ p.to - start → mid t ≡ old t) → new (to - start) ≡ merge (mid (to - start)) st → ((t : ℕ) → t ≢ to - start → new t ≡ mid t) → (t : ℕ) → new t ≡ sends (old t) (flow_of stacks flow) (start + t)
forks_sent stacks flow p q to start end st old mid new e s same is h hs k ks t =
    let i : StaysIn start end (Forks p q) = subst (StaysIn start end) e s in
    let a : p.to ≡ start + (p.to - start) = omega (arith, i.0) in
    let b : to ≡ start + (to - start) = omega (arith, i.2, same) in
    one_sent mid new start (to - start) to st b k ks t
    ∙ (λ j. gather (mid t) (record { to = same j; state = is j } ∷ []) (start + t))
    ∙ ap (λ (m : verified.Met). gather m (sent_of stacks q ∷ []) (start + t)) (one_sent old mid start (p.to - start) p.to (state_of stacks p) a h hs t)
    ∙ ap (λ (f : Flow). sends (old t) (flow_of stacks f) (start + t)) (sym e)
