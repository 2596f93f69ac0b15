-- What the code of an expression makes of what has arrived, address by address.
use Rattle.std.proofs.Common.{◌≡◌, ◌≢◌, refl, sym, subst, ap, ◌∙◌, ℕ, suc, ◌+◌, ◌-◌, ◌<◌, ◌≤◌, Bool, true, false, cond, List, [], ◌∷◌, ◌++◌, length, Option, Some, slice_get, arith, ◌⊎◌, inl, inr, append_assoc, append-nil}
use Rattle.std.specs.Prelude.{nat_lt}
use Rattle.std.proofs.lemmas.Bool.{cases_lt}
use Rattle.um_tree.specs.TypeTree.{ShapeTree}
use Rattle.um_tree.specs.Heights.{greatest_height}
use Rattle.um_shape.specs.RecordShapes.{RecordShape}
use Rattle.um_machine.specs.declared.op.Op.{Op}
use Rattle.um_machine.specs.declared.op.Op.TheVariants.{Jump, JumpIfNot, Split, Slide}
use Rattle.um_machine.specs.Stack.{takes, on_one}
use Rattle.um_verify.specs.StackShape.{StackShape, void, bool, num, list, made, on_stack, fits, stack_height}
use Rattle.um_verify.specs.Rules.{Body, View, Sent, Flow, fails, passes, need, to, on_list_shape, rule, inside, low_states, forwards}
use Rattle.um_verify.specs.Verified.{Met, nobody, arrived, merge, passed, gather, sends, met, flow, Passes}
use Rattle.um_image.proofs.Tops.{is_below, merges, Tops, all_fit, merges_top, gather_hit, gather_miss, takes_from, FitEach, Low, IsLow, low_fitting, low_more, low_sent}

module _ (view : View) (e : Body) (positive : (r : ℕ) (d : RecordShape) → slice_get view.heights r ≡ Some d → 1 ≤ d.height) where
  -- what has arrived at t before address a, and what address a passes on
  abbrev pub M : ℕ → ℕ → Met
  M t a = met view e t (a - e.start)

  abbrev pub F : ℕ → Flow
  F a = flow view e (a - e.start)

  abbrev pub LowState : List StackShape → Type 0
  LowState st = Low view.heights positive st

  abbrev pub LowShape : StackShape → Type 0
  LowShape s = IsLow view.heights positive s

  -- nobody is passed on to an address between
  abbrev pub Quiet : ℕ → ℕ → Type 0
  Quiet a z = (t : ℕ) → a < t → t < z → M t a ≡ nobody

  abbrev pub HasOp : ℕ → Op → Type 0
  HasOp a i = slice_get view.ops a ≡ Some i

  F_is : (a : ℕ) → e.start ≤ a → F a ≡ passed view e a (slice_get view.ops a) (M a a)
  F_is a h =
      let q : e.start + (a - e.start) ≡ a = omega arith in
      ap (λ (x : ℕ). passed view e x (slice_get view.ops x) (met view e x (a - e.start))) q

  M_next : (t a : ℕ) → e.start ≤ a → M t (a + 1) ≡ sends (M t a) (F a) t
  M_next t a h = let q : a + 1 - e.start ≡ suc (a - e.start) = omega arith in ap (met view e t) q

  pub flow_is : (a : ℕ) (i : Op) (st : List StackShape) (ps : List Sent) → e.start ≤ a → HasOp a i → M a a ≡ arrived st → rule view e a st i ≡ passes ps → inside a e.end ps ≡ true → low_states view.heights ps ≡ true → F a ≡ passes ps
  flow_is a i st ps b h m r j k =
      F_is a b
      ∙ ap (λ (o : Option Op). passed view e a o (M a a)) h
      ∙ ap (λ (m : Met). passed view e a (Some i) m) m
      ∙ ap (λ (fl : Flow). forwards view e a fl) r
      ∙ ap (λ (t : Bool). need t (need (low_states view.heights ps) (passes ps))) j
      ∙ ap (λ (t : Bool). need t (passes ps)) k

  met_is : (a t : ℕ) (ps : List Sent) → e.start ≤ a → F a ≡ passes ps → M t (a + 1) ≡ gather (M t a) ps t
  met_is a t ps b h = M_next t a b ∙ ap (λ (fl : Flow). sends (M t a) fl t) h

  pub passes_is : (a : ℕ) (ps : List Sent) → F a ≡ passes ps → Passes (F a)
  passes_is a ps h = subst Passes (sym h) tt

  inside_one : (a u : ℕ) (x : List StackShape) (ps : List Sent) → a < u → u < e.end → inside a e.end ps ≡ true → inside a e.end (record { to = u; state = x } ∷ ps) ≡ true
  inside_one a u x ps h k j =
      ap (λ (b : Bool). cond b (cond (nat_lt u e.end) (inside a e.end ps) false) false) (is_below a u h)
      ∙ ap (λ (b : Bool). cond b (inside a e.end ps) false) (is_below u e.end k)
      ∙ j

  low_one : (u : ℕ) (st : List StackShape) → LowState st → low_states view.heights (record { to = u; state = st } ∷ []) ≡ true
  low_one u st h = low_sent view.heights positive u st [] h refl

  low_two : (u v : ℕ) (st xs : List StackShape) → LowState st → LowState xs → low_states view.heights (record { to = u; state = st } ∷ record { to = v; state = xs } ∷ []) ≡ true
  low_two u v st xs h k = low_sent view.heights positive u st (record { to = v; state = xs } ∷ []) h (low_one v xs k)

  -- what the code from a to z makes of what has arrived: at z arrive these states, no later address changes, and each
  -- rule between holds
  pub record Through (a z : ℕ) (st : List StackShape) (s : StackShape) : Type 0 where
    pub tops : List StackShape
    pub good : Tops tops s
    pub lands : met view e z (z - e.start) ≡ merges (met view e z (a - e.start)) st tops
    pub keeps : (t : ℕ) → z < t → met view e t (z - e.start) ≡ met view e t (a - e.start)
    pub holds : (k : ℕ) → a ≤ k → k < z → Passes (flow view e (k - e.start))

  abbrev pub Between : ℕ → ℕ → Type 0
  Between a z = (k : ℕ) → a ≤ k → k < z → Passes (F k)

  pub both_hold : (a k z : ℕ) → Between a k → Between k z → Between a z
  both_hold a k z f g j lo hi = which (cases_lt j k) where
    which : (j < k) ⊎ (k ≤ j) → Passes (F j)
    which (inl c) = f j lo c
    which (inr c) = g j c hi

  one_holds : (k : ℕ) → Passes (F k) → Between k (k + 1)
  one_holds k h j a b = let q : k ≡ j = omega arith in subst (λ (j : ℕ). Passes (F j)) q h

  pub at_end : (a z l : ℕ) (st : List StackShape) (s : StackShape) → z ≡ l → Through a l st s → Through a z st s
  at_end a z l st s h g = subst (λ (z : ℕ). Through a z st s) (sym h) g

  pub of_shape : (a z : ℕ) (st : List StackShape) (s t : StackShape) → s ≡ t → Through a z st s → Through a z st t
  of_shape a z st s t h g = subst (λ (s : StackShape). Through a z st s) h g

  -- the last instruction
  pub ends : (a l : ℕ) (i : Op) (was st : List StackShape) (w s : StackShape) → e.start ≤ a → a ≤ l → HasOp l i → M l l ≡ arrived was → rule view e l was i ≡ to (l + 1) (st ++ w ∷ []) → fits w s ≡ true → LowState st → LowShape s → l + 1 < e.end → ((t : ℕ) → l < t → M t l ≡ M t a) → Between a l → Through a (l + 1) st s
  ends a l i was st w s b c h m r f lst ls end keeps holds =
      let low : LowState (st ++ w ∷ []) = low_more view.heights positive st w lst (low_fitting view.heights positive w s f ls) in
      let one : List Sent = record { to = l + 1; state = st ++ w ∷ [] } ∷ [] in
      let fl : F l ≡ passes one = flow_is l i was one (omega arith) h m r (inside_one l (l + 1) (st ++ w ∷ []) [] (omega arith) end refl) (low_one (l + 1) (st ++ w ∷ []) low) in
      record {
        tops = w ∷ [];
        good = (f, tt);
        lands = met_is l (l + 1) one (omega arith) fl ∙ gather_hit (M (l + 1) l) (l + 1) (l + 1) (st ++ w ∷ []) [] refl ∙ ap (λ (m : Met). merge m (st ++ w ∷ [])) (keeps (l + 1) (omega arith));
        keeps = λ t d.
            let ne : l + 1 ≢ t = omega arith in
            met_is l t one (omega arith) fl ∙ gather_miss (M t l) (l + 1) t (st ++ w ∷ []) [] ne ∙ keeps t (omega arith);
        holds = both_hold a l (l + 1) holds (one_holds l (passes_is l one fl));
      }

  pub leaf : (a : ℕ) (i : Op) (st : List StackShape) (w s : StackShape) → e.start ≤ a → HasOp a i → M a a ≡ arrived st → rule view e a st i ≡ to (a + 1) (st ++ w ∷ []) → fits w s ≡ true → LowState st → LowShape s → a + 1 < e.end → Through a (a + 1) st s
  leaf a i st w s b h m r f lst ls end = ends a a i st st w s b (omega arith) h m r f lst ls end (λ t d. refl) (λ k lo hi. absurd (omega arith))

  -- the state at the end, where nobody else arrives
  pub top_of : (a z : ℕ) (st : List StackShape) (s : StackShape) (x : Through a z st s) → M z a ≡ nobody → (u : StackShape) × (M z z ≡ arrived (st ++ u ∷ [])) × (fits u s ≡ true)
  top_of a z st s x q = let w = merges_top (M z a) st x.tops s q x.good in (w.0, x.lands ∙ w.1, w.2)

  -- one part and an instruction on its value
  pub single : (a l : ℕ) (i : Op) (st : List StackShape) (asked s : StackShape) → e.start ≤ a → a < l → Through a l st asked → M l a ≡ nobody → HasOp l i → ((w : StackShape) → fits w asked ≡ true → (u : StackShape) × (rule view e l (st ++ w ∷ []) i ≡ to (l + 1) (st ++ u ∷ [])) × (fits u s ≡ true)) → LowState st → LowShape s → l + 1 < e.end → Through a (l + 1) st s
  single a l i st asked s b c x q h r lst ls end =
      let w = top_of a l st asked x q in
      let u = r w.0 w.2 in
      ends a l i (st ++ w.0 ∷ []) st u.0 s b (omega arith) h w.1 u.1 u.2 lst ls end x.keeps x.holds

  -- one part, then a second above its value
  pub record Pair (a l : ℕ) (st : List StackShape) (s t : StackShape) : Type 0 where
    pub low : StackShape
    pub top : StackShape
    pub low_fits : fits low s ≡ true
    pub top_fits : fits top t ≡ true
    pub arrives : met view e l (l - e.start) ≡ arrived ((st ++ low ∷ []) ++ top ∷ [])
    pub keeps : (u : ℕ) → l < u → met view e u (l - e.start) ≡ met view e u (a - e.start)
    pub holds : (k : ℕ) → a ≤ k → k < l → Passes (flow view e (k - e.start))

  pub pair_of : (a k l : ℕ) (st : List StackShape) (s t : StackShape) → e.start ≤ a → a < k → k < l → Quiet a (l + 1) → Through a k st s → ((w : StackShape) → fits w s ≡ true → M k k ≡ arrived (st ++ w ∷ []) → Quiet k (l + 1) → Through k l (st ++ w ∷ []) t) → Pair a l st s t
  pair_of a k l st s t b p q quiet x ty =
      let v = top_of a k st s x (quiet k p (omega arith)) in
      let quiet_k : Quiet k (l + 1) = λ u c d. x.keeps u c ∙ quiet u (omega arith) d in
      let y = ty v.0 v.2 v.1 quiet_k in
      let w = top_of k l (st ++ v.0 ∷ []) t y (quiet_k l q (omega arith)) in
      record {
        low = v.0;
        top = w.0;
        low_fits = v.2;
        top_fits = w.2;
        arrives = w.1;
        keeps = λ u c. y.keeps u c ∙ x.keeps u (omega arith);
        holds = both_hold a k l x.holds y.holds;
      }

  pub double : (a l : ℕ) (i : Op) (st : List StackShape) (s t whole : StackShape) → e.start ≤ a → a < l → Pair a l st s t → HasOp l i → ((v w : StackShape) → fits v s ≡ true → fits w t ≡ true → (u : StackShape) × (rule view e l ((st ++ v ∷ []) ++ w ∷ []) i ≡ to (l + 1) (st ++ u ∷ [])) × (fits u whole ≡ true)) → LowState st → LowShape whole → l + 1 < e.end → Through a (l + 1) st whole
  double a l i st s t whole b c p h r lst ls end =
      let u = r p.low p.top p.low_fits p.top_fits in
      ends a l i ((st ++ p.low ∷ []) ++ p.top ∷ []) st u.0 whole b (omega arith) h p.arrives u.1 u.2 lst ls end p.keeps p.holds

  -- parts, each above the values of those before
  pub record Row (n a z : ℕ) (st : List StackShape) (ss : List ShapeTree) : Type 0 where
    pub tops : List StackShape
    pub good : FitEach tops ss
    pub counted : n ≡ length tops
    pub arrives : met view e z (z - e.start) ≡ arrived (st ++ tops)
    pub keeps : (t : ℕ) → z < t → met view e t (z - e.start) ≡ met view e t (a - e.start)
    pub holds : (k : ℕ) → a ≤ k → k < z → Passes (flow view e (k - e.start))

  pub no_row : (a : ℕ) (st : List StackShape) → M a a ≡ arrived st → Row 0 a a st []
  no_row a st m = record {
    tops = [];
    good = tt;
    counted = refl;
    arrives = m ∙ ap arrived (sym (append-nil st));
    keeps = λ t c. refl;
    holds = λ k lo hi. absurd (omega arith);
  }

  pub more_row : (n a k z : ℕ) (st : List StackShape) (s : ShapeTree) (ss : List ShapeTree) → e.start ≤ a → a < k → k ≤ z → Quiet a (z + 1) → Through a k st (on_stack s) → ((w : StackShape) → fits w (on_stack s) ≡ true → M k k ≡ arrived (st ++ w ∷ []) → Quiet k (z + 1) → Row n k z (st ++ w ∷ []) ss) → Row (n + 1) a z st (s ∷ ss)
  more_row n a k z st s ss b p q quiet x ty =
      let v = top_of a k st (on_stack s) x (quiet k p (omega arith)) in
      let y = ty v.0 v.2 v.1 (λ u c d. x.keeps u c ∙ quiet u (omega arith) d) in
      let m = y.counted in
      record {
        tops = v.0 ∷ y.tops;
        good = (v.2, y.good);
        counted = omega arith;
        arrives = y.arrives ∙ ap arrived (append_assoc st (v.0 ∷ []) y.tops);
        keeps = λ u c. y.keeps u c ∙ x.keeps u (omega arith);
        holds = both_hold a k z x.holds y.holds;
      }

  pub row_ends : (n a l : ℕ) (i : Op) (st : List StackShape) (ss : List ShapeTree) (whole : StackShape) → e.start ≤ a → a ≤ l → Row n a l st ss → HasOp l i → ((ws : List StackShape) → FitEach ws ss → n ≡ length ws → (u : StackShape) × (rule view e l (st ++ ws) i ≡ to (l + 1) (st ++ u ∷ [])) × (fits u whole ≡ true)) → LowState st → LowShape whole → l + 1 < e.end → Through a (l + 1) st whole
  row_ends n a l i st ss whole b c x h r lst ls end =
      let u = r x.tops x.good x.counted in
      ends a l i (st ++ x.tops) st u.0 whole b c h x.arrives u.1 u.2 lst ls end x.keeps x.holds

  -- Two ways on from address k: the first arm's state is at the next address, and the second's at the one behind the
  -- jump with which the first arm ends.
  pub fork : (a k l z : ℕ) (st first : List StackShape) (s : StackShape) → e.start ≤ a → a ≤ k → k + 1 < l → l + 1 < z → z < e.end → Quiet a z → ((t : ℕ) → k < t → k + 1 ≢ t → l + 1 ≢ t → M t (k + 1) ≡ M t a) → M (k + 1) (k + 1) ≡ arrived first → M (l + 1) (k + 1) ≡ arrived st → Between a (k + 1) → HasOp l (Jump z) → LowState st → LowShape s → (M (k + 1) (k + 1) ≡ arrived first → Quiet (k + 1) l → M l (k + 1) ≡ nobody → Through (k + 1) l st s) → (M (l + 1) (l + 1) ≡ arrived st → Quiet (l + 1) z → Through (l + 1) z st s) → Through a z st s
  fork a k l z st first s b p q r end quiet above_k m1 ml before hl lst ls tx ty =
      let dl : k + 1 ≢ l = omega arith in
      let gl : l + 1 ≢ l = omega arith in
      let nobody_l : M l (k + 1) ≡ nobody = above_k l (omega arith) dl gl ∙ quiet l (omega arith) (omega arith) in
      let x = tx m1 (λ t c d. let g : k + 1 ≢ t = omega arith in let i : l + 1 ≢ t = omega arith in above_k t (omega arith) g i ∙ quiet t (omega arith) (omega arith)) nobody_l in
      let w = top_of (k + 1) l st s x nobody_l in
      let low : LowState (st ++ w.0 ∷ []) = low_more view.heights positive st w.0 lst (low_fitting view.heights positive w.0 s w.2 ls) in
      let one : List Sent = record { to = z; state = st ++ w.0 ∷ [] } ∷ [] in
      let fl : F l ≡ passes one = flow_is l (Jump z) (st ++ w.0 ∷ []) one (omega arith) hl w.1 refl (inside_one l z (st ++ w.0 ∷ []) [] (omega arith) end refl) (low_one z (st ++ w.0 ∷ []) low) in
      let above_l : (t : ℕ) → l < t → z ≢ t → M t (l + 1) ≡ M t (k + 1) = λ t c d. met_is l t one (omega arith) fl ∙ gather_miss (M t l) z t (st ++ w.0 ∷ []) [] d ∙ x.keeps t c in
      let nz : z ≢ l + 1 = omega arith in
      let y = ty (above_l (l + 1) (omega arith) nz ∙ ml) (λ t c d.
      let h : z ≢ t = omega arith in let g : k + 1 ≢ t = omega arith in let i : l + 1 ≢ t = omega arith in
      above_l t (omega arith) h ∙ above_k t (omega arith) g i ∙ quiet t (omega arith) d) in
      let gz : k + 1 ≢ z = omega arith in
      let iz : l + 1 ≢ z = omega arith in
      let mz : M z (l + 1) ≡ merge (M z a) (st ++ w.0 ∷ []) =
      met_is l z one (omega arith) fl ∙ gather_hit (M z l) z z (st ++ w.0 ∷ []) [] refl ∙ ap (λ (m : Met). merge m (st ++ w.0 ∷ [])) (x.keeps z (omega arith) ∙ above_k z (omega arith) gz iz) in
      record {
        tops = w.0 ∷ y.tops;
        good = (w.2, all_fit y.tops s y.good);
        lands = y.lands ∙ ap (λ (m : Met). merges m st y.tops) mz;
        keeps = λ t c.
            let h : z ≢ t = omega arith in let g : k + 1 ≢ t = omega arith in let i : l + 1 ≢ t = omega arith in
            y.keeps t c ∙ above_l t (omega arith) h ∙ above_k t (omega arith) g i;
        holds = both_hold a (k + 1) z before (both_hold (k + 1) (l + 1) z (both_hold (k + 1) l (l + 1) x.holds (one_holds l (passes_is l one fl))) y.holds);
      }

  unless_rule : (k t : ℕ) (st : List StackShape) (w : StackShape) → fits w bool ≡ true → rule view e k (st ++ w ∷ []) (JumpIfNot t) ≡ passes (record { to = k + 1; state = st } ∷ record { to = t; state = st } ∷ [])
  unless_rule k t st w h =
      takes_from st (w ∷ []) 1 (λ low taken. on_one taken fails (λ y. need (fits y bool) (passes (record { to = k + 1; state = low } ∷ record { to = t; state = low } ∷ [])))) refl
      ∙ ap (λ (b : Bool). need b (passes (record { to = k + 1; state = st } ∷ record { to = t; state = st } ∷ []))) h

  -- a condition and its arms
  pub branch : (a k l z : ℕ) (st : List StackShape) (s : StackShape) → e.start ≤ a → a < k → k + 1 < l → l + 1 < z → z < e.end → Quiet a z → Through a k st bool → HasOp k (JumpIfNot (l + 1)) → HasOp l (Jump z) → LowState st → LowShape s → (M (k + 1) (k + 1) ≡ arrived st → Quiet (k + 1) l → M l (k + 1) ≡ nobody → Through (k + 1) l st s) → (M (l + 1) (l + 1) ≡ arrived st → Quiet (l + 1) z → Through (l + 1) z st s) → Through a z st s
  branch a k l z st s b p q r end quiet tc hk hl lst ls tx ty =
      let c = top_of a k st bool tc (quiet k p (omega arith)) in
      let two : List Sent = record { to = k + 1; state = st } ∷ record { to = l + 1; state = st } ∷ [] in
      let fk : F k ≡ passes two = flow_is k (JumpIfNot (l + 1)) (st ++ c.0 ∷ []) two (omega arith) hk c.1 (unless_rule k (l + 1) st c.0 c.2) (inside_one k (k + 1) st (record { to = l + 1; state = st } ∷ []) (omega arith) (omega arith) (inside_one k (l + 1) st [] (omega arith) (omega arith) refl)) (low_two (k + 1) (l + 1) st st lst lst) in
      let above_k : (t : ℕ) → k < t → k + 1 ≢ t → l + 1 ≢ t → M t (k + 1) ≡ M t a = λ t g d i. met_is k t two (omega arith) fk ∙ gather_miss (M t k) (k + 1) t st (record { to = l + 1; state = st } ∷ []) d ∙ gather_miss (M t k) (l + 1) t st [] i ∙ tc.keeps t g in
      let m1 : M (k + 1) (k + 1) ≡ arrived st =
      let d : l + 1 ≢ k + 1 = omega arith in
      met_is k (k + 1) two (omega arith) fk ∙ gather_hit (M (k + 1) k) (k + 1) (k + 1) st (record { to = l + 1; state = st } ∷ []) refl ∙ gather_miss (merge (M (k + 1) k) st) (l + 1) (k + 1) st [] d ∙ ap (λ (m : Met). merge m st) (tc.keeps (k + 1) (omega arith) ∙ quiet (k + 1) (omega arith) (omega arith)) in
      let ml : M (l + 1) (k + 1) ≡ arrived st =
      let d : k + 1 ≢ l + 1 = omega arith in
      met_is k (l + 1) two (omega arith) fk ∙ gather_miss (M (l + 1) k) (k + 1) (l + 1) st (record { to = l + 1; state = st } ∷ []) d ∙ gather_hit (M (l + 1) k) (l + 1) (l + 1) st [] refl ∙ ap (λ (m : Met). merge m st) (tc.keeps (l + 1) (omega arith) ∙ quiet (l + 1) (omega arith) (omega arith)) in
      fork a k l z st st s b (omega arith) q r end quiet above_k m1 ml (both_hold a k (k + 1) tc.holds (one_holds k (passes_is k two fk))) hl lst ls tx ty

  -- the item and the list that a list's shape has
  parts_rule : (k t : ℕ) (st : List StackShape) (w c : StackShape) → fits w (list c) ≡ true → (i r : StackShape) × (rule view e k (st ++ w ∷ []) (Split t) ≡ passes (record { to = t; state = st } ∷ record { to = k + 1; state = st ++ i ∷ r ∷ [] } ∷ [])) × (fits i c ≡ true) × (fits r (list c) ≡ true)
  parts_rule k t st void c h = (void, void, takes_from st (void ∷ []) 1 (λ low taken. on_one taken fails (λ y. on_list_shape y (λ item tail. passes (record { to = t; state = low } ∷ record { to = k + 1; state = low ++ item ∷ tail ∷ [] } ∷ [])))) refl, refl, refl)
  parts_rule k t st (list i) c h = (i, list i, takes_from st (list i ∷ []) 1 (λ low taken. on_one taken fails (λ y. on_list_shape y (λ item tail. passes (record { to = t; state = low } ∷ record { to = k + 1; state = low ++ item ∷ tail ∷ [] } ∷ [])))) refl, h, h)
  parts_rule k t st bool c h = absurd cc
  parts_rule k t st num c h = absurd cc
  parts_rule k t st (made r) c h = absurd cc

  slide_two : (k : ℕ) (st : List StackShape) (u v w : StackShape) → rule view e k ((st ++ u ∷ v ∷ []) ++ w ∷ []) (Slide 2) ≡ to (k + 1) (st ++ w ∷ [])
  slide_two k st u v w =
      takes_from (st ++ u ∷ v ∷ []) (w ∷ []) 1 (λ low taken. on_one taken fails (λ y. takes 0 2 low fails (λ lower dropped. to (k + 1) (lower ++ y ∷ [])))) refl
      ∙ takes_from st (u ∷ v ∷ []) 2 (λ lower dropped. to (k + 1) (lower ++ w ∷ [])) refl

  low_both : (st : List StackShape) (i r : StackShape) → LowState st → LowShape i → LowShape r → LowState (st ++ i ∷ r ∷ [])
  low_both st i r h k l =
      subst LowState (append_assoc st (i ∷ []) (r ∷ [])) (low_more view.heights positive (st ++ i ∷ []) r (low_more view.heights positive st i h k) l)

  -- an arm with two variables, and its slide
  slid : (k m : ℕ) (st : List StackShape) (u v s : StackShape) → e.start ≤ k → k < m → HasOp m (Slide 2) → LowState st → LowShape s → m + 1 < e.end → M m k ≡ nobody → Through k m (st ++ u ∷ v ∷ []) s → Through k (m + 1) st s
  slid k m st u v s b p h lst ls end quiet y =
      let w = top_of k m (st ++ u ∷ v ∷ []) s y quiet in
      ends k m (Slide 2) ((st ++ u ∷ v ∷ []) ++ w.0 ∷ []) st w.0 s b (omega arith) h w.1 (slide_two m st u v w.0) w.2 lst ls end y.keeps y.holds

  -- a list's arms: that with items, whose two values are slid away, and that of the empty list
  pub part : (a k m z : ℕ) (st : List StackShape) (c s : StackShape) → e.start ≤ a → a < k → k + 1 < m → m + 1 + 1 < z → z < e.end → Quiet a z → Through a k st (list c) → HasOp k (Split (m + 1 + 1)) → HasOp m (Slide 2) → HasOp (m + 1) (Jump z) → LowState st → LowShape (list c) → LowShape s → ((i r : StackShape) → fits i c ≡ true → fits r (list c) ≡ true → LowState (st ++ i ∷ r ∷ []) → M (k + 1) (k + 1) ≡ arrived (st ++ i ∷ r ∷ []) → Quiet (k + 1) m → Through (k + 1) m (st ++ i ∷ r ∷ []) s) → (M (m + 1 + 1) (m + 1 + 1) ≡ arrived st → Quiet (m + 1 + 1) z → Through (m + 1 + 1) z st s) → Through a z st s
  part a k m z st c s b p q r end quiet tc hk hm hl lst lc ls tx ty =
      let v = top_of a k st (list c) tc (quiet k p (omega arith)) in
      let g = parts_rule k (m + 1 + 1) st v.0 c v.2 in
      let high : stack_height view.heights c + 1 ≤ greatest_height = lc in
      let low_c : stack_height view.heights c ≤ greatest_height = omega arith in
      let both : List StackShape = st ++ g.0 ∷ g.1 ∷ [] in
      let low : LowState both = low_both st g.0 g.1 lst (low_fitting view.heights positive g.0 c g.3 low_c) (low_fitting view.heights positive g.1 (list c) g.4 lc) in
      let two : List Sent = record { to = m + 1 + 1; state = st } ∷ record { to = k + 1; state = both } ∷ [] in
      let fk : F k ≡ passes two = flow_is k (Split (m + 1 + 1)) (st ++ v.0 ∷ []) two (omega arith) hk v.1 g.2 (inside_one k (m + 1 + 1) st (record { to = k + 1; state = both } ∷ []) (omega arith) (omega arith) (inside_one k (k + 1) both [] (omega arith) (omega arith) refl)) (low_two (m + 1 + 1) (k + 1) st both lst low) in
      let above_k : (t : ℕ) → k < t → k + 1 ≢ t → m + 1 + 1 ≢ t → M t (k + 1) ≡ M t a = λ t h d i. met_is k t two (omega arith) fk ∙ gather_miss (M t k) (m + 1 + 1) t st (record { to = k + 1; state = both } ∷ []) i ∙ gather_miss (M t k) (k + 1) t both [] d ∙ tc.keeps t h in
      let m1 : M (k + 1) (k + 1) ≡ arrived both =
      let d : m + 1 + 1 ≢ k + 1 = omega arith in
      met_is k (k + 1) two (omega arith) fk ∙ gather_miss (M (k + 1) k) (m + 1 + 1) (k + 1) st (record { to = k + 1; state = both } ∷ []) d ∙ gather_hit (M (k + 1) k) (k + 1) (k + 1) both [] refl ∙ ap (λ (x : Met). merge x both) (tc.keeps (k + 1) (omega arith) ∙ quiet (k + 1) (omega arith) (omega arith)) in
      let ml : M (m + 1 + 1) (k + 1) ≡ arrived st =
      let d : k + 1 ≢ m + 1 + 1 = omega arith in
      met_is k (m + 1 + 1) two (omega arith) fk ∙ gather_hit (M (m + 1 + 1) k) (m + 1 + 1) (m + 1 + 1) st (record { to = k + 1; state = both } ∷ []) refl ∙ gather_miss (merge (M (m + 1 + 1) k) st) (k + 1) (m + 1 + 1) both [] d ∙ ap (λ (x : Met). merge x st) (tc.keeps (m + 1 + 1) (omega arith) ∙ quiet (m + 1 + 1) (omega arith) (omega arith)) in
      fork a k (m + 1) z st both s b (omega arith) (omega arith) r end quiet above_k m1 ml (both_hold a k (k + 1) tc.holds (one_holds k (passes_is k two fk))) hl lst ls
      (λ mx qx nx. slid (k + 1) m st g.0 g.1 s (omega arith) q hm lst ls (omega arith) (qx m (omega arith) (omega arith)) (tx g.0 g.1 g.3 g.4 low mx (λ t c d. qx t c (omega arith)))) ty
