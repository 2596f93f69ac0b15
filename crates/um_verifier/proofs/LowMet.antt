-- What has arrived at an address is low, where the parameters are.
use Rattle.std.proofs.Common.{◌≡◌, refl, ap, ◌∙◌, ℕ, zero, suc, ◌+◌, ◌≤◌, ◌⊎◌, inl, inr, Bool, true, false, cond, List, [], ◌∷◌, Option, Some, None, option_map, slice_get, arith}
use Rattle.std.specs.Prelude.{nat_eq, nat_le}
use Rattle.std.proofs.lemmas.Bool.Decides.{nat_tests}
use Rattle.um_tree.specs.Heights.{greatest_height}
use Rattle.um_shape.specs.RecordShapes.{RecordShape}
use Rattle.um_machine.specs.declared.op.Op.{Op}
use Rattle.um_verify.specs.StackShape.{StackShape, void, bool, num, list, made, join, join_cons, join_all, stack_height}
use Rattle.um_verify.specs.Rules.{Body, View, Sent, Flow, fails, passes, need, rule, inside, low_state, low_states, forwards}
use Rattle.um_verify.specs.Verified.{Met, nobody, clash, arrived, joined, merge, gather, sends, passed, met}
use Rattle.um_verify.proofs.Fits.{IfSome}

module _ (heights : List RecordShape) where
  abbrev Lower : StackShape → StackShape → StackShape → Type 0
  Lower s t u = (stack_height heights u ≤ stack_height heights s) ⊎ (stack_height heights u ≤ stack_height heights t)

  lower_lists : (s t : StackShape) (o : Option StackShape) → IfSome o (Lower s t) → IfSome (option_map list o) (Lower (list s) (list t))
  lower_lists s t None h = tt
  lower_lists s t (Some u) (inl h) = inl (omega arith)
  lower_lists s t (Some u) (inr h) = inr (omega arith)

  lower_made : (q r : ℕ) (b : Bool) → IfSome (cond b (Some (made q)) None) (Lower (made q) (made r))
  lower_made q r true = inl (omega arith)
  lower_made q r false = tt

  -- a join is no higher than one of the two
  join_lower : (s t : StackShape) → IfSome (join s t) (Lower s t)
  join_lower void t = inr (omega arith)
  join_lower bool void = inl (omega arith)
  join_lower bool bool = inl (omega arith)
  join_lower num void = inl (omega arith)
  join_lower num num = inl (omega arith)
  join_lower (list s) void = inl (omega arith)
  join_lower (list s) (list t) = lower_lists s t (join s t) (join_lower s t)
  join_lower (made q) void = inl (omega arith)
  join_lower (made q) (made r) = lower_made q r (nat_eq q r)
  join_lower s t = tt

  is_low : (s : StackShape) → nat_le (stack_height heights s) greatest_height ≡ true → stack_height heights s ≤ greatest_height
  is_low s h = grind (arith, nat_tests)

  low_is : (s : StackShape) → stack_height heights s ≤ greatest_height → nat_le (stack_height heights s) greatest_height ≡ true
  low_is s h = grind (arith, nat_tests)

  low_lower : (s t u : StackShape) → Lower s t u → nat_le (stack_height heights s) greatest_height ≡ true → nat_le (stack_height heights t) greatest_height ≡ true → nat_le (stack_height heights u) greatest_height ≡ true
  low_lower s t u (inl h) a b = let l = is_low s a in low_is u (omega arith)
  low_lower s t u (inr h) a b = let l = is_low t b in low_is u (omega arith)

  first_low : (b c : Bool) → cond b c false ≡ true → b ≡ true
  first_low true c h = refl
  first_low false c h = absurd cc

  rest_low : (b c : Bool) → cond b c false ≡ true → c ≡ true
  rest_low true c h = h
  rest_low false c h = absurd cc

  both_low : (s t : StackShape) (o : Option StackShape) (p : Option (List StackShape)) → IfSome o (Lower s t) → nat_le (stack_height heights s) greatest_height ≡ true → nat_le (stack_height heights t) greatest_height ≡ true → IfSome p (λ us. low_state heights us ≡ true) → IfSome (join_cons o p) (λ us. low_state heights us ≡ true)
  both_low s t None p h a b k = tt
  both_low s t (Some u) None h a b k = tt
  both_low s t (Some u) (Some us) h a b k = ap (λ (c : Bool). cond c (low_state heights us) false) (low_lower s t u h a b) ∙ k

  joins_low : (ss ts : List StackShape) → low_state heights ss ≡ true → low_state heights ts ≡ true → IfSome (join_all ss ts) (λ us. low_state heights us ≡ true)
  joins_low [] [] h k = refl
  joins_low (s ∷ ss) (t ∷ ts) h k =
      both_low s t (join s t) (join_all ss ts) (join_lower s t) (first_low (nat_le (stack_height heights s) greatest_height) (low_state heights ss) h) (first_low (nat_le (stack_height heights t) greatest_height) (low_state heights ts) k) (joins_low ss ts (rest_low (nat_le (stack_height heights s) greatest_height) (low_state heights ss) h) (rest_low (nat_le (stack_height heights t) greatest_height) (low_state heights ts) k))
  joins_low [] (t ∷ ts) h k = tt
  joins_low (s ∷ ss) [] h k = tt

  abbrev pub LowMet : Met → Type 0
  LowMet nobody = Unit {0}
  LowMet clash = Unit {0}
  LowMet (arrived st) = low_state heights st ≡ true

  joined_low : (o : Option (List StackShape)) → IfSome o (λ us. low_state heights us ≡ true) → LowMet (joined o)
  joined_low None h = tt
  joined_low (Some us) h = h

  merge_low : (m : Met) (st : List StackShape) → LowMet m → low_state heights st ≡ true → LowMet (merge m st)
  merge_low nobody st h k = k
  merge_low clash st h k = tt
  merge_low (arrived old) st h k = joined_low (join_all old st) (joins_low old st h k)

  cond_low : (b : Bool) (m n : Met) → LowMet m → LowMet n → LowMet (cond b m n)
  cond_low true m n h k = h
  cond_low false m n h k = k

  gather_low : (ps : List Sent) (m : Met) (t : ℕ) → LowMet m → low_states heights ps ≡ true → LowMet (gather m ps t)
  gather_low [] m t h k = h
  gather_low (p ∷ ps) m t h k =
      gather_low ps (cond (nat_eq p.to t) (merge m p.state) m) t (cond_low (nat_eq p.to t) (merge m p.state) m (merge_low m p.state h (first_low (low_state heights p.state) (low_states heights ps) k)) h) (rest_low (low_state heights p.state) (low_states heights ps) k)

  abbrev LowFlow : Flow → Type 0
  LowFlow fails = Unit {0}
  LowFlow (passes ps) = low_states heights ps ≡ true

  sends_low : (m : Met) (fl : Flow) (t : ℕ) → LowMet m → LowFlow fl → LowMet (sends m fl t)
  sends_low m fails t h k = h
  sends_low m (passes ps) t h k = gather_low ps m t h k

need_low : (heights : List RecordShape) (i b : Bool) (ps : List Sent) → low_states heights ps ≡ b → LowFlow heights (need i (need b (passes ps)))
need_low heights true true ps h = h
need_low heights true false ps h = tt
need_low heights false b ps h = tt

forwards_low : (view : View) (body : Body) (a : ℕ) (fl : Flow) → LowFlow view.heights (forwards view body a fl)
forwards_low view body a fails = tt
forwards_low view body a (passes ps) = need_low view.heights (inside a body.end ps) (low_states view.heights ps) ps refl

passed_low : (view : View) (body : Body) (a : ℕ) (o : Option Op) (m : Met) → LowFlow view.heights (passed view body a o m)
passed_low view body a None m = tt
passed_low view body a (Some i) nobody = tt
passed_low view body a (Some i) clash = tt
passed_low view body a (Some i) (arrived st) = forwards_low view body a (rule view body a st i)

pub met_low : (view : View) (body : Body) → low_state view.heights body.params ≡ true → (t n : ℕ) → LowMet view.heights (met view body t n)
met_low view body h t zero = cond_low view.heights (nat_eq t body.start) (arrived body.params) nobody h tt
met_low view body h t (suc n) =
    sends_low view.heights (met view body t n) (passed view body (body.start + n) (slice_get view.ops (body.start + n)) (met view body (body.start + n) n)) t (met_low view body h t n) (passed_low view body (body.start + n) (slice_get view.ops (body.start + n)) (met view body (body.start + n) n))
