-- The jumps of verified code go forward.
use Rattle.std.proofs.Common.{◌≡◌, refl, subst, ℕ, suc, ◌+◌, ◌-◌, ◌<◌, ◌≤◌, ◌⊎◌, inl, inr, Bool, true, false, cond, List, [], ◌∷◌, ◌++◌, length, take, drop, Option, Some, slice_get, arith}
use Rattle.std.specs.Prelude.{nat_le}
use Rattle.std.proofs.lemmas.Bool.{cases_lt}
use Rattle.um_machine.specs.declared.op.Op.{Op}
use Rattle.um_machine.specs.declared.op.Op.TheVariants.{PushNum, PushBool, Load, Add, Sub, Mul, Div, Neg, Not, Lt, Le, Eq, Jump, JumpIfNot, MakeList, Cons, Split, MakeRec, Field, Slide, Call, Ret, Pow}
use Rattle.um_machine.specs.declared.code.Entry.{Entry}
use Rattle.um_machine.specs.Stack.{takes, on_one}
use Rattle.um_machine.specs.Jumps.{GoesForward}
use Rattle.um_verify.specs.StackShape.{StackShape, void, bool, num, list, made, fits}
use Rattle.um_verify.specs.ImageTree.{HeadTree, ImageTree, Match, Follow}
use Rattle.um_verify.specs.Rules.{Body, View, body_of, bodies_of, view_of, Sent, Flow, fails, passes, need, on_list_shape, rule, inside, low_states, forwards}
use Rattle.um_verify.specs.Verified.{Met, nobody, clash, arrived, passed, met, Passes, CodeHolds}
use Rattle.um_verify.proofs.Arrived.{Among, among_inside}

module _ (view : View) (e : Body) (a : ℕ) where
  abbrev Goes : Flow → Type 0
  Goes fl = Passes (forwards view e a fl)

  need_goes : (b : Bool) (fl : Flow) → Goes (need b fl) → Goes fl
  need_goes true fl h = h
  need_goes false fl h = absurd h

  takes_goes : (n : ℕ) (st : List StackShape) (go : List StackShape → List StackShape → Flow) (Q : Type 0) → ((low taken : List StackShape) → Goes (go low taken) → Q) → Goes (takes 0 n st fails go) → Q
  unfolding takes
  takes_goes n st go Q h =
      elim (nat_le (0 + n) (length st)) as (λ t. Goes (cond t (go (take (length st - n) st) (drop (length st - n) st)) fails) → Q) [ true ↦ λ k. h _ _ k | false ↦ λ k. absurd k ]

  one_goes : (ss : List StackShape) (go : StackShape → Flow) (Q : Type 0) → ((s : StackShape) → Goes (go s) → Q) → Goes (on_one ss fails go) → Q
  one_goes [] go Q h k = absurd k
  one_goes (s ∷ []) go Q h k = h s k
  one_goes (s ∷ t ∷ ss) go Q h k = absurd k

  list_goes : (s : StackShape) (go : StackShape → StackShape → Flow) (Q : Type 0) → ((i t : StackShape) → Goes (go i t) → Q) → Goes (on_list_shape s go) → Q
  list_goes void go Q h k = h void void k
  list_goes bool go Q h k = absurd k
  list_goes num go Q h k = absurd k
  list_goes (list s) go Q h k = h s (list s) k
  list_goes (made r) go Q h k = absurd k

  -- what is passed on goes forward
  sent_goes : (ps : List Sent) (p : Sent) → Among p ps → Goes (passes ps) → a < p.to
  sent_goes ps p m h = by_test (inside a e.end ps) refl h where
    by_test : (t : Bool) → inside a e.end ps ≡ t → Passes (need t (need (low_states view.heights ps) (passes ps))) → a < p.to
    by_test true j k = (among_inside a e.end p ps j m).0
    by_test false j k = absurd k

  rule_forward : (st : List StackShape) (i : Op) → Goes (rule view e a st i) → GoesForward a i
  rule_forward st (PushNum c) h = tt
  rule_forward st (PushBool b) h = tt
  rule_forward st (Load k) h = tt
  rule_forward st Add h = tt
  rule_forward st Sub h = tt
  rule_forward st Mul h = tt
  rule_forward st Div h = tt
  rule_forward st Neg h = tt
  rule_forward st Not h = tt
  rule_forward st Lt h = tt
  rule_forward st Le h = tt
  rule_forward st Eq h = tt
  rule_forward st (Jump t) h = sent_goes (record { to = t; state = st } ∷ []) (record { to = t; state = st }) (inl refl) h
  rule_forward st (JumpIfNot t) h =
      takes_goes 1 st (λ low taken. on_one taken fails (λ y. need (fits y bool) (passes (record { to = a + 1; state = low } ∷ record { to = t; state = low } ∷ [])))) (a < t) (λ low taken k.
      one_goes taken (λ y. need (fits y bool) (passes (record { to = a + 1; state = low } ∷ record { to = t; state = low } ∷ []))) (a < t) (λ y k.
      sent_goes (record { to = a + 1; state = low } ∷ record { to = t; state = low } ∷ []) (record { to = t; state = low }) (inr (inl refl)) (need_goes (fits y bool) (passes (record { to = a + 1; state = low } ∷ record { to = t; state = low } ∷ [])) k)) k) h
  rule_forward st (MakeList n) h = tt
  rule_forward st Cons h = tt
  rule_forward st (Split t) h =
      takes_goes 1 st (λ low taken. on_one taken fails (λ y. on_list_shape y (λ item tail. passes (record { to = t; state = low } ∷ record { to = a + 1; state = low ++ item ∷ tail ∷ [] } ∷ [])))) (a < t) (λ low taken k.
      one_goes taken (λ y. on_list_shape y (λ item tail. passes (record { to = t; state = low } ∷ record { to = a + 1; state = low ++ item ∷ tail ∷ [] } ∷ []))) (a < t) (λ y k.
      list_goes y (λ item tail. passes (record { to = t; state = low } ∷ record { to = a + 1; state = low ++ item ∷ tail ∷ [] } ∷ [])) (a < t) (λ item tail k.
      sent_goes (record { to = t; state = low } ∷ record { to = a + 1; state = low ++ item ∷ tail ∷ [] } ∷ []) (record { to = t; state = low }) (inl refl) k) k) k) h
  rule_forward st (MakeRec r n) h = tt
  rule_forward st (Field k) h = tt
  rule_forward st (Slide k) h = tt
  rule_forward st (Call f) h = tt
  rule_forward st Ret h = tt
  rule_forward st (Pow k) h = tt

  met_forward : (m : Met) (i : Op) → Passes (passed view e a (Some i) m) → GoesForward a i
  met_forward nobody i h = absurd h
  met_forward clash i h = absurd h
  met_forward (arrived st) i h = rule_forward st i h

-- each address stands in a function
abbrev pub Stands : List Entry → List HeadTree → ℕ → Type 0
Stands es hs k = (f : ℕ) × (b : Body) × (slice_get (bodies_of es hs) f ≡ Some b) × (b.start ≤ k) × (k < b.end)

pub covered : (es : List Entry) (hs : List HeadTree) → Match es hs → (a z k : ℕ) → Follow a es z → a ≤ k → k < z → Stands es hs k
covered [] [] m a z k w lo hi = absurd (omega arith)
covered (e ∷ es) (h ∷ hs) m a z k w lo hi = by_end (λ c. covered es hs m.1 e.end z k w.2 c hi) (cases_lt k e.end) where
  by_end : ((e.end ≤ k) → Stands es hs k) → (k < e.end) ⊎ (e.end ≤ k) → Stands (e ∷ es) (h ∷ hs) k
  by_end rest (inl c) = let start = w.0 in (0, body_of e h, refl, omega arith, c)
  by_end rest (inr c) = let r = rest c in (suc r.0, r.1, r.2, r.3, r.4)
covered [] (h ∷ hs) m a z k w lo hi = absurd m
covered (e ∷ es) [] m a z k w lo hi = absurd m

pub code_forward : (image : ImageTree) → Match image.code.entries image.heads → Follow 0 image.code.entries (length image.code.ops) → CodeHolds (view_of image) → (a : ℕ) (i : Op) → a < length image.code.ops → slice_get image.code.ops a ≡ Some i → GoesForward a i
code_forward image matched follow holds a i l s =
    let c = covered image.code.entries image.heads matched 0 (length image.code.ops) a follow (omega arith) l in
    let b = c.1 in
    let lo = c.3 in
    let hi = c.4 in
    let n : ℕ = a - b.start in
    let at : b.start + n ≡ a = omega arith in
    let within : b.start + n < b.end = omega arith in
    let p : Passes (passed (view_of image) b a (slice_get image.code.ops a) (met (view_of image) b a n)) = subst (λ (x : ℕ). Passes (passed (view_of image) b x (slice_get image.code.ops x) (met (view_of image) b x n))) at (holds c.0 b c.2 n within) in
    met_forward (view_of image) b a (met (view_of image) b a n) i (subst (λ (o : Option Op). Passes (passed (view_of image) b a o (met (view_of image) b a n))) s p)
