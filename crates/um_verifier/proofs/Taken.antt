-- What is taken from the top of a state, as the code takes it.
use Rattle.std.proofs.Common.{◌≡◌, refl, sym, subst, ap, ◌∙◌, ℕ, zero, suc, ◌+◌, ◌-◌, ◌<◌, ◌≤◌, Bool as Truth, true, false, cond, List, [], ◌∷◌, ◌++◌, length, map, take, drop, Option, Some, None, option_map, slice_get, ◌&&◌, arith, length-append, length-drop}
use Rattle.std.specs.Prelude.{nat_le, MatchOption}
use Rattle.std.proofs.Math.Seq.{take-append_seam, drop-append_seam}
use Rattle.std.proofs.lemmas.List.{map-append, length-map, take-append-drop}
use Rattle.std.proofs.lemmas.Option.{slice_get-map}
use Rattle.std.proofs.lemmas.Bool.{le-leb}
use Rattle.std.proofs.lemmas.Bool.Decides.{nat_tests}
use Rattle.um_machine.specs.Stack.{takes, on_one, on_two, on_found}
use Rattle.um_machine.specs.declared.op.Op.TheVariants.{Load, JumpIfNot, Cons, Slide, Ret}
use Rattle.um_machine.specs.declared.code.Code.{Code}
use Rattle.um_shape.specs.RecordShapes.{RecordShape, declared_height}
use Rattle.um_verify.specs.StackShape.{StackShape, bool, list, fits, join, stack_height}
use Rattle.um_verify.specs.Rules.{Body, Flow, fails, passes, need, to, on_list_shape, fit_one, fit_two, rule, low_state}
use Rattle.um_stacks.specs.FlatShapes.{item_shape, in_lists, flat_shape, flat_shapes}
use Rattle.um_verifier.specs.KnownImages.{known_shape, known_heights, known_view, lowered}
use Rattle.um_stacks.specs.declared.flat.FlatShape.{FlatShape}
use Rattle.um_verifier.specs.declared.known.Known.{Known}
use Rattle.um_verifier.specs.declared.known.KnownRecord.{KnownRecord}
use Rattle.um_stacks.specs.declared.flat.Item.{Item}
use Rattle.um_stacks.specs.declared.flat.Item.TheVariants.{Void, Bool, Num, Record}
use Rattle.um_tree.specs.Heights.{greatest_height}
use Rattle.um_verifier.proofs.LowStates.{low_front, lowered_both}

below : (m n : ℕ) → m < n → nat_le n m ≡ false
below m n h = grind (arith, nat_tests)

-- there are fewer
pub takes_few : (xs : List FlatShape) (n : ℕ) (go : List StackShape → List StackShape → Flow) → length xs < n → takes 0 n (flat_shapes xs) fails go ≡ fails
unfolding takes
takes_few xs n go h =
    let l : length (flat_shapes xs) ≡ length xs = length-map xs flat_shape in
    let few : length (flat_shapes xs) < 0 + n = omega arith in
    ap (λ (b : Truth). cond b (go (take (length (flat_shapes xs) - n) (flat_shapes xs)) (drop (length (flat_shapes xs) - n) (flat_shapes xs))) fails) (below (length (flat_shapes xs)) (0 + n) few)

-- they stand on the top
pub takes_parts : (low hi : List FlatShape) (n : ℕ) (go : List StackShape → List StackShape → Flow) → n ≡ length hi → takes 0 n (flat_shapes (low ++ hi)) fails go ≡ go (flat_shapes low) (flat_shapes hi)
unfolding takes
takes_parts low hi n go h =
    let st : List StackShape = flat_shapes low in
    let vs : List StackShape = flat_shapes hi in
    let both : flat_shapes (low ++ hi) ≡ st ++ vs = map-append flat_shape low hi in
    let l : length vs ≡ length hi = length-map hi flat_shape in
    let len : length (st ++ vs) ≡ length st + length vs = length-append st vs in
    let enough : 0 + n ≤ length (st ++ vs) = omega arith in
    let at : length (st ++ vs) - n ≡ length st = omega arith in
    ap (λ (xs : List StackShape). cond (nat_le (0 + n) (length xs)) (go (take (length xs - n) xs) (drop (length xs - n) xs)) fails) both
    ∙ ap (λ b. cond b (go (take (length (st ++ vs) - n) (st ++ vs)) (drop (length (st ++ vs) - n) (st ++ vs))) fails) (le-leb _ _ enough)
    ∙ ap (λ m. go (take m (st ++ vs)) (drop m (st ++ vs))) at
    ∙ (λ i. go (take-append_seam st vs i) (drop-append_seam st vs i))

no_shapes : (xs : List FlatShape) → length xs ≡ 0 → xs ≡ []
no_shapes [] h = refl
no_shapes (x ∷ xs) h = absurd (omega arith)

-- the top, where there is one
pub takes_top : (xs low : List FlatShape) (y : FlatShape) (go : List StackShape → List StackShape → Flow) → xs ≡ low ++ y ∷ [] → takes 0 1 (flat_shapes xs) fails go ≡ go (flat_shapes low) (flat_shape y ∷ [])
takes_top xs low y go h = ap (λ (l : List FlatShape). takes 0 1 (flat_shapes l) fails go) h ∙ takes_parts low (y ∷ []) 1 go refl

-- nothing is lower than a failure
pub lowered_need : (heights : List RecordShape) (b : Truth) (flow : Flow) → lowered heights (need b flow) ≡ need b (lowered heights flow)
lowered_need heights true flow = refl
lowered_need heights false flow = refl

module _ (known : Known) (at : ℕ) (xs : List FlatShape) where
  abbrev H : List RecordShape
  H = known_heights known

  pub one_none : (asked given : FlatShape) → length xs ≡ 0 → fails ≡ lowered H (fit_one at (flat_shapes xs) (flat_shape asked) (flat_shape given))
  one_none asked given h =
      let few : length xs < 1 = omega arith in
      sym (ap (lowered H) (takes_few xs 1 (λ low taken. on_one taken fails (λ y. need (fits y (flat_shape asked)) (to (at + 1) (low ++ flat_shape given ∷ [])))) few))

  pub one_is : (low : List FlatShape) (y asked given : FlatShape) (b : Truth) → xs ≡ low ++ y ∷ [] → b ≡ fits (flat_shape y) (flat_shape asked) → need b (lowered H (to (at + 1) (flat_shapes low ++ flat_shape given ∷ []))) ≡ lowered H (fit_one at (flat_shapes xs) (flat_shape asked) (flat_shape given))
  one_is low y asked given b h f =
      sym (lowered_need H b (to (at + 1) (flat_shapes low ++ flat_shape given ∷ [])))
      ∙ ap (λ (t : Truth). lowered H (need t (to (at + 1) (flat_shapes low ++ flat_shape given ∷ [])))) f
      ∙ sym (ap (lowered H) (takes_top xs low y (λ low taken. on_one taken fails (λ y. need (fits y (flat_shape asked)) (to (at + 1) (low ++ flat_shape given ∷ [])))) h))

  pub load_none : (code : Code) (body : Body) (k : ℕ) → slice_get xs k ≡ None → fails ≡ lowered H (rule (known_view known code) body at (flat_shapes xs) (Load k))
  load_none code body k h =
      sym (ap (λ (o : Option StackShape). lowered H (on_found o fails (λ s. to (at + 1) (flat_shapes xs ++ s ∷ [])))) (slice_get-map flat_shape xs k ∙ ap (option_map flat_shape) h))

  pub load_is : (code : Code) (body : Body) (k : ℕ) (s : FlatShape) → slice_get xs k ≡ Some s → lowered H (to (at + 1) (flat_shapes xs ++ flat_shape s ∷ [])) ≡ lowered H (rule (known_view known code) body at (flat_shapes xs) (Load k))
  load_is code body k s h =
      sym (ap (λ (o : Option StackShape). lowered H (on_found o fails (λ s. to (at + 1) (flat_shapes xs ++ s ∷ [])))) (slice_get-map flat_shape xs k ∙ ap (option_map flat_shape) h))

-- so many of the top
pub takes_at : (xs : List FlatShape) (n : ℕ) (go : List StackShape → List StackShape → Flow) → n ≤ length xs → takes 0 n (flat_shapes xs) fails go ≡ go (flat_shapes (take (length xs - n) xs)) (flat_shapes (drop (length xs - n) xs))
takes_at xs n go h =
    let k : ℕ = length xs - n in
    let whole : take k xs ++ drop k xs ≡ xs = take-append-drop k xs in
    let l : length (drop k xs) ≡ length xs - k = length-drop k xs in
    ap (λ (ys : List FlatShape). takes 0 n (flat_shapes ys) fails go) (sym whole) ∙ takes_parts (take k xs) (drop k xs) n go (omega arith)

module _ (known : Known) (at : ℕ) (xs : List FlatShape) where
  abbrev G : List RecordShape
  G = known_heights known

  pub two_none : (asked given : FlatShape) → length xs < 2 → fails ≡ lowered G (fit_two at (flat_shapes xs) (flat_shape asked) (flat_shape given))
  two_none asked given h =
      sym (ap (lowered G) (takes_few xs 2 (λ low taken. on_two taken fails (λ x y. need (fits x (flat_shape asked)) (need (fits y (flat_shape asked)) (to (at + 1) (low ++ flat_shape given ∷ []))))) h))

  need_both : (b c : Truth) (flow : Flow) → need (b && c) flow ≡ need b (need c flow)
  need_both true c flow = refl
  need_both false c flow = refl

  pub two_is : (low : List FlatShape) (x y asked given : FlatShape) (b : Truth) → xs ≡ low ++ x ∷ y ∷ [] → b ≡ (fits (flat_shape x) (flat_shape asked) && fits (flat_shape y) (flat_shape asked)) → need b (lowered G (to (at + 1) (flat_shapes low ++ flat_shape given ∷ []))) ≡ lowered G (fit_two at (flat_shapes xs) (flat_shape asked) (flat_shape given))
  two_is low x y asked given b h f =
      sym (lowered_need G b (to (at + 1) (flat_shapes low ++ flat_shape given ∷ [])))
      ∙ ap (λ (t : Truth). lowered G (need t (to (at + 1) (flat_shapes low ++ flat_shape given ∷ [])))) f
      ∙ ap (lowered G) (need_both (fits (flat_shape x) (flat_shape asked)) (fits (flat_shape y) (flat_shape asked)) (to (at + 1) (flat_shapes low ++ flat_shape given ∷ [])))
      ∙ sym (ap (lowered G) (ap (λ (l : List FlatShape). takes 0 2 (flat_shapes l) fails (λ low taken. on_two taken fails (λ x y. need (fits x (flat_shape asked)) (need (fits y (flat_shape asked)) (to (at + 1) (low ++ flat_shape given ∷ [])))))) h ∙ takes_parts low (x ∷ y ∷ []) 2 (λ low taken. on_two taken fails (λ x y. need (fits x (flat_shape asked)) (need (fits y (flat_shape asked)) (to (at + 1) (low ++ flat_shape given ∷ []))))) refl))

  abbrev forks : ℕ → List StackShape → Flow
  forks t low = passes (record { to = at + 1; state = low } ∷ record { to = t; state = low } ∷ [])

  module _ (code : Code) (body : Body) where
    pub unless_none : (t : ℕ) → length xs ≡ 0 → fails ≡ lowered G (rule (known_view known code) body at (flat_shapes xs) (JumpIfNot t))
    unless_none t h =
        let few : length xs < 1 = omega arith in
        sym (ap (lowered G) (takes_few xs 1 (λ low taken. on_one taken fails (λ y. need (fits y bool) (forks t low))) few))

    pub unless_is : (t : ℕ) (low : List FlatShape) (y : FlatShape) (b : Truth) → xs ≡ low ++ y ∷ [] → b ≡ fits (flat_shape y) bool → low_state G (flat_shapes low) ≡ true → need b (forks t (flat_shapes low)) ≡ lowered G (rule (known_view known code) body at (flat_shapes xs) (JumpIfNot t))
    unless_is t low y b h f l =
        ap (need b) (sym (lowered_both G (at + 1) t (flat_shapes low) (flat_shapes low) l l))
        ∙ sym (lowered_need G b (forks t (flat_shapes low)))
        ∙ ap (λ (c : Truth). lowered G (need c (forks t (flat_shapes low)))) f
        ∙ sym (ap (lowered G) (takes_top xs low y (λ low taken. on_one taken fails (λ y. need (fits y bool) (forks t low))) h))

    pub ret_none : length xs ≡ 0 → fails ≡ lowered G (rule (known_view known code) body at (flat_shapes xs) Ret)
    ret_none h =
        let few : length xs < 1 = omega arith in
        sym (ap (lowered G) (takes_few xs 1 (λ low taken. on_one taken fails (λ y. need (fits y body.result) (passes []))) few))

    pub ret_is : (low : List FlatShape) (y s : FlatShape) (b : Truth) → xs ≡ low ++ y ∷ [] → body.result ≡ flat_shape s → b ≡ fits (flat_shape y) (flat_shape s) → need b (passes []) ≡ lowered G (rule (known_view known code) body at (flat_shapes xs) Ret)
    ret_is low y s b h r f =
        sym (lowered_need G b (passes []))
        ∙ ap (λ (c : Truth). lowered G (need c (passes []))) (f ∙ ap (fits (flat_shape y)) (sym r))
        ∙ sym (ap (lowered G) (takes_top xs low y (λ low taken. on_one taken fails (λ y. need (fits y body.result) (passes []))) h))

    pub slide_none : (k : ℕ) → length xs ≡ 0 → fails ≡ lowered G (rule (known_view known code) body at (flat_shapes xs) (Slide k))
    slide_none k h =
        let few : length xs < 1 = omega arith in
        sym (ap (lowered G) (takes_few xs 1 (λ low taken. on_one taken fails (λ y. takes 0 k low fails (λ lower dropped. to (at + 1) (lower ++ y ∷ [])))) few))

    slide_top : (k : ℕ) (low : List FlatShape) (y : FlatShape) → xs ≡ low ++ y ∷ [] → rule (known_view known code) body at (flat_shapes xs) (Slide k) ≡ takes 0 k (flat_shapes low) fails (λ lower dropped. to (at + 1) (lower ++ flat_shape y ∷ []))
    slide_top k low y h = takes_top xs low y (λ low taken. on_one taken fails (λ y. takes 0 k low fails (λ lower dropped. to (at + 1) (lower ++ y ∷ [])))) h

    pub slide_few : (k : ℕ) (low : List FlatShape) (y : FlatShape) → xs ≡ low ++ y ∷ [] → length low < k → fails ≡ lowered G (rule (known_view known code) body at (flat_shapes xs) (Slide k))
    slide_few k low y h l =
        sym (ap (lowered G) (slide_top k low y h ∙ takes_few low k (λ lower dropped. to (at + 1) (lower ++ flat_shape y ∷ [])) l))

    pub slide_is : (k : ℕ) (low lower : List FlatShape) (y : FlatShape) → xs ≡ low ++ y ∷ [] → k ≤ length low → lower ≡ take (length low - k) low → lowered G (to (at + 1) (flat_shapes lower ++ flat_shape y ∷ [])) ≡ lowered G (rule (known_view known code) body at (flat_shapes xs) (Slide k))
    slide_is k low lower y h l e =
        ap (λ (ys : List FlatShape). lowered G (to (at + 1) (flat_shapes ys ++ flat_shape y ∷ []))) e
        ∙ sym (ap (lowered G) (slide_top k low y h ∙ takes_at low k (λ lower dropped. to (at + 1) (lower ++ flat_shape y ∷ [])) l))

-- what is left of a low state is low
pub low_left : (known : Known) (xs low ts : List FlatShape) → low_state (known_heights known) (flat_shapes xs) ≡ true → xs ≡ low ++ ts → low_state (known_heights known) (flat_shapes low) ≡ true
low_left known xs low ts h e =
    low_front (known_heights known) (flat_shapes low) (flat_shapes ts) (subst (λ (st : List StackShape). low_state (known_heights known) st ≡ true) (ap flat_shapes e ∙ map-append flat_shape low ts) h)

pub low_cut : (known : Known) (xs low : List FlatShape) (n : ℕ) → low_state (known_heights known) (flat_shapes xs) ≡ true → low ≡ take n xs → low_state (known_heights known) (flat_shapes low) ≡ true
low_cut known xs low n h e = low_left known xs low (drop n xs) h (sym (take-append-drop n xs) ∙ ap (λ (ys : List FlatShape). ys ++ drop n xs) (sym e))

-- a height in lists
pub height_in_lists : (heights : List RecordShape) (n : ℕ) (s : StackShape) → stack_height heights (in_lists n s) ≡ n + stack_height heights s
height_in_lists heights zero s = omega arith
height_in_lists heights (suc n) s = let e = height_in_lists heights n s in omega arith

-- ---- lists

no_false : (m n : ℕ) → n < m → nat_le m n ≡ false
no_false m n h = grind (arith, nat_tests)

module _ (known : Known) where
  record_high : (rs : List KnownRecord) (r : ℕ) → 1 ≤ declared_height (slice_get (map known_shape rs) r)
  record_high [] zero = omega arith
  record_high [] (suc r) = omega arith
  record_high (k ∷ rs) zero = k.some
  record_high (k ∷ rs) (suc r) = record_high rs r

  item_high : (i : Item) → 1 ≤ stack_height (known_heights known) (item_shape i)
  item_high Void = omega arith
  item_high Bool = omega arith
  item_high Num = omega arith
  item_high (Record r) = record_high known.records.items r

  pub list_too_high : (f : FlatShape) → greatest_height ≤ f.lists + 1 → nat_le (stack_height (known_heights known) (list (flat_shape f))) greatest_height ≡ false
  list_too_high f h =
      let e = height_in_lists (known_heights known) f.lists (item_shape f.item) in
      let k = item_high f.item in
      let high : greatest_height < stack_height (known_heights known) (list (flat_shape f)) = omega arith in
      no_false (stack_height (known_heights known) (list (flat_shape f))) greatest_height high

abbrev pub ItemsAre : FlatShape → Option FlatShape → Type 0
ItemsAre y o = (go : StackShape → StackShape → Flow) → MatchOption o (on_list_shape (flat_shape y) go ≡ fails) (λ i. on_list_shape (flat_shape y) go ≡ go (flat_shape i) (flat_shape y))

pub items_none_are : (y : FlatShape) (o : Option FlatShape) → o ≡ None → ItemsAre y o → (go : StackShape → StackShape → Flow) → on_list_shape (flat_shape y) go ≡ fails
items_none_are y o e k go = subst (λ (o : Option FlatShape). MatchOption o (on_list_shape (flat_shape y) go ≡ fails) (λ i. on_list_shape (flat_shape y) go ≡ go (flat_shape i) (flat_shape y))) e (k go)

pub items_are : (y i : FlatShape) (o : Option FlatShape) → o ≡ Some i → ItemsAre y o → (go : StackShape → StackShape → Flow) → on_list_shape (flat_shape y) go ≡ go (flat_shape i) (flat_shape y)
items_are y i o e k go = subst (λ (o : Option FlatShape). MatchOption o (on_list_shape (flat_shape y) go ≡ fails) (λ i. on_list_shape (flat_shape y) go ≡ go (flat_shape i) (flat_shape y))) e (k go)

module _ (known : Known) (at : ℕ) (xs : List FlatShape) (code : Code) (body : Body) where
  abbrev K : List RecordShape
  K = known_heights known

  abbrev list_of : List StackShape → StackShape → Flow
  list_of low s = to (at + 1) (low ++ list s ∷ [])

  abbrev cons_go : List StackShape → StackShape → StackShape → StackShape → Flow
  cons_go low x item tail = on_found (join x item) fails (list_of low)

  pub cons_none : length xs < 2 → fails ≡ lowered K (rule (known_view known code) body at (flat_shapes xs) Cons)
  cons_none h =
      sym (ap (lowered K) (takes_few xs 2 (λ low taken. on_two taken fails (λ x y. on_list_shape y (λ item tail. on_found (join x item) fails (λ s. to (at + 1) (low ++ list s ∷ []))))) h))

  cons_top : (low : List FlatShape) (x y : FlatShape) → xs ≡ low ++ x ∷ y ∷ [] → rule (known_view known code) body at (flat_shapes xs) Cons ≡ on_list_shape (flat_shape y) (cons_go (flat_shapes low) (flat_shape x))
  cons_top low x y h =
      ap (λ (l : List FlatShape). rule (known_view known code) body at (flat_shapes l) Cons) h
      ∙ takes_parts low (x ∷ y ∷ []) 2 (λ low taken. on_two taken fails (λ x y. on_list_shape y (λ item tail. on_found (join x item) fails (λ s. to (at + 1) (low ++ list s ∷ []))))) refl

  pub cons_no_list : (low : List FlatShape) (x y : FlatShape) (o : Option FlatShape) → xs ≡ low ++ x ∷ y ∷ [] → o ≡ None → ItemsAre y o → fails ≡ lowered K (rule (known_view known code) body at (flat_shapes xs) Cons)
  cons_no_list low x y o h e k =
      sym (ap (lowered K) (cons_top low x y h ∙ items_none_are y o e k (cons_go (flat_shapes low) (flat_shape x))))

  pub cons_is : (low : List FlatShape) (x y i : FlatShape) (o j : Option FlatShape) → xs ≡ low ++ x ∷ y ∷ [] → o ≡ Some i → ItemsAre y o → option_map flat_shape j ≡ join (flat_shape x) (flat_shape i) → lowered K (on_found (option_map flat_shape j) fails (list_of (flat_shapes low))) ≡ lowered K (rule (known_view known code) body at (flat_shapes xs) Cons)
  cons_is low x y i o j h e k l =
      ap (λ (o : Option StackShape). lowered K (on_found o fails (list_of (flat_shapes low)))) l ∙ sym (ap (lowered K) (cons_top low x y h ∙ items_are y i o e k (cons_go (flat_shapes low) (flat_shape x))))
