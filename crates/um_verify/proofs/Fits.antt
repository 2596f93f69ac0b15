-- Values of shapes that fit, and of joins.
use Rattle.std.proofs.Common.{◌≡◌, refl, sym, subst, ap, ℕ, zero, suc, ◌<◌, Bool, true, false, cond, List, [], ◌∷◌, ◌++◌, length, take, drop, Option, Some, None, slice_get, arith}
use Rattle.std.specs.Prelude.{option_map, nat_eq, nat_lt}
use Rattle.std.proofs.lemmas.Bool.Decides.{nat_tests}
use Rattle.um_tree.specs.ValueTree.{ValueTree, ValueTrees, truth_value, number_value, list_value, record_value, no_values, more_values, values_in_order}
use Rattle.um_verify.specs.StackShape.{StackShape, void, bool, num, list, made, fits, join, fit_all, join_cons, join_all, join_with, join_items}

abbrev pub IfSome : {A : Type 0} → Option A → (A → Type 0) → Type 0
IfSome None P = Unit {0}
IfSome (Some x) P = P x

pub same_number : (m n : ℕ) → nat_eq m n ≡ true → m ≡ n
same_number m n h = grind (arith, nat_tests)

pub equal_numbers : (m n : ℕ) → m ≡ n → nat_eq m n ≡ true
equal_numbers m n h = grind (arith, nat_tests)

pub below_number : (m n : ℕ) → nat_lt m n ≡ true → m < n
below_number m n h = grind (arith, nat_tests)

-- the fields of record r have the shapes `slice_get fields r`
module _ (fields : List (List StackShape)) where
  abbrev mutual
    pub HasIt : ValueTree → StackShape → Type 0
    HasIt (truth_value b) bool = Unit {0}
    HasIt (number_value c) num = Unit {0}
    HasIt (list_value vs) (list s) = EachHas vs s
    HasIt (record_value r vs) (made q) = (q ≡ r) × (ss : List StackShape) × (slice_get fields r ≡ Some ss) × FieldsHave vs ss
    HasIt v s = ⊥

    pub EachHas : ValueTrees → StackShape → Type 0
    EachHas no_values s = Unit {0}
    EachHas (more_values v vs) s = HasIt v s × EachHas vs s

    pub FieldsHave : ValueTrees → List StackShape → Type 0
    FieldsHave no_values [] = Unit {0}
    FieldsHave (more_values v vs) (s ∷ ss) = HasIt v s × FieldsHave vs ss
    FieldsHave vs ss = ⊥

  abbrev pub Have : List ValueTree → List StackShape → Type 0
  Have [] [] = Unit {0}
  Have (v ∷ vs) (s ∷ ss) = HasIt v s × Have vs ss
  Have vs ss = ⊥

  abbrev pub Below : StackShape → StackShape → Type 0
  Below s t = (v : ValueTree) → HasIt v s → HasIt v t

  pub each_below : (s t : StackShape) → Below s t → (vs : ValueTrees) → EachHas vs s → EachHas vs t
  each_below s t b no_values h = tt
  each_below s t b (more_values v vs) h = (b v h.0, each_below s t b vs h.1)

  list_below : (s t : StackShape) → Below s t → Below (list s) (list t)
  list_below s t b (list_value vs) h = each_below s t b vs h
  list_below s t b v h = absurd h

  made_below : (q r : ℕ) → q ≡ r → Below (made q) (made r)
  made_below q r e v h = subst (λ (n : ℕ). HasIt v (made n)) e h

  pub none_void : (v : ValueTree) (P : Type 0) → HasIt v void → P
  none_void (truth_value b) P h = absurd h
  none_void (number_value c) P h = absurd h
  none_void (list_value vs) P h = absurd h
  none_void (record_value r vs) P h = absurd h

  pub fits_below : (s t : StackShape) → fits s t ≡ true → Below s t
  fits_below void t h v k = none_void v _ k
  fits_below bool bool h v k = k
  fits_below num num h v k = k
  fits_below (list s) (list t) h v k = list_below s t (fits_below s t h) v k
  fits_below (made q) (made r) h v k = made_below q r (same_number q r h) v k
  fits_below s t h v k = absurd cc

  some_list : (o : Option StackShape) (P : StackShape → Type 0) → IfSome o (λ s. P (list s)) → IfSome (option_map list o) P
  some_list None P h = tt
  some_list (Some s) P h = h

  some_more : (o : Option StackShape) (P Q : StackShape → Type 0) → ((s : StackShape) → P s → Q s) → IfSome o P → IfSome o Q
  some_more None P Q h k = tt
  some_more (Some s) P Q h k = h s k

  made_left : (q r : ℕ) (b : Bool) → IfSome (cond b (Some (made q)) None) (Below (made q))
  made_left q r true = λ v h. h
  made_left q r false = tt

  made_right : (q r : ℕ) (b : Bool) → nat_eq q r ≡ b → IfSome (cond b (Some (made q)) None) (Below (made r))
  made_right q r true e = made_below r q (sym (same_number q r e))
  made_right q r false e = tt

  pub join_left : (s t : StackShape) → IfSome (join s t) (Below s)
  join_left void t = λ v h. none_void v _ h
  join_left bool void = λ v h. h
  join_left bool bool = λ v h. h
  join_left num void = λ v h. h
  join_left num num = λ v h. h
  join_left (list s) void = λ v h. h
  join_left (list s) (list t) = some_list (join s t) (Below (list s)) (some_more (join s t) (Below s) (λ u. Below (list s) (list u)) (λ u b. list_below s u b) (join_left s t))
  join_left (made q) void = λ v h. h
  join_left (made q) (made r) = made_left q r (nat_eq q r)
  join_left s t = tt

  pub join_right : (s t : StackShape) → IfSome (join s t) (Below t)
  join_right void t = λ v h. h
  join_right bool void = λ v h. none_void v _ h
  join_right bool bool = λ v h. h
  join_right num void = λ v h. none_void v _ h
  join_right num num = λ v h. h
  join_right (list s) void = λ v h. none_void v _ h
  join_right (list s) (list t) = some_list (join s t) (Below (list t)) (some_more (join s t) (Below t) (λ u. Below (list t) (list u)) (λ u b. list_below t u b) (join_right s t))
  join_right (made q) void = λ v h. none_void v _ h
  join_right (made q) (made r) = made_right q r (nat_eq q r) refl
  join_right s t = tt

  -- lists
  abbrev pub AllBelow : List StackShape → List StackShape → Type 0
  AllBelow ss ts = (vs : List ValueTree) → Have vs ss → Have vs ts

  more_below : (s t : StackShape) (ss ts : List StackShape) → Below s t → AllBelow ss ts → AllBelow (s ∷ ss) (t ∷ ts)
  more_below s t ss ts b c (v ∷ vs) h = (b v h.0, c vs h.1)
  more_below s t ss ts b c [] h = absurd h

  both_some : (s : StackShape) (ss : List StackShape) (o : Option StackShape) (p : Option (List StackShape)) → IfSome o (Below s) → IfSome p (AllBelow ss) → IfSome (join_cons o p) (AllBelow (s ∷ ss))
  both_some s ss None p h k = tt
  both_some s ss (Some u) None h k = tt
  both_some s ss (Some u) (Some us) h k = more_below s u ss us h k

  pub joins_left : (ss ts : List StackShape) → IfSome (join_all ss ts) (AllBelow ss)
  joins_left [] [] = λ vs h. h
  joins_left (s ∷ ss) (t ∷ ts) = both_some s ss (join s t) (join_all ss ts) (join_left s t) (joins_left ss ts)
  joins_left [] (t ∷ ts) = tt
  joins_left (s ∷ ss) [] = tt

  pub joins_right : (ss ts : List StackShape) → IfSome (join_all ss ts) (AllBelow ts)
  joins_right [] [] = λ vs h. h
  joins_right (s ∷ ss) (t ∷ ts) = both_some t ts (join s t) (join_all ss ts) (join_right s t) (joins_right ss ts)
  joins_right [] (t ∷ ts) = tt
  joins_right (s ∷ ss) [] = tt

  fit_both : (s t : StackShape) (ss ts : List StackShape) (b : Bool) → fits s t ≡ b → (fit_all ss ts ≡ true → AllBelow ss ts) → cond b (fit_all ss ts) false ≡ true → AllBelow (s ∷ ss) (t ∷ ts)
  fit_both s t ss ts true e c h = more_below s t ss ts (fits_below s t e) (c h)
  fit_both s t ss ts false e c h = absurd cc

  pub fit_below : (ss ts : List StackShape) → fit_all ss ts ≡ true → AllBelow ss ts
  fit_below [] [] h = λ vs k. k
  fit_below (s ∷ ss) (t ∷ ts) h = fit_both s t ss ts (fits s t) refl (fit_below ss ts) h
  fit_below [] (t ∷ ts) h = absurd cc
  fit_below (s ∷ ss) [] h = absurd cc

  -- the items of a list
  with_some : (s : StackShape) (ss : List StackShape) (o : Option StackShape) → IfSome o (λ u. (vs : List ValueTree) → Have vs ss → EachHas (values_in_order vs) u) → IfSome (join_with s o) (λ u. (vs : List ValueTree) → Have vs (s ∷ ss) → EachHas (values_in_order vs) u)
  with_some s ss None h = tt
  with_some s ss (Some t) h = with_joined (join s t) (join_left s t) (join_right s t)
    where
      with_joined : (o : Option StackShape) → IfSome o (Below s) → IfSome o (Below t) → IfSome o (λ u. (vs : List ValueTree) → Have vs (s ∷ ss) → EachHas (values_in_order vs) u)
      with_joined None a b = tt
      with_joined (Some u) a b = λ vs k. items u a b vs k
        where
          items : (u : StackShape) → Below s u → Below t u → (vs : List ValueTree) → Have vs (s ∷ ss) → EachHas (values_in_order vs) u
          items u a b (v ∷ vs) k = (a v k.0, each_below t u b (values_in_order vs) (h vs k.1))
          items u a b [] k = absurd k

  pub items_joined : (ss : List StackShape) → IfSome (join_items ss) (λ u. (vs : List ValueTree) → Have vs ss → EachHas (values_in_order vs) u)
  items_joined [] = no_items
    where
      no_items : (vs : List ValueTree) → Have vs [] → EachHas (values_in_order vs) void
      no_items [] h = tt
      no_items (v ∷ vs) h = absurd h
  items_joined (s ∷ ss) = with_some s ss (join_items ss) (items_joined ss)

  pub fields_have : (vs : List ValueTree) (ss : List StackShape) → Have vs ss → FieldsHave (values_in_order vs) ss
  fields_have [] [] h = tt
  fields_have (v ∷ vs) (s ∷ ss) h = (h.0, fields_have vs ss h.1)
  fields_have [] (s ∷ ss) h = absurd h
  fields_have (v ∷ vs) [] h = absurd h

  -- parts of stacks
  pub same_length : (vs : List ValueTree) (ss : List StackShape) → Have vs ss → length vs ≡ length ss
  same_length [] [] h = refl
  same_length (v ∷ vs) (s ∷ ss) h = ap suc (same_length vs ss h.1)
  same_length (v ∷ vs) [] h = absurd h
  same_length [] (s ∷ ss) h = absurd h

  pub have_both : (vs : List ValueTree) (ss : List StackShape) (ws : List ValueTree) (ts : List StackShape) → Have vs ss → Have ws ts → Have (vs ++ ws) (ss ++ ts)
  have_both [] [] ws ts h k = k
  have_both (v ∷ vs) (s ∷ ss) ws ts h k = (h.0, have_both vs ss ws ts h.1 k)
  have_both [] (s ∷ ss) ws ts h k = absurd h
  have_both (v ∷ vs) [] ws ts h k = absurd h

  pub have_take : (n : ℕ) (vs : List ValueTree) (ss : List StackShape) → Have vs ss → Have (take n vs) (take n ss)
  have_take zero vs ss h = tt
  have_take (suc n) [] [] h = tt
  have_take (suc n) (v ∷ vs) (s ∷ ss) h = (h.0, have_take n vs ss h.1)
  have_take (suc n) [] (s ∷ ss) h = absurd h
  have_take (suc n) (v ∷ vs) [] h = absurd h

  pub have_drop : (n : ℕ) (vs : List ValueTree) (ss : List StackShape) → Have vs ss → Have (drop n vs) (drop n ss)
  have_drop zero vs ss h = h
  have_drop (suc n) [] [] h = tt
  have_drop (suc n) (v ∷ vs) (s ∷ ss) h = have_drop n vs ss h.1
  have_drop (suc n) [] (s ∷ ss) h = absurd h
  have_drop (suc n) (v ∷ vs) [] h = absurd h
