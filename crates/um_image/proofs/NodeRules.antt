-- What the rules of instructions pass on, where the top of the state fits.
use Rattle.std.proofs.Common.{◌≡◌, refl, sym, ap, ◌∙◌, ℕ, zero, suc, ◌+◌, Bool, true, List, [], ◌∷◌, ◌++◌, length, map, Option, Some, slice_get, arith, append_assoc, append-nil}
use Rattle.std.specs.Prelude.{nat_eq}
use Rattle.std.proofs.lemmas.List.{length-map}
use Rattle.um_tree.specs.TypeTree.{ShapeTree}
use Rattle.um_machine.specs.declared.op.Op.TheVariants.{Load, MakeList, Cons, MakeRec, Field, Slide, Call, Ret}
use Rattle.um_machine.specs.Stack.{takes, on_one, on_two, on_found}
use Rattle.um_verify.specs.StackShape.{StackShape, void, bool, num, list, made, on_stack, fits, join, join_items, fit_all}
use Rattle.um_verify.specs.Rules.{Body, View, Flow, fails, passes, need, to, on_list_shape, on_record_shape, fields_of, fit_one, fit_two, rule}
use Rattle.um_verify.proofs.Fits.{same_number, equal_numbers}
use Rattle.um_verify.proofs.Joins.{fits_self, joins_below}
use Rattle.um_image.proofs.Tops.{AllFit, items_below, takes_from, FitEach, fit_each_length, fit_each_all}

module _ (view : View) (e : Body) where
  pub fit_one_rule : (a : ℕ) (st : List StackShape) (w asked given : StackShape) → fits w asked ≡ true → fit_one a (st ++ w ∷ []) asked given ≡ to (a + 1) (st ++ given ∷ [])
  fit_one_rule a st w asked given h =
      takes_from st (w ∷ []) 1 (λ low taken. on_one taken fails (λ y. need (fits y asked) (to (a + 1) (low ++ given ∷ [])))) refl
      ∙ ap (λ (b : Bool). need b (to (a + 1) (st ++ given ∷ []))) h

  pub fit_two_rule : (a : ℕ) (st : List StackShape) (v w asked given : StackShape) → fits v asked ≡ true → fits w asked ≡ true → fit_two a ((st ++ v ∷ []) ++ w ∷ []) asked given ≡ to (a + 1) (st ++ given ∷ [])
  fit_two_rule a st v w asked given h k =
      ap (λ (xs : List StackShape). fit_two a xs asked given) (append_assoc st (v ∷ []) (w ∷ []))
      ∙ takes_from st (v ∷ w ∷ []) 2 (λ low taken. on_two taken fails (λ x y. need (fits x asked) (need (fits y asked) (to (a + 1) (low ++ given ∷ []))))) refl
      ∙ ap (λ (b : Bool). need b (need (fits w asked) (to (a + 1) (st ++ given ∷ [])))) h
      ∙ ap (λ (b : Bool). need b (to (a + 1) (st ++ given ∷ []))) k

  pub load_rule : (a p : ℕ) (st : List StackShape) (w : StackShape) → slice_get st p ≡ Some w → rule view e a st (Load p) ≡ to (a + 1) (st ++ w ∷ [])
  load_rule a p st w h = ap (λ (o : Option StackShape). on_found o fails (λ s. to (a + 1) (st ++ s ∷ []))) h

  pub nil_rule : (a : ℕ) (st : List StackShape) → rule view e a st (MakeList 0) ≡ to (a + 1) (st ++ list void ∷ [])
  nil_rule a st =
      ap (λ (o : List StackShape). rule view e a o (MakeList 0)) (sym (append-nil st)) ∙ takes_from st [] 0 (λ low taken. on_found (join_items taken) fails (λ s. to (a + 1) (low ++ list s ∷ []))) refl

  pub slide_rule : (a : ℕ) (st : List StackShape) (v w : StackShape) → rule view e a ((st ++ v ∷ []) ++ w ∷ []) (Slide 1) ≡ to (a + 1) (st ++ w ∷ [])
  slide_rule a st v w =
      takes_from (st ++ v ∷ []) (w ∷ []) 1 (λ low taken. on_one taken fails (λ y. takes 0 1 low fails (λ lower dropped. to (a + 1) (lower ++ y ∷ [])))) refl
      ∙ takes_from st (v ∷ []) 1 (λ lower dropped. to (a + 1) (lower ++ w ∷ [])) refl

  pub ret_rule : (a : ℕ) (st : List StackShape) (w : StackShape) → fits w e.result ≡ true → rule view e a (st ++ w ∷ []) Ret ≡ passes []
  ret_rule a st w h =
      takes_from st (w ∷ []) 1 (λ low taken. on_one taken fails (λ y. need (fits y e.result) (passes []))) refl ∙ ap (λ (b : Bool). need b (passes [])) h

  cons_tail : (a : ℕ) (st : List StackShape) (v w c : StackShape) → fits v c ≡ true → fits w (list c) ≡ true → (u : StackShape) × (on_list_shape w (λ item tail. on_found (join v item) fails (λ s. to (a + 1) (st ++ list s ∷ []))) ≡ to (a + 1) (st ++ list u ∷ [])) × (fits u c ≡ true)
  cons_tail a st v void c h k =
      let j = joins_below v void c h refl in
      (j.0, ap (λ (o : Option StackShape). on_found o fails (λ s. to (a + 1) (st ++ list s ∷ []))) j.1, j.2)
  cons_tail a st v (list i) c h k =
      let j = joins_below v i c h k in
      (j.0, ap (λ (o : Option StackShape). on_found o fails (λ s. to (a + 1) (st ++ list s ∷ []))) j.1, j.2)
  cons_tail a st v bool c h k = absurd cc
  cons_tail a st v num c h k = absurd cc
  cons_tail a st v (made r) c h k = absurd cc

  pub cons_rule : (a : ℕ) (st : List StackShape) (c v w : StackShape) → fits v c ≡ true → fits w (list c) ≡ true → (u : StackShape) × (rule view e a ((st ++ v ∷ []) ++ w ∷ []) Cons ≡ to (a + 1) (st ++ u ∷ [])) × (fits u (list c) ≡ true)
  cons_rule a st c v w h k =
      let r = cons_tail a st v w c h k in (
        list r.0,
        ap (λ (xs : List StackShape). rule view e a xs Cons) (append_assoc st (v ∷ []) (w ∷ []))
            ∙ takes_from st (v ∷ w ∷ []) 2 (λ low taken. on_two taken fails (λ x y. on_list_shape y (λ item tail. on_found (join x item) fails (λ s. to (a + 1) (low ++ list s ∷ []))))) refl
            ∙ r.1,
        r.2,
      )

  pub list_rule : (a n : ℕ) (st ws : List StackShape) (s : StackShape) → AllFit ws s → n ≡ length ws → (u : StackShape) × (rule view e a (st ++ ws) (MakeList n) ≡ to (a + 1) (st ++ u ∷ [])) × (fits u (list s) ≡ true)
  list_rule a n st ws s h k =
      let j = items_below ws s h in (
        list j.0,
        takes_from st ws n (λ low taken. on_found (join_items taken) fails (λ s. to (a + 1) (low ++ list s ∷ []))) k
            ∙ ap (λ (o : Option StackShape). on_found o fails (λ s. to (a + 1) (st ++ list s ∷ []))) j.1,
        j.2,
      )

  pub call_rule : (a f n : ℕ) (st ws : List StackShape) (params : List ShapeTree) (b : Body) → slice_get view.bodies f ≡ Some b → b.params ≡ map on_stack params → FitEach ws params → rule view e a (st ++ ws) (Call f) ≡ to (a + 1) (st ++ b.result ∷ [])
  call_rule a f n st ws params b s p h =
      let l = fit_each_length ws params h in
      let m : length (map on_stack params) ≡ length params = length-map params on_stack in
      let c : length b.params ≡ length (map on_stack params) = ap (λ (xs : List StackShape). length xs) p in
      let t : fit_all ws b.params ≡ true = ap (fit_all ws) p ∙ fit_each_all ws params h in
      ap (λ (o : Option Body). on_found o fails (λ g. takes 0 (length g.params) (st ++ ws) fails (λ low taken. need (fit_all taken g.params) (to (a + 1) (low ++ g.result ∷ []))))) s
      ∙ takes_from st ws (length b.params) (λ low taken. need (fit_all taken b.params) (to (a + 1) (low ++ b.result ∷ []))) (omega arith)
      ∙ ap (λ (q : Bool). need q (to (a + 1) (st ++ b.result ∷ []))) t

  pub record_rule : (a r n : ℕ) (st ws : List StackShape) (fields : List ShapeTree) → slice_get view.fields r ≡ Some (map on_stack fields) → FitEach ws fields → n ≡ length ws → rule view e a (st ++ ws) (MakeRec r n) ≡ to (a + 1) (st ++ made r ∷ [])
  record_rule a r n st ws fields s h k =
      let l = fit_each_length ws fields h in
      let m : length (map on_stack fields) ≡ length fields = length-map fields on_stack in
      ap (λ (o : Option (List StackShape)). on_found o fails (λ ss. need (nat_eq (length ss) n) (takes 0 n (st ++ ws) fails (λ low taken. need (fit_all taken ss) (to (a + 1) (low ++ made r ∷ [])))))) s
      ∙ ap (λ (q : Bool). need q (takes 0 n (st ++ ws) fails (λ low taken. need (fit_all taken (map on_stack fields)) (to (a + 1) (low ++ made r ∷ []))))) (equal_numbers (length (map on_stack fields)) n (omega arith))
      ∙ takes_from st ws n (λ low taken. need (fit_all taken (map on_stack fields)) (to (a + 1) (low ++ made r ∷ []))) k
      ∙ ap (λ (q : Bool). need q (to (a + 1) (st ++ made r ∷ []))) (fit_each_all ws fields h)

  stacked_at : (fields : List ShapeTree) (k : ℕ) (t : ShapeTree) → slice_get fields k ≡ Some t → slice_get (map on_stack fields) k ≡ Some (on_stack t)
  stacked_at [] zero t h = absurd cc
  stacked_at [] (suc k) t h = absurd cc
  stacked_at (s ∷ fields) zero t h = let same : s ≡ t = cc in ap (λ (x : ShapeTree). Some (on_stack x)) same
  stacked_at (s ∷ fields) (suc k) t h = stacked_at fields k t h

  abbrev of_part : ℕ → ℕ → List StackShape → StackShape → Flow
  of_part a k low y = on_record_shape y (to (a + 1) (low ++ void ∷ [])) (λ r. on_found (slice_get (fields_of (slice_get view.fields r)) k) fails (λ s. to (a + 1) (low ++ s ∷ [])))

  field_tail : (a r k : ℕ) (st : List StackShape) (w : StackShape) (fields : List ShapeTree) (t : ShapeTree) → slice_get view.fields r ≡ Some (map on_stack fields) → slice_get fields k ≡ Some t → fits w (made r) ≡ true → (u : StackShape) × (of_part a k st w ≡ to (a + 1) (st ++ u ∷ [])) × (fits u (on_stack t) ≡ true)
  field_tail a r k st void fields t s g h = (void, refl, refl)
  field_tail a r k st (made q) fields t s g h =
      let same : q ≡ r = same_number q r h in (
        on_stack t,
        ap (λ (x : ℕ). on_found (slice_get (fields_of (slice_get view.fields x)) k) fails (λ s. to (a + 1) (st ++ s ∷ []))) same
            ∙ ap (λ (o : Option (List StackShape)). on_found (slice_get (fields_of o) k) fails (λ s. to (a + 1) (st ++ s ∷ []))) s
            ∙ ap (λ (o : Option StackShape). on_found o fails (λ s. to (a + 1) (st ++ s ∷ []))) (stacked_at fields k t g),
        fits_self (on_stack t),
      )
  field_tail a r k st bool fields t s g h = absurd cc
  field_tail a r k st num fields t s g h = absurd cc
  field_tail a r k st (list i) fields t s g h = absurd cc

  pub field_rule : (a r k : ℕ) (st : List StackShape) (w : StackShape) (fields : List ShapeTree) (t : ShapeTree) → slice_get view.fields r ≡ Some (map on_stack fields) → slice_get fields k ≡ Some t → fits w (made r) ≡ true → (u : StackShape) × (rule view e a (st ++ w ∷ []) (Field k) ≡ to (a + 1) (st ++ u ∷ [])) × (fits u (on_stack t) ≡ true)
  field_rule a r k st w fields t s g h =
      let u = field_tail a r k st w fields t s g h in
      (u.0, takes_from st (w ∷ []) 1 (λ low taken. on_one taken fails (of_part a k low)) refl ∙ u.1, u.2)
