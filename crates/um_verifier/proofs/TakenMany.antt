-- What is taken by instructions on many values, and on lists and records.
use Rattle.std.proofs.Common.{◌≡◌, refl, sym, ap, ◌∙◌, ℕ, zero, suc, ◌+◌, ◌-◌, ◌<◌, ◌≤◌, Bool, true, false, cond, ◌&&◌, List, [], ◌∷◌, ◌++◌, length, map, take, drop, get_or, Option, Some, None, option_map, slice_get, arith, append_assoc}
use Rattle.std.specs.Prelude.{nat_eq, nat_le}
use Rattle.std.proofs.lemmas.List.{length-map}
use Rattle.std.proofs.lemmas.Option.{slice_get-map}
use Rattle.std.proofs.lemmas.Bool.Decides.{nat_tests}
use Rattle.um_tree.specs.Heights.{greatest_height}
use Rattle.um_shape.specs.RecordShapes.{RecordShape}
use Rattle.um_machine.specs.declared.op.Op.TheVariants.{MakeList, Split, MakeRec, Field, Call}
use Rattle.um_machine.specs.declared.code.Entry.{Entry}
use Rattle.um_machine.specs.declared.code.Code.{Code}
use Rattle.um_machine.specs.Stack.{takes, on_one, on_found}
use Rattle.um_verify.specs.StackShape.{StackShape, list, made, fit_all, join_items, stack_height}
use Rattle.um_verify.specs.Rules.{Body, Flow, fails, passes, need, to, on_list_shape, rule, low_state}
use Rattle.um_stacks.specs.FlatShapes.{flat_shape, flat_shapes}
use Rattle.um_verifier.specs.KnownImages.{known_fields, known_heights, known_body, known_bodies, known_view, lowered, fit_many, part_flow}
use Rattle.um_stacks.specs.declared.flat.FlatShape.{FlatShape}
use Rattle.um_verifier.specs.declared.known.KnownRecord.{KnownRecord}
use Rattle.um_verifier.specs.declared.known.KnownHead.{KnownHead}
use Rattle.um_verifier.specs.declared.known.Known.{Known}
use Rattle.um_verifier.proofs.LowStates.{low_push}
use Rattle.um_verifier.proofs.Taken.{takes_few, takes_top, takes_at, lowered_need, ItemsAre, items_none_are, items_are}

equal_is : (m n : ℕ) → m ≡ n → nat_eq m n ≡ true
equal_is m n h = grind (arith, nat_tests)

module _ (known : Known) (at : ℕ) (xs : List FlatShape) where
  abbrev H : List RecordShape
  H = known_heights known

  abbrev go_many : List FlatShape → StackShape → List StackShape → List StackShape → Flow
  go_many asked given low taken = need (fit_all taken (flat_shapes asked)) (to (at + 1) (low ++ given ∷ []))

  pub many_few : (asked : List FlatShape) (given : StackShape) → length xs < length asked → fails ≡ lowered H (fit_many at (flat_shapes xs) (flat_shapes asked) given)
  many_few asked given h =
      let l : length (flat_shapes asked) ≡ length asked = length-map asked flat_shape in
      sym (ap (lowered H) (takes_few xs (length (flat_shapes asked)) (go_many asked given) (omega arith)))

  pub many_is : (asked low hi : List FlatShape) (given : StackShape) (b : Bool) → length asked ≤ length xs → low ≡ take (length xs - length asked) xs → hi ≡ drop (length xs - length asked) xs → b ≡ fit_all (flat_shapes hi) (flat_shapes asked) → need b (lowered H (to (at + 1) (flat_shapes low ++ given ∷ []))) ≡ lowered H (fit_many at (flat_shapes xs) (flat_shapes asked) given)
  many_is asked low hi given b h e k f =
      let l : length (flat_shapes asked) ≡ length asked = length-map asked flat_shape in
      let n : length xs - length asked ≡ length xs - length (flat_shapes asked) = ap (λ (m : ℕ). length xs - m) (sym l) in
      let low_is : low ≡ take (length xs - length (flat_shapes asked)) xs = e ∙ ap (λ (m : ℕ). take m xs) n in
      let hi_is : hi ≡ drop (length xs - length (flat_shapes asked)) xs = k ∙ ap (λ (m : ℕ). drop m xs) n in
      sym (lowered_need H b (to (at + 1) (flat_shapes low ++ given ∷ [])))
      ∙ ap (λ (t : Bool). lowered H (need t (to (at + 1) (flat_shapes low ++ given ∷ [])))) f
      ∙ (λ i. lowered H (go_many asked given (flat_shapes (low_is i)) (flat_shapes (hi_is i))))
      ∙ sym (ap (lowered H) (takes_at xs (length (flat_shapes asked)) (go_many asked given) (omega arith)))

  module _ (code : Code) (body : Body) where
    pub rec_is : (r n : ℕ) (ss : List FlatShape) → slice_get (known_fields known) r ≡ Some (flat_shapes ss) → length ss ≡ n → lowered H (fit_many at (flat_shapes xs) (flat_shapes ss) (made r)) ≡ lowered H (rule (known_view known code) body at (flat_shapes xs) (MakeRec r n))
    rec_is r n ss h e =
        let l : length (flat_shapes ss) ≡ length ss = length-map ss flat_shape in
        ap (λ (m : ℕ). lowered H (takes 0 m (flat_shapes xs) fails (λ low taken. need (fit_all taken (flat_shapes ss)) (to (at + 1) (low ++ made r ∷ []))))) (l ∙ e)
        ∙ sym (ap (λ (b : Bool). lowered H (need b (takes 0 n (flat_shapes xs) fails (λ low taken. need (fit_all taken (flat_shapes ss)) (to (at + 1) (low ++ made r ∷ [])))))) (equal_is (length (flat_shapes ss)) n (l ∙ e)))
        ∙ sym (ap (λ (o : Option (List StackShape)). lowered H (on_found o fails (λ ts. need (nat_eq (length ts) n) (takes 0 n (flat_shapes xs) fails (λ low taken. need (fit_all taken ts) (to (at + 1) (low ++ made r ∷ []))))))) h)

    abbrev calls : Option Body → Flow
    calls o = on_found o fails (λ g. takes 0 (length g.params) (flat_shapes xs) fails (λ low taken. need (fit_all taken g.params) (to (at + 1) (low ++ g.result ∷ []))))

    pub call_none : (f : ℕ) → slice_get (known_bodies code.entries known.heads.items) f ≡ None → fails ≡ lowered H (rule (known_view known code) body at (flat_shapes xs) (Call f))
    call_none f h = sym (ap (λ (o : Option Body). lowered H (calls o)) h)

    pub call_is : (f : ℕ) (e : Entry) (k : KnownHead) → slice_get (known_bodies code.entries known.heads.items) f ≡ Some (known_body e k) → lowered H (fit_many at (flat_shapes xs) (flat_shapes k.params.items) (flat_shape k.result)) ≡ lowered H (rule (known_view known code) body at (flat_shapes xs) (Call f))
    call_is f e k h = sym (ap (λ (o : Option Body). lowered H (calls o)) h)

    abbrev go_list : List StackShape → List StackShape → Flow
    go_list low taken = on_found (join_items taken) fails (λ s. to (at + 1) (low ++ list s ∷ []))

    pub list_few : (n : ℕ) → length xs < n → fails ≡ lowered H (rule (known_view known code) body at (flat_shapes xs) (MakeList n))
    list_few n h = sym (ap (lowered H) (takes_few xs n go_list h))

    pub list_is : (n : ℕ) (low hi : List FlatShape) (o : Option FlatShape) → n ≤ length xs → low ≡ take (length xs - n) xs → hi ≡ drop (length xs - n) xs → option_map flat_shape o ≡ join_items (flat_shapes hi) → lowered H (on_found (option_map flat_shape o) fails (λ s. to (at + 1) (flat_shapes low ++ list s ∷ []))) ≡ lowered H (rule (known_view known code) body at (flat_shapes xs) (MakeList n))
    list_is n low hi o h e k j =
        ap (λ (p : Option StackShape). lowered H (on_found p fails (λ s. to (at + 1) (flat_shapes low ++ list s ∷ [])))) j
        ∙ (λ i. lowered H (go_list (flat_shapes (e i)) (flat_shapes (k i))))
        ∙ sym (ap (lowered H) (takes_at xs n go_list h))

    abbrev go_part : List StackShape → StackShape → Flow
    go_part low s = to (at + 1) (low ++ s ∷ [])

    pub field_none : (k : ℕ) → length xs ≡ 0 → fails ≡ lowered H (rule (known_view known code) body at (flat_shapes xs) (Field k))
    field_none k h =
        let few : length xs < 1 = omega arith in
        sym (ap (lowered H) (takes_few xs 1 (λ low taken. on_one taken fails (λ y. part_flow (known_fields known) y k (go_part low))) few))

    pub field_is : (k : ℕ) (low : List FlatShape) (y : FlatShape) (o p : Option FlatShape) → xs ≡ low ++ y ∷ [] → o ≡ p → ((go : StackShape → Flow) → part_flow (known_fields known) (flat_shape y) k go ≡ on_found (option_map flat_shape o) fails go) → lowered H (on_found (option_map flat_shape p) fails (go_part (flat_shapes low))) ≡ lowered H (rule (known_view known code) body at (flat_shapes xs) (Field k))
    field_is k low y o p h e f =
        ap (λ (q : Option FlatShape). lowered H (on_found (option_map flat_shape q) fails (go_part (flat_shapes low)))) (sym e)
        ∙ sym (ap (lowered H) (takes_top xs low y (λ low taken. on_one taken fails (λ y. part_flow (known_fields known) y k (go_part low))) h ∙ f (go_part (flat_shapes low))))

    abbrev pub go_split : ℕ → List StackShape → StackShape → StackShape → Flow
    go_split t low item tail = passes (record { to = t; state = low } ∷ record { to = at + 1; state = low ++ item ∷ tail ∷ [] } ∷ [])

    pub split_none : (t : ℕ) → length xs ≡ 0 → fails ≡ lowered H (rule (known_view known code) body at (flat_shapes xs) (Split t))
    split_none t h =
        let few : length xs < 1 = omega arith in
        sym (ap (lowered H) (takes_few xs 1 (λ low taken. on_one taken fails (λ y. on_list_shape y (go_split t low))) few))

    split_top : (t : ℕ) (low : List FlatShape) (y : FlatShape) → xs ≡ low ++ y ∷ [] → rule (known_view known code) body at (flat_shapes xs) (Split t) ≡ on_list_shape (flat_shape y) (go_split t (flat_shapes low))
    split_top t low y h = takes_top xs low y (λ low taken. on_one taken fails (λ y. on_list_shape y (go_split t low))) h

    pub split_no_list : (t : ℕ) (low : List FlatShape) (y : FlatShape) (o : Option FlatShape) → xs ≡ low ++ y ∷ [] → o ≡ None → ItemsAre y o → fails ≡ lowered H (rule (known_view known code) body at (flat_shapes xs) (Split t))
    split_no_list t low y o h e k = sym (ap (lowered H) (split_top t low y h ∙ items_none_are y o e k (go_split t (flat_shapes low))))

    after_false : (us vs : List StackShape) → low_state H us ≡ false → low_state H (us ++ vs) ≡ false
    after_false [] vs e = absurd cc
    after_false (u ∷ us) vs e =
        elim (nat_le (stack_height H u) greatest_height) as (λ b. nat_le (stack_height H u) greatest_height ≡ b → cond b (low_state H us) false ≡ false → cond b (low_state H (us ++ vs)) false ≡ false) [
          | true ↦ λ g k. after_false us vs k
          | false ↦ λ g k. refl
        ] refl e

    both_test : (st : List StackShape) (i y : StackShape) → low_state H st ≡ true → low_state H (st ++ i ∷ y ∷ []) ≡ (nat_le (stack_height H i) greatest_height && nat_le (stack_height H y) greatest_height)
    both_test st i y h = ap (low_state H) (sym (append_assoc st (i ∷ []) (y ∷ []))) ∙ by_test (nat_le (stack_height H i) greatest_height) (low_push H st i h) where
      by_test : (b : Bool) → low_state H (st ++ i ∷ []) ≡ b → low_state H ((st ++ i ∷ []) ++ y ∷ []) ≡ (b && nat_le (stack_height H y) greatest_height)
      by_test true e = low_push H (st ++ i ∷ []) y e
      by_test false e = after_false (st ++ i ∷ []) (y ∷ []) e

    pub split_is : (t : ℕ) (low : List FlatShape) (y i : FlatShape) (o : Option FlatShape) (b : Bool) → xs ≡ low ++ y ∷ [] → o ≡ Some i → ItemsAre y o → low_state H (flat_shapes low) ≡ true → b ≡ (nat_le (stack_height H (flat_shape i)) greatest_height && nat_le (stack_height H (flat_shape y)) greatest_height) → need b (go_split t (flat_shapes low) (flat_shape i) (flat_shape y)) ≡ lowered H (rule (known_view known code) body at (flat_shapes xs) (Split t))
    split_is t low y i o b h e k l f =
        let both = go_split t (flat_shapes low) (flat_shape i) (flat_shape y) in
        ap (λ (c : Bool). need c both) (f ∙ sym (both_test (flat_shapes low) (flat_shape i) (flat_shape y) l))
        ∙ sym (ap (λ (c : Bool). need c both) (ap (λ (c : Bool). cond c (cond (low_state H (flat_shapes low ++ flat_shape i ∷ flat_shape y ∷ [])) true false) false) l ∙ rest_true (low_state H (flat_shapes low ++ flat_shape i ∷ flat_shape y ∷ []))))
        ∙ sym (ap (lowered H) (split_top t low y h ∙ items_are y i o e k (go_split t (flat_shapes low))))
      where
        rest_true : (b : Bool) → cond b true false ≡ b
        rest_true true = refl
        rest_true false = refl

-- bodies by their numbers
pub bodies_past : (es : List Entry) (hs : List KnownHead) (f : ℕ) → length hs ≤ f → slice_get (known_bodies es hs) f ≡ None
bodies_past [] [] zero h = refl
bodies_past [] [] (suc f) h = refl
bodies_past (e ∷ es) (k ∷ hs) zero h = absurd (omega arith)
bodies_past (e ∷ es) (k ∷ hs) (suc f) h = bodies_past es hs f (omega arith)
bodies_past [] (k ∷ hs) zero h = refl
bodies_past [] (k ∷ hs) (suc f) h = refl
bodies_past (e ∷ es) [] zero h = refl
bodies_past (e ∷ es) [] (suc f) h = refl

pub body_there : (es : List Entry) (hs : List KnownHead) (f : ℕ) (k : KnownHead) → length es ≡ length hs → f < length hs → k ≡ get_or hs f k → (e : Entry) × (slice_get (known_bodies es hs) f ≡ Some (known_body e k))
body_there [] [] f k n h s = absurd (omega arith)
body_there (e ∷ es) (x ∷ hs) zero k n h s = (e, ap (λ (y : KnownHead). Some (known_body e y)) (sym s))
body_there (e ∷ es) (x ∷ hs) (suc f) k n h s = body_there es hs f k (omega arith) (omega arith) s
body_there [] (x ∷ hs) f k n h s = absurd (omega arith)
body_there (e ∷ es) [] f k n h s = absurd (omega arith)

pub fields_there : (rs : List KnownRecord) (r : ℕ) (k : KnownRecord) → slice_get rs r ≡ Some k → slice_get (map (λ (k : KnownRecord). flat_shapes k.fields.items) rs) r ≡ Some (flat_shapes k.fields.items)
fields_there rs r k h = slice_get-map (λ (k : KnownRecord). flat_shapes k.fields.items) rs r ∙ ap (option_map (λ (k : KnownRecord). flat_shapes k.fields.items)) h
