-- Names of which no two are equal, added one by one to a table.
use Rattle.std.proofs.Common.{◌≡◌, ℕ, zero, suc, ◌+◌, ◌<◌, Bool, true, false, cond, List, [], ◌∷◌, ◌++◌, length, Option, Some, None, refl, sym, ap, subst, ◌∙◌, arith}
use Rattle.std.specs.Prelude.{drop, get_or, is_some, slice_get, take}
use Rattle.std.specs.Str.{bytes_eq}
use Rattle.std.proofs.lemmas.List.{length-take, take-append-drop, take_more}
use Rattle.std.proofs.lemmas.Option.{slice_get_within, slice_get-get_or}
use Rattle.std.proofs.lemmas.Slice.Eq.{bytes_eq-Decides}
use Rattle.um_tree.specs.Formed.{AreDistinct}
use Rattle.um_measures.specs.Known.{is_among, number_of, one_later}
use Rattle.um_measures.proofs.NameLists.{is_among-number}

-- the name of a number
number_named : (names : List (List ℕ)) (x : List ℕ) (k : ℕ) → number_of names x ≡ Some k → slice_get names k ≡ Some x
number_named [] x k e = absurd (cc e)
number_named (y ∷ ys) x k e = by (bytes_eq x y) refl (number_of ys x) refl (number_named ys x) e where
  by : (b : Bool) → bytes_eq x y ≡ b → (o : Option ℕ) → number_of ys x ≡ o → ((j : ℕ) → number_of ys x ≡ Some j → slice_get ys j ≡ Some x)
      → cond b (Some 0) (one_later o) ≡ Some k → slice_get (y ∷ ys) k ≡ Some x
  by true s o t next h =
      let none_before : 0 ≡ k = cc h in
      subst (λ (j : ℕ). slice_get (y ∷ ys) j ≡ Some x) none_before (ap Some (sym ((bytes_eq-Decides x y).0 s)))
  by false s None t next h = absurd (cc h)
  by false s (Some j) t next h =
      let later : suc j ≡ k = cc h in
      subst (λ (i : ℕ). slice_get (y ∷ ys) i ≡ Some x) later (next j t)

in_front : {A : Type 0} (xs ys : List A) (i : ℕ) (x : A) → slice_get xs i ≡ Some x → slice_get (xs ++ ys) i ≡ Some x
in_front [] ys i x e = absurd (cc e)
in_front (y ∷ xs) ys zero x e = e
in_front (y ∷ xs) ys (suc i) x e = in_front xs ys i x e

-- a name of those before it would be the same function
fresh : (names : List (List ℕ)) (i : ℕ) (x : List ℕ) → AreDistinct names → slice_get names i ≡ Some x → is_among (take i names) x ≡ false
fresh names i x once there = by (number_of (take i names) x) refl where
  by : (o : Option ℕ) → number_of (take i names) x ≡ o → is_among (take i names) x ≡ false
  by None e = is_among-number x (take i names) ∙ ap is_some e
  by (Some j) e =
      let front = number_named (take i names) x j e in
      let within = slice_get_within (take i names) j x front in
      let few = length-take i names in
      let whole : slice_get names j ≡ Some x = subst (λ xs. slice_get xs j ≡ Some x) (take-append-drop i names) (in_front (take i names) (drop i names) j x front) in
      let same = once j i x whole there in
      absurd (omega (arith, within, few, same))

pub one_added : (names : List (List ℕ)) (i : ℕ) (x d : List ℕ) (table new : List (List ℕ)) → AreDistinct names → i < length names → x ≡ get_or names i d
    → table ≡ take i names → new ≡ cond (is_among table x) table (table ++ x ∷ []) → new ≡ take (i + 1) names
one_added names i x d table new once within there so_far e =
    let here : slice_get names i ≡ Some x = slice_get-get_or names i d within ∙ ap Some (sym there) in
    e ∙ ap (λ (t : List (List ℕ)). cond (is_among t x) t (t ++ x ∷ [])) so_far
    ∙ ap (λ b. cond b (take i names) (take i names ++ x ∷ [])) (fresh names i x once here)
    ∙ ap (λ (y : List ℕ). take i names ++ y ∷ []) there ∙ sym (take_more names i d within)
