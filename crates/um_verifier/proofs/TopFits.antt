-- Shapes on the top of a stack that fit, from the top down.
use Rattle.std.proofs.Common.{◌≡◌, refl, sym, ap, ◌∙◌, ℕ, zero, suc, ◌+◌, ◌-◌, ◌≤◌, Bool, true, false, cond, List, [], ◌∷◌, ◌++◌, length, take, drop, get_or, arith, length-append, length-drop}
use Rattle.std.proofs.lemmas.List.{map_push, length-map, take_more, take_all}
use Rattle.um_verify.specs.StackShape.{StackShape, fits, fit_all}
use Rattle.um_stacks.specs.FlatShapes.{flat_shape, flat_shapes}
use Rattle.um_stacks.specs.declared.flat.FlatShape.{FlatShape}

drop_front : (place : ℕ) (us vs : List FlatShape) → place ≤ length us → drop place (us ++ vs) ≡ drop place us ++ vs
drop_front zero us vs h = refl
drop_front (suc place) [] vs h = absurd (omega arith)
drop_front (suc place) (u ∷ us) vs h = drop_front place us vs (omega arith)

cond_itself : (b : Bool) → cond b true false ≡ b
cond_itself true = refl
cond_itself false = refl

cond_false : (b : Bool) → cond b false false ≡ false
cond_false true = refl
cond_false false = refl

cond_twice : (a b c : Bool) → cond a (cond b c false) false ≡ cond (cond a b false) c false
cond_twice true b c = refl
cond_twice false b c = refl

fit_push : (xs ys : List StackShape) (x y : StackShape) → length xs ≡ length ys → fit_all (xs ++ x ∷ []) (ys ++ y ∷ []) ≡ cond (fit_all xs ys) (fits x y) false
fit_push [] [] x y h = cond_itself (fits x y)
fit_push (a ∷ xs) (b ∷ ys) x y h =
    ap (λ (c : Bool). cond (fits a b) c false) (fit_push xs ys x y (omega arith)) ∙ cond_twice (fits a b) (fit_all xs ys) (fits x y)
fit_push [] (b ∷ ys) x y h = absurd (omega arith)
fit_push (a ∷ xs) [] x y h = absurd (omega arith)

-- one more shape of each
fits_one_more : (xs low asked : List FlatShape) (place i j : ℕ) (y a : FlatShape) → xs ≡ low ++ y ∷ [] → j + 1 ≡ i → i ≤ length asked → a ≡ get_or asked j a → length xs ≡ place + i → fit_all (flat_shapes (drop place xs)) (flat_shapes (take i asked)) ≡ cond (fit_all (flat_shapes (drop place low)) (flat_shapes (take j asked))) (fits (flat_shape y) (flat_shape a)) false
fits_one_more xs low asked place i j y a h e l r n =
    let long : length xs ≡ length low + 1 = ap (λ (s : List FlatShape). length s) h ∙ length-append low (y ∷ []) in
    let top : drop place xs ≡ drop place low ++ y ∷ [] = ap (drop place) h ∙ drop_front place low (y ∷ []) (omega arith) in
    let front : take i asked ≡ take j asked ++ a ∷ [] = ap (λ (m : ℕ). take m asked) (sym e) ∙ take_more asked j a (omega arith) ∙ ap (λ (x : FlatShape). take j asked ++ x ∷ []) (sym r) in
    let some : length (drop place low) ≡ length low - place = length-drop place low in
    let many : length (take j asked) ≡ j = taken asked j (omega arith) in
    let mapped : length (flat_shapes (drop place low)) ≡ length (drop place low) = length-map (drop place low) flat_shape in
    let same : length (flat_shapes (take j asked)) ≡ length (take j asked) = length-map (take j asked) flat_shape in
    (λ k. fit_all (flat_shapes (top k)) (flat_shapes (front k)))
    ∙ (λ k. fit_all (map_push flat_shape (drop place low) y k) (map_push flat_shape (take j asked) a k))
    ∙ fit_push (flat_shapes (drop place low)) (flat_shapes (take j asked)) (flat_shape y) (flat_shape a) (omega arith)
  where
    taken : (zs : List FlatShape) (k : ℕ) → k ≤ length zs → length (take k zs) ≡ k
    taken zs zero h = refl
    taken [] (suc k) h = absurd (omega arith)
    taken (z ∷ zs) (suc k) h = ap suc (taken zs k (omega arith))

and_true : (b c : Bool) → c ≡ true → cond b c false ≡ b
and_true b c h = ap (λ (d : Bool). cond b d false) h ∙ cond_itself b

and_false : (b c : Bool) → c ≡ false → cond b c false ≡ false
and_false b c h = ap (λ (d : Bool). cond b d false) h ∙ cond_false b

pub top_more : (xs low asked : List FlatShape) (place i j : ℕ) (y a : FlatShape) (b o : Bool) → o ≡ fit_all (flat_shapes (drop place xs)) (flat_shapes (take i asked)) → xs ≡ low ++ y ∷ [] → j + 1 ≡ i → i ≤ length asked → a ≡ get_or asked j a → length xs ≡ place + i → b ≡ fits (flat_shape y) (flat_shape a) → b ≡ true → o ≡ fit_all (flat_shapes (drop place low)) (flat_shapes (take j asked))
top_more xs low asked place i j y a b o k h e l r n f t =
    k ∙ fits_one_more xs low asked place i j y a h e l r n ∙ and_true (fit_all (flat_shapes (drop place low)) (flat_shapes (take j asked))) (fits (flat_shape y) (flat_shape a)) (sym f ∙ t)

pub top_misfit : (xs low asked : List FlatShape) (place i j : ℕ) (y a : FlatShape) (b o : Bool) → o ≡ fit_all (flat_shapes (drop place xs)) (flat_shapes (take i asked)) → xs ≡ low ++ y ∷ [] → j + 1 ≡ i → i ≤ length asked → a ≡ get_or asked j a → length xs ≡ place + i → b ≡ fits (flat_shape y) (flat_shape a) → b ≡ false → false ≡ o
top_misfit xs low asked place i j y a b o k h e l r n f t =
    sym (k ∙ fits_one_more xs low asked place i j y a h e l r n ∙ and_false (fit_all (flat_shapes (drop place low)) (flat_shapes (take j asked))) (fits (flat_shape y) (flat_shape a)) (sym f ∙ t))

pub top_start : (xs asked : List FlatShape) (place n : ℕ) → n ≡ length asked → fit_all (flat_shapes (drop place xs)) (flat_shapes asked) ≡ fit_all (flat_shapes (drop place xs)) (flat_shapes (take n asked))
top_start xs asked place n h = ap (λ (s : List FlatShape). fit_all (flat_shapes (drop place xs)) (flat_shapes s)) (sym (take_all n asked (omega arith)))

pub top_whole : (low asked : List FlatShape) (place i : ℕ) (o : Bool) → o ≡ fit_all (flat_shapes (drop place low)) (flat_shapes (take i asked)) → length low ≡ place + i → i ≡ 0 → true ≡ o
top_whole low asked place i o k n z =
    let nothing : drop place low ≡ [] = dropped place low (omega arith) in
    sym (k ∙ (λ j. fit_all (flat_shapes (nothing j)) (flat_shapes (take (z j) asked))))
  where
    dropped : (n : ℕ) (zs : List FlatShape) → length zs ≤ n → drop n zs ≡ []
    dropped zero [] h = refl
    dropped zero (z ∷ zs) h = absurd (omega arith)
    dropped (suc n) [] h = refl
    dropped (suc n) (z ∷ zs) h = dropped n zs (omega arith)
