-- Joins of stacks, from the top down.
use Rattle.std.proofs.Common.{◌≡◌, ◌≢◌, refl, sym, ap, ◌∙◌, ℕ, suc, Bool as Truth, true, cond, List, [], ◌∷◌, ◌++◌, length, map, take, reverse, Option, Some, None, option_map, arith, append_assoc, append-nil}
use Rattle.std.specs.Prelude.{nat_eq}
use Rattle.std.proofs.lemmas.List.{map_push, reverse-append}
use Rattle.std.proofs.Math.Seq.{take-append_seam}
use Rattle.std.proofs.lemmas.Bool.Decides.{nat_tests}
use Rattle.um_verify.specs.StackShape.{StackShape, void, bool, num, list, made, join, join_cons, join_all}
use Rattle.um_stacks.specs.FlatShapes.{flat_shape, flat_shapes}
use Rattle.um_stacks.specs.Stacks.{tops_of, IsPartOf}
use Rattle.um_stacks.specs.declared.flat.FlatShape.{FlatShape}
use Rattle.um_stacks.specs.declared.join.Passed.{Passed}

-- ---- the tops

abbrev join_top : Option (List StackShape) → Option StackShape → Option (List StackShape)
join_top None o = None
join_top (Some us) None = None
join_top (Some us) (Some u) = Some (us ++ u ∷ [])

one_join : (o : Option StackShape) → join_cons o (Some []) ≡ join_top (Some []) o
one_join None = refl
one_join (Some u) = refl

no_rest : (o : Option StackShape) → join_cons o None ≡ None
no_rest None = refl
no_rest (Some u) = refl

cons_top : (o : Option StackShape) (p : Option (List StackShape)) (q : Option StackShape) → join_cons o (join_top p q) ≡ join_top (join_cons o p) q
cons_top None p q = refl
cons_top (Some u) None q = refl
cons_top (Some u) (Some us) None = refl
cons_top (Some u) (Some us) (Some v) = refl

shorter : (ys : List StackShape) (y : StackShape) → join_all [] (ys ++ y ∷ []) ≡ None
shorter [] y = refl
shorter (z ∷ ys) y = refl

longer : (xs : List StackShape) (x : StackShape) → join_all (xs ++ x ∷ []) [] ≡ None
longer [] x = refl
longer (z ∷ xs) x = refl

join_tops : (xs ys : List StackShape) (x y : StackShape) → join_all (xs ++ x ∷ []) (ys ++ y ∷ []) ≡ join_top (join_all xs ys) (join x y)
join_tops [] [] x y = one_join (join x y)
join_tops [] (z ∷ ys) x y = ap (join_cons (join x z)) (shorter ys y) ∙ no_rest (join x z)
join_tops (z ∷ xs) [] x y = ap (join_cons (join z y)) (longer xs x) ∙ no_rest (join z y)
join_tops (a ∷ xs) (b ∷ ys) x y = ap (join_cons (join a b)) (join_tops xs ys x y) ∙ cons_top (join a b) (join_all xs ys) (join x y)

top_none : (p : Option (List StackShape)) → join_top p None ≡ None
top_none None = refl
top_none (Some us) = refl

top_some : (p : Option (List StackShape)) (u : StackShape) → join_top p (Some u) ≡ option_map (λ us. us ++ u ∷ []) p
top_some None u = refl
top_some (Some us) u = refl

tops_are : (xs ys low under : List FlatShape) (x y : FlatShape) → xs ≡ low ++ x ∷ [] → ys ≡ under ++ y ∷ [] → join_all (flat_shapes xs) (flat_shapes ys) ≡ join_top (join_all (flat_shapes low) (flat_shapes under)) (join (flat_shape x) (flat_shape y))
tops_are xs ys low under x y h k =
    (λ i. join_all (flat_shapes (h i)) (flat_shapes (k i)))
    ∙ (λ i. join_all (map_push flat_shape low x i) (map_push flat_shape under y i))
    ∙ join_tops (flat_shapes low) (flat_shapes under) (flat_shape x) (flat_shape y)

pub no_join : (xs ys low under : List FlatShape) (x y : FlatShape) (o : Option FlatShape) → xs ≡ low ++ x ∷ [] → ys ≡ under ++ y ∷ [] → o ≡ None → option_map flat_shape o ≡ join (flat_shape x) (flat_shape y) → None ≡ join_all (flat_shapes xs) (flat_shapes ys)
no_join xs ys low under x y o h k e j =
    let none : join (flat_shape x) (flat_shape y) ≡ None = sym j ∙ ap (option_map flat_shape) e in
    sym (tops_are xs ys low under x y h k ∙ ap (join_top (join_all (flat_shapes low) (flat_shapes under))) none ∙ top_none (join_all (flat_shapes low) (flat_shapes under)))

pub top_join : (xs ys low under : List FlatShape) (x y t : FlatShape) (o : Option FlatShape) → xs ≡ low ++ x ∷ [] → ys ≡ under ++ y ∷ [] → o ≡ Some t → option_map flat_shape o ≡ join (flat_shape x) (flat_shape y) → join_all (flat_shapes xs) (flat_shapes ys) ≡ option_map (λ us. us ++ flat_shape t ∷ []) (join_all (flat_shapes low) (flat_shapes under))
top_join xs ys low under x y t o h k e j =
    let some : join (flat_shape x) (flat_shape y) ≡ Some (flat_shape t) = sym j ∙ ap (option_map flat_shape) e in
    tops_are xs ys low under x y h k ∙ ap (join_top (join_all (flat_shapes low) (flat_shapes under))) some ∙ top_some (join_all (flat_shapes low) (flat_shapes under)) (flat_shape t)

-- ---- lists of different lengths, and a list with itself

pub lengths_apart : (xs ys : List FlatShape) → length xs ≢ length ys → None ≡ join_all (flat_shapes xs) (flat_shapes ys)
lengths_apart [] [] h = absurd (h refl)
lengths_apart (x ∷ xs) (y ∷ ys) h = sym (ap (join_cons (join (flat_shape x) (flat_shape y))) (sym (lengths_apart xs ys (λ e. h (ap suc e)))) ∙ no_rest (join (flat_shape x) (flat_shape y)))
lengths_apart [] (y ∷ ys) h = refl
lengths_apart (x ∷ xs) [] h = refl

same_number : (r : ℕ) → nat_eq r r ≡ true
same_number r = grind (arith, nat_tests)

join_itself : (s : StackShape) → join s s ≡ Some s
join_itself void = refl
join_itself bool = refl
join_itself num = refl
join_itself (list s) = ap (option_map list) (join_itself s)
join_itself (made r) = ap (λ (b : Truth). cond b (Some (made r)) None) (same_number r)

all_itself : (xs : List StackShape) → join_all xs xs ≡ Some xs
all_itself [] = refl
all_itself (x ∷ xs) = (λ i. join_cons (join_itself x i) (all_itself xs i))

-- ---- the way down

tops_push : (passed : List Passed) (p : Passed) → tops_of (passed ++ p ∷ []) ≡ flat_shape p.join ∷ tops_of passed
tops_push passed p =
    ap (λ (s : List FlatShape). flat_shapes (reverse s)) (map_push (λ (p : Passed). p.join) passed p) ∙ ap flat_shapes (reverse-append (map (λ (p : Passed). p.join) passed) (p.join ∷ []))

-- the joins of the tops that were passed stand on what is joined
abbrev pub onto : List Passed → Option (List StackShape) → Option (List StackShape)
onto passed o = option_map (λ us. us ++ tops_of passed) o

pub onto_none : (o : Option (List StackShape)) (passed : List Passed) → passed ≡ [] → o ≡ onto passed o
onto_none o passed h = same o ∙ ap (λ (ps : List Passed). onto ps o) (sym h) where
  same : (o : Option (List StackShape)) → o ≡ onto [] o
  same None = refl
  same (Some us) = ap Some (sym (append-nil us))

onto_pushed : (passed : List Passed) (p : Passed) (o : Option (List StackShape)) → onto passed (option_map (λ us. us ++ flat_shape p.join ∷ []) o) ≡ onto (passed ++ p ∷ []) o
onto_pushed passed p None = refl
onto_pushed passed p (Some us) =
    ap Some (append_assoc us (flat_shape p.join ∷ []) (tops_of passed) ∙ ap (λ (ts : List StackShape). us ++ ts) (sym (tops_push passed p)))

pub onto_more : (passed new : List Passed) (p : Passed) (o q r : Option (List StackShape)) → o ≡ onto passed q → q ≡ option_map (λ us. us ++ flat_shape p.join ∷ []) r → new ≡ passed ++ p ∷ [] → o ≡ onto new r
onto_more passed new p o q r h k e = h ∙ ap (onto passed) k ∙ onto_pushed passed p r ∙ ap (λ (ps : List Passed). onto ps r) (sym e)

-- what lies below is joined
pub onto_join : (passed : List Passed) (o q : Option (List StackShape)) (zs : List StackShape) → o ≡ onto passed q → Some zs ≡ q → Some (zs ++ tops_of passed) ≡ o
onto_join passed o q zs h k = ap (onto passed) k ∙ sym h

pub same_join : (xs ys : List FlatShape) → xs ≡ ys → Some (flat_shapes xs) ≡ join_all (flat_shapes xs) (flat_shapes ys)
same_join xs ys h = sym (all_itself (flat_shapes xs)) ∙ ap (λ (s : List FlatShape). join_all (flat_shapes xs) (flat_shapes s)) h

pub empty_join : (xs ys : List FlatShape) → length xs ≡ 0 → length xs ≡ length ys → Some (flat_shapes xs) ≡ join_all (flat_shapes xs) (flat_shapes ys)
empty_join [] [] h k = refl
empty_join [] (y ∷ ys) h k = absurd (omega arith)
empty_join (x ∷ xs) ys h k = absurd (omega arith)

-- two lower parts clash
pub clash_here : (one other low under : List FlatShape) (height : ℕ) → IsPartOf low one → IsPartOf under other → length low ≡ length under → height ≡ length low → None ≡ join_all (flat_shapes low) (flat_shapes under) → None ≡ join_all (flat_shapes (take height one)) (flat_shapes (take height other))
clash_here one other low under height p q l h k =
    let a : take height one ≡ low = (λ i. take (h i) (p.1 i)) ∙ take-append_seam low p.0 in
    let b : take height other ≡ under = (λ i. take ((h ∙ l) i) (q.1 i)) ∙ take-append_seam under q.0 in
    k ∙ sym (λ i. join_all (flat_shapes (a i)) (flat_shapes (b i)))

-- ---- the way up

pub up_more : (st new : List StackShape) (rest old : List Passed) (p : Passed) → old ≡ rest ++ p ∷ [] → new ≡ st ++ flat_shape p.join ∷ [] → new ++ tops_of rest ≡ st ++ tops_of old
up_more st new rest old p h k =
    ap (λ (s : List StackShape). s ++ tops_of rest) k
    ∙ append_assoc st (flat_shape p.join ∷ []) (tops_of rest)
    ∙ ap (λ (s : List StackShape). st ++ s) (sym (tops_push rest p) ∙ ap tops_of (sym h))
