-- Joins of lower parts, and joins that are kept.
use Rattle.std.proofs.Common.{◌≡◌, refl, sym, ap, ◌∙◌, subst, ℕ, zero, suc, ◌+◌, ◌<◌, ◌≤◌, ◌⊎◌, inl, inr, List, [], ◌∷◌, ◌++◌, length, take, get_or, Option, Some, None, slice_get, arith, length-append}
use Rattle.um_verify.specs.StackShape.{StackShape, join, join_cons, join_all}
use Rattle.um_stacks.specs.FlatShapes.{flat_shape, flat_shapes}
use Rattle.std.proofs.lemmas.Option.{slice_get_read}
use Rattle.um_stacks.specs.Stacks.{stacks_of, AreNodes, IsJoinOf, IsKept, AreKept}
use Rattle.um_stacks.specs.declared.flat.FlatShape.{FlatShape}
use Rattle.um_stacks.specs.declared.stacks.KeptJoin.{KeptJoin}
use Rattle.um_stacks.specs.declared.stacks.Node.{Node}
use Rattle.um_stacks.proofs.Nodes.{count_is, stays}

-- ---- lower parts

cons_parts : (o : Option StackShape) (p : Option (List StackShape)) (zs : List StackShape) → join_cons o p ≡ Some zs → (u : StackShape) × (us : List StackShape) × (o ≡ Some u) × (p ≡ Some us) × (zs ≡ u ∷ us)
cons_parts None p zs h = absurd cc
cons_parts (Some u) None zs h = absurd cc
cons_parts (Some u) (Some us) zs h = (u, us, refl, refl, cc)

join_take : (k : ℕ) (xs ys zs : List StackShape) → join_all xs ys ≡ Some zs → join_all (take k xs) (take k ys) ≡ Some (take k zs)
join_take zero xs ys zs h = refl
join_take (suc k) [] [] zs h = let e : zs ≡ [] = cc in ap (λ (s : List StackShape). Some (take (suc k) s)) (sym e)
join_take (suc k) [] (y ∷ ys) zs h = absurd cc
join_take (suc k) (x ∷ xs) [] zs h = absurd cc
join_take (suc k) (x ∷ xs) (y ∷ ys) zs h =
    let p = cons_parts (join x y) (join_all xs ys) zs h in
    (λ i. join_cons (p.2 i) (join_take k xs ys p.1 p.3 i)) ∙ ap (λ (s : List StackShape). Some (take (suc k) s)) (sym p.4)

shapes_take : (k : ℕ) (xs : List FlatShape) → flat_shapes (take k xs) ≡ take k (flat_shapes xs)
shapes_take zero xs = refl
shapes_take (suc k) [] = refl
shapes_take (suc k) (x ∷ xs) = ap (λ (s : List StackShape). flat_shape x ∷ s) (shapes_take k xs)

pub parts_join : (k : ℕ) (xs ys zs low under part : List FlatShape) → Some (flat_shapes zs) ≡ join_all (flat_shapes xs) (flat_shapes ys) → low ≡ take k xs → under ≡ take k ys → part ≡ take k zs → Some (flat_shapes part) ≡ join_all (flat_shapes low) (flat_shapes under)
parts_join k xs ys zs low under part h a b d =
    ap (λ (s : List FlatShape). Some (flat_shapes s)) d
    ∙ ap Some (shapes_take k zs)
    ∙ sym (join_take k (flat_shapes xs) (flat_shapes ys) (flat_shapes zs) (sym h))
    ∙ sym (λ i. join_all (shapes_take k xs i) (shapes_take k ys i))
    ∙ sym (λ i. join_all (flat_shapes (a i)) (flat_shapes (b i)))

take_twice : (c k : ℕ) (xs : List StackShape) → c ≤ k → take c (take k xs) ≡ take c xs
take_twice zero k xs h = refl
take_twice (suc c) zero xs h = absurd (omega arith)
take_twice (suc c) (suc k) [] h = refl
take_twice (suc c) (suc k) (x ∷ xs) h = ap (λ (s : List StackShape). x ∷ s) (take_twice c k xs (omega arith))

none_some : (zs : List StackShape) → None ≡ Some zs → ⊥
none_some zs h = cc

higher_clash : (c k : ℕ) (xs ys : List StackShape) (o : Option (List StackShape)) → c ≤ k → None ≡ join_all (take c xs) (take c ys) → join_all (take k xs) (take k ys) ≡ o → None ≡ o
higher_clash c k xs ys None l h e = refl
higher_clash c k xs ys (Some zs) l h e =
    let some : join_all (take c (take k xs)) (take c (take k ys)) ≡ Some (take c zs) = join_take c (take k xs) (take k ys) zs e in
    absurd (none_some (take c zs) (h ∙ sym (λ i. join_all (take_twice c k xs l i) (take_twice c k ys l i)) ∙ some))

pub parts_clash : (c k : ℕ) (xs ys low under : List FlatShape) → None ≡ join_all (flat_shapes (take c xs)) (flat_shapes (take c ys)) → c ≤ k → low ≡ take k xs → under ≡ take k ys → None ≡ join_all (flat_shapes low) (flat_shapes under)
parts_clash c k xs ys low under h l a b =
    higher_clash c k (flat_shapes xs) (flat_shapes ys) (join_all (take k (flat_shapes xs)) (take k (flat_shapes ys))) l (h ∙ (λ i. join_all (shapes_take c xs i) (shapes_take c ys i))) refl
    ∙ sym (λ i. join_all (shapes_take k xs i) (shapes_take k ys i))
    ∙ sym (λ i. join_all (flat_shapes (a i)) (flat_shapes (b i)))

-- a clash of lower parts is one of the whole stacks
pub whole_clash : (c : ℕ) (xs ys : List FlatShape) → None ≡ join_all (flat_shapes (take c xs)) (flat_shapes (take c ys)) → None ≡ join_all (flat_shapes xs) (flat_shapes ys)
whole_clash c xs ys h = by (join_all (flat_shapes xs) (flat_shapes ys)) refl where
  by : (o : Option (List StackShape)) → join_all (flat_shapes xs) (flat_shapes ys) ≡ o → None ≡ o
  by None e = refl
  by (Some zs) e =
      let some : join_all (take c (flat_shapes xs)) (take c (flat_shapes ys)) ≡ Some (take c zs) = join_take c (flat_shapes xs) (flat_shapes ys) zs e in
      absurd (none_some (take c zs) (h ∙ (λ i. join_all (shapes_take c xs i) (shapes_take c ys i)) ∙ some))

-- ---- joins that are kept

join_stays : (stacks more : List (List FlatShape)) (one other : ℕ) (join : Option ℕ) → one < length stacks → other < length stacks → IsJoinOf stacks one other join → IsJoinOf (stacks ++ more) one other join
join_stays stacks more one other None a b h = h ∙ sym (λ i. join_all (flat_shapes (stays stacks more one a i)) (flat_shapes (stays stacks more other b i)))
join_stays stacks more one other (Some k) a b h =
    let l : length (stacks ++ more) ≡ length stacks + length more = length-append stacks more in
    let n = h.0 in (
      omega arith,
      ap (λ (s : List FlatShape). Some (flat_shapes s)) (stays stacks more k n) ∙ h.1 ∙ sym (λ i. join_all (flat_shapes (stays stacks more one a i)) (flat_shapes (stays stacks more other b i))),
    )

pub kept_stays : (stacks more : List (List FlatShape)) (joins : List KeptJoin) → AreKept stacks joins → AreKept (stacks ++ more) joins
kept_stays stacks more joins h k kept there =
    let is = h k kept there in
    let l : length (stacks ++ more) ≡ length stacks + length more = length-append stacks more in
    let a = is.one in
    let b = is.other in
    record { one = omega arith; other = omega arith; join = join_stays stacks more kept.one kept.other kept.join a b is.join }

pushed_at : (joins : List KeptJoin) (new : KeptJoin) (k : ℕ) (x : KeptJoin) → slice_get (joins ++ new ∷ []) k ≡ Some x → (slice_get joins k ≡ Some x) ⊎ (new ≡ x)
pushed_at [] new zero x h = inr cc
pushed_at [] new (suc k) x h = absurd cc
pushed_at (y ∷ joins) new zero x h = inl h
pushed_at (y ∷ joins) new (suc k) x h = pushed_at joins new k x h

pub kept_push : (stacks : List (List FlatShape)) (joins all : List KeptJoin) (new : KeptJoin) → AreKept stacks joins → IsKept stacks new → all ≡ joins ++ new ∷ [] → AreKept stacks all
kept_push stacks joins all new h is e = subst (AreKept stacks) (sym e) (λ k x there. by k x (pushed_at joins new k x there)) where
  by : (k : ℕ) (x : KeptJoin) → (slice_get joins k ≡ Some x) ⊎ (new ≡ x) → IsKept stacks x
  by k x (inl a) = h k x a
  by k x (inr b) = subst (IsKept stacks) b is

nothing_at : {A : Type 0} (k : ℕ) (x : A) → slice_get [] k ≡ Some x → ⊥
nothing_at zero x h = cc
nothing_at (suc k) x h = cc

pub nodes_none : (nodes : List Node) → nodes ≡ [] → AreNodes nodes
nodes_none nodes e = subst AreNodes (sym e) (record { few = omega arith; each = λ k node there. absurd (nothing_at k node there) })

pub kept_none : (stacks : List (List FlatShape)) (joins : List KeptJoin) → joins ≡ [] → AreKept stacks joins
kept_none stacks joins e = subst (AreKept stacks) (sym e) (λ k kept there. absurd (nothing_at k kept there))

-- one more join, of two stacks of these nodes
pub keeps : (stacks : List (List FlatShape)) (nodes : List Node) (joins all : List KeptJoin) (new : KeptJoin) → stacks_of nodes ≡ stacks → AreKept (stacks_of nodes) joins → new.one ≤ length nodes → new.other ≤ length nodes → IsJoinOf stacks new.one new.other new.join → all ≡ joins ++ new ∷ [] → AreKept (stacks_of nodes) all
keeps stacks nodes joins all new v h a b is e =
    let l = count_is (stacks_of nodes) nodes refl in
    kept_push (stacks_of nodes) joins all new h (record { one = omega (arith, l, a); other = omega (arith, l, b); join = subst (λ (s : List (List FlatShape)). IsJoinOf s new.one new.other new.join) (sym v) is }) e

pub kept_at : (stacks : List (List FlatShape)) (nodes : List Node) (joins : List KeptJoin) (place one other : ℕ) (kept : KeptJoin) → stacks_of nodes ≡ stacks → AreKept (stacks_of nodes) joins → place < length joins → kept ≡ get_or joins place kept → kept.one ≡ one → kept.other ≡ other → IsJoinOf stacks one other kept.join
kept_at stacks nodes joins place one other kept v h l r a b =
    let is = h place kept (slice_get_read joins (length joins) place kept refl l r) in
    subst (λ (s : List (List FlatShape)). IsJoinOf s one other kept.join) v
    (subst (λ (k : ℕ). IsJoinOf (stacks_of nodes) one k kept.join) b (subst (λ (k : ℕ). IsJoinOf (stacks_of nodes) k kept.other kept.join) a is.join))
