-- The way back from numbered variables, variable by variable, and the parts of the types that are numbered.
use Rattle.std.proofs.Common.{◌≡◌, inl, inr, ℕ, zero, suc, ◌+◌, ◌-◌, ◌<◌, ◌≤◌, List, [], ◌∷◌, ◌++◌, map, take, drop, set, length, get_or, refl, sym, ap, ◌∙◌, subst, arith, length-append, length-drop}
use Rattle.std.specs.Prelude.{All, IsTrue}
use Rattle.std.proofs.lemmas.Bool.{cases_eq}
use Rattle.std.proofs.lemmas.List.{get_or-map, get_or-set_same, get_or-set_other, length-map, drop_all, take_all}
use Rattle.std.proofs.lemmas.List.Elements.{All-nil, All-cons, All-head, All-tail, All-take, All-get_or, All-more}
use Rattle.um_units.specs.declared.Atom.TheVariants.{Var}
use Rattle.um_units.specs.PowerMap.{PowerMap, one, atom, nth}
use Rattle.um_tree.specs.declared.types.Ty.{Ty}
use Rattle.um_tree.specs.TypeTree.{TypeTree, bool_type, num_type, type_tree}
use Rattle.um_elim.specs.Numbering.{place, by_place}
use Rattle.um_elim.proofs.FirstOccurrences.{same_place, place-low}
use Rattle.um_proof.specs.Renaming.{is_listed, AreNumbered, ArePlaces, GoBack}

module _ (order : List ℕ) (back out : List PowerMap) (v : ℕ) (h : IsTrue (is_listed order v)) (low : place order v < length out) where
  abbrev new : List PowerMap
  new = set out (place order v) (nth back v)

  here : nth new (place order v) ≡ nth back v
  here = get_or-set_same out (place order v) (nth back v) (atom (Var (place order v))) low

  still : (k : ℕ) → IsTrue (is_listed order k) → nth out (place order k) ≡ nth back k → nth new (place order k) ≡ nth back k
  still k g e = elim (cases_eq (place order k) (place order v)) [
    | inl same ↦ let j : k ≡ v = same_place order k v g h same in ap (λ i. nth new (place order i)) j ∙ here ∙ ap (nth back) (sym j)
    | inr other ↦ get_or-set_other out (place order v) (place order k) (nth back v) (atom (Var (place order k))) other ∙ e
  ]

  all_still : (ks : List ℕ) → All (λ k. IsTrue (is_listed order k)) ks → GoBack order ks back out → GoBack order ks back new
  all_still [] listed go = All-nil (λ k. nth new (place order k) ≡ nth back k)
  all_still (k ∷ ks) listed go =
      All-cons (λ k. nth new (place order k) ≡ nth back k) k ks
      (still k (All-head (λ k. IsTrue (is_listed order k)) k ks listed) (All-head (λ k. nth out (place order k) ≡ nth back k) k ks go))
      (all_still ks (All-tail (λ k. IsTrue (is_listed order k)) k ks listed) (All-tail (λ k. nth out (place order k) ≡ nth back k) k ks go))

-- one more variable
pub goes_back_more : (order held : List ℕ) (back out new : List PowerMap) (i d number : ℕ) → i < length held → All (λ k. IsTrue (is_listed order k)) held → number ≡ place order (get_or held i d) → number < length out →
    new ≡ set out number (nth back (get_or held i d)) → GoBack order (take i held) back out → GoBack order (take (i + 1) held) back new
goes_back_more order held back out new i d number l listed is low e go =
    let v = get_or held i d in
    let h = All-get_or (λ k. IsTrue (is_listed order k)) held i d l listed in
    let inside : place order v < length out = subst (λ n. n < length out) is low in
    let made : new ≡ set out (place order v) (nth back v) = e ∙ ap (λ n. set out n (nth back v)) is in
    subst (GoBack order (take (i + 1) held) back) (sym made)
    (All-more (λ k. nth (set out (place order v) (nth back v)) (place order k) ≡ nth back k) held i d l
    (all_still order back out v h inside (take i held) (All-take (λ k. IsTrue (is_listed order k)) i held listed) go) (here order back out v h inside))

-- the type at one of the places
pub place_at : (order held : List ℕ) (places : List TypeTree) (i d : ℕ) (t : TypeTree) → ArePlaces order held places → i < length held → t ≡ get_or places i bool_type → t ≡ num_type (atom (Var (place order (get_or held i d))))
place_at order held places i d t h l e = e ∙ ap (λ ts. get_or ts i bool_type) h.are ∙ get_or-map (λ k. num_type (by_place order k)) held i d bool_type l

-- a place is below the length of the order
pub place_below : (order held : List ℕ) (i d n : ℕ) → length order ≡ n → All (λ k. IsTrue (is_listed order k)) held → i < length held → place order (get_or held i d) < n
place_below order held i d n e listed l = subst (λ m. place order (get_or held i d) < m) e (place-low order (get_or held i d) (All-get_or (λ k. IsTrue (is_listed order k)) held i d l listed))

-- ---- parts of a list
drop_front : {X : Type 0} (a b : List X) (n : ℕ) → length a ≡ n → drop n (a ++ b) ≡ b
drop_front [] b zero e = refl
drop_front [] b (suc n) e = absurd (cc e)
drop_front (x ∷ a) b zero e = absurd (cc e)
drop_front (x ∷ a) b (suc n) e = drop_front a b n (let f : length a ≡ n = omega (arith, e) in f)

take_front : {X : Type 0} (a b : List X) (n : ℕ) → length a ≡ n → take n (a ++ b) ≡ a
take_front [] b zero e = refl
take_front [] b (suc n) e = absurd (cc e)
take_front (x ∷ a) b zero e = absurd (cc e)
take_front (x ∷ a) b (suc n) e = ap (λ ys. x ∷ ys) (take_front a b n (let f : length a ≡ n = omega (arith, e) in f))

pub map_drop : {X Y : Type 0} (f : X → Y) (n : ℕ) (xs : List X) → map f (drop n xs) ≡ drop n (map f xs)
map_drop f zero xs = refl
map_drop f (suc n) [] = refl
map_drop f (suc n) (x ∷ xs) = map_drop f n xs

map_take : {X Y : Type 0} (f : X → Y) (n : ℕ) (xs : List X) → map f (take n xs) ≡ take n (map f xs)
map_take f zero xs = refl
map_take f (suc n) [] = refl
map_take f (suc n) (x ∷ xs) = ap (λ ys. f x ∷ ys) (map_take f n xs)

drop_twice : {X : Type 0} (n m : ℕ) (xs : List X) → drop (n + m) xs ≡ drop m (drop n xs)
drop_twice zero m xs = let e : 0 + m ≡ m = omega arith in ap (λ k. drop k xs) e
drop_twice (suc n) m [] = drop_all (suc n + m) [] (omega arith) ∙ sym (drop_all m [] (omega arith))
drop_twice (suc n) m (x ∷ xs) = let e : suc n + m ≡ suc (n + m) = omega arith in ap (λ k. drop k (x ∷ xs)) e ∙ drop_twice n m xs

module _ {X Y : Type 0} (f : X → Y) (xs : List X) (a b c : List Y) (n m : ℕ) (are : map f xs ≡ a ++ (b ++ c)) (first : length a ≡ n) (second : length b ≡ m) where
  behind : drop n (map f xs) ≡ b ++ c
  behind = ap (drop n) are ∙ drop_front a (b ++ c) n first

  pub last_part : map f (drop (n + m) xs) ≡ c
  last_part = map_drop f (n + m) xs ∙ drop_twice n m (map f xs) ∙ ap (drop m) behind ∙ drop_front b c m second

  pub middle_part : map f (take m (drop n xs)) ≡ b
  middle_part = map_take f m (drop n xs) ∙ ap (take m) (map_drop f n xs ∙ behind) ∙ take_front b c m second

  pub long_enough : n + m ≤ length xs
  long_enough =
      let l = length-map xs f in let k = ap length are in let p = length-append a (b ++ c) in let q = length-append b c in
      omega (arith, l, k, p, q, first, second)

-- ---- types that are all numbers
pub number_at : (types : List Ty) (units : List PowerMap) (i : ℕ) (ty : Ty) → map type_tree types ≡ map num_type units → i < length types → ty ≡ get_or types i ty → type_tree ty ≡ num_type (get_or units i one)
number_at types units i ty e h is =
    let l = ap length e in let m = length-map types type_tree in let k = length-map units num_type in
    ap type_tree is ∙ sym (get_or-map type_tree types i ty bool_type h) ∙ ap (λ ts. get_or ts i bool_type) e ∙ get_or-map num_type units i one bool_type (omega (arith, h, l, m, k))

pub numbers_long : (types : List Ty) (units : List PowerMap) → map type_tree types ≡ map num_type units → length units ≡ length types
numbers_long types units e = let l = ap length e in let m = length-map types type_tree in let k = length-map units num_type in omega (arith, l, m, k)

-- the type at a place
pub place_of : (order held : List ℕ) (places : List Ty) (i : ℕ) (ty : Ty) → ArePlaces order held (map type_tree places) → i < length held → ty ≡ get_or places i ty → type_tree ty ≡ num_type (atom (Var (place order (get_or held i 0))))
place_of order held places i ty h l is =
    let many = length-map places type_tree in
    let same = ap length h.are ∙ length-map held (λ k. num_type (by_place order k)) in
    place_at order held (map type_tree places) i 0 (type_tree ty) h l (ap type_tree is ∙ sym (get_or-map type_tree places i ty bool_type (omega (arith, l, many, same))))

-- ---- the parts of numbered types
module _ (first : ℕ) (order held : List ℕ) (units : List PowerMap) (items types : List Ty) (h : AreNumbered first order held units (map type_tree items)) (same : types ≡ items) where
  are : map type_tree types ≡ h.front ++ (map (λ k. num_type (by_place order k)) held ++ map num_type units)
  are = ap (map type_tree) same ∙ h.are

  pub numbered_long : first + length held ≤ length types
  numbered_long = long_enough type_tree types h.front (map (λ k. num_type (by_place order k)) held) (map num_type units) first (length held) are h.few (length-map held (λ k. num_type (by_place order k)))

  pub numbered_units : map type_tree (take (length types - (first + length held)) (drop (first + length held) types)) ≡ map num_type units
  numbered_units =
      let l = length-drop (first + length held) types in
      ap (map type_tree) (take_all (length types - (first + length held)) (drop (first + length held) types) (omega (arith, l)))
      ∙ last_part type_tree types h.front (map (λ k. num_type (by_place order k)) held) (map num_type units) first (length held) are h.few (length-map held (λ k. num_type (by_place order k)))

  pub numbered_places : (part : List Ty) → part ≡ take (length held) (drop first types) → ArePlaces order held (map type_tree part)
  numbered_places part e = record {
    are = ap (map type_tree) e ∙ middle_part type_tree types h.front (map (λ k. num_type (by_place order k)) held) (map num_type units) first (length held) are h.few (length-map held (λ k. num_type (by_place order k)));
    listed = h.listed;
  }
