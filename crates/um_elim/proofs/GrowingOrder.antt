-- A loop that renames a list while its order grows.
use Rattle.std.proofs.Common.{◌≡◌, ℕ, zero, suc, ◌+◌, ◌<◌, ◌≤◌, ◌||◌, Bool, true, false, eqb, List, [], ◌∷◌, ◌++◌, length, get_or, take, map, refl, sym, ap, ◌∙◌, subst, arith}
use Rattle.std.specs.Prelude.{IsTrue, All}
use Rattle.std.specs.List.{flat_map, IsDistinct}
use Rattle.std.proofs.lemmas.Bool.{eqb-true, eq-eqb, cond_both, and_parts, ltb-true}
use Rattle.std.proofs.lemmas.List.Elements.{All-nil, All-cons, All-head, All-tail, All-append}
use Rattle.std.proofs.lemmas.Map.Steps.{length-le_from_distinct_below}
use Rattle.std.proofs.lemmas.List.{take_more, map-append}
use Rattle.std.proofs.lemmas.Grind.{flat_map-append}
use Rattle.std.proofs.lemmas.List.{append-nil}
use Rattle.um_units.specs.declared.Atom.{Atom}
use Rattle.um_units.specs.declared.Atom.TheVariants.{Base, Var}
use Rattle.um_units.specs.declared.Term.{Term}
use Rattle.um_units.specs.PowerMap.{PowerMap, atom, replace}
use Rattle.um_units.specs.Variables.{atom_below, variables_below}
use Rattle.um_tree.specs.TypeTree.{TypeTree}
use Rattle.um_tree.specs.Typing.{put}
use Rattle.um_tree.specs.Scheme.{atom_variables, unit_variables, type_variables}
use Rattle.um_elim.specs.Numbering.{by_place}
use Rattle.um_elim.specs.Order.{placed_atom, placed_term, with_variable, with_variables}
use Rattle.um_elim.proofs.FirstOccurrences.{member, member-front, member-back, member-with, with_more, place-with}
use Rattle.um_elim.proofs.RenamedUnits.{term_variables, unit_alike, put_alike}

-- the order holds what was added
or_second : (a b : Bool) → IsTrue b → (a || b) ≡ true
or_second true b g = refl
or_second false b g = g

pub inside_with : (ks xs : List ℕ) (k : ℕ) → IsTrue (member k xs) → IsTrue (member k (with_variables ks xs))
inside_with ks xs k h = member-with k ks xs ∙ or_second (member k ks) (member k xs) h

-- f renames what has these variables, and leaves what it made when the order grows behind them
module _ {X Y : Type 0} (vars : X → List ℕ) (f : List ℕ → X → Y)
    (stays : (ks more : List ℕ) (x : X) → ((k : ℕ) → IsTrue (member k (vars x)) → IsTrue (member k ks)) → f (with_variables ks more) x ≡ f ks x) where
  all_stay : (ks more : List ℕ) (xs : List X) → ((k : ℕ) → IsTrue (member k (flat_map vars xs)) → IsTrue (member k ks)) → map (f (with_variables ks more)) xs ≡ map (f ks) xs
  all_stay ks more [] inside = refl
  all_stay ks more (x ∷ xs) inside =
      let head = stays ks more x (λ k h. inside k (member-front k (vars x) (flat_map vars xs) h)) in
      let tail = all_stay ks more xs (λ k h. inside k (member-back k (vars x) (flat_map vars xs) h)) in λ i. head i ∷ tail i

  flat_map-one : (x : X) → flat_map vars (x ∷ []) ≡ vars x
  flat_map-one x = append-nil (vars x)

  module _ (ks : List ℕ) (xs : List X) (i : ℕ) (d : X) (h : i < length xs) where
    pub order_grows : (order new : List ℕ) → order ≡ with_variables ks (flat_map vars (take i xs)) → new ≡ with_variables order (vars (get_or xs i d)) → new ≡ with_variables ks (flat_map vars (take (i + 1) xs))
    order_grows order new was is =
        is ∙ ap (λ o. with_variables o (vars (get_or xs i d))) was ∙ sym (with_more ks (flat_map vars (take i xs)) (vars (get_or xs i d)))
        ∙ ap (with_variables ks) (ap (λ l. flat_map vars (take i xs) ++ l) (sym (flat_map-one (get_or xs i d))) ∙ sym (flat_map-append vars (take i xs) (get_or xs i d ∷ [])) ∙ ap (flat_map vars) (sym (take_more xs i d h)))

    pub items_grow :
        (order new : List ℕ) (items more : List Y) (y : Y) → order ≡ with_variables ks (flat_map vars (take i xs)) → new ≡ with_variables order (vars (get_or xs i d)) → items ≡ map (f order) (take i xs) →
        more ≡ items ++ y ∷ [] → y ≡ f new (get_or xs i d) → more ≡ map (f new) (take (i + 1) xs)
    items_grow order new items more y was is had pushed made =
        let inside : (k : ℕ) → IsTrue (member k (flat_map vars (take i xs))) → IsTrue (member k order) = λ k g. ap (member k) was ∙ inside_with ks (flat_map vars (take i xs)) k g in
        let same : map (f new) (take i xs) ≡ map (f order) (take i xs) = ap (λ o. map (f o) (take i xs)) is ∙ all_stay order (vars (get_or xs i d)) (take i xs) inside in
        pushed ∙ ap (λ l. l ++ y ∷ []) (had ∙ sym same) ∙ ap (λ z. map (f new) (take i xs) ++ z ∷ []) made ∙ sym (map-append (f new) (take i xs) (get_or xs i d ∷ [])) ∙ ap (map (f new)) (sym (take_more xs i d h))

-- ---- what stays
pub atom_stays : (ks more : List ℕ) (x : Atom) → ((k : ℕ) → IsTrue (member k (atom_variables x)) → IsTrue (member k ks)) → placed_atom (with_variables ks more) x ≡ placed_atom ks x
atom_stays ks more (Base n) inside = refl
atom_stays ks more (Var k) inside = ap Var (place-with ks more k (inside k (own (eqb k k) (eq-eqb k k refl))))
  where
    own : (b : Bool) → IsTrue b → IsTrue (b || false)
    own true h = refl
    own false h = h

pub term_stays : (ks more : List ℕ) (t : Term) → ((k : ℕ) → IsTrue (member k (atom_variables t.atom)) → IsTrue (member k ks)) → placed_term (with_variables ks more) t ≡ placed_term ks t
term_stays ks more t inside = ap (λ x. record { atom = x; power = t.power }) (atom_stays ks more t.atom inside)

pub unit_stays : (ks more : List ℕ) (u : PowerMap) → ((k : ℕ) → IsTrue (member k (unit_variables u)) → IsTrue (member k ks)) → replace (by_place (with_variables ks more)) u ≡ replace (by_place ks) u
unit_stays ks more u inside = unit_alike (by_place (with_variables ks more)) (by_place ks) u (λ k h. ap (λ n. atom (Var n)) (place-with ks more k (inside k h)))

pub type_stays : (ks more : List ℕ) (t : TypeTree) → ((k : ℕ) → IsTrue (member k (type_variables t)) → IsTrue (member k ks)) → put (by_place (with_variables ks more)) t ≡ put (by_place ks) t
type_stays ks more t inside = put_alike (by_place (with_variables ks more)) (by_place ks) t (λ k h. ap (λ n. atom (Var n)) (place-with ks more k (inside k h)))

-- ---- variables below a number
pub All-front : (P : ℕ → Type 0) (xs ys : List ℕ) → All P (xs ++ ys) → All P xs
All-front P [] ys all = All-nil P
All-front P (x ∷ xs) ys all = All-cons P x xs (All-head P x (xs ++ ys) all) (All-front P xs ys (All-tail P x (xs ++ ys) all))

pub All-back : (P : ℕ → Type 0) (xs ys : List ℕ) → All P (xs ++ ys) → All P ys
All-back P [] ys all = all
All-back P (x ∷ xs) ys all = All-back P xs ys (All-tail P x (xs ++ ys) all)

pub All-at : {X : Type 0} (P : ℕ → Type 0) (vars : X → List ℕ) (xs : List X) (i : ℕ) (d : X) → i < length xs → All P (flat_map vars xs) → All P (vars (get_or xs i d))
All-at P vars [] i d h all = absurd (omega (arith, h))
All-at P vars (x ∷ xs) zero d h all = All-front P (vars x) (flat_map vars xs) all
All-at P vars (x ∷ xs) (suc i) d h all = All-at P vars xs i d (omega (arith, h)) (All-back P (vars x) (flat_map vars xs) all)

pub All-one : (P : ℕ → Type 0) (k : ℕ) → P k → All P (k ∷ [])
All-one P k h = All-cons P k [] h (All-nil P)

pub All-with_variable : (P : ℕ → Type 0) (ks : List ℕ) (k : ℕ) → All P ks → P k → All P (with_variable ks k)
All-with_variable P ks k all h = cond_both (member k ks) ks (ks ++ k ∷ []) (All P) (λ e. all) (λ e. All-append P ks (k ∷ []) all (All-one P k h))

pub All-member : (P : ℕ → Type 0) (ks : List ℕ) (k : ℕ) → All P ks → IsTrue (member k ks) → P k
All-member P [] k all h = cc
All-member P (j ∷ ks) k all h =
    elim (eqb k j) as (λ b. eqb k j ≡ b → IsTrue (b || member k ks) → P k) [
      | true ↦ λ e g. subst P (sym (eqb-true k j e)) (All-head P j ks all)
      | false ↦ λ e g. All-member P ks k (All-tail P j ks all) g
    ] refl h

-- no more numbers than there are below n, where each stands once
pub at_most : (ks : List ℕ) (n : ℕ) → IsDistinct eqb ks → All (λ k. k < n) ks → length ks ≤ n
at_most ks n distinct all = length-le_from_distinct_below ks n distinct (λ q h. All-member (λ k. k < n) ks q all h)

pub All-from_below : (n : ℕ) (ts : List Term) → IsTrue (variables_below n ts) → All (λ k. k < n) (term_variables ts)
All-from_below n [] h = All-nil (λ k. k < n)
All-from_below n (t ∷ ts) h = let parts = and_parts (atom_below n t.atom) (variables_below n ts) h in All-append (λ k. k < n) (atom_variables t.atom) (term_variables ts) (at t.atom parts.0) (All-from_below n ts parts.1)
  where
    at : (x : Atom) → IsTrue (atom_below n x) → All (λ k. k < n) (atom_variables x)
    at (Base b) h = All-nil (λ k. k < n)
    at (Var k) h = All-one (λ k. k < n) k (ltb-true k n h)
