-- The variables that units hold, and their places in an order of numbering.
use Rattle.std.proofs.Common.{◌≡◌, ◌≢◌, ℕ, zero, suc, ◌+◌, ◌<◌, ◌||◌, true, false, cond, List, [], ◌∷◌, ◌++◌, map, filter, take, set, length, get_or, refl, sym, ap, ◌∙◌, subst, arith}
use Rattle.std.specs.Prelude.{All, Bool, IsTrue, nat_eq, replicate, slice_index_or}
use Rattle.std.specs.List.{flat_map, list_all, range_with_len}
use Rattle.std.proofs.lemmas.Bool.{and_from}
use Rattle.std.proofs.lemmas.Bool.Decides.{nat_tests}
use Rattle.std.proofs.lemmas.Grind.{flat_map-append}
use Rattle.std.proofs.lemmas.List.{append-nil, take_more, get_or-set_same, get_or-set_other}
use Rattle.std.proofs.lemmas.List.Elements.{All-nil, All-cons, filter_agree}
use Rattle.std.proofs.lemmas.List.Folds.{list_any-append, list_all_at}
use Rattle.std.proofs.lemmas.List.FromFn.{length-range_with_len, get_or-range_with_len, filter_of_map_range_with_len_more}
use Rattle.um_units.specs.PowerMap.{PowerMap, replace}
use Rattle.um_units.specs.Variables.{VariablesBelow}
use Rattle.um_units.proofs.Variables.{VariablesBelow-replace}
use Rattle.um_tree.specs.TypeTree.{TypeTree, num_type}
use Rattle.um_tree.specs.Scheme.{unit_variables, type_variables, variables}
use Rattle.um_elim.specs.Numbering.{variable_order, place, by_place}
use Rattle.um_elim.proofs.Cases.{on_test}
use Rattle.um_elim.proofs.FirstOccurrences.{member, member-front, member-back, member-first, member-filter, member-at, place-low}
use Rattle.um_elim.proofs.RenamedUnits.{held-member}
use Rattle.um_elim.proofs.VariablesKept.{own_below}
use Rattle.um_proof.specs.Renaming.{held_below, is_listed}

-- ---- what stands in one of the units
pub member_of_unit : (us : List PowerMap) (j k : ℕ) (d : PowerMap) → j < length us → IsTrue (member k (unit_variables (get_or us j d))) → IsTrue (member k (flat_map unit_variables us))
member_of_unit [] j k d h m = absurd (omega (arith, h))
member_of_unit (u ∷ us) zero k d h m = member-front k (unit_variables u) (flat_map unit_variables us) m
member_of_unit (u ∷ us) (suc j) k d h m = member-back k (unit_variables u) (flat_map unit_variables us) (member_of_unit us j k d (omega (arith, h)) m)

pub numbers_hold : (us : List PowerMap) → variables (map num_type us) ≡ flat_map unit_variables us
numbers_hold [] = refl
numbers_hold (u ∷ us) = ap (λ ks. unit_variables u ++ ks) (numbers_hold us)

member_of_range : (n k : ℕ) → k < n → IsTrue (member k (range_with_len 0 n))
member_of_range n k h =
    let inside : k < length (range_with_len 0 n) = subst (λ m. k < m) (sym (length-range_with_len 0 n)) h in
    let same : get_or (range_with_len 0 n) k 0 ≡ k = get_or-range_with_len 0 n k 0 h ∙ omega arith in
    subst (λ i. IsTrue (member i (range_with_len 0 n))) same (member-at (range_with_len 0 n) k inside)

pub member_of_held : (n k : ℕ) (us : List PowerMap) → k < n → IsTrue (member k (flat_map unit_variables us)) → IsTrue (member k (held_below n us))
member_of_held n k us h m =
    member-filter (is_listed (flat_map unit_variables us)) k (range_with_len 0 n)
    ∙ and_from (is_listed (flat_map unit_variables us) k) (member k (range_with_len 0 n)) m (member_of_range n k h)

-- ---- in the order of types, of which the last are these units
pub in_order : (front middle : List TypeTree) (us : List PowerMap) (k : ℕ) → IsTrue (member k (flat_map unit_variables us)) → IsTrue (member k (variable_order (front ++ (middle ++ map num_type us))))
in_order front middle us k m =
    member-first k (variables (front ++ (middle ++ map num_type us)))
    ∙ ap (member k) (flat_map-append type_variables front (middle ++ map num_type us))
    ∙ member-back k (variables front) (variables (middle ++ map num_type us))
    (ap (member k) (flat_map-append type_variables middle (map num_type us)) ∙ member-back k (variables middle) (variables (map num_type us)) (ap (member k) (numbers_hold us) ∙ m))

-- ---- renamed by their places
pub renamed_below : (o : List ℕ) (us : List PowerMap) → ((k : ℕ) → IsTrue (member k (flat_map unit_variables us)) → IsTrue (member k o)) → All (VariablesBelow (length o)) (map (replace (by_place o)) us)
renamed_below o [] inside = All-nil (VariablesBelow (length o))
renamed_below o (u ∷ us) inside =
    All-cons (VariablesBelow (length o)) (replace (by_place o) u) (map (replace (by_place o)) us)
    (VariablesBelow-replace (length o) (by_place o) u (λ j held. own_below (length o) (place o j) (place-low o j (inside j (member-front j (unit_variables u) (flat_map unit_variables us) (held-member u j held))))))
    (renamed_below o us (λ k m. inside k (member-back k (unit_variables u) (flat_map unit_variables us) m)))

-- ---- marks of the numbers that are listed
pub none_marked : (n k : ℕ) → slice_index_or (replicate n false) k false ≡ false
none_marked zero k = refl
none_marked (suc n) zero = refl
none_marked (suc n) (suc k) = none_marked n k

pub or_none : (b : Bool) → b ≡ (b || false)
or_none true = refl
or_none false = refl

or_more : (a b c : Bool) → ((a || b) || c) ≡ (a || (b || c))
or_more true b c = refl
or_more false b c = refl

-- one more item with its numbers
listed_more : {X : Type 0} (vars : X → List ℕ) (xs : List X) (i : ℕ) (d : X) (k : ℕ) → i < length xs → is_listed (flat_map vars (take (i + 1) xs)) k ≡ (is_listed (flat_map vars (take i xs)) k || is_listed (vars (get_or xs i d)) k)
listed_more vars xs i d k h =
    ap (λ ys. is_listed (flat_map vars ys) k) (take_more xs i d h)
    ∙ ap (λ ks. is_listed ks k) (flat_map-append vars (take i xs) (get_or xs i d ∷ []) ∙ ap (λ ks. flat_map vars (take i xs) ++ ks) (append-nil (vars (get_or xs i d))))
    ∙ list_any-append (nat_eq k) (flat_map vars (take i xs)) (vars (get_or xs i d))

-- marks against those before: the numbers of some items are marked too
abbrev pub AreMarked : {X : Type 0} → (X → List ℕ) → List Bool → List Bool → List X → Type 0
AreMarked vars old new xs = (k : ℕ) → slice_index_or new k false ≡ (slice_index_or old k false || is_listed (flat_map vars xs) k)

pub marked_none : {X : Type 0} (vars : X → List ℕ) (marks : List Bool) → AreMarked vars marks marks []
marked_none vars marks k = or_none (slice_index_or marks k false)

pub marked_more : {X : Type 0} (vars : X → List ℕ) (old marks new : List Bool) (xs : List X) (i : ℕ) (d : X) → i < length xs → AreMarked vars old marks (take i xs) →
    ((k : ℕ) → slice_index_or new k false ≡ (slice_index_or marks k false || is_listed (vars (get_or xs i d)) k)) → AreMarked vars old new (take (i + 1) xs)
marked_more vars old marks new xs i d h so more k =
    more k ∙ ap (λ b. b || is_listed (vars (get_or xs i d)) k) (so k)
    ∙ or_more (slice_index_or old k false) (is_listed (flat_map vars (take i xs)) k) (is_listed (vars (get_or xs i d)) k)
    ∙ ap (λ b. slice_index_or old k false || b) (sym (listed_more vars xs i d k h))

-- a number is marked
pub marked_one : (marks : List Bool) (v k : ℕ) → v < length marks → slice_index_or (set marks v true) k false ≡ (slice_index_or marks k false || is_listed (v ∷ []) k)
marked_one marks v k h =
    on_test (nat_eq k v)
    (λ e.
    let same : k ≡ v = grind (arith, nat_tests) in
    ap (λ i. slice_index_or (set marks v true) i false) same ∙ get_or-set_same marks v true false h
    ∙ sym (ap (λ b. slice_index_or marks k false || (b || false)) e ∙ either (slice_index_or marks k false)))
    (λ e.
    let other : k ≢ v = λ same. let t : nat_eq k v ≡ true = grind (arith, nat_tests) in cc in
    get_or-set_other marks v k true false other ∙ or_none (slice_index_or marks k false) ∙ sym (ap (λ b. slice_index_or marks k false || (b || false)) e))
  where
    either : (b : Bool) → (b || true) ≡ true
    either true = refl
    either false = refl

-- the marked numbers in order
pub marked_numbers : (marks : List Bool) (n : ℕ) (us : List PowerMap) → length marks ≡ n → AreMarked unit_variables (replicate n false) marks us → filter (λ k. slice_index_or marks k false) (range_with_len 0 (length marks)) ≡ held_below n us
marked_numbers marks n us l so =
    ap (λ m. filter (λ k. slice_index_or marks k false) (range_with_len 0 m)) l
    ∙ filter_agree (λ k. slice_index_or marks k false) (is_listed (flat_map unit_variables us)) (λ k. so k ∙ ap (λ b. b || is_listed (flat_map unit_variables us) k) (none_marked n k)) (range_with_len 0 n)

pub range_more : (p : ℕ → Bool) (n : ℕ) → filter p (range_with_len 0 (n + 1)) ≡ filter p (range_with_len 0 n) ++ cond (p n) (n ∷ []) []
range_more p n =
    ap (filter p) (sym (map_same (range_with_len 0 (n + 1))))
    ∙ filter_of_map_range_with_len_more p (λ k. k) 0 n n (omega arith)
    ∙ ap (λ xs. filter p xs ++ cond (p n) (n ∷ []) []) (map_same (range_with_len 0 n))
  where
    map_same : (xs : List ℕ) → map (λ k. k) xs ≡ xs
    map_same [] = refl
    map_same (x ∷ xs) = ap (λ ys. x ∷ ys) (map_same xs)

-- ---- one item of a list that passes a test
pub passes : {X : Type 0} (p : X → Bool) (xs : List X) (i : ℕ) (d : X) → i < length xs → IsTrue (list_all p xs) → IsTrue (p (get_or xs i d))
passes p xs i d h all = on_test (p (get_or xs i d)) (λ e. e) (λ e. let f = list_all_at p xs i d h e in absurd (cc (sym all ∙ f)))
