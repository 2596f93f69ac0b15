-- The order of first occurrence: how it grows, that each number stands in it once, and which places stay.
use Rattle.std.proofs.Common.{◌≡◌, ℕ, zero, suc, ◌+◌, ◌<◌, Bool, true, false, not, ◌&&◌, ◌||◌, cond, eqb, List, [], ◌∷◌, ◌++◌, length, get_or, filter, refl, sym, ap, ◌∙◌, arith}
use Rattle.std.specs.Prelude.{IsTrue}
use Rattle.std.specs.List.{list_any}
use Rattle.std.proofs.lemmas.Bool.{and_parts, and_from, eqb-true, eq-eqb, false_from_ne_true}
use Rattle.std.proofs.lemmas.List.{append-nil, append_assoc}
use Rattle.std.proofs.lemmas.List.Folds.{list_any-append, list_any_at}
use Rattle.um_elim.specs.Numbering.{first_occurrences, place}
use Rattle.um_elim.specs.Order.{with_variable, with_variables}
use Rattle.um_elim.proofs.Cases.{on_test}
use Rattle.um_elim.proofs.Filters.{filter_twice, filter-all}

-- the number stands in the list
abbrev pub member : ℕ → List ℕ → Bool
member k xs = list_any (eqb k) xs

-- no number stands in the list twice
abbrev pub distinct : List ℕ → Bool
distinct [] = true
distinct (x ∷ xs) = not (member x xs) && distinct xs

-- ---- members
pub member-front : (k : ℕ) (xs ys : List ℕ) → IsTrue (member k xs) → IsTrue (member k (xs ++ ys))
member-front k xs ys h = list_any-append (eqb k) xs ys ∙ ap (λ b. b || member k ys) h

pub member-back : (k : ℕ) (xs ys : List ℕ) → IsTrue (member k ys) → IsTrue (member k (xs ++ ys))
member-back k xs ys h = list_any-append (eqb k) xs ys ∙ ap (λ b. member k xs || b) h ∙ either (member k xs)
  where
    either : (b : Bool) → (b || true) ≡ true
    either true = refl
    either false = refl

-- ---- filters
pub member-filter : (p : ℕ → Bool) (k : ℕ) (xs : List ℕ) → member k (filter p xs) ≡ (p k && member k xs)
member-filter p k [] = elim (p k) as (λ b. false ≡ (b && false)) [ true ↦ refl | false ↦ refl ]
member-filter p k (x ∷ xs) =
    elim (p x) as (λ b. p x ≡ b → member k (cond b (x ∷ filter p xs) (filter p xs)) ≡ (p k && (eqb k x || member k xs))) [
      | true ↦ λ e.
          on_test (eqb k x)
          (λ same. let own : p k ≡ true = ap p (eqb-true k x same) ∙ e in
          ap (λ b. b || member k (filter p xs)) same ∙ sym (ap (λ b. b && (eqb k x || member k xs)) own ∙ ap (λ b. b || member k xs) same))
          (λ other. ap (λ b. b || member k (filter p xs)) other ∙ member-filter p k xs ∙ sym (ap (λ b. p k && (b || member k xs)) other))
      | false ↦ λ e.
          on_test (eqb k x)
          (λ same. let own : p k ≡ false = ap p (eqb-true k x same) ∙ e in
          member-filter p k xs ∙ ap (λ b. b && member k xs) own ∙ sym (ap (λ b. b && (eqb k x || member k xs)) own))
          (λ other. member-filter p k xs ∙ sym (ap (λ b. p k && (b || member k xs)) other))
    ] refl

-- ---- each number of the list stands in the order, once
pub member-first : (k : ℕ) (xs : List ℕ) → member k (first_occurrences xs) ≡ member k xs
member-first k [] = refl
member-first k (x ∷ xs) =
    ap (λ b. eqb k x || b) (member-filter (λ j. not (eqb j x)) k (first_occurrences xs) ∙ ap (λ b. not (eqb k x) && b) (member-first k xs)) ∙ either (eqb k x) (member k xs)
  where
    either : (a b : Bool) → (a || (not a && b)) ≡ (a || b)
    either true b = refl
    either false b = refl

distinct-filter : (p : ℕ → Bool) (xs : List ℕ) → IsTrue (distinct xs) → IsTrue (distinct (filter p xs))
distinct-filter p [] h = refl
distinct-filter p (x ∷ xs) h =
    let parts = and_parts (not (member x xs)) (distinct xs) h in
    let rest = distinct-filter p xs parts.1 in
    elim (p x) as (λ b. p x ≡ b → IsTrue (distinct (cond b (x ∷ filter p xs) (filter p xs)))) [
      | true ↦ λ e. and_from _ _ (ap not (member-filter p x xs ∙ ap (λ b. b && member x xs) e) ∙ parts.0) rest
      | false ↦ λ e. rest
    ] refl

pub distinct-first : (xs : List ℕ) → IsTrue (distinct (first_occurrences xs))
distinct-first [] = refl
distinct-first (x ∷ xs) =
    let gone : not (eqb x x) ≡ false = ap not (eq-eqb x x refl) in
    and_from _ _ (ap not (member-filter (λ j. not (eqb j x)) x (first_occurrences xs) ∙ ap (λ b. b && member x (first_occurrences xs)) gone))
    (distinct-filter (λ j. not (eqb j x)) (first_occurrences xs) (distinct-first xs))

-- ---- how the order grows
abbrev pub added : List ℕ → List ℕ → List ℕ
added ks xs = filter (λ j. not (member j ks)) (first_occurrences xs)

pub grown : (ks xs : List ℕ) → with_variables ks xs ≡ ks ++ added ks xs
grown ks [] = sym (append-nil ks)
grown ks (x ∷ xs) =
    elim (member x ks) as (λ b. member x ks ≡ b → with_variables (cond b ks (ks ++ x ∷ [])) xs ≡ ks ++ cond (not b) (x ∷ rest) rest) [
      | true ↦ λ e. grown ks xs ∙ ap (λ l. ks ++ l) (sym (filter_twice absent others absent (known e) (first_occurrences xs)))
      | false ↦ λ e. grown (ks ++ x ∷ []) xs ∙ append_assoc ks (x ∷ []) (added (ks ++ x ∷ []) xs) ∙ ap (λ l. ks ++ x ∷ l) (sym (filter_twice absent others (λ j. not (member j (ks ++ x ∷ []))) new (first_occurrences xs)))
    ] refl
  where
    absent : ℕ → Bool
    absent j = not (member j ks)

    others : ℕ → Bool
    others j = not (eqb j x)

    rest : List ℕ
    rest = filter absent (filter others (first_occurrences xs))

    known : member x ks ≡ true → (j : ℕ) → absent j ≡ (others j && absent j)
    known e j =
        on_test (eqb j x)
        (λ same. ap not (ap (λ k. member k ks) (eqb-true j x same) ∙ e) ∙ sym (ap (λ b. not b && absent j) same))
        (λ other. sym (ap (λ b. not b && absent j) other))

    new : (j : ℕ) → not (member j (ks ++ x ∷ [])) ≡ (others j && absent j)
    new j = ap not (list_any-append (eqb j) ks (x ∷ [])) ∙ neither (eqb j x) (member j ks)
      where
        neither : (a b : Bool) → not (b || (a || false)) ≡ (not a && not b)
        neither true true = refl
        neither true false = refl
        neither false true = refl
        neither false false = refl

pub with_none : (xs : List ℕ) → with_variables [] xs ≡ first_occurrences xs
with_none xs = grown [] xs ∙ filter-all (first_occurrences xs)

pub with_more : (ks xs ys : List ℕ) → with_variables ks (xs ++ ys) ≡ with_variables (with_variables ks xs) ys
with_more ks [] ys = refl
with_more ks (x ∷ xs) ys = with_more (with_variable ks x) xs ys

pub first-append : (xs ys : List ℕ) → first_occurrences (xs ++ ys) ≡ first_occurrences xs ++ added (first_occurrences xs) ys
first-append xs ys = sym (with_none (xs ++ ys)) ∙ with_more [] xs ys ∙ ap (λ ks. with_variables ks ys) (with_none xs) ∙ grown (first_occurrences xs) ys

pub member-with : (k : ℕ) (ks xs : List ℕ) → member k (with_variables ks xs) ≡ (member k ks || member k xs)
member-with k ks xs =
    ap (member k) (grown ks xs) ∙ list_any-append (eqb k) ks (added ks xs) ∙ ap (λ b. member k ks || b) (member-filter (λ j. not (member j ks)) k (first_occurrences xs))
    ∙ either (member k ks) (member k (first_occurrences xs)) ∙ ap (λ b. member k ks || b) (member-first k xs)
  where
    either : (a b : Bool) → (a || (not a && b)) ≡ (a || b)
    either true b = refl
    either false b = refl

-- ---- places
one_more : (n : ℕ) → 1 + n ≡ suc n
one_more n = omega arith

pub place-low : (xs : List ℕ) (k : ℕ) → IsTrue (member k xs) → place xs k < length xs
place-low [] k h = cc
place-low (x ∷ xs) k h =
    elim (eqb k x) as (λ b. IsTrue (b || member k xs) → cond (not b) (1 + place xs k) 0 < suc (length xs)) [
      | true ↦ λ g. omega arith
      | false ↦ λ g. let l = place-low xs k g in omega (arith, l)
    ] h

pub at-place : (xs : List ℕ) (k : ℕ) → IsTrue (member k xs) → get_or xs (place xs k) 0 ≡ k
at-place [] k h = cc
at-place (x ∷ xs) k h =
    elim (eqb k x) as (λ b. eqb k x ≡ b → IsTrue (b || member k xs) → get_or (x ∷ xs) (cond (not b) (1 + place xs k) 0) 0 ≡ k) [
      | true ↦ λ e g. sym (eqb-true k x e)
      | false ↦ λ e g. ap (λ i. get_or (x ∷ xs) i 0) (one_more (place xs k)) ∙ at-place xs k g
    ] refl h

pub member-at : (xs : List ℕ) (j : ℕ) → j < length xs → IsTrue (member (get_or xs j 0) xs)
member-at xs j h = list_any_at (eqb (get_or xs j 0)) xs j 0 h (eq-eqb (get_or xs j 0) (get_or xs j 0) refl)

-- in an order the place of the number at a place is that place
pub place-at : (xs : List ℕ) (j : ℕ) → IsTrue (distinct xs) → j < length xs → place xs (get_or xs j 0) ≡ j
place-at [] j d h = absurd (omega (arith, h))
place-at (x ∷ xs) zero d h = ap (λ b. cond (not b) (1 + place xs x) 0) (eq-eqb x x refl)
place-at (x ∷ xs) (suc j) d h =
    let parts = and_parts (not (member x xs)) (distinct xs) d in
    let low : j < length xs = omega (arith, h) in
    let k = get_or xs j 0 in
    let other : eqb k x ≡ false = false_from_ne_true (eqb k x) (λ e. let m : not (member x xs) ≡ false = ap not (ap (λ i. member i xs) (sym (eqb-true k x e)) ∙ member-at xs j low) in cc) in
    ap (λ b. cond (not b) (1 + place xs k) 0) other ∙ ap (λ n. 1 + n) (place-at xs j parts.1 low) ∙ one_more j

-- what comes behind leaves the places
pub place-append : (xs ys : List ℕ) (k : ℕ) → IsTrue (member k xs) → place (xs ++ ys) k ≡ place xs k
place-append [] ys k h = cc
place-append (x ∷ xs) ys k h =
    elim (eqb k x) as (λ b. IsTrue (b || member k xs) → cond (not b) (1 + place (xs ++ ys) k) 0 ≡ cond (not b) (1 + place xs k) 0) [
      | true ↦ λ g. refl
      | false ↦ λ g. ap (λ n. 1 + n) (place-append xs ys k g)
    ] h

pub place-with : (ks xs : List ℕ) (k : ℕ) → IsTrue (member k ks) → place (with_variables ks xs) k ≡ place ks k
place-with ks xs k h = ap (λ o. place o k) (grown ks xs) ∙ place-append ks (added ks xs) k h

-- two numbers have two places
pub same_place : (xs : List ℕ) (j k : ℕ) → IsTrue (member j xs) → IsTrue (member k xs) → place xs j ≡ place xs k → j ≡ k
same_place xs j k h g e = sym (at-place xs j h) ∙ ap (λ i. get_or xs i 0) e ∙ at-place xs k g
