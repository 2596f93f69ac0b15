-- The order of the slots: that each key stands in it once, how it grows, and which places stay.
use Rattle.std.proofs.Common.{◌≡◌, ℕ, suc, ◌+◌, ◌<◌, ◌≤◌, Bool, true, false, not, ◌&&◌, ◌||◌, cond, List, [], ◌∷◌, ◌++◌, length, get_or, filter, refl, sym, ap, ◌∙◌, subst, arith}
use Rattle.std.specs.Prelude.{IsTrue}
use Rattle.std.proofs.lemmas.Bool.{eqb-true, eq-eqb}
use Rattle.std.proofs.lemmas.List.{append-nil, append_assoc, length-append}
use Rattle.std.proofs.lemmas.List.Folds.{list_any-append}
use Rattle.um_elim.proofs.Cases.{on_test}
use Rattle.um_elim.proofs.Filters.{filter_twice, filter-all}
use Rattle.um_slots.specs.Keys.{Key, hole, name}
use Rattle.um_slots.specs.Slots.{same_key, slot_order, has_slot, place}
use Rattle.um_slots.specs.Slotting.{with_key, with_keys}

pub same_key-true : (j k : Key) → same_key j k ≡ true → j ≡ k
same_key-true (hole j) (hole k) e = ap hole (eqb-true j k e)
same_key-true (name j) (name k) e = ap name (eqb-true j k e)
same_key-true (hole j) (name k) e = absurd (cc e)
same_key-true (name j) (hole k) e = absurd (cc e)

pub same_key-own : (k : Key) → same_key k k ≡ true
same_key-own (hole k) = eq-eqb k k refl
same_key-own (name k) = eq-eqb k k refl

-- ---- filters
has-filter : (p : Key → Bool) (k : Key) (xs : List Key) → has_slot (filter p xs) k ≡ (p k && has_slot xs k)
has-filter p k [] = elim (p k) as (λ b. false ≡ (b && false)) [ true ↦ refl | false ↦ refl ]
has-filter p k (x ∷ xs) =
    elim (p x) as (λ b. p x ≡ b → has_slot (cond b (x ∷ filter p xs) (filter p xs)) k ≡ (p k && (same_key k x || has_slot xs k))) [
      | true ↦ λ e.
          on_test (same_key k x)
          (λ same. let own : p k ≡ true = ap p (same_key-true k x same) ∙ e in
          ap (λ b. b || has_slot (filter p xs) k) same ∙ sym (ap (λ b. b && (same_key k x || has_slot xs k)) own ∙ ap (λ b. b || has_slot xs k) same))
          (λ other. ap (λ b. b || has_slot (filter p xs) k) other ∙ has-filter p k xs ∙ sym (ap (λ b. p k && (b || has_slot xs k)) other))
      | false ↦ λ e.
          on_test (same_key k x)
          (λ same. let own : p k ≡ false = ap p (same_key-true k x same) ∙ e in
          has-filter p k xs ∙ ap (λ b. b && has_slot xs k) own ∙ sym (ap (λ b. b && (same_key k x || has_slot xs k)) own))
          (λ other. has-filter p k xs ∙ sym (ap (λ b. p k && (b || has_slot xs k)) other))
    ] refl

-- each key of the list stands in the order
pub has-order : (k : Key) (xs : List Key) → has_slot (slot_order xs) k ≡ has_slot xs k
has-order k [] = refl
has-order k (x ∷ xs) =
    ap (λ b. same_key k x || b) (has-filter (λ j. not (same_key j x)) k (slot_order xs) ∙ ap (λ b. not (same_key k x) && b) (has-order k xs)) ∙ either (same_key k x) (has_slot xs k)
  where
    either : (a b : Bool) → (a || (not a && b)) ≡ (a || b)
    either true b = refl
    either false b = refl

-- ---- how the order grows
abbrev pub added : List Key → List Key → List Key
added ks xs = filter (λ j. not (has_slot ks j)) (slot_order xs)

pub grown : (ks xs : List Key) → with_keys ks xs ≡ ks ++ added ks xs
grown ks [] = sym (append-nil ks)
grown ks (x ∷ xs) =
    elim (has_slot ks x) as (λ b. has_slot ks x ≡ b → with_keys (cond b ks (ks ++ x ∷ [])) xs ≡ ks ++ cond (not b) (x ∷ rest) rest) [
      | true ↦ λ e. grown ks xs ∙ ap (λ l. ks ++ l) (sym (filter_twice absent others absent (known e) (slot_order xs)))
      | false ↦ λ e. grown (ks ++ x ∷ []) xs ∙ append_assoc ks (x ∷ []) (added (ks ++ x ∷ []) xs) ∙ ap (λ l. ks ++ x ∷ l) (sym (filter_twice absent others (λ j. not (has_slot (ks ++ x ∷ []) j)) new (slot_order xs)))
    ] refl
  where
    absent : Key → Bool
    absent j = not (has_slot ks j)

    others : Key → Bool
    others j = not (same_key j x)

    rest : List Key
    rest = filter absent (filter others (slot_order xs))

    known : has_slot ks x ≡ true → (j : Key) → absent j ≡ (others j && absent j)
    known e j =
        on_test (same_key j x)
        (λ same. ap not (ap (has_slot ks) (same_key-true j x same) ∙ e) ∙ sym (ap (λ b. not b && absent j) same))
        (λ other. sym (ap (λ b. not b && absent j) other))

    new : (j : Key) → not (has_slot (ks ++ x ∷ []) j) ≡ (others j && absent j)
    new j = ap not (list_any-append (same_key j) ks (x ∷ [])) ∙ neither (same_key j x) (has_slot ks j)
      where
        neither : (a b : Bool) → not (b || (a || false)) ≡ (not a && not b)
        neither true true = refl
        neither true false = refl
        neither false true = refl
        neither false false = refl

pub with_none : (xs : List Key) → with_keys [] xs ≡ slot_order xs
with_none xs = grown [] xs ∙ filter-all (slot_order xs)

pub with_more : (ks xs ys : List Key) → with_keys ks (xs ++ ys) ≡ with_keys (with_keys ks xs) ys
with_more ks [] ys = refl
with_more ks (x ∷ xs) ys = with_more (with_key ks x) xs ys

-- more keys have no fewer slots
pub length-with : (ks xs : List Key) → length ks ≤ length (with_keys ks xs)
length-with ks xs = let e = ap length (grown ks xs) ∙ length-append ks (added ks xs) in omega (arith, e)

pub length-with_more : (ks xs ys : List Key) → length (with_keys ks xs) ≤ length (with_keys ks (xs ++ ys))
length-with_more ks xs ys = subst (λ o. length (with_keys ks xs) ≤ length o) (sym (with_more ks xs ys)) (length-with (with_keys ks xs) ys)

-- ---- places
one_more : (n : ℕ) → 1 + n ≡ suc n
one_more n = omega arith

pub place-low : (xs : List Key) (k : Key) → IsTrue (has_slot xs k) → place xs k < length xs
place-low [] k h = cc
place-low (x ∷ xs) k h =
    elim (same_key k x) as (λ b. IsTrue (b || has_slot xs k) → cond (not b) (1 + place xs k) 0 < suc (length xs)) [
      | true ↦ λ g. omega arith
      | false ↦ λ g. let l = place-low xs k g in omega (arith, l)
    ] h

pub at-place : (xs : List Key) (k d : Key) → IsTrue (has_slot xs k) → get_or xs (place xs k) d ≡ k
at-place [] k d h = cc
at-place (x ∷ xs) k d h =
    elim (same_key k x) as (λ b. same_key k x ≡ b → IsTrue (b || has_slot xs k) → get_or (x ∷ xs) (cond (not b) (1 + place xs k) 0) d ≡ k) [
      | true ↦ λ e g. sym (same_key-true k x e)
      | false ↦ λ e g. ap (λ i. get_or (x ∷ xs) i d) (one_more (place xs k)) ∙ at-place xs k d g
    ] refl h

-- what comes behind leaves the places
pub place-append : (xs ys : List Key) (k : Key) → IsTrue (has_slot xs k) → place (xs ++ ys) k ≡ place xs k
place-append [] ys k h = cc
place-append (x ∷ xs) ys k h =
    elim (same_key k x) as (λ b. IsTrue (b || has_slot xs k) → cond (not b) (1 + place (xs ++ ys) k) 0 ≡ cond (not b) (1 + place xs k) 0) [
      | true ↦ λ g. refl
      | false ↦ λ g. ap (λ n. 1 + n) (place-append xs ys k g)
    ] h

-- a new key comes last
pub place-last : (xs : List Key) (k : Key) → has_slot xs k ≡ false → place (xs ++ k ∷ []) k ≡ length xs
place-last [] k h = ap (λ b. cond (not b) (1 + 0) 0) (same_key-own k)
place-last (x ∷ xs) k h =
    elim (same_key k x) as (λ b. (b || has_slot xs k) ≡ false → cond (not b) (1 + place (xs ++ k ∷ []) k) 0 ≡ suc (length xs)) [
      | true ↦ λ g. absurd (cc g)
      | false ↦ λ g. ap (λ n. 1 + n) (place-last xs k g) ∙ one_more (length xs)
    ] h

-- two keys have two places
pub same_place : (xs : List Key) (j k : Key) → IsTrue (has_slot xs j) → IsTrue (has_slot xs k) → place xs j ≡ place xs k → j ≡ k
same_place xs j k h g e = sym (at-place xs j j h) ∙ ap (λ i. get_or xs i j) e ∙ at-place xs k j g
