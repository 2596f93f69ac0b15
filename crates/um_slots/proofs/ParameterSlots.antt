-- The slots of unit parameters are the first: parameter k has slot k.
use Rattle.std.proofs.Common.{◌≡◌, ℕ, zero, suc, ◌+◌, ◌<◌, ◌≤◌, nat_eq, true, false, not, ◌||◌, cond, List, [], ◌∷◌, ◌++◌, length, refl, sym, ap, ◌∙◌, arith}
use Rattle.std.specs.Prelude.{IsTrue}
use Rattle.std.proofs.lemmas.Bool.Decides.{nat_tests}
use Rattle.std.proofs.lemmas.List.{append-nil, append_assoc, length-append}
use Rattle.std.proofs.lemmas.List.Folds.{list_any-append}
use Rattle.um_elim.proofs.Cases.{on_test}
use Rattle.um_slots.specs.Keys.{Key, name, name_keys}
use Rattle.um_slots.specs.Slots.{same_key, slot_order, has_slot, place, own_number, slot}
use Rattle.um_slots.specs.Slotting.{with_keys}
use Rattle.um_slots.proofs.KeyOrder.{added, grown, has-order, with_none, with_more, place-append}

-- ---- the first names, one after another
has_name : (m n j : ℕ) → m ≤ j → j < m + n → IsTrue (has_slot (name_keys m n) (name j))
has_name m zero j low high = absurd (omega (arith, low, high))
has_name m (suc n) j low high =
    on_test (nat_eq j m)
    (λ e. ap (λ b. b || has_slot (name_keys (suc m) n) (name j)) e)
    (λ e.
    let past : suc m ≤ j = grind (arith, nat_tests) in
    ap (λ b. b || has_slot (name_keys (suc m) n) (name j)) e ∙ has_name (suc m) n j past (omega (arith, high)))

name_place : (m n j : ℕ) → m ≤ j → j < m + n → place (name_keys m n) (name j) + m ≡ j
name_place m zero j low high = absurd (omega (arith, low, high))
name_place m (suc n) j low high =
    on_test (nat_eq j m)
    (λ e.
    let same : j ≡ m = grind (arith, nat_tests) in
    let first : place (name_keys m (suc n)) (name j) ≡ 0 = ap (λ b. cond (not b) (1 + place (name_keys (suc m) n) (name j)) 0) e in
    omega (arith, first, same))
    (λ e.
    let past : suc m ≤ j = grind (arith, nat_tests) in
    let later : place (name_keys m (suc n)) (name j) ≡ 1 + place (name_keys (suc m) n) (name j) = ap (λ b. cond (not b) (1 + place (name_keys (suc m) n) (name j)) 0) e in
    let rest = name_place (suc m) n j past (omega (arith, high)) in
    omega (arith, later, rest))

length-names : (m n : ℕ) → length (name_keys m n) ≡ n
length-names m zero = refl
length-names m (suc n) = ap suc (length-names (suc m) n)

-- names that have no slot get one each, behind the others
names_fresh : (order : List Key) (m n : ℕ) → ((j : ℕ) → m ≤ j → has_slot order (name j) ≡ false) → with_keys order (name_keys m n) ≡ order ++ name_keys m n
names_fresh order m zero new = sym (append-nil order)
names_fresh order m (suc n) new =
    ap (λ b. with_keys (cond b order (order ++ name m ∷ [])) (name_keys (suc m) n)) (new m (omega arith))
    ∙ names_fresh (order ++ name m ∷ []) (suc m) n still_new
    ∙ append_assoc order (name m ∷ []) (name_keys (suc m) n)
  where
    still_new : (j : ℕ) → suc m ≤ j → has_slot (order ++ name m ∷ []) (name j) ≡ false
    still_new j past =
        let other : nat_eq j m ≡ false = grind (arith, nat_tests) in
        list_any-append (same_key (name j)) order (name m ∷ [])
        ∙ ap (λ b. b || (nat_eq j m || false)) (new j (omega (arith, past)))
        ∙ ap (λ b. b || false) other

-- ---- they come before all other keys
module _ (n : ℕ) (ks : List Key) where
  abbrev order : List Key
  order = slot_order (name_keys 0 n ++ ks)

  names_first : slot_order (name_keys 0 n ++ ks) ≡ name_keys 0 n ++ added (name_keys 0 n) ks
  names_first =
      sym (with_none (name_keys 0 n ++ ks)) ∙ with_more [] (name_keys 0 n) ks
      ∙ ap (λ o. with_keys o ks) (names_fresh [] 0 n (λ j low. refl))
      ∙ grown (name_keys 0 n) ks

  pub parameter_slot : (k : ℕ) → k < n → slot order (name k) ≡ k
  parameter_slot k low =
      let there = has_name 0 n k (omega arith) (omega (arith, low)) in
      let has : has_slot order (name k) ≡ true =
      has-order (name k) (name_keys 0 n ++ ks) ∙ list_any-append (same_key (name k)) (name_keys 0 n) ks ∙ ap (λ b. b || has_slot ks (name k)) there in
      let first = name_place 0 n k (omega arith) (omega (arith, low)) in
      let at : place (name_keys 0 n) (name k) ≡ k = omega (arith, first) in
      ap (λ b. cond b (place order (name k)) (length order + own_number (name k))) has
      ∙ ap (λ o. place o (name k)) names_first
      ∙ place-append (name_keys 0 n) (added (name_keys 0 n) ks) (name k) there
      ∙ at

  pub parameters_have_slots : n ≤ length order
  parameters_have_slots =
      let count = ap length names_first ∙ length-append (name_keys 0 n) (added (name_keys 0 n) ks) in
      omega (arith, count, length-names 0 n)
