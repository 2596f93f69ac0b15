-- The index before any row: each variable but those of unit parameters stands in the unit of its own slot alone.
use Rattle.std.proofs.Common.{◌≡◌, ◌⊎◌, inl, inr, ℕ, zero, suc, ◌+◌, ◌<◌, ◌≤◌, nat_lt, true, false, not, cond, if◌then◌else◌, List, [], ◌∷◌, map, length, refl, sym, ap, ◌∙◌, subst, arith}
use Rattle.std.specs.Prelude.{IsTrue, All}
use Rattle.std.specs.List.{range_with_len}
use Rattle.std.proofs.lemmas.Bool.{cases_eq, ne_eqb}
use Rattle.std.proofs.lemmas.Bool.Decides.{nat_tests}
use Rattle.std.proofs.lemmas.List.FromFn.{get_or-map-range_with_len, length-map-range_with_len}
use Rattle.um_units.specs.declared.Atom.TheVariants.{Base, Var}
use Rattle.um_units.specs.Terms.{is_zero}
use Rattle.um_units.specs.PowerMap.{PowerMap, atom}
use Rattle.um_units.specs.Range.{fits}
use Rattle.um_units.specs.Variables.{VariablesBelow}
use Rattle.um_units.proofs.Group.{power_of-atom, power_of-other_atom}
use Rattle.um_units.proofs.InRange.{fits-atom}
use Rattle.um_elim.specs.Index.{holds, holders_from, IsIndex}
use Rattle.um_elim.specs.Solution.{rigid_unit, rigid_units}
use Rattle.um_elim.proofs.Cases.{on_test}
use Rattle.um_elim.proofs.Slots.{length-rigid}
use Rattle.um_elim.proofs.VariablesKept.{all_rigid_below}

own_held : (k : ℕ) → holds k (atom (Var k)) ≡ true
own_held k = ap (λ z. not (is_zero z)) (power_of-atom (Var k))

other_held : (k j : ℕ) → (k ≡ j → ⊥) → holds k (atom (Var j)) ≡ false
other_held k j ne = ap (λ z. not (is_zero z)) (power_of-other_atom (Var k) (Var j) (ne_eqb k j ne))

base_held : (k j : ℕ) → holds k (atom (Base j)) ≡ false
base_held k j = ap (λ z. not (is_zero z)) (power_of-other_atom (Var k) (Base j) refl)

module _ (bases parameters : ℕ) where
  abbrev units_from : ℕ → ℕ → List PowerMap
  units_from a n = map (rigid_unit bases parameters) (range_with_len a n)

  -- a slot whose variable isn't k, or is a parameter's, doesn't hold variable k
  not_held : (k j : ℕ) → ((k ≡ j) → k < parameters) → holds k (rigid_unit bases parameters j) ≡ false
  not_held k j other =
      on_test (nat_lt j parameters)
      (λ t. ap (λ b. holds k (if b then atom (Base (bases + j)) else atom (Var j))) t ∙ base_held k (bases + j))
      (λ t. ap (λ b. holds k (if b then atom (Base (bases + j)) else atom (Var j))) t ∙ other_held k j (λ e. let low = other e in grind (arith, nat_tests)))

  held : (k : ℕ) → parameters ≤ k → holds k (rigid_unit bases parameters k) ≡ true
  held k high = ap (λ b. holds k (if b then atom (Base (bases + k)) else atom (Var k))) (no_parameter k high) ∙ own_held k
    where
      no_parameter : (k : ℕ) → parameters ≤ k → nat_lt k parameters ≡ false
      no_parameter k high = grind (arith, nat_tests)

  none_held : (k s a n : ℕ) → ((k < a) ⊎ (k < parameters)) → holders_from k s (units_from a n) ≡ []
  none_held k s a zero h = refl
  none_held k s a (suc n) h =
      ap (λ b. cond b (s ∷ holders_from k (suc s) (units_from (a + 1) n)) (holders_from k (suc s) (units_from (a + 1) n))) (not_held k a (λ e. or_parameter e h))
      ∙ none_held k (suc s) (a + 1) n (later h)
    where
      or_parameter : {a : ℕ} → k ≡ a → ((k < a) ⊎ (k < parameters)) → k < parameters
      or_parameter e (inl l) = absurd (omega (arith, e, l))
      or_parameter e (inr l) = l

      later : ((k < a) ⊎ (k < parameters)) → ((k < a + 1) ⊎ (k < parameters))
      later (inl l) = inl (omega (arith, l))
      later (inr l) = inr l

  one_held : (k a n : ℕ) → parameters ≤ k → a ≤ k → k < a + n → holders_from k a (units_from a n) ≡ k ∷ []
  one_held k a zero high l h = absurd (omega (arith, l, h))
  one_held k a (suc n) high l h =
      let rest = holders_from k (suc a) (units_from (a + 1) n) in
      elim (cases_eq k a) [
        | inl e ↦
            ap (λ b. cond b (a ∷ rest) rest) (ap (λ j. holds k (rigid_unit bases parameters j)) (sym e) ∙ held k high)
            ∙ ap (λ xs. a ∷ xs) (none_held k (suc a) (a + 1) n (inl (omega (arith, e)))) ∙ ap (λ j. j ∷ []) (sym e)
        | inr ne ↦
            ap (λ b. cond b (a ∷ rest) rest) (not_held k a (λ e. absurd (ne e)))
            ∙ ap (λ s. holders_from k s (units_from (a + 1) n)) (plus_one a)
            ∙ one_held k (a + 1) n high (omega (arith, l, ne)) (omega (arith, h))
      ]
    where
      plus_one : (a : ℕ) → suc a ≡ a + 1
      plus_one a = omega arith

  -- the slots that hold variable k
  holders_first : (k slots : ℕ) → k < slots → holders_from k 0 (units_from 0 slots) ≡ (if nat_lt k parameters then [] else k ∷ [])
  holders_first k slots low =
      on_test (nat_lt k parameters)
      (λ t. none_held k 0 0 slots (inr (grind (arith, nat_tests))) ∙ ap (λ b. if b then [] else k ∷ []) (sym t))
      (λ t. one_held k 0 slots (grind (arith, nat_tests)) (omega arith) (omega (arith, low)) ∙ ap (λ b. if b then [] else k ∷ []) (sym t))

  fits_first : (k : ℕ) → IsTrue (fits (rigid_unit bases parameters k))
  fits_first k =
      on_test (nat_lt k parameters)
      (λ t. subst (λ b. IsTrue (fits (if b then atom (Base (bases + k)) else atom (Var k)))) (sym t) (fits-atom (Base (bases + k))))
      (λ t. subst (λ b. IsTrue (fits (if b then atom (Base (bases + k)) else atom (Var k)))) (sym t) (fits-atom (Var k)))

  zero_plus : (k : ℕ) → 0 + k ≡ k
  zero_plus k = omega arith

  pub first_is_index : (slots : ℕ) → parameters ≤ slots → IsIndex (rigid_units bases parameters slots) (map (λ k. if nat_lt k parameters then [] else k ∷ []) (range_with_len 0 slots))
  first_is_index slots few = record {
    slots = size ∙ sym (length-rigid bases parameters slots);
    exact = λ k h. let low : k < slots = omega (arith, h, size) in get_or-map-range_with_len (λ i. if nat_lt i parameters then [] else i ∷ []) 0 slots k k [] low (zero_plus k) ∙ sym (holders_first k slots low);
    variables = subst (λ n. All (VariablesBelow n) (rigid_units bases parameters slots)) (sym (length-rigid bases parameters slots)) (all_rigid_below bases parameters slots);
    fit = λ k d h. let low : k < slots = omega (arith, h, length-rigid bases parameters slots) in
        subst (λ u. IsTrue (fits u)) (sym (get_or-map-range_with_len (rigid_unit bases parameters) 0 slots k k d low (zero_plus k))) (fits_first k);
  }
    where
      size : length (map (λ k. if nat_lt k parameters then [] else k ∷ []) (range_with_len 0 slots)) ≡ slots
      size = length-map-range_with_len (λ k. if nat_lt k parameters then [] else k ∷ []) 0 slots
