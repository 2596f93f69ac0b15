-- Whether all powers of units lie in 64 bits is decided.
use Rattle.std.proofs.Common.{◌≡◌, ◌≢◌, ◌⊎◌, inl, inr, ℕ, zero, suc, ◌<◌, ◌≤◌, nat_le, nat_lt, true, false, List, [], ◌∷◌, ℤ, pos, nat_abs, refl, sym, ◌∙◌, subst, arith}
use Rattle.std.specs.Prelude.{All}
use Rattle.std.proofs.lemmas.Bool.Decides.{nat_tests}
use Rattle.std.proofs.lemmas.List.Elements.{All-nil, All-cons, All-head, All-tail}
use Rattle.um_units.specs.declared.Atom.{Atom}
use Rattle.um_units.specs.declared.Term.{Term}
use Rattle.um_units.specs.Atoms.{same_atom}
use Rattle.um_units.specs.NormalForm.{same_atom-eq}
use Rattle.um_units.specs.Terms.{power_in}
use Rattle.um_units.specs.PowerMap.{PowerMap, power_of}
use Rattle.um_units.proofs.Equality.{power_in-tail}
use Rattle.um_units.proofs.Integers.{zero_cases}
use Rattle.um_elim.proofs.Cases.{on_test}
use Rattle.um_wide.specs.Room.{IsNarrow}
use Rattle.um_kept.specs.Formed.{IsPowerIn}

-- a power of the unit that passes
pub record IsPast (u : PowerMap) : Type 0 where
  pub number : ℤ
  pub stands : IsPowerIn number u
  pub passes : 9223372036854775807 < nat_abs number

low : (z : ℤ) → nat_le (nat_abs z) 9223372036854775807 ≡ true → nat_abs z ≤ 9223372036854775807
low z t = grind (arith, nat_tests)

high : (z : ℤ) → nat_le (nat_abs z) 9223372036854775807 ≡ false → 9223372036854775807 < nat_abs z
high z t = grind (arith, nat_tests)

module _ (u : PowerMap) where
  abbrev Low : Term → Type 0
  Low t = nat_abs (power_of u t.atom) ≤ 9223372036854775807

  by_terms : (ts : List Term) → All Low ts ⊎ IsPast u
  by_terms [] = inl (All-nil Low)
  by_terms (t ∷ ts) =
      on_test (nat_le (nat_abs (power_of u t.atom)) 9223372036854775807)
      (λ e.
      elim (by_terms ts) [
        | inl all ↦ inl (All-cons Low t ts (low (power_of u t.atom) e) all)
        | inr past ↦ inr past
      ])
      (λ e. inr (record { number = power_of u t.atom; stands = (t.atom, refl); passes = high (power_of u t.atom) e }))

  held_is_low : (x : Atom) (ts : List Term) → All Low ts → power_in ts x ≢ pos 0 → nat_abs (power_of u x) ≤ 9223372036854775807
  held_is_low x [] all held = absurd (held refl)
  held_is_low x (t ∷ ts) all held =
      on_test (same_atom x t.atom)
      (λ e. subst (λ y. nat_abs (power_of u y) ≤ 9223372036854775807) (sym (same_atom-eq x t.atom e)) (All-head Low t ts all))
      (λ e. held_is_low x ts (All-tail Low t ts all) (λ z. held (power_in-tail t ts x e ∙ z)))

  all_low : All Low u.terms → IsNarrow u
  all_low all x =
      elim (zero_cases (power_of u x)) [
        | inl none ↦ subst (λ z. nat_abs z ≤ 9223372036854775807) (sym none) (omega arith)
        | inr held ↦ held_is_low x u.terms all held
      ]

  pub narrow_or_past : IsNarrow u ⊎ IsPast u
  narrow_or_past =
      elim (by_terms u.terms) [
        | inl all ↦ inl (all_low all)
        | inr past ↦ inr past
      ]

-- ---- of so many units

pub record IsPastAmong (units : ℕ → PowerMap) (n : ℕ) : Type 0 where
  pub index : ℕ
  pub within : index < n
  pub past : IsPast (units index)

module _ (units : ℕ → PowerMap) where
  abbrev pub AreNarrow : ℕ → Type 0
  AreNarrow n = (j : ℕ) → j < n → IsNarrow (units j)

  one_more : (n : ℕ) → AreNarrow n → IsNarrow (units n) → AreNarrow (suc n)
  one_more n all last j less =
      on_test (nat_lt j n)
      (λ e. all j (let l : j < n = grind (arith, nat_tests) in l))
      (λ e. subst (λ k. IsNarrow (units k)) (let same : n ≡ j = grind (arith, nat_tests) in same) last)

  pub all_narrow_or_past : (n : ℕ) → AreNarrow n ⊎ IsPastAmong units n
  all_narrow_or_past zero = inl (λ j less. absurd (omega (arith, less)))
  all_narrow_or_past (suc n) =
      elim (all_narrow_or_past n) [
        | inr w ↦ let less = w.within in inr (record { index = w.index; within = omega (arith, less); past = w.past })
        | inl all ↦
            elim (narrow_or_past (units n)) [
              | inr past ↦ inr (record { index = n; within = omega arith; past = past })
              | inl last ↦ inl (one_more n all last)
            ]
      ]
