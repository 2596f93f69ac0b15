-- The lowest bit of a mask.
use Rattle.std.proofs.Common.{◌≡◌, sym, ap, ℕ, ◌+◌, ◌<◌, eqb, Bool, cond, not, List, [], ◌∷◌, length, map, inl, inr, arith}
use Rattle.std.specs.Int.{w64, trailing_zeros}
use Rattle.std.specs.List.{prefix_len}
use Rattle.std.specs.Simd.Lanes.{mask_l}
use Rattle.std.proofs.lemmas.Bool.{cases_Bool, cond-false, ne_eqb}

-- how many of 16 stand before it
pub none_set : (mask : ℕ) → mask ≡ 0 → 16 ≡ cond (eqb mask 0) 16 (trailing_zeros w64 mask)
none_set mask none = ap (λ m. cond (eqb m 0) 16 (trailing_zeros w64 m)) (sym none)

pub some_set : (mask : ℕ) → 0 < mask → trailing_zeros w64 mask ≡ cond (eqb mask 0) 16 (trailing_zeros w64 mask)
some_set mask some = sym (cond-false _ _ _ (ne_eqb mask 0 (λ none. absurd (omega (arith, some, none)))))

pub some_before : (p : ℕ → Bool) (xs : List ℕ) → 0 < mask_l (map p xs) → prefix_len (λ x. not (p x)) xs < length xs
some_before p [] some = absurd (omega (arith, some))
some_before p (x ∷ xs) some = elim (cases_Bool (p x)) [
  | inl set ↦
      let none : prefix_len (λ y. not (p y)) (x ∷ xs) ≡ 0 = ap (λ b. cond (not b) (1 + prefix_len (λ y. not (p y)) xs) 0) set in
      omega (arith, none)
  | inr clear ↦
      let more : prefix_len (λ y. not (p y)) (x ∷ xs) ≡ 1 + prefix_len (λ y. not (p y)) xs = ap (λ b. cond (not b) (1 + prefix_len (λ y. not (p y)) xs) 0) clear in
      let bit : cond {A = ℕ} (p x) 1 0 ≡ 0 = ap (λ b. cond b 1 0) clear in
      let later = some_before p xs (omega (arith, some, bit)) in
      omega (arith, more, later)
]
