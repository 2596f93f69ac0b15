-- Filters one after another, and the one that keeps all.
use Rattle.std.proofs.Common.{◌≡◌, Bool, true, false, ◌&&◌, cond, List, [], ◌∷◌, filter, refl, sym, ap, ◌∙◌}

module _ {X : Type 0} where
  pub filter_twice : (p q r : X → Bool) → ((x : X) → r x ≡ (q x && p x)) → (xs : List X) → filter p (filter q xs) ≡ filter r xs
  filter_twice p q r same [] = refl
  filter_twice p q r same (x ∷ xs) =
      elim (q x) as (λ b. q x ≡ b → filter p (cond b (x ∷ filter q xs) (filter q xs)) ≡ cond (r x) (x ∷ filter r xs) (filter r xs)) [
        | true ↦ λ e.
            let s : r x ≡ p x = same x ∙ ap (λ b. b && p x) e in
            ap (λ l. cond (p x) (x ∷ l) l) (filter_twice p q r same xs) ∙ ap (λ b. cond b (x ∷ filter r xs) (filter r xs)) (sym s)
        | false ↦ λ e.
            let s : r x ≡ false = same x ∙ ap (λ b. b && p x) e in
            filter_twice p q r same xs ∙ ap (λ b. cond b (x ∷ filter r xs) (filter r xs)) (sym s)
      ] refl

  pub filter-all : (xs : List X) → filter (λ _. true) xs ≡ xs
  filter-all [] = refl
  filter-all (x ∷ xs) = ap (λ l. x ∷ l) (filter-all xs)
