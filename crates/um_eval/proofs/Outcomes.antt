-- Outcomes one after another, and values in order.
use Rattle.std.proofs.Common.{◌≡◌, refl, sym, ap, ◌∙◌, ℕ, zero, suc, ◌-◌, ◌<◌, List, [], ◌∷◌, ◌++◌, length, take, append_assoc, arith}
use Rattle.um_tree.specs.ValueTree.{ValueTree}
use Rattle.um_tree.specs.Meaning.{Out, gives, stops, then, spend}

-- the first item, and then the others
others_added : {A B : Type 0} (q : Out (List A)) (v : A) (vs : List A) (g : List A → ℕ → Out B) → then (then q (λ us d. gives (v ∷ us) d)) (λ us d. g (vs ++ us) d) ≡ then q (λ us d. g (vs ++ v ∷ us) d)
others_added (gives us d) v vs g = refl
others_added (stops r) v vs g = refl

pub first_added : {A B : Type 0} (m : Out A) (q : ℕ → Out (List A)) (vs : List A) (g : List A → ℕ → Out B) → then (then m (λ v c. then (q c) (λ us d. gives (v ∷ us) d))) (λ us d. g (vs ++ us) d) ≡ then m (λ v c. then (q c) (λ us d. g (vs ++ v ∷ us) d))
first_added (gives v c) q vs g = others_added (q c) v vs g
first_added (stops r) q vs g = refl

-- an item moves to those before
pub item_moves : {A B : Type 0} (q : Out (List A)) (v : A) (vs : List A) (g : List A → ℕ → Out B) → then q (λ us d. g (vs ++ v ∷ us) d) ≡ then q (λ us d. g ((vs ++ v ∷ []) ++ us) d)
item_moves (gives us d) v vs g = ap (λ xs. g xs d) (sym (append_assoc vs (v ∷ []) us))
item_moves (stops r) v vs g = refl

pub append_none : {A : Type 0} (xs : List A) → xs ++ [] ≡ xs
append_none [] = refl
append_none (x ∷ xs) = ap (λ ys. x ∷ ys) (append_none xs)

pub outside : {A : Type 0} (xs ys : List A) (n : ℕ) → n ≡ length xs → take n (xs ++ ys) ≡ xs
outside xs ys n e = ap (λ k. take k (xs ++ ys)) e ∙ own xs ys
  where
    own : {A : Type 0} (xs ys : List A) → take (length xs) (xs ++ ys) ≡ xs
    own [] ys = refl
    own (x ∷ xs) ys = ap (λ zs. x ∷ zs) (own xs ys)

pub spent : (b : ℕ) (go : ℕ → Out ValueTree) → 0 < b → spend b go ≡ go (b - 1)
spent zero go l = absurd (omega (arith, l))
spent (suc b) go l = ap go (omega arith)
