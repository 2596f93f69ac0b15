-- A list with one more item behind it.
use Rattle.std.proofs.Common.{◌≡◌, ℕ, zero, suc, ◌<◌, ◌⊎◌, inl, inr, List, [], ◌∷◌, ◌++◌, length, Some, slice_get, refl, ap, arith}

pub item_at : {A : Type 0} (xs : List A) (k : ℕ) → k < length xs → (x : A) × (slice_get xs k ≡ Some x)
item_at [] k h = absurd (omega arith)
item_at (x ∷ xs) zero h = (x, refl)
item_at (x ∷ xs) (suc k) h = item_at xs k (omega arith)

-- an item of the longer list is one of the shorter, or the last
pub item_or_last : {A : Type 0} (xs : List A) (x : A) (k : ℕ) (y : A) → slice_get (xs ++ x ∷ []) k ≡ Some y → (slice_get xs k ≡ Some y) ⊎ ((k ≡ length xs) × (x ≡ y))
item_or_last [] x zero y e = let same : x ≡ y = cc e in inr (refl, same)
item_or_last [] x (suc k) y e = absurd (cc e)
item_or_last (z ∷ xs) x zero y e = inl e
item_or_last (z ∷ xs) x (suc k) y e = elim (item_or_last xs x k y e) [ inl h ↦ inl h | inr h ↦ inr (ap suc h.0, h.1) ]
