-- Loops over value texts in order.
use Rattle.std.proofs.Common.{◌≡◌, ℕ, zero, suc, ◌<◌, ◌≤◌, ◌+◌, List, [], ◌∷◌, map, drop, get_or, length, refl, ap, sym, arith, add-one}
use Rattle.um_value.specs.ValueSyntax.{ValueSyntax, ValueSyntaxes, raw_none, raw_more, raws_in_order}

-- those from number i on
abbrev pub raws_from : {A : Type 0} → (A → ValueSyntax) → List A → ℕ → ValueSyntaxes
raws_from f xs i = raws_in_order (map f (drop i xs))

pub raws_from_next : {A : Type 0} (f : A → ValueSyntax) (xs : List A) (i : ℕ) (x : A) → i < length xs → x ≡ get_or xs i x → raws_from f xs i ≡ raw_more (f x) (raws_from f xs (suc i))
raws_from_next f [] i x h e = absurd (omega arith)
raws_from_next f (y ∷ xs) zero x h e = ap (λ z. raw_more (f z) (raws_from f xs 0)) (sym e)
raws_from_next f (y ∷ xs) (suc i) x h e = raws_from_next f xs i x (omega arith) e

pub raws_from-end : {A : Type 0} (f : A → ValueSyntax) (xs : List A) (i : ℕ) → length xs ≤ i → raws_from f xs i ≡ raw_none
raws_from-end f [] zero h = refl
raws_from-end f [] (suc i) h = refl
raws_from-end f (y ∷ xs) zero h = absurd (omega arith)
raws_from-end f (y ∷ xs) (suc i) h = raws_from-end f xs i (omega arith)

pub raws_from_more : {A : Type 0} (f : A → ValueSyntax) (xs : List A) (i : ℕ) (x : A) → i < length xs → x ≡ get_or xs i x → raws_from f xs i ≡ raw_more (f x) (raws_from f xs (i + 1))
raws_from_more f xs i x h e = rw add-one (raws_from_next f xs i x h e)
