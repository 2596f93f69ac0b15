-- White space at the end of a text.
use Rattle.std.proofs.Common.{◌≡◌, refl, sym, ap, ◌∙◌, ℕ, ◌+◌, ◌-◌, ◌<◌, ◌≤◌, true, false, cond, List, [], ◌∷◌, ◌++◌, length, take, get_or, arith}
use Rattle.std.proofs.lemmas.List.{take_more}
use Rattle.um_syntax.specs.Gap.{is_space}
use Rattle.um_tidy.specs.Gaps.{kept, trimmed}

pub trimmed_space : (xs : List ℕ) (c : ℕ) → is_space c ≡ true → trimmed (xs ++ c ∷ []) ≡ trimmed xs
trimmed_space [] c e = ap (λ b. cond b [] (c ∷ [])) e
trimmed_space (x ∷ xs) c e = ap (kept x) (trimmed_space xs c e)

kept_more : (x : ℕ) (xs : List ℕ) (c : ℕ) → kept x (xs ++ c ∷ []) ≡ x ∷ (xs ++ c ∷ [])
kept_more x [] c = refl
kept_more x (y ∷ ys) c = refl

pub trimmed_other : (xs : List ℕ) (c : ℕ) → is_space c ≡ false → trimmed (xs ++ c ∷ []) ≡ xs ++ c ∷ []
trimmed_other [] c e = ap (λ b. cond b [] (c ∷ [])) e
trimmed_other (x ∷ xs) c e = ap (kept x) (trimmed_other xs c e) ∙ kept_more x xs c

one_less : (n : ℕ) → 0 < n → n - 1 + 1 ≡ n
one_less n some = omega (arith, some)

last_of : (xs : List ℕ) (n d : ℕ) → 0 < n → n ≤ length xs → take n xs ≡ take (n - 1) xs ++ get_or xs (n - 1) d ∷ []
last_of xs n d some within = ap (λ k. take k xs) (sym (one_less n some)) ∙ take_more xs (n - 1) d (omega (arith, some, within))

-- one byte less of white space
pub trimmed_less : (xs : List ℕ) (n d : ℕ) → 0 < n → n ≤ length xs → is_space (get_or xs (n - 1) d) ≡ true → trimmed (take (n - 1) xs) ≡ trimmed (take n xs)
trimmed_less xs n d some within e = sym (ap trimmed (last_of xs n d some within) ∙ trimmed_space (take (n - 1) xs) (get_or xs (n - 1) d) e)

-- no white space at the end
pub trimmed_all : (xs : List ℕ) (n d : ℕ) → 0 < n → n ≤ length xs → is_space (get_or xs (n - 1) d) ≡ false → take n xs ≡ trimmed (take n xs)
trimmed_all xs n d some within e =
    let last = last_of xs n d some within in
    last ∙ sym (ap trimmed last ∙ trimmed_other (take (n - 1) xs) (get_or xs (n - 1) d) e)
