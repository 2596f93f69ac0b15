-- The places of parameters, one after another.
use Rattle.std.proofs.Common.{◌≡◌, ap, ◌∙◌, ℕ, zero, suc, ◌+◌, [], ◌∷◌, ◌++◌, arith}
use Rattle.std.specs.List.{range_with_len}

one_more : (a n : ℕ) → range_with_len a (suc n) ≡ range_with_len a n ++ (a + n) ∷ []
one_more a zero = let here : a ≡ a + 0 = omega arith in ap (λ k. k ∷ []) here
one_more a (suc n) =
    let last : a + 1 + n ≡ a + suc n = omega arith in
    ap (λ ks. a ∷ ks) (one_more (a + 1) n ∙ ap (λ k. range_with_len (a + 1) n ++ k ∷ []) last)

pub one_more_place : (n : ℕ) → range_with_len 0 (suc n) ≡ range_with_len 0 n ++ n ∷ []
one_more_place n = let last : 0 + n ≡ n = omega arith in one_more 0 n ∙ ap (λ k. range_with_len 0 n ++ k ∷ []) last
