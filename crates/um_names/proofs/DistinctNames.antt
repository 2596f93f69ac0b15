-- Names that stand once, and parts of their lists.
use Rattle.std.proofs.Common.{◌≡◌, ℕ, suc, ◌+◌, List, [], ◌∷◌, ◌++◌, length, ap, ◌∙◌, arith}
use Rattle.std.specs.Prelude.{slice_get}
use Rattle.um_tree.specs.Formed.{AreDistinct}
use Rattle.um_names.proofs.CallableNames.{slice_get-prefix}

pub distinct-prefix : (xs ys : List (List ℕ)) → AreDistinct (xs ++ ys) → AreDistinct xs
distinct-prefix xs ys h i j x e f = h i j x (slice_get-prefix xs ys i x e) (slice_get-prefix xs ys j x f)

pub behind : (xs ys : List (List ℕ)) (k : ℕ) → slice_get (xs ++ ys) (length xs + k) ≡ slice_get ys k
behind [] ys k = ap (slice_get ys) (omega arith)
behind (x ∷ xs) ys k = ap (slice_get (x ∷ (xs ++ ys))) (let e : suc (length xs) + k ≡ suc (length xs + k) = omega arith in e) ∙ behind xs ys k

pub distinct-back : (xs ys : List (List ℕ)) → AreDistinct (xs ++ ys) → AreDistinct ys
distinct-back xs ys h i j x e f =
    let same : length xs + i ≡ length xs + j = h (length xs + i) (length xs + j) x (behind xs ys i ∙ e) (behind xs ys j ∙ f) in
    omega (arith, same)
