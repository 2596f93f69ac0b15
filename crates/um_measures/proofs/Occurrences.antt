-- First occurrences in the parts of a list.
use Rattle.std.proofs.Common.{◌≡◌, ℕ, ◌≤◌, Bool, true, false, cond, List, [], ◌∷◌, ◌++◌, length, refl, ap, sym, ◌∙◌, arith, length-append}
use Rattle.um_measures.specs.Known.{is_among}
use Rattle.um_measures.specs.Variables.{first_occurrences}

pub occurrences_append : (before xs ys : List (List ℕ)) → first_occurrences before (xs ++ ys) ≡ first_occurrences (first_occurrences before xs) ys
occurrences_append before [] ys = refl
occurrences_append before (x ∷ xs) ys = by (is_among before x) (occurrences_append before xs ys) (occurrences_append (before ++ x ∷ []) xs ys) where
  by : (b : Bool) → first_occurrences before (xs ++ ys) ≡ first_occurrences (first_occurrences before xs) ys
      → first_occurrences (before ++ x ∷ []) (xs ++ ys) ≡ first_occurrences (first_occurrences (before ++ x ∷ []) xs) ys
      → cond b (first_occurrences before (xs ++ ys)) (first_occurrences (before ++ x ∷ []) (xs ++ ys)) ≡ first_occurrences (cond b (first_occurrences before xs) (first_occurrences (before ++ x ∷ []) xs)) ys
  by true h k = h
  by false h k = k

pub both_occur : (a b c xs ys : List (List ℕ)) → b ≡ first_occurrences a xs → c ≡ first_occurrences b ys → c ≡ first_occurrences a (xs ++ ys)
both_occur a b c xs ys e f = rw occurrences_append (rw (← e) f)

pub occur_next : (total names new whole xs ys : List (List ℕ)) → total ≡ first_occurrences names whole → whole ≡ xs ++ ys → new ≡ first_occurrences names xs → total ≡ first_occurrences new ys
occur_next total names new whole xs ys e w h = e ∙ ap (first_occurrences names) w ∙ occurrences_append names xs ys ∙ ap (λ (ns : List (List ℕ)). first_occurrences ns ys) (sym h)

-- those that are there stay
pub occurrences_grow : (before xs : List (List ℕ)) → length before ≤ length (first_occurrences before xs)
occurrences_grow before [] = omega arith
occurrences_grow before (x ∷ xs) = by (is_among before x) (occurrences_grow before xs) (occurrences_grow (before ++ x ∷ []) xs) where
  by : (b : Bool) → length before ≤ length (first_occurrences before xs) → length (before ++ x ∷ []) ≤ length (first_occurrences (before ++ x ∷ []) xs)
      → length before ≤ length (cond b (first_occurrences before xs) (first_occurrences (before ++ x ∷ []) xs))
  by true h k = h
  by false h k = let more = length-append before (x ∷ []) in omega (arith, more, k)
