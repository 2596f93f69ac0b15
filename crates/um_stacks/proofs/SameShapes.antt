-- Shapes that fit both ways.
use Rattle.std.proofs.Common.{◌≡◌, refl, sym, ap, ◌∙◌, ℕ, ◌++◌, ◌∷◌, [], ◌≤◌, Bool as Truth, true, false, List, arith}
use Rattle.std.specs.Bool.{MatchBool}
use Rattle.um_verify.specs.StackShape.{StackShape, void, bool, num, list, made, fits}
use Rattle.um_verify.proofs.Fits.{same_number}

same_shapes : (s t : StackShape) → fits s t ≡ true → fits t s ≡ true → s ≡ t
same_shapes void void h k = refl
same_shapes void bool h k = absurd cc
same_shapes void num h k = absurd cc
same_shapes void (list t) h k = absurd cc
same_shapes void (made r) h k = absurd cc
same_shapes bool void h k = absurd cc
same_shapes bool bool h k = refl
same_shapes bool num h k = absurd cc
same_shapes bool (list t) h k = absurd cc
same_shapes bool (made r) h k = absurd cc
same_shapes num void h k = absurd cc
same_shapes num bool h k = absurd cc
same_shapes num num h k = refl
same_shapes num (list t) h k = absurd cc
same_shapes num (made r) h k = absurd cc
same_shapes (list s) void h k = absurd cc
same_shapes (list s) bool h k = absurd cc
same_shapes (list s) num h k = absurd cc
same_shapes (list s) (list t) h k = ap list (same_shapes s t h k)
same_shapes (list s) (made r) h k = absurd cc
same_shapes (made q) void h k = absurd cc
same_shapes (made q) bool h k = absurd cc
same_shapes (made q) num h k = absurd cc
same_shapes (made q) (list t) h k = absurd cc
same_shapes (made q) (made r) h k = ap made (same_number q r h)

pub fits_both : (s t : StackShape) (b c : Truth) (n : ℕ) → b ≡ fits s t → b ≡ true → c ≡ fits t s → MatchBool c (s ≡ t) (0 ≤ n)
fits_both s t b true n e h k = same_shapes s t (sym e ∙ h) (sym k)
fits_both s t b false n e h k = omega arith

pub same_push : (b : Truth) (s t : StackShape) (xs low : List StackShape) (m n : ℕ) → xs ≡ low ++ s ∷ [] → MatchBool b (s ≡ t) (0 ≤ m) → MatchBool b (xs ≡ low ++ t ∷ []) (0 ≤ n)
same_push true s t xs low m n h k = h ∙ ap (λ (u : StackShape). low ++ u ∷ []) k
same_push false s t xs low m n h k = omega arith
