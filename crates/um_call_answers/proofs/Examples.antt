-- Texts of small programs. Digits aren't computed here: tests print numbers.
use Rattle.std.proofs.Common.{◌≡◌, refl, ℕ, List, ◌++◌, codes}
use Rattle.std.specs.Fmt.{decimal}
use Rattle.um_call_answers.specs.BigText.{body_text, big_text}

abbrev measures : List ℕ
measures = codes "[<Measure>] type m\n[<Measure>] type s\n"

abbrev line : ℕ → List ℕ → List ℕ
line k body = codes "let g" ++ decimal k ++ codes " (x: num<_>) (y: num<_>) = " ++ body ++ codes "\n"

one : big_text 1 ≡ measures ++ line 0 (codes "x / y")
one = refl

two : big_text 2 ≡ measures ++ line 0 (codes "x / y") ++ line 1 (codes "x * x * y")
two = refl

-- functions 2, 3 and 4: a quotient, a product with the variables swapped, a sum with zero
five :
    big_text 5
    ≡ measures ++ line 0 (codes "x / y") ++ line 1 (codes "x * x * y")
    ++ line 2 (codes "g" ++ decimal 1 ++ codes " x y" ++ codes " / " ++ (codes "g" ++ decimal 1 ++ codes " x y"))
    ++ line 3 (codes "g" ++ decimal 1 ++ codes " x y" ++ codes " * " ++ (codes "g" ++ decimal 1 ++ codes " y x"))
    ++ line 4 (codes "g" ++ decimal 3 ++ codes " x y" ++ codes " + 0<_>")
five = refl

-- where a half, a third and the number before differ
eleven : body_text 11 ≡ codes "g" ++ decimal 5 ++ codes " x y" ++ codes " / " ++ (codes "g" ++ decimal 10 ++ codes " x y")
eleven = refl

twelve : body_text 12 ≡ codes "g" ++ decimal 6 ++ codes " x y" ++ codes " * " ++ (codes "g" ++ decimal 4 ++ codes " y x")
twelve = refl
