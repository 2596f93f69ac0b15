-- How long the text is at most.
use Rattle.std.proofs.Common.{◌≡◌, refl, ℕ, zero, suc, ◌+◌, ◌-◌, ◌*◌, ◌<◌, ◌≤◌, Bool, true, false, if◌then◌else◌, List, ◌++◌, length, codes, arith}
use Rattle.std.specs.Prelude.{◌/◌, ◌%◌, ◌==◌}
use Rattle.std.proofs.Math.Nat.{div-le_self}
use Rattle.std.proofs.lemmas.List.{length-append}
use Rattle.std.proofs.lemmas.Fmt.{length-decimal-le}
use Rattle.std.specs.Fmt.{decimal}
use Rattle.um_call_answers.specs.BigText.{call_text, later_body, body_text, function_line, big_text}

of_length : (xs : List ℕ) (m n : ℕ) → length xs ≡ m → m ≤ n → length xs ≤ n
of_length xs m n e few = omega (arith, e, few)

joined : (xs ys : List ℕ) (m n : ℕ) → length xs ≤ m → length ys ≤ n → length (xs ++ ys) ≤ m + n
joined xs ys m n a b = let e = length-append xs ys in omega (arith, e, a, b)

either : (b : Bool) (xs ys : List ℕ) (n : ℕ) → length xs ≤ n → length ys ≤ n → length (if b then xs else ys) ≤ n
either true xs ys n a b = a
either false xs ys n a b = b

number_length : (k : ℕ) → k < 2000 → length (decimal k) ≤ 4
number_length k below =
    let few : k < 10000 = omega (arith, below) in
    let fits : k < 18446744073709551616 = omega (arith, below) in
    length-decimal-le 4 k (omega arith) few fits

call_length : (k : ℕ) (variables : List ℕ) → k < 2000 → length variables ≡ 4 → length (call_text k variables) ≤ 9
call_length k variables below e =
    joined (codes "g" ++ decimal k) variables 5 4
    (joined (codes "g") (decimal k) 1 4 (of_length (codes "g") 1 1 refl (omega arith)) (number_length k below))
    (of_length variables 4 4 e (omega arith))

pair_length : (j k : ℕ) (sign more : List ℕ) → j < 2000 → k < 2000 → length sign ≡ 3 → length more ≡ 4 → length (call_text j (codes " x y") ++ sign ++ call_text k more) ≤ 21
pair_length j k sign more jl kl s m =
    joined (call_text j (codes " x y") ++ sign) (call_text k more) 12 9
    (joined (call_text j (codes " x y")) sign 9 3 (call_length j (codes " x y") jl refl) (of_length sign 3 3 s (omega arith)))
    (call_length k more kl m)

sum_length : (k : ℕ) → k < 2000 → length (call_text k (codes " x y") ++ codes " + 0<_>") ≤ 21
sum_length k below =
    joined (call_text k (codes " x y")) (codes " + 0<_>") 9 12 (call_length k (codes " x y") below refl) (of_length (codes " + 0<_>") 7 12 refl (omega arith))

later_length : (k : ℕ) → k < 2000 → length (later_body k) ≤ 21
later_length k below =
    let half : k / 2 < 2000 = (let e = div-le_self k 2 in omega (arith, e, below)) in
    let third : k / 3 < 2000 = (let e = div-le_self k 3 in omega (arith, e, below)) in
    let before : k - 1 < 2000 = omega (arith, below) in
    either (k % 3 == 0) _ _ 21
    (pair_length (k / 2) (k / 3) (codes " * ") (codes " y x") half third refl refl)
    (either (k % 3 == 1) _ _ 21 (sum_length (k - 1) before) (pair_length (k / 2) (k - 1) (codes " / ") (codes " x y") half before refl refl))

body_length : (k : ℕ) → k < 2000 → length (body_text k) ≤ 21
body_length k below =
    either (k == 0) _ _ 21 (of_length (codes "x / y") 5 21 refl (omega arith))
    (either (k == 1) _ _ 21 (of_length (codes "x * x * y") 9 21 refl (omega arith)) (later_length k below))

line_length : (k : ℕ) → k < 2000 → length (function_line k) ≤ 58
line_length k below =
    let head = codes "let g" ++ decimal k in let parameters = codes " (x: num<_>) (y: num<_>) = " in
    joined (head ++ parameters ++ body_text k) (codes "\n") 57 1
    (joined (head ++ parameters) (body_text k) 36 21
    (joined head parameters 9 27 (joined (codes "let g") (decimal k) 5 4 (of_length (codes "let g") 5 5 refl (omega arith)) (number_length k below)) (of_length parameters 27 27 refl (omega arith)))
    (body_length k below))
    (of_length (codes "\n") 1 1 refl (omega arith))

text_length : (n : ℕ) → n ≤ 2000 → length (big_text n) ≤ 38 + 58 * n
text_length zero few = of_length (big_text zero) 38 38 refl (omega arith)
text_length (suc k) few =
    let before = text_length k (omega (arith, few)) in
    let one = line_length k (omega (arith, few)) in
    let all : length (big_text (suc k)) ≤ 38 + 58 * k + 58 = joined (big_text k) (function_line k) (38 + 58 * k) 58 before one in
    omega (arith, all)

pub text_fits : (n : ℕ) → n ≤ 2000 → length (big_text n) ≤ 1048576
text_fits n few = let most = text_length n few in omega (arith, most, few)
