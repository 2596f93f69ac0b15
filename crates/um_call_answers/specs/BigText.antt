-- The text of a program of many functions: two measures, and a line for each function.
-- Source: this project's own.
use Rattle.std.specs.Prelude.{ℕ, zero, suc, ◌-◌, ◌/◌, ◌%◌, ◌==◌, if◌then◌else◌, List, ◌++◌, codes}
use Rattle.std.specs.Fmt.{decimal}

-- a call of function k on variables
abbrev pub call_text : ℕ → List ℕ → List ℕ
call_text k variables = codes "g" ++ decimal k ++ variables

-- after the first two each function is made of functions before it
abbrev pub later_body : ℕ → List ℕ
later_body k =
    if k % 3 == 0 then call_text (k / 2) (codes " x y") ++ codes " * " ++ call_text (k / 3) (codes " y x")
    else if k % 3 == 1 then call_text (k - 1) (codes " x y") ++ codes " + 0<_>"
    else call_text (k / 2) (codes " x y") ++ codes " / " ++ call_text (k - 1) (codes " x y")

abbrev pub body_text : ℕ → List ℕ
body_text k = if k == 0 then codes "x / y" else if k == 1 then codes "x * x * y" else later_body k

abbrev pub function_line : ℕ → List ℕ
function_line k =
    codes "let g" ++ decimal k ++ codes " (x: num<_>) (y: num<_>) = " ++ body_text k ++ codes "\n"

-- the program of functions 0 to n - 1
abbrev pub big_text : ℕ → List ℕ
big_text zero = codes "[<Measure>] type m\n[<Measure>] type s\n"
big_text (suc k) = big_text k ++ function_line k
