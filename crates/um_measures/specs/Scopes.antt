-- The variables of a place in an expression, and which of them a name is.
-- Source: static scope as in ML: a variable is found from the end of the scope, so that a later one hides an
-- earlier one.
use Rattle.std.specs.Prelude.{ℕ, suc, Bool, true, false, is_some, List, [], ◌∷◌, Option, Some, None}
use Rattle.std.specs.Str.{bytes_eq}

-- the names of the variables of a scope, in the order in which they came into it; nothing for `_`
abbrev pub Scope : Type 0
Scope = List (Option (List ℕ))

abbrev pub is_bound : Option (List ℕ) → List ℕ → Bool
is_bound None x = false
is_bound (Some y) x = bytes_eq x y

-- a later variable, or this one
abbrev pub last_of : Option ℕ → Bool → Option ℕ
last_of (Some k) here = Some (suc k)
last_of None true = Some 0
last_of None false = None

-- the number of the last variable of this name
abbrev pub local_of : Scope → List ℕ → Option ℕ
local_of [] x = None
local_of (y ∷ ys) x = last_of (local_of ys x) (is_bound y x)

-- a variable of this name is there; `_` is no name
abbrev pub is_repeated : Scope → Option (List ℕ) → Bool
is_repeated scope None = false
is_repeated scope (Some x) = is_some (local_of scope x)

-- the same variable twice; `_` binds none
abbrev pub same_binding : Option (List ℕ) → Option (List ℕ) → Bool
same_binding None y = false
same_binding (Some x) y = is_bound y x
