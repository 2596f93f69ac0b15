-- The call that an order asks for.
-- Source: this project's own commands.
use Rattle.std.specs.Prelude.{ℕ, ◌≤◌, All, List, length}

-- at most so many calls, the name of the function, and the texts of the arguments
pub record AskedCall : Type 0 where
  pub budget : ℕ
  pub name : List ℕ
  pub texts : List (List ℕ)

-- the budget and the texts are within their limits
pub record IsShortCall (call : AskedCall) : Type 0 where
  pub small : call.budget ≤ 10000000
  pub short : All (λ (text : List ℕ). length text ≤ 1048576) call.texts
