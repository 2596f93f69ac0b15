-- A text to which one part is added after another.
use Rattle.std.proofs.Common.{◌≡◌, ap, ◌∙◌, ℕ, List, ◌++◌, append_assoc, if◌then◌else◌, Result, Ok, Err, OnOk}
use Rattle.std.specs.Result.{is_ok}

pub added : (a b c x y : List ℕ) → b ≡ a ++ x → c ≡ b ++ y → c ≡ a ++ (x ++ y)
added a b c x y e f = f ∙ ap (λ t. t ++ y) e ∙ append_assoc a x y

-- the last part, which is added if there is memory
pub added_last : {T E : Type 0} (r : Result T E) (a b c x y : List ℕ) → b ≡ a ++ x → c ≡ (if is_ok r then b ++ y else b) → OnOk r (c ≡ a ++ (x ++ y))
added_last (Ok v) a b c x y e f = added a b c x y e f
added_last (Err v) a b c x y e f = tt
