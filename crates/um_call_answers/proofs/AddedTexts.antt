-- Texts that are added one after another.
use Rattle.std.proofs.Common.{◌≡◌, ℕ, List, ◌++◌, ap, ◌∙◌, append_assoc}

pub more_added : (before a b text more : List ℕ) → text ≡ before ++ a → more ≡ text ++ b → more ≡ before ++ (a ++ b)
more_added before a b text more first second = second ∙ ap (λ t. t ++ b) first ∙ append_assoc before a b
