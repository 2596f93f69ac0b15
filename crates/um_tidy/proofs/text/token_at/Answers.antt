use Rattle.std.proofs.Common.{◌≡◌, ℕ, zero, suc, ◌+◌, List, [], ◌∷◌, Some, drop, arith, sym, ap, ◌∙◌}
use Rattle.std.specs.Prelude.{slice_get}
use Rattle.std.specs.Option.{option_copied}
use Rattle.std.proofs.lemmas.Option.{none-some, same_Some}
use Rattle.um_tidy.proofs.text.token_at.Goals as goal

-- a list from a place on, in which something stands
from_place : {X : Type 0} (xs : List X) (k : ℕ) (x : X) → slice_get xs k ≡ Some x → drop k xs ≡ x ∷ drop (suc k) xs
from_place [] k x is = absurd (none-some x is)
from_place (y ∷ xs) zero x is = ap (λ z. z ∷ xs) (same_Some y x is)
from_place (y ∷ xs) (suc k) x is = from_place xs k x is

pub returns : goal.returns
returns c =
    let token = c.in-Some.token.now in
    let here = sym c.get.ensures ∙ ap option_copied c.in-Some.is in
    let next : suc c.args.k ≡ c.args.k + 1 = omega arith in
    from_place c.args.tokens.now c.args.k token here ∙ ap (λ n. token ∷ drop n c.args.tokens.now) next
