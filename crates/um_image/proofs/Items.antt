-- What holds of all items holds of each by its number, and the other way round.
use Rattle.std.proofs.Common.{◌≡◌, ℕ, List, get_or, Some, subst}
use Rattle.std.specs.Prelude.{All, slice_get}
use Rattle.std.proofs.lemmas.Option.{slice_get_within, slice_get-get_or, get_or_from_slice_get}

pub all_at : {A : Type 0} (P : A → Type 0) (xs : List A) (k : ℕ) (x : A) → All P xs → slice_get xs k ≡ Some x → P x
all_at P xs k x h e = subst P (get_or_from_slice_get xs k x x e) (h k x (slice_get_within xs k x e))

pub all_of : {A : Type 0} (P : A → Type 0) (xs : List A) → ((k : ℕ) (x : A) → slice_get xs k ≡ Some x → P x) → All P xs
all_of P xs h k d l = h k (get_or xs k d) (slice_get-get_or xs k d l)
