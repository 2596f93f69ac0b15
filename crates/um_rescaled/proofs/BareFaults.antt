-- What a text stands for, or its fault, without places.
use Rattle.std.proofs.Common.{◌≡◌, ℕ, Bool, true, false, refl, ap, ◌∙◌, Ok, Err}
use Rattle.um_measures.specs.Faults.{Fault, unknown, twice, wrong_count, hole, range, Found, and_then, unless_taken}

abbrev pub bare_fault : Fault → Fault
bare_fault (unknown at) = unknown 0
bare_fault (twice at) = twice 0
bare_fault (wrong_count at) = wrong_count 0
bare_fault (hole at) = hole 0
bare_fault (range at) = range 0

-- by what is left of what was found
abbrev pub bare_found : {A B : Type 0} → (A → B) → Found A → Found B
bare_found f (Ok x) = Ok (f x)
bare_found f (Err e) = Err (bare_fault e)

abbrev pub itself : {A : Type 0} → A → A
itself x = x

pub then_bare : {A C B D : Type 0} (f : A → C) (g : B → D) (m : Found A) (n : Found C) (next : A → Found B) (other : C → Found D) → bare_found f m ≡ n → ((a : A) → bare_found g (next a) ≡ other (f a)) → bare_found g (and_then m next) ≡ and_then n other
then_bare f g (Ok a) n next other e h = h a ∙ ap (λ r. and_then r other) e
then_bare f g (Err x) n next other e h = ap (λ r. and_then r other) e

pub one_bare : {A C B D : Type 0} (f : A → C) (g : B → D) (m : Found A) (n : Found C) (make : A → B) (made : C → D) → bare_found f m ≡ n → ((a : A) → g (make a) ≡ made (f a)) → bare_found g (and_then m (λ a. Ok (make a))) ≡ and_then n (λ a. Ok (made a))
one_bare f g m n make made e h = then_bare f g m n (λ a. Ok (make a)) (λ a. Ok (made a)) e (λ a. ap (λ x. Ok x) (h a))

pub two_bare : {A C B D E F : Type 0} (f : A → C) (h : B → D) (g : E → F) (m : Found A) (n : Found C) (r : Found B) (s : Found D) (make : A → B → E) (made : C → D → F) → bare_found f m ≡ n → bare_found h r ≡ s → ((a : A) (b : B) → g (make a b) ≡ made (f a) (h b))
    → bare_found g (and_then m (λ a. and_then r (λ b. Ok (make a b)))) ≡ and_then n (λ a. and_then s (λ b. Ok (made a b)))
two_bare f h g m n r s make made e k same =
    then_bare f g m n (λ a. and_then r (λ b. Ok (make a b))) (λ a. and_then s (λ b. Ok (made a b))) e (λ a. one_bare h g r s (make a) (made (f a)) k (same a))

pub taken_bare : (b : Bool) (at : ℕ) → bare_found itself (unless_taken b at) ≡ unless_taken b 0
taken_bare true at = refl
taken_bare false at = refl
