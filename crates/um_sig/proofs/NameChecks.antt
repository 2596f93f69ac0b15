-- Texts whose names are looked at one after another.
use Rattle.std.proofs.Common.{◌≡◌, List, ◌∷◌, ap, ◌∙◌, Ok}
use Rattle.um_measures.specs.declared.stop.NameStop.{NameStop}
use Rattle.um_measures.specs.Faults.{Found, and_then}
use Rattle.um_measures.specs.Stops.{IsFirst}
use Rattle.um_measures.proofs.Firsts.{first_from}

module _ {A : Type 0} (f : A → Found (Unit {0})) (all : List A → Found (Unit {0})) (step : (x : A) (xs : List A) → all (x ∷ xs) ≡ and_then (f x) (λ _. all xs)) where
  pub check_next : (whole : Found (Unit {0})) (x : A) (rest xs : List A) (u : Unit {0}) → whole ≡ all rest → rest ≡ x ∷ xs → f x ≡ Ok u → whole ≡ all xs
  check_next whole x rest xs u h e r = h ∙ ap all e ∙ step x xs ∙ ap (λ q. and_then q (λ _. all xs)) r

  pub check_stops : (whole : Found (Unit {0})) (x : A) (rest xs : List A) (stop : NameStop) → whole ≡ all rest → rest ≡ x ∷ xs → IsFirst (f x) stop → IsFirst whole stop
  check_stops whole x rest xs stop h e = first_from (f x) whole (λ fault r. h ∙ ap all e ∙ step x xs ∙ ap (λ q. and_then q (λ _. all xs)) r) stop
