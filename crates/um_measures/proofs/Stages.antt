-- Loops over texts: what the texts so far stand for, and what the others add to it.
use Rattle.std.proofs.Common.{◌≡◌, ℕ, zero, suc, ◌<◌, ◌≤◌, List, [], ◌∷◌, ◌++◌, map, drop, get_or, length, refl, ap, sym, ◌∙◌, Ok, Err, arith, append_assoc, append-nil, add-one, ◌+◌}
use Rattle.um_measures.specs.Faults.{Found, and_then, each}
use Rattle.um_measures.specs.declared.stop.NameStop.{NameStop}
use Rattle.um_measures.specs.Stops.{IsFirst}
use Rattle.um_measures.proofs.Firsts.{first_from}

pub map_from : {A B : Type 0} (g : A → B) (xs : List A) (i : ℕ) (x : A) → i < length xs → x ≡ get_or xs i x → map g (drop i xs) ≡ g x ∷ map g (drop (suc i) xs)
map_from g [] i x h e = absurd (omega arith)
map_from g (y ∷ xs) zero x h e = ap (λ z. g z ∷ map g xs) (sym e)
map_from g (y ∷ xs) (suc i) x h e = map_from g xs i x (omega arith) e

pub map_from-end : {A B : Type 0} (g : A → B) (xs : List A) (i : ℕ) → length xs ≤ i → map g (drop i xs) ≡ []
map_from-end g [] zero h = refl
map_from-end g [] (suc i) h = refl
map_from-end g (y ∷ xs) zero h = absurd (omega arith)
map_from-end g (y ∷ xs) (suc i) h = map_from-end g xs i (omega arith)

-- these stand for the first i texts, if the others stand for something
pub record Stage {A B C : Type 0} (f : B → Found C) (g : A → B) (xs : List A) (done : List C) (i : ℕ) : Type 0 where
  pub is : each f (map g xs) ≡ and_then (each f (map g (drop i xs))) (λ ys. Ok (done ++ ys))

and_then-Ok : {A : Type 0} (x : Found A) → x ≡ and_then x (λ y. Ok y)
and_then-Ok (Ok y) = refl
and_then-Ok (Err f) = refl

pub stage_begins : {A B C : Type 0} (f : B → Found C) (g : A → B) (xs : List A) → Stage f g xs [] 0
stage_begins f g xs = record { is = and_then-Ok (each f (map g xs)) }

shift : {C : Type 0} (done : List C) (y : C) (rest : Found (List C)) → and_then (and_then rest (λ ys. Ok (y ∷ ys))) (λ ys. Ok (done ++ ys)) ≡ and_then rest (λ ys. Ok ((done ++ y ∷ []) ++ ys))
shift done y (Ok ys) = ap Ok (sym (append_assoc done (y ∷ []) ys))
shift done y (Err f) = refl

pub stage_more : {A B C : Type 0} (f : B → Found C) (g : A → B) (xs : List A) (done : List C) (i : ℕ) (x : A) (y : C) → Stage f g xs done i → i < length xs → x ≡ get_or xs i x → f (g x) ≡ Ok y → Stage f g xs (done ++ y ∷ []) (suc i)
stage_more f g xs done i x y s h e r = record {
  is = s.is ∙ ap (λ zs. and_then (each f zs) (λ ys. Ok (done ++ ys))) (map_from g xs i x h e)
      ∙ ap (λ z. and_then (and_then z (λ b. and_then (each f (map g (drop (suc i) xs))) (λ ys. Ok (b ∷ ys)))) (λ ys. Ok (done ++ ys))) r
      ∙ shift done y (each f (map g (drop (suc i) xs)));
}

pub stage_stops : {A B C : Type 0} (f : B → Found C) (g : A → B) (xs : List A) (done : List C) (i : ℕ) (x : A) (stop : NameStop) → Stage f g xs done i → i < length xs → x ≡ get_or xs i x → IsFirst (f (g x)) stop → IsFirst (each f (map g xs)) stop
stage_stops f g xs done i x stop s h e = first_from (f (g x)) (each f (map g xs)) (λ fault r.
    s.is ∙ ap (λ zs. and_then (each f zs) (λ ys. Ok (done ++ ys))) (map_from g xs i x h e)
    ∙ ap (λ z. and_then (and_then z (λ b. and_then (each f (map g (drop (suc i) xs))) (λ ys. Ok (b ∷ ys)))) (λ ys. Ok (done ++ ys))) r) stop

pub stage_ends : {A B C : Type 0} (f : B → Found C) (g : A → B) (xs : List A) (done : List C) (i : ℕ) → Stage f g xs done i → length xs ≤ i → each f (map g xs) ≡ Ok done
stage_ends f g xs done i s h = s.is ∙ ap (λ zs. and_then (each f zs) (λ ys. Ok (done ++ ys))) (map_from-end g xs i h) ∙ ap Ok (append-nil done)

-- the same, where y was pushed
pub stage_pushed : {A B C : Type 0} (f : B → Found C) (g : A → B) (xs : List A) (done new : List C) (i : ℕ) (x : A) (y : C) → Stage f g xs done i → i < length xs → x ≡ get_or xs i x → f (g x) ≡ Ok y → new ≡ done ++ y ∷ [] → Stage f g xs new (i + 1)
stage_pushed f g xs done new i x y s h e r p = rw p (rw add-one (stage_more f g xs done i x y s h e r))

-- nothing is done yet
pub stage_first : {A B C : Type 0} (f : B → Found C) (g : A → B) (xs : List A) (none : List C) → none ≡ [] → Stage f g xs none 0
stage_first f g xs none e = rw e (stage_begins f g xs)

pub map_from_more : {A B : Type 0} (g : A → B) (xs : List A) (i : ℕ) (x : A) → i < length xs → x ≡ get_or xs i x → map g (drop i xs) ≡ g x ∷ map g (drop (i + 1) xs)
map_from_more g xs i x h e = rw add-one (map_from g xs i x h e)
