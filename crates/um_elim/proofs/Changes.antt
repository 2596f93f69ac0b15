-- A list of units that is changed in place, unit by unit.
use Rattle.std.proofs.Common.{◌≡◌, ℕ, zero, suc, ◌+◌, ◌-◌, ◌<◌, ◌≤◌, Bool, List, [], ◌∷◌, ◌++◌, map, length, take, drop, get_or, refl, ap, ◌∙◌, subst, arith}
use Rattle.std.specs.Prelude.{IsTrue, IsFalse}
use Rattle.std.specs.List.{list_all}
use Rattle.std.proofs.lemmas.Bool.{and_parts, and_from, and_left, and_right}
use Rattle.std.proofs.lemmas.List.{take_more, map-append, get_or-append_right, get_or-drop, length-map, length-take-le, length-append, length-drop, drop_all, append-nil, take_all}
use Rattle.um_units.specs.PowerMap.{PowerMap}
use Rattle.um_units.specs.Range.{fits, IsStopUnless}
use Rattle.um_units.specs.declared.UnitStop.{UnitStop}
use Rattle.um_units.specs.declared.UnitStop.TheVariants.{Range, NoMemory}

all_push : {X : Type 0} (p : X → Bool) (xs : List X) (x : X) → IsTrue (list_all p xs) → IsTrue (p x) → IsTrue (list_all p (xs ++ x ∷ []))
all_push p [] x a b = and_from _ _ b refl
all_push p (y ∷ ys) x a b = let q = and_parts (p y) (list_all p ys) a in and_from _ _ q.0 (all_push p ys x q.1 b)

pub all_map_more : {X Y : Type 0} (p : Y → Bool) (f : X → Y) (xs : List X) (i : ℕ) (d : X) → i < length xs → IsTrue (list_all p (map f (take i xs))) → IsTrue (p (f (get_or xs i d))) → IsTrue (list_all p (map f (take (i + 1) xs)))
all_map_more p f xs i d h a b = rw (take_more xs i d h, map-append f (take i xs) (get_or xs i d ∷ [])) (all_push p (map f (take i xs)) (f (get_or xs i d)) a b)

-- one that fails, in the list
not_all : {X Y : Type 0} (p : Y → Bool) (f : X → Y) (xs : List X) (i : ℕ) (d : X) → i < length xs → IsFalse (p (f (get_or xs i d))) → IsFalse (list_all p (map f xs))
not_all p f [] i d h n = absurd (omega arith)
not_all p f (x ∷ xs) zero d h n = and_left (p (f x)) _ n
not_all p f (x ∷ xs) (suc i) d h n = and_right (p (f x)) _ (not_all p f xs i d (omega (arith, h)) n)

pub stop_in_list : (f : PowerMap → PowerMap) (us : List PowerMap) (i : ℕ) (u : PowerMap) → i < length us → u ≡ get_or us i u → (stop : UnitStop) → IsStopUnless (fits (f u)) stop → IsStopUnless (list_all fits (map f us)) stop
stop_in_list f us i u h e Range n = not_all fits f us i u h (subst (λ v. IsFalse (fits (f v))) e n)
stop_in_list f us i u h e NoMemory n = tt

-- what is read at i while the items below i were changed
pub read_old : {X : Type 0} (f : X → X) (xs ys : List X) (i : ℕ) (x : X) → i < length xs → ys ≡ map f (take i xs) ++ drop i xs → x ≡ get_or ys i x → x ≡ get_or xs i x
read_old f xs ys i x h e g =
    g ∙ ap (λ zs. get_or zs i x) e
    ∙ get_or-append_right (map f (take i xs)) (drop i xs) i i x (length-map (take i xs) f ∙ length-take-le i xs (omega (arith, h))) (omega arith)
    ∙ get_or-drop i xs (i - i) x ∙ ap (λ n. get_or xs n x) (omega arith)

pub length-changed : {X : Type 0} (f : X → X) (xs ys : List X) (i : ℕ) → i ≤ length xs → ys ≡ map f (take i xs) ++ drop i xs → length ys ≡ length xs
length-changed f xs ys i h e =
    ap length e ∙ length-append (map f (take i xs)) (drop i xs) ∙ omega (arith, h, length-map (take i xs) f, length-take-le i xs h, length-drop i xs)

pub changed_all : {X : Type 0} (f : X → X) (xs ys : List X) (i : ℕ) → length xs ≤ i → ys ≡ map f (take i xs) ++ drop i xs → ys ≡ map f xs
changed_all f xs ys i h e = e ∙ ap (λ n. map f (take i xs) ++ n) (drop_all i xs h) ∙ append-nil (map f (take i xs)) ∙ ap (map f) (take_all i xs h)
