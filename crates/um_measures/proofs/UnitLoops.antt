-- Loops over the units of a juxtaposition.
use Rattle.std.proofs.Common.{◌≡◌, ℕ, zero, suc, ◌<◌, ◌≤◌, List, [], ◌∷◌, map, drop, get_or, length, refl, ap, sym, arith, add-one, ◌+◌}
use Rattle.um_tree.specs.RawTree.{UnitSyntax, UnitSyntaxes, units_in_order, no_units, more_units}

-- those from number i on
abbrev pub units_from : {A : Type 0} → (A → UnitSyntax) → List A → ℕ → UnitSyntaxes
units_from f xs i = units_in_order (map f (drop i xs))

pub units_from_next : {A : Type 0} (f : A → UnitSyntax) (xs : List A) (i : ℕ) (x : A) → i < length xs → x ≡ get_or xs i x → units_from f xs i ≡ more_units (f x) (units_from f xs (suc i))
units_from_next f [] i x h e = absurd (omega arith)
units_from_next f (y ∷ xs) zero x h e = ap (λ z. more_units (f z) (units_from f xs 0)) (sym e)
units_from_next f (y ∷ xs) (suc i) x h e = units_from_next f xs i x (omega arith) e

pub units_from-end : {A : Type 0} (f : A → UnitSyntax) (xs : List A) (i : ℕ) → length xs ≤ i → units_from f xs i ≡ no_units
units_from-end f [] zero h = refl
units_from-end f [] (suc i) h = refl
units_from-end f (y ∷ xs) zero h = absurd (omega arith)
units_from-end f (y ∷ xs) (suc i) h = units_from-end f xs i (omega arith)

pub units_from_more : {A : Type 0} (f : A → UnitSyntax) (xs : List A) (i : ℕ) (x : A) → i < length xs → x ≡ get_or xs i x → units_from f xs i ≡ more_units (f x) (units_from f xs (i + 1))
units_from_more f xs i x h e = rw add-one (units_from_next f xs i x h e)
