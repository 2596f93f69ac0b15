-- When units make each row of some steps equal to 1.
use Rattle.std.proofs.Common.{◌≡◌, ℕ, List, [], ◌∷◌, ◌++◌, pos, sym, ap, ◌∙◌}
use Rattle.std.proofs.lemmas.List.Elements.{All-cons, All-head, All-tail}
use Rattle.um_units.specs.declared.Atom.TheVariants.{Base}
use Rattle.um_units.specs.PowerMap.{PowerMap, one, atom, mul, inv, power_of, replace}
use Rattle.um_units.specs.Solutions.{Solves}
use Rattle.um_units.proofs.Group.{power_of-one, power_of-atom, quotient-same, same_from_quotient}
use Rattle.um_units.proofs.Replacement.{replace-mul, replace-inv, replace-base}
use Rattle.um_units.proofs.Solutions.{Solves-nil}
use Rattle.um_tree.specs.TypeTree.{TypeTree}
use Rattle.um_equal_types.specs.Steps.{Step, row_at, wrong_shape_at, type_at, types_at, row_units}

-- the units v make each row equal to 1
abbrev pub Holds : (ℕ → PowerMap) → List Step → Type 0
Holds v [] = Unit {0}
Holds v (row_at at u ∷ ss) = (replace v u ≡ one) × Holds v ss
Holds v (wrong_shape_at at ∷ ss) = (replace v (atom (Base 0)) ≡ one) × Holds v ss
Holds v (type_at at t ∷ ss) = Holds v ss

-- that is, they solve the units of the rows
pub Holds-solves : (v : ℕ → PowerMap) (ss : List Step) → Solves v (row_units ss) → Holds v ss
Holds-solves v [] h = tt
Holds-solves v (row_at at u ∷ ss) h =
    (All-head (λ row. replace v row ≡ one) u (row_units ss) h, Holds-solves v ss (All-tail (λ row. replace v row ≡ one) u (row_units ss) h))
Holds-solves v (wrong_shape_at at ∷ ss) h =
    (All-head (λ row. replace v row ≡ one) (atom (Base 0)) (row_units ss) h, Holds-solves v ss (All-tail (λ row. replace v row ≡ one) (atom (Base 0)) (row_units ss) h))
Holds-solves v (type_at at t ∷ ss) h = Holds-solves v ss h

pub Solves-holds : (v : ℕ → PowerMap) (ss : List Step) → Holds v ss → Solves v (row_units ss)
Solves-holds v [] h = Solves-nil v
Solves-holds v (row_at at u ∷ ss) h = All-cons (λ row. replace v row ≡ one) u (row_units ss) h.0 (Solves-holds v ss h.1)
Solves-holds v (wrong_shape_at at ∷ ss) h = All-cons (λ row. replace v row ≡ one) (atom (Base 0)) (row_units ss) h.0 (Solves-holds v ss h.1)
Solves-holds v (type_at at t ∷ ss) h = Solves-holds v ss h

-- ---- steps behind steps
pub Holds-front : (v : ℕ → PowerMap) (a b : List Step) → Holds v (a ++ b) → Holds v a
Holds-front v [] b h = tt
Holds-front v (row_at at u ∷ a) b h = (h.0, Holds-front v a b h.1)
Holds-front v (wrong_shape_at at ∷ a) b h = (h.0, Holds-front v a b h.1)
Holds-front v (type_at at t ∷ a) b h = Holds-front v a b h

pub Holds-back : (v : ℕ → PowerMap) (a b : List Step) → Holds v (a ++ b) → Holds v b
Holds-back v [] b h = h
Holds-back v (row_at at u ∷ a) b h = Holds-back v a b h.1
Holds-back v (wrong_shape_at at ∷ a) b h = Holds-back v a b h.1
Holds-back v (type_at at t ∷ a) b h = Holds-back v a b h

pub Holds-append : (v : ℕ → PowerMap) (a b : List Step) → Holds v a → Holds v b → Holds v (a ++ b)
Holds-append v [] b h k = k
Holds-append v (row_at at u ∷ a) b h k = (h.0, Holds-append v a b h.1 k)
Holds-append v (wrong_shape_at at ∷ a) b h k = (h.0, Holds-append v a b h.1 k)
Holds-append v (type_at at t ∷ a) b h k = Holds-append v a b h k

-- ---- types hold always
pub types_hold : (v : ℕ → PowerMap) (at : ℕ) (ts : List TypeTree) → Holds v (types_at at ts)
types_hold v at [] = tt
types_hold v at (t ∷ ts) = types_hold v at ts

-- ---- a row that no units satisfy
pub never_solved : {A : Type 0} (v : ℕ → PowerMap) → replace v (atom (Base 0)) ≡ one → A
never_solved v e =
    let clash : pos 1 ≡ pos 0 = sym (power_of-atom (Base 0)) ∙ ap (λ u. power_of u (Base 0)) (sym (replace-base v 0) ∙ e) ∙ power_of-one (Base 0) in
    absurd (cc clash)

-- ---- the row of two units
quotient_replaced : (v : ℕ → PowerMap) (u w : PowerMap) → replace v (mul u (inv w)) ≡ mul (replace v u) (inv (replace v w))
quotient_replaced v u w = replace-mul v u (inv w) ∙ ap (mul (replace v u)) (replace-inv v w)

pub same_from_row : (v : ℕ → PowerMap) (u w : PowerMap) → replace v (mul u (inv w)) ≡ one → replace v u ≡ replace v w
same_from_row v u w e = same_from_quotient (replace v u) (replace v w) (sym (quotient_replaced v u w) ∙ e)

pub row-same : (v : ℕ → PowerMap) (u w : PowerMap) → replace v u ≡ replace v w → replace v (mul u (inv w)) ≡ one
row-same v u w e = quotient_replaced v u w ∙ quotient-same (replace v u) (replace v w) e
