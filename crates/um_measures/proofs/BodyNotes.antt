-- Expressions in whose parts no note names a variable.
use Rattle.std.proofs.Common.{◌≡◌, ℕ, Bool, true, false, ◌||◌, List, [], ◌++◌, refl, sym, ap, ◌∙◌}
use Rattle.std.proofs.lemmas.List.{append-nil}
use Rattle.um_tree.specs.RawTree.{FunctionSyntax}
use Rattle.um_measures.specs.Variables.{expr_variables, occurring_in_head, first_occurrences, head_variables, named_variables}

pub neither : (a b : Bool) → (a || b) ≡ false → (a ≡ false) × (b ≡ false)
neither false false h = (refl, refl)
neither false true h = cc
neither true b h = cc

pub both_none : (a b : Bool) (xs ys : List (List ℕ)) → (a ≡ false → xs ≡ []) → (b ≡ false → ys ≡ []) → (a || b) ≡ false → xs ++ ys ≡ []
both_none a b xs ys f g h = let parts = neither a b h in ap (λ (vs : List (List ℕ)). vs ++ ys) (f parts.0) ∙ g parts.1

-- one item more has none
pub none_next : (any here : Bool) (total whole xs ys : List (List ℕ)) → (any ≡ false → total ≡ whole) → whole ≡ xs ++ ys → (here ≡ false → xs ≡ []) → (any || here) ≡ false → total ≡ ys
none_next any here total whole xs ys before w none h =
    let parts = neither any here h in
    before parts.0 ∙ w ∙ ap (λ (vs : List (List ℕ)). vs ++ ys) (none parts.1)

-- a function whose body names none has the variables of its head
pub head_has_all : (us : List (List ℕ)) (f : FunctionSyntax) → expr_variables f.body ≡ [] → head_variables us f ≡ named_variables us f
head_has_all us f none = ap (first_occurrences us) (sym (ap (λ (vs : List (List ℕ)). occurring_in_head f ++ vs) none ∙ append-nil (occurring_in_head f)))
