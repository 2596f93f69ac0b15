-- A refused type among those that a solution is put in.
-- Source: Kennedy (1996): a substitution applied to a type.
use Rattle.std.proofs.Common.{◌≡◌, ℕ, ◌<◌, Bool, true, false, ◌&&◌, List, [], ◌∷◌, ◌++◌, length, get_or, map, refl, sym, ap, ◌∙◌}
use Rattle.std.specs.List.{list_all}
use Rattle.std.proofs.lemmas.List.Folds.{list_all-append, list_all-map, list_all_at}
use Rattle.um_units.specs.PowerMap.{PowerMap}
use Rattle.um_tree.specs.declared.types.Ty.{Ty}
use Rattle.um_tree.specs.TypeTree.{TypeTree, type_tree}
use Rattle.um_tree.specs.Typing.{put}
use Rattle.um_elim.specs.Application.{type_fits}
use Rattle.um_solving.specs.declared.refusal.Refusal.{Refusal}
use Rattle.um_solving.specs.declared.refusal.Refusal.TheVariants as refusal
use Rattle.um_solving.specs.Solving.{RefusesUnless}

pub refuses_both : (at : ℕ) (a b : Bool) (r : Refusal) → (a ≡ false → b ≡ false) → RefusesUnless at a r → RefusesUnless at b r
refuses_both at a b (refusal.Units k) false_too h = h
refuses_both at a b (refusal.NotGeneral k) false_too h = h
refuses_both at a b (refusal.PowerRange k) false_too h = (false_too h.0, h.1)
refuses_both at a b refusal.Slots false_too h = h
refuses_both at a b refusal.NoMemory false_too h = h

-- a type that is refused is one of them
pub refused_among : (at : ℕ) (s : ℕ → PowerMap) (ts : List Ty) (i : ℕ) (ty : Ty) (r : Refusal) → i < length ts → ty ≡ get_or ts i ty →
    RefusesUnless at (type_fits (put s (type_tree ty))) r → RefusesUnless at (list_all type_fits (map (put s) (map type_tree ts))) r
refused_among at s ts i ty r l is =
    refuses_both at (type_fits (put s (type_tree ty))) (list_all type_fits (map (put s) (map type_tree ts))) r
    (λ e.
    let here : type_fits (put s (type_tree (get_or ts i ty))) ≡ false = ap (λ (t : Ty). type_fits (put s (type_tree t))) (sym is) ∙ e in
    list_all-map type_fits (put s) (map type_tree ts) ∙ list_all-map (λ t. type_fits (put s t)) type_tree ts ∙ list_all_at (λ (t : Ty). type_fits (put s (type_tree t))) ts i ty l here)

-- the first types are refused, or the last
pub refused_before : (at : ℕ) (ts : List TypeTree) (t : TypeTree) (r : Refusal) → RefusesUnless at (list_all type_fits ts) r → RefusesUnless at (list_all type_fits (ts ++ t ∷ [])) r
refused_before at ts t r =
    refuses_both at (list_all type_fits ts) (list_all type_fits (ts ++ t ∷ [])) r
    (λ e. list_all-append type_fits ts (t ∷ []) ∙ ap (λ b. b && list_all type_fits (t ∷ [])) e)

pub refused_last : (at : ℕ) (ts : List TypeTree) (t : TypeTree) (r : Refusal) → RefusesUnless at (type_fits t) r → RefusesUnless at (list_all type_fits (ts ++ t ∷ [])) r
refused_last at ts t r =
    refuses_both at (type_fits t) (list_all type_fits (ts ++ t ∷ [])) r
    (λ e. list_all-append type_fits ts (t ∷ []) ∙ ap (λ b. list_all type_fits ts && (b && true)) e ∙ both_false (list_all type_fits ts))
  where
    both_false : (b : Bool) → (b && false) ≡ false
    both_false true = refl
    both_false false = refl
