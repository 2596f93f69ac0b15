-- A solution put for the slots of types.
-- Source: Kennedy (1996): a substitution applied to a type.
use Rattle.std.proofs.Common.{◌≡◌, ℕ, ◌<◌, Bool, true, false, cond, List, [], ◌∷◌, ◌++◌, length, map, refl, sym, ap, ◌∙◌}
use Rattle.std.specs.Prelude.{All}
use Rattle.std.specs.List.{list_all}
use Rattle.std.proofs.lemmas.List.{map-append}
use Rattle.std.proofs.lemmas.List.Elements.{All-nil, All-append}
use Rattle.um_units.specs.PowerMap.{PowerMap, nth}
use Rattle.um_units.specs.Variables.{VariablesBelow}
use Rattle.um_tree.specs.TypeTree.{TypeTree}
use Rattle.um_tree.specs.ProgramTree.{Signature, SchemeTree}
use Rattle.um_tree.specs.Scheme.{signature_types, type_variables, variables}
use Rattle.um_tree.specs.Typing.{put, put_signature, moved, moved_signature}
use Rattle.um_elim.specs.Application.{type_fits}
use Rattle.um_elim.specs.Numbering.{by_place, renumbered, variable_order}
use Rattle.um_elim.specs.Solution.{rigid_units}
use Rattle.um_elim.proofs.GrowingOrder.{All-front, All-back}
use Rattle.um_elim.proofs.VariablesKept.{put_below}
use Rattle.um_equal_types.specs.declared.row.Row.{Row}
use Rattle.um_rows.specs.FirstUnsolvable.{solved, solve}
use Rattle.um_rows.specs.Generalised.{generalised_unit, generalised}
use Rattle.um_rows.specs.Judgement.{has_scheme, passes_range, signature_fits, numbered_scheme, by_solving, by_rows}
use Rattle.um_solving.specs.declared.refusal.Refusal.{Refusal}
use Rattle.um_solving.specs.declared.refusal.Refusal.TheVariants as refusal
use Rattle.um_solving.specs.Solving.{RefusesUnless, IsRefusal}

-- ---- a solution's types as a scheme

-- the variables of the types stay below the number that those of the units are below
pub puts_below : (n : ℕ) (us : List PowerMap) → All (VariablesBelow n) us → (ts : List TypeTree) → All (λ k. k < length us) (variables ts) → All (λ k. k < n) (variables (map (put (nth us)) ts))
puts_below n us low [] h = All-nil (λ k. k < n)
puts_below n us low (t ∷ ts) h =
    All-append (λ k. k < n) (type_variables (put (nth us) t)) (variables (map (put (nth us)) ts))
    (put_below n us low t (All-front (λ k. k < length us) (type_variables t) (variables ts) h))
    (puts_below n us low ts (All-back (λ k. k < length us) (type_variables t) (variables ts) h))

-- two lists with a last item are equal item by item
same_last : {A : Type 0} (xs ys : List A) (x y : A) → xs ++ x ∷ [] ≡ ys ++ y ∷ [] → (xs ≡ ys) × (x ≡ y)
same_last [] [] x y e = let last : x ≡ y = cc e in (refl, last)
same_last [] (z ∷ ys) x y e = absurd (nothing_behind ys y (let rest : [] ≡ ys ++ y ∷ [] = cc e in rest))
  where
    nothing_behind : {A : Type 0} (ys : List A) (y : A) → [] ≡ ys ++ y ∷ [] → ⊥
    nothing_behind [] y e = cc e
    nothing_behind (z ∷ ys) y e = cc e
same_last (z ∷ xs) [] x y e = absurd (nothing_left xs x (let rest : xs ++ x ∷ [] ≡ [] = cc e in rest))
  where
    nothing_left : {A : Type 0} (xs : List A) (x : A) → xs ++ x ∷ [] ≡ [] → ⊥
    nothing_left [] x e = cc e
    nothing_left (z ∷ xs) x e = cc e
same_last (z ∷ xs) (w ∷ ys) x y e =
    let rest : xs ++ x ∷ [] ≡ ys ++ y ∷ [] = cc e in
    let head : z ≡ w = cc e in
    let both = same_last xs ys x y rest in
    (λ i. head i ∷ both.0 i, both.1)

-- signatures of the same types
pub same_signature : (g h : Signature) → signature_types g ≡ signature_types h → g ≡ h
same_signature g h e = let both = same_last g.params h.params g.result h.result e in λ i. record { params = both.0 i; result = both.1 i }

pub types-put : (s : ℕ → PowerMap) (g : Signature) → signature_types (put_signature s g) ≡ map (put s) (signature_types g)
types-put s g = sym (map-append (put s) g.params (g.result ∷ []))

-- the renumbered types with their count are the numbered scheme
pub scheme_numbered : (g : Signature) (ts : List TypeTree) (s : SchemeTree) → ts ≡ signature_types g → signature_types s.signature ≡ renumbered ts → s.vars ≡ length (variable_order ts) → numbered_scheme g ≡ s
scheme_numbered g ts s types renamed count =
    let by = by_place (variable_order (signature_types g)) in
    let signature : put_signature by g ≡ s.signature = same_signature (put_signature by g) s.signature (types-put by g ∙ ap renumbered (sym types) ∙ sym renamed) in
    let vars : length (variable_order (signature_types g)) ≡ s.vars = ap (λ us. length (variable_order us)) (sym types) ∙ sym count in
    λ i. record { signature = signature i; vars = vars i }

pub types-moved : (change : PowerMap → PowerMap) (g : Signature) → signature_types (moved_signature change g) ≡ map (moved change) (signature_types g)
types-moved change g = sym (map-append (moved change) g.params (g.result ∷ []))

module _ (bases parameters slots at : ℕ) (g : Signature) (rows : List Row) (us : List PowerMap) (is : solve 0 rows (rigid_units bases parameters slots) ≡ solved us) where
  abbrev solution : Signature
  solution = put_signature (nth us) g

  abbrev scheme : SchemeTree
  scheme = numbered_scheme (generalised bases parameters slots solution)

  judged_by : (b : Bool) → signature_fits solution ≡ b → by_rows bases parameters slots at g rows ≡ cond b (has_scheme scheme) (passes_range at)
  judged_by b e = ap (by_solving bases parameters slots at g rows) is ∙ ap (λ t. cond t (has_scheme scheme) (passes_range at)) e

  -- the most general solution put for the slots of a signature, in range, with the unit parameters as variables
  pub formed_is_judged : (ts made : List TypeTree) (s : SchemeTree) → ts ≡ map (put (nth us)) (signature_types g) → list_all type_fits ts ≡ true → made ≡ map (moved (generalised_unit bases parameters slots)) ts →
      signature_types s.signature ≡ renumbered made → s.vars ≡ length (variable_order made) → by_rows bases parameters slots at g rows ≡ has_scheme s
  formed_is_judged ts made s types fit changed renamed count =
      let same : ts ≡ signature_types solution = types ∙ sym (types-put (nth us) g) in
      let inside : signature_fits solution ≡ true = ap (list_all type_fits) (sym same) ∙ fit in
      let general : made ≡ signature_types (generalised bases parameters slots solution) =
      changed ∙ ap (map (moved (generalised_unit bases parameters slots))) same ∙ sym (types-moved (generalised_unit bases parameters slots) solution) in
      judged_by true inside ∙ ap has_scheme (scheme_numbered (generalised bases parameters slots solution) made s general renamed count)

  -- or out of range
  pub past_is_judged : (r : Refusal) → RefusesUnless at (list_all type_fits (map (put (nth us)) (signature_types g))) r → IsRefusal (by_rows bases parameters slots at g rows) r
  past_is_judged (refusal.Units k) h = absurd h
  past_is_judged (refusal.NotGeneral k) h = absurd h
  past_is_judged (refusal.PowerRange k) h =
      let outside : signature_fits solution ≡ false = ap (list_all type_fits) (types-put (nth us) g) ∙ h.0 in
      rw h.1 (judged_by false outside)
  past_is_judged refusal.Slots h = absurd h
  past_is_judged refusal.NoMemory h = tt
