-- The rows of two types that must be equal, at another place.
use Rattle.std.proofs.Common.{◌≡◌, ℕ, ◌==◌, Bool, true, false, cond, List, [], ◌∷◌, ◌++◌, map, refl, sym, ◌∙◌}
use Rattle.std.proofs.lemmas.List.{map-append}
use Rattle.um_units.specs.PowerMap.{PowerMap}
use Rattle.um_tree.specs.TypeTree.{TypeTree, bool_type, num_type, list_type, record_type}
use Rattle.um_equal_types.specs.Steps.{Step, row_at, wrong_shape_at, type_at, types_at}
use Rattle.um_equal_types.specs.Against.{never, unit_against, units_against, against, types_against, against_each}
use Rattle.um_rows.specs.Rules.{Derived, AllDerived, after, formed, asks_bool, asks_list}

abbrev pub placed_step : (ℕ → ℕ) → Step → Step
placed_step place (row_at at u) = row_at (place at) u
placed_step place (wrong_shape_at at) = wrong_shape_at (place at)
placed_step place (type_at at t) = type_at (place at) t

module _ (place : ℕ → ℕ) where
  abbrev pub placed : List Step → List Step
  placed ss = map (placed_step place) ss

  abbrev pub moved : Derived → Derived
  moved d = record { type = d.type; steps = placed d.steps }

  abbrev pub all_moved : AllDerived → AllDerived
  all_moved ds = record { types = ds.types; steps = placed ds.steps }

  pub joined : (rs ss ts us : List Step) → ts ≡ placed rs → us ≡ placed ss → ts ++ us ≡ placed (rs ++ ss)
  joined rs ss ts us p q = (λ i. p i ++ q i) ∙ sym (map-append (placed_step place) rs ss)

  pub head_placed : (at : ℕ) (ts : List TypeTree) → types_at (place at) ts ≡ placed (types_at at ts)
  head_placed at [] = refl
  head_placed at (t ∷ ts) = λ i. type_at (place at) t ∷ head_placed at ts i

  -- ---- one type against another

  units_placed : (at : ℕ) (us vs : List PowerMap) → units_against (place at) us vs ≡ placed (units_against at us vs)
  units_placed at [] [] = refl
  units_placed at [] (v ∷ vs) = refl
  units_placed at (u ∷ us) [] = refl
  units_placed at (u ∷ us) (v ∷ vs) = λ i. unit_against (place at) u v ∷ units_placed at us vs i

  tested : (at : ℕ) (b : Bool) (more ss : List Step) → more ≡ placed ss → cond b more (never (place at)) ≡ placed (cond b ss (never at))
  tested at true more ss e = e
  tested at false more ss e = refl

  pub against_placed : (at : ℕ) (s t : TypeTree) → against (place at) s t ≡ placed (against at s t)
  against_placed at bool_type bool_type = refl
  against_placed at bool_type (num_type v) = refl
  against_placed at bool_type (list_type t) = refl
  against_placed at bool_type (record_type q vs) = refl
  against_placed at (num_type u) bool_type = refl
  against_placed at (num_type u) (num_type v) = refl
  against_placed at (num_type u) (list_type t) = refl
  against_placed at (num_type u) (record_type q vs) = refl
  against_placed at (list_type s) bool_type = refl
  against_placed at (list_type s) (num_type v) = refl
  against_placed at (list_type s) (list_type t) = against_placed at s t
  against_placed at (list_type s) (record_type q vs) = refl
  against_placed at (record_type r us) bool_type = refl
  against_placed at (record_type r us) (num_type v) = refl
  against_placed at (record_type r us) (list_type t) = refl
  against_placed at (record_type r us) (record_type q vs) = tested at (r == q) (units_against (place at) us vs) (units_against at us vs) (units_placed at us vs)

  pub types_placed : (at : ℕ) (ss ts : List TypeTree) → types_against (place at) ss ts ≡ placed (types_against at ss ts)
  types_placed at [] [] = refl
  types_placed at [] (t ∷ ts) = refl
  types_placed at (s ∷ ss) [] = refl
  types_placed at (s ∷ ss) (t ∷ ts) = joined (against at s t) (types_against at ss ts) (against (place at) s t) (types_against (place at) ss ts) (against_placed at s t) (types_placed at ss ts)

  pub each_placed : (at : ℕ) (s : TypeTree) (ts : List TypeTree) → against_each (place at) s ts ≡ placed (against_each at s ts)
  each_placed at s [] = refl
  each_placed at s (t ∷ ts) = joined (against at s t) (against_each at s ts) (against (place at) s t) (against_each (place at) s ts) (against_placed at s t) (each_placed at s ts)

  pub bool_placed : (at : ℕ) (t : TypeTree) → asks_bool (place at) t ≡ placed (asks_bool at t)
  bool_placed at bool_type = refl
  bool_placed at (num_type u) = refl
  bool_placed at (list_type t) = refl
  bool_placed at (record_type r us) = refl

  pub list_placed : (at : ℕ) (t : TypeTree) → asks_list (place at) t ≡ placed (asks_list at t)
  list_placed at bool_type = refl
  list_placed at (num_type u) = refl
  list_placed at (list_type t) = refl
  list_placed at (record_type r us) = refl

  -- ---- a node

  pub formed_placed : (at : ℕ) (ss more : List Step) (t : TypeTree) → more ≡ placed ss → formed (place at) more t ≡ moved (formed at ss t)
  formed_placed at ss more t e =
      let steps : more ++ type_at (place at) t ∷ [] ≡ placed (ss ++ type_at at t ∷ []) = joined ss (type_at at t ∷ []) more (type_at (place at) t ∷ []) e refl in
      λ i. record { type = t; steps = steps i }

  pub after_placed : (ss more : List Step) (d e : Derived) → more ≡ placed ss → e ≡ moved d → after more e ≡ moved (after ss d)
  after_placed ss more d e p q =
      let steps : more ++ e.steps ≡ placed (ss ++ d.steps) = joined ss d.steps more e.steps p (λ i. (q i).steps) in
      λ i. record { type = (q i).type; steps = steps i }
