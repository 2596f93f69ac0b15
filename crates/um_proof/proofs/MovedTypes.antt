-- A change of units that leaves the base units of types, after units are put for their variables.
use Rattle.std.proofs.Common.{◌≡◌, refl, ap, ℕ, ◌<◌, List, [], ◌∷◌, ◌++◌, map}
use Rattle.std.specs.Prelude.{All}
use Rattle.std.proofs.lemmas.List.Elements.{All-head, All-tail}
use Rattle.um_units.specs.declared.Atom.TheVariants.{Base}
use Rattle.um_units.specs.PowerMap.{PowerMap, atom, replace}
use Rattle.um_tree.specs.TypeTree.{TypeTree, bool_type, num_type, list_type, record_type}
use Rattle.um_tree.specs.ProgramTree.{Signature}
use Rattle.um_tree.specs.Typing.{put, put_signature, moved, moved_signature, IsHomomorphism}
use Rattle.um_tree.specs.Scheme.{signature_types}
use Rattle.um_tree.specs.Formed.{BasesBelow}
use Rattle.um_tree.specs.Laws.{TypeHas}
use Rattle.um_tree.proofs.Homomorphisms.{h-replace}

module _ (h : PowerMap → PowerMap) (h-mul : IsHomomorphism h) (bases : ℕ) (left : (k : ℕ) → k < bases → h (atom (Base k)) ≡ atom (Base k)) (s : ℕ → PowerMap) where
  abbrev Declared : TypeTree → Type 0
  Declared = TypeHas (BasesBelow bases)

  pub unit_moved : (u : PowerMap) → BasesBelow bases u → h (replace s u) ≡ replace (λ k. h (s k)) u
  unit_moved u low = h-replace h h-mul u (λ k held. left k (low k held)) s

  units_moved : (us : List PowerMap) → All (BasesBelow bases) us → map h (map (replace s) us) ≡ map (replace (λ k. h (s k))) us
  units_moved [] low = refl
  units_moved (u ∷ us) low = λ i. unit_moved u (All-head (BasesBelow bases) u us low) i ∷ units_moved us (All-tail (BasesBelow bases) u us low) i

  type_moved : (t : TypeTree) → Declared t → moved h (put s t) ≡ put (λ k. h (s k)) t
  type_moved bool_type low = refl
  type_moved (num_type u) low = ap num_type (unit_moved u low)
  type_moved (list_type t) low = ap list_type (type_moved t low)
  type_moved (record_type r us) low = ap (record_type r) (units_moved us low)

  types_moved : (ts : List TypeTree) (t : TypeTree) → All Declared (ts ++ t ∷ []) →
      (map (moved h) (map (put s) ts) ≡ map (put (λ k. h (s k))) ts) × (moved h (put s t) ≡ put (λ k. h (s k)) t)
  types_moved [] t low = (refl, type_moved t (All-head Declared t [] low))
  types_moved (x ∷ xs) t low =
      let first = type_moved x (All-head Declared x (xs ++ t ∷ []) low) in
      let rest = types_moved xs t (All-tail Declared x (xs ++ t ∷ []) low) in
      ((λ i. first i ∷ rest.0 i), rest.1)

  pub signature_moved : (g : Signature) → All Declared (signature_types g) → moved_signature h (put_signature s g) ≡ put_signature (λ k. h (s k)) g
  signature_moved g low = let p = types_moved g.params g.result low in λ i. record { params = p.0 i; result = p.1 i }
