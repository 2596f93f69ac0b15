-- No unit parameter's base unit is declared.
use Rattle.std.proofs.Common.{ℕ, ◌+◌, inl, inr, List, [], ◌∷◌, arith}
use Rattle.std.specs.Prelude.{All}
use Rattle.std.proofs.lemmas.List.Elements.{All-nil, All-cons, All-head, All-tail}
use Rattle.um_units.specs.declared.Atom.TheVariants.{Base}
use Rattle.um_units.specs.PowerMap.{PowerMap, power_of, one}
use Rattle.um_units.proofs.Integers.{zero_cases}
use Rattle.um_units.proofs.Group.{power_of-one}
use Rattle.um_tree.specs.TypeTree.{TypeTree, bool_type, num_type, list_type, record_type}
use Rattle.um_tree.specs.Formed.{BasesBelow}
use Rattle.um_tree.specs.Laws.{TypeHas}
use Rattle.um_kept.specs.Answers.{HoldsNoParameter}

module _ (bases parameters : ℕ) where
  none_declared : (u : PowerMap) → BasesBelow bases u → HoldsNoParameter bases parameters u
  none_declared u low i l = elim (zero_cases (power_of u (Base (bases + i)))) [ inl e ↦ e | inr held ↦ absurd (let k = low (bases + i) held in omega (arith, k)) ]

  pub all_none : (us : List PowerMap) → All (BasesBelow bases) us → All (HoldsNoParameter bases parameters) us
  all_none [] low = All-nil (HoldsNoParameter bases parameters)
  all_none (u ∷ us) low = All-cons (HoldsNoParameter bases parameters) u us (none_declared u (All-head (BasesBelow bases) u us low)) (all_none us (All-tail (BasesBelow bases) u us low))

  type_none : (t : TypeTree) → TypeHas (BasesBelow bases) t → TypeHas (HoldsNoParameter bases parameters) t
  type_none bool_type low = tt
  type_none (num_type u) low = none_declared u low
  type_none (list_type t) low = type_none t low
  type_none (record_type r us) low = all_none us low

  pub types_none : (ts : List TypeTree) → All (TypeHas (BasesBelow bases)) ts → All (TypeHas (HoldsNoParameter bases parameters)) ts
  types_none [] low = All-nil (TypeHas (HoldsNoParameter bases parameters))
  types_none (t ∷ ts) low =
      All-cons (TypeHas (HoldsNoParameter bases parameters)) t ts (type_none t (All-head (TypeHas (BasesBelow bases)) t ts low)) (types_none ts (All-tail (TypeHas (BasesBelow bases)) t ts low))

pub one_declared : (n : ℕ) → BasesBelow n one
one_declared n k held = absurd (held (power_of-one (Base k)))
