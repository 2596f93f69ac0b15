-- Values as the code keeps them. Published: crates above use it.
use Rattle.std.proofs.Common.{◌<◌, ◌≡◌, ◌^◌, List, [], ◌∷◌, length, map, refl, ap, arith}
use Rattle.std.specs.Global.{Vec}
use Rattle.std.proofs.lemmas.List.{length-map}
use denote.RawPtr.{null_ptr}
use Rattle.um_tree.specs.declared.types.Ty.{Ty, Bool as Bool-type, Num as Num-type, List' as List-type, Rec as Rec-type}
use Rattle.um_tree.specs.declared.types.Types.{Types}
use Rattle.um_tree.specs.TypeTree.{TypeTree, bool_type, num_type, list_type, record_type, type_tree}

abbrev pub kept_items : {X : Type 0} (items : List X) → length items < 2 ^ 63 → Vec X
kept_items items few = record {
  ptr = null_ptr;
  len = length items;
  cap = length items;
  alloc = record { memory = record { seal = tt } };
  items = items;
  ok = (refl, omega arith);
  small = omega (arith, few);
}

abbrev pub kept_type : TypeTree → Ty
kept_type bool_type = Bool-type
kept_type (num_type u) = Num-type u
kept_type (list_type t) = List-type (record { ptr = null_ptr; alloc = record { memory = record { seal = tt } }; value = tt }) (kept_type t)
kept_type (record_type r us) = Rec-type r us

pub kept_is : (t : TypeTree) → type_tree (kept_type t) ≡ t
kept_is bool_type = refl
kept_is (num_type u) = refl
kept_is (list_type t) = ap list_type (kept_is t)
kept_is (record_type r us) = refl

pub kept_are : (ts : List TypeTree) → map type_tree (map kept_type ts) ≡ ts
kept_are [] = refl
kept_are (t ∷ ts) = λ i. kept_is t i ∷ kept_are ts i

abbrev pub kept_types : (ts : List TypeTree) → length ts < 2 ^ 63 → Types
kept_types ts few = let long = length-map ts kept_type in record { items = kept_items (map kept_type ts) (omega (arith, few, long)) }
