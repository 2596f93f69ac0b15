-- The code's: the solution of a certificate, whose variables are numbered, and the way back from them.
-- Source: this project's own; no public clause rests on it.
use Rattle.std.specs.Prelude.{◌≡◌, ℕ, ◌+◌, nat_eq, Bool, true, false, IsTrue, List, ◌++◌, length, map, filter, All}
use Rattle.std.specs.List.{flat_map, list_any, range_with_len}
use Rattle.um_units.specs.declared.Atom.{Atom}
use Rattle.um_units.specs.declared.Atom.TheVariants.{Base, Var}
use Rattle.um_units.specs.PowerMap.{PowerMap, atom, replace, nth}
use Rattle.um_tree.specs.TypeTree.{TypeTree, num_type}
use Rattle.um_tree.specs.Formed.{BasesBelow}
use Rattle.um_tree.specs.ProgramTree.{Signature}
use Rattle.um_tree.specs.Typing.{put_signature}
use Rattle.um_tree.specs.Scheme.{signature_types, unit_variables}
use Rattle.um_elim.specs.Numbering.{variable_order, place, by_place}
use Rattle.um_rows.specs.Generalised.{generalised_unit}
use Rattle.um_kept.specs.declared.kept.Head.{Head}
use Rattle.um_proof.specs.declared.renaming.Renaming.{Renaming}

abbrev pub is_base : Atom → Bool
is_base (Base n) = true
is_base (Var k) = false

-- number k stands in the list
abbrev pub is_listed : List ℕ → ℕ → Bool
is_listed ks k = list_any (nat_eq k) ks

-- the variables below n that stand in the units, by their numbers
abbrev pub held_below : ℕ → List PowerMap → List ℕ
held_below n units = filter (is_listed (flat_map unit_variables units)) (range_with_len 0 n)

-- what is numbered: the types with the units put in, each of the variables, and the units
abbrev pub to_number : Signature → List PowerMap → List ℕ → List TypeTree
to_number g units held =
    signature_types (put_signature (nth units) g) ++ (map (λ k. num_type (atom (Var k))) held ++ map num_type units)

-- so many types, then the variables by their places in the order, and then the units
pub record AreNumbered (first : ℕ) (order held : List ℕ) (units : List PowerMap) (types : List TypeTree) : Type 0 where
  pub front : List TypeTree
  pub few : length front ≡ first
  pub are : types ≡ front ++ (map (λ k. num_type (by_place order k)) held ++ map num_type units)
  pub listed : All (λ k. IsTrue (is_listed order k)) held

-- the variables by their places in the order
pub record ArePlaces (order held : List ℕ) (places : List TypeTree) : Type 0 where
  pub are : places ≡ map (λ k. num_type (by_place order k)) held
  pub listed : All (λ k. IsTrue (is_listed order k)) held

-- each variable goes back, by its place in the order, to what it went to
abbrev pub GoBack : List ℕ → List ℕ → List PowerMap → List PowerMap → Type 0
GoBack order held back new = All (λ k. nth new (place order k) ≡ nth back k) held

module _ (h : Head) (g : Signature) (units : List PowerMap) where
  -- the unit of a parameter is a variable after the slots'
  abbrev pub general_units : List PowerMap
  general_units = map (generalised_unit h.bases h.parameters h.slots) units

  abbrev pub held_variables : List ℕ
  held_variables = held_below (h.slots + h.parameters) general_units

  -- the order that numbers the variables: those of the types by their first occurrence, then the others by their
  -- numbers
  abbrev pub certificate_order : List ℕ
  certificate_order = variable_order (to_number g general_units held_variables)

  -- the code's answer, where the variables went to these units
  pub record IsRenamed (way : List PowerMap) (r : Renaming) : Type 0 where
    pub vars : r.vars ≡ length certificate_order
    pub solution : r.solution.items ≡ map (replace (by_place certificate_order)) general_units
    pub back : GoBack certificate_order held_variables way r.back.items
    pub back_count : length r.back.items ≡ r.vars
    pub declared : (n : ℕ) → All (BasesBelow n) way → All (BasesBelow n) r.back.items
