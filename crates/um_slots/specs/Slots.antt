-- The slots of a function: those of its unit parameters are the first, so that parameter k has slot k, and then come
-- its holes and its other named variables, by their first occurrence.
-- Source: Kennedy (1996): the unknowns of the equations. Their order is this project's own; it decides which of the
-- schemes with the same instances is printed.
use Rattle.std.specs.Prelude.{ℕ, ◌+◌, ◌*◌, nat_eq, not, Bool, false, if◌then◌else◌, List, [], ◌∷◌, length, filter}
use Rattle.std.specs.List.{list_any, position_or_len}
use Rattle.um_units.specs.declared.Atom.TheVariants.{Var}
use Rattle.um_units.specs.PowerMap.{PowerMap, atom}
use Rattle.um_tree.specs.ProgramTree.{RecordTree, FunctionTree, SchemeTree}
use Rattle.um_slots.specs.Keys.{Key, hole, name, function_keys}

abbrev pub same_key : Key → Key → Bool
same_key (hole j) (hole k) = nat_eq j k
same_key (name j) (name k) = nat_eq j k
same_key j k = false

-- the keys, each once: the first, and then those of the rest but the first
abbrev pub slot_order : List Key → List Key
slot_order [] = []
slot_order (k ∷ ks) = k ∷ filter (λ j. not (same_key j k)) (slot_order ks)

abbrev pub has_slot : List Key → Key → Bool
has_slot order k = list_any (same_key k) order

-- the place of a key in the order, counted from 0
abbrev pub place : List Key → Key → ℕ
place order k = position_or_len (same_key k) order

-- a number of its own for each key that doesn't occur
abbrev pub own_number : Key → ℕ
own_number (hole k) = k * 2
own_number (name k) = k * 2 + 1

-- the slot of a key is its place in the order. A key that doesn't occur has one past them
abbrev pub slot : List Key → Key → ℕ
slot order k = if has_slot order k then place order k else length order + own_number k

-- the slot's variable
abbrev pub slot_unit : List Key → Key → PowerMap
slot_unit order k = atom (Var (slot order k))

abbrev pub function_slots : List RecordTree → List SchemeTree → ℕ → FunctionTree → List Key
function_slots records schemes i f = slot_order (function_keys records schemes i f)

-- how many slots there are
abbrev pub slot_count : List RecordTree → List SchemeTree → ℕ → FunctionTree → ℕ
slot_count records schemes i f = length (function_slots records schemes i f)
