-- Slots that are given to keys one by one, as the code gives them.
-- Source: this project's own; want of memory may come in place of every answer, and no public clause rests on it.
use Rattle.std.specs.Prelude.{◌≡◌, ◌<◌, ◌≤◌, ℕ, false, if◌then◌else◌, IsTrue, List, [], ◌∷◌, ◌++◌, length}
use Rattle.std.specs.Prelude.{slice_index_or, Option, Some, None, Result, MatchResult}
use Rattle.um_units.specs.declared.Atom.TheVariants.{Var}
use Rattle.um_units.specs.PowerMap.{PowerMap, one, atom, nth}
use Rattle.um_slots.specs.declared.stop.SlotStop.{SlotStop}
use Rattle.um_slots.specs.declared.stop.SlotStop.TheVariants as stop
use Rattle.um_slots.specs.declared.slots.Slots.{Slots}
use Rattle.um_slots.specs.Keys.{Key, hole, name}
use Rattle.um_slots.specs.Slots.{has_slot, place}

-- the order with the key at its end, unless it is there
abbrev pub with_key : List Key → Key → List Key
with_key order k = if has_slot order k then order else order ++ k ∷ []

abbrev pub with_keys : List Key → List Key → List Key
with_keys order [] = order
with_keys order (k ∷ ks) = with_keys (with_key order k) ks

-- the slot of a key, if it has one
abbrev pub found_slot : List Key → Key → Option ℕ
found_slot order k = if has_slot order k then Some (place order k) else None

-- the slots are those of the order: of the holes below a number, and of named variables
pub record IsTable (order : List Key) (t : Slots) : Type 0 where
  pub count : t.count ≡ length order
  pub few : length order ≤ 2000
  pub holes : (k : ℕ) → k < length t.holes.items → IsTrue (has_slot order (hole k))
      × (nth t.holes.items k ≡ atom (Var (place order (hole k))))
  pub later : (k : ℕ) → length t.holes.items ≤ k → has_slot order (hole k) ≡ false
  pub names : (k : ℕ) → slice_index_or t.names.items k None ≡ found_slot order (name k)

-- the stop is at more than 2,000 slots
abbrev pub StopsSlots : List Key → SlotStop → Type 0
StopsSlots order stop.TooMany = 2000 < length order
StopsSlots order stop.NoMemory = Unit {0}

-- the keys have slots, or there are too many
abbrev pub HaveSlots : List Key → Slots → Slots → Result (Unit {0}) SlotStop → Type 0
HaveSlots keys old new r =
    (order : List Key) → IsTable order old → MatchResult r
    (λ _. IsTable (with_keys order keys) new) (StopsSlots (with_keys order keys))

-- the unit of a named variable: its slot's variable, if it has one
abbrev pub name_unit : Option ℕ → PowerMap
name_unit (Some k) = atom (Var k)
name_unit None = one
