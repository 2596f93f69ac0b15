-- Mirrors the code: the numbers of the names of a table, kept by name.
-- Source: this project's own.
use Rattle.std.specs.Prelude.{◌≡◌, ◌≤◌, ℕ, List, map}
use Rattle.std.specs.Global.{Vec}
use Rattle.std.specs.HashMap.{HashMap, keys, values, hash_map_len}
use Rattle.std.specs.List.{range_with_len}

-- the names in the order in which the map has them
abbrev pub names_of : {S : Type 0} → HashMap (Vec ℕ) ℕ S → List (List ℕ)
names_of numbers = map (λ name. name.items) (keys numbers)

-- the number of each name is its place in this order, and all numbers fit 32 bits
pub record AreNumbered {S : Type 0} (numbers : HashMap (Vec ℕ) ℕ S) : Type 0 where
  pub few : hash_map_len numbers ≤ 4294967295
  pub same : values numbers ≡ range_with_len 0 (hash_map_len numbers)
