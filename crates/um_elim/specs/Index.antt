-- The code's: for each variable the slots whose units hold it. An elimination step changes the units of these slots
-- alone.
-- Source: this project's own; no public clause rests on it.
use Rattle.std.specs.Prelude.{◌≡◌, ℕ, suc, ◌<◌, IsTrue, Bool, not, ◌==◌, nat_lt}
use Rattle.std.specs.Prelude.{if◌then◌else◌, List, [], ◌∷◌, set, length, All, slice_index_or}
use Rattle.std.specs.List.{list_any}
use Rattle.um_units.specs.declared.Atom.{Atom}
use Rattle.um_units.specs.declared.Atom.TheVariants.{Base, Var}
use Rattle.um_units.specs.declared.Term.{Term}
use Rattle.um_units.specs.Terms.{is_zero}
use Rattle.um_units.specs.PowerMap.{PowerMap, power_of}
use Rattle.um_units.specs.Range.{fits}
use Rattle.um_units.specs.Variables.{VariablesBelow}

-- variable k stands in the unit
abbrev pub holds : ℕ → PowerMap → Bool
holds k u = not (is_zero (power_of u (Var k)))

-- the slots from a on whose units hold variable k, in order
abbrev pub holders_from : ℕ → ℕ → List PowerMap → List ℕ
holders_from k a [] = []
holders_from k a (u ∷ us) = if holds k u then a ∷ holders_from k (suc a) us else holders_from k (suc a) us

-- the slots whose units hold variable k, in order
abbrev pub holders : List PowerMap → ℕ → List ℕ
holders us k = holders_from k 0 us

-- the index names for each variable exactly the slots whose units hold it. Variables are below the number of slots
pub record IsIndex (us : List PowerMap) (index : List (List ℕ)) : Type 0 where
  pub slots : length index ≡ length us
  pub exact : (k : ℕ) → k < length index → slice_index_or index k [] ≡ holders us k
  pub variables : All (VariablesBelow (length us)) us
  pub fit : All (λ u. IsTrue (fits u)) us

-- ---- lists of slots, in order the slots with one more, after the last that is less
abbrev pub with_slot : List ℕ → ℕ → List ℕ
with_slot [] s = s ∷ []
with_slot (x ∷ xs) s = if list_any (λ y. nat_lt y s) (x ∷ xs) then x ∷ with_slot xs s else s ∷ x ∷ xs

-- the slots without the first that is this one
abbrev pub without_slot : List ℕ → ℕ → List ℕ
without_slot [] s = []
without_slot (x ∷ xs) s = if x == s then xs else x ∷ without_slot xs s

-- the slots, if one of them held a variable or not, and holds it now or not
abbrev pub followed : List ℕ → ℕ → Bool → Bool → List ℕ
followed xs s was is = if was then (if is then xs else without_slot xs s) else (if is then with_slot xs s else xs)

-- ---- an index, if slot s had the unit old and gets the unit new: it follows at one atom, and at those of terms
abbrev pub followed_at : List (List ℕ) → Atom → ℕ → PowerMap → PowerMap → List (List ℕ)
followed_at index (Base n) s old new = index
followed_at index (Var k) s old new = set index k (followed (slice_index_or index k []) s (holds k old) (holds k new))

abbrev pub followed_terms : List (List ℕ) → List Term → ℕ → PowerMap → PowerMap → List (List ℕ)
followed_terms index [] s old new = index
followed_terms index (t ∷ ts) s old new = followed_terms (followed_at index t.atom s old new) ts s old new
