-- What it is answered whether a function with a scheme may be used at a signature, and what the answer says.
-- Source: this project's own, on Kennedy (1996). Want of memory may come in place of every answer.
use Rattle.std.specs.Prelude.{◌≡◌, ℕ, List, Result, Ok, Err}
use Rattle.um_units.specs.PowerMap.{PowerMap}
use Rattle.um_tree.specs.TypeTree.{TypeTree}
use Rattle.um_tree.specs.ProgramTree.{ProgramTree, SchemeTree}
use Rattle.um_sig.specs.declared.stop.SigStop.{SigStop}
use Rattle.um_sig.specs.declared.stop.SigStop.TheVariants as stop
use Rattle.um_sig.specs.Form.{AreAlike, IsFirstDifference}
use Rattle.um_sig.specs.Matching.{Matching, matched, unmatched, out_of_range, match_types}
use Rattle.um_sig.specs.Instances.{scheme_types, HasAllInstances, AreAllTypings, IsFirstUnmatched}

-- the answer to types of the same forms
abbrev pub IsMatching : Matching → Result (Unit {0}) SigStop → Type 0
IsMatching m (Ok _) = (us : List PowerMap) × (m ≡ matched us)
IsMatching m (Err (stop.Form i)) = ⊥
IsMatching m (Err (stop.Units i)) = m ≡ unmatched i
IsMatching m (Err (stop.Range i)) = m ≡ out_of_range i
IsMatching m (Err stop.NoMemory) = Unit {0}

-- forms come first: the index of their first difference, and otherwise what the matching ends with
abbrev pub IsConformed : ℕ → SchemeTree → List TypeTree → Result (Unit {0}) SigStop → Type 0
IsConformed bases s types (Err (stop.Form i)) = IsFirstDifference (scheme_types s) types i
IsConformed bases s types (Err stop.NoMemory) = Unit {0}
IsConformed bases s types r =
    AreAlike (scheme_types s) types × IsMatching (match_types bases s.vars (scheme_types s) types) r

-- what an answer says of the signature's instances
abbrev pub SaysOfInstances : ℕ → List TypeTree → List TypeTree → Result (Unit {0}) SigStop → Type 0
SaysOfInstances bases own types (Ok _) = HasAllInstances own types
SaysOfInstances bases own types (Err (stop.Form i)) = HasAllInstances own types → ⊥
SaysOfInstances bases own types (Err (stop.Units i)) =
    (HasAllInstances own types → ⊥) × IsFirstUnmatched bases own types i
SaysOfInstances bases own types (Err (stop.Range i)) = Unit {0}
SaysOfInstances bases own types (Err stop.NoMemory) = Unit {0}

-- and of the typings of function i, whose scheme it is
abbrev pub SaysOfAllTypings : ProgramTree → ℕ → List TypeTree → Result (Unit {0}) SigStop → Type 0
SaysOfAllTypings p i types (Ok _) = AreAllTypings p i types
SaysOfAllTypings p i types (Err (stop.Form k)) = AreAllTypings p i types → ⊥
SaysOfAllTypings p i types (Err (stop.Units k)) = AreAllTypings p i types → ⊥
SaysOfAllTypings p i types (Err (stop.Range k)) = Unit {0}
SaysOfAllTypings p i types (Err stop.NoMemory) = Unit {0}
