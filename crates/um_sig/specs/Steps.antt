-- The code's: what its steps answer, against the definitions.
-- Source: this project's own; no public clause rests on it.
use Rattle.std.specs.Prelude.{◌≡◌, ◌<◌, ◌+◌, ◌^◌, ◌==◌, ◌&&◌, ℕ, Bool, true, false, All, List, length}
use Rattle.std.specs.Prelude.{Option, Some, None, Result, Ok, Err, negsuc}
use Rattle.um_units.specs.declared.Atom.{Atom}
use Rattle.um_units.specs.declared.Atom.TheVariants.{Base, Var}
use Rattle.um_units.specs.declared.Term.{Term}
use Rattle.um_units.specs.PowerMap.{PowerMap, scale}
use Rattle.um_tree.specs.TypeTree.{TypeTree, bool_type, num_type, list_type, record_type}
use Rattle.um_elim.specs.Elimination.{Elimination, Solved, NoSolution, Range}
use Rattle.um_elim.specs.Solution.{Solution}
use Rattle.um_elim.specs.declared.stop.ElimStop.{ElimStop}
use Rattle.um_elim.specs.declared.stop.ElimStop.TheVariants as elimination
use Rattle.um_sig.specs.declared.stop.SigStop.{SigStop}
use Rattle.um_sig.specs.declared.stop.SigStop.TheVariants as stop
use Rattle.um_sig.specs.Form.{AreAlike, IsFirstDifference}
use Rattle.um_sig.specs.Matching.{eliminate_each}

-- ---- forms

abbrev pub same_form : TypeTree → TypeTree → Bool
same_form bool_type bool_type = true
same_form (num_type u) (num_type v) = true
same_form (list_type s) (list_type t) = same_form s t
same_form (record_type r us) (record_type q vs) = r == q && length us == length vs
same_form s t = false

-- a type stands there, and has the form
abbrev pub same_form_at : TypeTree → Option TypeTree → Bool
same_form_at s None = false
same_form_at s (Some t) = same_form s t

abbrev pub IsDifference : List TypeTree → List TypeTree → Option ℕ → Type 0
IsDifference ss ts None = AreAlike ss ts
IsDifference ss ts (Some i) = IsFirstDifference ss ts i

-- ---- rows

abbrev pub fixed_atom : ℕ → Atom → Atom
fixed_atom bases (Base n) = Base n
fixed_atom bases (Var k) = Base (bases + k)

-- the term in the inverse of a signature's unit
abbrev pub inverse_term : ℕ → Term → Term
inverse_term bases t = scale (negsuc 0) (record { atom = fixed_atom bases t.atom; power = t.power })

-- each variable has room after the base units
abbrev pub HasRoom : ℕ → Atom → Type 0
HasRoom bases (Base n) = Unit {0}
HasRoom bases (Var k) = bases + k < 2 ^ 32

abbrev pub HaveRoom : ℕ → List ℕ → Type 0
HaveRoom bases ks = All (λ k. bases + k < 2 ^ 32) ks

-- ---- the solver

-- the rows are eliminated one after another, and only then the solver goes on
abbrev pub AreEliminated : List PowerMap → Solution → Solution → Result (Unit {0}) ElimStop → Type 0
AreEliminated rows old new (Ok _) =
    (eliminate_each old.units rows ≡ Solved new.units) × (new.spent ≡ false) × (length new.units ≡ length old.units)
AreEliminated rows old new (Err elimination.NoSolution) = eliminate_each old.units rows ≡ NoSolution
AreEliminated rows old new (Err elimination.Range) = eliminate_each old.units rows ≡ Range
AreEliminated rows old new (Err elimination.Spent) = ⊥
AreEliminated rows old new (Err elimination.NoMemory) = Unit {0}

-- the rows of the type at index i
abbrev pub RefusesType : ℕ → Elimination → SigStop → Type 0
RefusesType i e (stop.Form k) = ⊥
RefusesType i e (stop.Units k) = (e ≡ NoSolution) × (k ≡ i)
RefusesType i e (stop.Range k) = (e ≡ Range) × (k ≡ i)
RefusesType i e stop.NoMemory = Unit {0}

abbrev pub IsTypeMatched : ℕ → List PowerMap → Solution → Solution → Result (Unit {0}) SigStop → Type 0
IsTypeMatched i rows old new (Ok _) =
    (eliminate_each old.units rows ≡ Solved new.units) × (new.spent ≡ false) × (length new.units ≡ length old.units)
IsTypeMatched i rows old new (Err e) = RefusesType i (eliminate_each old.units rows) e
