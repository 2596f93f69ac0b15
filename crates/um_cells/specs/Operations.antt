-- What an operation on words gives, beside what it gives on the values that they denote.
-- Source: this project's own.
use Rattle.std.specs.Prelude.{◌≡◌, ℕ, Bool, Option, Some, None, Result, Ok, Err}
use Rattle.um_frac.specs.declared.number.Frac.{Frac}
use Rattle.um_tree.specs.ValueTree.{ValueTree, truth_value, number_value, list_value, record_value}
use Rattle.um_tree.specs.ValueTree.{no_values, more_values}
use Rattle.um_tree.specs.Meaning.{Stop, trap, wrong, value_at}
use Rattle.um_cells.specs.declared.store.Store.{Store}
use Rattle.um_cells.specs.declared.word.Word.{Word}
use Rattle.um_cells.specs.declared.word.ListCase.{ListCase}
use Rattle.um_cells.specs.declared.word.ListCase.TheVariants.{Empty, Items}
use Rattle.um_cells.specs.declared.operations.WordOutcome.{WordOutcome}
use Rattle.um_cells.specs.declared.operations.WordOutcome.TheVariants as outcome
use Rattle.um_cells.specs.Stores.{DenotesIn}

-- the truth value that a value is, if it is one
abbrev pub truth_in : ValueTree → Option Bool
truth_in (truth_value b) = Some b
truth_in (number_value c) = None
truth_in (list_value vs) = None
truth_in (record_value r vs) = None

-- the number that a value is, if it is one
abbrev pub number_in : ValueTree → Option Frac
number_in (truth_value b) = None
number_in (number_value c) = Some c
number_in (list_value vs) = None
number_in (record_value r vs) = None

-- the outcome of an operation on words is that on the values: a word of the value, the trap, or a wrong shape
abbrev pub IsOutcome : Store → Result ValueTree Stop → WordOutcome → Type 0
IsOutcome store (Ok v) (outcome.Value w) = DenotesIn store w v
IsOutcome store (Ok v) (outcome.Trap t) = ⊥
IsOutcome store (Ok v) outcome.Wrong = ⊥
IsOutcome store (Err stop) (outcome.Value w) = ⊥
IsOutcome store (Err stop) (outcome.Trap t) = stop ≡ trap t
IsOutcome store (Err stop) outcome.Wrong = stop ≡ wrong

-- a word is given exactly if the values give a value, and denotes it; none is given if their shapes are wrong
abbrev pub Gives : Store → Result ValueTree Stop → Option Word → Type 0
Gives store (Ok v) (Some w) = DenotesIn store w v
Gives store (Ok v) None = ⊥
Gives store (Err stop) (Some w) = ⊥
Gives store (Err stop) None = stop ≡ wrong

abbrev pub GivesIfOk : {E : Type 0} → Store → Result ValueTree Stop → Result (Option Word) E → Type 0
GivesIfOk store value (Ok given) = Gives store value given
GivesIfOk store value (Err e) = Unit {0}

-- the part of this place of a value of any record
abbrev pub part_of : ℕ → ValueTree → Result ValueTree Stop
part_of k (record_value r vs) = value_at vs k
part_of k v = Err wrong

-- a list is taken apart, as the two arms of a match have it: it is empty, or it has a first item and the others
abbrev pub TakenApart : Store → ValueTree → Option ListCase → Type 0
TakenApart store (truth_value b) given = given ≡ None
TakenApart store (number_value c) given = given ≡ None
TakenApart store (list_value no_values) given = given ≡ Some Empty
TakenApart store (list_value (more_values v vs)) given =
    (first : Word) × (others : Word) × (given ≡ Some (Items first others)) ×
    DenotesIn store first v × DenotesIn store others (list_value vs)
TakenApart store (record_value r vs) given = given ≡ None
