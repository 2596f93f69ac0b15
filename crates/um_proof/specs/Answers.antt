-- What the makers of certificates answer. Want of memory may come in place of every answer.
-- Source: Kennedy (1996): rows that a function is given a scheme by have a most general solution, and rows that it is
-- refused by have none. Which numbers a certificate can hold is this project's own.
use Rattle.std.specs.Prelude.{◌≡◌, ◌⊎◌, ℕ, ◌+◌, ◌^◌, ◌≤◌, ◌<◌, true, false, length, All, Result, Ok, Err}
use Rattle.um_units.specs.Variables.{VariablesBelow}
use Rattle.um_tree.specs.ProgramTree.{SchemeTree}
use Rattle.um_tree.specs.Laws.{TypeHas}
use Rattle.um_tree.specs.Scheme.{signature_types, variables}
use Rattle.um_equal_types.specs.declared.row.Rows.{Rows}
use Rattle.um_rows.specs.Answers.{rows_signature}
use Rattle.um_equal_types.specs.Steps.{units_of}
use Rattle.um_rows.specs.Judgement.{Judgement, has_no_typing, not_general, by_rows}
use Rattle.um_check.specs.declared.certificate.Yes.{Yes}
use Rattle.um_check.specs.declared.certificate.No.{No}
use Rattle.um_check.specs.Validity.{IsValidYes}
use Rattle.um_check.specs.Refutation.{IsValidNo}
use Rattle.um_kept.specs.declared.stop.CertStop.{CertStop}
use Rattle.um_kept.specs.declared.stop.CertStop.TheVariants as stop
use Rattle.um_kept.specs.Kept.{first}
use Rattle.um_kept.specs.Answers.{HoldsNoParameter}
use Rattle.um_kept.specs.Formed.{PassesInRows, PassesAtEnd}

-- ---- what is asked of the rows of a function with so many unit parameters, as `rows` of um_rows gives them

pub record AreFunctionRows (bases parameters : ℕ) (r : Rows) : Type 0 where
  pub few : r.slots ≤ 2000
  pub number : length r.list.items.items ≤ 4294967295
  pub parameters_within : parameters ≤ r.slots
  pub bases_below : bases + parameters < 2 ^ 32
  pub rows : All (VariablesBelow r.slots) (units_of r.list.items.items)
  pub types : All (λ k. k < r.slots) (variables (signature_types (rows_signature r)))
  pub declared_rows : All (HoldsNoParameter bases parameters) (units_of r.list.items.items)
  pub declared_types : All (TypeHas (HoldsNoParameter bases parameters)) (signature_types (rows_signature r))

-- what the rows are judged, where a power of the scheme that passes the range is refused at this place
abbrev pub judged : ℕ → ℕ → ℕ → Rows → Judgement
judged bases parameters at r = by_rows bases parameters r.slots at (rows_signature r) r.list.items.items

-- ---- a Yes

abbrev pub IsYesMade : ℕ → ℕ → Rows → SchemeTree → Result Yes CertStop → Type 0
IsYesMade bases parameters r s (Ok c) =
    IsValidYes bases parameters r.slots (units_of r.list.items.items) (rows_signature r) s c
IsYesMade bases parameters r s (Err (stop.CertRange z)) =
    PassesInRows (units_of r.list.items.items) (first bases parameters r.slots) z
    ⊎ PassesAtEnd (units_of r.list.items.items) (first bases parameters r.slots) z
IsYesMade bases parameters r s (Err stop.NoMemory) = Unit {0}

-- ---- a No

-- it names the first unsolvable row, and whether the rows up to it have no solution with unit parameters as slots
-- either
abbrev pub NamesRefusal : Judgement → No → Type 0
NamesRefusal (has_no_typing row at) c = (c.last ≡ row) × (c.loose ≡ true)
NamesRefusal (not_general row at) c = (c.last ≡ row) × (c.loose ≡ false)
NamesRefusal j c = ⊥

-- the rows are refused, where unit parameters are slots like the others, or only where they are units of their own
abbrev pub IsRefusedLoosely : Judgement → Type 0
IsRefusedLoosely j = (row at : ℕ) × (j ≡ has_no_typing row at)

abbrev pub IsRefused : Judgement → Type 0
IsRefused j = (row at : ℕ) × ((j ≡ has_no_typing row at) ⊎ (j ≡ not_general row at))

abbrev pub IsNoMade : ℕ → ℕ → Rows → Judgement → Result No CertStop → Type 0
IsNoMade bases parameters r j (Ok c) = IsValidNo bases parameters (units_of r.list.items.items) c × NamesRefusal j c
IsNoMade bases parameters r j (Err (stop.CertRange z)) =
    PassesInRows (units_of r.list.items.items) (first bases parameters r.slots) z
    ⊎ (IsRefusedLoosely j × PassesInRows (units_of r.list.items.items) (first bases 0 r.slots) z)
IsNoMade bases parameters r j (Err stop.NoMemory) = Unit {0}
