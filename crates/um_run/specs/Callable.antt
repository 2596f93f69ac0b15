-- Mirrors the code: what is known of the parts of a program whose functions are called many times.
-- Source: this project's own.
use Rattle.std.specs.Prelude.{◌≡◌, ℕ, List, length}
use Rattle.um_tree.specs.ProgramTree.{ProgramTree, program_tree}
use Rattle.um_tree.specs.Formed.{IsFormed}
use Rattle.um_measures.specs.declared.abbreviation.Abbreviation.{Abbreviation}
use Rattle.um_measures.specs.Known.{function_names, measure_unit, short_unit}
use Rattle.um_measures.specs.ClosedUnits.{given}
use Rattle.um_value.specs.KnownNames.{known_in}
use Rattle.um_infer.specs.Answers.{scheme_trees}
use Rattle.um_infer.specs.Inference.{all_schemes, infer}
use Rattle.um_run.specs.declared.callable.Callable.{Callable}
use Rattle.um_run.specs.declared.callable.CallTables.{CallTables}
use Rattle.um_run.specs.Calls.{AreClosedUnits}

-- the tables have the measures of a program and its abbreviations, and the names of its functions
pub record AreTablesOf (p : ProgramTree) (shorts : List Abbreviation) (tables : CallTables) : Type 0 where
  pub measures : (x : List ℕ) → short_unit tables.measures x ≡ measure_unit (given p shorts) x
  pub functions : tables.functions ≡ function_names p.functions

-- the names are those of the program, which is formed, and the schemes and the table are those of its functions
pub record IsCallable (c : Callable) : Type 0 where
  pub same : (known_in c.names).program ≡ program_tree c.shaped.now
  pub formed : IsFormed (program_tree c.shaped.now)
  pub inferred : infer (program_tree c.shaped.now) ≡ all_schemes (scheme_trees c.schemes.now)
  pub closed : AreClosedUnits (length (program_tree c.shaped.now).bases) (known_in c.names).shorts
  pub listed : c.functions.now ≡ function_names (program_tree c.shaped.now).functions
