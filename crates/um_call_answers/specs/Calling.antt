-- Mirrors the code: what is known of a call that is run.
-- Source: this project's own.
use Rattle.std.specs.Prelude.{ℕ, ◌≡◌, ◌≤◌, map, string_bytes}
use Rattle.um_tree.specs.ProgramTree.{ProgramTree}
use Rattle.um_cells.specs.Arguments.{AreArgumentsOf}
use Rattle.um_value.specs.KnownNames.{known_in}
use Rattle.um_run.specs.declared.callable.Callable.{Callable}
use Rattle.um_run.specs.Calls.{CallTree, call_values}
use Rattle.um_run.specs.Callable.{IsCallable}
use Rattle.um_front.specs.declared.parts.CheckedParts.{CheckedParts}
use Rattle.um_call_answers.specs.declared.call_words.CallWords.{CallWords}
use Rattle.um_call_answers.specs.AskedCall.{AskedCall}

abbrev pub asked_call : CallWords → AskedCall
asked_call call = record { budget = call.budget; name = call.name.now; texts = map string_bytes call.texts.now }

-- its arguments have the shapes of its function's parameters, and the budget is within its limit
pub record CanRun (budget : ℕ) (p : ProgramTree) (call : CallTree) : Type 0 where
  pub arguments : AreArgumentsOf p call.function (call_values call)
  pub small : budget ≤ 10000000

-- the tables are those of the program that is checked
pub record IsCallableIn (checked : CheckedParts) (c : Callable) : Type 0 where
  pub callable : IsCallable c
  pub shaped : c.shaped.now ≡ checked.text.shaped
  pub schemes : c.schemes.now ≡ checked.schemes
  pub abbreviations : (known_in c.names).shorts ≡ checked.text.abbreviations
