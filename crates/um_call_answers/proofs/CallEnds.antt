-- How a call ends, run in any way: once, and as its meaning has it.
use Rattle.std.proofs.Common.{◌≡◌, ℕ, List, Some, None, refl, sym, ap, ◌∙◌}
use Rattle.std.specs.declared.option.Option.{Option}
use Rattle.um_tree.specs.ValueTree.{ValueTree, OutcomeTree}
use Rattle.um_tree.specs.ProgramTree.{ProgramTree}
use Rattle.um_tree.specs.Meaning.{outcome_of_call}
use Rattle.um_tree.specs.Shapes.{IsShaped}
use Rattle.um_shape.proofs.Complete.{faultless_is_shaped}
use Rattle.um_cells.specs.Arguments.{AreArgumentsOf}
use Rattle.um_machine.specs.declared.code.Code.{Code}
use Rattle.um_gen.specs.ProgramCode.{program_code}
use Rattle.um_gen.proofs.EndsAsMeant.{outcomes_are_reached}
use Rattle.um_vm.proofs.Calls.{one_outcome, counted_once, counted_ends, ends_counted, run_is_meant}
use Rattle.um_run.specs.Calls.{CallTree, call_values}
use Rattle.um_run.proofs.CallLaws.{calls_are_typed}
use Rattle.um_front.specs.Stages.{CheckedTree, IsCheckedText}
use Rattle.um_front.proofs.CheckedTexts.{checked_is_known}
use Rattle.um_call_answers.specs.declared.way.Way.{Way}
use Rattle.um_call_answers.specs.declared.way.Way.TheVariants as way
use Rattle.um_call_answers.specs.AskedCall.{AskedCall}
use Rattle.um_call_answers.specs.OfCall.{IsAskedCall}
use Rattle.um_call_answers.specs.CallAnswer.{EndsBy}

module _ (budget : ℕ) (p : ProgramTree) (call : CallTree) where
  abbrev code : Code
  code = program_code p.functions

  abbrev values : List ValueTree
  values = call_values call

  abbrev IsMeant : OutcomeTree → Type 0
  IsMeant o = outcome_of_call p call.function values budget ≡ Some o

  pub ends_once : (way : Way) (o e : OutcomeTree) (steps more : Option ℕ) → EndsBy way budget p call o steps → EndsBy way budget p call e more → (o ≡ e) × (steps ≡ more)
  ends_once way.Tree o e steps more (meant, none) (also, too) = let both : Some o ≡ Some e = sym meant ∙ also in (cc both, none ∙ sym too)
  ends_once way.Code o e steps more (by, none) (also, too) = (one_outcome code call.function values budget o e by also, none ∙ sym too)
  ends_once way.Counted o e steps more (k, counts, told) (j, recounts, also) =
      let one = counted_once code call.function values budget o e k j counts recounts in
      (one.0, told ∙ ap Some one.1 ∙ sym also)

  -- if the meaning has an outcome, the call ends with it
  pub meant_ends : (way : Way) (o : OutcomeTree) → IsMeant o → (steps : Option ℕ) × EndsBy way budget p call o steps
  meant_ends way.Tree o meant = (None, (meant, refl))
  meant_ends way.Code o meant = (None, (outcomes_are_reached p call.function values budget o meant, refl))
  meant_ends way.Counted o meant =
      let (k, counts) = ends_counted code call.function values budget o (outcomes_are_reached p call.function values budget o meant) in
      (Some k, (k, counts, refl))

  -- and with no other
  pub ends_with_meant : (way : Way) (o q : OutcomeTree) (steps : Option ℕ) → IsMeant q → EndsBy way budget p call o steps → o ≡ q
  ends_with_meant way o q steps meant ended =
      let (more, also) = meant_ends way q meant in
      (ends_once way o q steps more ended also).0

  module _ (shaped : IsShaped p) (allowed : AreArgumentsOf p call.function values) where
    -- it ends with the meaning's outcome alone
    pub ends_meant : (way : Way) (o : OutcomeTree) (steps : Option ℕ) → EndsBy way budget p call o steps → IsMeant o
    ends_meant way.Tree o steps (meant, none) = meant
    ends_meant way.Code o steps (by, none) = run_is_meant p call.function values allowed budget o shaped by
    ends_meant way.Counted o steps (k, counts, told) = run_is_meant p call.function values allowed budget o shaped (counted_ends code call.function values budget o k counts)

-- ---- of a text's program
pub checked_shaped : (bytes : List ℕ) (c : CheckedTree) → IsCheckedText bytes c → IsShaped c.text.program
checked_shaped bytes c is = faultless_is_shaped c.text.program is.shaped.faultless

pub asked_arguments : (asked : AskedCall) (bytes : List ℕ) (c : CheckedTree) → IsCheckedText bytes c → (call : CallTree) → IsAskedCall asked c call → AreArgumentsOf c.text.program call.function (call_values call)
asked_arguments asked bytes c is call named = (calls_are_typed c.text.program c.text.abbreviations c.schemes asked.name asked.texts (checked_is_known bytes c is) call named).arguments
