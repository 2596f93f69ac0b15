use Rattle.std.proofs.Common.{length, sym, subst, ◌∙◌}
use Rattle.std.specs.Prelude.{IfOk}
use Rattle.um_tree.specs.declared.program.Program.{Program}
use Rattle.um_tree.specs.ProgramTree.{program_tree}
use Rattle.um_run.specs.Calls.{AreClosedUnits}
use Rattle.um_lines.specs.Sources.{call_lines}
use Rattle.um_front.specs.declared.parts.CheckedParts.{CheckedParts}
use Rattle.um_front.specs.Parts.{checked_tree}
use Rattle.um_call_answers.specs.Calling.{IsCallableIn}
use Rattle.um_call_answers.specs.CallsAnswer.{AreLineAnswers}
use Rattle.um_call_answers.proofs.calls.named_answers.Goals as goal

pub callable_of-callable-requires-clause-closed : goal.callable_of-callable-requires-clause-closed
callable_of-callable-requires-clause-closed c =
    subst (λ (p : Program). AreClosedUnits (length (program_tree p).bases) c.abbreviations-abbreviations.result.now) (sym c.shaped-shaped.ensures.shaped) c.abbreviations-abbreviations.ensures.closed

pub line_answers-text-requires : goal.line_answers-text-requires
line_answers-text-requires c =
    let callable = c.callable_of-callable.result in let known = c.callable_of-callable.ensures in
    let there : IsCallableIn c.args.checked.now callable = record {
      callable = known.callable;
      shaped = known.program ∙ c.shaped-shaped.ensures.shaped;
      schemes = known.schemes ∙ c.schemes-schemes.ensures.schemes;
      abbreviations = known.abbreviations ∙ c.abbreviations-abbreviations.ensures.abbreviations;
    } in
    subst (λ (d : CheckedParts). IsCallableIn d callable) (sym c.requires.same) there

pub returns : goal.returns
returns c =
    subst (λ (d : CheckedParts). IfOk c.line_answers-text.result (λ text. AreLineAnswers c.args.budget (checked_tree d) (call_lines c.args.calls.now) text.items)) c.requires.same c.line_answers-text.ensures
