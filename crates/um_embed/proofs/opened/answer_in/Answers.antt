use Rattle.std.proofs.Common.{List, length, sym, subst, ◌∙◌, inl}
use Rattle.std.proofs.lemmas.Result.{IfOk-weaker}
use Rattle.um_tree.specs.declared.program.Program.{Program}
use Rattle.um_tree.specs.ProgramTree.{program_tree}
use Rattle.um_measures.specs.declared.abbreviation.Abbreviation.{Abbreviation}
use Rattle.um_run.specs.Calls.{AreClosedUnits}
use Rattle.um_run.specs.Callable.{AreTablesOf}
use Rattle.um_front.specs.declared.parts.CheckedParts.{CheckedParts}
use Rattle.um_front.specs.Parts.{checked_tree}
use Rattle.um_call_answers.specs.declared.way.Way.TheVariants as way
use Rattle.um_call_answers.specs.Calling.{IsCallableIn, asked_call}
use Rattle.um_call_answers.specs.CallAnswer.{CallAnswer, IsCallAnswer}
use Rattle.um_embed.proofs.opened.answer_in.Goals as goal

pub callable_of-callable-requires-clause-closed : goal.callable_of-callable-requires-clause-closed
callable_of-callable-requires-clause-closed c =
    subst (λ (p : Program). AreClosedUnits (length (program_tree p).bases) c.abbreviations-abbreviations.result.now) (sym c.shaped-shaped.ensures.shaped) c.abbreviations-abbreviations.ensures.closed

pub callable_of-callable-requires-clause-tables : goal.callable_of-callable-requires-clause-tables
callable_of-callable-requires-clause-tables c =
    let checked = c.args.checked.now in let tables = c.args.prepared.now.tables in
    subst (λ (p : Program). AreTablesOf (program_tree p) c.abbreviations-abbreviations.result.now tables) (sym c.shaped-shaped.ensures.shaped)
    (subst (λ (shorts : List Abbreviation). AreTablesOf (program_tree checked.text.shaped) shorts tables) (sym c.abbreviations-abbreviations.ensures.abbreviations) c.requires.prepared.tables)

pub answer_call_of-requires-clause-callable : goal.answer_call_of-requires-clause-callable
answer_call_of-requires-clause-callable c =
    let callable = c.callable_of-callable.result in let known = c.callable_of-callable.ensures in
    let there : IsCallableIn c.args.checked.now callable = record {
      callable = known.callable;
      shaped = known.program ∙ c.shaped-shaped.ensures.shaped;
      schemes = known.schemes ∙ c.schemes-schemes.ensures.schemes;
      abbreviations = known.abbreviations ∙ c.abbreviations-abbreviations.ensures.abbreviations;
    } in
    subst (λ (d : CheckedParts). IsCallableIn d callable) (sym c.new-program.ensures) there

pub returns : goal.returns
unfolding CallAnswer
returns c =
    let checked = c.args.checked.now in let asked = asked_call c.args.call.now in let program = c.new-program.result in
    IfOk-weaker c.answer_call_of.result (λ reply. IsCallAnswer way.Code asked (checked_tree program) reply.text.items reply.status)
    (λ reply. CallAnswer way.Code asked checked.text.text.bytes.items reply.text.items reply.status)
    (λ reply says. inl (checked_tree checked, c.shaped-shaped.ensures.checked, subst (λ (d : CheckedParts). IsCallAnswer way.Code asked (checked_tree d) reply.text.items reply.status) c.new-program.ensures says))
    c.answer_call_of.ensures
