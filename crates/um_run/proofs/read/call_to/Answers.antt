use Rattle.std.proofs.Common.{List, length, map, sym, ap, subst, ◌∙◌}
use Rattle.std.specs.Prelude.{string_bytes}
use Rattle.um_tree.specs.declared.program.Program.{Program}
use Rattle.um_tree.specs.ProgramTree.{program_tree}
use Rattle.um_tree.specs.Formed.{IsFormed}
use Rattle.um_measures.specs.declared.abbreviation.Abbreviation.{Abbreviation}
use Rattle.um_measures.specs.Known.{Known}
use Rattle.um_infer.specs.Answers.{scheme_trees}
use Rattle.um_run.specs.Calls.{AreClosedUnits, IsCallTo, call_answer}
use Rattle.um_run.proofs.read.call_to.Goals as goal

pub read_known_call-call-requires-clause-names : goal.read_known_call-call-requires-clause-names
read_known_call-call-requires-clause-names c = ap (λ (k : Known). k.program) c.known_names-names.ensures ∙ ap program_tree c.program-program.ensures.program

pub read_known_call-call-requires-clause-formed : goal.read_known_call-call-requires-clause-formed
read_known_call-call-requires-clause-formed c = c.program-program.ensures.formed

pub read_known_call-call-requires-clause-closed : goal.read_known_call-call-requires-clause-closed
read_known_call-call-requires-clause-closed c =
    subst (λ (shorts : List Abbreviation). AreClosedUnits (length (program_tree c.args.shaped.now).bases) shorts) (sym (ap (λ (k : Known). k.shorts) c.known_names-names.ensures)) c.requires.closed

pub returns-in-Ok : goal.returns-in-Ok
returns-in-Ok c = λ f e.
    subst (λ (k : Known). IsCallTo (program_tree c.args.shaped.now) k.shorts (scheme_trees c.args.schemes.now) c.args.function f (map string_bytes c.args.texts.now) (call_answer c.read_known_call-call.result))
    c.known_names-names.ensures (c.read_known_call-call.ensures f e)
