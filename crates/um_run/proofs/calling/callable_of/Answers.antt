use Rattle.std.proofs.Common.{List, length, sym, ap, subst, ◌∙◌}
use Rattle.um_tree.specs.ProgramTree.{program_tree}
use Rattle.um_measures.specs.declared.abbreviation.Abbreviation.{Abbreviation}
use Rattle.um_measures.specs.Known.{Known}
use Rattle.um_run.specs.Calls.{AreClosedUnits}
use Rattle.um_run.proofs.calling.callable_of.Goals as goal

pub returns-clause-callable : goal.returns-clause-callable
returns-clause-callable c =
    let p = program_tree c.args.shaped.now in
    record {
      same = ap (λ (k : Known). k.program) c.known_names-names.ensures ∙ ap program_tree c.program.ensures.program;
      formed = c.program.ensures.formed;
      inferred = c.requires.inferred;
      closed = subst (λ (shorts : List Abbreviation). AreClosedUnits (length p.bases) shorts) (sym (ap (λ (k : Known). k.shorts) c.known_names-names.ensures)) c.requires.closed;
      listed = c.requires.tables.functions;
    }
