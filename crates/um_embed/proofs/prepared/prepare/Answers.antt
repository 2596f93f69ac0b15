use Rattle.std.proofs.Common.{List, ap, subst, ◌∙◌}
use Rattle.um_tree.specs.declared.program.Program.{Program}
use Rattle.um_tree.specs.ProgramTree.{program_tree}
use Rattle.um_gen.specs.ProgramCode.{program_code}
use Rattle.um_measures.specs.declared.abbreviation.Abbreviation.{Abbreviation}
use Rattle.um_run.specs.Callable.{AreTablesOf}
use Rattle.um_embed.proofs.prepared.prepare.Goals as goal

pub returns-in-Ok : goal.returns-in-Ok
returns-in-Ok c =
    let checked = c.args.checked.now in let tables = c.in-Ok.tables in
    let shaped = c.shaped-shaped.ensures.shaped in
    record {
      coded = c.in_ok-code.ensures ∙ ap (λ (p : Program). program_code (program_tree p).functions) shaped;
      tables = subst (λ (p : Program). AreTablesOf (program_tree p) checked.text.abbreviations tables) shaped
          (subst (λ (shorts : List Abbreviation). AreTablesOf (program_tree c.shaped-shaped.result.now) shorts tables) c.abbreviations.ensures.abbreviations c.in-Ok.ensures);
    }
