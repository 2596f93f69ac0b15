use Rattle.std.proofs.Common.{map, ap, subst, ◌∙◌}
use Rattle.std.specs.Prelude.{◌≡◌, ℕ, List}
use Rattle.um_tree.specs.declared.program.Program.{Program}
use Rattle.um_tree.specs.declared.program.Function.{Function}
use Rattle.um_tree.specs.ProgramTree.{function_tree, program_tree}
use Rattle.um_measures.specs.Known.{function_names, measure_unit, short_unit}
use Rattle.um_measures.specs.ClosedUnits.{given}
use Rattle.um_run.proofs.calling.tables_of.Goals as goal

pub returns-in-Ok : goal.returns-in-Ok
returns-in-Ok c =
    let shorts = c.args.abbreviations.now in
    record {
      measures = subst (λ (program : Program). (x : List ℕ) → short_unit c.in-Ok.measures x ≡ measure_unit (given (program_tree program) shorts) x) c.program-program.ensures.program c.in-Ok.ensures;
      functions = c.in_ok-functions.ensures ∙ ap (λ (fs : List Function). function_names (map function_tree fs)) c.deref.ensures.value
          ∙ ap (λ (program : Program). function_names (program_tree program).functions) c.program-program.ensures.program;
    }
