use Rattle.std.proofs.Common.{length, sym, ap, ◌∙◌}
use Rattle.um_tree.specs.declared.program.Program.{Program}
use Rattle.um_tree.specs.ProgramTree.{program_tree}
use Rattle.um_answers.proofs.SchemesGiven.{as_many_schemes}
use Rattle.um_answers.proofs.types.checked_text.Goals as goal

pub schemes_text-requires : goal.schemes_text-requires
schemes_text-requires c =
    let p = program_tree c.args.checked.now.text.shaped in
    record { count = as_many_schemes p c.schemes.result.now.items.items c.program.ensures.formed c.schemes.ensures.inferred ∙ ap (λ (q : Program). length (program_tree q).functions) (sym c.program.ensures.program) }
