use Rattle.std.proofs.Common.{length, sym, ap, ◌∙◌}
use Rattle.um_tree.specs.declared.program.Program.{Program}
use Rattle.um_tree.specs.ProgramTree.{program_tree}
use Rattle.um_explain_answers.proofs.schemes.reply_schemes.Goals as goal

pub schemes_text-text-requires : goal.schemes_text-text-requires
schemes_text-text-requires c = record { count = c.requires.count ∙ ap (λ (q : Program). length (program_tree q).functions) (sym c.program.ensures.program) }
