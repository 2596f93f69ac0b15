use Rattle.std.proofs.Common.{sym, subst}
use Rattle.um_tree.specs.declared.program.Program.{Program}
use Rattle.um_tree.specs.ProgramTree.{program_tree}
use Rattle.um_image.specs.Laws.{HasShortNames}
use Rattle.um_front.specs.Parts.{checked_tree}
use Rattle.um_answers.proofs.ShortNames.{short_names}
use Rattle.um_answers.proofs.image.reply_image.Goals as goal

pub reply_encoded-reply-requires : goal.reply_encoded-reply-requires
reply_encoded-reply-requires c =
    let checked = checked_tree c.args.checked.now in
    let short = short_names c.args.checked.now.text.text.bytes.items checked.text c.shaped-shaped.ensures.checked.shaped in
    record { form = c.in_ok-image.ensures.form (subst (λ (p : Program). HasShortNames (program_tree p)) (sym c.shaped-shaped.ensures.shaped) short) }
