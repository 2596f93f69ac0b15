use Rattle.std.proofs.Common.{map, ap, subst, ◌∙◌}
use Rattle.um_tree.specs.declared.program.Program.{Program}
use Rattle.um_tree.specs.ProgramTree.{record_tree, program_tree}
use Rattle.um_machine.specs.declared.code.Code.{Code}
use Rattle.um_verify.specs.ImageTree.{image_tree}
use Rattle.um_image.specs.ProgramImage.{plain_record, IsImageOf}
use Rattle.um_image.proofs.Accepted.{generated_is_verified}
use Rattle.um_image.proofs.Mapped.{image_made}
use Rattle.um_image.proofs.program.image_of.Goals as goal

pub returns-in-Ok-clause-form : goal.returns-in-Ok-clause-form
returns-in-Ok-clause-form c = λ short.
    let p = program_tree c.args.shaped.now in
    let image = image_tree (record { records = c.in_ok-records.records; heads = c.in-Ok.heads; code = c.in_ok-code.code }) in
    let records = c.in_ok-records.ensures ∙ ap (λ (q : Program). map plain_record (map record_tree q.records.items.items)) c.program.ensures.program in
    let is : IsImageOf p c.args.code.now image = image_made p c.args.code.now image records c.in_ok-code.ensures c.in-Ok.ensures in
    let formed = c.program.ensures.formed in
    (generated_is_verified p image formed c.program.ensures.faultless short (subst (λ (code : Code). IsImageOf p code image) c.requires.code is)).form
