use Rattle.std.proofs.Common.{length, map, sym, ap, ◌∙◌}
use Rattle.std.proofs.lemmas.List.{length-map}
use Rattle.um_tree.specs.declared.program.Program.{Program}
use Rattle.um_tree.specs.ProgramTree.{program_tree, scheme_tree}
use Rattle.um_infer.proofs.InferenceLaws.{given_schemes_are_principal}
use Rattle.um_embed.proofs.opened.lines_of.Goals as goal

pub schemes_text-requires : goal.schemes_text-requires
schemes_text-requires c =
    let p = program_tree c.args.checked.now.text.shaped in let schemes = c.schemes.result.now.items.items in
    let given = given_schemes_are_principal p c.program.ensures.formed (map scheme_tree schemes) c.schemes.ensures.inferred in
    record { count = sym (length-map schemes scheme_tree) ∙ given.count ∙ ap (λ (q : Program). length (program_tree q).functions) (sym c.program.ensures.program) }
