use Rattle.std.proofs.Common.{length, All, sym, ap, subst, ◌∙◌}
use Rattle.um_tree.specs.declared.program.Program.{Program}
use Rattle.um_tree.specs.ProgramTree.{program_tree}
use Rattle.um_machine.specs.declared.code.Code.{Code}
use Rattle.um_answers.proofs.CodeEntries.{IsWithin, code_counted, code_within}
use Rattle.um_answers.proofs.code.listing_text.Goals as goal

pub listing-requires-clause-count : goal.listing-requires-clause-count
listing-requires-clause-count c =
    ap (λ (k : Code). length k.entries) c.in_ok-code.ensures
    ∙ code_counted (program_tree c.shaped.result.now).functions
    ∙ ap (λ (p : Program). length (program_tree p).functions) (c.shaped.ensures.shaped ∙ sym c.program.ensures.program)

pub listing-requires-clause-within : goal.listing-requires-clause-within
listing-requires-clause-within c =
    subst (λ (k : Code). All (IsWithin (length k.ops)) k.entries) (sym c.in_ok-code.ensures) (code_within (program_tree c.shaped.result.now).functions)
