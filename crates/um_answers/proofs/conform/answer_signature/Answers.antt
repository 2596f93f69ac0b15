use Rattle.std.proofs.Common.{length, sym, subst}
use Rattle.um_tree.specs.declared.program.Program.{Program}
use Rattle.um_tree.specs.ProgramTree.{program_tree}
use Rattle.um_sig.specs.Reading.{AreClosedUnits, IsSignatureIn}
use Rattle.um_answers.proofs.conform.answer_signature.Goals as goal

pub answer_read-requires-clause-signature : goal.answer_read-requires-clause-signature
answer_read-requires-clause-signature c =
    let same = c.program.ensures.program in
    let closed = subst (λ (q : Program). AreClosedUnits (length (program_tree q).bases) c.abbreviations.result.now) (sym same) c.abbreviations.ensures.closed in
    subst (λ (q : Program). IsSignatureIn (program_tree q) c.in-Ok.read) same (c.in-Ok.ensures.formed closed)
