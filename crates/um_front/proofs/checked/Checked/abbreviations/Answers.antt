use Rattle.std.proofs.Common.{length, subst}
use Rattle.um_tree.specs.ProgramTree.{program_tree}
use Rattle.um_run.specs.Calls.{AreClosedUnits}
use Rattle.um_front.specs.declared.parts.CheckedParts.{CheckedParts}
use Rattle.um_front.specs.Parts.{checked_tree}
use Rattle.um_front.proofs.CheckedTexts.{units_are_closed}
use Rattle.um_front.proofs.checked.Checked.abbreviations.Goals as goal

pub returns-clause-closed : goal.returns-clause-closed
returns-clause-closed c =
    let parts = c.self.inside.parts in
    subst (λ (p : CheckedParts). AreClosedUnits (length (program_tree p.text.shaped).bases) parts.text.abbreviations) c.self.view_is
    (units_are_closed parts.text.text.bytes.items (checked_tree parts).text c.self.invariant.shaped)
