use Rattle.um_tree.proofs.TypingLaws.{replacements_keep_typings, homomorphisms_keep_typings, closed_units_are_fixed}
use Rattle.um_tree.proofs.laws.changes_of_units.Goals as goal

pub returns : goal.returns
returns c = record { replacements = replacements_keep_typings; homomorphisms = homomorphisms_keep_typings; closed = closed_units_are_fixed }
