use Rattle.std.proofs.Common.{[], refl, ◌∙◌}
use Rattle.um_types.proofs.Standing.{begin_stands}
use Rattle.um_types.proofs.note_reader.can_begin_note.Goals as goal

pub returns-in_default : goal.returns-in_default
returns-in_default c at = c.can_begin.ensures [] at refl ∙ begin_stands c.args.kind.now at c.in_default.not-Hole
