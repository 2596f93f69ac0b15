use Rattle.um_display.proofs.word.add_part.Goals as goal

pub returns-in-None : goal.returns-in-None
returns-in-None c = rw c.in-None.is at c.in_ok-part.ensures
