use Rattle.std.proofs.Common.{take}
use Rattle.um_text_details.specs.Expected.{IsExpected, AreChosen}
use Rattle.um_text_details.proofs.tell.told_at.Given as goal

abbrev pub invariant-loop-word : goal.invariant-loop-word
invariant-loop-word l = AreChosen (IsExpected l.trial) (take l.word-index l.word-items) l.told.items
