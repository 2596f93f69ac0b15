use Rattle.std.proofs.Common.{sym, ◌∙◌}
use Rattle.std.proofs.lemmas.Iterator.{YieldsList-from_chars}
use Rattle.std.proofs.lemmas.Iterator.Consumers.{YieldsList-end}
use Rattle.std.proofs.lemmas.List.{map-id}
use Rattle.um_similar.proofs.similar.characters.Goals as goal

pub returns : goal.returns
returns c =
    let word = c.args.word.now in
    let t = YieldsList-end (YieldsList-from_chars word c.utf8.word cc) c.loop-c.yielded _ c.loop-c.yielded_by _ _ c.in-None.is c.next.ensures.steps in
    c.loop-c.invariant ∙ sym (map-id c.loop-c.yielded) ∙ t.0
