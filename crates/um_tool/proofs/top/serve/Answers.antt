use Rattle.std.proofs.Common.{List, ℕ, subst}
use Rattle.std.specs.Io.KnownBytes.{Appends}
use Rattle.um_tool.proofs.ServedHeadline.{planned_served}
use Rattle.um_tool.proofs.top.serve.Goals as goal

pub returns-in-Ok-write_all-clause-headline : goal.returns-in-Ok-write_all-clause-headline
returns-in-Ok-write_all-clause-headline g c =
    let old = g.K.Sink.taken c.args.sink.now in let new = g.K.Sink.taken c.write_all.new.sink in
    let text = c.in-Ok.reply.text.items in
    let written = subst (λ (t : List ℕ). Appends old new t) c.deref.ensures.value c.in-Ok-write_all.ensures.all in
    λ bytes calm. planned_served c.args.words.now bytes old new text c.in-Ok.reply.status written
    (g.S.Source.left c.args.source.now) (g.S.Source.faults c.args.source.now) (g.S.Source.faults c.reply_to.new.source) calm.told calm.reads c.in-Ok.ensures.planned
