use Rattle.std.proofs.Common.{◌∙◌}
use Rattle.um_eval.proofs.Segments.{opened}
use Rattle.um_eval.proofs.scope.Scope.open.Goals as goal

pub returns-in-Ok : goal.returns-in-Ok
returns-in-Ok c =
    let s = c.args.self.now in
    opened s.words.items s.base s.callers c.args.words.now c.extend_from_slice.new.self.items c.len-base.result c.in-Ok.ensures.items (c.len-base.ensures ∙ s.words.ok.0)
