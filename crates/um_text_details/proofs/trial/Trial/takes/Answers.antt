use Rattle.std.proofs.Common.{refl, subst}
use Rattle.std.specs.Bool.{Decides}
use Rattle.um_text_details.specs.Expected.{CanStand, put_there}
use Rattle.um_text_details.proofs.trial.Trial.takes.Goals as goal

pub returns : goal.returns
returns c =
    let inside = c.self.inside in
    let kind = c.args.kind.now in
    subst (λ p. Decides c.goes_on.result (CanStand p kind)) c.self.view_is
    (c.goes_on.ensures inside.before.items
    (put_there (record { before = inside.before.items; at = inside.at; glued = inside.glued }) kind) c.self.invariant refl refl)
