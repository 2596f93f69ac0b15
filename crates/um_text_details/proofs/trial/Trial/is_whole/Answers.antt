use Rattle.std.proofs.Common.{subst}
use Rattle.std.specs.Bool.{Decides}
use Rattle.um_text_details.specs.Expected.{IsWhole}
use Rattle.um_text_details.proofs.trial.Trial.is_whole.Goals as goal

pub returns : goal.returns
returns c =
    subst (λ p. Decides c.is_whole.result (IsWhole p)) c.self.view_is
    (c.is_whole.ensures c.self.inside.before.items c.self.invariant)
