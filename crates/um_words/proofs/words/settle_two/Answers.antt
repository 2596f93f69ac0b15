use Rattle.std.proofs.Common.{◌∙◌, ap}
use Rattle.std.specs.Prelude.{slice_set}
use Rattle.um_words.proofs.Settled.{set_below}
use Rattle.um_words.proofs.words.settle_two.Goals as goal

pub returns-clause-ok : goal.returns-clause-ok
returns-clause-ok c = ap (λ ws. slice_set ws c.args.at c.args.first) c.in_ok-append.ensures.ok ∙ set_below c.args.at c.args.first c.args.second c.args.words.now.items c.requires
