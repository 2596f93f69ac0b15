use Rattle.std.proofs.Common.{subst}
use Rattle.um_tree.specs.ValueTree.{value_tree}
use Rattle.um_eval.specs.Progress.{EndsWith}
use Rattle.um_eval.proofs.Ending.{value_is_there, value_ends}
use Rattle.um_eval.proofs.call.outcome.Goals as goal

pub get-requires : goal.get-requires
get-requires c =
    let (out, h, some) = c.requires in
    value_is_there c.args.store.now c.in-Value.word out (subst (λ e. EndsWith c.args.store.now e out) c.in-Value.is h)

pub returns-in_ok-get-in-Value : goal.returns-in_ok-get-in-Value
returns-in_ok-get-in-Value c = λ out h. value_ends c.args.store.now c.in-Value.word out (value_tree c.in_ok-get-in-Value.field-0) (subst (λ e. EndsWith c.args.store.now e out) c.in-Value.is h) c.in_ok-get-in-Value.ensures
