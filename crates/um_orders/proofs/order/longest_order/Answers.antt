use Rattle.std.proofs.Common.{[], get_or, sym, ◌∙◌}
use Rattle.std.proofs.lemmas.Option.{get_or_from_slice_get}
use Rattle.um_orders.proofs.OrderWords.{other_than_show}
use Rattle.um_orders.proofs.order.longest_order.Goals as goal

pub returns-in_default : goal.returns-in_default
returns-in_default c =
    let words = c.args.words.now in
    let word = get_or_from_slice_get words 0 c.word.result.now [] c.word.ensures in
    c.sized_order.ensures
    ∙ sym (other_than_show (get_or words 0 []) (get_or words 1 []) (get_or words 2 []) (get_or words 3 []) (λ show. c.in_default.not-show (sym word ∙ show)))
