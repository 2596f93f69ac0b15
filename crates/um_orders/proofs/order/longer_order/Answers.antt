use Rattle.std.proofs.Common.{[], sym, ◌∙◌, get_or, arith}
use Rattle.um_orders.proofs.OrderWords.{longer_of_four, longer_of_five}
use Rattle.um_orders.proofs.order.longer_order.Goals as goal

pub returns-then-len-eq4 : goal.returns-then-len-eq4
returns-then-len-eq4 c =
    let words = c.args.words.now in
    c.sized_order.ensures ∙ sym (longer_of_four (get_or words 0 []) (get_or words 1 []) (get_or words 2 []) words (sym c.len-2.ensures ∙ c.if-len-eq4.true))

pub returns : goal.returns
returns c =
    let words = c.args.words.now in
    c.longest_order.ensures
    ∙ sym (longer_of_five (get_or words 0 []) (get_or words 1 []) (get_or words 2 []) words (omega (arith, c.requires, c.len.ensures, c.len-2.ensures, c.if-len-eq3.false, c.if-len-eq4.false)))
