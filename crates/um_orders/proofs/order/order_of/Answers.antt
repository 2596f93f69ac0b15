use Rattle.std.proofs.Common.{[], sym, ap, ◌∙◌, arith}
use Rattle.std.proofs.lemmas.Option.{get_or_from_slice_get}
use Rattle.um_sizes.specs.ScaleWords.{is_scales}
use Rattle.um_orders.proofs.OrderWords.{none_of_long, by_count, none_of_few, alone_of_one, pair_of_two, longer_of_more}
use Rattle.um_orders.proofs.order.order_of.Goals as goal

pub returns-then-not-are_short : goal.returns-then-not-are_short
returns-then-not-are_short c = sym (none_of_long c.args.words.now (sym c.are_short.ensures ∙ c.if-not-are_short.true))

pub returns-then-len-eq1 : goal.returns-then-len-eq1
returns-then-len-eq1 c =
    let short = sym c.are_short.ensures ∙ c.if-not-are_short.false in
    c.order_alone.ensures ∙ sym (by_count c.args.words.now short ∙ alone_of_one c.args.words.now c.word.result.now (sym c.len.ensures ∙ c.if-len-eq1.true) c.word.ensures)

pub order_of_two-requires : goal.order_of_two-requires
order_of_two-requires c =
    c.states_sizes.ensures ∙ ap is_scales (get_or_from_slice_get c.args.words.now 1 c.word-then-len-eq2-2.result.now [] c.word-then-len-eq2-2.ensures)

pub returns-then-len-eq2 : goal.returns-then-len-eq2
returns-then-len-eq2 c =
    let short = sym c.are_short.ensures ∙ c.if-not-are_short.false in
    c.order_of_two.ensures ∙ sym (by_count c.args.words.now short ∙ pair_of_two c.args.words.now c.word-then-len-eq2.result.now c.word-then-len-eq2-2.result.now (sym c.len-2.ensures ∙ c.if-len-eq2.true) c.word-then-len-eq2.ensures c.word-then-len-eq2-2.ensures)

pub returns-then-len-lt3 : goal.returns-then-len-lt3
returns-then-len-lt3 c =
    let short = sym c.are_short.ensures ∙ c.if-not-are_short.false in
    sym (by_count c.args.words.now short ∙ none_of_few c.args.words.now (λ one. c.if-len-eq1.false (c.len.ensures ∙ one)) (λ two. c.if-len-eq2.false (c.len-2.ensures ∙ two)) (omega (arith, c.len-3.ensures, c.if-len-lt3.true)))

pub returns : goal.returns
returns c =
    let short = sym c.are_short.ensures ∙ c.if-not-are_short.false in
    c.longer_order.ensures ∙ sym (by_count c.args.words.now short ∙ longer_of_more c.args.words.now (omega (arith, c.len-3.ensures, c.if-len-lt3.false)))
