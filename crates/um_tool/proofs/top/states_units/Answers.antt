use Rattle.std.proofs.Common.{ℕ, ◌≤◌, List, length, [], Some, ap, ◌∙◌, arith}
use Rattle.std.proofs.lemmas.Option.{get_or_from_slice_get}
use Rattle.um_tree.proofs.Moved.{All_at}
use Rattle.um_orders.specs.declared.order.Order.TheVariants.{Show}
use Rattle.um_orders.proofs.OrderWords.{short_words, words_of_order}
use Rattle.um_tool.proofs.Serving.{states_by_word}
use Rattle.um_tool.proofs.top.states_units.Goals as goal

pub word-requires : goal.word-requires
word-requires c =
    let named = c.requires ∙ ap Some c.in-Show.is in
    let many = (words_of_order c.args.words.now (Show c.in-Show.digits c.in-Show.budget) named).0 in
    omega (arith, many)

pub is_units-requires : goal.is_units-requires
is_units-requires c =
    let named = c.requires ∙ ap Some c.in-Show.is in
    let short = short_words c.args.words.now (Show c.in-Show.digits c.in-Show.budget) named in
    All_at (λ (word : List ℕ). length word ≤ 1048576) c.args.words.now 2 c.word.result.now c.word.ensures short

pub returns-in-Show : goal.returns-in-Show
returns-in-Show c =
    states_by_word c.args.order c.in-Show.digits c.in-Show.budget c.args.words.now c.word.result.now c.in-Show.is
    (get_or_from_slice_get c.args.words.now 2 c.word.result.now [] c.word.ensures) c.is_units.result c.is_units.ensures
