use Rattle.std.proofs.Common.{[], Some, ap, subst, ◌∙◌, arith, ℕ, List, ◌≤◌, IsTrue, length}
use Rattle.std.proofs.lemmas.Option.{get_or_from_slice_get}
use Rattle.um_tree.proofs.Moved.{All_at}
use Rattle.um_sizes.specs.ScaleWords.{is_scales}
use Rattle.um_orders.specs.declared.order.Order.TheVariants.{Run, Steps, Eval, Trace, Show, Conform, Rescale, Twin}
use Rattle.um_orders.specs.declared.order.TextOrder.{TextOrder}
use Rattle.um_orders.specs.Orders.{order_about}
use Rattle.um_orders.proofs.OrderWords.{short_words, words_of_order}
use Rattle.um_tool.proofs.dispatch.answer_text.Goals as goal

pub called-requires-clause-many : goal.called-requires-clause-many
called-requires-clause-many c =
    let named = c.requires.ordered ∙ ap (λ (o : TextOrder). Some (order_about o)) c.in-Run.is in
    (words_of_order c.args.words.now (Run c.in-Run.budget) named).0

pub called-requires-clause-small : goal.called-requires-clause-small
called-requires-clause-small c =
    let named = c.requires.ordered ∙ ap (λ (o : TextOrder). Some (order_about o)) c.in-Run.is in
    (words_of_order c.args.words.now (Run c.in-Run.budget) named).1

pub called-requires-clause-short : goal.called-requires-clause-short
called-requires-clause-short c =
    let named = c.requires.ordered ∙ ap (λ (o : TextOrder). Some (order_about o)) c.in-Run.is in
    short_words c.args.words.now (Run c.in-Run.budget) named

pub called-requires-in-Steps-clause-many : goal.called-requires-in-Steps-clause-many
called-requires-in-Steps-clause-many c =
    let named = c.requires.ordered ∙ ap (λ (o : TextOrder). Some (order_about o)) c.in-Steps.is in
    (words_of_order c.args.words.now (Steps c.in-Steps.budget) named).0

pub called-requires-in-Steps-clause-small : goal.called-requires-in-Steps-clause-small
called-requires-in-Steps-clause-small c =
    let named = c.requires.ordered ∙ ap (λ (o : TextOrder). Some (order_about o)) c.in-Steps.is in
    (words_of_order c.args.words.now (Steps c.in-Steps.budget) named).1

pub called-requires-in-Steps-clause-short : goal.called-requires-in-Steps-clause-short
called-requires-in-Steps-clause-short c =
    let named = c.requires.ordered ∙ ap (λ (o : TextOrder). Some (order_about o)) c.in-Steps.is in
    short_words c.args.words.now (Steps c.in-Steps.budget) named

pub called-requires-in-Eval-clause-many : goal.called-requires-in-Eval-clause-many
called-requires-in-Eval-clause-many c =
    let named = c.requires.ordered ∙ ap (λ (o : TextOrder). Some (order_about o)) c.in-Eval.is in
    (words_of_order c.args.words.now (Eval c.in-Eval.budget) named).0

pub called-requires-in-Eval-clause-small : goal.called-requires-in-Eval-clause-small
called-requires-in-Eval-clause-small c =
    let named = c.requires.ordered ∙ ap (λ (o : TextOrder). Some (order_about o)) c.in-Eval.is in
    (words_of_order c.args.words.now (Eval c.in-Eval.budget) named).1

pub called-requires-in-Eval-clause-short : goal.called-requires-in-Eval-clause-short
called-requires-in-Eval-clause-short c =
    let named = c.requires.ordered ∙ ap (λ (o : TextOrder). Some (order_about o)) c.in-Eval.is in
    short_words c.args.words.now (Eval c.in-Eval.budget) named

pub called-requires-in-Trace-clause-many : goal.called-requires-in-Trace-clause-many
called-requires-in-Trace-clause-many c =
    let named = c.requires.ordered ∙ ap (λ (o : TextOrder). Some (order_about o)) c.in-Trace.is in
    (words_of_order c.args.words.now (Trace c.in-Trace.budget) named).0

pub called-requires-in-Trace-clause-small : goal.called-requires-in-Trace-clause-small
called-requires-in-Trace-clause-small c =
    let named = c.requires.ordered ∙ ap (λ (o : TextOrder). Some (order_about o)) c.in-Trace.is in
    (words_of_order c.args.words.now (Trace c.in-Trace.budget) named).1

pub called-requires-in-Trace-clause-short : goal.called-requires-in-Trace-clause-short
called-requires-in-Trace-clause-short c =
    let named = c.requires.ordered ∙ ap (λ (o : TextOrder). Some (order_about o)) c.in-Trace.is in
    short_words c.args.words.now (Trace c.in-Trace.budget) named

pub word-requires : goal.word-requires
word-requires c =
    let named = c.requires.ordered ∙ ap (λ (o : TextOrder). Some (order_about o)) c.in-Show.is in
    let many = (words_of_order c.args.words.now (Show c.in-Show.digits c.in-Show.budget) named).0 in
    omega (arith, many)

pub called-requires-in-Show-clause-many : goal.called-requires-in-Show-clause-many
called-requires-in-Show-clause-many c =
    let named = c.requires.ordered ∙ ap (λ (o : TextOrder). Some (order_about o)) c.in-Show.is in
    (words_of_order c.args.words.now (Show c.in-Show.digits c.in-Show.budget) named).0

pub called-requires-in-Show-clause-small : goal.called-requires-in-Show-clause-small
called-requires-in-Show-clause-small c =
    let named = c.requires.ordered ∙ ap (λ (o : TextOrder). Some (order_about o)) c.in-Show.is in
    (words_of_order c.args.words.now (Show c.in-Show.digits c.in-Show.budget) named).2

pub called-requires-in-Show-clause-short : goal.called-requires-in-Show-clause-short
called-requires-in-Show-clause-short c =
    let named = c.requires.ordered ∙ ap (λ (o : TextOrder). Some (order_about o)) c.in-Show.is in
    short_words c.args.words.now (Show c.in-Show.digits c.in-Show.budget) named

pub answer_show-requires-clause-few : goal.answer_show-requires-clause-few
answer_show-requires-clause-few c =
    let named = c.requires.ordered ∙ ap (λ (o : TextOrder). Some (order_about o)) c.in-Show.is in
    (words_of_order c.args.words.now (Show c.in-Show.digits c.in-Show.budget) named).1

pub answer_show-requires-clause-short : goal.answer_show-requires-clause-short
answer_show-requires-clause-short c =
    let named = c.requires.ordered ∙ ap (λ (o : TextOrder). Some (order_about o)) c.in-Show.is in
    let short = short_words c.args.words.now (Show c.in-Show.digits c.in-Show.budget) named in
    All_at (λ (word : List ℕ). length word ≤ 1048576) c.args.words.now 2 c.word.result.now c.word.ensures short

pub called-requires-in-Twin-clause-many : goal.called-requires-in-Twin-clause-many
called-requires-in-Twin-clause-many c =
    let named = c.requires.ordered ∙ ap (λ (o : TextOrder). Some (order_about o)) c.in-Twin.is in
    (words_of_order c.args.words.now (Twin c.in-Twin.budget) named).0

pub called-requires-in-Twin-clause-small : goal.called-requires-in-Twin-clause-small
called-requires-in-Twin-clause-small c =
    let named = c.requires.ordered ∙ ap (λ (o : TextOrder). Some (order_about o)) c.in-Twin.is in
    (words_of_order c.args.words.now (Twin c.in-Twin.budget) named).1

pub called-requires-in-Twin-clause-short : goal.called-requires-in-Twin-clause-short
called-requires-in-Twin-clause-short c =
    let named = c.requires.ordered ∙ ap (λ (o : TextOrder). Some (order_about o)) c.in-Twin.is in
    short_words c.args.words.now (Twin c.in-Twin.budget) named

pub word-requires-in-Conform : goal.word-requires-in-Conform
word-requires-in-Conform c =
    let named = c.requires.ordered ∙ ap (λ (o : TextOrder). Some (order_about o)) c.in-Conform.is in
    let many = words_of_order c.args.words.now Conform named in
    omega (arith, many)

pub word-requires-in-Conform-2 : goal.word-requires-in-Conform-2
word-requires-in-Conform-2 c =
    let named = c.requires.ordered ∙ ap (λ (o : TextOrder). Some (order_about o)) c.in-Conform.is in
    let many = words_of_order c.args.words.now Conform named in
    omega (arith, many)

pub answer_conform-requires : goal.answer_conform-requires
answer_conform-requires c =
    let named = c.requires.ordered ∙ ap (λ (o : TextOrder). Some (order_about o)) c.in-Conform.is in
    let short = short_words c.args.words.now Conform named in
    record { short = All_at (λ (word : List ℕ). length word ≤ 1048576) c.args.words.now 2 c.word-in-Conform-2.result.now c.word-in-Conform-2.ensures short }

pub word-requires-in-Rescale : goal.word-requires-in-Rescale
word-requires-in-Rescale c =
    let named = c.requires.ordered ∙ ap (λ (o : TextOrder). Some (order_about o)) c.in-Rescale.is in
    let many = (words_of_order c.args.words.now Rescale named).0 in
    omega (arith, many)

pub answer_rescale-requires : goal.answer_rescale-requires
answer_rescale-requires c =
    let named = c.requires.ordered ∙ ap (λ (o : TextOrder). Some (order_about o)) c.in-Rescale.is in
    let word = get_or_from_slice_get c.args.words.now 1 c.word-in-Rescale.result.now [] c.word-in-Rescale.ensures in
    record { stated = subst (λ (w : List ℕ). IsTrue (is_scales w)) word (words_of_order c.args.words.now Rescale named).1 }

pub word-requires-in-Twin : goal.word-requires-in-Twin
word-requires-in-Twin c =
    let named = c.requires.ordered ∙ ap (λ (o : TextOrder). Some (order_about o)) c.in-Twin.is in
    let many = (words_of_order c.args.words.now (Twin c.in-Twin.budget) named).0 in
    omega (arith, many)

pub answer_twin-requires-clause-stated : goal.answer_twin-requires-clause-stated
answer_twin-requires-clause-stated c =
    let named = c.requires.ordered ∙ ap (λ (o : TextOrder). Some (order_about o)) c.in-Twin.is in
    let word = get_or_from_slice_get c.args.words.now 2 c.word-in-Twin.result.now [] c.word-in-Twin.ensures in
    subst (λ (w : List ℕ). IsTrue (is_scales w)) word (words_of_order c.args.words.now (Twin c.in-Twin.budget) named).2
