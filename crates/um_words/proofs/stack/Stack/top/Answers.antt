use Rattle.std.proofs.Common.{◌≡◌, ◌-◌, ◌∙◌, ap, refl, sym, Some, length, slice_get, arith}
use Rattle.std.proofs.lemmas.Option.{slice_get-get_or, slice_get_within}
use Rattle.um_cells.proofs.Denoting.{length-DenoteEach}
use Rattle.um_words.proofs.Settled.{top_denotes_value}
use Rattle.um_words.proofs.stack.Stack.top.Goals as goal

pub returns-then-count-eq0-clause-value : goal.returns-then-count-eq0-clause-value
returns-then-count-eq0-clause-value c = λ vs v h k.
    let stack = c.args.self.now in
    let many : length vs ≡ length stack.words.items = length-DenoteEach stack.store.cells.items stack.words.items vs h in
    let within = slice_get_within vs (length vs - 1) v k in
    absurd (omega (arith, many, within))

pub returns-clause-value : goal.returns-clause-value
returns-clause-value c = λ vs v h k.
    let stack = c.args.self.now in
    let at = c.len-count.result - 1 in
    let word : slice_get stack.words.items at ≡ Some c.index.result.now = slice_get-get_or stack.words.items at c.index.result.now (omega arith) ∙ ap Some (sym c.index.ensures) in
    (c.index.result.now, refl, top_denotes_value stack c.index.result.now at vs v (omega arith) word h k)
