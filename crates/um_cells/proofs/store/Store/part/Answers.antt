use Rattle.std.proofs.Common.{◌∙◌, ap}
use Rattle.um_cells.specs.Reading.{part_word}
use Rattle.um_cells.proofs.Operating.{no_part, some_part}
use Rattle.um_cells.proofs.store.Store.part.Goals as goal

pub returns-then-place-count : goal.returns-then-place-count
returns-then-place-count c = λ vs h p. no_part c.args.self.now c.args.n c.in_ok-count.count c.args.place vs c.in_ok-count.ensures.value c.if-place-count.true h

pub returns : goal.returns
returns c = λ vs h p. some_part c.args.self.now c.args.n c.in_ok-count.count c.args.place vs c.part_word.result c.in_ok-count.ensures.value c.if-place-count.false (c.part_word.ensures ∙ ap part_word c.cell_behind.ensures) h p
