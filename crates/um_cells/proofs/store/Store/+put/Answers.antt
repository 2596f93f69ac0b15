use Rattle.std.proofs.Common.{sym, subst, arith, map, take, ◌+◌}
use Rattle.um_tree.specs.ValueTree.{value_tree}
use Rattle.um_cells.specs.Denotes.{DenoteEach}
use Rattle.um_cells.proofs.Denoting.{retains_both, some_values}
use Rattle.um_cells.proofs.Rows.{one_more, all_words}
use Rattle.um_cells.proofs.store.Store.+put.Goals as goal

pub put-make_list-requires : goal.put-make_list-requires
put-make_list-requires t c = some_values _ _ _ _ c.deref-in-List.ensures.value c.in_ok-words-in-List.ensures.denote

pub put-make_record-requires : goal.put-make_record-requires
put-make_record-requires t c = some_values _ _ _ _ c.deref-in-Rec-2.ensures.value c.in_ok-words-in-Rec.ensures.denote

pub put_each-returns-in_err-word-clause-keeps : goal.put_each-returns-in_err-word-clause-keeps
put_each-returns-in_err-word-clause-keeps t c = retains_both c.args.self.now.cells.items c.loop-i.self.cells.items c.put.new.self.cells.items c.loop-i.invariant.keeps c.in_err-word.ensures.keeps

pub put_each-returns-in_err-push-clause-keeps : goal.put_each-returns-in_err-push-clause-keeps
put_each-returns-in_err-push-clause-keeps t c = retains_both c.args.self.now.cells.items c.loop-i.self.cells.items c.put.new.self.cells.items c.loop-i.invariant.keeps c.in_ok-word.ensures.keeps

pub put_each-loop-i-preserved : goal.put_each-loop-i-preserved
put_each-loop-i-preserved t c = record {
  keeps = retains_both c.args.self.now.cells.items c.loop-i.self.cells.items c.put.new.self.cells.items c.loop-i.invariant.keeps c.in_ok-word.ensures.keeps;
  denote = subst (λ ws. DenoteEach c.put.new.self.cells.items ws (map value_tree (take (c.loop-i.i + 1) c.args.values.now))) (sym c.in_ok-push.ensures.items) (one_more value_tree c.loop-i.self.cells.items c.put.new.self.cells.items c.loop-i.words.items c.args.values.now c.loop-i.i c.index-values-i.result c.in_ok-word.word c.in_ok-word.ensures.keeps c.loop-i.invariant.denote (omega arith) c.index-values-i.is c.in_ok-word.ensures.denotes);
}

pub put_each-returns-clause-denote : goal.put_each-returns-clause-denote
put_each-returns-clause-denote t c = all_words value_tree c.loop-i.self.cells.items c.loop-i.words.items c.args.values.now c.loop-i.i c.loop-i.invariant.denote (omega arith)
