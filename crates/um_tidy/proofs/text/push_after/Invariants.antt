use Rattle.std.proofs.Common.{◌≡◌, ◌++◌, length, drop}
use Rattle.um_tidy.specs.Tidied.{tidied_after}
use Rattle.um_syntax.specs.Order.{AreInOrder}
use Rattle.um_tidy.proofs.text.push_after.Given as goal

abbrev pub invariant-loop-k : goal.invariant-loop-k
invariant-loop-k l = record {
  in_order : AreInOrder l.last.end (drop l.k l.tokens) (length l.bytes);
  added : l.text.items ++ tidied_after l.bytes l.stand l.last (drop l.k l.tokens) ≡ l.fn.text.items ++ tidied_after l.bytes l.fn.stand l.fn.first (drop 1 l.tokens);
}
