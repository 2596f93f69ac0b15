use Rattle.std.proofs.Common.{◌≡◌, ◌+◌, ◌≤◌, drop, length}
use Rattle.std.specs.Prelude.{None}
use Rattle.std.specs.List.{count_by}
use Rattle.um_text_details.specs.OpenLets.{is_in, is_let, open_let}
use Rattle.um_text_details.proofs.missing.open_let.Given as goal

abbrev pub invariant-loop-k : goal.invariant-loop-k
invariant-loop-k l = record {
  lets : l.lets ≡ count_by is_let (drop l.k l.tokens);
  ins : l.ins ≡ count_by is_in (drop l.k l.tokens);
  none : open_let (drop l.k l.tokens) ≡ None;
  few_lets : l.lets + l.k ≤ length l.tokens;
  few_ins : l.ins + l.k ≤ length l.tokens;
}
