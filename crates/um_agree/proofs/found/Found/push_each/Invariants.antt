use Rattle.std.proofs.Common.{◌≡◌, ◌++◌, drop}
use Rattle.um_agree.specs.Asked.{asked_each, asked_parts, rule_each}
use Rattle.um_agree.proofs.found.Found.push_each.Given as goal

abbrev pub invariant-loop-k : goal.invariant-loop-k
invariant-loop-k l = record {
  left : l.self.asked.items ++ asked_each (rule_each l.each) l.k l.at (drop l.k l.ends) ≡ l.fn.self.asked.items ++ asked_parts l.each l.at l.ends;
  nodes : l.self.nodes ≡ l.fn.self.nodes;
}
