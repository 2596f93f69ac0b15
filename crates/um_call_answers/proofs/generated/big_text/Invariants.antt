use Rattle.std.proofs.Common.{◌≡◌}
use Rattle.um_call_answers.specs.BigText.{big_text}
use Rattle.um_call_answers.proofs.generated.big_text.Given as goal

-- the text of the first k functions
abbrev pub invariant-loop-k : goal.invariant-loop-k
invariant-loop-k l = l.text.items ≡ big_text l.k
