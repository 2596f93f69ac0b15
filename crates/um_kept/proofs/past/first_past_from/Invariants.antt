use Rattle.std.proofs.Common.{◌≡◌, ◌<◌, ℤ, drop, nat_abs}
use Rattle.std.specs.Prelude.{IsTrue, None, Some}
use Rattle.std.specs.List.{list_all}
use Rattle.um_kept.specs.Formed.{IsPowerIn}
use Rattle.um_kept.proofs.Limits.{is_low}
use Rattle.um_kept.proofs.past.first_past_from.Given as goal

abbrev pub invariant-loop-i : goal.invariant-loop-i
invariant-loop-i l = record {
  none : l.found ≡ None → IsTrue (list_all (is_low 9223372036854775807) (drop l.i l.terms));
  some : (z : ℤ) → l.found ≡ Some z → IsPowerIn z l.unit × (9223372036854775807 < nat_abs z);
}
