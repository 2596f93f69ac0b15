use Rattle.std.proofs.Common.{pos, ap, ◌∙◌}
use Rattle.um_syntax.specs.Lexing.{is_power_place}
use Rattle.um_text_details.proofs.tell.try_first.Goals as goal

pub returns : goal.returns
returns c = record {
  power = c.is_power_place.ensures ∙ ap is_power_place c.before-2.ensures;
  fraction = c.takes_number.ensures (pos 5) (pos 2) c.of_parts.ensures.value;
  two = c.takes_number-2.ensures (pos 2) (pos 1) c.of_parts-2.ensures.value;
  one = c.takes_number-3.ensures (pos 1) (pos 1) c.of_parts-3.ensures.value;
  operators = c.takes_operators.ensures;
}
