use Rattle.std.proofs.Common.{sym, ◌∙◌}
use Rattle.um_orders.proofs.OrderWords.{few_digits_parsed}
use Rattle.um_orders.proofs.order.value_of.Goals as goal

pub unreachable-requires : goal.unreachable-requires
unreachable-requires c = cc (sym (few_digits_parsed c.args.digits.now c.from_str_radix.result c.requires c.from_str_radix.ensures.value) ∙ c.in-Err.is)
