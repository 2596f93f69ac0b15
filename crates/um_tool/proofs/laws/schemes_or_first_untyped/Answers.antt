use Rattle.um_tool.proofs.FirstUntyped.{types_are_schemes_or_first_untyped, each_order_names_first_untyped}
use Rattle.um_tool.proofs.laws.schemes_or_first_untyped.Goals as goal

pub returns : goal.returns
returns c = record { types = types_are_schemes_or_first_untyped; others = each_order_names_first_untyped }
