use Rattle.um_tool.proofs.PrintedSchemes.{printed_types_are_principal_schemes, units_name_the_first_untyped, not_general_names_the_first_untyped}
use Rattle.um_tool.proofs.laws.printed_types.Goals as goal

pub returns : goal.returns
returns c = record {
  schemes = printed_types_are_principal_schemes;
  refusal = units_name_the_first_untyped;
  not_general = not_general_names_the_first_untyped;
}
