use Rattle.um_tool.proofs.PrintedSchemes.{printed_code_is_the_programs_code}
use Rattle.um_tool.proofs.laws.printed_code.Goals as goal

pub returns : goal.returns
returns c = printed_code_is_the_programs_code
