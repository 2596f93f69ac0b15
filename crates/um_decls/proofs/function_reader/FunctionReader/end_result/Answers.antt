use Rattle.std.proofs.Common.{sym}
use Rattle.um_tree.specs.RawTree.{type_syntax}
use Rattle.um_decls.proofs.function_reader.FunctionReader.end_result.Goals as goal

pub after_result-requires-clause-low : goal.after_result-requires-clause-low
after_result-requires-clause-low c = c.requires.low (type_syntax c.in-Some.ty) (sym c.in-Some.ensures.found)
