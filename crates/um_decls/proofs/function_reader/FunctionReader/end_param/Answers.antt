use Rattle.std.proofs.Common.{sym}
use Rattle.um_tree.specs.RawTree.{type_syntax}
use Rattle.um_decls.proofs.function_reader.FunctionReader.end_param.Goals as goal

pub after_param-requires-clause-low : goal.after_param-requires-clause-low
after_param-requires-clause-low c = c.requires.low (type_syntax c.in-Some.ty) (sym c.in-Some.ensures.found)
