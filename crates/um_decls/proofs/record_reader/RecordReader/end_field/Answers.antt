use Rattle.std.proofs.Common.{sym}
use Rattle.um_tree.specs.RawTree.{type_syntax}
use Rattle.um_decls.proofs.record_reader.RecordReader.end_field.Goals as goal

pub after_field-requires-clause-low : goal.after_field-requires-clause-low
after_field-requires-clause-low c = c.requires.low (type_syntax c.in-Some.ty) (sym c.in-Some.ensures.found)
