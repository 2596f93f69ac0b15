use Rattle.um_tree.specs.ProgramTree.{record_tree, function_tree, program_tree}
use Rattle.um_shape.specs.LowNotes.{HasLowFields, IsLow}
use Rattle.um_shape.proofs.Declarations.{All-unmapped}
use Rattle.um_shape.proofs.Formed.{low_records, low_functions}
use Rattle.um_shape.proofs.whole.heads_of.Goals as goal

pub known_records-requires : goal.known_records-requires
known_records-requires c =
    let program = c.args.program.now in
    rw c.deref.ensures.value (record { low = All-unmapped HasLowFields record_tree program.records.items.items (low_records (program_tree program) c.requires.formed) })

pub add_heads-requires : goal.add_heads-requires
add_heads-requires c =
    let program = c.args.program.now in
    rw c.deref-2.ensures.value (record { low = All-unmapped IsLow function_tree program.functions.items.items (low_functions (program_tree program) c.requires.formed) })
