use Rattle.um_tree.specs.RawTree.{program_syntax}
use Rattle.um_front.proofs.CheckedTexts.{read_is_readable}
use Rattle.um_front.proofs.shaping.shape_read.Goals as goal

pub shape_resolved-requires-clause-resolved : goal.shape_resolved-requires-clause-resolved
shape_resolved-requires-clause-resolved c =
    (program_syntax c.args.text.raw, c.requires.read, c.in-Ok.ensures.exact, c.in-Ok.ensures.abbreviated)

pub shape_resolved-requires-clause-formed : goal.shape_resolved-requires-clause-formed
shape_resolved-requires-clause-formed c =
    c.in-Ok.ensures.formed (read_is_readable c.args.text.bytes.items (program_syntax c.args.text.raw) c.requires.read)
