use Rattle.std.proofs.Common.{◌≡◌, List, map, ap, subst}
use Rattle.um_tree.specs.declared.program.Record.{Record}
use Rattle.um_tree.specs.TypeTree.{shape_tree}
use Rattle.um_tree.specs.ProgramTree.{RecordTree, record_tree, program_tree}
use Rattle.um_value.specs.ValueMachine.{machine_of_values}
use Rattle.um_value.specs.ReadingParts.{RunAt}
use Rattle.um_value.proofs.ValueLoop.{raw_of}
use Rattle.um_value.proofs.reading.read_raw.Goals as goal

pub returns : goal.returns
returns c =
    let p = program_tree c.args.program.now in
    let s = shape_tree c.args.shape.now in
    let tokens = c.args.tokens in
    let same : map record_tree c.deref.result.now ≡ p.records = ap (λ (rs : List Record). map record_tree rs) c.deref.ensures.value in
    raw_of p c.requires.formed s c.requires.shape tokens c.args.end c.run.result
    (subst (λ (rs : List RecordTree). RunAt (machine_of_values rs s) tokens c.args.end c.run.result) same c.run.ensures)
