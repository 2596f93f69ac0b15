use Rattle.std.proofs.Common.{map, ap}
use Rattle.um_tree.specs.TypeTree.{type_tree, record_type}
use Rattle.um_tree.specs.ProgramTree.{record_tree}
use Rattle.um_tree.specs.Typing.{put, unit_at, field_types}
use Rattle.um_equal_types.specs.Against.{types_against as types_against_steps}
use Rattle.um_rows.proofs.NodeLaws.{node_made}
use Rattle.um_rows.proofs.records.record_of.Goals as goal

pub returns-clause-reached : goal.returns-clause-reached
returns-clause-reached c =
    let progress = c.args.progress.now in
    let value = c.args.value.now in
    let by = value.units.now in
    let rows = types_against_steps c.args.at (map (put (unit_at by)) (field_types (record_tree value.declaration.now))) (map type_tree c.args.parts.now) in
    node_made progress.rows.items c.parts_against.new.rows.items progress.holes c.args.at rows (record_type value.number by) (record_type value.number c.in_ok-units.units) c.in_ok-parts_against.ensures (ap (record_type value.number) c.in_ok-units.ensures.same) c.in_ok-units.ensures.fits
