use Rattle.um_tree.specs.ProgramTree.{field_tree}
use Rattle.um_verify.specs.ImageTree.{IsPlainField}
use Rattle.um_image.proofs.Added.{tree_at, left_next}
use Rattle.std.proofs.Common.{rules, ◌≤◌, length}
use Rattle.um_image.specs.Pieces.{field_bytes}
use Rattle.um_image.specs.Places.{FieldFits}
use Rattle.um_image.proofs.Fitting.{until_last, until_next}
use Rattle.um_image.proofs.encoding.put_fields.Goals as goal

pub put_field-requires : goal.put_field-requires
put_field-requires c = record { plain = tree_at IsPlainField field_tree c.args.fields.now c.loop-i.i c.index-fields-i.result c.requires.plain c.loop-i-test.true c.index-fields-i.is }

pub loop-i-preserved : goal.loop-i-preserved
loop-i-preserved c = (
  left_next field_bytes field_tree c.args.fields.now c.loop-i.i c.index-fields-i.result c.args.out.now.items c.loop-i.out.items c.put_field.new.out.items c.loop-i-test.true c.index-fields-i.is c.loop-i.invariant.0 c.in_ok-put_field.ensures.bytes,
  until_next FieldFits field_tree c.args.fields.now c.loop-i.i c.index-fields-i.result c.loop-i-test.true c.index-fields-i.is c.in_ok-put_field.ensures.fits c.loop-i.invariant.1,
)

pub returns-clause-fits : goal.returns-clause-fits
returns-clause-fits c =
    let past : length c.args.fields.now ≤ c.loop-i.i = search rules in
    until_last FieldFits field_tree c.args.fields.now c.loop-i.i past c.loop-i.invariant.1
