use Rattle.um_tree.specs.ProgramTree.{record_tree}
use Rattle.um_verify.specs.ImageTree.{IsPlainRecord}
use Rattle.um_image.proofs.Added.{tree_at, left_next}
use Rattle.std.proofs.Common.{rules, ◌≤◌, length}
use Rattle.um_image.specs.Pieces.{record_bytes}
use Rattle.um_image.specs.Places.{RecordFits}
use Rattle.um_image.proofs.Fitting.{until_last, until_next}
use Rattle.um_image.proofs.encoding.put_records.Goals as goal

pub put_record-requires : goal.put_record-requires
put_record-requires c = record { plain = tree_at IsPlainRecord record_tree c.args.records.now c.loop-i.i c.index-records-i.result c.requires.plain c.loop-i-test.true c.index-records-i.is }

pub loop-i-preserved : goal.loop-i-preserved
loop-i-preserved c = (
  left_next record_bytes record_tree c.args.records.now c.loop-i.i c.index-records-i.result c.put_number.new.out.items c.loop-i.out.items c.put_record.new.out.items c.loop-i-test.true c.index-records-i.is c.loop-i.invariant.0 c.in_ok-put_record.ensures.bytes,
  until_next RecordFits record_tree c.args.records.now c.loop-i.i c.index-records-i.result c.loop-i-test.true c.index-records-i.is c.in_ok-put_record.ensures.fits c.loop-i.invariant.1,
)

pub returns-clause-fits : goal.returns-clause-fits
returns-clause-fits c =
    let past : length c.args.records.now ≤ c.loop-i.i = search rules in
    until_last RecordFits record_tree c.args.records.now c.loop-i.i past c.loop-i.invariant.1
