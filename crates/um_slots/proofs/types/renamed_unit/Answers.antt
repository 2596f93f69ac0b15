use Rattle.std.proofs.Common.{◌≡◌, true, false}
use Rattle.um_units.specs.PowerMap.{nth, replace}
use Rattle.um_units.specs.Range.{fits}
use Rattle.um_slots.proofs.RenamingLaws.{renamed_fits}
use Rattle.um_slots.proofs.types.renamed_unit.Goals as goal

pub unreachable-requires : goal.unreachable-requires
unreachable-requires c =
    let fit : fits (replace (nth c.args.by.now) c.args.unit.now) ≡ true = renamed_fits c.args.by.now c.requires.variables c.args.unit.now c.requires.below c.terms.ensures.fits in
    let bad : fits (replace (nth c.args.by.now) c.args.unit.now) ≡ false = rw c.in-Err-Range.field-0-is at c.in-Err-Range.ensures.range in
    cc
