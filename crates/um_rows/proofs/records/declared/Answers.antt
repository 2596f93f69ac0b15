use Rattle.std.proofs.Common.{◌≡◌, false, [], refl, sym, ap, ◌∙◌, append-nil}
use Rattle.um_units.specs.PowerMap.{nth}
use Rattle.um_tree.specs.TypeTree.{type_tree}
use Rattle.um_tree.specs.Typing.{put, unit_at}
use Rattle.um_elim.specs.Application.{type_fits}
use Rattle.um_rows.proofs.SliceLaws.{put-units}
use Rattle.um_rows.proofs.NodeLaws.{node_made, node_past}
use Rattle.um_rows.proofs.records.declared.Goals as goal

pub returns-in-Ok-clause-reached : goal.returns-in-Ok-clause-reached
returns-in-Ok-clause-reached c =
    let progress = c.args.progress.now in
    let us = c.args.units.now in
    let t = type_tree c.args.field.now.ty in
    let made = c.in-Ok.ensures.exact in
    node_made progress.rows.items progress.rows.items progress.holes c.args.at [] (put (unit_at us) t) (type_tree c.in-Ok.ty) (refl, sym (append-nil progress.rows.items)) (made ∙ put-units us t c.requires.below) (ap type_fits made ∙ c.in-Ok.ensures.range)

pub returns-in-Err-Range-clause-reached : goal.returns-in-Err-Range-clause-reached
returns-in-Err-Range-clause-reached c =
    let progress = c.args.progress.now in
    let us = c.args.units.now in
    let t = type_tree c.args.field.now.ty in
    let bad : type_fits (put (nth us) t) ≡ false = rw c.in-Err-Range.field-0-is at c.in-Err-Range.ensures.range in
    node_past progress.rows.items progress.holes c.args.at [] (put (unit_at us) t) refl (ap type_fits (sym (put-units us t c.requires.below)) ∙ bad)
