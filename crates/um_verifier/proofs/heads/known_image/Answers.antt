use Rattle.std.proofs.Common.{List, All, map, sym, subst}
use Rattle.um_tree.specs.declared.program.Record.{Record}
use Rattle.um_tree.specs.ProgramTree.{record_tree}
use Rattle.um_shape.proofs.Declarations.{All-unmapped}
use Rattle.um_verify.specs.ImageTree.{image_tree, IsPlainRecord}
use Rattle.um_verifier.specs.KnownHeads.{AreKnownRecords, IsRecordStop}
use Rattle.um_verifier.proofs.FunctionHeads.{record_refusal}
use Rattle.um_verifier.proofs.heads.known_image.Goals as goal

pub known_records-requires-clause-plain : goal.known_records-requires-clause-plain
known_records-requires-clause-plain c =
    subst (λ (xs : List Record). All (λ (d : Record). IsPlainRecord (record_tree d)) xs) (sym c.deref.ensures.value) (All-unmapped IsPlainRecord record_tree c.args.image.now.records.items.items c.requires.form.records)

pub add_heads-requires-clause-records : goal.add_heads-requires-clause-records
add_heads-requires-clause-records c = subst (λ (xs : List Record). AreKnownRecords (map record_tree xs) c.in-Ok.known) c.deref.ensures.value c.in-Ok.ensures

pub returns-in-Err : goal.returns-in-Err
returns-in-Err c =
    record_refusal (image_tree c.args.image.now) c.in-Err.stop (subst (λ (xs : List Record). IsRecordStop (map record_tree xs) c.in-Err.stop) c.deref.ensures.value c.in-Err.ensures)
