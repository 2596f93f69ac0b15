use Rattle.std.proofs.Common.{sym, subst, ap, ◌∙◌, ◌≤◌, All, List, length, map}
use Rattle.std.proofs.lemmas.List.{length-map}
use Rattle.um_machine.specs.declared.op.Op.{Op}
use Rattle.um_machine.specs.declared.code.Entry.{Entry}
use Rattle.um_verify.specs.declared.image.Head.{Head}
use Rattle.um_verify.specs.ImageTree.{head_tree, image_tree}
use Rattle.um_image.proofs.Added.{match_lengths, follow_within}
use Rattle.um_image.proofs.Fitting.{numbers_fit}
use Rattle.um_image.proofs.encoding.added.Goals as goal

pub put_functions-requires-clause-entries : goal.put_functions-requires-clause-entries
put_functions-requires-clause-entries c =
    let heads = c.args.image.now.heads.items.items in
    ap (λ (es : List Entry). length es) c.as_slice-2.ensures
    ∙ match_lengths c.args.image.now.code.entries (map head_tree heads) c.requires.form.entries
    ∙ length-map heads head_tree
    ∙ ap (λ (hs : List Head). length hs) (sym c.deref-2.ensures.value)

pub put_functions-requires-clause-within : goal.put_functions-requires-clause-within
put_functions-requires-clause-within c =
    let w = follow_within 0 (length c.args.image.now.code.ops) c.args.image.now.code.entries c.requires.form.follow in
    subst (λ (es : List Entry). All (λ e. (e.start ≤ e.end) × (e.end ≤ length c.as_slice.result.now)) es) (sym c.as_slice-2.ensures)
    (subst (λ (ops : List Op). All (λ e. (e.start ≤ e.end) × (e.end ≤ length ops)) c.args.image.now.code.entries) (sym c.as_slice.ensures) w)

pub returns-clause-fits : goal.returns-clause-fits
returns-clause-fits c =
    let records = rw c.deref.ensures.value at c.in_ok-put_records.ensures.fits in
    let functions = rw c.deref-2.ensures.value at (rw c.as_slice.ensures at (rw c.as_slice-2.ensures at c.in_ok-put_functions.ensures.fits)) in
    numbers_fit (image_tree c.args.image.now) c.requires.form records functions
