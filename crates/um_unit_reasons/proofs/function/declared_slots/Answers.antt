use Rattle.std.proofs.Common.{◌&&◌, [], None, is_some, map, get_or, refl, ap, ◌∙◌, subst}
use Rattle.um_tree.specs.TypeTree.{note_tree}
use Rattle.um_tree.specs.ExprTree.{expr_tree}
use Rattle.um_tree.specs.ProgramTree.{record_tree, scheme_tree, function_tree, result_tree}
use Rattle.um_slots.specs.Callees.{callee_of}
use Rattle.um_slots.specs.Contexts.{whole_keys}
use Rattle.um_slots.specs.Slotting.{with_keys, IsTable}
use Rattle.um_unit_reasons.proofs.SlotFacts.{slots_are}
use Rattle.um_unit_reasons.proofs.function.declared_slots.Goals as goal

pub returns-in-Ok : goal.returns-in-Ok
returns-in-Ok c = λ v.
    let records = c.args.program.now.records.items.items in
    let schemes = map scheme_tree c.args.schemes.now in
    let f = c.args.declared.now in
    let number = c.args.number in
    let slots = c.in-Ok.field-0.slots in
    let one =
    subst (λ rs. IsTable (with_keys [] (whole_keys (map record_tree rs) (callee_of schemes number c.may_recur.result) f.units (map note_tree c.deref-2.result.now) (result_tree f.result) (expr_tree f.body))) slots) c.deref.ensures.value c.in-Ok.ensures.slots in
    let two =
    subst (λ ps. IsTable (with_keys [] (whole_keys (map record_tree records) (callee_of schemes number c.may_recur.result) f.units (map note_tree ps) (result_tree f.result) (expr_tree f.body))) slots) c.deref-2.ensures.value one in
    let three =
    subst (λ r. IsTable (with_keys [] (whole_keys (map record_tree records) (callee_of schemes number r) f.units (map note_tree f.params.items.items) (result_tree f.result) (expr_tree f.body))) slots) c.may_recur.ensures two in
    ap (λ ns. get_or ns.items v None) c.names_of.ensures
    ∙ slots_are (map record_tree records) schemes number (function_tree f) (whole_keys (map record_tree records) (callee_of schemes number (f.recursive && is_some (result_tree f.result))) f.units (map note_tree f.params.items.items) (result_tree f.result) (expr_tree f.body)) refl slots three v
