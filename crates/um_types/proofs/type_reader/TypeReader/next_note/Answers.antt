use Rattle.std.proofs.Common.{ap, sym, ◌∙◌, arith}
use Rattle.um_tree.specs.RawTree.{note_syntax, note_syntaxes}
use Rattle.um_types.specs.TypeMachine.{next_note, owner_height, type_least}
use Rattle.um_types.specs.TypeView.{view_owner}
use Rattle.um_types.proofs.TypeLaws.{notes_height_last}
use Rattle.um_types.proofs.Inside.{in_note, comma_behind}
use Rattle.um_types.proofs.type_reader.TypeReader.next_note.Goals as goal

pub returns-in_ok-push-in-Name : goal.returns-in_ok-push-in-Name
returns-in_ok-push-in-Name c =
    let old = c.args.self.now in
    let named = c.in-Name in
    let n = note_syntax c.args.note in
    let is =
    c.begin_note.ensures
    ∙ comma_behind old.depth named.at named.name named.earlier.items.items c.push.new.self.items c.args.note c.in_ok-push-in-Name.ensures.items
    in (
      is ∙ sym (ap (λ o. next_note old.depth (view_owner o) n) named.is),
      (λ h. in_note old.depth _ _ (sym is ∙ h)),
      omega (arith, c.requires.low, ap type_least is, notes_height_last (note_syntaxes named.earlier) n, ap (λ o. owner_height (view_owner o)) named.is),
    )
