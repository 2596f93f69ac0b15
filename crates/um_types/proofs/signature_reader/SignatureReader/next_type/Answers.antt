use Rattle.std.proofs.Common.{ap, sym, ◌∙◌}
use Rattle.um_tree.specs.RawTree.{type_syntax}
use Rattle.um_types.specs.TypeMachine.{type_finish}
use Rattle.um_types.specs.TypeView.{type_state}
use Rattle.um_types.proofs.Inside.{arrow_behind}
use Rattle.um_types.proofs.signature_reader.SignatureReader.next_type.Goals as goal

pub returns-in_ok-push-in-Some : goal.returns-in_ok-push-in-Some
returns-in_ok-push-in-Some c =
    let old = c.args.self.now in
    let is = ap (λ r. type_finish (type_state r)) (sym c.replace-last.ensures.value) ∙ sym c.in-Some.ensures.found in
    arrow_behind old.earlier.items c.push.new.self.items c.in-Some.ty (type_state old.last) (type_state c.replace-last.new.dest) is
    c.in_ok-push-in-Some.ensures.items (ap type_state c.replace-last.ensures.after ∙ c.new.ensures.start) c.requires.earlier (c.requires.last (type_syntax c.in-Some.ty) is)
