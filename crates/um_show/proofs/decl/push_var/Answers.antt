use Rattle.std.proofs.Common.{◌++◌, [], ◌∷◌, ◌∙◌, sym, ap, refl}
use Rattle.std.proofs.lemmas.List.{append-nil}
use Rattle.std.proofs.lemmas.Result.{on_ok_weaker}
use Rattle.um_show.specs.Pieces.{variable, space}
use Rattle.um_show.specs.Layout.{attribute_pieces}
use Rattle.um_show.proofs.Joined.{grows}
use Rattle.um_show.proofs.decl.push_var.Goals as goal

pub returns : goal.returns
returns c =
    let x = c.args.var.now.name in let begun = c.extend_from_slice.new.self.items in
    grows c.push_variable.result c.args.text.now.items begun c.push_variable.new.text.items (attribute_pieces ++ space ∷ []) (variable x ∷ []) _ refl c.in_ok-extend_from_slice.ensures.items
    (on_ok_weaker c.push_variable.result (λ e. e ∙ ap (λ s. begun ++ 39 ∷ s) (sym (append-nil x))) c.push_variable.ensures)
