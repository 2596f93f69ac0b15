use Rattle.std.proofs.Common.{◌++◌, [], ◌∷◌, ◌∙◌, sym, ap, map}
use Rattle.um_tree.specs.RawTree.{field_decl_syntax}
use Rattle.um_show.specs.Pieces.{semi, space}
use Rattle.um_show.specs.Layout.{field_decl_pieces}
use Rattle.um_show.specs.Lists.{field_decls_text}
use Rattle.um_show.proofs.Joined.{joined_all}
use Rattle.um_show.proofs.decl.push_field_decls.Goals as goal

pub returns : goal.returns
returns c =
    let first = c.in-Some.first.now in let rest = c.in-Some.rest.now in
    joined_all field_decl_pieces field_decl_syntax (semi ∷ space ∷ []) first rest c.loop-field.field-index _ _ _ c.loop-field-test.false c.in_ok-push_field_decl.ensures c.loop-field.invariant
    ∙ ap (λ fs. c.args.text.now.items ++ field_decls_text (map field_decl_syntax fs)) (sym c.in-Some.ensures.cases.0)
