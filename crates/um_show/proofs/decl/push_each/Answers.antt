use Rattle.std.proofs.Common.{rules, ◌++◌, [], ◌∙◌, ap, sym}
use Rattle.std.specs.List.{flat_map}
use Rattle.std.proofs.lemmas.List.{map-id}
use Rattle.std.proofs.lemmas.Iterator.Consumers.{YieldsList-end}
use Rattle.std.proofs.lemmas.Iterator.Adapters.{YieldsList-from_vec}
use Rattle.um_tree.specs.RawTree.{decl_syntax}
use Rattle.um_show.specs.Pieces.{text_of}
use Rattle.um_show.specs.Layout.{line_pieces}
use Rattle.um_show.proofs.Joined.{separated}
use Rattle.um_show.proofs.decl.push_each.Goals as goal

pub returns : goal.returns
returns c =
    let xs = c.args.decls.items in
    let end = YieldsList-end (YieldsList-from_vec {s = c.into_iter-decl-iterator.result} xs (search rules) (search rules)) c.loop-decl.yielded c.loop-decl.decl-iterator c.loop-decl.yielded_by c.next.result c.next.new.self c.in-None.is c.next.ensures.steps in
    let all = sym (map-id c.loop-decl.yielded) ∙ end.0 in
    c.loop-decl.invariant ∙ ap (λ s. c.args.text.now.items ++ s) (ap (flat_map (λ x. text_of (line_pieces (decl_syntax x)))) all ∙ sym (separated line_pieces decl_syntax [] xs))
