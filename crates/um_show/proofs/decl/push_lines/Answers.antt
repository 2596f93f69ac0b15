use Rattle.std.proofs.Common.{◌++◌, [], ◌∙◌, ap, sym}
use Rattle.std.specs.List.{flat_map}
use Rattle.std.proofs.lemmas.List.{take_all}
use Rattle.um_tree.specs.RawTree.{decl_syntax}
use Rattle.um_show.specs.Pieces.{text_of}
use Rattle.um_show.specs.Layout.{line_pieces}
use Rattle.um_show.proofs.Joined.{separated}
use Rattle.um_show.proofs.decl.push_lines.Goals as goal

pub returns : goal.returns
returns c =
    let xs = c.args.decls.now in
    c.loop-decl.invariant ∙ ap (λ s. c.args.text.now.items ++ s) (ap (flat_map (λ x. text_of (line_pieces (decl_syntax x)))) (take_all c.loop-decl.decl-index xs c.loop-decl-test.false) ∙ sym (separated line_pieces decl_syntax [] xs))
