use Rattle.std.proofs.Common.{◌++◌, [], ◌∙◌, ap, sym}
use Rattle.std.specs.List.{flat_map}
use Rattle.std.proofs.lemmas.List.{take_all}
use Rattle.um_tree.specs.RawTree.{param_syntax}
use Rattle.um_show.specs.Pieces.{text_of}
use Rattle.um_show.specs.Layout.{param_pieces}
use Rattle.um_show.proofs.Joined.{separated}
use Rattle.um_show.proofs.decl.push_params.Goals as goal

pub returns : goal.returns
returns c =
    let xs = c.args.params.now in
    c.loop-param.invariant ∙ ap (λ s. c.args.text.now.items ++ s) (ap (flat_map (λ x. text_of (param_pieces (param_syntax x)))) (take_all c.loop-param.param-index xs c.loop-param-test.false) ∙ sym (separated param_pieces param_syntax [] xs))
