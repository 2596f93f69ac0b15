use Rattle.std.proofs.Common.{◌∙◌, rules, tests}
use Rattle.std.proofs.lemmas.Iterator.{YieldsList-from_slice}
use Rattle.std.proofs.lemmas.Iterator.Search.{all_from_yields_List}
use Rattle.um_shape.specs.FirstFault.{same_shape}
use Rattle.um_shape.specs.FlatShapes.{flat_shape}
use Rattle.um_shape.proofs.SameShape.{all_same-is}
use Rattle.um_shape.proofs.lookup.all_same.Goals as goal

pub returns : goal.returns
returns c =
    let s = flat_shape c.args.shape in
    let xs = c.args.items.now in
    all_from_yields_List (λ f. same_shape (flat_shape f) s) _ _ _ c.all.ensures.ran (YieldsList-from_slice xs cc) (λ x b q k. search (rules, tests)) ∙ all_same-is s xs
