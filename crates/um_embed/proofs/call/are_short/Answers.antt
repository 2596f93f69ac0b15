use Rattle.std.proofs.Common.{length, string_bytes, sym, ◌∙◌, rules, tests}
use Rattle.std.specs.Prelude.{nat_le}
use Rattle.std.proofs.lemmas.Iterator.{YieldsList-from_slice}
use Rattle.std.proofs.lemmas.Iterator.Search.{all_from_yields_List}
use Rattle.std.proofs.lemmas.List.Folds.{list_all-map}
use Rattle.um_embed.proofs.call.are_short.Goals as goal

pub returns : goal.returns
returns c =
    let xs = c.args.words.now in
    all_from_yields_List (λ w. nat_le (length (string_bytes w)) 1048576) _ _ _ c.all.ensures.ran (YieldsList-from_slice xs cc) (λ x b q k. search (rules, tests))
    ∙ sym (list_all-map (λ w. nat_le (length w) 1048576) string_bytes xs)
