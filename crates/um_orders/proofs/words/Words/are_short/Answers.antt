use Rattle.std.proofs.Common.{map, string_bytes, sym, ap, ◌∙◌, rules, tests}
use Rattle.std.specs.List.{list_all}
use Rattle.std.proofs.lemmas.Iterator.{YieldsList-from_slice}
use Rattle.std.proofs.lemmas.Iterator.Search.{all_from_yields_List}
use Rattle.std.proofs.lemmas.List.Folds.{list_all-map}
use Rattle.um_orders.specs.Orders.{is_short}
use Rattle.um_orders.proofs.words.Words.are_short.Goals as goal

pub returns : goal.returns
returns c =
    let xs = c.deref.result.now in
    all_from_yields_List (λ w. is_short (string_bytes w)) _ _ _ c.all.ensures.ran (YieldsList-from_slice xs cc) (λ x b q k. search (rules, tests))
    ∙ sym (list_all-map is_short string_bytes xs)
    ∙ ap (list_all is_short) (ap (map string_bytes) c.deref.ensures.value ∙ c.self.view_is)
