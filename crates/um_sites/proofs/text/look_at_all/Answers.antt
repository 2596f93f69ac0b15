use Rattle.std.proofs.Common.{◌+◌, ◌∙◌, List, ℕ, ap, sym, drop, filter}
use Rattle.std.specs.Str.{is_utf8}
use Rattle.um_similar.specs.SimilarNames.{looked_at_all}
use Rattle.um_sites.proofs.Words.{rest_more, look_next}
use Rattle.um_sites.proofs.text.look_at_all.Goals as goal

pub loop-name-preserved : goal.loop-name-preserved
loop-name-preserved c =
    let known = c.args.known.now in
    let i = c.loop-name.name-index in
    let x = c.name-item.result in
    look_next c.loop-name.similar c.look_at.new.similar x (drop (i + 1) known) c.in_ok-look_at.ensures
    ∙ ap (λ (names : List (List ℕ)). looked_at_all c.loop-name.similar (filter is_utf8 names)) (sym (rest_more known i x c.loop-name-test.true c.name-item.is))
    ∙ c.loop-name.invariant
