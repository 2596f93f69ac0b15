use Rattle.std.proofs.Common.{sym, ap, ◌∙◌, ◌+◌, ◌<◌, ◌++◌, ◌∷◌, length, arith}
use Rattle.um_tidy.specs.Placed.{lines_from}
use Rattle.um_tidy.proofs.PlacedComments.{kept_lines, ends_here}
use Rattle.um_tidy.proofs.comments.edge_after.Goals as goal

pub returns-clause-order : goal.returns-clause-order
returns-clause-order c =
    let gap = c.args.gap.now in
    let feed = c.first_edge-feed.result in
    let (after, before) = c.first_edge-feed.ensures.order in
    let here = ends_here gap c.args.start feed c.trimmed_some.result (omega (arith, after)) (omega (arith, before, c.requires.within)) c.requires.begins c.trimmed_some.ensures.within c.trimmed_some.ensures.kept in
    (here.some, here.within, before)

pub returns-clause-stays : goal.returns-clause-stays
returns-clause-stays c =
    let gap = c.args.gap.now in
    let start = c.args.start in
    let feed = c.first_edge-feed.result in
    let (after, before) = c.first_edge-feed.ensures.order in
    let some : feed < length gap = omega (arith, before, c.requires.within) in
    let here = ends_here gap start feed c.trimmed_some.result (omega (arith, after)) some c.requires.begins c.trimmed_some.ensures.within c.trimmed_some.ensures.kept in
    λ last.
    kept_lines last gap feed some c.first_edge-feed.ensures.feed (feed + 1) start (omega arith) (omega (arith, after)) c.requires.begins c.first_edge-feed.ensures.inner
    ∙ ap (λ ys. ys ++ 10 ∷ lines_from last gap (feed + 1)) (sym here.text)
