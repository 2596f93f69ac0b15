use Rattle.std.proofs.Common.{◌≡◌, ◌∙◌, ◌+◌, ◌-◌, ap, sym, get_or, inl, inr, arith}
use Rattle.std.proofs.lemmas.Bool.{cases_lt}
use Rattle.um_tidy.proofs.margin.past_feeds.Goals as goal

pub returns-clause-feeds : goal.returns-clause-feeds
returns-clause-feeds c =
    let gap = c.args.gap.now in
    let at = c.args.at in
    λ k low high. elim (cases_lt at k) [
      | inl later ↦
          let place : at + 1 + (k - (at + 1)) ≡ k = omega (arith, later) in
          ap (λ j. get_or gap j 0) (sym place) ∙ c.run_len.ensures.same (k - (at + 1)) (omega (arith, later, high))
      | inr here ↦
          let same : at ≡ k = omega (arith, low, here) in
          ap (λ j. get_or gap j 0) (sym same) ∙ c.requires.feed
    ]
