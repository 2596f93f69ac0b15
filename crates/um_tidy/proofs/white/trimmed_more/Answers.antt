use Rattle.std.proofs.Common.{◌≡◌, ◌∙◌, ap, ◌+◌, ◌-◌, take, arith}
use Rattle.um_tidy.specs.Gaps.{trimmed}
use Rattle.um_tidy.proofs.Whites.{trimmed_run, trimmed_near}
use Rattle.um_tidy.proofs.white.trimmed_more.Goals as goal

pub returns-then-near-gt0-clause-kept : goal.returns-then-near-gt0-clause-kept
returns-then-near-gt0-clause-kept c =
    let bytes = c.args.bytes.now in
    let l = c.loop-len in
    let found = c.near_trimmed-near.ensures in
    let place : l.len - 16 + 16 ≡ l.len = omega arith in
    trimmed_near bytes (l.len - 16) c.near_trimmed-near.result (omega (arith, place, l.invariant.within, c.requires)) c.if-near-gt0.true found.within found.passed (found.ended c.if-near-gt0.true)
    ∙ ap (λ k. trimmed (take k bytes)) place
    ∙ l.invariant.so_far

pub loop-len-preserved : goal.loop-len-preserved
loop-len-preserved c =
    let bytes = c.args.bytes.now in
    let l = c.loop-len in
    let found = c.near_trimmed-near.ensures in
    let place : l.len - 16 + 16 ≡ l.len = omega arith in
    let none : c.near_trimmed-near.result ≡ 0 = omega (arith, c.if-near-gt0.false) in
    record {
      within = omega (arith, l.invariant.within);
      so_far =
          trimmed_run bytes (l.len - 16) 16 (omega (arith, place, l.invariant.within, c.requires)) (λ k low high. found.passed k (omega (arith, low, none)) high)
          ∙ ap (λ k. trimmed (take k bytes)) place
          ∙ l.invariant.so_far;
    }
