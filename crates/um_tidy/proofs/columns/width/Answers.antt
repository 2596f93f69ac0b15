use Rattle.std.proofs.Common.{◌∙◌, ◌==◌, map, sym, arith}
use Rattle.std.proofs.lemmas.List.{length-map}
use Rattle.std.proofs.lemmas.Simd.{length-chunk}
use lib.Lanes.{chunk}
use Rattle.um_tidy.proofs.TabColumns.{columns_few, width_past}
use Rattle.um_tidy.proofs.columns.width.Goals as goal

pub loop-at-preserved : goal.loop-at-preserved
loop-at-preserved c =
    let l = c.loop-at in
    let space = c.args.space.now in
    let part = chunk l.at 16 space in
    let tabs = map (λ b. b == 9) part in
    let size = length-map part (λ b. b == 9) ∙ length-chunk l.at 16 space c.loop-at-test.true in
    let after = c.past_near-width.ensures tabs size (sym c.near_tabs.ensures.mask) in
    let few = columns_few l.width tabs in
    record {
      within = omega (arith, c.loop-at-test.true);
      narrow = omega (arith, after, few, size, l.invariant.narrow);
      so_far = width_past space l.at l.width c.past_near-width.result after ∙ l.invariant.so_far;
    }
