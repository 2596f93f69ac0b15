use Rattle.std.proofs.Common.{◌≡◌, ◌∙◌, ap, ◌+◌, drop, arith}
use Rattle.std.specs.List.{prefix_len}
use Rattle.um_syntax.specs.Gap.{is_space}
use Rattle.um_tidy.proofs.PlacedComments.{no_space}
use Rattle.um_tidy.proofs.Whites.{spaces_on}
use Rattle.um_tidy.proofs.white.space_end.Goals as goal

pub returns-then-near-lt16-clause-end : goal.returns-then-near-lt16-clause-end
returns-then-near-lt16-clause-end c =
    let bytes = c.args.bytes.now in
    let l = c.loop-end in
    let near = c.near_spaces-near.result in
    let found = c.near_spaces-near.ensures in
    l.invariant.so_far ∙ spaces_on bytes l.end near (omega arith) found.passed ∙ no_space bytes (l.end + near) (omega arith) (found.ended c.if-near-lt16.true)

pub loop-end-preserved : goal.loop-end-preserved
loop-end-preserved c =
    let bytes = c.args.bytes.now in
    let l = c.loop-end in
    let near = c.near_spaces-near.result in
    let found = c.near_spaces-near.ensures in
    let all : near ≡ 16 = omega (arith, found.within, c.if-near-lt16.false) in
    record {
      after = omega (arith, l.invariant.after);
      within = omega arith;
      so_far = l.invariant.so_far ∙ spaces_on bytes l.end near (omega (arith, all)) found.passed ∙ ap (λ n. l.end + n + prefix_len is_space (drop (l.end + n) bytes)) all;
    }
