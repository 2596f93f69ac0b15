use Rattle.std.proofs.Common.{◌≡◌, ◌≤◌, ◌∙◌, ap, ◌+◌, ◌-◌, ◌++◌, ◌∷◌, [], List, ℕ, arith}
use Rattle.std.specs.Prelude.{slice_range}
use Rattle.std.proofs.lemmas.Result.{IfOk-weaker}
use Rattle.um_tidy.specs.declared.gap.Above.{Above}
use Rattle.um_tidy.specs.Placed.{front, lines_from, IsMargin}
use Rattle.um_tidy.proofs.PlacedComments.{front_is}
use Rattle.um_tidy.proofs.Margins.{both_ok, edge_laid, front_plain, front_stays}
use Rattle.um_tidy.proofs.comments.push_edge.Goals as goal

pub returns-then-margin-gt0-clause-added : goal.returns-then-margin-gt0-clause-added
returns-then-margin-gt0-clause-added c =
    let gap = c.args.gap.now in
    let edge = c.args.edge in
    let m = edge.margin in
    let is = c.requires.margin in
    let kept = c.args.text.now.items ++ slice_range gap c.args.from edge.end in
    let before : c.push_line.new.self.items ≡ kept ++ 10 ∷ [] = c.in_ok-push_line.ensures in
    IfOk-weaker c.push_front.result
    (λ next. (g : List ℕ) → IsMargin g (edge.feed + 1) m → c.push_front.new.text.items ++ slice_range g next m.end ≡ c.push_line.new.self.items ++ front g (edge.feed + 1) m.line m.end)
    (λ next. (last : Above → List ℕ → List ℕ) → (c.push_front.new.text.items ++ slice_range gap next m.end) ++ lines_from last gap m.end ≡ kept ++ 10 ∷ lines_from last gap (edge.feed + 1))
    (λ next added last.
    edge_laid kept (c.push_front.new.text.items ++ slice_range gap next m.end) (lines_from last gap m.end) (lines_from last gap (edge.feed + 1)) (front gap (edge.feed + 1) m.line m.end)
    (added gap is ∙ ap (λ xs. xs ++ front gap (edge.feed + 1) m.line m.end) before)
    (front_is last gap (edge.feed + 1) m.line m.end is.order.0 is.order.1 c.requires.space c.requires.ended is.line is.feed))
    c.push_front.ensures.added

pub returns-then-margin-at-lt2-clause-added : goal.returns-then-margin-at-lt2-clause-added
returns-then-margin-at-lt2-clause-added c =
    let gap = c.args.gap.now in
    let edge = c.args.edge in
    let m = edge.margin in
    let is = c.requires.margin in
    let kept = c.args.text.now.items ++ slice_range gap c.args.from edge.end in
    let text = c.push_end.new.text.items in
    IfOk-weaker c.push_end.result
    (λ next. (next ≤ edge.feed) × (text ++ slice_range gap next (edge.feed + 1) ≡ kept ++ 10 ∷ []))
    (λ next. (last : Above → List ℕ → List ℕ) → (text ++ slice_range gap next m.end) ++ lines_from last gap m.end ≡ kept ++ 10 ∷ lines_from last gap (edge.feed + 1))
    (λ next added last.
    let (within, laid) = added in
    edge_laid kept (text ++ slice_range gap next m.end) (lines_from last gap m.end) (lines_from last gap (edge.feed + 1)) (front gap (edge.feed + 1) m.line m.end)
    (front_stays (kept ++ 10 ∷ []) text gap next (edge.feed + 1) m is (omega (arith, c.if-margin-gt0.false)) c.if-margin-at-lt2.true (omega (arith, within)) laid)
    (front_is last gap (edge.feed + 1) m.line m.end is.order.0 is.order.1 c.requires.space c.requires.ended is.line is.feed))
    (both_ok c.push_end.result (λ next. next ≤ edge.feed) (λ next. text ++ slice_range gap next (edge.feed + 1) ≡ kept ++ 10 ∷ []) c.push_end.ensures.within c.push_end.ensures.added)

pub returns-clause-added : goal.returns-clause-added
returns-clause-added c =
    let gap = c.args.gap.now in
    let edge = c.args.edge in
    let m = edge.margin in
    let is = c.requires.margin in
    let kept = c.args.text.now.items ++ slice_range gap c.args.from edge.end in
    let text = c.push_line-2.new.self.items in
    let before : text ≡ kept ++ 10 ∷ [] = c.in_ok-push_line-2.ensures in
    λ last.
    edge_laid kept (text ++ slice_range gap (m.line - 1) m.end) (lines_from last gap m.end) (lines_from last gap (edge.feed + 1)) (front gap (edge.feed + 1) m.line m.end)
    (front_plain text gap (edge.feed + 1) m is (omega (arith, c.if-margin-gt0.false)) (omega (arith, c.if-margin-at-lt2.false)) ∙ ap (λ xs. xs ++ front gap (edge.feed + 1) m.line m.end) before)
    (front_is last gap (edge.feed + 1) m.line m.end is.order.0 is.order.1 c.requires.space c.requires.ended is.line is.feed)
