use Rattle.std.proofs.Common.{◌≡◌, ◌≤◌, ◌+◌, ◌-◌, ◌++◌, ◌∷◌, List, ℕ, drop, get_or}
use Rattle.std.specs.Prelude.{slice_range}
use Rattle.std.specs.List.{prefix_len}
use Rattle.um_syntax.specs.Gap.{is_space}
use Rattle.um_tidy.specs.declared.gap.Above.{Above}
use Rattle.um_tidy.specs.Placed.{lines_from, IsMargin}
use Rattle.um_tidy.proofs.comments.push_comments_from.Given as goal

abbrev pub invariant-edges : goal.invariant-edges
invariant-edges l = record {
  from : l.from ≤ l.edge.end;
  order : (l.edge.end ≤ l.edge.feed) × (l.edge.feed ≤ l.last);
  margin : IsMargin l.gap (l.edge.feed + 1) l.edge.margin;
  feed : get_or l.gap l.edge.feed 0 ≡ 10;
  space : l.edge.feed + 1 + prefix_len is_space (drop (l.edge.feed + 1) l.gap) ≡ l.edge.margin.end;
  added : (last : Above → List ℕ → List ℕ)
      → (l.text.items ++ slice_range l.gap l.from l.edge.end) ++ 10 ∷ lines_from last l.gap (l.edge.feed + 1)
      ≡ (l.fn.text.items ++ slice_range l.gap l.fn.from l.start) ++ lines_from last l.gap l.start;
}

abbrev pub decreases-edges : goal.decreases-edges
decreases-edges l = l.last - l.edge.feed
