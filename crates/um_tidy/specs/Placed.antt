-- The comments below a line, by their places in a gap: what stays as it is is copied together. This mirrors the code.
use Rattle.std.specs.Prelude.{◌≡◌, ℕ, zero, suc, ◌+◌, ◌-◌, ◌*◌, ◌/◌, ◌<◌, ◌≤◌, ◌==◌, nat_lt}
use Rattle.std.specs.Prelude.{Bool, true, false, not, cond, ◌&&◌, ◌||◌}
use Rattle.std.specs.Prelude.{List, [], ◌∷◌, ◌++◌, length, map, take, drop, get_or}
use Rattle.std.specs.Prelude.{slice_range}
use Rattle.std.specs.List.{prefix_len}
use Rattle.std.specs.Simd.Lanes.{mask_l}
use Rattle.um_syntax.specs.Gap.{is_space}
use Rattle.um_tidy.specs.declared.gap.Above.{Above}
use Rattle.um_tidy.specs.declared.gap.Above.TheVariants as above
use Rattle.um_tidy.specs.declared.margin.Margin.{Margin}
use Rattle.um_tidy.specs.Gaps.{in_line, lines, width_from, spaces, blank_line, each_line}

-- ---- bytes

-- a bit for each of the next 16 that is no white space
abbrev pub others_mask : List ℕ → ℕ → ℕ
others_mask bytes at = mask_l (map (λ c. not (is_space c)) (take 16 (drop at bytes)))

-- white space within a line
abbrev pub is_line_space : ℕ → Bool
is_line_space c = c == 32 || (c == 9 || c == 13)

-- a bit for each of the next 16 that is a tab, that is a tab or CR, and that is no white space within a line
abbrev pub tabs_mask : List ℕ → ℕ → ℕ
tabs_mask bytes at = mask_l (map (λ c. c == 9) (take 16 (drop at bytes)))

abbrev pub marks_mask : List ℕ → ℕ → ℕ
marks_mask bytes at = mask_l (map (λ c. c == 9 || c == 13) (take 16 (drop at bytes)))

abbrev pub ends_mask : List ℕ → ℕ → ℕ
ends_mask bytes at = mask_l (map (λ c. not (is_line_space c)) (take 16 (drop at bytes)))

-- A line feed stands here, beside a byte that may be white space.
abbrev pub is_edge : List ℕ → ℕ → Bool
is_edge gap k = (get_or gap k 0 == 10) && (nat_lt (get_or gap (k - 1) 0) 33 || nat_lt (get_or gap (k + 1) 0) 33)

-- not from one place up to another
abbrev pub NoEdges : List ℕ → ℕ → ℕ → Type 0
NoEdges gap from to = (k : ℕ) → from ≤ k → k < to → is_edge gap k ≡ false

-- ---- lines

-- what stands above what follows n bytes of blank lines below a line
abbrev pub below_blank : ℕ → Above
below_blank zero = above.Line
below_blank (suc n) = above.Blank

-- what stands before a comment, from a place on, laid out: the line of the comment and the comment begin here
abbrev pub front : List ℕ → ℕ → ℕ → ℕ → List ℕ
front gap at line start = blank_line (below_blank (line - at)) ++ spaces (width_from 0 (slice_range gap line start))

-- the lines from a place on, below a line
abbrev pub lines_from : (Above → List ℕ → List ℕ) → List ℕ → ℕ → List ℕ
lines_from last gap at = each_line last above.Line (lines (drop at gap))

-- ---- columns

-- the column after bytes of a line, by whether each is a tab
abbrev pub columns_after : ℕ → List Bool → ℕ
columns_after n [] = n
columns_after n (tab ∷ tabs) = columns_after (cond tab (n / 4 * 4 + 4) (n + 1)) tabs

-- ---- margins

-- white space from one place on, up to where it ends: what is said of it holds
pub record IsMargin (gap : List ℕ) (from : ℕ) (m : Margin) : Type 0 where
  pub order : (from ≤ m.line) × (m.line ≤ m.end)
  pub within : m.end ≤ length gap
  pub space : from + prefix_len is_space (drop from gap) ≡ m.end + prefix_len is_space (drop m.end gap)
  pub feed : from < m.line → get_or gap (m.line - 1) 0 ≡ 10
  pub line : (k : ℕ) → m.line ≤ k → k < m.end → in_line (get_or gap k 0) ≡ true
  pub width : m.width ≡ width_from 0 (slice_range gap m.line m.end)
  pub plain : m.others ≡ 0 → slice_range gap m.line m.end ≡ spaces (m.end - m.line)

-- the same of the white space of its last line alone
pub record IsLineMargin (gap : List ℕ) (m : Margin) : Type 0 where
  pub order : (m.line ≤ m.end) × (m.end ≤ length gap)
  pub space : (k : ℕ) → m.line ≤ k → k < m.end → is_line_space (get_or gap k 0) ≡ true
  pub width : m.width ≡ width_from 0 (slice_range gap m.line m.end)
  pub plain : m.others ≡ 0 → (k : ℕ) → m.line ≤ k → k < m.end → get_or gap k 0 ≡ 32

-- white space from one place on, up to where a line begins
pub record IsLineStart (gap : List ℕ) (from line : ℕ) : Type 0 where
  pub order : (from ≤ line) × (line ≤ length gap)
  pub space : from + prefix_len is_space (drop from gap) ≡ line + prefix_len is_space (drop line gap)
  pub feed : from < line → get_or gap (line - 1) 0 ≡ 10
