-- White space before a comment: its lines, and how it is laid out.
use Rattle.std.proofs.Common.{◌≡◌, refl, sym, ap, ◌∙◌, subst, ℕ, zero, suc, ◌+◌, ◌-◌, ◌<◌, ◌≤◌, false, true, List, [], ◌∷◌, ◌++◌, length, drop, get_or, append_assoc, Result, Ok, Err, IfOk, inl, inr, arith}
use Rattle.std.specs.List.{prefix_len}
use Rattle.std.specs.Prelude.{slice_range}
use Rattle.std.proofs.lemmas.Bool.{cases_lt}
use Rattle.std.proofs.lemmas.List.{append-nil, length-drop}
use Rattle.std.proofs.lemmas.List.Sums.{prefix_len-le-length}
use Rattle.um_syntax.specs.Gap.{is_space}
use Rattle.um_tidy.specs.declared.margin.Margin.{Margin}
use Rattle.um_tidy.specs.Gaps.{width_from, spaces, blank_line}
use Rattle.um_tidy.specs.Placed.{is_line_space, below_blank, front, IsMargin, IsLineMargin, IsLineStart}
use Rattle.um_tidy.proofs.GapsAgain.{width_spaces}
use Rattle.um_tidy.proofs.LineMargins.{other_byte, space_of_line, within_line}
use Rattle.um_tidy.proofs.TabColumns.{plain_part}
use Rattle.um_tidy.proofs.Whites.{spaces_on}
use Rattle.um_tidy.proofs.PlacedComments.{no_space, part_more, part_none, part_one, kept_on, blank_kept}

-- ---- its lines

-- white space goes on up to a place
space_up_to : (gap : List ℕ) (from to : ℕ) → from ≤ to → to ≤ length gap → ((k : ℕ) → from ≤ k → k < to → is_space (get_or gap k 0) ≡ true)
    → from + prefix_len is_space (drop from gap) ≡ to + prefix_len is_space (drop to gap)
space_up_to gap from to order within space =
    let place : from + (to - from) ≡ to = omega (arith, order) in
    spaces_on gap from (to - from) (omega (arith, place, within)) (λ k low high. space k low (omega (arith, high, place)))
    ∙ ap (λ e. e + prefix_len is_space (drop e gap)) place

pub line_starts : (gap : List ℕ) (from : ℕ) → from ≤ length gap → IsLineStart gap from from
line_starts gap from within = record {
  order = (omega arith, within);
  space = refl;
  feed = λ less. absurd (omega (arith, less));
}

-- the next line, after line feeds
pub next_starts : (gap : List ℕ) (from line at next : ℕ) → IsLineStart gap from line → line ≤ at → at < next → next ≤ length gap
    → ((k : ℕ) → line ≤ k → k < at → is_line_space (get_or gap k 0) ≡ true) → ((k : ℕ) → at ≤ k → k < next → get_or gap k 0 ≡ 10) → IsLineStart gap from next
next_starts gap from line at next is order some within space feeds = record {
  order = (omega (arith, is.order.0, order, some), within);
  space =
      is.space
      ∙ space_up_to gap line next (omega (arith, order, some)) within
      (λ k low high. elim (cases_lt k at) [
        | inl sooner ↦ space_of_line (get_or gap k 0) (space k low sooner)
        | inr later ↦ ap is_space (feeds k later high)
      ]);
  feed = λ _. feeds (next - 1) (omega (arith, some)) (omega (arith, some));
}

pub margin_of : (gap : List ℕ) (from : ℕ) (m : Margin) → IsLineStart gap from m.line → IsLineMargin gap m → IsMargin gap from m
margin_of gap from m start is = record {
  order = (start.order.0, is.order.0);
  within = is.order.1;
  space = start.space ∙ space_up_to gap m.line m.end is.order.0 is.order.1 (λ k low high. space_of_line (get_or gap k 0) (is.space k low high));
  feed = start.feed;
  line = λ k low high. within_line (get_or gap k 0) (is.space k low high);
  width = is.width;
  plain = λ none. plain_part gap m.line m.end is.order.0 is.order.1 (is.plain none);
}

-- no white space here
pub space_ends : (gap : List ℕ) (at : ℕ) → at ≤ length gap → is_space (get_or gap at 0) ≡ false → at + prefix_len is_space (drop at gap) ≡ at
space_ends gap at within other = elim (cases_lt at (length gap)) [
  | inl some ↦ no_space gap at some other
  | inr past ↦ let short = length-drop at gap in let few = prefix_len-le-length is_space (drop at gap) in omega (arith, short, few, past)
]

module _ (gap : List ℕ) (from line : ℕ) (m : Margin) (begins : m.line ≡ line) (start : IsLineStart gap from line) (is : IsLineMargin gap m) where
  pub margin_here : IsMargin gap from m
  margin_here = margin_of gap from m (subst (λ k. IsLineStart gap from k) (sym begins) start) is

  pub margin_ends : is_line_space (get_or gap m.end 0) ≡ false → (get_or gap m.end 0 ≡ 10 → ⊥) → from + prefix_len is_space (drop from gap) ≡ m.end
  margin_ends ended line_goes_on =
      let here = margin_here in
      here.space ∙ space_ends gap m.end is.order.1 (other_byte (get_or gap m.end 0) ended line_goes_on)

  pub next_after : (next : ℕ) → m.end < next → next ≤ length gap → ((k : ℕ) → m.end ≤ k → k < next → get_or gap k 0 ≡ 10) → IsLineStart gap from next
  next_after next some within feeds =
      next_starts gap from line m.end next start (omega (arith, begins, is.order.0)) some within (λ k low high. is.space k (omega (arith, low, begins)) high) feeds

-- ---- white space laid out

margin_size : (gap : List ℕ) (at : ℕ) (m : Margin) → IsMargin gap at m → m.others ≡ 0 → slice_range gap m.line m.end ≡ spaces (width_from 0 (slice_range gap m.line m.end))
margin_size gap at m is plain =
    let alone = is.plain plain in
    let wide : width_from 0 (slice_range gap m.line m.end) ≡ m.end - m.line = ap (width_from 0) alone ∙ width_spaces 0 (m.end - m.line) ∙ omega arith in
    alone ∙ sym (ap spaces wide)

pub front_pushed : (text more last gap : List ℕ) (at : ℕ) (m : Margin) → more ≡ text ++ blank_line (below_blank (m.line - at)) → last ≡ more ++ spaces m.width → IsMargin gap at m
    → last ++ slice_range gap m.end m.end ≡ text ++ front gap at m.line m.end
front_pushed text more last gap at m blank margin is =
    ap (λ ys. last ++ ys) (part_none gap m.end)
    ∙ append-nil last
    ∙ margin
    ∙ (λ i. blank i ++ spaces (is.width i))
    ∙ append_assoc text (blank_line (below_blank (m.line - at))) (spaces (width_from 0 (slice_range gap m.line m.end)))

some_blank : (n : ℕ) → 0 < n → blank_line (below_blank n) ≡ 10 ∷ []
some_blank zero some = absurd (omega (arith, some))
some_blank (suc n) some = refl

-- one line feed and the spaces after it
pub front_plain : (text gap : List ℕ) (at : ℕ) (m : Margin) → IsMargin gap at m → m.others ≡ 0 → 0 < m.line - at
    → text ++ slice_range gap (m.line - 1) m.end ≡ text ++ front gap at m.line m.end
front_plain text gap at m is plain some =
    let before : at < m.line = omega (arith, some) in
    let next : m.line ≡ m.line - 1 + 1 = omega (arith, before) in
    let feed : slice_range gap (m.line - 1) m.line ≡ 10 ∷ [] = ap (slice_range gap (m.line - 1)) next ∙ part_one gap (m.line - 1) (omega (arith, before, is.order.1, is.within)) ∙ ap (λ c. c ∷ []) (is.feed before) in
    ap (λ ys. text ++ ys)
    (part_more gap (m.line - 1) m.line m.end (omega arith) is.order.1
    ∙ (λ i. (feed ∙ sym (some_blank (m.line - at) some)) i ++ margin_size gap at m is plain i))

-- white space that stays
pub front_stays : (text more gap : List ℕ) (next at : ℕ) (m : Margin) → IsMargin gap at m → m.others ≡ 0 → m.line - at < 2 → next ≤ at → more ++ slice_range gap next at ≡ text
    → more ++ slice_range gap next m.end ≡ text ++ front gap at m.line m.end
front_stays text more gap next at m is plain few order kept =
    let blank : at < m.line → get_or gap (m.line - 1) 0 ≡ 10 = is.feed in
    kept_on more gap next at m.end order (omega (arith, is.order.0, is.order.1))
    ∙ (λ i. kept i ++ (part_more gap at m.line m.end is.order.0 is.order.1
    ∙ (λ j. blank_kept gap at m.line (m.line - at) refl is.order.0 few (omega (arith, is.order.1, is.within)) blank j ++ margin_size gap at m is plain j)) i)

-- two facts of one answer
pub both_ok : {X E : Type 0} (r : Result X E) (P Q : X → Type 0) → IfOk r P → IfOk r Q → IfOk r (λ x. P x × Q x)
both_ok (Ok x) P Q p q = (p, q)
both_ok (Err e) P Q p q = tt

-- and then the comment after it
pub edge_laid : (kept more last whole before : List ℕ) → more ≡ (kept ++ 10 ∷ []) ++ before → whole ≡ before ++ last → more ++ last ≡ kept ++ 10 ∷ whole
edge_laid kept more last whole before added is =
    ap (λ ys. ys ++ last) added
    ∙ append_assoc (kept ++ 10 ∷ []) before last
    ∙ ap (λ ys. (kept ++ 10 ∷ []) ++ ys) (sym is)
    ∙ append_assoc kept (10 ∷ []) whole

pub front_laid : (text more last whole before : List ℕ) → more ≡ text ++ before → whole ≡ before ++ last → more ++ last ≡ text ++ whole
front_laid text more last whole before added is =
    ap (λ ys. ys ++ last) added ∙ append_assoc text before last ∙ ap (λ ys. text ++ ys) (sym is)
