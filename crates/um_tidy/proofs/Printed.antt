-- What becomes of a gap holds characters of the gap, spaces and line feeds.
use Rattle.std.proofs.Common.{◌≡◌, ℕ, zero, suc, Bool, true, false, cond, max, List, [], ◌∷◌, ◌++◌, drop}
use Rattle.std.specs.List.{prefix_len}
use Rattle.um_syntax.specs.Gap.{is_space}
use Rattle.um_syntax.specs.LineColumn.{is_line_feed}
use Rattle.um_tidy.specs.declared.gap.Above.{Above}
use Rattle.um_tidy.specs.declared.gap.Above.TheVariants as above
use Rattle.um_tidy.specs.Gaps.{in_front, lines, kept, trimmed, comment, indent, spaces, blank_line, comment_line, own_line, below, each_line, indentation, before_token, comment_after, line_end, first_gap, inner_lines, inner_gap, last_lines, last_gap, only_gap}

abbrev pub AllPass : (ℕ → Bool) → List ℕ → Type 0
AllPass p [] = Unit {0}
AllPass p (c ∷ cs) = (p c ≡ true) × AllPass p cs

pub pass_append : (p : ℕ → Bool) (xs ys : List ℕ) → AllPass p xs → AllPass p ys → AllPass p (xs ++ ys)
pass_append p [] ys h g = g
pass_append p (x ∷ xs) ys h g = (h.0, pass_append p xs ys h.1 g)

pub pass_parts : (p : ℕ → Bool) (xs ys : List ℕ) → AllPass p (xs ++ ys) → AllPass p xs × AllPass p ys
pass_parts p [] ys h = (tt, h)
pass_parts p (x ∷ xs) ys h = let more = pass_parts p xs ys h.1 in ((h.0, more.0), more.1)

abbrev EachPass : (ℕ → Bool) → List (List ℕ) → Type 0
EachPass p [] = Unit {0}
EachPass p (line ∷ ls) = AllPass p line × EachPass p ls

front_pass : (p : ℕ → Bool) (c : ℕ) (ls : List (List ℕ)) → p c ≡ true → EachPass p ls → EachPass p (in_front c ls)
front_pass p c [] e h = ((e, tt), tt)
front_pass p c (line ∷ ls) e h = ((e, h.0), h.1)

cut_pass : (p : ℕ → Bool) (c : ℕ) (ls : List (List ℕ)) (b : Bool) → p c ≡ true → EachPass p ls → EachPass p (cond b ([] ∷ ls) (in_front c ls))
cut_pass p c ls true e h = (tt, h)
cut_pass p c ls false e h = front_pass p c ls e h

lines_pass : (p : ℕ → Bool) (xs : List ℕ) → AllPass p xs → EachPass p (lines xs)
lines_pass p [] h = (tt, tt)
lines_pass p (c ∷ cs) h = cut_pass p c (lines cs) (is_line_feed c) h.0 (lines_pass p cs h.1)

kept_pass : (p : ℕ → Bool) (c : ℕ) (xs : List ℕ) → p c ≡ true → AllPass p xs → AllPass p (kept c xs)
kept_pass p c [] e h = by_test (is_space c)
  where
    by_test : (b : Bool) → AllPass p (cond b [] (c ∷ []))
    by_test true = tt
    by_test false = (e, tt)
kept_pass p c (x ∷ xs) e h = (e, h)

trimmed_pass : (p : ℕ → Bool) (xs : List ℕ) → AllPass p xs → AllPass p (trimmed xs)
trimmed_pass p [] h = tt
trimmed_pass p (c ∷ cs) h = kept_pass p c (trimmed cs) h.0 (trimmed_pass p cs h.1)

drop_pass : (p : ℕ → Bool) (n : ℕ) (xs : List ℕ) → AllPass p xs → AllPass p (drop n xs)
drop_pass p zero xs h = h
drop_pass p (suc n) [] h = tt
drop_pass p (suc n) (x ∷ xs) h = drop_pass p n xs h.1

comment_pass : (p : ℕ → Bool) (line : List ℕ) → AllPass p line → AllPass p (comment line)
comment_pass p line h = trimmed_pass p (drop (prefix_len is_space line) line) (drop_pass p (prefix_len is_space line) line h)

module _ (p : ℕ → Bool) (space : p 32 ≡ true) (feed : p 10 ≡ true) where
  spaces_pass : (n : ℕ) → AllPass p (spaces n)
  spaces_pass zero = tt
  spaces_pass (suc n) = (space, spaces_pass n)

  blank_pass : (a : Above) → AllPass p (blank_line a)
  blank_pass above.Blank = (feed, tt)
  blank_pass above.Line = tt
  blank_pass above.Nothing = tt

  fed_pass : (text : List ℕ) → AllPass p text → AllPass p (text ++ 10 ∷ [])
  fed_pass text h = pass_append p text (10 ∷ []) h (feed, tt)

  comment_line_pass : (a : Above) (line text : List ℕ) → AllPass p text → AllPass p (comment_line a line text)
  comment_line_pass a line [] h = tt
  comment_line_pass a line (c ∷ cs) h =
      pass_append p (blank_line a) (spaces (indent line) ++ (c ∷ cs ++ 10 ∷ [])) (blank_pass a) (pass_append p (spaces (indent line)) (c ∷ cs ++ 10 ∷ []) (spaces_pass (indent line)) (fed_pass (c ∷ cs) h))

  own_line_pass : (a : Above) (line : List ℕ) → AllPass p line → AllPass p (own_line a line)
  own_line_pass a line h = comment_line_pass a line (comment line) (comment_pass p line h)

  before_token_pass : (begins : Bool) (a : Above) (line : List ℕ) → AllPass p (before_token begins a line)
  before_token_pass begins a line = pass_append p (blank_line a) (indentation begins line) (blank_pass a) (spaces_pass (cond begins 0 (max 2 (indent line))))

  after_pass : (text : List ℕ) → AllPass p text → AllPass p (comment_after text)
  after_pass [] h = tt
  after_pass (c ∷ cs) h = (space, h)

  line_end_pass : (line : List ℕ) → AllPass p line → AllPass p (line_end line)
  line_end_pass line h = fed_pass (comment_after (comment line)) (after_pass (comment line) (comment_pass p line h))

  each_line_pass : (last : Above → List ℕ → List ℕ) → ((a : Above) (line : List ℕ) → AllPass p line → AllPass p (last a line)) → (a : Above) (ls : List (List ℕ)) → EachPass p ls → AllPass p (each_line last a ls)
  each_line_pass last pass a [] h = tt
  each_line_pass last pass a (line ∷ []) h = pass a line h.0
  each_line_pass last pass a (line ∷ next ∷ more) h =
      pass_append p (own_line a line) (each_line last (below a (comment line)) (next ∷ more)) (own_line_pass a line h.0) (each_line_pass last pass (below a (comment line)) (next ∷ more) h.1)

  inner_lines_pass : (spaced begins : Bool) (ls : List (List ℕ)) → EachPass p ls → AllPass p (inner_lines spaced begins ls)
  inner_lines_pass spaced begins [] h = tt
  inner_lines_pass true begins (line ∷ []) h = (space, tt)
  inner_lines_pass false begins (line ∷ []) h = tt
  inner_lines_pass spaced begins (line ∷ next ∷ more) h =
      pass_append p (line_end line) (each_line (before_token begins) above.Line (next ∷ more)) (line_end_pass line h.0)
      (each_line_pass (before_token begins) (λ a l g. before_token_pass begins a l) above.Line (next ∷ more) h.1)

  last_lines_pass : (ls : List (List ℕ)) → EachPass p ls → AllPass p (last_lines ls)
  last_lines_pass [] h = tt
  last_lines_pass (line ∷ more) h =
      pass_append p (line_end line) (each_line own_line above.Line more) (line_end_pass line h.0) (each_line_pass own_line own_line_pass above.Line more h.1)

  pub first_pass : (begins : Bool) (gap : List ℕ) → AllPass p gap → AllPass p (first_gap begins gap)
  first_pass begins gap h = each_line_pass (before_token begins) (λ a l g. before_token_pass begins a l) above.Nothing (lines gap) (lines_pass p gap h)

  pub inner_pass : (spaced begins : Bool) (gap : List ℕ) → AllPass p gap → AllPass p (inner_gap spaced begins gap)
  inner_pass spaced begins gap h = inner_lines_pass spaced begins (lines gap) (lines_pass p gap h)

  pub last_pass : (gap : List ℕ) → AllPass p gap → AllPass p (last_gap gap)
  last_pass gap h = last_lines_pass (lines gap) (lines_pass p gap h)

  pub only_pass : (gap : List ℕ) → AllPass p gap → AllPass p (only_gap gap)
  only_pass gap h = each_line_pass own_line own_line_pass above.Nothing (lines gap) (lines_pass p gap h)

-- the characters of a text are scalars
