-- What becomes of a gap is a gap.
use Rattle.std.proofs.Common.{◌≡◌, refl, sym, ap, ◌∙◌, subst, ℕ, zero, suc, ◌+◌, Bool, true, false, cond, max, ◌==◌, List, [], ◌∷◌, ◌++◌, drop, append_assoc, ◌⊎◌, inl, inr, arith}
use Rattle.std.specs.List.{prefix_len}
use Rattle.um_syntax.specs.Gap.{is_space, IsLine, IsGap, nothing, space, comment, IsLastGap, closed, unclosed}
use Rattle.um_syntax.specs.LineColumn.{is_line_feed}
use Rattle.um_syntax.proofs.Meaning.{IsGap-append}
use Rattle.um_tidy.specs.declared.gap.Above.{Above}
use Rattle.um_tidy.specs.declared.gap.Above.TheVariants as above
use Rattle.um_tidy.specs.Gaps.{in_front, lines, kept, trimmed, spaces, indent, blank_line, comment_line, own_line, below, each_line, before_token, comment_after, line_end, first_gap, inner_lines, inner_gap, last_lines, last_gap, only_gap}
use Rattle.um_tidy.specs.Gaps.{comment as comment_of}
use Rattle.um_tidy.proofs.Lines.{lines_any}
use Rattle.um_tidy.proofs.Beside.{is_blank}

-- ---- the comment of a line

pub comment_space : (c : ℕ) (line : List ℕ) → is_space c ≡ true → comment_of (c ∷ line) ≡ comment_of line
comment_space c line e =
    let more : prefix_len is_space (c ∷ line) ≡ suc (prefix_len is_space line) = ap (λ b. cond b (1 + prefix_len is_space line) 0) e ∙ one_more (prefix_len is_space line) in
    ap (λ n. trimmed (drop n (c ∷ line))) more
  where
    one_more : (n : ℕ) → 1 + n ≡ suc n
    one_more n = omega arith

pub comment_other : (c : ℕ) (line : List ℕ) → is_space c ≡ false → comment_of (c ∷ line) ≡ trimmed (c ∷ line)
comment_other c line e = ap (λ b. trimmed (drop (cond b (1 + prefix_len is_space line) 0) (c ∷ line))) e

pub kept_other : (c : ℕ) (xs : List ℕ) → is_space c ≡ false → kept c xs ≡ c ∷ xs
kept_other c [] e = ap (λ b. cond b [] (c ∷ [])) e
kept_other c (x ∷ xs) e = refl

pub slashes_stay : (line : List ℕ) → comment_of (47 ∷ 47 ∷ line) ≡ 47 ∷ 47 ∷ trimmed line
slashes_stay line =
    comment_other 47 (47 ∷ line) refl ∙ kept_other 47 (trimmed (47 ∷ line)) refl ∙ ap (λ xs. 47 ∷ xs) (kept_other 47 (trimmed line) refl)

kept_line : (c : ℕ) (xs : List ℕ) → (c == 10) ≡ false → IsLine xs → IsLine (kept c xs)
kept_line c [] e h = by_test (is_space c)
  where
    by_test : (b : Bool) → IsLine (cond b [] (c ∷ []))
    by_test true = tt
    by_test false = (e, tt)
kept_line c (x ∷ xs) e h = (e, h)

pub trimmed_line : (xs : List ℕ) → IsLine xs → IsLine (trimmed xs)
trimmed_line [] h = tt
trimmed_line (c ∷ cs) h = kept_line c (trimmed cs) h.0 (trimmed_line cs h.1)

-- ---- the lines of a gap

-- nothing, or two slashes and what has no line feed
abbrev pub IsComment : List ℕ → Type 0
IsComment [] = Unit {0}
IsComment (c ∷ cs) = (rest : List ℕ) × (◌≡◌ {A = List ℕ} (c ∷ cs) (47 ∷ 47 ∷ rest)) × IsLine rest

abbrev pub HaveComments : List (List ℕ) → Type 0
HaveComments [] = Unit {0}
HaveComments (line ∷ ls) = IsComment (comment_of line) × HaveComments ls

-- a line, up to its line feed
pub lines_past : (xs more : List ℕ) → IsLine xs → lines (xs ++ 10 ∷ more) ≡ xs ∷ lines more
lines_past [] more h = refl
lines_past (c ∷ cs) more h =
    ap (λ b. cond b ([] ∷ lines (cs ++ 10 ∷ more)) (in_front c (lines (cs ++ 10 ∷ more)))) h.0 ∙ ap (in_front c) (lines_past cs more h.1)

pub lines_alone : (xs : List ℕ) → IsLine xs → lines xs ≡ xs ∷ []
lines_alone [] h = refl
lines_alone (c ∷ cs) h = ap (λ b. cond b ([] ∷ lines cs) (in_front c (lines cs))) h.0 ∙ ap (in_front c) (lines_alone cs h.1)

slashes_have : (line : List ℕ) → IsLine line → IsComment (comment_of (47 ∷ 47 ∷ line))
slashes_have line h = subst IsComment (sym (slashes_stay line)) (trimmed line, refl, trimmed_line line h)

front_has : (c : ℕ) (ls : List (List ℕ)) → is_space c ≡ true → HaveComments ls → HaveComments (in_front c ls)
front_has c [] e h = (subst IsComment (sym (comment_space c [] e)) tt, tt)
front_has c (line ∷ ls) e h = (subst IsComment (sym (comment_space c line e)) h.0, h.1)

space_has : (c : ℕ) (cs : List ℕ) (b : Bool) → is_space c ≡ true → HaveComments (lines cs) → HaveComments (cond b ([] ∷ lines cs) (in_front c (lines cs)))
space_has c cs true e h = (tt, h)
space_has c cs false e h = front_has c (lines cs) e h

gap_before : {gap : List ℕ} → IsGap gap → (tail : List ℕ) → HaveComments (lines tail) → HaveComments (lines (gap ++ tail))
gap_before nothing tail h = h
gap_before (space {c} {more} e g) tail h = space_has c (more ++ tail) (is_line_feed c) e (gap_before g tail h)
gap_before (comment line {more} l g) tail h =
    let flat : (47 ∷ 47 ∷ line ++ 10 ∷ more) ++ tail ≡ 47 ∷ 47 ∷ line ++ 10 ∷ (more ++ tail) = ap (λ xs. 47 ∷ 47 ∷ xs) (append_assoc line (10 ∷ more) tail) in
    subst HaveComments (sym (ap lines flat ∙ lines_past (47 ∷ 47 ∷ line) (more ++ tail) (refl, (refl, l)))) (slashes_have line l, gap_before g tail h)

append_none : (xs : List ℕ) → xs ++ [] ≡ xs
append_none [] = refl
append_none (x ∷ xs) = ap (λ l. x ∷ l) (append_none xs)

pub gap_lines : (gap : List ℕ) → IsGap gap → HaveComments (lines gap)
gap_lines gap g = subst (λ xs. HaveComments (lines xs)) (append_none gap) (gap_before g [] (tt, tt))

pub last_gap_lines : (gap : List ℕ) → IsLastGap gap → HaveComments (lines gap)
last_gap_lines gap (closed g) = gap_lines gap g
last_gap_lines gap (unclosed line g l) =
    gap_before g (47 ∷ 47 ∷ line) (subst HaveComments (sym (lines_alone (47 ∷ 47 ∷ line) (refl, (refl, l)))) (slashes_have line l, tt))

-- ---- each part of what is printed is a gap

pub spaces_gap : (n : ℕ) → IsGap (spaces n)
spaces_gap zero = nothing
spaces_gap (suc n) = space refl (spaces_gap n)

feed_gap : IsGap (10 ∷ [])
feed_gap = space refl nothing

blank_gap : (a : Above) → IsGap (blank_line a)
blank_gap above.Blank = feed_gap
blank_gap above.Line = nothing
blank_gap above.Nothing = nothing

text_gap : (text : List ℕ) → IsComment text → IsGap (text ++ 10 ∷ [])
text_gap [] h = feed_gap
text_gap (c ∷ cs) h = subst (λ xs. IsGap (xs ++ 10 ∷ [])) (sym h.1) (comment h.0 h.2 nothing)

comment_line_gap : (a : Above) (line text : List ℕ) → IsComment text → IsGap (comment_line a line text)
comment_line_gap a line [] h = nothing
comment_line_gap a line (c ∷ cs) h = IsGap-append (blank_gap a) (IsGap-append (spaces_gap (indent line)) (text_gap (c ∷ cs) h))

own_line_gap : (a : Above) (line : List ℕ) → IsComment (comment_of line) → IsGap (own_line a line)
own_line_gap a line h = comment_line_gap a line (comment_of line) h

before_token_gap : (begins : Bool) (a : Above) (line : List ℕ) → IsGap (before_token begins a line)
before_token_gap begins a line = IsGap-append (blank_gap a) (spaces_gap (cond begins 0 (max 2 (indent line))))

comment_after_gap : (text : List ℕ) → IsComment text → IsGap (comment_after text ++ 10 ∷ [])
comment_after_gap [] h = feed_gap
comment_after_gap (c ∷ cs) h = space refl (text_gap (c ∷ cs) h)

line_end_gap : (line : List ℕ) → IsComment (comment_of line) → IsGap (line_end line)
line_end_gap line h = comment_after_gap (comment_of line) h

each_line_gap : (last : Above → List ℕ → List ℕ) → ((a : Above) (line : List ℕ) → IsComment (comment_of line) → IsGap (last a line)) → (a : Above) (ls : List (List ℕ)) → HaveComments ls → IsGap (each_line last a ls)
each_line_gap last gaps a [] h = nothing
each_line_gap last gaps a (line ∷ []) h = gaps a line h.0
each_line_gap last gaps a (line ∷ next ∷ more) h = IsGap-append (own_line_gap a line h.0) (each_line_gap last gaps (below a (comment_of line)) (next ∷ more) h.1)

inner_lines_gap : (spaced begins : Bool) (ls : List (List ℕ)) → HaveComments ls → IsGap (inner_lines spaced begins ls)
inner_lines_gap spaced begins [] h = nothing
inner_lines_gap true begins (line ∷ []) h = space refl nothing
inner_lines_gap false begins (line ∷ []) h = nothing
inner_lines_gap spaced begins (line ∷ next ∷ more) h =
    IsGap-append (line_end_gap line h.0) (each_line_gap (before_token begins) (λ a l c. before_token_gap begins a l) above.Line (next ∷ more) h.1)

last_lines_gap : (ls : List (List ℕ)) → HaveComments ls → IsGap (last_lines ls)
last_lines_gap [] h = nothing
last_lines_gap (line ∷ more) h = IsGap-append (line_end_gap line h.0) (each_line_gap own_line own_line_gap above.Line more h.1)

pub first_is_gap : (begins : Bool) (gap : List ℕ) → IsGap gap → IsGap (first_gap begins gap)
first_is_gap begins gap g = each_line_gap (before_token begins) (λ a l c. before_token_gap begins a l) above.Nothing (lines gap) (gap_lines gap g)

pub inner_is_gap : (spaced begins : Bool) (gap : List ℕ) → IsGap gap → IsGap (inner_gap spaced begins gap)
inner_is_gap spaced begins gap g = inner_lines_gap spaced begins (lines gap) (gap_lines gap g)

pub last_is_gap : (gap : List ℕ) → IsLastGap gap → IsGap (last_gap gap)
last_is_gap gap g = last_lines_gap (lines gap) (last_gap_lines gap g)

pub only_is_gap : (gap : List ℕ) → IsLastGap gap → IsGap (only_gap gap)
only_is_gap gap g = each_line_gap own_line own_line_gap above.Nothing (lines gap) (last_gap_lines gap g)

-- ---- how what is printed begins

pub record BeginsBlank (xs : List ℕ) : Type 0 where
  pub first : ℕ
  pub others : List ℕ
  pub is : xs ≡ first ∷ others
  pub blank : is_blank first ≡ true

after_begins : (text rest : List ℕ) → BeginsBlank ((comment_after text ++ 10 ∷ []) ++ rest)
after_begins [] rest = record { first = 10; others = rest; is = refl; blank = refl }
after_begins (c ∷ cs) rest = record { first = 32; others = (c ∷ cs ++ 10 ∷ []) ++ rest; is = refl; blank = refl }

line_end_begins : (line rest : List ℕ) → BeginsBlank (line_end line ++ rest)
line_end_begins line rest = after_begins (comment_of line) rest

pub last_begins : (gap : List ℕ) → BeginsBlank (last_gap gap)
last_begins gap =
    let any = lines_any gap in
    subst (λ ls. BeginsBlank (last_lines ls)) (sym any.is) (line_end_begins any.first (each_line own_line above.Line any.others))

inner_begins : (spaced begins : Bool) (line : List ℕ) (ls : List (List ℕ)) → ((inner_lines spaced begins (line ∷ ls) ≡ []) × (spaced ≡ false)) ⊎ BeginsBlank (inner_lines spaced begins (line ∷ ls))
inner_begins true begins line [] = inr (record { first = 32; others = []; is = refl; blank = refl })
inner_begins false begins line [] = inl (refl, refl)
inner_begins spaced begins line (next ∷ more) = inr (line_end_begins line (each_line (before_token begins) above.Line (next ∷ more)))

-- nothing stands between two tokens that aren't spaced and stand on one line, and otherwise a space or a line feed stands first
pub inner_form : (spaced begins : Bool) (gap : List ℕ) → ((inner_gap spaced begins gap ≡ []) × (spaced ≡ false)) ⊎ BeginsBlank (inner_gap spaced begins gap)
inner_form spaced begins gap =
    let any = lines_any gap in
    subst (λ ls. ((inner_lines spaced begins ls ≡ []) × (spaced ≡ false)) ⊎ BeginsBlank (inner_lines spaced begins ls)) (sym any.is) (inner_begins spaced begins any.first any.others)
