-- What becomes of a gap has the comments of the gap.
use Rattle.std.proofs.Common.{◌≡◌, refl, sym, ap, ◌∙◌, subst, ℕ, zero, suc, Bool, true, false, cond, max, List, [], ◌∷◌, ◌++◌}
use Rattle.um_syntax.specs.Gap.{is_space, IsGap, nothing, space, comment, IsLastGap}
use Rattle.um_syntax.specs.LineColumn.{is_line_feed}
use Rattle.um_tidy.specs.declared.gap.Above.{Above}
use Rattle.um_tidy.specs.declared.gap.Above.TheVariants as above
use Rattle.um_tidy.specs.Gaps.{in_front, lines, trimmed, spaces, indent, comment_line, own_line, below, each_line, before_token, line_end, first_gap, inner_lines, inner_gap, last_lines, last_gap, only_gap}
use Rattle.um_tidy.specs.Gaps.{comment as comment_of}
use Rattle.um_tidy.specs.Laws.{with_comment, comments_in}
use Rattle.um_tidy.proofs.Lines.{IsAny, lines_any}
use Rattle.um_tidy.proofs.GapLines.{comment_space, IsComment, HaveComments, lines_past, lines_alone, gap_lines, last_gap_lines}
use Rattle.um_tidy.proofs.GapsAgain.{its_comment, its_lines, comment_trimmed, spaces_alone, after_again, end_lines, append_none}

-- ---- the last line of a gap before a token has no comment

abbrev LastIsBlank : List (List ℕ) → Type 0
LastIsBlank [] = Unit {0}
LastIsBlank (line ∷ []) = comment_of line ≡ []
LastIsBlank (line ∷ next ∷ more) = LastIsBlank (next ∷ more)

later_blank : (line : List ℕ) (ls : List (List ℕ)) → IsAny ls → LastIsBlank ls → LastIsBlank (line ∷ ls)
later_blank line ls any h = subst (λ xs. LastIsBlank (line ∷ xs)) (sym any.is) (subst LastIsBlank any.is h)

front_blank : (c : ℕ) (ls : List (List ℕ)) → is_space c ≡ true → LastIsBlank ls → LastIsBlank (in_front c ls)
front_blank c [] e h = comment_space c [] e
front_blank c (line ∷ []) e h = comment_space c line e ∙ h
front_blank c (line ∷ next ∷ more) e h = h

space_blank : (c : ℕ) (cs : List ℕ) (b : Bool) → is_space c ≡ true → LastIsBlank (lines cs) → LastIsBlank (cond b ([] ∷ lines cs) (in_front c (lines cs)))
space_blank c cs true e h = later_blank [] (lines cs) (lines_any cs) h
space_blank c cs false e h = front_blank c (lines cs) e h

gap_blank : {gap : List ℕ} → IsGap gap → LastIsBlank (lines gap)
gap_blank nothing = refl
gap_blank (space {c} {more} e g) = space_blank c more (is_line_feed c) e (gap_blank g)
gap_blank (comment line {more} l g) =
    subst LastIsBlank (sym (lines_past (47 ∷ 47 ∷ line) more (refl, (refl, l)))) (later_blank (47 ∷ 47 ∷ line) (lines more) (lines_any more) (gap_blank g))

-- ---- lines without a token

line_comments : (a : Above) (line text rest : List ℕ) → IsComment text → trimmed text ≡ text → comments_in (lines (comment_line a line text ++ rest)) ≡ with_comment text (comments_in (lines rest))
line_comments a line [] rest h e = refl
line_comments above.Nothing line (c ∷ cs) rest h e =
    ap comments_in (its_lines (indent line) c cs h e rest) ∙ ap (λ t. with_comment t (comments_in (lines rest))) (its_comment (indent line) c cs h e rest)
line_comments above.Line line (c ∷ cs) rest h e =
    ap comments_in (its_lines (indent line) c cs h e rest) ∙ ap (λ t. with_comment t (comments_in (lines rest))) (its_comment (indent line) c cs h e rest)
line_comments above.Blank line (c ∷ cs) rest h e =
    ap comments_in (its_lines (indent line) c cs h e rest) ∙ ap (λ t. with_comment t (comments_in (lines rest))) (its_comment (indent line) c cs h e rest)

abbrev LastComments : (Above → List ℕ → List ℕ) → List ℕ → Type 0
LastComments last line = (a : Above) → comments_in (lines (last a line)) ≡ with_comment (comment_of line) []

-- the last of lines
abbrev EndsAs : (List ℕ → Type 0) → List (List ℕ) → Type 0
EndsAs P [] = Unit {0}
EndsAs P (line ∷ []) = P line
EndsAs P (line ∷ next ∷ more) = EndsAs P (next ∷ more)

each_comments : (last : Above → List ℕ → List ℕ) (a : Above) (line : List ℕ) (ls : List (List ℕ)) → HaveComments (line ∷ ls) → EndsAs (LastComments last) (line ∷ ls) → comments_in (lines (each_line last a (line ∷ ls))) ≡ comments_in (line ∷ ls)
each_comments last a line [] h ends = ends a
each_comments last a line (next ∷ more) h ends =
    line_comments a line (comment_of line) (each_line last (below a (comment_of line)) (next ∷ more)) h.0 (comment_trimmed line)
    ∙ ap (with_comment (comment_of line)) (each_comments last (below a (comment_of line)) next more h.1 ends)

own_comments : (line : List ℕ) → IsComment (comment_of line) → LastComments own_line line
own_comments line h a = subst (λ xs. comments_in (lines xs) ≡ with_comment (comment_of line) []) (append_none (own_line a line)) (line_comments a line (comment_of line) [] h (comment_trimmed line))

own_ends : (ls : List (List ℕ)) → HaveComments ls → EndsAs (LastComments own_line) ls
own_ends [] h = tt
own_ends (line ∷ []) h = own_comments line h.0
own_ends (line ∷ next ∷ more) h = own_ends (next ∷ more) h.1

spaces_comments : (n : ℕ) → comments_in (lines (spaces n)) ≡ []
spaces_comments n = ap comments_in (lines_alone (spaces n) (spaces_alone n)) ∙ ap (λ t. with_comment t []) (none n)
  where
    none : (n : ℕ) → comment_of (spaces n) ≡ []
    none zero = refl
    none (suc n) = comment_space 32 (spaces n) refl ∙ none n

before_comments : (begins : Bool) (line : List ℕ) → comment_of line ≡ [] → LastComments (before_token begins) line
before_comments begins line none above.Nothing = spaces_comments (cond begins 0 (max 2 (indent line))) ∙ ap (λ t. with_comment t []) (sym none)
before_comments begins line none above.Line = spaces_comments (cond begins 0 (max 2 (indent line))) ∙ ap (λ t. with_comment t []) (sym none)
before_comments begins line none above.Blank = spaces_comments (cond begins 0 (max 2 (indent line))) ∙ ap (λ t. with_comment t []) (sym none)

before_ends : (begins : Bool) (ls : List (List ℕ)) → LastIsBlank ls → EndsAs (LastComments (before_token begins)) ls
before_ends begins [] h = tt
before_ends begins (line ∷ []) h = before_comments begins line h
before_ends begins (line ∷ next ∷ more) h = before_ends begins (next ∷ more) h

-- ---- gaps

end_comments : (line rest : List ℕ) → IsComment (comment_of line) → comments_in (lines (line_end line ++ rest)) ≡ with_comment (comment_of line) (comments_in (lines rest))
end_comments line rest h = ap comments_in (end_lines line rest h) ∙ ap (λ t. with_comment t (comments_in (lines rest))) (after_again (comment_of line) h (comment_trimmed line))

inner_lines_comments : (spaced begins : Bool) (line : List ℕ) (ls : List (List ℕ)) → HaveComments (line ∷ ls) → LastIsBlank (line ∷ ls) → comments_in (lines (inner_lines spaced begins (line ∷ ls))) ≡ comments_in (line ∷ ls)
inner_lines_comments true begins line [] h blank = ap (λ t. with_comment t []) (sym blank)
inner_lines_comments false begins line [] h blank = ap (λ t. with_comment t []) (sym blank)
inner_lines_comments spaced begins line (next ∷ more) h blank =
    end_comments line (each_line (before_token begins) above.Line (next ∷ more)) h.0
    ∙ ap (with_comment (comment_of line)) (each_comments (before_token begins) above.Line next more h.1 (before_ends begins (next ∷ more) blank))

pub inner_comments : (spaced begins : Bool) (gap : List ℕ) → IsGap gap → comments_in (lines (inner_gap spaced begins gap)) ≡ comments_in (lines gap)
inner_comments spaced begins gap g =
    let any = lines_any gap in
    subst (λ ls. comments_in (lines (inner_lines spaced begins ls)) ≡ comments_in ls) (sym any.is)
    (inner_lines_comments spaced begins any.first any.others (subst HaveComments any.is (gap_lines gap g)) (subst LastIsBlank any.is (gap_blank g)))

own_lines_comments : (ls : List (List ℕ)) → HaveComments ls → comments_in (lines (each_line own_line above.Line ls)) ≡ comments_in ls
own_lines_comments [] h = refl
own_lines_comments (line ∷ ls) h = each_comments own_line above.Line line ls h (own_ends (line ∷ ls) h)

pub last_comments : (gap : List ℕ) → IsLastGap gap → comments_in (lines (last_gap gap)) ≡ comments_in (lines gap)
last_comments gap g =
    let any = lines_any gap in
    let have = subst HaveComments any.is (last_gap_lines gap g) in
    subst (λ ls. comments_in (lines (last_lines ls)) ≡ comments_in ls) (sym any.is)
    (end_comments any.first (each_line own_line above.Line any.others) have.0 ∙ ap (with_comment (comment_of any.first)) (own_lines_comments any.others have.1))

pub first_comments : (begins : Bool) (gap : List ℕ) → IsGap gap → comments_in (lines (first_gap begins gap)) ≡ comments_in (lines gap)
first_comments begins gap g =
    let any = lines_any gap in
    subst (λ ls. comments_in (lines (each_line (before_token begins) above.Nothing ls)) ≡ comments_in ls) (sym any.is)
    (each_comments (before_token begins) above.Nothing any.first any.others (subst HaveComments any.is (gap_lines gap g)) (before_ends begins (any.first ∷ any.others) (subst LastIsBlank any.is (gap_blank g))))

pub only_comments : (gap : List ℕ) → IsLastGap gap → comments_in (lines (only_gap gap)) ≡ comments_in (lines gap)
only_comments gap g =
    let any = lines_any gap in
    let have = subst HaveComments any.is (last_gap_lines gap g) in
    subst (λ ls. comments_in (lines (each_line own_line above.Nothing ls)) ≡ comments_in ls) (sym any.is)
    (each_comments own_line above.Nothing any.first any.others have (own_ends (any.first ∷ any.others) have))
