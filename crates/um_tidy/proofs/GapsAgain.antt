-- A gap that was laid out is laid out as it stands.
use Rattle.std.proofs.Common.{◌≡◌, refl, sym, ap, ◌∙◌, subst, ℕ, zero, suc, ◌+◌, Bool, true, false, cond, max, List, [], ◌∷◌, ◌++◌, take, drop, append_assoc, arith}
use Rattle.std.specs.List.{prefix_len}
use Rattle.um_syntax.specs.Gap.{is_space, IsLine, IsGap, IsLastGap}
use Rattle.um_tidy.specs.declared.gap.Above.{Above}
use Rattle.um_tidy.specs.declared.gap.Above.TheVariants as above
use Rattle.um_tidy.specs.Gaps.{lines, margin, kept, trimmed, comment, width_from, indent, spaces, blank_line, past_blank, comment_line, own_line, below, each_line, indentation, before_token, comment_after, line_end, first_gap, inner_lines, inner_gap, last_lines, last_gap, only_gap}
use Rattle.um_tidy.proofs.Lines.{lines_any, line_and_more}
use Rattle.um_tidy.proofs.GapLines.{comment_space, comment_other, IsComment, HaveComments, lines_past, lines_alone, gap_lines, last_gap_lines}

-- ---- the comment and the indentation of a line that was printed

kept_again : (c : ℕ) (xs : List ℕ) → trimmed xs ≡ xs → trimmed (kept c xs) ≡ kept c xs
kept_again c [] e = by_test (is_space c) refl
  where
    by_test : (b : Bool) → is_space c ≡ b → trimmed (cond b [] (c ∷ [])) ≡ cond b [] (c ∷ [])
    by_test true t = refl
    by_test false t = ap (λ b. cond b [] (c ∷ [])) t
kept_again c (x ∷ xs) e = ap (kept c) e

trimmed_again : (xs : List ℕ) → trimmed (trimmed xs) ≡ trimmed xs
trimmed_again [] = refl
trimmed_again (c ∷ cs) = kept_again c (trimmed cs) (trimmed_again cs)

spaces_skip : (n : ℕ) (text : List ℕ) → comment (spaces n ++ text) ≡ comment text
spaces_skip zero text = refl
spaces_skip (suc n) text = comment_space 32 (spaces n ++ text) refl ∙ spaces_skip n text

-- the comment of a line is trimmed
pub comment_trimmed : (line : List ℕ) → trimmed (comment line) ≡ comment line
comment_trimmed line = trimmed_again (drop (prefix_len is_space line) line)

-- a comment that begins with slashes is its own comment
comment_same : (text : List ℕ) → IsComment text → trimmed text ≡ text → comment text ≡ text
comment_same [] h e = refl
comment_same (c ∷ cs) h e = subst (λ xs. comment xs ≡ trimmed xs) (sym h.1) (comment_other 47 (47 ∷ h.0) refl) ∙ e

margin_spaces : (n : ℕ) (c : ℕ) (cs : List ℕ) → is_space c ≡ false → margin (spaces n ++ c ∷ cs) ≡ spaces n
margin_spaces zero c cs e = ap (λ b. take (cond b (1 + prefix_len is_space cs) 0) (c ∷ cs)) e
margin_spaces (suc n) c cs e =
    let k = prefix_len is_space (spaces n ++ c ∷ cs) in
    let next : 1 + k ≡ suc k = omega arith in
    ap (λ m. take m (32 ∷ (spaces n ++ c ∷ cs))) next ∙ ap (λ xs. 32 ∷ xs) (margin_spaces n c cs e)

margin_alone : (n : ℕ) → margin (spaces n) ≡ spaces n
margin_alone zero = refl
margin_alone (suc n) =
    let k = prefix_len is_space (spaces n) in
    let next : 1 + k ≡ suc k = omega arith in
    ap (λ m. take m (32 ∷ spaces n)) next ∙ ap (λ xs. 32 ∷ xs) (margin_alone n)

pub width_spaces : (m n : ℕ) → width_from m (spaces n) ≡ m + n
width_spaces m zero = omega arith
width_spaces m (suc n) = width_spaces (m + 1) n ∙ omega arith

indent_alone : (n : ℕ) → indent (spaces n) ≡ n
indent_alone n = ap (width_from 0) (margin_alone n) ∙ width_spaces 0 n ∙ omega arith

indent_before : (n : ℕ) (text : List ℕ) (rest : List ℕ) → text ≡ 47 ∷ rest → indent (spaces n ++ text) ≡ n
indent_before n text rest e = ap (λ xs. indent (spaces n ++ xs)) e ∙ ap (width_from 0) (margin_spaces n 47 rest refl) ∙ width_spaces 0 n ∙ omega arith

spaces_line : (n : ℕ) (text : List ℕ) → IsLine text → IsLine (spaces n ++ text)
spaces_line zero text h = h
spaces_line (suc n) text h = (refl, spaces_line n text h)

pub comment_is_line : (text : List ℕ) → IsComment text → IsLine text
comment_is_line [] h = tt
comment_is_line (c ∷ cs) h = subst IsLine (sym h.1) (refl, (refl, h.2))

-- ---- lines without a token

-- before the blank line that is due is printed, a line stands above
abbrev unblank : Above → Above
unblank above.Blank = above.Line
unblank a = a

past_unblank : (a : Above) → unblank (past_blank a) ≡ unblank a
past_unblank above.Nothing = refl
past_unblank above.Line = refl
past_unblank above.Blank = refl

-- a line that is printed
module _ (n c : ℕ) (cs : List ℕ) (h : IsComment (c ∷ cs)) (e : trimmed (c ∷ cs) ≡ c ∷ cs) (rest : List ℕ) where
  abbrev pub whole_line : List ℕ
  whole_line = spaces n ++ c ∷ cs

  pub its_comment : comment whole_line ≡ c ∷ cs
  its_comment = spaces_skip n (c ∷ cs) ∙ comment_same (c ∷ cs) h e

  printed : (a : Above) → own_line a whole_line ≡ blank_line a ++ (spaces n ++ (c ∷ cs ++ 10 ∷ []))
  printed a =
      ap (comment_line a whole_line) its_comment ∙ ap (λ m. blank_line a ++ (spaces m ++ (c ∷ cs ++ 10 ∷ []))) (indent_before n (c ∷ cs) (47 ∷ h.0) h.1)

  pub its_lines : lines ((spaces n ++ (c ∷ cs ++ 10 ∷ [])) ++ rest) ≡ whole_line ∷ lines rest
  its_lines =
      let flat : (spaces n ++ (c ∷ cs ++ 10 ∷ [])) ++ rest ≡ whole_line ++ 10 ∷ rest =
      append_assoc (spaces n) (c ∷ cs ++ 10 ∷ []) rest ∙ ap (λ xs. spaces n ++ xs) (append_assoc (c ∷ cs) (10 ∷ []) rest) ∙ sym (append_assoc (spaces n) (c ∷ cs) (10 ∷ rest)) in
      ap lines flat ∙ lines_past whole_line rest (spaces_line n (c ∷ cs) (comment_is_line (c ∷ cs) h))

  module _ (last : Above → List ℕ → List ℕ) (again : each_line last above.Line (lines rest) ≡ rest) where
    step : (a : Above) → each_line last a (whole_line ∷ lines rest) ≡ (blank_line a ++ (spaces n ++ (c ∷ cs ++ 10 ∷ []))) ++ rest
    step a =
        line_and_more last a whole_line rest ∙ ap (λ xs. xs ++ each_line last (below a (comment whole_line)) (lines rest)) (printed a)
        ∙ ap (λ xs. (blank_line a ++ (spaces n ++ (c ∷ cs ++ 10 ∷ []))) ++ xs) (ap (λ t. each_line last (below a t) (lines rest)) its_comment ∙ again)

    line_again : (a : Above) → each_line last (unblank a) (lines ((blank_line a ++ (spaces n ++ (c ∷ cs ++ 10 ∷ []))) ++ rest)) ≡ (blank_line a ++ (spaces n ++ (c ∷ cs ++ 10 ∷ []))) ++ rest
    line_again above.Nothing = ap (each_line last above.Nothing) its_lines ∙ step above.Nothing
    line_again above.Line = ap (each_line last above.Line) its_lines ∙ step above.Line
    line_again above.Blank = ap (λ ls. each_line last above.Line ([] ∷ ls)) its_lines ∙ step above.Blank

own_again : (last : Above → List ℕ → List ℕ) (a : Above) (line text : List ℕ) → IsComment text → trimmed text ≡ text → (rest : List ℕ) → each_line last (unblank (below a text)) (lines rest) ≡ rest
    → each_line last (unblank a) (lines (comment_line a line text ++ rest)) ≡ comment_line a line text ++ rest
own_again last a line [] h e rest again = ap (λ b. each_line last b (lines rest)) (sym (past_unblank a)) ∙ again
own_again last a line (c ∷ cs) h e rest again = line_again (indent line) c cs h e rest last again a

-- the last line stands as it is laid out
abbrev LastAgain : (Above → List ℕ → List ℕ) → Type 0
LastAgain last = (a : Above) (line : List ℕ) → IsComment (comment line) → each_line last (unblank a) (lines (last a line)) ≡ last a line

each_again : (last : Above → List ℕ → List ℕ) → LastAgain last → (a : Above) (line : List ℕ) (ls : List (List ℕ)) → HaveComments (line ∷ ls) → each_line last (unblank a) (lines (each_line last a (line ∷ ls))) ≡ each_line last a (line ∷ ls)
each_again last same a line [] h = same a line h.0
each_again last same a line (next ∷ more) h =
    own_again last a line (comment line) h.0 (comment_trimmed line) (each_line last (below a (comment line)) (next ∷ more)) (each_again last same (below a (comment line)) next more h.1)

pub append_none : (xs : List ℕ) → xs ++ [] ≡ xs
append_none [] = refl
append_none (x ∷ xs) = ap (λ l. x ∷ l) (append_none xs)

own_line_again : LastAgain own_line
own_line_again a line h =
    subst (λ xs. each_line own_line (unblank a) (lines xs) ≡ xs) (append_none (own_line a line)) (own_again own_line a line (comment line) h (comment_trimmed line) [] refl)

pub spaces_alone : (n : ℕ) → IsLine (spaces n)
spaces_alone zero = tt
spaces_alone (suc n) = (refl, spaces_alone n)

width_again : (begins : Bool) (n : ℕ) → cond begins 0 (max 2 (cond begins 0 (max 2 n))) ≡ cond begins 0 (max 2 n)
width_again true n = refl
width_again false n = omega arith

spaces_again : (begins : Bool) (a : Above) (line : List ℕ) → before_token begins a (indentation begins line) ≡ blank_line a ++ indentation begins line
spaces_again begins a line =
    ap (λ n. blank_line a ++ spaces (cond begins 0 (max 2 n))) (indent_alone (cond begins 0 (max 2 (indent line))))
    ∙ ap (λ n. blank_line a ++ spaces n) (width_again begins (indent line))

before_token_again : (begins : Bool) → LastAgain (before_token begins)
before_token_again begins above.Nothing line h =
    ap (each_line (before_token begins) above.Nothing) (lines_alone (indentation begins line) (spaces_alone (cond begins 0 (max 2 (indent line))))) ∙ spaces_again begins above.Nothing line
before_token_again begins above.Line line h =
    ap (each_line (before_token begins) above.Line) (lines_alone (indentation begins line) (spaces_alone (cond begins 0 (max 2 (indent line))))) ∙ spaces_again begins above.Line line
before_token_again begins above.Blank line h =
    ap (λ ls. each_line (before_token begins) above.Line ([] ∷ ls)) (lines_alone (indentation begins line) (spaces_alone (cond begins 0 (max 2 (indent line)))))
    ∙ spaces_again begins above.Blank line

-- ---- gaps

pub after_line : (text : List ℕ) → IsComment text → IsLine (comment_after text)
after_line [] h = tt
after_line (c ∷ cs) h = (refl, comment_is_line (c ∷ cs) h)

pub after_again : (text : List ℕ) → IsComment text → trimmed text ≡ text → comment (comment_after text) ≡ text
after_again [] h e = refl
after_again (c ∷ cs) h e = comment_space 32 (c ∷ cs) refl ∙ comment_same (c ∷ cs) h e

pub end_lines : (line rest : List ℕ) → IsComment (comment line) → lines (line_end line ++ rest) ≡ comment_after (comment line) ∷ lines rest
end_lines line rest h = ap lines (append_assoc (comment_after (comment line)) (10 ∷ []) rest) ∙ lines_past (comment_after (comment line)) rest (after_line (comment line) h)

end_again : (line : List ℕ) → IsComment (comment line) → line_end (comment_after (comment line)) ≡ line_end line
end_again line h = ap (λ xs. comment_after xs ++ 10 ∷ []) (after_again (comment line) h (comment_trimmed line))

inner_more : (spaced begins : Bool) (line rest : List ℕ) → inner_lines spaced begins (line ∷ lines rest) ≡ line_end line ++ each_line (before_token begins) above.Line (lines rest)
inner_more spaced begins line rest =
    let any = lines_any rest in
    ap (λ ls. inner_lines spaced begins (line ∷ ls)) any.is ∙ ap (λ ls. line_end line ++ each_line (before_token begins) above.Line ls) (sym any.is)

inner_lines_again : (spaced begins : Bool) (line : List ℕ) (ls : List (List ℕ)) → HaveComments (line ∷ ls) → inner_gap spaced begins (inner_lines spaced begins (line ∷ ls)) ≡ inner_lines spaced begins (line ∷ ls)
inner_lines_again true begins line [] h = refl
inner_lines_again false begins line [] h = refl
inner_lines_again spaced begins line (next ∷ more) h =
    let rest = each_line (before_token begins) above.Line (next ∷ more) in
    ap (inner_lines spaced begins) (end_lines line rest h.0) ∙ inner_more spaced begins (comment_after (comment line)) rest
    ∙ ap (λ xs. xs ++ each_line (before_token begins) above.Line (lines rest)) (end_again line h.0)
    ∙ ap (λ xs. line_end line ++ xs) (each_again (before_token begins) (before_token_again begins) above.Line next more h.1)

pub inner_again : (spaced begins : Bool) (gap : List ℕ) → IsGap gap → inner_gap spaced begins (inner_gap spaced begins gap) ≡ inner_gap spaced begins gap
inner_again spaced begins gap g =
    let any = lines_any gap in
    subst (λ ls. inner_gap spaced begins (inner_lines spaced begins ls) ≡ inner_lines spaced begins ls) (sym any.is)
    (inner_lines_again spaced begins any.first any.others (subst HaveComments any.is (gap_lines gap g)))

own_lines_again : (ls : List (List ℕ)) → HaveComments ls → each_line own_line above.Line (lines (each_line own_line above.Line ls)) ≡ each_line own_line above.Line ls
own_lines_again [] h = refl
own_lines_again (line ∷ ls) h = each_again own_line own_line_again above.Line line ls h

last_lines_again : (line : List ℕ) (ls : List (List ℕ)) → HaveComments (line ∷ ls) → last_gap (last_lines (line ∷ ls)) ≡ last_lines (line ∷ ls)
last_lines_again line ls h =
    let rest = each_line own_line above.Line ls in
    ap last_lines (end_lines line rest h.0) ∙ ap (λ xs. xs ++ each_line own_line above.Line (lines rest)) (end_again line h.0)
    ∙ ap (λ xs. line_end line ++ xs) (own_lines_again ls h.1)

pub last_again : (gap : List ℕ) → IsLastGap gap → last_gap (last_gap gap) ≡ last_gap gap
last_again gap g =
    let any = lines_any gap in
    subst (λ ls. last_gap (last_lines ls) ≡ last_lines ls) (sym any.is) (last_lines_again any.first any.others (subst HaveComments any.is (last_gap_lines gap g)))

pub first_again : (begins : Bool) (gap : List ℕ) → IsGap gap → first_gap begins (first_gap begins gap) ≡ first_gap begins gap
first_again begins gap g =
    let any = lines_any gap in
    subst (λ ls. first_gap begins (each_line (before_token begins) above.Nothing ls) ≡ each_line (before_token begins) above.Nothing ls) (sym any.is)
    (each_again (before_token begins) (before_token_again begins) above.Nothing any.first any.others (subst HaveComments any.is (gap_lines gap g)))

pub only_again : (gap : List ℕ) → IsLastGap gap → only_gap (only_gap gap) ≡ only_gap gap
only_again gap g =
    let any = lines_any gap in
    subst (λ ls. only_gap (each_line own_line above.Nothing ls) ≡ each_line own_line above.Nothing ls) (sym any.is)
    (each_again own_line own_line_again above.Nothing any.first any.others (subst HaveComments any.is (last_gap_lines gap g)))
