-- What becomes of the bytes of a gap is the bytes of what becomes of its characters.
use Rattle.std.proofs.Common.{◌≡◌, refl, sym, ap, ◌∙◌, subst, ℕ, zero, suc, ◌+◌, ◌<◌, Bool, true, false, cond, max, List, [], ◌∷◌, ◌++◌, length, take, get_or, map, lit<, arith}
use Rattle.std.proofs.lemmas.Bool.{false≢true}
use Rattle.std.proofs.lemmas.List.{append-nil}
use Rattle.std.proofs.lemmas.Str.{encode_ascii, encodes-append, length-encode, len_utf8_bounds, inside_one}
use Rattle.std.specs.List.{prefix_len}
use lib.Utf8.{encode, encodes}
use Rattle.um_syntax.specs.Gap.{is_space}
use Rattle.um_syntax.specs.LineColumn.{is_line_feed}
use Rattle.um_tidy.specs.declared.gap.Above.{Above}
use Rattle.um_tidy.specs.declared.gap.Above.TheVariants as above
use Rattle.um_tidy.specs.Gaps.{in_front, lines, margin, kept, trimmed, comment, width_from, indent, spaces, blank_line, comment_line, own_line, below, each_line, indentation, before_token, comment_after, line_end, first_gap, inner_lines, inner_gap, last_lines, last_gap, only_gap}
use Rattle.um_tidy.proofs.Lines.{IsAny, lines_any}
use Rattle.um_tidy.proofs.GapLines.{comment_space, comment_other, kept_other}

-- ---- the bytes of a character

abbrev AllFail : (ℕ → Bool) → List ℕ → Type 0
AllFail p [] = Unit {0}
AllFail p (b ∷ bs) = (p b ≡ false) × AllFail p bs

by_index : (p : ℕ → Bool) (bs : List ℕ) → ((k : ℕ) → k < length bs → p (get_or bs k 0) ≡ false) → AllFail p bs
by_index p [] h = tt
by_index p (b ∷ bs) h = (h zero (omega arith), by_index p bs (λ k within. h (suc k) (omega (arith, within))))

-- a test of ASCII that a character fails is failed by each of its bytes
encode_fails : (p : ℕ → Bool) → ((b : ℕ) → p b ≡ true → b < 128) → (c : ℕ) → p c ≡ false → AllFail p (encode c)
encode_fails p low c fails = by_index p (encode c) (λ k within. at k within (p (get_or (encode c) k 0)) refl)
  where
    at : (k : ℕ) → k < length (encode c) → (b : Bool) → p (get_or (encode c) k 0) ≡ b → p (get_or (encode c) k 0) ≡ false
    at k within true e =
        let same : c ≡ get_or (encode c) k 0 = inside_one c [] (encode c) k (sym (append-nil (encode c))) within (low (get_or (encode c) k 0) e) in
        absurd (false≢true (sym fails ∙ ap p same ∙ e))
    at k within false e = e

space_low : (b : ℕ) → is_space b ≡ true → b < 128
space_low b h = grind arith

feed_low : (b : ℕ) → is_line_feed b ≡ true → b < 128
feed_low b h = grind arith

pub record IsSome (xs : List ℕ) : Type 0 where
  pub first : ℕ
  pub others : List ℕ
  pub is : xs ≡ first ∷ others

some_of : (xs : List ℕ) → 0 < length xs → IsSome xs
some_of [] some = absurd (omega (arith, some))
some_of (x ∷ xs) some = record { first = x; others = xs; is = refl }

abbrev encode_some : (c : ℕ) → IsSome (encode c)
encode_some c = let size = length-encode c in let least = (len_utf8_bounds c).0 in some_of (encode c) (omega (arith, size, least))

abbrev encodes_some : (c : ℕ) (cs : List ℕ) → IsSome (encodes (c ∷ cs))
encodes_some c cs = let s = encode_some c in record { first = s.first; others = s.others ++ encodes cs; is = ap (λ xs. xs ++ encodes cs) s.is }

pub some_bytes : (c : ℕ) (cs : List ℕ) → IsSome (encodes (c ∷ cs))
some_bytes c cs = encodes_some c cs

ascii_front : (c : ℕ) (xs : List ℕ) → c < 128 → encodes (c ∷ xs) ≡ c ∷ encodes xs
ascii_front c xs low = ap (λ bs. bs ++ encodes xs) (encode_ascii c low)

-- ---- lines

abbrev glue : List ℕ → List (List ℕ) → List (List ℕ)
glue xs [] = xs ∷ []
glue xs (line ∷ ls) = (xs ++ line) ∷ ls

glue_none : (ls : List (List ℕ)) → IsAny ls → ls ≡ glue [] ls
glue_none ls any = subst (λ xs. xs ≡ glue [] xs) (sym any.is) refl

glue_more : (c : ℕ) (xs : List ℕ) (ls : List (List ℕ)) → in_front c (glue xs ls) ≡ glue (c ∷ xs) ls
glue_more c xs [] = refl
glue_more c xs (line ∷ ls) = refl

lines_glue : (xs more : List ℕ) → AllFail is_line_feed xs → lines (xs ++ more) ≡ glue xs (lines more)
lines_glue [] more h = glue_none (lines more) (lines_any more)
lines_glue (x ∷ xs) more h =
    ap (λ b. cond b ([] ∷ lines (xs ++ more)) (in_front x (lines (xs ++ more)))) h.0 ∙ ap (in_front x) (lines_glue xs more h.1) ∙ glue_more x xs (lines more)

glue_front : (c : ℕ) (ls : List (List ℕ)) → glue (encode c) (map encodes ls) ≡ map encodes (in_front c ls)
glue_front c [] = ap (λ bs. bs ∷ []) (sym (append-nil (encode c)))
glue_front c (line ∷ ls) = refl

lines_by_test : (c : ℕ) (cs : List ℕ) (b : Bool) → is_line_feed c ≡ b → lines (encodes cs) ≡ map encodes (lines cs) → lines (encodes (c ∷ cs)) ≡ map encodes (lines (c ∷ cs))
lines_by_test c cs true e more =
    ap lines (ascii_front c cs (feed_low c e)) ∙ ap (λ b. cond b ([] ∷ lines (encodes cs)) (in_front c (lines (encodes cs)))) e
    ∙ ap (λ ls. [] ∷ ls) more ∙ sym (ap (λ b. map encodes (cond b ([] ∷ lines cs) (in_front c (lines cs)))) e)
lines_by_test c cs false e more =
    lines_glue (encode c) (encodes cs) (encode_fails is_line_feed feed_low c e) ∙ ap (glue (encode c)) more ∙ glue_front c (lines cs)
    ∙ sym (ap (λ b. map encodes (cond b ([] ∷ lines cs) (in_front c (lines cs)))) e)

pub lines_encodes : (cs : List ℕ) → lines (encodes cs) ≡ map encodes (lines cs)
lines_encodes [] = refl
lines_encodes (c ∷ cs) = lines_by_test c cs (is_line_feed c) refl (lines_encodes cs)

-- ---- comments

kept_some : (c : ℕ) (xs : List ℕ) → IsSome xs → kept c xs ≡ c ∷ xs
kept_some c xs s = subst (λ ys. kept c ys ≡ c ∷ ys) (sym s.is) refl

trimmed_past : (bs xs : List ℕ) → AllFail is_space bs → trimmed (bs ++ xs) ≡ bs ++ trimmed xs
trimmed_past [] xs h = refl
trimmed_past (b ∷ bs) xs h = ap (kept b) (trimmed_past bs xs h.1) ∙ kept_other b (bs ++ trimmed xs) h.0

kept_encodes : (c : ℕ) (t : List ℕ) → is_space c ≡ true → kept c (encodes t) ≡ encodes (kept c t)
kept_encodes c [] e = ap (λ b. cond b [] (c ∷ [])) e ∙ sym (ap (λ b. encodes (cond b [] (c ∷ []))) e)
kept_encodes c (d ∷ ds) e = kept_some c (encodes (d ∷ ds)) (encodes_some d ds) ∙ sym (ascii_front c (d ∷ ds) (space_low c e))

trimmed_by_test : (c : ℕ) (cs : List ℕ) (b : Bool) → is_space c ≡ b → trimmed (encodes cs) ≡ encodes (trimmed cs) → trimmed (encodes (c ∷ cs)) ≡ encodes (trimmed (c ∷ cs))
trimmed_by_test c cs true e more = ap trimmed (ascii_front c cs (space_low c e)) ∙ ap (kept c) more ∙ kept_encodes c (trimmed cs) e
trimmed_by_test c cs false e more =
    trimmed_past (encode c) (encodes cs) (encode_fails is_space space_low c e) ∙ ap (λ t. encode c ++ t) more ∙ sym (ap encodes (kept_other c (trimmed cs) e))

trimmed_encodes : (xs : List ℕ) → trimmed (encodes xs) ≡ encodes (trimmed xs)
trimmed_encodes [] = refl
trimmed_encodes (c ∷ cs) = trimmed_by_test c cs (is_space c) refl (trimmed_encodes cs)

-- the first byte of what begins with another character is no white space
other_first : (c : ℕ) (cs : List ℕ) → is_space c ≡ false → (s : IsSome (encode c)) → is_space s.first ≡ false
other_first c cs e s = (subst (AllFail is_space) s.is (encode_fails is_space space_low c e)).0

comment_by_test : (c : ℕ) (cs : List ℕ) (b : Bool) → is_space c ≡ b → comment (encodes cs) ≡ encodes (comment cs) → comment (encodes (c ∷ cs)) ≡ encodes (comment (c ∷ cs))
comment_by_test c cs true e more =
    ap comment (ascii_front c cs (space_low c e)) ∙ comment_space c (encodes cs) e ∙ more ∙ sym (ap encodes (comment_space c cs e))
comment_by_test c cs false e more =
    let s = encode_some c in
    let all = encodes_some c cs in
    let plain : comment (encodes (c ∷ cs)) ≡ trimmed (encodes (c ∷ cs)) = subst (λ xs. comment xs ≡ trimmed xs) (sym (encodes_some c cs).is) (comment_other s.first (s.others ++ encodes cs) (other_first c cs e s)) in
    plain ∙ trimmed_encodes (c ∷ cs) ∙ ap encodes (sym (comment_other c cs e))

pub comment_encodes : (line : List ℕ) → comment (encodes line) ≡ encodes (comment line)
comment_encodes [] = refl
comment_encodes (c ∷ cs) = comment_by_test c cs (is_space c) refl (comment_encodes cs)

-- ---- indentation

margin_space : (c : ℕ) (line : List ℕ) → is_space c ≡ true → margin (c ∷ line) ≡ c ∷ margin line
margin_space c line e =
    let more : prefix_len is_space (c ∷ line) ≡ 1 + prefix_len is_space line = ap (λ b. cond b (1 + prefix_len is_space line) 0) e in
    let next : prefix_len is_space (c ∷ line) ≡ suc (prefix_len is_space line) = omega (arith, more) in
    ap (λ n. take n (c ∷ line)) next

margin_other : (c : ℕ) (line : List ℕ) → is_space c ≡ false → margin (c ∷ line) ≡ []
margin_other c line e = ap (λ b. take (cond b (1 + prefix_len is_space line) 0) (c ∷ line)) e

margin_by_test : (c : ℕ) (cs : List ℕ) (b : Bool) → is_space c ≡ b → margin (encodes cs) ≡ margin cs → margin (encodes (c ∷ cs)) ≡ margin (c ∷ cs)
margin_by_test c cs true e more =
    ap margin (ascii_front c cs (space_low c e)) ∙ margin_space c (encodes cs) e ∙ ap (λ xs. c ∷ xs) more ∙ sym (margin_space c cs e)
margin_by_test c cs false e more =
    let s = encode_some c in
    subst (λ xs. margin xs ≡ []) (sym (encodes_some c cs).is) (margin_other s.first (s.others ++ encodes cs) (other_first c cs e s)) ∙ sym (margin_other c cs e)

margin_encodes : (line : List ℕ) → margin (encodes line) ≡ margin line
margin_encodes [] = refl
margin_encodes (c ∷ cs) = margin_by_test c cs (is_space c) refl (margin_encodes cs)

indent_encodes : (line : List ℕ) → indent (encodes line) ≡ indent line
indent_encodes line = ap (width_from 0) (margin_encodes line)

-- ---- what is printed

spaces_encodes : (n : ℕ) → encodes (spaces n) ≡ spaces n
spaces_encodes zero = refl
spaces_encodes (suc n) = ascii_front 32 (spaces n) (lit< tt) ∙ ap (λ xs. 32 ∷ xs) (spaces_encodes n)

feed_encodes : encodes (10 ∷ []) ≡ 10 ∷ []
feed_encodes = ascii_front 10 [] (lit< tt)

blank_encodes : (a : Above) → encodes (blank_line a) ≡ blank_line a
blank_encodes above.Blank = feed_encodes
blank_encodes above.Line = refl
blank_encodes above.Nothing = refl

abbrev whole_line : Above → ℕ → List ℕ → List ℕ
whole_line a n text = blank_line a ++ (spaces n ++ (text ++ 10 ∷ []))

whole_encodes : (a : Above) (n : ℕ) (text : List ℕ) → encodes (whole_line a n text) ≡ whole_line a n (encodes text)
whole_encodes a n text =
    encodes-append (blank_line a) (spaces n ++ (text ++ 10 ∷ [])) ∙ ap (λ xs. xs ++ encodes (spaces n ++ (text ++ 10 ∷ []))) (blank_encodes a)
    ∙ ap (λ xs. blank_line a ++ xs)
    (encodes-append (spaces n) (text ++ 10 ∷ []) ∙ ap (λ xs. xs ++ encodes (text ++ 10 ∷ [])) (spaces_encodes n)
    ∙ ap (λ xs. spaces n ++ xs) (encodes-append text (10 ∷ []) ∙ ap (λ xs. encodes text ++ xs) feed_encodes))

some_line : (a : Above) (line text : List ℕ) → IsSome text → comment_line a line text ≡ whole_line a (indent line) text
some_line a line text s = subst (λ xs. comment_line a line xs ≡ whole_line a (indent line) xs) (sym s.is) refl

comment_line_encodes : (a : Above) (line text : List ℕ) → comment_line a (encodes line) (encodes text) ≡ encodes (comment_line a line text)
comment_line_encodes a line [] = refl
comment_line_encodes a line (c ∷ cs) =
    some_line a (encodes line) (encodes (c ∷ cs)) (encodes_some c cs) ∙ ap (λ n. whole_line a n (encodes (c ∷ cs))) (indent_encodes line)
    ∙ sym (whole_encodes a (indent line) (c ∷ cs))

own_line_encodes : (a : Above) (line : List ℕ) → own_line a (encodes line) ≡ encodes (own_line a line)
own_line_encodes a line = ap (comment_line a (encodes line)) (comment_encodes line) ∙ comment_line_encodes a line (comment line)

below_some : (a : Above) (text : List ℕ) → IsSome text → below a text ≡ above.Line
below_some a text s = ap (below a) s.is

below_text : (a : Above) (text : List ℕ) → below a (encodes text) ≡ below a text
below_text a [] = refl
below_text a (c ∷ cs) = below_some a (encodes (c ∷ cs)) (encodes_some c cs)

below_encodes : (a : Above) (line : List ℕ) → below a (comment (encodes line)) ≡ below a (comment line)
below_encodes a line = ap (below a) (comment_encodes line) ∙ below_text a (comment line)

before_token_encodes : (begins : Bool) (a : Above) (line : List ℕ) → before_token begins a (encodes line) ≡ encodes (before_token begins a line)
before_token_encodes begins a line =
    ap (λ n. blank_line a ++ spaces (cond begins 0 (max 2 n))) (indent_encodes line)
    ∙ sym (encodes-append (blank_line a) (indentation begins line) ∙ ap (λ xs. xs ++ encodes (indentation begins line)) (blank_encodes a)
    ∙ ap (λ xs. blank_line a ++ xs) (spaces_encodes (cond begins 0 (max 2 (indent line)))))

each_line_encodes : (last : Above → List ℕ → List ℕ) → ((a : Above) (line : List ℕ) → last a (encodes line) ≡ encodes (last a line)) → (a : Above) (ls : List (List ℕ)) → each_line last a (map encodes ls) ≡ encodes (each_line last a ls)
each_line_encodes last same a [] = refl
each_line_encodes last same a (line ∷ []) = same a line
each_line_encodes last same a (line ∷ next ∷ more) =
    let rest = each_line last (below a (comment line)) (next ∷ more) in
    ap (λ xs. xs ++ each_line last (below a (comment (encodes line))) (map encodes (next ∷ more))) (own_line_encodes a line)
    ∙ ap (λ b. encodes (own_line a line) ++ each_line last b (map encodes (next ∷ more))) (below_encodes a line)
    ∙ ap (λ xs. encodes (own_line a line) ++ xs) (each_line_encodes last same (below a (comment line)) (next ∷ more))
    ∙ sym (encodes-append (own_line a line) rest)

after_some : (text : List ℕ) → IsSome text → comment_after text ≡ 32 ∷ text
after_some text s = subst (λ xs. comment_after xs ≡ 32 ∷ xs) (sym s.is) refl

after_encodes : (text : List ℕ) → comment_after (encodes text) ≡ encodes (comment_after text)
after_encodes [] = refl
after_encodes (c ∷ cs) = after_some (encodes (c ∷ cs)) (encodes_some c cs) ∙ sym (ascii_front 32 (c ∷ cs) (lit< tt))

line_end_encodes : (line : List ℕ) → line_end (encodes line) ≡ encodes (line_end line)
line_end_encodes line =
    ap (λ xs. comment_after xs ++ 10 ∷ []) (comment_encodes line) ∙ ap (λ xs. xs ++ 10 ∷ []) (after_encodes (comment line))
    ∙ sym (encodes-append (comment_after (comment line)) (10 ∷ []) ∙ ap (λ xs. encodes (comment_after (comment line)) ++ xs) feed_encodes)

inner_lines_encodes : (spaced begins : Bool) (ls : List (List ℕ)) → inner_lines spaced begins (map encodes ls) ≡ encodes (inner_lines spaced begins ls)
inner_lines_encodes spaced begins [] = refl
inner_lines_encodes true begins (line ∷ []) = sym (ascii_front 32 [] (lit< tt))
inner_lines_encodes false begins (line ∷ []) = refl
inner_lines_encodes spaced begins (line ∷ next ∷ more) =
    let rest = each_line (before_token begins) above.Line (next ∷ more) in
    ap (λ xs. xs ++ each_line (before_token begins) above.Line (map encodes (next ∷ more))) (line_end_encodes line)
    ∙ ap (λ xs. encodes (line_end line) ++ xs) (each_line_encodes (before_token begins) (before_token_encodes begins) above.Line (next ∷ more))
    ∙ sym (encodes-append (line_end line) rest)

last_lines_encodes : (ls : List (List ℕ)) → last_lines (map encodes ls) ≡ encodes (last_lines ls)
last_lines_encodes [] = refl
last_lines_encodes (line ∷ more) =
    let rest = each_line own_line above.Line more in
    ap (λ xs. xs ++ each_line own_line above.Line (map encodes more)) (line_end_encodes line)
    ∙ ap (λ xs. encodes (line_end line) ++ xs) (each_line_encodes own_line own_line_encodes above.Line more)
    ∙ sym (encodes-append (line_end line) rest)

pub first_gap_encodes : (begins : Bool) (gap : List ℕ) → first_gap begins (encodes gap) ≡ encodes (first_gap begins gap)
first_gap_encodes begins gap =
    ap (each_line (before_token begins) above.Nothing) (lines_encodes gap) ∙ each_line_encodes (before_token begins) (before_token_encodes begins) above.Nothing (lines gap)

pub inner_gap_encodes : (spaced begins : Bool) (gap : List ℕ) → inner_gap spaced begins (encodes gap) ≡ encodes (inner_gap spaced begins gap)
inner_gap_encodes spaced begins gap = ap (inner_lines spaced begins) (lines_encodes gap) ∙ inner_lines_encodes spaced begins (lines gap)

pub last_gap_encodes : (gap : List ℕ) → last_gap (encodes gap) ≡ encodes (last_gap gap)
last_gap_encodes gap = ap last_lines (lines_encodes gap) ∙ last_lines_encodes (lines gap)

pub only_gap_encodes : (gap : List ℕ) → only_gap (encodes gap) ≡ encodes (only_gap gap)
only_gap_encodes gap = ap (each_line own_line above.Nothing) (lines_encodes gap) ∙ each_line_encodes own_line own_line_encodes above.Nothing (lines gap)
