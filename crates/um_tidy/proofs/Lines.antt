-- The lines of a gap, one at a time.
use Rattle.std.proofs.Common.{◌≡◌, refl, sym, ap, ◌∙◌, ℕ, suc, ◌+◌, ◌-◌, ◌<◌, Bool, true, false, cond, not, List, [], ◌∷◌, ◌++◌, length, take, drop, get_or, append_assoc, Some, None, arith}
use Rattle.std.proofs.lemmas.List.{append-nil, length-drop, take_all}
use Rattle.std.proofs.lemmas.List.Sums.{prefix_len_is}
use Rattle.std.specs.List.{prefix_len}
use Rattle.memchr.specs.Find.{IsFirstByte, is_byte}
use Rattle.um_syntax.specs.LineColumn.{is_line_feed}
use Rattle.um_tidy.specs.declared.gap.Above.{Above}
use Rattle.um_tidy.specs.declared.gap.Above.TheVariants as above
use Rattle.um_tidy.specs.Gaps.{in_line, in_front, lines, comment, own_line, below, each_line, before_token, line_end, inner_lines, inner_gap, last_lines, last_gap}

one_by_test : (c : ℕ) (cs : List ℕ) (b : Bool) → is_line_feed c ≡ b → prefix_len in_line (c ∷ cs) ≡ length (c ∷ cs) → (prefix_len in_line cs ≡ length cs → lines cs ≡ cs ∷ []) → lines (c ∷ cs) ≡ (c ∷ cs) ∷ []
one_by_test c cs true t e more =
    let none : prefix_len in_line (c ∷ cs) ≡ 0 = ap (λ x. cond (not x) (1 + prefix_len in_line cs) 0) t in
    absurd (omega (arith, none, e))
one_by_test c cs false t e more =
    let one : prefix_len in_line (c ∷ cs) ≡ 1 + prefix_len in_line cs = ap (λ x. cond (not x) (1 + prefix_len in_line cs) 0) t in
    ap (λ x. cond x ([] ∷ lines cs) (in_front c (lines cs))) t ∙ ap (in_front c) (more (omega (arith, one, e)))

-- a text without a line feed is one line
pub one_line : (xs : List ℕ) → prefix_len in_line xs ≡ length xs → lines xs ≡ xs ∷ []
one_line [] e = refl
one_line (c ∷ cs) e = one_by_test c cs (is_line_feed c) refl e (λ h. one_line cs h)

-- the first line, and those after its line feed
abbrev IsCut : List ℕ → Type 0
IsCut xs = lines xs ≡ take (prefix_len in_line xs) xs ∷ lines (drop (suc (prefix_len in_line xs)) xs)

cut_by_test : (c : ℕ) (cs : List ℕ) (b : Bool) → is_line_feed c ≡ b → prefix_len in_line (c ∷ cs) < length (c ∷ cs) → (prefix_len in_line cs < length cs → IsCut cs) → IsCut (c ∷ cs)
cut_by_test c cs true t some more =
    let none : prefix_len in_line (c ∷ cs) ≡ 0 = ap (λ x. cond (not x) (1 + prefix_len in_line cs) 0) t in
    ap (λ x. cond x ([] ∷ lines cs) (in_front c (lines cs))) t ∙ ap (λ n. take n (c ∷ cs) ∷ lines (drop (suc n) (c ∷ cs))) (sym none)
cut_by_test c cs false t some more =
    let one : prefix_len in_line (c ∷ cs) ≡ 1 + prefix_len in_line cs = ap (λ x. cond (not x) (1 + prefix_len in_line cs) 0) t in
    let next : prefix_len in_line (c ∷ cs) ≡ suc (prefix_len in_line cs) = omega (arith, one) in
    ap (λ x. cond x ([] ∷ lines cs) (in_front c (lines cs))) t ∙ ap (in_front c) (more (omega (arith, one, some)))
    ∙ ap (λ n. take n (c ∷ cs) ∷ lines (drop (suc n) (c ∷ cs))) (sym next)

first_line : (xs : List ℕ) → prefix_len in_line xs < length xs → IsCut xs
first_line [] some = absurd (omega (arith, some))
first_line (c ∷ cs) some = cut_by_test c cs (is_line_feed c) refl some (λ h. first_line cs h)

pub cut_at : (xs : List ℕ) (n : ℕ) → n ≡ prefix_len in_line xs → n < length xs → lines xs ≡ take n xs ∷ lines (drop (n + 1) xs)
cut_at xs n is some =
    let next : suc n ≡ n + 1 = omega arith in
    first_line xs (omega (arith, is, some)) ∙ ap (λ k. take k xs ∷ lines (drop (suc k) xs)) (sym is) ∙ ap (λ k. take n xs ∷ lines (drop k xs)) next

-- ---- where the line feeds stand

pub other_byte : (c : ℕ) → (is_line_feed c ≡ true → ⊥) → in_line c ≡ true
other_byte c none = by (is_line_feed c) none
  where
    by : (b : Bool) → (b ≡ true → ⊥) → not b ≡ true
    by true n = absurd (n refl)
    by false n = refl

-- without one, the first line is all
pub no_line_feed : (xs : List ℕ) → IsFirstByte (is_byte 10) xs None → prefix_len in_line xs ≡ length xs
no_line_feed xs none = prefix_len_is in_line xs (length xs) 0 (omega arith) (λ k less. other_byte (get_or xs k 0) (none k (omega arith) less)) (λ less. absurd (omega (arith, less)))

-- what stands before the first one
pub line_feed_at : (xs : List ℕ) (n : ℕ) → IsFirstByte (is_byte 10) xs (Some n) → prefix_len in_line xs ≡ n
line_feed_at xs n (first, here) =
    let within = first.high in
    prefix_len_is in_line xs n 0 (omega (arith, within)) (λ k less. other_byte (get_or xs k 0) (first.before k (omega arith) less)) (λ less. ap not here)

-- the rest of a list as a part of it
pub tail_all : (xs : List ℕ) (n : ℕ) → take (length xs - n) (drop n xs) ≡ drop n xs
tail_all xs n = let fewer = length-drop n xs in take_all (length xs - n) (drop n xs) (omega (arith, fewer))

-- the same from a place on
module _ (xs : List ℕ) (from : ℕ) where
  pub no_feed_after : IsFirstByte (is_byte 10) (take (length xs - from) (drop from xs)) None → prefix_len in_line (drop from xs) ≡ length (drop from xs)
  no_feed_after none =
      let rest = tail_all xs from in
      sym (ap (prefix_len in_line) rest) ∙ no_line_feed (take (length xs - from) (drop from xs)) none ∙ ap length rest

  pub feed_after : (len : ℕ) → IsFirstByte (is_byte 10) (take (length xs - from) (drop from xs)) (Some len) → prefix_len in_line (drop from xs) ≡ len
  feed_after len at = sym (ap (prefix_len in_line) (tail_all xs from)) ∙ line_feed_at (take (length xs - from) (drop from xs)) len at

  pub feed_within : (len : ℕ) → IsFirstByte (is_byte 10) (take (length xs - from) (drop from xs)) (Some len) → from + len < length xs
  feed_within len (first, here) =
      let within = first.high in
      let same = ap length (tail_all xs from) in
      let fewer = length-drop from xs in
      omega (arith, within, same, fewer)

-- there is a line
pub record IsAny (ls : List (List ℕ)) : Type 0 where
  pub first : List ℕ
  pub others : List (List ℕ)
  pub is : ls ≡ first ∷ others

front_any : (c : ℕ) (ls : List (List ℕ)) → IsAny (in_front c ls)
front_any c [] = record { first = c ∷ []; others = []; is = refl }
front_any c (l ∷ ls) = record { first = c ∷ l; others = ls; is = refl }

any_by_test : (c : ℕ) (cs : List ℕ) (b : Bool) → IsAny (cond b ([] ∷ lines cs) (in_front c (lines cs)))
any_by_test c cs true = record { first = []; others = lines cs; is = refl }
any_by_test c cs false = front_any c (lines cs)

pub lines_any : (xs : List ℕ) → IsAny (lines xs)
lines_any [] = record { first = []; others = []; is = refl }
lines_any (c ∷ cs) = any_by_test c cs (is_line_feed c)

-- one line, and then the others
pub line_and_more : (last : Above → List ℕ → List ℕ) (a : Above) (line : List ℕ) (xs : List ℕ) → each_line last a (line ∷ lines xs) ≡ own_line a line ++ each_line last (below a (comment line)) (lines xs)
line_and_more last a line xs =
    let any = lines_any xs in
    ap (λ ls. each_line last a (line ∷ ls)) any.is ∙ ap (λ ls. own_line a line ++ each_line last (below a (comment line)) ls) (sym any.is)

-- ---- a loop over the lines

module _ (last : Above → List ℕ → List ℕ) (a : Above) (text whole rest : List ℕ) where
  pub lines_step : (len : ℕ) (next : Above) (more : List ℕ) → len ≡ prefix_len in_line rest → len < length rest → more ≡ text ++ own_line a (take len rest) → next ≡ below a (comment (take len rest))
      → text ++ each_line last a (lines rest) ≡ whole → more ++ each_line last next (lines (drop (len + 1) rest)) ≡ whole
  lines_step len next more is some added goes so_far =
      let line = take len rest in
      let past = lines (drop (len + 1) rest) in
      let split : each_line last a (lines rest) ≡ own_line a line ++ each_line last (below a (comment line)) past = ap (each_line last a) (cut_at rest len is some) ∙ line_and_more last a line (drop (len + 1) rest) in
      ap (λ xs. xs ++ each_line last next past) added
      ∙ ap (λ b. (text ++ own_line a line) ++ each_line last b past) goes
      ∙ append_assoc text (own_line a line) (each_line last (below a (comment line)) past)
      ∙ ap (λ xs. text ++ xs) (sym split)
      ∙ so_far

  pub lines_end : prefix_len in_line rest ≡ length rest → text ++ each_line last a (lines rest) ≡ whole → text ++ last a rest ≡ whole
  lines_end one so_far = ap (λ ls. text ++ each_line last a ls) (sym (one_line rest one)) ∙ so_far

-- ---- gaps

pub one_spaced : (spaced begins : Bool) (gap : List ℕ) → prefix_len in_line gap ≡ length gap → inner_gap spaced begins gap ≡ cond spaced (32 ∷ []) []
one_spaced spaced begins gap one = ap (inner_lines spaced begins) (one_line gap one)

pub several : (spaced begins : Bool) (gap : List ℕ) (n : ℕ) → n ≡ prefix_len in_line gap → n < length gap → inner_gap spaced begins gap ≡ line_end (take n gap) ++ each_line (before_token begins) above.Line (lines (drop (n + 1) gap))
several spaced begins gap n is some =
    let any = lines_any (drop (n + 1) gap) in
    ap (inner_lines spaced begins) (cut_at gap n is some ∙ ap (λ ls. take n gap ∷ ls) any.is)
    ∙ ap (λ ls. line_end (take n gap) ++ each_line (before_token begins) above.Line ls) (sym any.is)

pub last_one : (gap : List ℕ) → prefix_len in_line gap ≡ length gap → last_gap gap ≡ line_end gap
last_one gap one = ap last_lines (one_line gap one) ∙ append-nil (line_end gap)

pub last_several : (gap : List ℕ) (n : ℕ) → n ≡ prefix_len in_line gap → n < length gap → last_gap gap ≡ line_end (take n gap) ++ each_line own_line above.Line (lines (drop (n + 1) gap))
last_several gap n is some = ap last_lines (cut_at gap n is some)
