-- Blank lines at the front of a gap, and the white space at the front of the line after them.
use Rattle.std.proofs.Common.{◌≡◌, refl, sym, ap, ◌∙◌, ℕ, zero, suc, ◌+◌, ◌<◌, ◌≤◌, Bool, true, false, cond, List, [], ◌∷◌, ◌++◌, length, take, drop, get_or, arith}
use Rattle.std.specs.List.{prefix_len}
use Rattle.std.proofs.lemmas.List.Sums.{prefix_len-le-length, prefix_len_passes}
use Rattle.um_syntax.specs.Gap.{is_space}
use Rattle.um_syntax.specs.LineColumn.{is_line_feed}
use Rattle.um_tidy.specs.declared.gap.Above.{Above}
use Rattle.um_tidy.specs.declared.gap.Above.TheVariants as above
use Rattle.um_tidy.specs.Gaps.{in_front, lines, comment, past_blank, comment_line, below, each_line}
use Rattle.um_tidy.proofs.Lines.{line_and_more}
use Rattle.um_tidy.proofs.GapLines.{comment_space}

-- ---- how many pass, of a part of a list

module _ (p : ℕ → Bool) where
  one_passes : (x : ℕ) (xs : List ℕ) → p x ≡ true → prefix_len p (x ∷ xs) ≡ 1 + prefix_len p xs
  one_passes x xs e = ap (λ b. cond b (1 + prefix_len p xs) 0) e

  none_passes : (x : ℕ) (xs : List ℕ) → p x ≡ false → prefix_len p (x ∷ xs) ≡ 0
  none_passes x xs e = ap (λ b. cond b (1 + prefix_len p xs) 0) e

  dropped_by_test : (x : ℕ) (xs : List ℕ) (k : ℕ) (b : Bool) → p x ≡ b → suc k ≤ prefix_len p (x ∷ xs) → (k ≤ prefix_len p xs → k + prefix_len p (drop k xs) ≡ prefix_len p xs) → suc k + prefix_len p (drop k xs) ≡ prefix_len p (x ∷ xs)
  dropped_by_test x xs k true e some more = let one = one_passes x xs e in let rest = more (omega (arith, one, some)) in omega (arith, one, rest)
  dropped_by_test x xs k false e some more = let none = none_passes x xs e in absurd (omega (arith, none, some))

  pub prefix_dropped : (xs : List ℕ) (k : ℕ) → k ≤ prefix_len p xs → k + prefix_len p (drop k xs) ≡ prefix_len p xs
  prefix_dropped xs zero some = omega arith
  prefix_dropped [] (suc k) some = absurd (omega (arith, some))
  prefix_dropped (x ∷ xs) (suc k) some = dropped_by_test x xs k (p x) refl some (prefix_dropped xs k)

  taken_by_test : (x : ℕ) (xs : List ℕ) (n : ℕ) (b : Bool) → p x ≡ b → prefix_len p (x ∷ xs) ≤ suc n → (prefix_len p xs ≤ n → prefix_len p (take n xs) ≡ prefix_len p xs) → prefix_len p (x ∷ take n xs) ≡ prefix_len p (x ∷ xs)
  taken_by_test x xs n true e few more =
      let one = one_passes x xs e in let less = one_passes x (take n xs) e in let rest = more (omega (arith, one, few)) in
      omega (arith, one, less, rest)
  taken_by_test x xs n false e few more = none_passes x (take n xs) e ∙ sym (none_passes x xs e)

  pub prefix_taken : (xs : List ℕ) (n : ℕ) → prefix_len p xs ≤ n → prefix_len p (take n xs) ≡ prefix_len p xs
  prefix_taken [] zero few = refl
  prefix_taken [] (suc n) few = refl
  prefix_taken (x ∷ xs) zero few = omega (arith, few)
  prefix_taken (x ∷ xs) (suc n) few = taken_by_test x xs n (p x) refl few (prefix_taken xs n)

  pub prefix_past : (xs : List ℕ) (n : ℕ) → n ≤ length xs → ((k : ℕ) → k < n → p (get_or xs k 0) ≡ true) → prefix_len p xs ≡ n + prefix_len p (drop n xs)
  prefix_past xs zero within passes = omega arith
  prefix_past [] (suc n) within passes = absurd (omega (arith, within))
  prefix_past (x ∷ xs) (suc n) within passes =
      let one = one_passes x xs (passes 0 (omega arith)) in
      let rest = prefix_past xs n (omega (arith, within)) (λ k less. passes (suc k) (omega (arith, less))) in
      omega (arith, one, rest)

-- ---- blank lines

past_twice : (a : Above) → past_blank (past_blank a) ≡ past_blank a
past_twice above.Nothing = refl
past_twice above.Line = refl
past_twice above.Blank = refl

pub feed_first : (c : ℕ) (cs : List ℕ) → is_line_feed c ≡ true → lines (c ∷ cs) ≡ [] ∷ lines cs
feed_first c cs e = ap (λ b. cond b ([] ∷ lines cs) (in_front c (lines cs))) e

module _ (last : Above → List ℕ → List ℕ) where
  -- a blank line, and what is left after the last of those that follow it
  record Passed (xs rest : List ℕ) : Type 0 where
    pub line : List ℕ
    pub others : List ℕ
    pub is : lines xs ≡ line ∷ lines others
    pub blank : comment line ≡ []
    pub goes : (a : Above) → each_line last (past_blank a) (lines others) ≡ each_line last (past_blank a) (lines rest)

  passed_on : (a : Above) (xs rest : List ℕ) → Passed xs rest → each_line last a (lines xs) ≡ each_line last (past_blank a) (lines rest)
  passed_on a xs rest p =
      ap (each_line last a) p.is
      ∙ line_and_more last a p.line p.others
      ∙ ap (λ text. comment_line a p.line text ++ each_line last (below a text) (lines p.others)) p.blank
      ∙ p.goes a

  more_by_test : (c : ℕ) (cs rest : List ℕ) (b : Bool) → is_line_feed c ≡ b → is_space c ≡ true → Passed cs rest → Passed (c ∷ cs) rest
  more_by_test c cs rest true e space p = record {
    line = [];
    others = cs;
    is = feed_first c cs e;
    blank = refl;
    goes = λ a. passed_on (past_blank a) cs rest p ∙ ap (λ b. each_line last b (lines rest)) (past_twice a);
  }
  more_by_test c cs rest false e space p = record {
    line = c ∷ p.line;
    others = p.others;
    is = ap (λ b. cond b ([] ∷ lines cs) (in_front c (lines cs))) e ∙ ap (in_front c) p.is;
    blank = comment_space c p.line space ∙ p.blank;
    goes = p.goes;
  }

  passed : (c : ℕ) (cs : List ℕ) (n : ℕ) → n < prefix_len is_space (c ∷ cs) → is_line_feed (get_or (c ∷ cs) n 0) ≡ true → Passed (c ∷ cs) (drop (suc n) (c ∷ cs))
  passed c cs zero some here = record { line = []; others = cs; is = feed_first c cs here; blank = refl; goes = λ a. refl }
  passed c [] (suc n) some here = let few = prefix_len-le-length is_space (c ∷ []) in absurd (omega (arith, some, few))
  passed c (d ∷ ds) (suc n) some here =
      let space : is_space c ≡ true = prefix_len_passes is_space (c ∷ d ∷ ds) 0 0 (omega (arith, some)) in
      let one = one_passes is_space c (d ∷ ds) space in
      more_by_test c (d ∷ ds) (drop (suc n) (d ∷ ds)) (is_line_feed c) refl space (passed d ds n (omega (arith, one, some)) here)

  -- white space up to a line feed is blank lines
  pub past_feed : (a : Above) (xs : List ℕ) (n : ℕ) → n < prefix_len is_space xs → is_line_feed (get_or xs n 0) ≡ true → each_line last a (lines xs) ≡ each_line last (past_blank a) (lines (drop (n + 1) xs))
  past_feed a [] n some here = absurd (omega (arith, some))
  past_feed a (c ∷ cs) n some here =
      let next : suc n ≡ n + 1 = omega arith in
      passed_on a (c ∷ cs) (drop (suc n) (c ∷ cs)) (passed c cs n some here) ∙ ap (λ k. each_line last (past_blank a) (lines (drop k (c ∷ cs)))) next
