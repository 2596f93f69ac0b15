-- Lines one after another: where a source is cut, and what is left.
use Rattle.std.proofs.Common.{◌≡◌, ◌≢◌, refl, sym, ap, ◌∙◌, subst, ℕ, ◌+◌, ◌-◌, ◌<◌, ◌≤◌, ◌==◌, Bool, true, false, cond, if◌then◌else◌, List, [], ◌∷◌, ◌++◌, length, take, drop, get_or, map, append_assoc, length-append, arith, ne_eqb, eq-eqb, eqb-true, Some, None}
use Rattle.std.specs.List.{All, onto_first}
use Rattle.std.proofs.Math.Seq.{take-add, take-append_seam, drop-append-add}
use Rattle.std.proofs.lemmas.Grind.{common_steps}
use Rattle.std.proofs.lemmas.List.{take-append-drop, append-nil, length-take-le, length-drop, drop_more, drop-drop, get_or-take}
use Rattle.std.proofs.lemmas.List.Splits.{slice_split_none, slice_split_at}
use Rattle.memchr.specs.Find.{IsFirstByte, is_byte}
use Rattle.um_lines.specs.Sources.{lines_between, is_mark, is_ended_mark, text_in, calls_in, whole_lines, without_return, call_lines, words_in}

-- ---- a list of lines has a first one

pub lines_some : (bytes : List ℕ) → (line : List ℕ) × (more : List (List ℕ)) × (lines_between bytes ≡ line ∷ more)
lines_some [] = ([], [], refl)
lines_some (b ∷ bytes) = by (b == 10) (lines_some bytes) where
  by : (t : Bool) → (line : List ℕ) × (more : List (List ℕ)) × (lines_between bytes ≡ line ∷ more)
      → (line : List ℕ) × (more : List (List ℕ)) × (cond t ([] ∷ lines_between bytes) (onto_first b (lines_between bytes)) ≡ line ∷ more)
  by true h = ([], lines_between bytes, refl)
  by false (line, more, is) = (b ∷ line, more, ap (onto_first b) is)

-- what comes of a line, by the lines after it
module _ (line after : List ℕ) where
  pub text_next : text_in (line ∷ lines_between after) ≡ (if is_ended_mark line then [] else line ++ 10 ∷ text_in (lines_between after))
  text_next =
      let (next, more, is) = lines_some after in
      subst (λ (ls : List (List ℕ)). text_in (line ∷ ls) ≡ (if is_ended_mark line then [] else line ++ 10 ∷ text_in ls)) (sym is) refl

  pub calls_next : calls_in (line ∷ lines_between after) ≡ (if is_ended_mark line then lines_between after else calls_in (lines_between after))
  calls_next =
      let (next, more, is) = lines_some after in
      subst (λ (ls : List (List ℕ)). calls_in (line ∷ ls) ≡ (if is_ended_mark line then ls else calls_in ls)) (sym is) refl

  pub whole_next : whole_lines (line ∷ lines_between after) ≡ line ∷ whole_lines (lines_between after)
  whole_next =
      let (next, more, is) = lines_some after in
      subst (λ (ls : List (List ℕ)). whole_lines (line ∷ ls) ≡ line ∷ whole_lines ls) (sym is) refl

-- ---- the first line feed

abbrev Lacks : ℕ → List ℕ → Type 0
Lacks mark bytes = (i : ℕ) → i < length bytes → get_or bytes i 0 ≢ mark

all_other : (mark : ℕ) (bytes : List ℕ) → Lacks mark bytes → All (λ b. b == mark ≡ false) bytes
all_other mark bytes lacks = λ k d less. let other = ne_eqb _ mark (lacks k less) in grind (arith, common_steps)

pub one_line : (bytes : List ℕ) → IsFirstByte (is_byte 10) bytes None → lines_between bytes ≡ bytes ∷ []
one_line bytes none =
    slice_split_none (λ b. b == 10) bytes (all_other 10 bytes (λ i less e. none i (omega arith) less (eq-eqb (get_or bytes i 0) 10 e)))

-- a line, and what is after its line feed
pub record IsLine (bytes line after : List ℕ) : Type 0 where
  pub lines : lines_between bytes ≡ line ∷ lines_between after
  pub whole : bytes ≡ line ++ 10 ∷ after
  pub size : length line + 1 + length after ≡ length bytes

pub line_at : (bytes : List ℕ) (at : ℕ) → IsFirstByte (is_byte 10) bytes (Some at) → IsLine bytes (take at bytes) (drop (at + 1) bytes)
line_at bytes at (first, passes) =
    let within = first.high in
    let here : get_or bytes at 0 ≡ 10 = eqb-true (get_or bytes at 0) 10 passes in
    let front : length (take at bytes) ≡ at = length-take-le at bytes (omega (arith, within)) in
    let back : length (drop (at + 1) bytes) ≡ length bytes - (at + 1) = length-drop (at + 1) bytes in
    let whole : bytes ≡ take at bytes ++ 10 ∷ drop (at + 1) bytes =
    sym (take-append-drop at bytes)
    ∙ ap (λ (ys : List ℕ). take at bytes ++ ys) (drop_more bytes at 0 within ∙ ap (λ (b : ℕ). b ∷ drop (at + 1) bytes) here) in
    let lacks : Lacks 10 (take at bytes) =
    λ i less e.
    let before : i < at = omega (arith, less, front) in
    first.before i (omega arith) before (eq-eqb (get_or bytes i 0) 10 (sym (get_or-take at bytes i 0 before) ∙ e)) in
    record {
      lines = ap lines_between whole ∙ slice_split_at (λ b. b == 10) (take at bytes) 10 (drop (at + 1) bytes) (all_other 10 (take at bytes) lacks) refl;
      whole = whole;
      size = omega (arith, front, back, within);
    }

-- ---- where a source is cut: the text so far, and what is left

pub record IsAt (bytes rest : List ℕ) : Type 0 where
  pub size : length rest ≤ length bytes
  pub text : text_in (lines_between bytes) ≡ take (length bytes - length rest) bytes ++ text_in (lines_between rest)
  pub calls : calls_in (lines_between bytes) ≡ calls_in (lines_between rest)
  pub left : drop (length bytes - length rest) bytes ≡ rest

pub begun : (bytes : List ℕ) → IsAt bytes bytes
begun bytes =
    let none : length bytes - length bytes ≡ 0 = omega arith in
    record {
      size = omega arith;
      text = ap (λ n. take n bytes ++ text_in (lines_between bytes)) (sym none);
      calls = refl;
      left = ap (λ n. drop n bytes) none;
    }

module _ (bytes rest line after : List ℕ) (at : IsAt bytes rest) (cut : IsLine rest line after) where
  -- a line that is no mark
  pub passed : is_ended_mark line ≡ false → IsAt bytes after
  passed other =
      let size = cut.size in
      let fits = at.size in
      let further : length bytes - length after ≡ length bytes - length rest + (length line + 1) = omega (arith, size, fits) in
      let more : take (length bytes - length rest + (length line + 1)) bytes ≡ take (length bytes - length rest) bytes ++ (line ++ 10 ∷ []) =
      take_further bytes (length bytes - length rest) (line ++ 10 ∷ []) after
      (at.left ∙ cut.whole ∙ sym (append_assoc line (10 ∷ []) after)) (length-append line (10 ∷ [])) in
      record {
        size = omega (arith, size, fits);
        text =
            at.text ∙ ap (λ (ls : List (List ℕ)). take (length bytes - length rest) bytes ++ text_in ls) cut.lines
            ∙ ap (λ (s : List ℕ). take (length bytes - length rest) bytes ++ s)
            (text_next line after ∙ ap (λ b. if b then [] else line ++ 10 ∷ text_in (lines_between after)) other
            ∙ sym (append_assoc line (10 ∷ []) (text_in (lines_between after))))
            ∙ sym (append_assoc (take (length bytes - length rest) bytes) (line ++ 10 ∷ []) (text_in (lines_between after)))
            ∙ ap (λ (s : List ℕ). s ++ text_in (lines_between after)) (sym (ap (λ n. take n bytes) further ∙ more));
        calls =
            at.calls ∙ ap calls_in cut.lines ∙ calls_next line after
            ∙ ap (λ b. if b then lines_between after else calls_in (lines_between after)) other;
        left =
            ap (λ n. drop n bytes) further
            ∙ sym (drop-drop (length line + 1) (length bytes - length rest) bytes)
            ∙ ap (drop (length line + 1)) (at.left ∙ cut.whole)
            ∙ behind line after;
      }
    where
      behind : (line after : List ℕ) → drop (length line + 1) (line ++ 10 ∷ after) ≡ after
      behind line after = drop-append-add line (10 ∷ after) 1

      take_further : (xs : List ℕ) (n : ℕ) (ys zs : List ℕ) → drop n xs ≡ ys ++ zs → length ys ≡ length line + 1
          → take (n + (length line + 1)) xs ≡ take n xs ++ ys
      take_further xs n ys zs is many =
          take-add n (length line + 1) xs
          ∙ ap (λ (s : List ℕ). take n xs ++ s) (ap (λ (s : List ℕ). take (length line + 1) s) is ∙ ap (λ k. take k (ys ++ zs)) (sym many) ∙ take-append_seam ys zs)

  -- a line that is one
  pub marked : is_ended_mark line ≡ true
      → (take (length bytes - length rest) bytes ≡ text_in (lines_between bytes)) × (lines_between after ≡ calls_in (lines_between bytes))
  marked mark = (
    sym (append-nil (take (length bytes - length rest) bytes))
        ∙ sym (at.text ∙ ap (λ (ls : List (List ℕ)). take (length bytes - length rest) bytes ++ text_in ls) cut.lines
        ∙ ap (λ (s : List ℕ). take (length bytes - length rest) bytes ++ s)
        (text_next line after ∙ ap (λ b. if b then [] else line ++ 10 ∷ text_in (lines_between after)) mark)),
    sym (at.calls ∙ ap calls_in cut.lines ∙ calls_next line after
        ∙ ap (λ b. if b then lines_between after else calls_in (lines_between after)) mark),
  )

-- the last line
module _ (bytes rest : List ℕ) (at : IsAt bytes rest) (one : lines_between rest ≡ rest ∷ []) where
  last_text : text_in (lines_between bytes) ≡ take (length bytes - length rest) bytes ++ (if is_mark rest then [] else rest)
  last_text = at.text ∙ ap (λ (ls : List (List ℕ)). take (length bytes - length rest) bytes ++ text_in ls) one

  pub last_marked : is_mark rest ≡ true → take (length bytes - length rest) bytes ≡ text_in (lines_between bytes)
  last_marked mark =
      sym (append-nil (take (length bytes - length rest) bytes))
      ∙ sym (last_text ∙ ap (λ b. take (length bytes - length rest) bytes ++ (if b then [] else rest)) mark)

  pub last_other : is_mark rest ≡ false → bytes ≡ text_in (lines_between bytes)
  last_other other =
      sym (take-append-drop (length bytes - length rest) bytes) ∙ ap (λ (s : List ℕ). take (length bytes - length rest) bytes ++ s) at.left
      ∙ sym (last_text ∙ ap (λ b. take (length bytes - length rest) bytes ++ (if b then [] else rest)) other)

  pub no_calls : calls_in (lines_between bytes) ≡ []
  no_calls = at.calls ∙ ap calls_in one

-- ---- lines of calls

pub next_is : (calls line after : List ℕ) → lines_between calls ≡ line ∷ lines_between after → call_lines calls ≡ without_return line ∷ call_lines after
next_is calls line after is = ap (λ (ls : List (List ℕ)). map without_return (whole_lines ls)) is ∙ ap (map without_return) (whole_next line after)

pub last_is : (calls : List ℕ) → lines_between calls ≡ calls ∷ [] → length calls == 0 ≡ false → call_lines calls ≡ without_return calls ∷ []
last_is calls one some =
    ap (λ (ls : List (List ℕ)). map without_return (whole_lines ls)) one
    ∙ ap (λ b. map without_return (if b then [] else calls ∷ [])) some

-- ---- words

-- a line has one word at least
pub words_some : (line : List ℕ) → (word : List ℕ) × (more : List (List ℕ)) × (words_in line ≡ word ∷ more)
words_some [] = ([], [], refl)
words_some (b ∷ line) = by (b == 9) (words_some line) where
  by : (t : Bool) → (word : List ℕ) × (more : List (List ℕ)) × (words_in line ≡ word ∷ more)
      → (word : List ℕ) × (more : List (List ℕ)) × (cond t ([] ∷ words_in line) (onto_first b (words_in line)) ≡ word ∷ more)
  by true h = ([], words_in line, refl)
  by false (word, more, is) = (b ∷ word, more, ap (onto_first b) is)

pub words_cut : (line : List ℕ) (before : List (List ℕ)) (bytes front back : List ℕ) → words_in line ≡ before ++ words_in bytes
    → bytes ≡ front ++ 9 ∷ back → Lacks 9 front → words_in line ≡ (before ++ front ∷ []) ++ words_in back
words_cut line before bytes front back so_far is lacks =
    so_far ∙ ap (λ s. before ++ s) (ap words_in is ∙ slice_split_at (λ b. b == 9) front 9 back (all_other 9 front lacks) (eq-eqb 9 9 refl))
    ∙ sym (append_assoc before (front ∷ []) (words_in back))

pub words_end : (bytes : List ℕ) → Lacks 9 bytes → words_in bytes ≡ bytes ∷ []
words_end bytes lacks = slice_split_none (λ b. b == 9) bytes (all_other 9 bytes lacks)
