-- A source is cut at its first line that is `---` alone.
use Rattle.std.proofs.Common.{◌≡◌, ◌⊎◌, ℕ, suc, zero, ◌≤◌, ◌==◌, ◌||◌, Bool, true, false, cond, if◌then◌else◌, List, [], ◌∷◌, ◌++◌, length, codes, map, refl, sym, ap, subst, ◌∙◌, inl, inr, arith, append_assoc, length-append, ne_eqb, eq-eqb, eqb-true}
use Rattle.std.specs.List.{onto_first}
use Rattle.std.specs.Str.{bytes_eq}
use Rattle.std.proofs.lemmas.Slice.Eq.{bytes_eq-Decides}
use Rattle.um_lines.specs.Sources.{lines_between, is_mark, is_ended_mark, text_in, calls_in, whole_lines, without_return, call_lines, program_in, calls_of}
use Rattle.um_lines.specs.Laws.{AreCut, SourceIsCut}
use Rattle.um_lines.proofs.Lines.{text_next, calls_next}

-- ---- bytes without a line feed

abbrev NoFeed : List ℕ → Type 0
NoFeed [] = Unit {0}
NoFeed (b ∷ bytes) = (b ≡ 10 → ⊥) × NoFeed bytes

line_alone : (line : List ℕ) → NoFeed line → lines_between line ≡ line ∷ []
line_alone [] none = refl
line_alone (b ∷ line) (other, none) = ap (λ t. cond t ([] ∷ lines_between line) (onto_first b (lines_between line))) (ne_eqb b 10 other) ∙ ap (onto_first b) (line_alone line none)

line_first : (line after : List ℕ) → NoFeed line → lines_between (line ++ 10 ∷ after) ≡ line ∷ lines_between after
line_first [] after none = refl
line_first (b ∷ line) after (other, none) =
    ap (λ t. cond t ([] ∷ lines_between (line ++ 10 ∷ after)) (onto_first b (lines_between (line ++ 10 ∷ after)))) (ne_eqb b 10 other)
    ∙ ap (onto_first b) (line_first line after none)

-- the first line of some bytes, and what comes after it
pub record Begins (bytes line after : List ℕ) : Type 0 where
  pub whole : bytes ≡ line ++ 10 ∷ after
  pub none : NoFeed line

first_line : (bytes : List ℕ) → NoFeed bytes ⊎ ((line : List ℕ) × (after : List ℕ) × Begins bytes line after)
first_line [] = inl tt
first_line (b ∷ bytes) = by (b == 10) refl (first_line bytes)
  where
    by : (t : Bool) → b == 10 ≡ t → NoFeed bytes ⊎ ((line : List ℕ) × (after : List ℕ) × Begins bytes line after)
        → NoFeed (b ∷ bytes) ⊎ ((line : List ℕ) × (after : List ℕ) × Begins (b ∷ bytes) line after)
    by true is rest = inr ([], bytes, record { whole = ap (λ x. x ∷ bytes) (eqb-true b 10 is); none = tt })
    by false is (inl none) = inl ((λ same. cc (sym is ∙ eq-eqb b 10 same)), none)
    by false is (inr (line, after, begins)) = inr (b ∷ line, after, record { whole = ap (λ xs. b ∷ xs) begins.whole; none = ((λ same. cc (sym is ∙ eq-eqb b 10 same)), begins.none) })

-- a first line is one
one_first : (line other after more : List ℕ) → NoFeed line → NoFeed other → line ++ 10 ∷ after ≡ other ++ 10 ∷ more → (line ≡ other) × (after ≡ more)
one_first [] [] after more none also is = (refl, cc is)
one_first [] (b ∷ other) after more none also is = absurd (also.0 (sym (cc is)))
one_first (b ∷ line) [] after more none also is = absurd (none.0 (cc is))
one_first (b ∷ line) (d ∷ other) after more none also is =
    let head : b ≡ d = cc is in
    let tail : line ++ 10 ∷ after ≡ other ++ 10 ∷ more = cc is in
    let same = one_first line other after more none.1 also.1 tail in
    ((λ i. head i ∷ same.0 i), same.1)

-- a line feed is none of the bytes
no_feed_in : (front back : List ℕ) → NoFeed (front ++ 10 ∷ back) → ⊥
no_feed_in [] back none = none.0 refl
no_feed_in (b ∷ front) back none = no_feed_in front back none.1

-- the rest of a text that ends with a line feed is empty or ends with one
rest_ends : (line rest front : List ℕ) → line ++ 10 ∷ rest ≡ front ++ 10 ∷ [] → (rest ≡ []) ⊎ ((part : List ℕ) × (rest ≡ part ++ 10 ∷ []))
rest_ends [] rest [] is = inl (cc is)
rest_ends [] rest (b ∷ front) is = inr (front, cc is)
rest_ends (b ∷ []) rest [] is = absurd (cc is)
rest_ends (b ∷ d ∷ line) rest [] is = absurd (cc is)
rest_ends (b ∷ line) rest (d ∷ front) is = rest_ends line rest front (cc is)

-- ---- lines that are `---` alone

mark_none : NoFeed (codes "---")
mark_none = ((λ e. cc e), ((λ e. cc e), ((λ e. cc e), tt)))

returned_none : NoFeed (codes "---\r")
returned_none = ((λ e. cc e), ((λ e. cc e), ((λ e. cc e), ((λ e. cc e), tt))))

same_bytes : (xs ys : List ℕ) → bytes_eq xs ys ≡ true → xs ≡ ys
same_bytes xs ys e = (bytes_eq-Decides xs ys).0 e

-- the text, and what stands after it
apart : (text end calls : List ℕ) → text ++ codes "---" ++ end ++ calls ≡ text ++ (codes "---" ++ end ++ calls)
apart text end calls = ap (λ (s : List ℕ). s ++ calls) (append_assoc text (codes "---") end) ∙ append_assoc text (codes "---" ++ end) calls

-- ---- a cut after the first line, if that isn't the mark
module _ (line after : List ℕ) (none : NoFeed line) (other : is_ended_mark line ≡ false) where
  -- the first line isn't the mark
  no_mark : (bytes : List ℕ) → NoFeed bytes → is_ended_mark bytes ≡ true → (more : List ℕ) → line ++ 10 ∷ after ≡ bytes ++ 10 ∷ more → ⊥
  no_mark bytes lacks mark more is = let same = (one_first line bytes after more none lacks is).0 in cc (sym other ∙ ap is_ended_mark same ∙ mark)

  pub shifted : (text calls : List ℕ) → AreCut (line ++ 10 ∷ after) text calls → (rest : List ℕ) × (text ≡ line ++ 10 ∷ rest) × AreCut after rest calls
  shifted text calls cut = by cut.begins
    where
      at_start : text ≡ [] → (end : List ℕ) → line ++ 10 ∷ after ≡ codes "---" ++ end ++ calls → (end ≡ codes "\n") ⊎ ((end ≡ codes "\r\n") ⊎ ((end ≡ []) × (calls ≡ []))) → ⊥
      at_start empty end whole (inl feed) = no_mark (codes "---") mark_none refl calls (whole ∙ ap (λ (e : List ℕ). codes "---" ++ e ++ calls) feed)
      at_start empty end whole (inr (inl feed)) = no_mark (codes "---\r") returned_none refl calls (whole ∙ ap (λ (e : List ℕ). codes "---" ++ e ++ calls) feed)
      at_start empty end whole (inr (inr (stop, last))) = no_feed_in line after (subst NoFeed (sym (whole ∙ (λ i. codes "---" ++ stop i ++ last i))) mark_none)

      within : (front : List ℕ) → text ≡ front ++ 10 ∷ [] → NoFeed text ⊎ ((first : List ℕ) × (rest : List ℕ) × Begins text first rest) → (rest : List ℕ) × (text ≡ line ++ 10 ∷ rest) × AreCut after rest calls
      within front is (inl lacks) = absurd (no_feed_in front [] (subst NoFeed is lacks))
      within front is (inr (first, rest, begins)) =
          let tail = codes "---" ++ cut.end ++ calls in
          let whole : line ++ 10 ∷ after ≡ first ++ 10 ∷ (rest ++ tail) = cut.whole ∙ apart text cut.end calls ∙ ap (λ (s : List ℕ). s ++ tail) begins.whole ∙ append_assoc first (10 ∷ rest) tail in
          let same = one_first line first after (rest ++ tail) none begins.none whole in (
            rest,
            begins.whole ∙ ap (λ (s : List ℕ). s ++ 10 ∷ rest) (sym same.0),
            record {
              end = cut.end;
              whole = same.1 ∙ sym (apart rest cut.end calls);
              begins = rest_ends first rest front (sym begins.whole ∙ is);
              ends = cut.ends;
            },
          )

      by : (text ≡ []) ⊎ ((front : List ℕ) × (text ≡ front ++ codes "\n")) → (rest : List ℕ) × (text ≡ line ++ 10 ∷ rest) × AreCut after rest calls
      by (inl empty) = absurd (at_start empty cut.end (cut.whole ∙ ap (λ (s : List ℕ). s ++ codes "---" ++ cut.end ++ calls) empty) cut.ends)
      by (inr (front, is)) = within front is (first_line text)

  -- and one before it
  pub unshifted : (rest calls : List ℕ) → AreCut after rest calls → AreCut (line ++ 10 ∷ after) (line ++ 10 ∷ rest) calls
  unshifted rest calls cut = record {
    end = cut.end;
    whole =
        ap (λ (s : List ℕ). line ++ 10 ∷ s) (cut.whole ∙ apart rest cut.end calls)
        ∙ sym (append_assoc line (10 ∷ rest) (codes "---" ++ cut.end ++ calls)) ∙ sym (apart (line ++ 10 ∷ rest) cut.end calls);
    begins = by cut.begins;
    ends = cut.ends;
  }
    where
      by : (rest ≡ []) ⊎ ((front : List ℕ) × (rest ≡ front ++ codes "\n")) → (line ++ 10 ∷ rest ≡ []) ⊎ ((front : List ℕ) × (line ++ 10 ∷ rest ≡ front ++ codes "\n"))
      by (inl empty) = inr (line, ap (λ (s : List ℕ). line ++ 10 ∷ s) empty)
      by (inr (front, is)) = inr (line ++ 10 ∷ front, ap (λ (s : List ℕ). line ++ 10 ∷ s) is ∙ sym (append_assoc line (10 ∷ front) (codes "\n")))

-- ---- the law, line by line

abbrev IsCutAt : List ℕ → Type 0
IsCutAt bytes =
    ((calls : List ℕ) × AreCut bytes (program_in bytes) calls × (calls_of bytes ≡ call_lines calls)
    × ((text other : List ℕ) → AreCut bytes text other → length (program_in bytes) ≤ length text))
    ⊎ ((program_in bytes ≡ bytes) × (calls_of bytes ≡ []) × ((text other : List ℕ) → AreCut bytes text other → ⊥))

-- the first line is the mark
at_mark : (bytes end calls : List ℕ) → bytes ≡ codes "---" ++ end ++ calls → program_in bytes ≡ [] → calls_of bytes ≡ call_lines calls → (end ≡ codes "\n") ⊎ ((end ≡ codes "\r\n") ⊎ ((end ≡ []) × (calls ≡ []))) → IsCutAt bytes
at_mark bytes end calls whole empty called ends = inl (
  calls,
  record {
    end = end;
    whole = whole ∙ ap (λ (s : List ℕ). s ++ codes "---" ++ end ++ calls) (sym empty);
    begins = inl empty;
    ends = ends;
  },
  called,
  (λ text other cut. let none = ap length empty in omega (arith, none)),
)

-- a last line
module _ (bytes : List ℕ) (none : NoFeed bytes) where
  last_text : program_in bytes ≡ (if is_mark bytes then [] else bytes)
  last_text = ap text_in (line_alone bytes none)

  last_calls : calls_of bytes ≡ []
  last_calls = ap (λ (ls : List (List ℕ)). map without_return (whole_lines (calls_in ls))) (line_alone bytes none)

  -- a cut of it is at its start
  cut_at_start : (text calls : List ℕ) → AreCut bytes text calls → bytes ≡ codes "---"
  cut_at_start text calls cut = by cut.begins cut.ends
    where
      by : (text ≡ []) ⊎ ((front : List ℕ) × (text ≡ front ++ codes "\n")) → (cut.end ≡ codes "\n") ⊎ ((cut.end ≡ codes "\r\n") ⊎ ((cut.end ≡ []) × (calls ≡ []))) → bytes ≡ codes "---"
      by (inl empty) (inl feed) = absurd (no_feed_in (codes "---") calls (subst NoFeed (cut.whole ∙ (λ i. empty i ++ codes "---" ++ feed i ++ calls)) none))
      by (inl empty) (inr (inl feed)) = absurd (no_feed_in (codes "---\r") calls (subst NoFeed (cut.whole ∙ (λ i. empty i ++ codes "---" ++ feed i ++ calls)) none))
      by (inl empty) (inr (inr (stop, last))) = cut.whole ∙ (λ i. empty i ++ codes "---" ++ stop i ++ last i)
      by (inr (front, is)) ends = absurd (no_feed_in front (codes "---" ++ cut.end ++ calls) (subst NoFeed (cut.whole ∙ apart text cut.end calls ∙ ap (λ (s : List ℕ). s ++ (codes "---" ++ cut.end ++ calls)) is ∙ append_assoc front (codes "\n") (codes "---" ++ cut.end ++ calls)) none))

  last_cut : IsCutAt bytes
  last_cut = by (is_mark bytes) refl
    where
      by : (t : Bool) → is_mark bytes ≡ t → IsCutAt bytes
      by true mark = at_mark bytes [] [] (same_bytes bytes (codes "---") mark) (last_text ∙ ap (λ b. if b then [] else bytes) mark) last_calls (inr (inr (refl, refl)))
      by false other = inr (last_text ∙ ap (λ b. if b then [] else bytes) other, last_calls, (λ text calls cut. cc (sym other ∙ ap is_mark (cut_at_start text calls cut))))

-- a line, and others after it
module _ (line after : List ℕ) (none : NoFeed line) where
  abbrev bytes : List ℕ
  bytes = line ++ 10 ∷ after

  first_text : program_in bytes ≡ (if is_ended_mark line then [] else line ++ 10 ∷ program_in after)
  first_text = ap text_in (line_first line after none) ∙ text_next line after

  first_calls : calls_of bytes ≡ map without_return (whole_lines (if is_ended_mark line then lines_between after else calls_in (lines_between after)))
  first_calls = ap (λ (ls : List (List ℕ)). map without_return (whole_lines ls)) (ap calls_in (line_first line after none) ∙ calls_next line after)

  marked_cut : is_ended_mark line ≡ true → IsCutAt bytes
  marked_cut mark = by (is_mark line) refl
    where
      text : program_in bytes ≡ []
      text = first_text ∙ ap (λ b. if b then [] else line ++ 10 ∷ program_in after) mark

      calls : calls_of bytes ≡ call_lines after
      calls = first_calls ∙ ap (λ b. map without_return (whole_lines (if b then lines_between after else calls_in (lines_between after)))) mark

      by : (t : Bool) → is_mark line ≡ t → IsCutAt bytes
      by true plain = at_mark bytes (codes "\n") after (ap (λ (s : List ℕ). s ++ 10 ∷ after) (same_bytes line (codes "---") plain)) text calls (inl refl)
      by false other =
          let returned : bytes_eq line (codes "---\r") ≡ true = sym (ap (λ b. b || bytes_eq line (codes "---\r")) other) ∙ mark in
          at_mark bytes (codes "\r\n") after (ap (λ (s : List ℕ). s ++ 10 ∷ after) (same_bytes line (codes "---\r") returned)) text calls (inr (inl refl))

  module _ (other : is_ended_mark line ≡ false) where
    passed_text : program_in bytes ≡ line ++ 10 ∷ program_in after
    passed_text = first_text ∙ ap (λ b. if b then [] else line ++ 10 ∷ program_in after) other

    passed_calls : calls_of bytes ≡ calls_of after
    passed_calls = first_calls ∙ ap (λ b. map without_return (whole_lines (if b then lines_between after else calls_in (lines_between after)))) other

    passed_cut : IsCutAt after → IsCutAt bytes
    passed_cut (inl (calls, cut, called, least)) = inl (
      calls,
      subst (λ (s : List ℕ). AreCut bytes s calls) (sym passed_text) (unshifted line after none other (program_in after) calls cut),
      passed_calls ∙ called,
      (λ text more another.
          let (rest, is, further) = shifted line after none other text more another in
          let less = least rest more further in
          let here = ap length passed_text ∙ length-append line (10 ∷ program_in after) in
          let there = ap length is ∙ length-append line (10 ∷ rest) in
          omega (arith, less, here, there)),
    )
    passed_cut (inr (whole, called, uncut)) = inr (
      passed_text ∙ ap (λ (s : List ℕ). line ++ 10 ∷ s) whole,
      passed_calls ∙ called,
      (λ text more another. let (rest, is, further) = shifted line after none other text more another in uncut rest more further),
    )

  line_cut : IsCutAt after → IsCutAt bytes
  line_cut rest = by (is_ended_mark line) refl
    where
      by : (t : Bool) → is_ended_mark line ≡ t → IsCutAt bytes
      by true mark = marked_cut mark
      by false other = passed_cut other rest

by_first : (n : ℕ) (bytes : List ℕ) → length bytes ≤ suc n → NoFeed bytes ⊎ ((line : List ℕ) × (after : List ℕ) × Begins bytes line after) → ((after : List ℕ) → length after ≤ n → IsCutAt after) → IsCutAt bytes
by_first n bytes few (inl none) shorter = last_cut bytes none
by_first n bytes few (inr (line, after, begins)) shorter =
    let size = ap length begins.whole ∙ length-append line (10 ∷ after) in
    subst IsCutAt (sym begins.whole) (line_cut line after begins.none (shorter after (omega (arith, few, size))))

cut_within : (n : ℕ) (bytes : List ℕ) → length bytes ≤ n → IsCutAt bytes
cut_within zero [] few = last_cut [] tt
cut_within zero (b ∷ bytes) few = absurd (omega (arith, few))
cut_within (suc n) bytes few = by_first n bytes few (first_line bytes) (cut_within n)

pub source_is_cut : SourceIsCut
source_is_cut bytes = cut_within (length bytes) bytes (omega arith)
