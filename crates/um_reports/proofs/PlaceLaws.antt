-- Each character's encoding has one byte that begins a character, and it is a line feed exactly where the character is one.
use Rattle.std.proofs.Common.{◌≡◌, ℕ, ◌+◌, ◌/◌, ◌<◌, ◌≤◌, Bool, true, false, cond, not, List, [], ◌∷◌, ◌++◌, codes, take, map, reverse, filter, count_by, refl, sym, ap, ◌∙◌, arith, ⊎_elim}
use Rattle.std.proofs.lemmas.Bool.{cases_lt, lt-ltb, le-ltb}
use Rattle.std.proofs.lemmas.Bool.Decides.{nat_tests}
use Rattle.std.proofs.lemmas.List.{map-append, reverse-append}
use Rattle.std.proofs.lemmas.List.Elements.{filter-append}
use Rattle.std.proofs.lemmas.List.Sums.{sum_by-cons}
use Rattle.std.proofs.lemmas.Str.{encodes-chars}
use Rattle.std.specs.List.{prefix_len, suffix_len}
use Rattle.std.specs.Fmt.{decimal}
use Rattle.std.specs.Str.{chars, IsUtf8}
use lib.Utf8.{encode, encodes, next}
use Rattle.um_syntax.specs.LineColumn.{line_after, column_after}
use Rattle.um_reports.specs.Places.{is_line_feed, begins_character, line_of, column_of, place_text}

begins_ascii : (b : ℕ) → b < 128 → begins_character b ≡ true
begins_ascii b l = grind (arith, nat_tests)

begins_lead : (b : ℕ) → 192 ≤ b → begins_character b ≡ true
begins_lead b l = grind (arith, nat_tests)

continues : (bits : ℕ) → begins_character (next bits) ≡ false
continues bits = grind (arith, nat_tests)

no_line_feed : (b : ℕ) → 128 ≤ b → is_line_feed b ≡ false
no_line_feed b l = grind (arith, nat_tests)

not_begun : (b : ℕ) → begins_character b ≡ false → is_line_feed b ≡ false
not_begun b e = grind (arith, nat_tests)

-- of the bytes, the one that begins a character is the line feed that the character may be
record OneBegins (c : ℕ) (bs : List ℕ) : Type 0 where
  lead : ℕ
  begins : filter begins_character bs ≡ lead ∷ []
  same : is_line_feed lead ≡ is_line_feed c

-- a character outside ASCII: its first byte, and those behind it, none of which begins a character
one_lead : (c lead : ℕ) (more : List ℕ) → 128 ≤ c → 192 ≤ lead → filter begins_character more ≡ [] → OneBegins c (lead ∷ more)
one_lead c lead more high first none =
    let m : 128 ≤ lead = omega arith in
    record {
      lead = lead;
      begins = ap (λ t. cond t (lead ∷ filter begins_character more) (filter begins_character more)) (begins_lead lead first) ∙ ap (λ l. lead ∷ l) none;
      same = no_line_feed lead m ∙ sym (no_line_feed c high);
    }

one_more : (bits : ℕ) (more : List ℕ) → filter begins_character more ≡ [] → filter begins_character (next bits ∷ more) ≡ []
one_more bits more none = ap (λ t. cond t (next bits ∷ filter begins_character more) (filter begins_character more)) (continues bits) ∙ none

one_begins : (c : ℕ) → OneBegins c (encode c)
unfolding encode
one_begins c = ⊎_elim one (λ h. ⊎_elim (two h) (λ h2. ⊎_elim (three h2) four (cases_lt c 65536)) (cases_lt c 2048)) (cases_lt c 128)
  where
    last : filter begins_character (next c ∷ []) ≡ []
    last = one_more c [] refl

    last_two : filter begins_character (next (c / 64) ∷ next c ∷ []) ≡ []
    last_two = one_more (c / 64) (next c ∷ []) last

    last_three : filter begins_character (next (c / 4096) ∷ next (c / 64) ∷ next c ∷ []) ≡ []
    last_three = one_more (c / 4096) (next (c / 64) ∷ next c ∷ []) last_two

    one : c < 128 → OneBegins c (encode c)
    one h = rw (lt-ltb c 128 h) record {
      lead = c;
      begins = ap (λ t. cond t (c ∷ []) []) (begins_ascii c h);
      same = refl;
    }

    two : 128 ≤ c → c < 2048 → OneBegins c (encode c)
    two l h = rw (le-ltb c 128 l, lt-ltb c 2048 h) (one_lead c (192 + c / 64) (next c ∷ []) l (omega arith) last)

    three : 2048 ≤ c → c < 65536 → OneBegins c (encode c)
    three l h =
        let m : 128 ≤ c = omega arith in
        rw (le-ltb c 128 m, le-ltb c 2048 l, lt-ltb c 65536 h) (one_lead c (224 + c / 4096) (next (c / 64) ∷ next c ∷ []) m (omega arith) last_two)

    four : 65536 ≤ c → OneBegins c (encode c)
    four l =
        let m : 128 ≤ c = omega arith in
        let n : 2048 ≤ c = omega arith in
        rw (le-ltb c 128 m, le-ltb c 2048 n, le-ltb c 65536 l)
        (one_lead c (240 + c / 262144) (next (c / 4096) ∷ next (c / 64) ∷ next c ∷ []) m (omega arith) last_three)

-- Of the bytes that begin characters and of the characters, the same are line feeds.
tests_same : (cs : List ℕ) → map is_line_feed (filter begins_character (encodes cs)) ≡ map is_line_feed cs
tests_same [] = refl
tests_same (c ∷ cs) =
    let o = one_begins c in
    ap (map is_line_feed) (filter-append begins_character (encode c) (encodes cs) ∙ ap (λ l. l ++ filter begins_character (encodes cs)) o.begins)
    ∙ ap (λ b. b ∷ map is_line_feed (filter begins_character (encodes cs))) o.same
    ∙ ap (λ l. is_line_feed c ∷ l) (tests_same cs)

-- A count of passes, and how many pass at the end, are seen from the tests alone.
module _ (f : ℕ → Bool) where
  count_of_tests : (xs : List ℕ) → count_by f xs ≡ count_by (λ b. b) (map f xs)
  count_of_tests [] = refl
  count_of_tests (x ∷ xs) =
      sum_by-cons (λ y. cond (f y) 1 0) x xs ∙ ap (λ n. cond (f x) 1 0 + n) (count_of_tests xs) ∙ sym (sum_by-cons (λ b. cond b 1 0) (f x) (map f xs))

  map_reverse : (xs : List ℕ) → map f (reverse xs) ≡ reverse (map f xs)
  map_reverse [] = refl
  map_reverse (x ∷ xs) =
      ap (map f) (reverse-append (x ∷ []) xs) ∙ map-append f (reverse xs) (x ∷ []) ∙ ap (λ l. l ++ f x ∷ []) (map_reverse xs) ∙ sym (reverse-append (f x ∷ []) (map f xs))

  prefix_of_tests : (xs : List ℕ) → prefix_len (λ x. not (f x)) xs ≡ prefix_len not (map f xs)
  prefix_of_tests [] = refl
  prefix_of_tests (x ∷ xs) = ap (λ n. cond (not (f x)) (1 + n) 0) (prefix_of_tests xs)

  suffix_of_tests : (xs : List ℕ) → suffix_len (λ x. not (f x)) xs ≡ suffix_len not (map f xs)
  suffix_of_tests xs = prefix_of_tests (reverse xs) ∙ ap (prefix_len not) (map_reverse xs)

-- Each line feed begins a character.
feeds_begin : (bs : List ℕ) → count_by is_line_feed bs ≡ count_by is_line_feed (filter begins_character bs)
feeds_begin [] = refl
feeds_begin (b ∷ bs) = by (feeds_begin bs) (begins_character b) refl
  where
    feed : ℕ → ℕ
    feed x = cond (is_line_feed x) 1 0

    by : count_by is_line_feed bs ≡ count_by is_line_feed (filter begins_character bs) → (t : Bool) → begins_character b ≡ t → count_by is_line_feed (b ∷ bs) ≡ count_by is_line_feed (cond t (b ∷ filter begins_character bs) (filter begins_character bs))
    by rest true e = sum_by-cons feed b bs ∙ ap (λ n. feed b + n) rest ∙ sym (sum_by-cons feed b (filter begins_character bs))
    by rest false e = let z : feed b ≡ 0 = ap (λ t. cond t 1 0) (not_begun b e) in omega (arith, sum_by-cons feed b bs, z)

count_same : (cs : List ℕ) → count_by is_line_feed (encodes cs) ≡ count_by is_line_feed cs
count_same cs =
    feeds_begin (encodes cs) ∙ count_of_tests is_line_feed (filter begins_character (encodes cs)) ∙ ap (count_by (λ b. b)) (tests_same cs) ∙ sym (count_of_tests is_line_feed cs)

suffix_same : (cs : List ℕ) → suffix_len (λ b. not (is_line_feed b)) (filter begins_character (encodes cs)) ≡ suffix_len (λ c. not (is_line_feed c)) cs
suffix_same cs =
    suffix_of_tests is_line_feed (filter begins_character (encodes cs)) ∙ ap (suffix_len not) (tests_same cs) ∙ sym (suffix_of_tests is_line_feed cs)

pub lines_same : (before : List ℕ) → IsUtf8 before → line_of before ≡ line_after before
lines_same before utf8 = ap line_of (sym (encodes-chars before utf8)) ∙ ap (λ n. n + 1) (count_same (chars before))

pub columns_same : (before : List ℕ) → IsUtf8 before → column_of before ≡ column_after before
columns_same before utf8 = ap column_of (sym (encodes-chars before utf8)) ∙ ap (λ n. n + 1) (suffix_same (chars before))

pub places_printed : (bytes : List ℕ) (at : ℕ) → IsUtf8 (take at bytes) → place_text bytes at ≡ decimal (line_after (take at bytes)) ++ codes ":" ++ decimal (column_after (take at bytes))
places_printed bytes at utf8 =
    ap (λ n. decimal n ++ codes ":" ++ decimal (column_of (take at bytes))) (lines_same (take at bytes) utf8)
    ∙ ap (λ n. decimal (line_after (take at bytes)) ++ codes ":" ++ decimal n) (columns_same (take at bytes) utf8)
