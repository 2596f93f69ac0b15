-- Lines of units and of rows, one after another, are read one by one.
use Rattle.std.proofs.Common.{◌≡◌, ◌≢◌, ℕ, suc, ◌+◌, ◌^◌, ◌<◌, false, List, [], ◌∷◌, ◌++◌, append_assoc, map, length, codes, refl, sym, ◌∙◌, subst, arith}
use Rattle.std.specs.Prelude.{All}
use Rattle.std.specs.Fmt.{decimal, signed_decimal}
use Rattle.std.specs.Char.{is_ascii_digit}
use Rattle.std.proofs.lemmas.Fmt.{signed_decimal_injective}
use Rattle.std.proofs.lemmas.List.{append_cancel_left}
use Rattle.std.proofs.lemmas.List.Elements.{All-head, All-tail}
use Rattle.um_units.specs.PowerMap.{PowerMap}
use Rattle.um_show.specs.UnitText.{unit_text}
use Rattle.um_check.specs.declared.certificate.Part.{Part}
use Rattle.um_certificates.specs.CertificateText.{numbered, unit_line, part_text, parts_text, rows_line}
use Rattle.um_all_answers.specs.CertificateLaws.{FitsPart}
use Rattle.um_all_answers.proofs.Cuts.{Lacks, cut, lacks-append, lacks_decimal, lacks_signed, decimal_cut, no_decimal, AreWords, no_front, joined_cut, AllLack, joined_lacks}

-- the text doesn't begin with the word
abbrev pub IsApart : List ℕ → List ℕ → Type 0
IsApart word r = (t : List ℕ) → r ≡ word ++ t → ⊥

-- no text begins with both words
abbrev pub Differ : List ℕ → List ℕ → Type 0
Differ word other = (a b : List ℕ) → word ++ a ≡ other ++ b → ⊥

-- ---- a line, which begins with a word and a number
module _ (word digits middle : List ℕ) where
  pub line_front : (text r : List ℕ) → (word ++ digits ++ middle ++ text ++ codes "\n") ++ r ≡ word ++ (digits ++ (middle ++ (text ++ 10 ∷ r)))
  line_front text r =
      append_assoc (word ++ digits ++ middle ++ text) (codes "\n") r
      ∙ append_assoc (word ++ digits ++ middle) text (10 ∷ r)
      ∙ append_assoc (word ++ digits) middle (text ++ 10 ∷ r)
      ∙ append_assoc word digits (middle ++ (text ++ 10 ∷ r))

  -- two such lines
  pub line_cut : (text other r s : List ℕ) → Lacks 10 text → Lacks 10 other → (word ++ digits ++ middle ++ text ++ codes "\n") ++ r ≡ (word ++ digits ++ middle ++ other ++ codes "\n") ++ s → (text ≡ other) × (r ≡ s)
  line_cut text other r s a b e =
      let whole = sym (line_front text r) ∙ e ∙ line_front other s in
      let second = append_cancel_left word (digits ++ (middle ++ (text ++ 10 ∷ r))) (digits ++ (middle ++ (other ++ 10 ∷ s))) whole in
      let third = append_cancel_left digits (middle ++ (text ++ 10 ∷ r)) (middle ++ (other ++ 10 ∷ s)) second in
      let last = append_cancel_left middle (text ++ 10 ∷ r) (other ++ 10 ∷ s) third in
      let parts = cut 10 text other (10 ∷ r) (10 ∷ s) a b refl refl last in
      let ends : 10 ∷ r ≡ 10 ∷ s = parts.1 in
      let rest : r ≡ s = cc ends in
      (parts.0, rest)

-- ---- lines of units
module _ (word : List ℕ) where
  abbrev pub unit_lines : List (List ℕ) → ℕ → List PowerMap → List ℕ
  unit_lines bases n us = numbered (unit_line word bases) n us

  -- what comes after the word of the first of them
  abbrev unit_rest : List (List ℕ) → ℕ → PowerMap → List PowerMap → List ℕ → List ℕ
  unit_rest bases n u us r = decimal n ++ (codes ": " ++ (unit_text bases u ++ 10 ∷ (unit_lines bases (suc n) us ++ r)))

  units_front : (bases : List (List ℕ)) (n : ℕ) (u : PowerMap) (us : List PowerMap) (r : List ℕ) → unit_lines bases n (u ∷ us) ++ r ≡ word ++ unit_rest bases n u us r
  units_front bases n u us r =
      append_assoc (unit_line word bases n u) (unit_lines bases (suc n) us) r ∙ line_front word (decimal n) (codes ": ") (unit_text bases u) (unit_lines bases (suc n) us ++ r)

  pub units_cut : (bases names : List (List ℕ)) (n : ℕ) (us vs : List PowerMap) (r s : List ℕ) → AllLack (unit_text bases) 10 us → AllLack (unit_text names) 10 vs → IsApart word r → IsApart word s →
      unit_lines bases n us ++ r ≡ unit_lines names n vs ++ s → (map (unit_text bases) us ≡ map (unit_text names) vs) × (r ≡ s)
  units_cut bases names n [] [] r s a b ends none e = (refl, e)
  units_cut bases names n [] (v ∷ vs) r s a b ends none e = absurd (ends (unit_rest names n v vs s) (e ∙ units_front names n v vs s))
  units_cut bases names n (u ∷ us) [] r s a b ends none e = absurd (none (unit_rest bases n u us r) (sym e ∙ units_front bases n u us r))
  units_cut bases names n (u ∷ us) (v ∷ vs) r s a b ends none e =
      let both = sym (append_assoc (unit_line word bases n u) (unit_lines bases (suc n) us) r) ∙ e ∙ append_assoc (unit_line word names n v) (unit_lines names (suc n) vs) s in
      let parts = line_cut word (decimal n) (codes ": ") (unit_text bases u) (unit_text names v) (unit_lines bases (suc n) us ++ r) (unit_lines names (suc n) vs ++ s) a.0 b.0 both in
      let rest = units_cut bases names (suc n) us vs r s a.1 b.1 ends none parts.1 in
      let first = parts.0 in
      let others = rest.0 in
      ((λ i. first i ∷ others i), rest.1)

  -- no line of another word
  pub units_apart : (other : List ℕ) → Differ word other → (bases : List (List ℕ)) (n : ℕ) (us : List PowerMap) (r : List ℕ) → IsApart other r → IsApart other (unit_lines bases n us ++ r)
  units_apart other differ bases n [] r apart t e = apart t e
  units_apart other differ bases n (u ∷ us) r apart t e = differ (unit_rest bases n u us r) t (sym (units_front bases n u us r) ∙ e)

-- ---- parts
part_front : (p : Part) → part_text p ≡ decimal p.row ++ 42 ∷ signed_decimal p.times
part_front p = append_assoc (decimal p.row) (codes "*") (signed_decimal p.times)

wide : (n : ℕ) → n < 2 ^ 32 → n < 2 ^ 64
wide n small = omega (arith, small)

part_lacks : (m : ℕ) (p : Part) → is_ascii_digit m ≡ false → 42 ≢ m → 45 ≢ m → FitsPart p → Lacks m (part_text p)
part_lacks m p other star minus fit =
    subst (Lacks m) (sym (part_front p)) (lacks-append m (decimal p.row) (42 ∷ signed_decimal p.times) (lacks_decimal m p.row other (wide p.row fit.row)) (star, lacks_signed m p.times other minus fit.times.sfits))

part_told : (p q : Part) → FitsPart p → FitsPart q → part_text p ≡ part_text q → p ≡ q
part_told p q a b e =
    let whole = sym (part_front p) ∙ e ∙ part_front q in
    let parts = decimal_cut 42 p.row q.row (42 ∷ signed_decimal p.times) (42 ∷ signed_decimal q.times) refl (wide p.row a.row) (wide q.row b.row) refl refl whole in
    let rows = parts.0 in
    let signs : 42 ∷ signed_decimal p.times ≡ 42 ∷ signed_decimal q.times = parts.1 in
    let digits : signed_decimal p.times ≡ signed_decimal q.times = cc signs in
    let powers = signed_decimal_injective p.times q.times a.times.sfits b.times.sfits digits in
    λ i. record { row = rows i; times = powers i }

part_words : (ps : List Part) → All FitsPart ps → AreWords part_text ps
part_words [] h = tt
part_words (p ∷ ps) h =
    let fit = All-head FitsPart p ps h in (
      part_lacks 32 p refl (λ e. omega (arith, e)) (λ e. omega (arith, e)) fit,
      (λ e. no_front (decimal p.row) (42 ∷ signed_decimal p.times) (λ f. no_decimal p.row (wide p.row fit.row) f) (e ∙ part_front p)),
      part_words ps (All-tail FitsPart p ps h),
    )

part_lines : (ps : List Part) → All FitsPart ps → AllLack part_text 10 ps
part_lines [] h = tt
part_lines (p ∷ ps) h = (part_lacks 10 p refl (λ e. omega (arith, e)) (λ e. omega (arith, e)) (All-head FitsPart p ps h), part_lines ps (All-tail FitsPart p ps h))

pub parts_lack : (ps : List Part) → All FitsPart ps → Lacks 10 (parts_text ps)
parts_lack ps h = joined_lacks part_text 10 ps (λ e. omega (arith, e)) (part_lines ps h)

texts_told : (ps qs : List Part) → All FitsPart ps → All FitsPart qs → map part_text ps ≡ map part_text qs → ps ≡ qs
texts_told [] [] a b e = refl
texts_told [] (q ∷ qs) a b e = absurd (cc e)
texts_told (p ∷ ps) [] a b e = absurd (cc e)
texts_told (p ∷ ps) (q ∷ qs) a b e =
    let first : part_text p ≡ part_text q = cc e in
    let rest : map part_text ps ≡ map part_text qs = cc e in
    let same = part_told p q (All-head FitsPart p ps a) (All-head FitsPart q qs b) first in
    let others = texts_told ps qs (All-tail FitsPart p ps a) (All-tail FitsPart q qs b) rest in
    λ i. same i ∷ others i

pub parts_told : (ps qs : List Part) → All FitsPart ps → All FitsPart qs → parts_text ps ≡ parts_text qs → ps ≡ qs
parts_told ps qs a b e = texts_told ps qs a b (joined_cut part_text ps qs (part_words ps a) (part_words qs b) e)

-- ---- lines of rows
abbrev rows_word : List ℕ
rows_word = codes "  rows "

abbrev pub row_lines : ℕ → List (List Part) → List ℕ
row_lines n pss = numbered rows_line n pss

-- what comes after the number of a line of rows
abbrev row_rest : ℕ → List Part → List (List Part) → List ℕ → List ℕ
row_rest n ps pss r = parts_text ps ++ 10 ∷ (row_lines (suc n) pss ++ r)

rows_front : (n : ℕ) (p : Part) (ps : List Part) (pss : List (List Part)) (r : List ℕ) → row_lines n ((p ∷ ps) ∷ pss) ++ r ≡ rows_word ++ (decimal n ++ (codes ": " ++ row_rest n (p ∷ ps) pss r))
rows_front n p ps pss r =
    append_assoc (rows_line n (p ∷ ps)) (row_lines (suc n) pss) r ∙ line_front rows_word (decimal n) (codes ": ") (parts_text (p ∷ ps)) (row_lines (suc n) pss ++ r)

pub rows_apart : (other : List ℕ) → Differ rows_word other → (n : ℕ) (pss : List (List Part)) (r : List ℕ) → IsApart other r → IsApart other (row_lines n pss ++ r)
rows_apart other differ n [] r apart t e = apart t e
rows_apart other differ n ([] ∷ pss) r apart t e = rows_apart other differ (suc n) pss r apart t e
rows_apart other differ n ((p ∷ ps) ∷ pss) r apart t e = differ (decimal n ++ (codes ": " ++ row_rest n (p ∷ ps) pss r)) t (sym (rows_front n p ps pss r) ∙ e)

-- the line of an earlier slot doesn't come later
none_later : (n m : ℕ) (pss : List (List Part)) (r t : List ℕ) → n < m → m + length pss < 2 ^ 64 → IsApart rows_word r → row_lines m pss ++ r ≡ rows_word ++ (decimal n ++ (codes ": " ++ t)) → ⊥
none_later n m [] r t less few apart e = apart (decimal n ++ (codes ": " ++ t)) e
none_later n m ([] ∷ pss) r t less few apart e = none_later n (suc m) pss r t (omega (arith, less)) (omega (arith, few)) apart e
none_later n m ((p ∷ ps) ∷ pss) r t less few apart e =
    let whole = sym (rows_front m p ps pss r) ∙ e in
    let rest = append_cancel_left rows_word (decimal m ++ (codes ": " ++ row_rest m (p ∷ ps) pss r)) (decimal n ++ (codes ": " ++ t)) whole in
    let same = decimal_cut 58 m n (codes ": " ++ row_rest m (p ∷ ps) pss r) (codes ": " ++ t) refl (omega (arith, few)) (omega (arith, less, few)) refl refl rest in
    let number = same.0 in
    omega (arith, number, less)

pub rows_cut : (n : ℕ) (pss qss : List (List Part)) (r s : List ℕ) → length pss ≡ length qss → n + length pss < 2 ^ 64 → All (All FitsPart) pss → All (All FitsPart) qss → IsApart rows_word r → IsApart rows_word s → row_lines n pss ++ r ≡ row_lines n qss ++ s → (pss ≡ qss) × (r ≡ s)
rows_cut n [] [] r s many few a b ends none e = (refl, e)
rows_cut n [] (q ∷ qss) r s many few a b ends none e = absurd (omega (arith, many))
rows_cut n (p ∷ pss) [] r s many few a b ends none e = absurd (omega (arith, many))
rows_cut n ([] ∷ pss) ([] ∷ qss) r s many few a b ends none e =
    let rest = rows_cut (suc n) pss qss r s (omega (arith, many)) (omega (arith, few)) (All-tail (All FitsPart) [] pss a) (All-tail (All FitsPart) [] qss b) ends none e in
    let others = rest.0 in
    ((λ i. [] ∷ others i), rest.1)
rows_cut n ([] ∷ pss) ((q ∷ qs) ∷ qss) r s many few a b ends none e = absurd (none_later n (suc n) pss r (row_rest n (q ∷ qs) qss s) (omega arith) (omega (arith, few)) ends (e ∙ rows_front n q qs qss s))
rows_cut n ((p ∷ ps) ∷ pss) ([] ∷ qss) r s many few a b ends none e = absurd (none_later n (suc n) qss s (row_rest n (p ∷ ps) pss r) (omega arith) (omega (arith, many, few)) none (sym e ∙ rows_front n p ps pss r))
rows_cut n ((p ∷ ps) ∷ pss) ((q ∷ qs) ∷ qss) r s many few a b ends none e =
    let one = All-head (All FitsPart) (p ∷ ps) pss a in
    let other = All-head (All FitsPart) (q ∷ qs) qss b in
    let both = sym (append_assoc (rows_line n (p ∷ ps)) (row_lines (suc n) pss) r) ∙ e ∙ append_assoc (rows_line n (q ∷ qs)) (row_lines (suc n) qss) s in
    let parts = line_cut rows_word (decimal n) (codes ": ") (parts_text (p ∷ ps)) (parts_text (q ∷ qs)) (row_lines (suc n) pss ++ r) (row_lines (suc n) qss ++ s) (parts_lack (p ∷ ps) one) (parts_lack (q ∷ qs) other) both in
    let first = parts_told (p ∷ ps) (q ∷ qs) one other parts.0 in
    let rest = rows_cut (suc n) pss qss r s (omega (arith, many)) (omega (arith, few)) (All-tail (All FitsPart) (p ∷ ps) pss a) (All-tail (All FitsPart) (q ∷ qs) qss b) ends none parts.1 in
    let others = rest.0 in
    ((λ i. first i ∷ others i), rest.1)
