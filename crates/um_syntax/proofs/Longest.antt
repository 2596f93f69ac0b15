-- No longer token stands at a token's place.
use Rattle.std.proofs.Common.{◌≡◌, ◌≢◌, ℕ, ◌<◌, true, false, ◌&&◌, ◌||◌, eqb, List, [], ◌∷◌, ◌++◌, length, refl, sym, ap, subst, ◌∙◌, arith, append_assoc, ⊎_elim, lit<, length-append}
use Rattle.std.proofs.lemmas.Bool.{false≢true}
use Rattle.std.specs.Char.{is_ascii_digit}
use Rattle.unicode_ident.specs.Ident.{is_xid_continue}
use Rattle.um_vocabulary.specs.declared.vocabulary.Symbol.{Symbol}
use Rattle.um_vocabulary.specs.Vocabulary.{keyword_text, symbol_text}
use Rattle.um_syntax.specs.Numeral.{Numeral, Whole, Decimal, Ratio, numeral_text, IsNumeral, AreDigits, IsDigits}
use Rattle.um_syntax.specs.Lexeme.{starts_name, AllContinue, IsIdentifier, IsName, Lexeme, Name, Var, Number, Word, Hole, Sign, text_of, IsLexeme, begins, NumeralEnds, LeavesLetter, SignEnds, Ends}
use Rattle.um_syntax.specs.Laws.{NoTokenIsLonger}
use Rattle.um_syntax.proofs.WordLetters.{keyword_identifier, single_symbol-mark, double_symbol-mark, IsMark}
use Rattle.um_vocabulary.proofs.Tables.{symbol_form, symbol_text-three}
use Rattle.um_syntax.proofs.Texts.{head_of}
use Rattle.um_syntax.proofs.Reading.{digit_no_name, ascii_no_name}

-- the classes of first characters exclude each other
mark_no_name : (c : ℕ) → IsMark c → starts_name c ≡ false
mark_no_name c m = ascii_no_name c m.1 m.2

-- a letter after an identifier
identifier_letter : (text more : List ℕ) (c : ℕ) → 0 < length text → IsIdentifier (text ++ c ∷ more) → is_xid_continue c ≡ true
identifier_letter [] more c some is = absurd (omega arith)
identifier_letter (d ∷ ds) more c some is = go ds is.1
  where
    go : (ds : List ℕ) → AllContinue (ds ++ c ∷ more) → is_xid_continue c ≡ true
    go [] all = all.0
    go (x ∷ xs) all = go xs all.1

-- a sign begins with a mark
sign_mark : (k : Symbol) (c : ℕ) (cs : List ℕ) → symbol_text k ≡ c ∷ cs → IsMark c
sign_mark k c cs e =
    ⊎_elim (λ f. let same : f.0 ≡ c = cc (f.1, e) in subst IsMark same (single_symbol-mark f.0 k f.2))
    (λ f. let same : f.0 ≡ c = cc (f.2, e) in subst IsMark same (double_symbol-mark f.0 f.1 k f.3))
    (symbol_form k)

digits_start : (n : Numeral) → IsNumeral n → (c : ℕ) (cs : List ℕ) → numeral_text n ≡ c ∷ cs → is_ascii_digit c ≡ true
digits_start n is c cs e = let h = head_of (Number n) is in let same : h.0 ≡ c = cc (h.2, e) in subst (λ x. is_ascii_digit x ≡ true) same h.3

-- what begins like an identifier is one
identifier_from : (other : Lexeme) → IsLexeme other → (c : ℕ) (cs : List ℕ) → text_of other ≡ c ∷ cs → starts_name c ≡ true → IsIdentifier (c ∷ cs)
identifier_from (Name text) is c cs e s = subst IsIdentifier e is.0
identifier_from (Word k) is c cs e s = subst IsIdentifier e (keyword_identifier k)
identifier_from Hole is c cs e s = subst IsIdentifier e (refl, tt)
identifier_from (Var name) is c cs e s = let same : ◌≡◌ {A = ℕ} 39 c = cc in absurd (false≢true (sym (ascii_no_name 39 (lit< tt) refl) ∙ ap starts_name same ∙ s))
identifier_from (Number n) is c cs e s = absurd (false≢true (sym (digit_no_name c (digits_start n is c cs e)) ∙ s))
identifier_from (Sign k) is c cs e s = absurd (false≢true (sym (mark_no_name c (sign_mark k c cs e)) ∙ s))

identifier_longest : (text : List ℕ) (other : Lexeme) (c : ℕ) (extra : List ℕ) → IsIdentifier text → IsLexeme other → is_xid_continue c ≡ false → text_of other ≢ text ++ c ∷ extra
identifier_longest [] other c extra is fits stops e = is
identifier_longest (d ∷ ds) other c extra is fits stops e =
    let all = identifier_from other fits d (ds ++ c ∷ extra) e is.0 in
    false≢true (sym stops ∙ identifier_letter (d ∷ ds) extra c (omega arith) all)

-- what begins with a quote is a variable
variable_longest : (name : List ℕ) (other : Lexeme) (c : ℕ) (extra rest : List ℕ) → IsName name → IsLexeme other → Ends (Var name) (c ∷ extra ++ rest) → text_of other ≢ 39 ∷ (name ++ c ∷ extra)
variable_longest name (Var longer) c extra rest is fits ends e = ⊎_elim plain leaves ends
  where
    whole : longer ≡ name ++ c ∷ extra
    whole = cc

    all : IsIdentifier (name ++ c ∷ extra)
    all = subst IsIdentifier whole fits.0

    some : 0 < length name
    some = some_letters name is.0
      where
        some_letters : (text : List ℕ) → IsIdentifier text → 0 < length text
        some_letters [] i = absurd i
        some_letters (x ∷ xs) i = omega arith

    plain : begins is_xid_continue (c ∷ extra ++ rest) ≡ false → ⊥
    plain stops = false≢true (sym stops ∙ identifier_letter name extra c some all)

    second : (extra : List ℕ) → longer ≡ name ++ c ∷ extra → LeavesLetter name (c ∷ extra ++ rest) → ⊥
    second [] same l = fits.2 (l.1.0, same ∙ l.1.1)
    second (d ∷ ds) same l =
        let here : (name ++ c ∷ []) ++ d ∷ ds ≡ longer = append_assoc name (c ∷ []) (d ∷ ds) ∙ sym same in
        let more = subst IsIdentifier (sym here) fits.0 in
        false≢true (sym l.2 ∙ identifier_letter (name ++ c ∷ []) ds d (let n = length-append name (c ∷ []) in omega (arith, n)) more)

    leaves : LeavesLetter name (c ∷ extra ++ rest) → ⊥
    leaves l = second extra whole l
variable_longest name (Name text) c extra rest is fits ends e = let h = head_of (Name text) fits in let same : h.0 ≡ 39 = cc (h.2, e) in false≢true (sym (ascii_no_name 39 (lit< tt) refl) ∙ ap starts_name (sym same) ∙ h.3)
variable_longest name (Word k) c extra rest is fits ends e = let h = head_of (Word k) fits in let same : h.0 ≡ 39 = cc (h.2, e) in false≢true (sym (ascii_no_name 39 (lit< tt) refl) ∙ ap starts_name (sym same) ∙ h.3)
variable_longest name Hole c extra rest is fits ends e = let same : ◌≡◌ {A = ℕ} 95 39 = cc in omega (arith, same)
variable_longest name (Number n) c extra rest is fits ends e = let d = digits_start n fits 39 (name ++ c ∷ extra) e in false≢true d
variable_longest name (Sign k) c extra rest is fits ends e = let m = sign_mark k 39 (name ++ c ∷ extra) e in false≢true (sym m.4)

-- digits
digit_at : (xs ys : List ℕ) (c : ℕ) → AreDigits (xs ++ c ∷ ys) → is_ascii_digit c ≡ true
digit_at [] ys c all = all.0
digit_at (x ∷ xs) ys c all = digit_at xs ys c all.1

are_digits : (ds : List ℕ) → IsDigits ds → AreDigits ds
are_digits [] is = absurd is
are_digits (d ∷ ds) is = is

digits_split : (xs ys us vs : List ℕ) (x y : ℕ) → AreDigits xs → AreDigits ys → is_ascii_digit x ≡ false → is_ascii_digit y ≡ false → xs ++ x ∷ us ≡ ys ++ y ∷ vs → (x ≡ y) × (us ≡ vs)
digits_split [] [] us vs x y a b p q e = (cc, cc)
digits_split [] (d ∷ ds) us vs x y a b p q e = let same : x ≡ d = cc in absurd (false≢true (sym p ∙ ap is_ascii_digit same ∙ b.0))
digits_split (d ∷ ds) [] us vs x y a b p q e = let same : d ≡ y = cc in absurd (false≢true (sym q ∙ ap is_ascii_digit (sym same) ∙ a.0))
digits_split (d ∷ ds) (f ∷ fs) us vs x y a b p q e = let rest : ds ++ x ∷ us ≡ fs ++ y ∷ vs = cc in digits_split ds fs us vs x y a.1 b.1 p q rest

begins_digits : (q rest : List ℕ) → IsDigits q → begins is_ascii_digit (q ++ rest) ≡ true
begins_digits [] rest is = absurd is
begins_digits (d ∷ ds) rest is = is.0

part_longest : (mark : ℕ) (ds prefix part extra rest : List ℕ) (c : ℕ) → is_ascii_digit mark ≡ false → (eqb mark 46 || eqb mark 114) ≡ true → IsDigits ds → IsDigits prefix → IsDigits part → NumeralEnds (Whole ds) (c ∷ extra ++ rest) → prefix ++ mark ∷ part ≢ ds ++ c ∷ extra
part_longest mark ds prefix part extra rest c no_digit is_mark a b p ends e =
    let s = digits_split prefix ds part extra mark c (are_digits prefix b) (are_digits ds a) no_digit ends.0 e in
    false≢true (sym ends.1 ∙ ap (λ x. (eqb x 46 || eqb x 114) && begins is_ascii_digit (extra ++ rest)) (sym s.0) ∙ ap (λ t. t && begins is_ascii_digit (extra ++ rest)) is_mark ∙ ap (λ x. begins is_ascii_digit (x ++ rest)) (sym s.1) ∙ begins_digits part rest p)

number_longest : (n m : Numeral) (c : ℕ) (extra rest : List ℕ) → IsNumeral n → IsNumeral m → NumeralEnds n (c ∷ extra ++ rest) → numeral_text m ≢ numeral_text n ++ c ∷ extra
number_longest (Whole ds) (Whole es) c extra rest a b ends e = false≢true (sym ends.0 ∙ digit_at ds extra c (subst AreDigits e (are_digits es b)))
number_longest (Whole ds) (Decimal w q) c extra rest a b ends e = part_longest 46 ds w q extra rest c refl refl a b.0 b.1 ends e
number_longest (Whole ds) (Ratio u v) c extra rest a b ends e = part_longest 114 ds u v extra rest c refl refl a b.0 b.1 ends e
number_longest (Decimal w q) (Whole es) c extra rest a b ends e = false≢true (digit_at w (q ++ c ∷ extra) 46 (subst AreDigits (e ∙ append_assoc w (46 ∷ q) (c ∷ extra)) (are_digits es b)))
number_longest (Ratio u v) (Whole es) c extra rest a b ends e = false≢true (digit_at u (v ++ c ∷ extra) 114 (subst AreDigits (e ∙ append_assoc u (114 ∷ v) (c ∷ extra)) (are_digits es b)))
number_longest (Decimal w q) (Decimal x r) c extra rest a b ends e =
    let s = digits_split x w r (q ++ c ∷ extra) 46 46 (are_digits x b.0) (are_digits w a.0) refl refl (e ∙ append_assoc w (46 ∷ q) (c ∷ extra)) in
    false≢true (sym ends ∙ digit_at q extra c (subst AreDigits s.1 (are_digits r b.1)))
number_longest (Ratio u v) (Ratio x r) c extra rest a b ends e =
    let s = digits_split x u r (v ++ c ∷ extra) 114 114 (are_digits x b.0) (are_digits u a.0) refl refl (e ∙ append_assoc u (114 ∷ v) (c ∷ extra)) in
    false≢true (sym ends ∙ digit_at v extra c (subst AreDigits s.1 (are_digits r b.1)))
number_longest (Decimal w q) (Ratio x r) c extra rest a b ends e =
    let s = digits_split x w r (q ++ c ∷ extra) 114 46 (are_digits x b.0) (are_digits w a.0) refl refl (e ∙ append_assoc w (46 ∷ q) (c ∷ extra)) in omega (arith, s.0)
number_longest (Ratio u v) (Decimal x r) c extra rest a b ends e =
    let s = digits_split x u r (v ++ c ∷ extra) 46 114 (are_digits x b.0) (are_digits u a.0) refl refl (e ∙ append_assoc u (114 ∷ v) (c ∷ extra)) in omega (arith, s.0)

-- what begins with a digit is a number
digit_longest : (n : Numeral) (other : Lexeme) (c : ℕ) (extra rest : List ℕ) → IsNumeral n → IsLexeme other → NumeralEnds n (c ∷ extra ++ rest) → text_of other ≢ numeral_text n ++ c ∷ extra
digit_longest n other c extra rest is fits ends e = by_other other fits e
  where
    h : (d : ℕ) × (ds : List ℕ) × (numeral_text n ≡ d ∷ ds) × (is_ascii_digit d ≡ true)
    h = head_of (Number n) is

    prefix : (other : Lexeme) → text_of other ≡ numeral_text n ++ c ∷ extra → text_of other ≡ h.0 ∷ (h.1 ++ c ∷ extra)
    prefix other e = e ∙ ap (λ x. x ++ c ∷ extra) h.2

    letter : (other : Lexeme) → IsLexeme other → (g : (d : ℕ) × (ds : List ℕ) × (text_of other ≡ d ∷ ds) × (starts_name d ≡ true)) → text_of other ≡ numeral_text n ++ c ∷ extra → ⊥
    letter other fits g e = let same : g.0 ≡ h.0 = cc (g.2, prefix other e) in false≢true (sym (digit_no_name h.0 h.3) ∙ ap starts_name (sym same) ∙ g.3)

    by_other : (other : Lexeme) → IsLexeme other → text_of other ≡ numeral_text n ++ c ∷ extra → ⊥
    by_other (Number m) fits e = number_longest n m c extra rest is fits ends e
    by_other (Name text) fits e = letter (Name text) fits (head_of (Name text) fits) e
    by_other (Word k) fits e = letter (Word k) fits (head_of (Word k) fits) e
    by_other Hole fits e = letter Hole fits (head_of Hole fits) e
    by_other (Var name) fits e = let same : ◌≡◌ {A = ℕ} 39 h.0 = cc (prefix (Var name) e) in false≢true (ap is_ascii_digit same ∙ h.3)
    by_other (Sign k) fits e = let m = sign_mark k h.0 (h.1 ++ c ∷ extra) (prefix (Sign k) e) in false≢true (sym m.3 ∙ h.3)

-- what begins like a sign is one
sign_longest : (k : Symbol) (other : Lexeme) (c : ℕ) (extra rest : List ℕ) → IsLexeme other → SignEnds (symbol_text k) (c ∷ extra ++ rest) → text_of other ≢ symbol_text k ++ c ∷ extra
sign_longest k other c extra rest fits ends e = by_other other fits e
  where
    h : (d : ℕ) × (ds : List ℕ) × (symbol_text k ≡ d ∷ ds)
    h = ⊎_elim (λ f. (f.0, [], f.1)) (λ f. (f.0, f.1 ∷ [], f.2)) (symbol_form k)

    mark : IsMark h.0
    mark = sign_mark k h.0 h.1 h.2

    prefix : (other : Lexeme) → text_of other ≡ symbol_text k ++ c ∷ extra → text_of other ≡ h.0 ∷ (h.1 ++ c ∷ extra)
    prefix other e = e ∙ ap (λ x. x ++ c ∷ extra) h.2

    letter : (other : Lexeme) → IsLexeme other → (g : (d : ℕ) × (ds : List ℕ) × (text_of other ≡ d ∷ ds) × (starts_name d ≡ true)) → text_of other ≡ symbol_text k ++ c ∷ extra → ⊥
    letter other fits g e = let same : g.0 ≡ h.0 = cc (g.2, prefix other e) in false≢true (sym (mark_no_name h.0 mark) ∙ ap starts_name (sym same) ∙ g.3)

    longer : (j : Symbol) (extra : List ℕ) → symbol_text j ≡ symbol_text k ++ c ∷ extra → ⊥
    longer j [] e = ends.0 j e
    longer j (d ∷ ds) e = three (h.1) (e ∙ ap (λ x. x ++ c ∷ d ∷ ds) h.2)
      where
        three : (xs : List ℕ) → symbol_text j ≡ h.0 ∷ (xs ++ c ∷ d ∷ ds) → ⊥
        three [] e = symbol_text-three h.0 c d ds j e
        three (x ∷ []) e = symbol_text-three h.0 x c (d ∷ ds) j e
        three (x ∷ y ∷ ys) e = symbol_text-three h.0 x y (ys ++ c ∷ d ∷ ds) j e

    by_other : (other : Lexeme) → IsLexeme other → text_of other ≡ symbol_text k ++ c ∷ extra → ⊥
    by_other (Sign j) fits e = longer j extra e
    by_other (Name text) fits e = letter (Name text) fits (head_of (Name text) fits) e
    by_other (Word j) fits e = letter (Word j) fits (head_of (Word j) fits) e
    by_other Hole fits e = letter Hole fits (head_of Hole fits) e
    by_other (Var name) fits e = let same : ◌≡◌ {A = ℕ} 39 h.0 = cc (prefix (Var name) e) in false≢true (sym mark.4 ∙ ap (λ x. eqb x 39) (sym same))
    by_other (Number m) fits e = false≢true (sym mark.3 ∙ digits_start m fits h.0 (h.1 ++ c ∷ extra) (prefix (Number m) e))

pub no_longer : NoTokenIsLonger
no_longer (Name text) other c extra rest is fits ends e = identifier_longest text other c extra is.0 fits ends e
no_longer (Word k) other c extra rest is fits ends e = identifier_longest (keyword_text k) other c extra (keyword_identifier k) fits ends e
no_longer Hole other c extra rest is fits ends e = identifier_longest (95 ∷ []) other c extra (refl, tt) fits ends e
no_longer (Var name) other c extra rest is fits ends e = variable_longest name other c extra rest is fits ends e
no_longer (Number n) other c extra rest is fits ends e = digit_longest n other c extra rest is fits ends e
no_longer (Sign k) other c extra rest is fits ends e = sign_longest k other c extra rest fits ends e
