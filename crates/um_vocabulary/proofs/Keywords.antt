-- Reserved words are looked for among those with as many letters.
use Rattle.std.proofs.Common.{◌≡◌, ℕ, Bool, true, false, cond, eqb, List, [], ◌∷◌, length, None, Some, refl, sym, ap, ◌∙◌}
use Rattle.std.proofs.lemmas.Bool.{false≢true, eq-eqb}
use Rattle.std.proofs.lemmas.Slice.Eq.{bytes_eq-Decides}
use Rattle.std.specs.Str.{bytes_eq}
use Rattle.um_vocabulary.specs.declared.vocabulary.Keyword.{Keyword}
use Rattle.um_vocabulary.specs.Vocabulary.{keyword_text}
use Rattle.um_vocabulary.specs.Tables.{found_keyword, keywords, of_len}

other_len : (letters text : List ℕ) → (length letters ≡ length text → ⊥) → bytes_eq letters text ≡ false
other_len letters text differ = by_case (bytes_eq letters text) refl
  where
    by_case : (b : Bool) → bytes_eq letters text ≡ b → bytes_eq letters text ≡ false
    by_case true e = absurd (differ (ap length ((bytes_eq-Decides letters text).0 e)))
    by_case false e = e

pub found_by_len : (n : ℕ) (letters : List ℕ) (ks : List Keyword) → length letters ≡ n → found_keyword letters ks ≡ found_keyword letters (of_len n ks)
found_by_len n letters [] e = refl
found_by_len n letters (k ∷ ks) e = by_len (found_by_len n letters ks e) (eqb (length (keyword_text k)) n) refl
  where
    by_len : found_keyword letters ks ≡ found_keyword letters (of_len n ks) → (b : Bool) → eqb (length (keyword_text k)) n ≡ b
        → found_keyword letters (k ∷ ks) ≡ found_keyword letters (cond b (k ∷ of_len n ks) (of_len n ks))
    by_len rest true same = ap (λ r. cond (bytes_eq letters (keyword_text k)) (Some k) r) rest
    by_len rest false d =
        let other = other_len letters (keyword_text k) (λ same. false≢true (sym d ∙ eq-eqb (length (keyword_text k)) n (sym same ∙ e))) in
        ap (λ b. cond b (Some k) (found_keyword letters ks)) other ∙ rest

-- no reserved word has another number of letters
pub none_found : (n : ℕ) (letters : List ℕ) → length letters ≡ n → eqb 2 n ≡ false → eqb 3 n ≡ false → eqb 4 n ≡ false → eqb 5 n ≡ false → eqb 7 n ≡ false → found_keyword letters keywords ≡ None
none_found n letters e two three four five seven =
    let none : of_len n keywords ≡ [] = rw (two, three, four, five, seven) refl in
    found_by_len n letters keywords e ∙ ap (found_keyword letters) none
