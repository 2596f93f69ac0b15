-- Texts whose beginnings are alike: at each place stands the same character up to where both have a digit.
use Rattle.std.proofs.Common.{◌≡◌, ℕ, zero, suc, ◌<◌, Bool, true, false, ◌==◌, ◌||◌, ◌&&◌, ◌⊎◌, inl, inr, List, [], ◌∷◌, ◌++◌, refl, sym, ap, ◌∙◌, arith}
use Rattle.std.proofs.lemmas.Bool.Decides.{nat_tests}
use Rattle.std.specs.Char.{is_ascii_digit, is_ascii_alphanumeric}
use Rattle.unicode_ident.specs.Ident.{is_xid_continue}
use Rattle.unicode_ident.proofs.IdentLemmas.{is_xid_continue-ascii}
use Rattle.um_syntax.specs.Lexeme.{begins, begins_part}

-- the first n characters
abbrev pub Alike : ℕ → List ℕ → List ℕ → Type 0
Alike zero xs ys = Unit {0}
Alike (suc n) [] [] = Unit {0}
Alike (suc n) [] (y ∷ ys) = ⊥
Alike (suc n) (x ∷ xs) [] = ⊥
Alike (suc n) (x ∷ xs) (y ∷ ys) = ((x ≡ y) × Alike n xs ys) ⊎ ((is_ascii_digit x ≡ true) × (is_ascii_digit y ≡ true))

abbrev pub AlikeTexts : List ℕ → List ℕ → Type 0
AlikeTexts xs ys = (n : ℕ) → Alike n xs ys

pub alike_same : (xs : List ℕ) → AlikeTexts xs xs
alike_same xs zero = tt
alike_same [] (suc n) = tt
alike_same (x ∷ xs) (suc n) = inl (refl, alike_same xs n)

pub alike_front : (front xs ys : List ℕ) → AlikeTexts xs ys → AlikeTexts (front ++ xs) (front ++ ys)
alike_front front xs ys h zero = tt
alike_front [] xs ys h (suc n) = h (suc n)
alike_front (c ∷ front) xs ys h (suc n) = inl (refl, alike_front front xs ys h n)

-- both begin with a digit
pub alike_digits : (a b : ℕ) (xs ys : List ℕ) → is_ascii_digit a ≡ true → is_ascii_digit b ≡ true → AlikeTexts (a ∷ xs) (b ∷ ys)
alike_digits a b xs ys d e zero = tt
alike_digits a b xs ys d e (suc n) = inr (d, e)

-- ---- what is asked of the first characters

pub begins_alike : (test : ℕ → Bool) (b : Bool) → ((c : ℕ) → is_ascii_digit c ≡ true → test c ≡ b) → (n : ℕ) (xs ys : List ℕ) → Alike (suc n) xs ys → begins test xs ≡ begins test ys
begins_alike test b all n [] [] h = refl
begins_alike test b all n [] (y ∷ ys) h = absurd h
begins_alike test b all n (x ∷ xs) [] h = absurd h
begins_alike test b all n (x ∷ xs) (y ∷ ys) (inl e) = ap test e.0
begins_alike test b all n (x ∷ xs) (y ∷ ys) (inr d) = all x d.0 ∙ sym (all y d.1)

digit_small : (c : ℕ) → is_ascii_digit c ≡ true → c < 128
digit_small c e = grind (arith, nat_tests)

digit_alphanumeric : (c : ℕ) → is_ascii_digit c ≡ true → (is_ascii_alphanumeric c || c == 95) ≡ true
digit_alphanumeric c e = grind (arith, nat_tests)

pub digit_continues : (c : ℕ) → is_ascii_digit c ≡ true → is_xid_continue c ≡ true
digit_continues c e = is_xid_continue-ascii c (digit_small c e) ∙ digit_alphanumeric c e

pub continues_alike : (n : ℕ) (xs ys : List ℕ) → Alike (suc n) xs ys → begins is_xid_continue xs ≡ begins is_xid_continue ys
continues_alike n xs ys h = begins_alike is_xid_continue true digit_continues n xs ys h

pub digit_alike : (n : ℕ) (xs ys : List ℕ) → Alike (suc n) xs ys → begins is_ascii_digit xs ≡ begins is_ascii_digit ys
digit_alike n xs ys h = begins_alike is_ascii_digit true (λ c e. e) n xs ys h

digit_no_part : (c : ℕ) → is_ascii_digit c ≡ true → (c == 46 || c == 114) ≡ false
digit_no_part c e = grind (arith, nat_tests)

pub part_alike : (n : ℕ) (xs ys : List ℕ) → Alike (suc (suc n)) xs ys → begins_part xs ≡ begins_part ys
part_alike n [] [] h = refl
part_alike n [] (y ∷ ys) h = absurd h
part_alike n (x ∷ xs) [] h = absurd h
part_alike n (x ∷ xs) (y ∷ ys) (inl e) = ap (λ c. (c == 46 || c == 114) && begins is_ascii_digit xs) e.0 ∙ ap (λ b. (y == 46 || y == 114) && b) (digit_alike n xs ys e.1)
part_alike n (x ∷ xs) (y ∷ ys) (inr d) =
    ap (λ b. b && begins is_ascii_digit xs) (digit_no_part x d.0) ∙ sym (ap (λ b. b && begins is_ascii_digit ys) (digit_no_part y d.1))

-- ---- last characters

pub all_last : (test : ℕ → Bool) (all : List ℕ → Bool) → ((c : ℕ) (cs : List ℕ) → all (c ∷ cs) ≡ true → (test c ≡ true) × (all cs ≡ true)) → (xs : List ℕ) (c : ℕ) → all (xs ++ c ∷ []) ≡ true → test c ≡ true
all_last test all parts [] c e = (parts c [] e).0
all_last test all parts (x ∷ xs) c e = all_last test all parts xs c (parts x (xs ++ c ∷ []) e).1
