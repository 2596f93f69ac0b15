-- The letters of reserved words, and the characters that symbols begin with.
use Rattle.std.proofs.Common.{◌≡◌, ◌≢◌, ℕ, ◌-◌, ◌<◌, Bool, true, false, ◌&&◌, ◌||◌, eqb, List, [], ◌∷◌, ◌++◌, length, take, drop, None, Some, refl, sym, ap, ◌∙◌, arith, lit<}
use Rattle.std.proofs.lemmas.Str.{encode_ascii}
use Rattle.std.proofs.lemmas.Bool.Decides.{nat_tests}
use Rattle.std.specs.Str.{bytes_eq}
use Rattle.std.specs.Char.{is_ascii_alphabetic, is_ascii_digit}
use lib.Utf8.{encodes}
use Rattle.unicode_ident.specs.Ident.{is_xid_start}
use Rattle.unicode_ident.proofs.IdentLemmas.{is_xid_start-ascii, is_xid_start-is_xid_continue}
use Rattle.um_vocabulary.specs.declared.vocabulary.Keyword.{Keyword}
use Rattle.um_vocabulary.specs.declared.vocabulary.Keyword.TheVariants as keyword
use Rattle.um_vocabulary.specs.declared.vocabulary.Symbol.{Symbol}
use Rattle.um_vocabulary.specs.Vocabulary.{keyword_text}
use Rattle.um_vocabulary.specs.Tables.{keyword_of, single_symbols, single_symbol, double_symbols, double_symbol}
use Rattle.um_vocabulary.proofs.Bools.{and_parts}
use Rattle.um_vocabulary.proofs.Tables.{none_some, keyword_of-keyword, found_each, found_each_pair}
use Rattle.um_syntax.specs.Gap.{is_space}
use Rattle.um_syntax.specs.Lexeme.{starts_name, AllContinue, IsIdentifier, IsWord}

pub keyword_of-none : (letters : List ℕ) → keyword_of letters ≡ None → ¬ (IsWord letters)
keyword_of-none letters e word = none_some word.0 (sym e ∙ ap keyword_of word.1 ∙ keyword_of-keyword word.0)

-- words are of ASCII letters
abbrev pub are_letters : List ℕ → Bool
are_letters [] = true
are_letters (c ∷ cs) = is_ascii_alphabetic c && are_letters cs

alphabetic_small : (c : ℕ) → is_ascii_alphabetic c ≡ true → c < 128
alphabetic_small c e = grind (arith, nat_tests)

pub letter_starts : (c : ℕ) → is_ascii_alphabetic c ≡ true → is_xid_start c ≡ true
letter_starts c e = is_xid_start-ascii c (alphabetic_small c e) ∙ e

or_true : (a b : Bool) → b ≡ true → (a || b) ≡ true
or_true true b e = refl
or_true false b e = e

pub letter_starts_name : (c : ℕ) → is_ascii_alphabetic c ≡ true → starts_name c ≡ true
letter_starts_name c e = or_true (eqb c 95) (is_xid_start c) (letter_starts c e)

letters_continue : (cs : List ℕ) → are_letters cs ≡ true → AllContinue cs
letters_continue [] e = tt
letters_continue (c ∷ cs) e = let p = and_parts (is_ascii_alphabetic c) (are_letters cs) e in (is_xid_start-is_xid_continue c (letter_starts c p.0), letters_continue cs p.1)

letters_identifier : (c : ℕ) (cs : List ℕ) → are_letters (c ∷ cs) ≡ true → IsIdentifier (c ∷ cs)
letters_identifier c cs e = let p = and_parts (is_ascii_alphabetic c) (are_letters cs) e in (letter_starts_name c p.0, letters_continue cs p.1)

pub letters_encoded : (cs : List ℕ) → are_letters cs ≡ true → encodes cs ≡ cs
letters_encoded [] e = refl
letters_encoded (c ∷ cs) e =
    let p = and_parts (is_ascii_alphabetic c) (are_letters cs) e in
    ap (λ x. x ++ encodes cs) (encode_ascii c (alphabetic_small c p.0)) ∙ ap (λ x. c ∷ x) (letters_encoded cs p.1)

pub keyword_letters : (k : Keyword) → are_letters (keyword_text k) ≡ true
keyword_letters keyword.Let = refl
keyword_letters keyword.Rec = refl
keyword_letters keyword.In = refl
keyword_letters keyword.If = refl
keyword_letters keyword.Then = refl
keyword_letters keyword.Else = refl
keyword_letters keyword.Match = refl
keyword_letters keyword.With = refl
keyword_letters keyword.Type = refl
keyword_letters keyword.True = refl
keyword_letters keyword.False = refl
keyword_letters keyword.Not = refl
keyword_letters keyword.Num = refl
keyword_letters keyword.Bool = refl
keyword_letters keyword.List = refl
keyword_letters keyword.Measure = refl
keyword_letters keyword.Pown = refl

pub keyword_encoded : (k : Keyword) → encodes (keyword_text k) ≡ keyword_text k
keyword_encoded k = letters_encoded (keyword_text k) (keyword_letters k)

some_letters : (cs : List ℕ) → cs ≢ [] → are_letters cs ≡ true → IsIdentifier cs
some_letters [] n e = absurd (n refl)
some_letters (c ∷ cs) n e = letters_identifier c cs e

keyword_some : (k : Keyword) → keyword_text k ≢ []
keyword_some keyword.Let e = cc
keyword_some keyword.Rec e = cc
keyword_some keyword.In e = cc
keyword_some keyword.If e = cc
keyword_some keyword.Then e = cc
keyword_some keyword.Else e = cc
keyword_some keyword.Match e = cc
keyword_some keyword.With e = cc
keyword_some keyword.Type e = cc
keyword_some keyword.True e = cc
keyword_some keyword.False e = cc
keyword_some keyword.Not e = cc
keyword_some keyword.Num e = cc
keyword_some keyword.Bool e = cc
keyword_some keyword.List e = cc
keyword_some keyword.Measure e = cc
keyword_some keyword.Pown e = cc

pub keyword_identifier : (k : Keyword) → IsIdentifier (keyword_text k)
keyword_identifier k = some_letters (keyword_text k) (keyword_some k) (keyword_letters k)

-- A word without its last letter is a name, and so is its last letter.
pub record KeywordParts (k : Keyword) : Type 0 where
  pub prefix : List ℕ
  pub last : ℕ
  pub text : keyword_text k ≡ prefix ++ last ∷ []
  pub prefix_taken : take (length (keyword_text k) - 1) (keyword_text k) ≡ prefix
  pub last_dropped : drop (length (keyword_text k) - 1) (keyword_text k) ≡ last ∷ []
  pub prefix_no_word : keyword_of prefix ≡ None
  pub prefix_no_hole : bytes_eq prefix (95 ∷ []) ≡ false
  pub last_no_word : keyword_of (last ∷ []) ≡ None
  pub last_no_hole : bytes_eq (last ∷ []) (95 ∷ []) ≡ false
  pub prefix_identifier : IsIdentifier prefix
  pub prefix_letters : are_letters prefix ≡ true
  pub last_letter : is_ascii_alphabetic last ≡ true

pub keyword_parts : (k : Keyword) → KeywordParts k
keyword_parts keyword.Let = record { prefix = 108 ∷ 101 ∷ []; last = 116; text = refl; prefix_taken = refl; last_dropped = refl; prefix_no_word = refl; prefix_no_hole = refl; last_no_word = refl; last_no_hole = refl; prefix_identifier = letters_identifier 108 (101 ∷ []) refl; prefix_letters = refl; last_letter = refl }
keyword_parts keyword.Rec = record { prefix = 114 ∷ 101 ∷ []; last = 99; text = refl; prefix_taken = refl; last_dropped = refl; prefix_no_word = refl; prefix_no_hole = refl; last_no_word = refl; last_no_hole = refl; prefix_identifier = letters_identifier 114 (101 ∷ []) refl; prefix_letters = refl; last_letter = refl }
keyword_parts keyword.In = record { prefix = 105 ∷ []; last = 110; text = refl; prefix_taken = refl; last_dropped = refl; prefix_no_word = refl; prefix_no_hole = refl; last_no_word = refl; last_no_hole = refl; prefix_identifier = letters_identifier 105 ([]) refl; prefix_letters = refl; last_letter = refl }
keyword_parts keyword.If = record { prefix = 105 ∷ []; last = 102; text = refl; prefix_taken = refl; last_dropped = refl; prefix_no_word = refl; prefix_no_hole = refl; last_no_word = refl; last_no_hole = refl; prefix_identifier = letters_identifier 105 ([]) refl; prefix_letters = refl; last_letter = refl }
keyword_parts keyword.Then = record { prefix = 116 ∷ 104 ∷ 101 ∷ []; last = 110; text = refl; prefix_taken = refl; last_dropped = refl; prefix_no_word = refl; prefix_no_hole = refl; last_no_word = refl; last_no_hole = refl; prefix_identifier = letters_identifier 116 (104 ∷ 101 ∷ []) refl; prefix_letters = refl; last_letter = refl }
keyword_parts keyword.Else = record { prefix = 101 ∷ 108 ∷ 115 ∷ []; last = 101; text = refl; prefix_taken = refl; last_dropped = refl; prefix_no_word = refl; prefix_no_hole = refl; last_no_word = refl; last_no_hole = refl; prefix_identifier = letters_identifier 101 (108 ∷ 115 ∷ []) refl; prefix_letters = refl; last_letter = refl }
keyword_parts keyword.Match = record { prefix = 109 ∷ 97 ∷ 116 ∷ 99 ∷ []; last = 104; text = refl; prefix_taken = refl; last_dropped = refl; prefix_no_word = refl; prefix_no_hole = refl; last_no_word = refl; last_no_hole = refl; prefix_identifier = letters_identifier 109 (97 ∷ 116 ∷ 99 ∷ []) refl; prefix_letters = refl; last_letter = refl }
keyword_parts keyword.With = record { prefix = 119 ∷ 105 ∷ 116 ∷ []; last = 104; text = refl; prefix_taken = refl; last_dropped = refl; prefix_no_word = refl; prefix_no_hole = refl; last_no_word = refl; last_no_hole = refl; prefix_identifier = letters_identifier 119 (105 ∷ 116 ∷ []) refl; prefix_letters = refl; last_letter = refl }
keyword_parts keyword.Type = record { prefix = 116 ∷ 121 ∷ 112 ∷ []; last = 101; text = refl; prefix_taken = refl; last_dropped = refl; prefix_no_word = refl; prefix_no_hole = refl; last_no_word = refl; last_no_hole = refl; prefix_identifier = letters_identifier 116 (121 ∷ 112 ∷ []) refl; prefix_letters = refl; last_letter = refl }
keyword_parts keyword.True = record { prefix = 116 ∷ 114 ∷ 117 ∷ []; last = 101; text = refl; prefix_taken = refl; last_dropped = refl; prefix_no_word = refl; prefix_no_hole = refl; last_no_word = refl; last_no_hole = refl; prefix_identifier = letters_identifier 116 (114 ∷ 117 ∷ []) refl; prefix_letters = refl; last_letter = refl }
keyword_parts keyword.False = record { prefix = 102 ∷ 97 ∷ 108 ∷ 115 ∷ []; last = 101; text = refl; prefix_taken = refl; last_dropped = refl; prefix_no_word = refl; prefix_no_hole = refl; last_no_word = refl; last_no_hole = refl; prefix_identifier = letters_identifier 102 (97 ∷ 108 ∷ 115 ∷ []) refl; prefix_letters = refl; last_letter = refl }
keyword_parts keyword.Not = record { prefix = 110 ∷ 111 ∷ []; last = 116; text = refl; prefix_taken = refl; last_dropped = refl; prefix_no_word = refl; prefix_no_hole = refl; last_no_word = refl; last_no_hole = refl; prefix_identifier = letters_identifier 110 (111 ∷ []) refl; prefix_letters = refl; last_letter = refl }
keyword_parts keyword.Num = record { prefix = 110 ∷ 117 ∷ []; last = 109; text = refl; prefix_taken = refl; last_dropped = refl; prefix_no_word = refl; prefix_no_hole = refl; last_no_word = refl; last_no_hole = refl; prefix_identifier = letters_identifier 110 (117 ∷ []) refl; prefix_letters = refl; last_letter = refl }
keyword_parts keyword.Bool = record { prefix = 98 ∷ 111 ∷ 111 ∷ []; last = 108; text = refl; prefix_taken = refl; last_dropped = refl; prefix_no_word = refl; prefix_no_hole = refl; last_no_word = refl; last_no_hole = refl; prefix_identifier = letters_identifier 98 (111 ∷ 111 ∷ []) refl; prefix_letters = refl; last_letter = refl }
keyword_parts keyword.List = record { prefix = 108 ∷ 105 ∷ 115 ∷ []; last = 116; text = refl; prefix_taken = refl; last_dropped = refl; prefix_no_word = refl; prefix_no_hole = refl; last_no_word = refl; last_no_hole = refl; prefix_identifier = letters_identifier 108 (105 ∷ 115 ∷ []) refl; prefix_letters = refl; last_letter = refl }
keyword_parts keyword.Measure = record { prefix = 77 ∷ 101 ∷ 97 ∷ 115 ∷ 117 ∷ 114 ∷ []; last = 101; text = refl; prefix_taken = refl; last_dropped = refl; prefix_no_word = refl; prefix_no_hole = refl; last_no_word = refl; last_no_hole = refl; prefix_identifier = letters_identifier 77 (101 ∷ 97 ∷ 115 ∷ 117 ∷ 114 ∷ []) refl; prefix_letters = refl; last_letter = refl }
keyword_parts keyword.Pown = record { prefix = 112 ∷ 111 ∷ 119 ∷ []; last = 110; text = refl; prefix_taken = refl; last_dropped = refl; prefix_no_word = refl; prefix_no_hole = refl; last_no_word = refl; last_no_hole = refl; prefix_identifier = letters_identifier 112 (111 ∷ 119 ∷ []) refl; prefix_letters = refl; last_letter = refl }

pub last_encoded : (c : ℕ) → is_ascii_alphabetic c ≡ true → encodes (c ∷ []) ≡ c ∷ []
last_encoded c e = ap (λ x. x ++ []) (encode_ascii c (alphabetic_small c e))

-- the character that a symbol begins with is no white space, letter, digit or quote
abbrev pub IsMark : ℕ → Type 0
IsMark c = (is_space c ≡ false) × (c < 128) × ((eqb c 95 || is_ascii_alphabetic c) ≡ false) × (is_ascii_digit c ≡ false) × (eqb c 39 ≡ false)

pub single_symbol-mark : (c : ℕ) (k : Symbol) → single_symbol c ≡ Some k → IsMark c
single_symbol-mark c k e = found_each (λ c k. IsMark c) c k single_symbols ((refl, lit< tt, refl, refl, refl), ((refl, lit< tt, refl, refl, refl), ((refl, lit< tt, refl, refl, refl), ((refl, lit< tt, refl, refl, refl), ((refl, lit< tt, refl, refl, refl), ((refl, lit< tt, refl, refl, refl), ((refl, lit< tt, refl, refl, refl), ((refl, lit< tt, refl, refl, refl), ((refl, lit< tt, refl, refl, refl), ((refl, lit< tt, refl, refl, refl), ((refl, lit< tt, refl, refl, refl), ((refl, lit< tt, refl, refl, refl), ((refl, lit< tt, refl, refl, refl), ((refl, lit< tt, refl, refl, refl), ((refl, lit< tt, refl, refl, refl), ((refl, lit< tt, refl, refl, refl), ((refl, lit< tt, refl, refl, refl), ((refl, lit< tt, refl, refl, refl), ((refl, lit< tt, refl, refl, refl), tt))))))))))))))))))) e

pub double_symbol-mark : (a b : ℕ) (k : Symbol) → double_symbol a b ≡ Some k → IsMark a
double_symbol-mark a b k e = found_each_pair (λ a b k. IsMark a) a b k double_symbols ((refl, lit< tt, refl, refl, refl), ((refl, lit< tt, refl, refl, refl), ((refl, lit< tt, refl, refl, refl), ((refl, lit< tt, refl, refl, refl), ((refl, lit< tt, refl, refl, refl), ((refl, lit< tt, refl, refl, refl), ((refl, lit< tt, refl, refl, refl), tt))))))) e
