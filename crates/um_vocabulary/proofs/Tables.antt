-- The tables of reserved words and symbols, and how an entry is found.
use Rattle.std.proofs.Common.{◌≡◌, ◌≢◌, ℕ, Bool, true, false, cond, ◌&&◌, ◌||◌, eqb, List, [], ◌∷◌, Option, None, Some, is_some, refl, sym, ap, subst, ◌∙◌, ◌⊎◌, inl, inr, ⊎_elim}
use Rattle.std.proofs.lemmas.Slice.Eq.{bytes_eq-Decides}
use Rattle.std.proofs.lemmas.Bool.{false≢true, eqb-true}
use Rattle.std.specs.Str.{bytes_eq}
use Rattle.um_vocabulary.specs.declared.vocabulary.Keyword.{Keyword}
use Rattle.um_vocabulary.specs.declared.vocabulary.Keyword.TheVariants as keyword
use Rattle.um_vocabulary.specs.declared.vocabulary.Symbol.{Symbol}
use Rattle.um_vocabulary.specs.declared.vocabulary.Symbol.TheVariants as symbol
use Rattle.um_vocabulary.specs.Vocabulary.{keyword_text, symbol_text}
use Rattle.um_vocabulary.specs.Tables.{keywords, found_keyword, keyword_of, found, found_pair, single_symbols, single_symbol, double_symbols, double_symbol}
use Rattle.um_vocabulary.proofs.Bools.{and_parts}

-- a symbol is of one character or of two
abbrev pub SymbolForm : Symbol → Type 0
SymbolForm k = ((c : ℕ) × (symbol_text k ≡ c ∷ []) × (single_symbol c ≡ Some k)) ⊎ ((a b : ℕ) × (symbol_text k ≡ a ∷ b ∷ []) × (double_symbol a b ≡ Some k))

pub symbol_form : (k : Symbol) → SymbolForm k
symbol_form symbol.LeftParen = inl (40, refl, refl)
symbol_form symbol.RightParen = inl (41, refl, refl)
symbol_form symbol.LeftBracket = inl (91, refl, refl)
symbol_form symbol.RightBracket = inl (93, refl, refl)
symbol_form symbol.LeftBrace = inl (123, refl, refl)
symbol_form symbol.RightBrace = inl (125, refl, refl)
symbol_form symbol.AttributeOpen = inr (91, 60, refl, refl)
symbol_form symbol.Less = inl (60, refl, refl)
symbol_form symbol.Greater = inl (62, refl, refl)
symbol_form symbol.Equal = inl (61, refl, refl)
symbol_form symbol.LessEqual = inr (60, 61, refl, refl)
symbol_form symbol.NotEqual = inr (60, 62, refl, refl)
symbol_form symbol.Plus = inl (43, refl, refl)
symbol_form symbol.Minus = inl (45, refl, refl)
symbol_form symbol.Star = inl (42, refl, refl)
symbol_form symbol.Slash = inl (47, refl, refl)
symbol_form symbol.Caret = inl (94, refl, refl)
symbol_form symbol.Semicolon = inl (59, refl, refl)
symbol_form symbol.Colon = inl (58, refl, refl)
symbol_form symbol.ColonColon = inr (58, 58, refl, refl)
symbol_form symbol.Comma = inl (44, refl, refl)
symbol_form symbol.Dot = inl (46, refl, refl)
symbol_form symbol.Bar = inl (124, refl, refl)
symbol_form symbol.BarBar = inr (124, 124, refl, refl)
symbol_form symbol.AndAnd = inr (38, 38, refl, refl)
symbol_form symbol.Arrow = inr (45, 62, refl, refl)

pub none_some : {A : Type 0} (x : A) → ◌≡◌ {A = Option A} None (Some x) → ⊥
none_some x e = cc

-- what holds of each entry holds of the one that is found
abbrev pub Each : (ℕ → Symbol → Type 0) → List (ℕ × Symbol) → Type 0
Each P [] = Unit {0}
Each P (x ∷ xs) = P x.0 x.1 × Each P xs

entry : (P : ℕ → Symbol → Type 0) (c x : ℕ) (k n : Symbol) (rest : Option Symbol) (b : Bool) → eqb c x ≡ b → P x n → (rest ≡ Some k → P c k) → cond b (Some n) rest ≡ Some k → P c k
entry P c x k n rest true t here there e = let p : x ≡ c = sym (eqb-true c x t) in let q : n ≡ k = cc in subst (λ z. P z k) p (subst (λ z. P x z) q here)
entry P c x k n rest false t here there e = there e

pub found_each : (P : ℕ → Symbol → Type 0) (c : ℕ) (k : Symbol) (xs : List (ℕ × Symbol)) → Each P xs → found c xs ≡ Some k → P c k
found_each P c k [] each e = absurd (none_some k e)
found_each P c k (x ∷ xs) each e = entry P c x.0 k x.1 (found c xs) (eqb c x.0) refl each.0 (λ f. found_each P c k xs each.1 f) e

abbrev IsSingle : ℕ → Symbol → Type 0
IsSingle c k = symbol_text k ≡ c ∷ []

pub single_symbol-text : (c : ℕ) (k : Symbol) → single_symbol c ≡ Some k → symbol_text k ≡ c ∷ []
single_symbol-text c k e = found_each IsSingle c k single_symbols (refl, (refl, (refl, (refl, (refl, (refl, (refl, (refl, (refl, (refl, (refl, (refl, (refl, (refl, (refl, (refl, (refl, (refl, (refl, tt))))))))))))))))))) e

-- the same of two characters
abbrev pub EachPair : (ℕ → ℕ → Symbol → Type 0) → List (ℕ × ℕ × Symbol) → Type 0
EachPair P [] = Unit {0}
EachPair P (x ∷ xs) = P x.0 x.1 x.2 × EachPair P xs

pair_entry : (P : ℕ → ℕ → Symbol → Type 0) (a b x y : ℕ) (k n : Symbol) (rest : Option Symbol) (t : Bool) → (eqb a x && eqb b y) ≡ t → P x y n → (rest ≡ Some k → P a b k) → cond t (Some n) rest ≡ Some k → P a b k
pair_entry P a b x y k n rest true t here there e =
    let both = and_parts (eqb a x) (eqb b y) t in
    let p : x ≡ a = sym (eqb-true a x both.0) in
    let q : y ≡ b = sym (eqb-true b y both.1) in
    let r : n ≡ k = cc in
    subst (λ z. P z b k) p (subst (λ z. P x z k) q (subst (λ z. P x y z) r here))
pair_entry P a b x y k n rest false t here there e = there e

pub found_each_pair : (P : ℕ → ℕ → Symbol → Type 0) (a b : ℕ) (k : Symbol) (xs : List (ℕ × ℕ × Symbol)) → EachPair P xs → found_pair a b xs ≡ Some k → P a b k
found_each_pair P a b k [] each e = absurd (none_some k e)
found_each_pair P a b k (x ∷ xs) each e =
    pair_entry P a b x.0 x.1 k x.2 (found_pair a b xs) (eqb a x.0 && eqb b x.1) refl each.0 (λ f. found_each_pair P a b k xs each.1 f) e

abbrev IsDouble : ℕ → ℕ → Symbol → Type 0
IsDouble a b k = symbol_text k ≡ a ∷ b ∷ []

pub double_symbol-text : (a b : ℕ) (k : Symbol) → double_symbol a b ≡ Some k → symbol_text k ≡ a ∷ b ∷ []
double_symbol-text a b k e = found_each_pair IsDouble a b k double_symbols (refl, (refl, (refl, (refl, (refl, (refl, (refl, tt))))))) e

-- the symbol of a text
pub symbol_text-single : (c : ℕ) (k : Symbol) → symbol_text k ≡ c ∷ [] → single_symbol c ≡ Some k
symbol_text-single c k e = ⊎_elim (λ f. let same : f.0 ≡ c = cc (f.1, e) in subst (λ x. single_symbol x ≡ Some k) same f.2) (λ f. absurd (two_one f.0 f.1 (sym f.2 ∙ e))) (symbol_form k)
  where
    two_one : (a b : ℕ) → ◌≡◌ {A = List ℕ} (a ∷ b ∷ []) (c ∷ []) → ⊥
    two_one a b e = cc

pub symbol_text-double : (a b : ℕ) (k : Symbol) → symbol_text k ≡ a ∷ b ∷ [] → double_symbol a b ≡ Some k
symbol_text-double a b k e =
    ⊎_elim (λ f. absurd (one_two f.0 (sym f.1 ∙ e)))
    (λ f. let same : f.0 ≡ a = cc (f.2, e) in let also : f.1 ≡ b = cc (f.2, e) in subst (λ y. double_symbol a y ≡ Some k) also (subst (λ x. double_symbol x f.1 ≡ Some k) same f.3))
    (symbol_form k)
  where
    one_two : (c : ℕ) → ◌≡◌ {A = List ℕ} (c ∷ []) (a ∷ b ∷ []) → ⊥
    one_two c e = cc

-- no symbol has three characters
pub symbol_text-three : (a b c : ℕ) (more : List ℕ) (k : Symbol) → symbol_text k ≢ a ∷ b ∷ c ∷ more
symbol_text-three a b c more k e = ⊎_elim (λ f. one_three f.0 (sym f.1 ∙ e)) (λ f. two_three f.0 f.1 (sym f.2 ∙ e)) (symbol_form k)
  where
    one_three : (x : ℕ) → ◌≡◌ {A = List ℕ} (x ∷ []) (a ∷ b ∷ c ∷ more) → ⊥
    one_three x e = cc

    two_three : (x y : ℕ) → ◌≡◌ {A = List ℕ} (x ∷ y ∷ []) (a ∷ b ∷ c ∷ more) → ⊥
    two_three x y e = cc

-- Reserved words.
keyword_entry : (letters : List ℕ) (k n : Keyword) (rest : Option Keyword) (b : Bool) → bytes_eq letters (keyword_text n) ≡ b
    → (rest ≡ Some k → letters ≡ keyword_text k) → cond b (Some n) rest ≡ Some k → letters ≡ keyword_text k
keyword_entry letters k n rest true t there e = let same : n ≡ k = cc in (bytes_eq-Decides letters (keyword_text n)).0 t ∙ ap keyword_text same
keyword_entry letters k n rest false t there e = there e

found_keyword-text : (letters : List ℕ) (k : Keyword) (ks : List Keyword) → found_keyword letters ks ≡ Some k → letters ≡ keyword_text k
found_keyword-text letters k [] e = absurd (none_some k e)
found_keyword-text letters k (x ∷ xs) e = keyword_entry letters k x (found_keyword letters xs) (bytes_eq letters (keyword_text x)) refl (λ f. found_keyword-text letters k xs f) e

pub keyword_of-text : (letters : List ℕ) (k : Keyword) → keyword_of letters ≡ Some k → letters ≡ keyword_text k
keyword_of-text letters k e = found_keyword-text letters k keywords e

pub keyword_of-keyword : (k : Keyword) → keyword_of (keyword_text k) ≡ Some k
keyword_of-keyword keyword.Let = refl
keyword_of-keyword keyword.Rec = refl
keyword_of-keyword keyword.In = refl
keyword_of-keyword keyword.If = refl
keyword_of-keyword keyword.Then = refl
keyword_of-keyword keyword.Else = refl
keyword_of-keyword keyword.Match = refl
keyword_of-keyword keyword.With = refl
keyword_of-keyword keyword.Type = refl
keyword_of-keyword keyword.True = refl
keyword_of-keyword keyword.False = refl
keyword_of-keyword keyword.Not = refl
keyword_of-keyword keyword.Num = refl
keyword_of-keyword keyword.Bool = refl
keyword_of-keyword keyword.List = refl
keyword_of-keyword keyword.Measure = refl
keyword_of-keyword keyword.Pown = refl

-- a symbol of two characters begins with a symbol, or with an ampersand
pub double_symbol-first : (a b : ℕ) (k : Symbol) → double_symbol a b ≡ Some k → (is_some (single_symbol a) || eqb a 38) ≡ true
double_symbol-first a b k e = found_each_pair (λ a b k. (is_some (single_symbol a) || eqb a 38) ≡ true) a b k double_symbols (refl, (refl, (refl, (refl, (refl, (refl, (refl, tt))))))) e

-- no symbol of two characters ends with a line feed
pub double_symbol-feed : (a : ℕ) (k : Symbol) → double_symbol a 10 ≡ Some k → ⊥
double_symbol-feed a k e = false≢true (sym (found_each_pair (λ a b k. eqb b 10 ≡ false) a 10 k double_symbols (refl, (refl, (refl, (refl, (refl, (refl, (refl, tt))))))) e))
