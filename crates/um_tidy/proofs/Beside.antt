-- What may stand directly after the text of a token.
use Rattle.std.proofs.Common.{◌≡◌, ℕ, ◌<◌, Bool, true, false, cond, ◌==◌, ◌||◌, ◌&&◌, eqb, List, [], ◌∷◌, ◌++◌, Option, Some, None, is_some, option_map, bytes_eq, encode_utf8_all, refl, sym, ap, subst, ◌∙◌, inl, ⊎_elim, lit<}
use Rattle.std.proofs.lemmas.Bool.{false≢true, eqb-true, or_from}
use Rattle.std.specs.Char.{is_ascii_digit, is_ascii_alphanumeric}
use Rattle.unicode_ident.specs.Ident.{is_xid_continue}
use Rattle.unicode_ident.proofs.IdentLemmas.{is_xid_continue-ascii}
use Rattle.um_frac.specs.declared.number.Frac.{Frac}
use Rattle.um_syntax.specs.declared.token.Kind.{Kind}
use Rattle.um_syntax.specs.declared.token.Kind.TheVariants as kind
use Rattle.um_vocabulary.specs.declared.vocabulary.Symbol.{Symbol}
use Rattle.um_vocabulary.specs.declared.vocabulary.Symbol.TheVariants as symbol
use Rattle.um_vocabulary.specs.Vocabulary.{symbol_text}
use Rattle.um_syntax.specs.Numeral.{Whole, Decimal, Ratio, number_value, numeral_text}
use Rattle.um_syntax.specs.Lexeme.{starts_name, Lexeme, Name, Var, Number, Word, Hole, Sign, text_of, IsLexeme, begins, begins_part, SignEnds, Ends, IsAlone, is_whole, kind_of}
use Rattle.um_vocabulary.specs.Tables.{double_symbol, double_symbols, found_pair}
use Rattle.um_vocabulary.proofs.Tables.{symbol_form}
use Rattle.um_syntax.proofs.Texts.{head_of}
use Rattle.um_syntax.proofs.Reading.{ascii_no_name, digit_no_name}
use Rattle.um_syntax.proofs.Closing.{or_false}
use Rattle.um_syntax.proofs.SignEnds.{grows, sign_ends}
use Rattle.um_tidy.specs.Spaces.{goes_on, is_dot, sign_runs_into, begins_lettered, runs_into}

-- ---- longer signs

abbrev pub first_of : List ℕ → ℕ
first_of [] = 0
first_of (c ∷ cs) = c

-- the table of such signs is right
goes_same : (s t : Symbol) → goes_on s t ≡ grows (symbol_text s) (first_of (symbol_text t))
goes_same symbol.LeftBracket symbol.Dot = refl
goes_same symbol.LeftBracket _ = refl
goes_same symbol.Less symbol.Dot = refl
goes_same symbol.Less _ = refl
goes_same symbol.Colon symbol.Dot = refl
goes_same symbol.Colon _ = refl
goes_same symbol.Bar symbol.Dot = refl
goes_same symbol.Bar _ = refl
goes_same symbol.Minus symbol.Dot = refl
goes_same symbol.Minus _ = refl
goes_same symbol.Slash symbol.Dot = refl
goes_same symbol.Slash _ = refl
goes_same _ t = refl

-- the second characters of signs, and the slash
abbrev is_second : ℕ → Bool
is_second c = c == 60 || (c == 61 || (c == 62 || (c == 58 || (c == 124 || (c == 38 || c == 47)))))

abbrev NoSecond : ℕ → List (ℕ × ℕ × Symbol) → Type 0
NoSecond c [] = Unit {0}
NoSecond c (x ∷ xs) = (eqb c x.1 ≡ false) × NoSecond c xs

and_no : (a b : Bool) → b ≡ false → (a && b) ≡ false
and_no true b e = e
and_no false b e = refl

no_and : (a b : Bool) → a ≡ false → (a && b) ≡ false
no_and true b e = absurd (false≢true (sym e))
no_and false b e = refl

no_pair : (a c : ℕ) (xs : List (ℕ × ℕ × Symbol)) → NoSecond c xs → found_pair a c xs ≡ None
no_pair a c [] none = refl
no_pair a c (x ∷ xs) none = ap (λ b. cond b (Some x.2) (found_pair a c xs)) (and_no (eqb a x.0) (eqb c x.1) none.0) ∙ no_pair a c xs none.1

quiet : (t : List ℕ) (c : ℕ) → is_second c ≡ false → grows t c ≡ false
quiet [] c e = refl
quiet (a ∷ []) c e =
    let less = or_false _ _ e in let equal = or_false _ _ less.1 in let greater = or_false _ _ equal.1 in
    let colon = or_false _ _ greater.1 in let bar = or_false _ _ colon.1 in let and = or_false _ _ bar.1 in
    or_from (is_some (double_symbol a c)) (a == 47 && c == 47)
    (ap is_some (no_pair a c double_symbols (less.0, (equal.0, (greater.0, (colon.0, (bar.0, (and.0, (greater.0, tt)))))))))
    (and_no (a == 47) (c == 47) and.1)
quiet (a ∷ b ∷ more) c e = refl

-- ---- first characters

other : (p : ℕ → Bool) (c x : ℕ) → p c ≡ true → p x ≡ false → (c == x) ≡ false
other p c x passes fails = by_test (c == x) refl
  where
    by_test : (b : Bool) → (c == x) ≡ b → (c == x) ≡ false
    by_test true e = absurd (false≢true (sym fails ∙ ap p (sym (eqb-true c x e)) ∙ passes))
    by_test false e = e

no_second : (p : ℕ → Bool) (c : ℕ) → p c ≡ true → p 60 ≡ false → p 61 ≡ false → p 62 ≡ false → p 58 ≡ false → p 124 ≡ false → p 38 ≡ false → p 47 ≡ false → is_second c ≡ false
no_second p c passes less equal greater colon bar and slash =
    or_from _ _ (other p c 60 passes less) (or_from _ _ (other p c 61 passes equal) (or_from _ _ (other p c 62 passes greater)
    (or_from _ _ (other p c 58 passes colon) (or_from _ _ (other p c 124 passes bar) (or_from _ _ (other p c 38 passes and) (other p c 47 passes slash))))))

letter_no_second : (c : ℕ) → starts_name c ≡ true → is_second c ≡ false
letter_no_second c passes =
    no_second starts_name c passes (ascii_no_name 60 (lit< tt) refl) (ascii_no_name 61 (lit< tt) refl) (ascii_no_name 62 (lit< tt) refl)
    (ascii_no_name 58 (lit< tt) refl) (ascii_no_name 124 (lit< tt) refl) (ascii_no_name 38 (lit< tt) refl) (ascii_no_name 47 (lit< tt) refl)

digit_no_second : (c : ℕ) → is_ascii_digit c ≡ true → is_second c ≡ false
digit_no_second c passes = no_second is_ascii_digit c passes refl refl refl refl refl refl refl

letter_no_digit : (c : ℕ) → starts_name c ≡ true → is_ascii_digit c ≡ false
letter_no_digit c passes = by_test (is_ascii_digit c) refl
  where
    by_test : (b : Bool) → is_ascii_digit c ≡ b → is_ascii_digit c ≡ false
    by_test true e = absurd (false≢true (sym (digit_no_name c e) ∙ passes))
    by_test false e = e

-- the first characters of signs
abbrev starts_part : ℕ → Bool
starts_part c = c == 46 || c == 114

pub mark_low : (t : Symbol) → first_of (symbol_text t) < 128
mark_low symbol.Dot = lit< tt
mark_low _ = lit< tt

mark_plain : (t : Symbol) → (is_ascii_alphanumeric (first_of (symbol_text t)) || (first_of (symbol_text t) == 95)) ≡ false
mark_plain symbol.Dot = refl
mark_plain _ = refl

mark_stops : (t : Symbol) → is_xid_continue (first_of (symbol_text t)) ≡ false
mark_stops t = is_xid_continue-ascii (first_of (symbol_text t)) (mark_low t) ∙ mark_plain t

mark_no_digit : (t : Symbol) → is_ascii_digit (first_of (symbol_text t)) ≡ false
mark_no_digit symbol.Dot = refl
mark_no_digit _ = refl

mark_no_part : (t : Symbol) → is_dot t ≡ false → starts_part (first_of (symbol_text t)) ≡ false
mark_no_part symbol.Dot e = absurd (false≢true (sym e))
mark_no_part _ e = refl

dot_text : (t : Symbol) → is_dot t ≡ true → symbol_text t ≡ 46 ∷ []
dot_text symbol.Dot e = refl
dot_text _ e = absurd (false≢true e)

-- ---- what a token's text stops at

pub record Stops (u : Lexeme) (more : List ℕ) : Type 0 where
  pub ends : Ends u more
  pub alone : IsAlone u more

abbrev EndsSign : Lexeme → List ℕ → Type 0
EndsSign (Sign s) more = SignEnds (symbol_text s) more
EndsSign _ more = Unit {0}

stops_by : (u : Lexeme) (c : ℕ) (more : List ℕ) → is_xid_continue c ≡ false → is_ascii_digit c ≡ false → begins_part (c ∷ more) ≡ false → EndsSign u (c ∷ more) → Stops u (c ∷ more)
stops_by (Name text) c more letter digit part sign = record { ends = letter; alone = tt }
stops_by (Var name) c more letter digit part sign = record { ends = inl letter; alone = tt }
stops_by (Number (Whole digits)) c more letter digit part sign = record { ends = (digit, part); alone = letter }
stops_by (Number (Decimal whole last)) c more letter digit part sign = record { ends = digit; alone = letter }
stops_by (Number (Ratio above below)) c more letter digit part sign = record { ends = digit; alone = letter }
stops_by (Word k) c more letter digit part sign = record { ends = letter; alone = tt }
stops_by Hole c more letter digit part sign = record { ends = letter; alone = tt }
stops_by (Sign s) c more letter digit part sign = record { ends = sign; alone = tt }

sign_at : (u : Lexeme) (c : ℕ) (more : List ℕ) → is_second c ≡ false → EndsSign u (c ∷ more)
sign_at (Name text) c more e = tt
sign_at (Var name) c more e = tt
sign_at (Number n) c more e = tt
sign_at (Word k) c more e = tt
sign_at Hole c more e = tt
sign_at (Sign s) c more e = sign_ends s c more (quiet (symbol_text s) c e)

-- a space or a line feed
abbrev pub is_blank : ℕ → Bool
is_blank c = c == 32 || c == 10

pub stops_at_blank : (u : Lexeme) (c : ℕ) (more : List ℕ) → is_blank c ≡ true → Stops u (c ∷ more)
stops_at_blank u c more e = by_test (c == 32) refl
  where
    at : (x : ℕ) → c ≡ x → Stops u (x ∷ more) → Stops u (c ∷ more)
    at x same s = subst (λ y. Stops u (y ∷ more)) (sym same) s

    by_test : (b : Bool) → (c == 32) ≡ b → Stops u (c ∷ more)
    by_test true t = at 32 (eqb-true c 32 t) (stops_by u 32 more (is_xid_continue-ascii 32 (lit< tt)) refl refl (sign_at u 32 more refl))
    by_test false t =
        let feed : (c == 10) ≡ true = sym (ap (λ b. b || (c == 10)) t) ∙ e in
        at 10 (eqb-true c 10 feed) (stops_by u 10 more (is_xid_continue-ascii 10 (lit< tt)) refl refl (sign_at u 10 more refl))

-- ---- two tokens side by side

abbrev pub sign_runs : Symbol → Lexeme → Bool
sign_runs s (Sign t) = goes_on s t
sign_runs s (Number n) = is_dot s
sign_runs s _ = false

abbrev pub letters : Lexeme → Bool
letters (Var name) = false
letters (Sign t) = false
letters _ = true

abbrev pub lexeme_runs : Lexeme → Lexeme → Bool
lexeme_runs (Sign s) v = sign_runs s v
lexeme_runs _ v = letters v

abbrev pub PointStops : Lexeme → List ℕ → Type 0
PointStops (Sign t) rest = is_dot t ≡ true → begins is_ascii_digit rest ≡ false
PointStops _ rest = Unit {0}

-- a sign after a token
module _ (u : Lexeme) (t : Symbol) (rest : List ℕ) (point : is_dot t ≡ true → begins is_ascii_digit rest ≡ false) (sign : (c : ℕ) (more : List ℕ) → c ≡ first_of (symbol_text t) → EndsSign u (c ∷ more)) where
  by_head : (c : ℕ) (cs : List ℕ) → symbol_text t ≡ c ∷ cs → Stops u (symbol_text t ++ rest)
  by_head c cs e = by_dot (is_dot t) refl
    where
      first : first_of (symbol_text t) ≡ c
      first = ap first_of e

      by_dot : (b : Bool) → is_dot t ≡ b → Stops u (symbol_text t ++ rest)
      by_dot true d =
          subst (λ x. Stops u (x ++ rest)) (sym (dot_text t d))
          (stops_by u 46 rest (is_xid_continue-ascii 46 (lit< tt)) refl (point d) (sign 46 rest (sym (ap first_of (dot_text t d)))))
      by_dot false d =
          subst (λ x. Stops u (x ++ rest)) (sym e)
          (stops_by u c (cs ++ rest) (subst (λ x. is_xid_continue x ≡ false) first (mark_stops t)) (subst (λ x. is_ascii_digit x ≡ false) first (mark_no_digit t))
          (no_and (starts_part c) (begins is_ascii_digit (cs ++ rest)) (subst (λ x. starts_part x ≡ false) first (mark_no_part t d))) (sign c (cs ++ rest) (sym first)))

  sign_after : Stops u (symbol_text t ++ rest)
  sign_after = ⊎_elim (λ f. by_head f.0 [] f.1) (λ f. by_head f.0 (f.1 ∷ []) f.2) (symbol_form t)

quote_after : (u : Lexeme) (more : List ℕ) → Stops u (39 ∷ more)
quote_after u more = stops_by u 39 more (is_xid_continue-ascii 39 (lit< tt)) refl refl (sign_at u 39 more refl)

-- after a sign
plain_after : (s : Symbol) (v : Lexeme) (rest : List ℕ) (c : ℕ) (cs : List ℕ) → text_of v ≡ c ∷ cs → is_second c ≡ false → Stops (Sign s) (text_of v ++ rest)
plain_after s v rest c cs e second = subst (λ x. Stops (Sign s) (x ++ rest)) (sym e) (record { ends = sign_ends s c (cs ++ rest) (quiet (symbol_text s) c second); alone = tt })

pub beside : (u v : Lexeme) (rest : List ℕ) → IsLexeme v → lexeme_runs u v ≡ false → PointStops v rest → Stops u (text_of v ++ rest)
beside (Sign s) (Sign t) rest fits runs point =
    sign_after (Sign s) t rest point (λ c more same. sign_ends s c more (ap (grows (symbol_text s)) same ∙ sym (goes_same s t) ∙ runs))
beside (Sign s) (Var name) rest fits runs point = quote_after (Sign s) (name ++ rest)
beside (Sign s) (Number n) rest fits runs point = let h = head_of (Number n) fits in plain_after s (Number n) rest h.0 h.1 h.2 (digit_no_second h.0 h.3)
beside (Sign s) (Name text) rest fits runs point = let h = head_of (Name text) fits in plain_after s (Name text) rest h.0 h.1 h.2 (letter_no_second h.0 h.3)
beside (Sign s) (Word k) rest fits runs point = let h = head_of (Word k) fits in plain_after s (Word k) rest h.0 h.1 h.2 (letter_no_second h.0 h.3)
beside (Sign s) Hole rest fits runs point = let h = head_of Hole fits in plain_after s Hole rest h.0 h.1 h.2 (letter_no_second h.0 h.3)
beside (Name x) (Sign t) rest fits runs point = sign_after (Name x) t rest point (λ c more same. tt)
beside (Var x) (Sign t) rest fits runs point = sign_after (Var x) t rest point (λ c more same. tt)
beside (Number x) (Sign t) rest fits runs point = sign_after (Number x) t rest point (λ c more same. tt)
beside (Word x) (Sign t) rest fits runs point = sign_after (Word x) t rest point (λ c more same. tt)
beside Hole (Sign t) rest fits runs point = sign_after Hole t rest point (λ c more same. tt)
beside (Name x) (Var name) rest fits runs point = quote_after (Name x) (name ++ rest)
beside (Var x) (Var name) rest fits runs point = quote_after (Var x) (name ++ rest)
beside (Number x) (Var name) rest fits runs point = quote_after (Number x) (name ++ rest)
beside (Word x) (Var name) rest fits runs point = quote_after (Word x) (name ++ rest)
beside Hole (Var name) rest fits runs point = quote_after Hole (name ++ rest)
beside (Name x) _ rest fits runs point = absurd (false≢true (sym runs))
beside (Var x) _ rest fits runs point = absurd (false≢true (sym runs))
beside (Number x) _ rest fits runs point = absurd (false≢true (sym runs))
beside (Word x) _ rest fits runs point = absurd (false≢true (sym runs))
beside Hole _ rest fits runs point = absurd (false≢true (sym runs))

-- no digit stands directly after a point
pub after_point : (s : Symbol) (v : Lexeme) (rest : List ℕ) → is_dot s ≡ true → IsLexeme v → lexeme_runs (Sign s) v ≡ false → begins is_ascii_digit (text_of v ++ rest) ≡ false
after_point s (Number n) rest dot fits runs = absurd (false≢true (sym runs ∙ dot))
after_point s (Var name) rest dot fits runs = refl
after_point s (Sign t) rest dot fits runs =
    ⊎_elim (λ f. subst (λ x. begins is_ascii_digit (x ++ rest) ≡ false) (sym f.1) (subst (λ x. is_ascii_digit x ≡ false) (ap first_of f.1) (mark_no_digit t)))
    (λ f. subst (λ x. begins is_ascii_digit (x ++ rest) ≡ false) (sym f.2) (subst (λ x. is_ascii_digit x ≡ false) (ap first_of f.2) (mark_no_digit t))) (symbol_form t)
after_point s (Name text) rest dot fits runs = let h = head_of (Name text) fits in subst (λ x. begins is_ascii_digit (x ++ rest) ≡ false) (sym h.2) (letter_no_digit h.0 h.3)
after_point s (Word k) rest dot fits runs = let h = head_of (Word k) fits in subst (λ x. begins is_ascii_digit (x ++ rest) ≡ false) (sym h.2) (letter_no_digit h.0 h.3)
after_point s Hole rest dot fits runs = refl

-- ---- kinds and lexemes

-- it holds of each kind that the lexeme has
abbrev pub HoldsOf : (Kind → Type 0) → Lexeme → Type 0
HoldsOf P (Name text) = P (kind.Name (encode_utf8_all text))
HoldsOf P (Var name) = P (kind.Var (encode_utf8_all name))
HoldsOf P (Number n) = (value : Frac) (digits one : Bool) → P (kind.Number value digits one)
HoldsOf P (Word k) = P (kind.Word k)
HoldsOf P Hole = P kind.Hole
HoldsOf P (Sign k) = P (kind.Sign k)

of_kind : (P : Kind → Type 0) (x k : Kind) → Some x ≡ Some k → P x → P k
of_kind P x k e h = let same : x ≡ k = cc in subst P same h

of_value : (P : Kind → Type 0) (f : Frac → Kind) (o : Option Frac) (k : Kind) → ((v : Frac) → P (f v)) → option_map f o ≡ Some k → P k
of_value P f None k h e = absurd (no_kind k e)
  where
    no_kind : (k : Kind) → ◌≡◌ {A = Option Kind} None (Some k) → ⊥
    no_kind k e = cc
of_value P f (Some v) k h e = of_kind P (f v) k e (h v)

pub by_kind : (P : Kind → Type 0) (power : Bool) (u : Lexeme) (k : Kind) → HoldsOf P u → kind_of power u ≡ Some k → P k
by_kind P power (Name text) k h e = of_kind P (kind.Name (encode_utf8_all text)) k e h
by_kind P power (Var name) k h e = of_kind P (kind.Var (encode_utf8_all name)) k e h
by_kind P power (Number n) k h e =
    of_value P (λ v. kind.Number v (is_whole n) (bytes_eq (numeral_text n) (49 ∷ []))) (number_value power n) k (λ v. h v (is_whole n) (bytes_eq (numeral_text n) (49 ∷ []))) e
by_kind P power (Word n) k h e = of_kind P (kind.Word n) k e h
by_kind P power Hole k h e = of_kind P kind.Hole k e h
by_kind P power (Sign n) k h e = of_kind P (kind.Sign n) k e h

lettered : (v : Lexeme) → HoldsOf (λ l. begins_lettered l ≡ letters v) v
lettered (Name text) = refl
lettered (Var name) = refl
lettered (Number n) = λ value digits one. refl
lettered (Word k) = refl
lettered Hole = refl
lettered (Sign k) = refl

signed : (s : Symbol) (v : Lexeme) → HoldsOf (λ l. sign_runs_into s l ≡ sign_runs s v) v
signed s (Name text) = refl
signed s (Var name) = refl
signed s (Number n) = λ value digits one. refl
signed s (Word k) = refl
signed s Hole = refl
signed s (Sign k) = refl

left_alike : (q : Bool) (u v : Lexeme) (l : Kind) → kind_of q v ≡ Some l → HoldsOf (λ k. runs_into k l ≡ lexeme_runs u v) u
left_alike q (Name x) v l also = by_kind (λ j. begins_lettered j ≡ letters v) q v l (lettered v) also
left_alike q (Var x) v l also = by_kind (λ j. begins_lettered j ≡ letters v) q v l (lettered v) also
left_alike q (Number n) v l also = λ value digits one. by_kind (λ j. begins_lettered j ≡ letters v) q v l (lettered v) also
left_alike q (Word k) v l also = by_kind (λ j. begins_lettered j ≡ letters v) q v l (lettered v) also
left_alike q Hole v l also = by_kind (λ j. begins_lettered j ≡ letters v) q v l (lettered v) also
left_alike q (Sign s) v l also = by_kind (λ j. sign_runs_into s j ≡ sign_runs s v) q v l (signed s v) also

-- the table on kinds is that on texts
pub runs_alike : (p q : Bool) (u v : Lexeme) (k l : Kind) → kind_of p u ≡ Some k → kind_of q v ≡ Some l → runs_into k l ≡ lexeme_runs u v
runs_alike p q u v k l is also = by_kind (λ j. runs_into j l ≡ lexeme_runs u v) p u k (left_alike q u v l also) is
