-- What an answer means for the characters from a place on, and how the meaning carries over a gap and over a token.
use Rattle.std.proofs.Common.{◌≡◌, ℕ, ◌+◌, List, [], ◌∷◌, ◌++◌, Some, Result, Ok, Err, refl, sym, ap, subst, ◌∙◌, arith, append_assoc}
use Rattle.um_syntax.specs.declared.token.Kind.{Kind}
use Rattle.um_syntax.specs.declared.token.Token.{Token}
use Rattle.um_syntax.specs.declared.token.LexStop.{LexStop}
use Rattle.um_syntax.specs.Gap.{IsGap, nothing, space, comment, IsLastGap, closed, unclosed}
use Rattle.um_syntax.specs.Lexeme.{Lexeme, text_of, IsLexeme, Ends, IsAlone, kind_of}
use Rattle.um_syntax.specs.Lexing.{size_of, is_glued, is_power_place, IsNext, Lexes, Faulty, Refuses}
use Rattle.um_syntax.proofs.Places.{size_of-append}

-- After the tokens before, which end at `at`, the characters have the answer: all tokens, or a refusal.
abbrev pub Means : List Token → ℕ → List ℕ → Result (List Token) LexStop → Type 0
Means before at chars (Ok all) = (tokens : List Token) × (all ≡ before ++ tokens) × Lexes before at chars tokens
Means before at chars (Err stop) = (tokens : List Token) × Refuses before at chars tokens stop

pub IsGap-append : {a b : List ℕ} → IsGap a → IsGap b → IsGap (a ++ b)
IsGap-append nothing h = h
IsGap-append (space e g) h = space e (IsGap-append g h)
IsGap-append {a} {b} (comment line {more} l g) h =
    subst (λ x. IsGap (47 ∷ 47 ∷ x)) (sym (append_assoc line (10 ∷ more) b)) (comment line l (IsGap-append g h))

skip_next : (gap : List ℕ) → IsGap gap → (before : List Token) (at : ℕ) (chars : List ℕ) (token : Token) (more : List ℕ) → IsNext before (at + size_of gap) chars token more → IsNext before at (gap ++ chars) token more
skip_next gap g before at chars token more n = record {
  gap = gap ++ n.gap;
  lexeme = n.lexeme;
  cut = ap (λ x. gap ++ x) n.cut ∙ sym (append_assoc gap n.gap (text_of n.lexeme ++ more));
  skipped = IsGap-append g n.skipped;
  fits = n.fits;
  longest = n.longest;
  alone = n.alone;
  kind = n.kind;
  start = omega (arith, n.start, size_of-append gap n.gap);
  end = n.end;
  glued = n.glued;
}

skip_last : {gap chars : List ℕ} → IsGap gap → IsLastGap chars → IsLastGap (gap ++ chars)
skip_last g (closed h) = closed (IsGap-append g h)
skip_last {gap} g (unclosed line {gap = inner} h l) = subst IsLastGap (append_assoc gap inner (47 ∷ 47 ∷ line)) (unclosed line (IsGap-append g h) l)

skip_lexes : (gap : List ℕ) → IsGap gap → (before : List Token) (at : ℕ) (chars : List ℕ) (tokens : List Token) → Lexes before (at + size_of gap) chars tokens → Lexes before at (gap ++ chars) tokens
skip_lexes gap g before at chars [] l = skip_last g l
skip_lexes gap g before at chars (t ∷ ts) l = (l.0, skip_next gap g before at chars t l.0 l.1, l.2)

skip_refuses : (gap : List ℕ) → IsGap gap → (before : List Token) (at : ℕ) (chars : List ℕ) (tokens : List Token) (stop : LexStop) → Refuses before (at + size_of gap) chars tokens stop → Refuses before at (gap ++ chars) tokens stop
skip_refuses gap g before at chars [] stop r =
    let place : at + size_of gap + size_of r.0 ≡ at + size_of (gap ++ r.0) = omega (arith, size_of-append gap r.0) in
    (gap ++ r.0, r.1, ap (λ x. gap ++ x) r.2 ∙ sym (append_assoc gap r.0 r.1), IsGap-append g r.3, subst (λ p. Faulty before p r.1 stop) place r.4)
skip_refuses gap g before at chars (t ∷ ts) stop r = (r.0, skip_next gap g before at chars t r.0 r.1, r.2)

pub skip : (gap : List ℕ) → IsGap gap → (before : List Token) (at : ℕ) (chars : List ℕ) (answer : Result (List Token) LexStop) → Means before (at + size_of gap) chars answer → Means before at (gap ++ chars) answer
skip gap g before at chars (Ok all) m = (m.0, m.1, skip_lexes gap g before at chars m.0 m.2)
skip gap g before at chars (Err stop) m = (m.0, skip_refuses gap g before at chars m.0 stop m.1)

pub next_token : (before : List Token) (at : ℕ) (chars : List ℕ) (token : Token) (more : List ℕ) (answer : Result (List Token) LexStop) → IsNext before at chars token more → Means (before ++ token ∷ []) token.end more answer → Means before at chars answer
next_token before at chars token more (Ok all) n m = (token ∷ m.0, m.1 ∙ append_assoc before (token ∷ []) m.0, (more, n, m.2))
next_token before at chars token more (Err stop) n m = (token ∷ m.0, (more, n, m.1))

-- the fault of what stands at the place
pub faulty_here : (before : List Token) (at : ℕ) (chars : List ℕ) (stop : LexStop) → Faulty before at chars stop → Means before at chars (Err stop)
faulty_here before at chars stop f =
    let place : at ≡ at + size_of [] = omega arith in
    ([], ([], chars, refl, nothing, subst (λ p. Faulty before p chars stop) place f))

-- a token at the place itself
pub token_here : (before : List Token) (at : ℕ) (lexeme : Lexeme) (more : List ℕ) (chars : List ℕ) (kind : Kind) (end : ℕ) → chars ≡ text_of lexeme ++ more → IsLexeme lexeme → Ends lexeme more → IsAlone lexeme more
    → kind_of (is_power_place before) lexeme ≡ Some kind → end ≡ at + size_of (text_of lexeme)
    → IsNext before at chars (record { kind = kind; start = at; end = end; glued = is_glued before at }) more
token_here before at lexeme more chars kind end cut fits longest alone is_kind is_end = record {
  gap = [];
  lexeme = lexeme;
  cut = cut;
  skipped = nothing;
  fits = fits;
  longest = longest;
  alone = alone;
  kind = is_kind;
  start = omega arith;
  end = is_end;
  glued = refl;
}
