-- The leftmost fault of a text is what the machine answers.
use Rattle.std.proofs.Common.{◌≡◌, ◌≢◌, ℕ, ◌+◌, Bool, true, false, ◌||◌, eqb, List, [], ◌∷◌, ◌++◌, Option, None, Some, is_some, Err, refl, sym, ap, subst, ◌∙◌, ⊎_elim, lit<}
use Rattle.std.proofs.lemmas.Bool.{false≢true, eqb-true}
use Rattle.std.proofs.lemmas.Str.{encode_ascii}
use Rattle.std.specs.Char.{is_ascii_digit}
use Rattle.unicode_ident.specs.Ident.{is_xid_continue}
use Rattle.um_vocabulary.specs.declared.vocabulary.Symbol.{Symbol}
use Rattle.um_syntax.specs.declared.token.Kind.{Kind}
use Rattle.um_syntax.specs.declared.token.Token.{Token}
use Rattle.um_syntax.specs.declared.token.LexStop.{LexStop}
use Rattle.um_syntax.specs.declared.token.LexStop.TheVariants.{BadChar, NumberRange, PowerText, NoMemory}
use Rattle.um_syntax.specs.declared.pending.Pending.TheVariants as pending
use Rattle.um_syntax.specs.Numeral.{Numeral, Whole, numeral_text}
use Rattle.um_syntax.specs.Lexeme.{starts_name, IsIdentifier, IsWord, Lexeme, Var, Number, Sign, text_of, IsLexeme, begins, kind_of}
use Rattle.um_syntax.specs.Lexing.{size_of, is_power_place, NothingStands, IsNumberAt, Faulty, Refuses}
use Rattle.um_vocabulary.specs.Tables.{single_symbol, double_symbol}
use Rattle.um_syntax.specs.Machine.{takes}
use Rattle.um_syntax.proofs.WordLetters.{keyword_letters, are_letters, keyword_parts}
use Rattle.um_vocabulary.proofs.Tables.{single_symbol-text, double_symbol-text}
use Rattle.um_syntax.proofs.Texts.{identifier_read}
use Rattle.um_syntax.proofs.Closing.{scan_at, snoc_same}
use Rattle.um_syntax.proofs.Reading.{run, run_on, run_stop, free, gap_run, begin_quote, begin_symbol, variable_at, first_letter}
use Rattle.um_syntax.proofs.Complete.{stopped_run, number_letter, number_refused, range_stop, next_run}

-- no word is of one letter, and none begins with `_`
one_letter_no_word : (c : ℕ) → ¬ (IsWord (c ∷ []))
one_letter_no_word c word =
    let p = keyword_parts word.0 in
    let parts = snoc_same [] p.prefix c p.last (word.1 ∙ p.text) in
    subst IsIdentifier (sym parts.0) p.prefix_identifier

line_no_word : (cs : List ℕ) → ¬ (IsWord (95 ∷ cs))
line_no_word cs word = false≢true (ap are_letters word.1 ∙ keyword_letters word.0)

-- A quote with nothing that may follow it.
abbrev NoToken : List ℕ → Type 0
NoToken chars = (lexeme : Lexeme) (more : List ℕ) → IsLexeme lexeme → chars ≢ text_of lexeme ++ more

quote_end : (before : List Token) (at : ℕ) (cs : List ℕ) → begins starts_name cs ≡ false → run (free before at) (39 ∷ cs) ≡ Err (BadChar at)
quote_end before at cs stops =
    run_on (free before at) (scan_at (at + 1) before [] (pending.Quote at)) 39 cs (begin_quote before at)
    ∙ stopped_run before [] (at + 1) (pending.Quote at) cs (BadChar at) refl stops

line_end : (before : List Token) (at : ℕ) (cs : List ℕ) → begins is_xid_continue cs ≡ false → run (free before at) (39 ∷ 95 ∷ cs) ≡ Err (BadChar at)
line_end before at cs stops =
    first_letter before at 95 cs refl
    ∙ ap (λ l. run (variable_at before at (at + 1 + 1) (at + 1) l) cs) (encode_ascii 95 (lit< tt))
    ∙ stopped_run before (95 ∷ []) (at + 1 + 1) (pending.Variable at (at + 1)) cs (BadChar at) refl stops

quote_run : (before : List Token) (at : ℕ) (cs : List ℕ) → NoToken (39 ∷ cs) → run (free before at) (39 ∷ cs) ≡ Err (BadChar at)
quote_run before at [] none = quote_end before at [] refl
quote_run before at (d ∷ ds) none = by_start (starts_name d) refl
  where
    line : (ds : List ℕ) → NoToken (39 ∷ 95 ∷ ds) → run (free before at) (39 ∷ 95 ∷ ds) ≡ Err (BadChar at)
    line [] none = line_end before at [] refl
    line (e ∷ es) none = by_letter (is_xid_continue e) refl
      where
        longer : 95 ∷ e ∷ [] ≡ 95 ∷ [] → ⊥
        longer same = cc

        by_letter : (b : Bool) → is_xid_continue e ≡ b → run (free before at) (39 ∷ 95 ∷ e ∷ es) ≡ Err (BadChar at)
        by_letter true t = absurd (none (Var (95 ∷ e ∷ [])) es ((refl, (t, tt)), longer, line_no_word (e ∷ [])) refl)
        by_letter false t = line_end before at (e ∷ es) t

    by_line : starts_name d ≡ true → (b : Bool) → eqb d 95 ≡ b → run (free before at) (39 ∷ d ∷ ds) ≡ Err (BadChar at)
    by_line starts true is =
        let same = eqb-true d 95 is in
        subst (λ x. run (free before at) (39 ∷ x ∷ ds) ≡ Err (BadChar at)) (sym same) (line ds (subst (λ x. NoToken (39 ∷ x ∷ ds)) same none))
    by_line starts false is = absurd (none (Var (d ∷ [])) ds ((starts, tt), (λ e. let same : d ≡ 95 = cc in false≢true (sym is ∙ ap (λ x. eqb x 95) same)), one_letter_no_word d) refl)

    by_start : (b : Bool) → starts_name d ≡ b → run (free before at) (39 ∷ d ∷ ds) ≡ Err (BadChar at)
    by_start true e = by_line e (eqb d 95) refl
    by_start false e = quote_end before at (d ∷ ds) e

ampersand_run : (before : List Token) (at : ℕ) (cs : List ℕ) → NoToken (38 ∷ cs) → run (free before at) (38 ∷ cs) ≡ Err (BadChar at)
ampersand_run before at cs none =
    run_on (free before at) (scan_at (at + 1) before [] (pending.Symbol at 38)) 38 cs (begin_symbol before at 38 (refl, lit< tt, refl, refl, refl) refl)
    ∙ stopped_run before [] (at + 1) (pending.Symbol at 38) cs (BadChar at) refl (untaken cs none)
  where
    untaken : (cs : List ℕ) → NoToken (38 ∷ cs) → begins (takes (pending.Symbol at 38)) cs ≡ false
    untaken [] none = refl
    untaken (d ∷ ds) none = by_sign (double_symbol 38 d) refl
      where
        by_sign : (o : Option Symbol) → double_symbol 38 d ≡ o → begins (takes (pending.Symbol at 38)) (d ∷ ds) ≡ false
        by_sign (Some k) e = absurd (none (Sign k) ds tt (ap (λ x. x ++ ds) (sym (double_symbol-text 38 d k e))))
        by_sign None e = rw e refl

-- no token, white space or comment stands there
nothing_run : (before : List Token) (at : ℕ) (chars : List ℕ) → NothingStands chars → run (free before at) chars ≡ Err (BadChar at)
nothing_run before at [] n = absurd (n.some refl)
nothing_run before at (c ∷ cs) n = by_start (starts_name c) refl
  where
    neither : starts_name c ≡ false → is_ascii_digit c ≡ false → eqb c 39 ≡ false → (is_some (single_symbol c) || eqb c 38) ≡ false → run (free before at) (c ∷ cs) ≡ Err (BadChar at)
    neither s d q m = run_stop (free before at) c cs (BadChar at) (rw (n.no_space, s, d, q, m) refl)

    by_ampersand : starts_name c ≡ false → is_ascii_digit c ≡ false → eqb c 39 ≡ false → single_symbol c ≡ None → (b : Bool) → eqb c 38 ≡ b → run (free before at) (c ∷ cs) ≡ Err (BadChar at)
    by_ampersand s d q m true is =
        let same = eqb-true c 38 is in
        subst (λ x. run (free before at) (x ∷ cs) ≡ Err (BadChar at)) (sym same) (ampersand_run before at cs (subst (λ x. NoToken (x ∷ cs)) same n.no_token))
    by_ampersand s d q m false is = neither s d q (ap (λ o. is_some o || eqb c 38) m ∙ is)

    by_sign : starts_name c ≡ false → is_ascii_digit c ≡ false → eqb c 39 ≡ false → (o : Option Symbol) → single_symbol c ≡ o → run (free before at) (c ∷ cs) ≡ Err (BadChar at)
    by_sign s d q (Some k) e = absurd (n.no_token (Sign k) cs tt (ap (λ x. x ++ cs) (sym (single_symbol-text c k e))))
    by_sign s d q None e = by_ampersand s d q e (eqb c 38) refl

    by_quote : starts_name c ≡ false → is_ascii_digit c ≡ false → (b : Bool) → eqb c 39 ≡ b → run (free before at) (c ∷ cs) ≡ Err (BadChar at)
    by_quote s d true is =
        let same = eqb-true c 39 is in
        subst (λ x. run (free before at) (x ∷ cs) ≡ Err (BadChar at)) (sym same) (quote_run before at cs (subst (λ x. NoToken (x ∷ cs)) same n.no_token))
    by_quote s d false is = by_sign s d is (single_symbol c) refl

    by_digit : starts_name c ≡ false → (b : Bool) → is_ascii_digit c ≡ b → run (free before at) (c ∷ cs) ≡ Err (BadChar at)
    by_digit s true e = absurd (n.no_token (Number (Whole (c ∷ []))) cs (e, tt) refl)
    by_digit s false e = by_quote s e (eqb c 39) refl

    by_start : (b : Bool) → starts_name c ≡ b → run (free before at) (c ∷ cs) ≡ Err (BadChar at)
    by_start true e = let r = identifier_read (c ∷ []) (e, tt) in absurd (n.no_token r.lexeme cs r.fits (ap (λ x. x ++ cs) (sym r.text_is)))
    by_start false e = by_digit e (is_ascii_digit c) refl

number_fault : (before : List Token) (at : ℕ) (chars : List ℕ) (n : Numeral) (more : List ℕ) → IsNumberAt chars n more → (power : Bool) → is_power_place before ≡ power → kind_of power (Number n) ≡ None
    → run (free before at) chars ≡ Err (range_stop power at)
number_fault before at chars n more is power place none =
    ap (run (free before at)) is.cut
    ∙ number_refused before at n more is.fits is.longest (ap (λ p. kind_of p (Number n)) place ∙ none)
    ∙ ap (λ p. Err (range_stop p at)) place

faulty_run : (before : List Token) (at : ℕ) (chars : List ℕ) (stop : LexStop) → Faulty before at chars stop → run (free before at) chars ≡ Err stop
faulty_run before at chars (BadChar place) f = ⊎_elim (λ n. nothing_run before at chars n.1 ∙ ap (λ p. Err (BadChar p)) (sym n.0)) (λ w. letter w.0 w.1 w.2 w.3 w.4 w.5 (kind_of (is_power_place before) (Number w.0)) refl) f
  where
    letter : (n : Numeral) (more : List ℕ) → IsNumberAt chars n more → (kind_of (is_power_place before) (Number n) ≡ None → ⊥) → begins is_xid_continue more ≡ true → place ≡ at + size_of (numeral_text n)
        → (o : Option Kind) → kind_of (is_power_place before) (Number n) ≡ o → run (free before at) chars ≡ Err (BadChar place)
    letter n more is kept continues there None e = absurd (kept e)
    letter n more is kept continues there (Some which) e =
        ap (run (free before at)) is.cut ∙ number_letter before at n more which is.fits is.longest continues e ∙ ap (λ p. Err (BadChar p)) (sym there)
faulty_run before at chars (NumberRange place) f = number_fault before at chars f.2.0 f.2.1 f.2.2 false f.1 f.2.3 ∙ ap (λ p. Err (NumberRange p)) (sym f.0)
faulty_run before at chars (PowerText place) f = number_fault before at chars f.2.0 f.2.1 f.2.2 true f.1 f.2.3 ∙ ap (λ p. Err (PowerText p)) (sym f.0)
faulty_run before at chars NoMemory f = absurd f

pub refused : (tokens before : List Token) (at : ℕ) (chars : List ℕ) (stop : LexStop) → Refuses before at chars tokens stop → run (free before at) chars ≡ Err stop
refused [] before at chars stop r = ap (run (free before at)) r.2 ∙ gap_run r.3 before at r.1 ∙ faulty_run before (at + size_of r.0) r.1 stop r.4
refused (t ∷ ts) before at chars stop r = next_run before at chars t r.0 r.1 ∙ refused ts (before ++ t ∷ []) t.end r.0 stop r.2
