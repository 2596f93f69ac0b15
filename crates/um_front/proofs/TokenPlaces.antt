-- Each token of a text begins before a character of the text.
use Rattle.std.proofs.Common.{◌≡◌, ℕ, ◌+◌, Bool, true, false, ◌&&◌, cond, ◌==◌, List, [], ◌∷◌, ◌++◌, inl, inr, length, length-append, take, drop, refl, sym, ap, subst, ◌∙◌, append_assoc, arith, eqb-true}
use Rattle.std.specs.Char.{len_utf8}
use Rattle.std.specs.Str.{chars, IsUtf8, encode_utf8_all, all_scalars}
use Rattle.std.proofs.lemmas.Str.{encodes-append, encodes-chars, scalars-chars}
use Rattle.std.proofs.Math.Seq.{take-append_seam, drop-append_seam}
use Rattle.um_syntax.specs.declared.token.Token.{Token}
use Rattle.um_syntax.specs.Lexeme.{text_of}
use Rattle.um_syntax.specs.declared.token.LexStop.{LexStop}
use Rattle.um_syntax.specs.declared.token.LexStop.TheVariants as lex_stop
use Rattle.um_syntax.specs.Numeral.{numeral_text}
use Rattle.um_syntax.specs.Lexing.{size_of, body, body_place, Lexes, HasTokens, Faulty, Refuses}
use Rattle.um_syntax.proofs.Places.{size_of-encodes, size_of-append}
use Rattle.um_front.specs.Places.{IsPlace, LexPlace}
use Rattle.um_front.specs.PlaceLaws.{LexicalFaultsHavePlaces}

-- P holds of the place where each token begins
abbrev pub AllStarts : (ℕ → Type 0) → List Token → Type 0
AllStarts P [] = Unit {0}
AllStarts P (token ∷ tokens) = P token.start × AllStarts P tokens

both : (a b : Bool) → (a && b) ≡ true → (a ≡ true) × (b ≡ true)
both true b e = (refl, e)
both false b e = absurd cc

one_more : (a b : Bool) → a ≡ true → b ≡ true → (a && b) ≡ true
one_more true b d e = e
one_more false b d e = absurd cc

scalar_parts : (xs ys : List ℕ) → all_scalars (xs ++ ys) ≡ true → (all_scalars xs ≡ true) × (all_scalars ys ≡ true)
scalar_parts [] ys e = (refl, e)
scalar_parts (x ∷ xs) ys e =
    let h = both _ (all_scalars (xs ++ ys)) e in
    let k = scalar_parts xs ys h.1 in
    (one_more _ (all_scalars xs) h.0 k.0, k.1)

module _ (bytes : List ℕ) (utf8 : IsUtf8 bytes) where
  -- where some characters at the front end
  place_after : (front rest : List ℕ) → chars bytes ≡ front ++ rest → IsPlace bytes (size_of front)
  place_after front rest is =
      let whole : encode_utf8_all front ++ encode_utf8_all rest ≡ bytes = sym (encodes-append front rest) ∙ sym (ap encode_utf8_all is) ∙ encodes-chars bytes utf8 in
      let size : size_of front ≡ length (encode_utf8_all front) = size_of-encodes front in
      let parts = scalar_parts front rest (sym (ap all_scalars is) ∙ scalars-chars bytes utf8) in
      let all : length bytes ≡ length (encode_utf8_all front) + length (encode_utf8_all rest) = sym (ap length whole) ∙ length-append (encode_utf8_all front) (encode_utf8_all rest) in
      let first : take (size_of front) bytes ≡ encode_utf8_all front =
      ap (λ n. take n bytes) size ∙ ap (take (length (encode_utf8_all front))) (sym whole) ∙ take-append_seam (encode_utf8_all front) (encode_utf8_all rest) in
      let last : drop (size_of front) bytes ≡ encode_utf8_all rest =
      ap (λ n. drop n bytes) size ∙ ap (drop (length (encode_utf8_all front))) (sym whole) ∙ drop-append_seam (encode_utf8_all front) (encode_utf8_all rest) in
      record { within = omega (arith, size, all); before = (front, (parts.0, sym first)); after = (rest, (parts.1, sym last)) }

  lexes_start : (tokens before : List Token) (at : ℕ) (cs front : List ℕ) → chars bytes ≡ front ++ cs → at ≡ size_of front → Lexes before at cs tokens → AllStarts (IsPlace bytes) tokens
  lexes_start [] before at cs front whole is l = tt
  lexes_start (t ∷ ts) before at cs front whole is l =
      let n = l.1 in
      let text = text_of n.lexeme in
      let begun = front ++ n.gap in
      let here : chars bytes ≡ begun ++ (text ++ l.0) = whole ∙ ap (λ xs. front ++ xs) n.cut ∙ sym (append_assoc front n.gap (text ++ l.0)) in
      let gap_size = size_of-append front n.gap in
      let start : t.start ≡ size_of begun = omega (arith, n.start, is, gap_size) in
      let ended = begun ++ text in
      let after : chars bytes ≡ ended ++ l.0 = here ∙ sym (append_assoc begun text l.0) in
      let text_size = size_of-append begun text in
      let end : t.end ≡ size_of ended = omega (arith, n.end, start, text_size) in
      (subst (IsPlace bytes) (sym start) (place_after begun (text ++ l.0) here), lexes_start ts (before ++ t ∷ []) t.end l.0 ended after end l.2)

  starts_in : (cs : List ℕ) (tokens : List Token) → chars bytes ≡ cs → HasTokens cs tokens → AllStarts (IsPlace bytes) tokens
  starts_in [] tokens whole l = lexes_start tokens [] 0 [] [] whole refl l
  starts_in (c ∷ cs) tokens whole l = by (c == 65279) refl l
    where
      by : (b : Bool) → (c == 65279) ≡ b → Lexes [] (cond b 3 0) (cond b cs (c ∷ cs)) tokens → AllStarts (IsPlace bytes) tokens
      by true e l = let mark : c ≡ 65279 = eqb-true c 65279 e in lexes_start tokens [] 3 cs (c ∷ []) whole (ap (λ x. len_utf8 x + 0) (sym mark)) l
      by false e l = lexes_start tokens [] 0 (c ∷ cs) [] whole refl l

module _ (bytes : List ℕ) (utf8 : IsUtf8 bytes) where
  faulty_place : (before : List Token) (at : ℕ) (rest front : List ℕ) (stop : LexStop) → chars bytes ≡ front ++ rest → at ≡ size_of front → Faulty before at rest stop → LexPlace (IsPlace bytes) stop
  faulty_place before at rest front stop whole is f = by stop f
    where
      here : IsPlace bytes at
      here = subst (IsPlace bytes) (sym is) (place_after bytes utf8 front rest whole)

      by : (s : LexStop) → Faulty before at rest s → LexPlace (IsPlace bytes) s
      by (lex_stop.BadChar place) (inl g) = subst (IsPlace bytes) (sym g.0) here
      by (lex_stop.BadChar place) (inr g) =
          let text = numeral_text g.0 in
          let cut = g.2.cut in
          let behind : chars bytes ≡ (front ++ text) ++ g.1 = whole ∙ ap (λ xs. front ++ xs) cut ∙ sym (append_assoc front text g.1) in
          let sizes = size_of-append front text in
          let same : place ≡ size_of (front ++ text) = omega (arith, g.5, is, sizes) in
          subst (IsPlace bytes) (sym same) (place_after bytes utf8 (front ++ text) g.1 behind)
      by (lex_stop.NumberRange place) g = subst (IsPlace bytes) (sym g.0) here
      by (lex_stop.PowerText place) g = subst (IsPlace bytes) (sym g.0) here
      by lex_stop.NoMemory g = tt

  refused_place : (tokens before : List Token) (at : ℕ) (cs front : List ℕ) (stop : LexStop) → chars bytes ≡ front ++ cs → at ≡ size_of front → Refuses before at cs tokens stop → LexPlace (IsPlace bytes) stop
  refused_place [] before at cs front stop whole is r =
      let begun = front ++ r.0 in
      let here : chars bytes ≡ begun ++ r.1 = whole ∙ ap (λ xs. front ++ xs) r.2 ∙ sym (append_assoc front r.0 r.1) in
      let sizes = size_of-append front r.0 in
      let start : at + size_of r.0 ≡ size_of begun = omega (arith, is, sizes) in
      faulty_place before (at + size_of r.0) r.1 begun stop here start r.4
  refused_place (t ∷ ts) before at cs front stop whole is r =
      let n = r.1 in
      let text = text_of n.lexeme in
      let begun = front ++ n.gap in
      let here : chars bytes ≡ begun ++ (text ++ r.0) = whole ∙ ap (λ xs. front ++ xs) n.cut ∙ sym (append_assoc front n.gap (text ++ r.0)) in
      let gap_size = size_of-append front n.gap in
      let start : t.start ≡ size_of begun = omega (arith, n.start, is, gap_size) in
      let ended = begun ++ text in
      let after : chars bytes ≡ ended ++ r.0 = here ∙ sym (append_assoc begun text r.0) in
      let text_size = size_of-append begun text in
      let end : t.end ≡ size_of ended = omega (arith, n.end, start, text_size) in
      refused_place ts (before ++ t ∷ []) t.end r.0 ended stop after end r.2

  refused_in : (cs : List ℕ) (tokens : List Token) (stop : LexStop) → chars bytes ≡ cs → Refuses [] (body_place cs) (body cs) tokens stop → LexPlace (IsPlace bytes) stop
  refused_in [] tokens stop whole r = refused_place tokens [] 0 [] [] stop whole refl r
  refused_in (c ∷ cs) tokens stop whole r = by (c == 65279) refl r
    where
      by : (b : Bool) → (c == 65279) ≡ b → Refuses [] (cond b 3 0) (cond b cs (c ∷ cs)) tokens stop → LexPlace (IsPlace bytes) stop
      by true e l = let mark : c ≡ 65279 = eqb-true c 65279 e in refused_place tokens [] 3 cs (c ∷ []) stop whole (ap (λ x. len_utf8 x + 0) (sym mark)) l
      by false e l = refused_place tokens [] 0 (c ∷ cs) [] stop whole refl l

pub lexical_faults_have_places : LexicalFaultsHavePlaces
lexical_faults_have_places bytes stop utf8 fault = refused_in bytes utf8 (chars bytes) fault.0 stop refl fault.1

pub tokens_start : (bytes : List ℕ) (tokens : List Token) → IsUtf8 bytes → HasTokens (chars bytes) tokens → AllStarts (IsPlace bytes) tokens
tokens_start bytes tokens utf8 l = starts_in bytes utf8 (chars bytes) tokens refl l
