-- The bytes of a text with the numbers of literals are those of its characters, spelled anew.
use Rattle.std.proofs.Common.{◌≡◌, ℕ, ◌+◌, ◌-◌, Bool, true, false, ◌==◌, ◌&&◌, cond, List, [], ◌∷◌, ◌++◌, length, take, drop, slice_get, Option, Some, None, refl, sym, ap, subst, ◌∙◌, arith, append_assoc, eqb-true}
use Rattle.std.specs.Prelude.{slice_range}
use Rattle.std.specs.Char.{is_ascii_digit}
use Rattle.std.specs.Str.{chars, IsUtf8, encode_utf8_all, all_scalars}
use Rattle.std.proofs.lemmas.Str.{encodes-append, encodes-chars, scalars-chars, chars-encodes}
use Rattle.std.proofs.lemmas.Bool.{false≢true}
use Rattle.std.proofs.lemmas.Bool.Decides.{nat_tests}
use Rattle.std.proofs.Math.Seq.{take-append_seam, drop-append_seam}
use Rattle.um_frac.specs.declared.number.Frac.{Frac}
use Rattle.um_syntax.specs.declared.token.Kind.{Kind}
use Rattle.um_syntax.specs.declared.token.Kind.TheVariants as kind
use Rattle.um_syntax.specs.declared.token.Token.{Token}
use Rattle.um_syntax.specs.Numeral.{Numeral, numeral_text}
use Rattle.um_syntax.specs.Lexeme.{text_of, begins}
use Rattle.um_syntax.specs.Lexing.{size_of, is_power_place, Lexes, HasTokens}
use Rattle.um_syntax.proofs.Places.{size_of-encodes, size_of-append}
use Rattle.um_show.proofs.Numbers.{NumeralOf, numeral_of}
use Rattle.um_show.proofs.Beginnings.{low_encoded, low_scalars, scalars_append, numeral_low}
use Rattle.um_scale.specs.RescaledText.{is_number, opens_unit, new_number, printed, respelled as respelled_bytes}
use Rattle.um_rescaled.specs.RespelledTokens.{HasKind, AreRespelled, NoPowers}
use Rattle.um_rescaled.specs.TextLaws.{RespelledTextsHaveTokens}
use Rattle.um_rescaled.specs.Respelling.{HasKindOf, AllHaveKinds, CanRespell, AllCan, new_text, respelled}
use Rattle.um_rescaled.proofs.Alike.{begins_alike}
use Rattle.um_rescaled.proofs.Ends.{both_true}
use Rattle.um_rescaled.proofs.Respelled.{begun, all}

and_true : (a b : Bool) → a ≡ true → b ≡ true → (a && b) ≡ true
and_true true b d e = e
and_true false b d e = absurd (false≢true d)

abbrev is_byte_order : ℕ → Bool
is_byte_order c = c == 65279

digit_no_mark : (c : ℕ) → is_ascii_digit c ≡ true → is_byte_order c ≡ false
digit_no_mark c e = grind (arith, nat_tests)

-- characters that begin with no mark are the whole text
unmarked : (cs : List ℕ) (tokens : List Token) → begins is_byte_order cs ≡ false → Lexes [] 0 cs tokens → HasTokens cs tokens
unmarked [] tokens e l = l
unmarked (c ∷ cs) tokens e l = subst (λ b. Lexes [] (cond b 3 0) (cond b cs (c ∷ cs)) tokens) (sym e) l

-- ---- parts of the bytes

module _ (bytes : List ℕ) (utf8 : IsUtf8 bytes) where
  split : (front rest : List ℕ) → chars bytes ≡ front ++ rest → bytes ≡ encode_utf8_all front ++ encode_utf8_all rest
  split front rest is = sym (encodes-chars bytes utf8) ∙ ap encode_utf8_all is ∙ encodes-append front rest

  behind : (front rest : List ℕ) → chars bytes ≡ front ++ rest → drop (size_of front) bytes ≡ encode_utf8_all rest
  behind front rest is =
      ap (λ b. drop (size_of front) b) (split front rest is) ∙ ap (λ n. drop n (encode_utf8_all front ++ encode_utf8_all rest)) (size_of-encodes front)
      ∙ drop-append_seam (encode_utf8_all front) (encode_utf8_all rest)

  between : (front mid rest : List ℕ) (from end : ℕ) → chars bytes ≡ front ++ (mid ++ rest) → from ≡ size_of front → end ≡ from + size_of mid → slice_range bytes from end ≡ encode_utf8_all mid
  between front mid rest from end is f e =
      let n : end - from ≡ length (encode_utf8_all mid) = let s = size_of-encodes mid in omega (arith, e, s) in
      ap (λ k. take (end - from) (drop k bytes)) f ∙ ap (λ xs. take (end - from) xs) (behind front (mid ++ rest) is ∙ encodes-append mid rest)
      ∙ ap (λ k. take k (encode_utf8_all mid ++ encode_utf8_all rest)) n
      ∙ take-append_seam (encode_utf8_all mid) (encode_utf8_all rest)

-- ---- the number texts

module _ (numbers : ℕ → Option Frac) (numeral : (place : ℕ) (c : Frac) → numbers place ≡ Some c → NumeralOf c) where
  number_of : (k : Token) (b : Bool) (c : Frac) → new_number numbers k b ≡ Some c → numbers k.start ≡ Some c
  number_of k b c is = by (is_number k.kind && b) is where
    by : (x : Bool) → cond x (numbers k.start) None ≡ Some c → numbers k.start ≡ Some c
    by true h = h
    by false h = absurd (cc h)

  abbrev of : (t : Token) (b : Bool) (o : Option Frac) → new_number numbers t b ≡ o → Option Numeral
  of t b None is = None
  of t b (Some c) is = Some (numeral t.start c (number_of t b c is)).numeral

  abbrev spell : Token → List Token → Option Numeral
  spell t ts = of t (opens_unit (slice_get ts 0)) (new_number numbers t (opens_unit (slice_get ts 0))) refl

  -- what is printed is the text of the numeral
  text_is : (t : Token) (b : Bool) (bytes text : List ℕ) (o : Option Frac) (is : new_number numbers t b ≡ o) → bytes ≡ encode_utf8_all text → printed o bytes ≡ encode_utf8_all (new_text spell (of t b o is) text)
  text_is t b bytes text None is e = e
  text_is t b bytes text (Some c) is e =
      let n = numeral t.start c (number_of t b c is) in
      sym n.printed ∙ sym (low_encoded (numeral_text n.numeral) (numeral_low n.numeral n.fits))

  is_number_kind : (k : Kind) → is_number k ≡ true → (v : Frac) × (d o : Bool) × (k ≡ kind.Number v d o)
  is_number_kind (kind.Number v d o) e = (v, d, o, refl)
  is_number_kind (kind.Name x) e = absurd (false≢true e)
  is_number_kind (kind.Var x) e = absurd (false≢true e)
  is_number_kind (kind.Word w) e = absurd (false≢true e)
  is_number_kind kind.Hole e = absurd (false≢true e)
  is_number_kind (kind.Sign s) e = absurd (false≢true e)

  asked : (x : Bool) (o : Option Frac) (c : Frac) → cond x o None ≡ Some c → x ≡ true
  asked true o c e = refl
  asked false o c e = absurd (cc e)

  -- a token that is spelled anew may be
  can_one : (before : List Token) (t : Token) (ts : List Token) → ((c : Frac) → new_number numbers t (opens_unit (slice_get ts 0)) ≡ Some c → is_power_place before ≡ false) → (o : Option Frac) (is : new_number numbers t (opens_unit (slice_get ts 0)) ≡ o) (m : Numeral) → of t (opens_unit (slice_get ts 0)) o is ≡ Some m → CanRespell before t ts m
  can_one before t ts no_power None is m e = absurd (cc e)
  can_one before t ts no_power (Some c) is m e =
      let n = numeral t.start c (number_of t (opens_unit (slice_get ts 0)) c is) in
      let same : n.numeral ≡ m = cc e in
      let parts = both_true (is_number t.kind) (opens_unit (slice_get ts 0)) (asked (is_number t.kind && opens_unit (slice_get ts 0)) (numbers t.start) c is) in
      let k = is_number_kind t.kind parts.0 in
      subst (λ x. CanRespell before t ts x) same (record {
        value = k.0;
        digits = k.1;
        one = k.2;
        number = k.3;
        no_power = no_power c is;
        opens = parts.1;
        fits = n.fits;
        new = c;
        has = n.value;
      })

  can_all : (before tokens : List Token) → NoPowers numbers before tokens → AllCan spell before tokens
  can_all before [] h = tt
  can_all before (t ∷ ts) h =
      ((λ m e. can_one before t ts h.0 (new_number numbers t (opens_unit (slice_get ts 0))) refl m e), can_all (before ++ t ∷ []) ts h.1)

  -- ---- the kinds of the tokens

  kind_told : (t : Token) (b : Bool) (o : Option Frac) (is : new_number numbers t b ≡ o) (k j : Kind) → HasKindOf (of t b o is) k j → HasKind o k j
  kind_told t b None is k j h = h
  kind_told t b (Some c) is k j h =
      let n = numeral t.start c (number_of t b c is) in
      let found : Some h.0 ≡ Some c = sym h.3 ∙ n.value in
      let same : h.0 ≡ c = cc found in
      (h.1, h.2, h.4 ∙ ap (λ v. kind.Number v h.1 h.2) same)

  kinds_told : (ts us : List Token) → AllHaveKinds spell ts us → AreRespelled numbers ts us
  kinds_told [] [] h = tt
  kinds_told [] (u ∷ us) h = absurd h
  kinds_told (t ∷ ts) [] h = absurd h
  kinds_told (t ∷ ts) (u ∷ us) h =
      let b = opens_unit (slice_get ts 0) in
      (kind_told t b (new_number numbers t b) refl t.kind u.kind h.0, h.1, kinds_told ts us h.2)

  -- ---- the whole text

  module _ (bytes : List ℕ) (utf8 : IsUtf8 bytes) where
    bytes_again : (tokens before : List Token) (at : ℕ) (cs front : List ℕ) (l : Lexes before at cs tokens) → chars bytes ≡ front ++ cs → at ≡ size_of front → respelled_bytes bytes numbers at tokens ≡ encode_utf8_all (respelled spell tokens before at cs l)
    bytes_again [] before at cs front l whole is = ap (λ n. drop n bytes) is ∙ behind bytes utf8 front cs whole
    bytes_again (t ∷ ts) before at cs front l whole is =
        let n = l.1 in
        let text = text_of n.lexeme in
        let here : chars bytes ≡ front ++ (n.gap ++ (text ++ l.0)) = whole ∙ ap (λ xs. front ++ xs) n.cut in
        let begun_front = front ++ n.gap in
        let there : chars bytes ≡ begun_front ++ (text ++ l.0) = here ∙ sym (append_assoc front n.gap (text ++ l.0)) in
        let ended = begun_front ++ text in
        let after : chars bytes ≡ ended ++ l.0 = there ∙ sym (append_assoc begun_front text l.0) in
        let gap_size = size_of-append front n.gap in
        let text_size = size_of-append begun_front text in
        let start : t.start ≡ size_of begun_front = omega (arith, n.start, is, gap_size) in
        let end : t.end ≡ size_of ended = omega (arith, n.end, start, text_size) in
        let b = opens_unit (slice_get ts 0) in
        let later = respelled spell ts (before ++ t ∷ []) t.end l.0 l.2 in
        let new = new_text spell (spell t ts) text in
        let gap_bytes = between bytes utf8 front n.gap (text ++ l.0) at t.start here is n.start in
        let own_bytes = between bytes utf8 begun_front text l.0 t.start t.end there start n.end in
        let spelled = text_is t b (slice_range bytes t.start t.end) text (new_number numbers t b) refl own_bytes in
        let rest = bytes_again ts (before ++ t ∷ []) t.end l.0 ended l.2 after end in
        (λ i. gap_bytes i ++ (spelled i ++ rest i)) ∙ ap (λ xs. encode_utf8_all n.gap ++ xs) (sym (encodes-append new later)) ∙ sym (encodes-append n.gap (new ++ later))

    -- behind a mark at the front of the text
    bytes_marked : (mark cs : List ℕ) (tokens : List Token) (l : Lexes [] (size_of mark) cs tokens) → chars bytes ≡ mark ++ cs → respelled_bytes bytes numbers 0 tokens ≡ encode_utf8_all (mark ++ respelled spell tokens [] (size_of mark) cs l)
    bytes_marked mark cs [] l whole = sym (encodes-chars bytes utf8) ∙ ap encode_utf8_all whole
    bytes_marked mark cs (t ∷ ts) l whole =
        let n = l.1 in
        let text = text_of n.lexeme in
        let front = mark ++ n.gap in
        let here : chars bytes ≡ front ++ (text ++ l.0) = whole ∙ ap (λ xs. mark ++ xs) n.cut ∙ sym (append_assoc mark n.gap (text ++ l.0)) in
        let ended = front ++ text in
        let after : chars bytes ≡ ended ++ l.0 = here ∙ sym (append_assoc front text l.0) in
        let gap_size = size_of-append mark n.gap in
        let text_size = size_of-append front text in
        let start : t.start ≡ size_of front = omega (arith, n.start, gap_size) in
        let from_zero : t.start ≡ 0 + size_of front = omega (arith, start) in
        let end : t.end ≡ size_of ended = omega (arith, n.end, start, text_size) in
        let later = respelled spell ts (t ∷ []) t.end l.0 l.2 in
        let new = new_text spell (spell t ts) text in
        let gap_bytes : slice_range bytes 0 t.start ≡ encode_utf8_all front = between bytes utf8 [] front (text ++ l.0) 0 t.start here refl from_zero in
        let own_bytes = between bytes utf8 front text l.0 t.start t.end here start n.end in
        let spelled = text_is t (opens_unit (slice_get ts 0)) (slice_range bytes t.start t.end) text (new_number numbers t (opens_unit (slice_get ts 0))) refl own_bytes in
        let rest = bytes_again ts (t ∷ []) t.end l.0 ended l.2 after end in
        (λ i. gap_bytes i ++ (spelled i ++ rest i)) ∙ ap (λ xs. encode_utf8_all front ++ xs) (sym (encodes-append new later)) ∙ sym (encodes-append front (new ++ later))
        ∙ ap encode_utf8_all (append_assoc mark n.gap (new ++ later))

  -- ---- its characters

  scalar_parts : (xs ys : List ℕ) → all_scalars (xs ++ ys) ≡ true → (all_scalars xs ≡ true) × (all_scalars ys ≡ true)
  scalar_parts [] ys e = (refl, e)
  scalar_parts (x ∷ xs) ys e =
      let h = both_true _ (all_scalars (xs ++ ys)) e in
      let k = scalar_parts xs ys h.1 in
      (and_true _ (all_scalars xs) h.0 k.0, k.1)

  text_scalars : (before : List Token) (t : Token) (ts : List Token) (text : List ℕ) (o : Option Numeral) → ((m : Numeral) → o ≡ Some m → CanRespell before t ts m) → all_scalars text ≡ true → all_scalars (new_text spell o text) ≡ true
  text_scalars before t ts text None can h = h
  text_scalars before t ts text (Some m) can h = low_scalars (numeral_text m) (numeral_low m (can m refl).fits)

  new_scalars : (tokens before : List Token) (at : ℕ) (cs : List ℕ) (l : Lexes before at cs tokens) → AllCan spell before tokens → all_scalars cs ≡ true → all_scalars (respelled spell tokens before at cs l) ≡ true
  new_scalars [] before at cs l can h = h
  new_scalars (t ∷ ts) before at cs l can h =
      let n = l.1 in
      let later = respelled spell ts (before ++ t ∷ []) t.end l.0 l.2 in
      let parts = scalar_parts n.gap (text_of n.lexeme ++ l.0) (sym (ap all_scalars n.cut) ∙ h) in
      let more = scalar_parts (text_of n.lexeme) l.0 parts.1 in
      let own = text_scalars before t ts (text_of n.lexeme) (spell t ts) can.0 more.0 in
      scalars_append n.gap (new_text spell (spell t ts) (text_of n.lexeme) ++ later) parts.0
      (scalars_append (new_text spell (spell t ts) (text_of n.lexeme)) later own (new_scalars ts (before ++ t ∷ []) t.end l.0 l.2 can.1 more.1))

  -- ---- its tokens

  module _ (bytes : List ℕ) (utf8 : IsUtf8 bytes) (tokens : List Token) (no_powers : NoPowers numbers [] tokens) where
    abbrev Again : Type 0
    Again =
        IsUtf8 (respelled_bytes bytes numbers 0 tokens)
        × ((others : List Token) × HasTokens (chars (respelled_bytes bytes numbers 0 tokens)) others × AreRespelled numbers tokens others)

    can : AllCan spell [] tokens
    can = can_all [] tokens no_powers

    from_text : (new : List ℕ) (others : List Token) → all_scalars new ≡ true → respelled_bytes bytes numbers 0 tokens ≡ encode_utf8_all new → HasTokens new others → AllHaveKinds spell tokens others → Again
    from_text new others scalars is lexed alike =
        let same : chars (respelled_bytes bytes numbers 0 tokens) ≡ new = ap chars is ∙ chars-encodes new scalars in
        ((new, (scalars, sym is)), (others, subst (λ cs. HasTokens cs others) (sym same) lexed, kinds_told tokens others alike))

    -- no mark stands at the front
    plain : (cs : List ℕ) → chars bytes ≡ cs → begins is_byte_order cs ≡ false → Lexes [] 0 cs tokens → Again
    plain cs whole no_mark l =
        let new = respelled spell tokens [] 0 cs l in
        let alike = begun spell tokens [] 0 cs l can in
        let first : begins is_byte_order new ≡ false = sym (begins_alike is_byte_order false digit_no_mark 0 cs new (alike 1)) ∙ no_mark in
        let scalars = new_scalars tokens [] 0 cs l can (sym (ap all_scalars whole) ∙ scalars-chars bytes utf8) in
        let found = all spell tokens [] [] 0 0 cs l can tt tt tt in
        from_text new found.0 scalars (bytes_marked bytes utf8 [] cs tokens l whole) (unmarked new found.0 first found.1) found.2

    marked : (cs : List ℕ) → chars bytes ≡ 65279 ∷ cs → Lexes [] 3 cs tokens → Again
    marked cs whole l =
        let new = respelled spell tokens [] 3 cs l in
        let parts = scalar_parts (65279 ∷ []) cs (sym (ap all_scalars whole) ∙ scalars-chars bytes utf8) in
        let scalars = scalars_append (65279 ∷ []) new parts.0 (new_scalars tokens [] 3 cs l can parts.1) in
        let found = all spell tokens [] [] 3 3 cs l can tt tt tt in
        from_text (65279 ∷ new) found.0 scalars (bytes_marked bytes utf8 (65279 ∷ []) cs tokens l whole) found.1 found.2

    in_text : (cs : List ℕ) → chars bytes ≡ cs → HasTokens cs tokens → Again
    in_text [] whole l = plain [] whole refl l
    in_text (c ∷ cs) whole l = by (c == 65279) refl l
      where
        by : (b : Bool) → (c == 65279) ≡ b → Lexes [] (cond b 3 0) (cond b cs (c ∷ cs)) tokens → Again
        by true e k = let mark : c ≡ 65279 = eqb-true c 65279 e in marked cs (whole ∙ ap (λ x. x ∷ cs) mark) k
        by false e k = plain (c ∷ cs) whole e k

pub respelled_texts_have_tokens : RespelledTextsHaveTokens
respelled_texts_have_tokens bytes numbers tokens utf8 lexed unsigned no_powers =
    in_text numbers (λ place c is. let n = unsigned place c is in numeral_of c n.0 n.1) bytes utf8 tokens no_powers (chars bytes) refl lexed
