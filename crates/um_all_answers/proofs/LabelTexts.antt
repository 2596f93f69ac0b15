-- The label of a part without a size of its own is a unit text that stands for the part's unit.
use Rattle.std.proofs.Common.{◌≡◌, ℕ, ◌-◌, ◌≤◌, Bool, true, false, ◌==◌, ◌||◌, ◌&&◌, cond, List, [], ◌∷◌, ◌++◌, length-append, codes, get_or, length, Option, Some, None, Ok, inl, inr, refl, sym, ap, subst, ◌∙◌, arith, lit<}
use Rattle.std.proofs.lemmas.Bool.{false≢true, eqb-true}
use Rattle.std.proofs.lemmas.Str.{encodes-append, encode_ascii, encodes-chars, scalars-chars}
use Rattle.std.specs.List.{list_any, slice_get}
use Rattle.std.specs.Str.{chars, IsUtf8}
use lib.Utf8.{encodes}
use Rattle.um_units.specs.PowerMap.{PowerMap}
use Rattle.um_syntax.specs.declared.token.Token.{Token}
use Rattle.um_syntax.specs.declared.token.Kind.{Kind}
use Rattle.um_syntax.specs.declared.token.Kind.TheVariants as kind_is
use Rattle.um_vocabulary.specs.declared.vocabulary.Symbol.{Symbol}
use Rattle.um_vocabulary.specs.declared.vocabulary.Symbol.TheVariants as symbol
use Rattle.um_vocabulary.specs.Vocabulary.{symbol_text}
use Rattle.um_syntax.specs.Lexeme.{Lexeme, Name, Var, Number, Word, Hole, Sign, IsLexeme, begins, kind_of}
use Rattle.um_syntax.specs.Lexeme.{text_of as lexeme_text}
use Rattle.um_syntax.specs.Lexing.{is_caret, is_minus_kind, is_caret_kind, is_power_place, Lexes, HasTokens}
use Rattle.um_syntax.proofs.Closing.{or_false}
use Rattle.um_syntax.proofs.Texts.{head_of}
use Rattle.um_tree.specs.RawTree.{UnitSyntax}
use Rattle.um_tree.specs.Heights.{unit_height}
use Rattle.um_unit_texts.specs.UnitTokens.{unit_token}
use Rattle.um_unit_texts.specs.UnitGrammar.{Spells, IsUnit}
use Rattle.um_measures.specs.UnitNames.{resolved_unit}
use Rattle.um_show.proofs.Chain.{fresh, full, is_second, Clear}
use Rattle.um_show.proofs.ChainTexts.{Matches}
use Rattle.um_show.proofs.Beginnings.{letter_clear, quote_clear, numeral_clear}
use Rattle.um_display.specs.UnitWords.{is_other_white, is_space_at, one_space_each, PartSyntax, IsPlain, IsPartOf, IsPart}
use Rattle.um_all_answers.proofs.Segments.{Segment, Read, caret_after, power_after}
use Rattle.um_all_answers.proofs.Spaces.{one_space_encoded, one_space_scalars}
use Rattle.um_all_answers.proofs.Loosened.{Loose, AllSpaces, loose_one, loose_head}
use Rattle.um_all_answers.proofs.Labels.{IsQuiet, SaysAsMuch, LastMay, moved, gap_spaces}
use Rattle.um_all_answers.proofs.UnitEdges.{may_begin, may_end, Begins, EndsWith, unit_begins, unit_ends}
use Rattle.um_all_answers.proofs.UnitAlike.{SameKinds, unit_alike}
use Rattle.um_all_answers.proofs.BareUnits.{IsResolved, same_height, resolved_from, resolved_alike}
use Rattle.um_all_answers.proofs.UnitTexts.{IsUnitOf}

-- ---- plain texts

last_byte : (xs : List ℕ) (x : ℕ) → get_or (xs ++ x ∷ []) (length (xs ++ x ∷ []) - 1) 0 ≡ x
last_byte xs x =
    let count = length-append xs (x ∷ []) in let index : length (xs ++ x ∷ []) - 1 ≡ length xs = omega (arith, count) in
    ap (λ n. get_or (xs ++ x ∷ []) n 0) index ∙ there xs
  where
    there : (ys : List ℕ) → get_or (ys ++ x ∷ []) (length ys) 0 ≡ x
    there [] = refl
    there (y ∷ ys) = there ys

slashes : (back : List ℕ) → encodes (47 ∷ 47 ∷ back) ≡ codes "//" ++ encodes back
slashes back = (λ i. encode_ascii 47 (lit< tt) i ++ (encode_ascii 47 (lit< tt) i ++ encodes back))

plain_quiet : (bytes : List ℕ) → IsUtf8 bytes → IsPlain bytes → IsQuiet (chars bytes)
plain_quiet bytes utf8 p =
    let whole : encodes (chars bytes) ≡ bytes = encodes-chars bytes utf8 in
    record {
      no_comment = λ front back is. p.no_comment (encodes front, encodes back, sym whole ∙ ap encodes is ∙ encodes-append front (47 ∷ 47 ∷ back) ∙ ap (λ w. encodes front ++ w) (slashes back));
      no_white = p.no_other_white;
      no_space_last = λ front is.
          let last : bytes ≡ encodes front ++ 32 ∷ [] = sym whole ∙ ap encodes is ∙ encodes-append front (32 ∷ []) ∙ ap (λ w. encodes front ++ (w ++ [])) (encode_ascii 32 (lit< tt)) in
          false≢true (sym p.no_space_last ∙ ap (λ w. is_space_at w (length w - 1)) last ∙ ap (λ n. n == 32) (last_byte (encodes front) 32));
    }

no_order : (cs : List ℕ) (tokens : List Token) → list_any is_other_white cs ≡ false → HasTokens cs tokens → Lexes [] 0 cs tokens
no_order [] tokens white l = l
no_order (c ∷ cs) tokens white l =
    let none : (c == 65279) ≡ false = (or_false _ (c == 65279) (or_false (is_other_white c) (list_any is_other_white cs) white).0).1 in
    subst (λ b. Lexes [] (cond b 3 0) (cond b cs (c ∷ cs)) tokens) none l

-- ---- how such a text begins and ends

head_clear : (lexeme : Lexeme) (power : Bool) (k : Kind) (more : List ℕ) → IsLexeme lexeme → kind_of power lexeme ≡ Some k → may_begin (unit_token k) ≡ true → begins is_second (lexeme_text lexeme ++ more) ≡ false
head_clear (Name text) power k more fits is m = (letter_clear (fresh true false) refl text fits.0 more).0
head_clear (Var name) power k more fits is m = (quote_clear (fresh true false) refl (name ++ more)).0
head_clear (Number numeral) power k more fits is m = (numeral_clear (fresh true false) refl numeral fits more).0
head_clear (Word w) power k more fits is m = absurd (let same : kind_is.Word w ≡ k = cc is in false≢true (ap (λ (x : Kind). may_begin (unit_token x)) same ∙ m))
head_clear Hole power k more fits is m = absurd (let same : kind_is.Hole ≡ k = cc is in false≢true (ap (λ (x : Kind). may_begin (unit_token x)) same ∙ m))
head_clear (Sign s) power k more fits is m = by s (let same : kind_is.Sign s ≡ k = cc is in ap (λ (x : Kind). may_begin (unit_token x)) same ∙ m) where
  by : (s : Symbol) → may_begin (unit_token (kind_is.Sign s)) ≡ true → begins is_second (symbol_text s ++ more) ≡ false
  by symbol.LeftParen t = refl
  by symbol.Slash t = refl
  by _ t = absurd (false≢true t)

-- the first character can't continue a sign
abbrev StartsClear : List ℕ → Type 0
StartsClear cs = (c : ℕ) × (others : List ℕ) × (cs ≡ c ∷ others) × (is_second c ≡ false)

front_clear : (gap : List ℕ) (lexeme : Lexeme) (power : Bool) (k : Kind) (more : List ℕ) → AllSpaces gap → IsLexeme lexeme → kind_of power lexeme ≡ Some k → may_begin (unit_token k) ≡ true → StartsClear (gap ++ (lexeme_text lexeme ++ more))
front_clear [] lexeme power k more spaces fits is m =
    let h = head_of lexeme fits in
    let whole : lexeme_text lexeme ++ more ≡ h.0 ∷ (h.1 ++ more) = ap (λ w. w ++ more) h.2 in
    (h.0, h.1 ++ more, whole, sym (ap (begins is_second) whole) ∙ head_clear lexeme power k more fits is m)
front_clear (g ∷ gap) lexeme power k more spaces fits is m =
    (g, gap ++ (lexeme_text lexeme ++ more), refl, ap is_second (eqb-true g 32 spaces.0))

first_clear : (cs : List ℕ) (tokens : List Token) (token : Token) (others : List Token) → Lexes [] 0 cs tokens → IsQuiet cs → tokens ≡ token ∷ others → may_begin (unit_token token.kind) ≡ true → StartsClear cs
first_clear cs [] token others l q same m = absurd (cc same)
first_clear cs (t ∷ ts) token others (more, n, l) q same m =
    let first : t ≡ token = cc same in
    let spaces = gap_spaces n.gap (lexeme_text n.lexeme ++ more) n.skipped (subst IsQuiet n.cut q) in
    subst StartsClear (sym n.cut)
    (front_clear n.gap n.lexeme (is_power_place []) t.kind more spaces n.fits n.kind (ap (λ (x : Token). may_begin (unit_token x.kind)) first ∙ m))

last_may : (front : List Token) (token : Token) → may_end (unit_token token.kind) ≡ true → LastMay (front ++ token ∷ [])
last_may [] token m = m
last_may (t ∷ []) token m = m
last_may (t ∷ s ∷ ss) token m = last_may (s ∷ ss) token m

-- a token that may be the last is neither `^` nor `-`
no_caret : (k : Kind) → may_end (unit_token k) ≡ true → (is_caret_kind k ≡ false) × (is_minus_kind k ≡ false)
no_caret (kind_is.Name x) m = (refl, refl)
no_caret (kind_is.Var x) m = (refl, refl)
no_caret (kind_is.Number value digits one) m = (refl, refl)
no_caret (kind_is.Word w) m = (refl, refl)
no_caret kind_is.Hole m = (refl, refl)
no_caret (kind_is.Sign s) m = by s m where
  by : (s : Symbol) → may_end (unit_token (kind_is.Sign s)) ≡ true → (is_caret_kind (kind_is.Sign s) ≡ false) × (is_minus_kind (kind_is.Sign s) ≡ false)
  by symbol.RightParen t = (refl, refl)
  by _ t = absurd (false≢true t)

-- ---- the label

module _ (measures : List ℕ → Option PowerMap) (cs : List ℕ) (tokens : List Token) (lexed : Lexes [] 0 cs tokens) (quiet : IsQuiet cs) (u : UnitSyntax) (is : IsUnit tokens u) (low : unit_height u ≤ 400) (w : PowerMap)
    (resolved : IsResolved measures u w) where
  begun : Begins tokens
  begun = unit_begins u tokens [] is.spelled is.fits

  ended : EndsWith tokens []
  ended = unit_ends u tokens [] is.spelled is.fits

  read_label : (before : List Token) (at : ℕ) (more : List ℕ) → Matches (fresh true false) before at → Clear full more → Read (one_space_each cs) full (IsUnitOf measures w) before at more
  read_label before at more m clear =
      let may = subst LastMay (sym ended.is) (last_may ended.front ended.token ended.may) in
      let says : SaysAsMuch [] before = record { power = sym m.power; caret = sym m.caret } in
      let r = moved tokens [] 0 cs lexed quiet may (one_space_each cs) (loose_one cs) before at more says m.glued clear in
      let plain = no_caret ended.token.kind ended.may in
      let up = is_caret (slice_get ended.front (length ended.front - 1)) in
      let power : is_power_place tokens ≡ false = ap is_power_place ended.is ∙ power_after ended.front ended.token up refl ∙ (λ i. plain.0 i || (plain.1 i && up)) in
      let caret : is_caret (slice_get tokens (length tokens - 1)) ≡ false = ap (λ ts. is_caret (slice_get ts (length ts - 1))) ended.is ∙ caret_after ended.front ended.token ∙ plain.0 in
      let alike = unit_alike u tokens [] r.own is.spelled r.same in
      let none : alike.left ≡ [] = no_kinds alike.left alike.same in
      record {
        own = r.own;
        end = r.end;
        matches = record { glued = r.glued; power = sym r.says.power ∙ power; caret = sym r.says.caret ∙ caret };
        lexes = r.lexes;
        spelled = λ rest. record {
          inside = r.own;
          cut = refl;
          syntax = alike.unit;
          is = record { spelled = subst (Spells alike.unit r.own) none alike.spelled; fits = alike.fits is.fits };
          resolved = resolved_alike measures u alike.unit w alike.bare resolved;
          low = subst (λ n. n ≤ 400) (sym (same_height alike.unit u alike.bare)) low;
        };
      }
    where
      no_kinds : (left : List Token) → SameKinds [] left → left ≡ []
      no_kinds [] h = refl
      no_kinds (t ∷ ts) h = absurd h

  clear_label : (more : List ℕ) → Clear (fresh true false) (one_space_each cs ++ more)
  clear_label more =
      let (c, others, cut, clear) = first_clear cs tokens begun.token begun.others lexed quiet begun.is begun.may in
      let (rest, first) = loose_head c others (one_space_each cs) (subst (λ ds. Loose ds (one_space_each cs)) cut (loose_one cs)) in
      (ap (λ ds. begins is_second (ds ++ more)) first ∙ clear, refl)

pub segment_label : (measures : List ℕ → Option PowerMap) (bytes : List ℕ) (part : PartSyntax) (w : PowerMap) → IsUtf8 bytes → IsPart bytes part → part.size ≡ None → resolved_unit measures [] part.unit ≡ Ok w
    → Segment part.label (fresh true false) full (IsUnitOf measures w)
segment_label measures bytes part w utf8 is none found = by is.form where
  by : IsPartOf bytes is.tokens part → Segment part.label (fresh true false) full (IsUnitOf measures w)
  by (inl written) =
      let cs = chars bytes in
      let quiet = plain_quiet bytes utf8 is.plain in
      let lexed = no_order cs is.tokens quiet.no_white is.lexed in
      let resolved = resolved_from measures part.unit w found in
      record {
        cs = one_space_each cs;
        is = record {
          scalars = one_space_scalars cs (scalars-chars bytes utf8);
          encoded = sym (one_space_encoded cs) ∙ ap one_space_each (encodes-chars bytes utf8) ∙ sym written.label;
        };
        clear = λ more clear. clear_label measures cs is.tokens lexed quiet part.unit written.unit.is written.unit.low w resolved more;
        read = read_label measures cs is.tokens lexed quiet part.unit written.unit.is written.unit.low w resolved;
      }
  by (inr sized) = absurd (cc (sym none ∙ sized.named.size))
