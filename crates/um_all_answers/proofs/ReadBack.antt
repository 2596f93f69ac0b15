-- What is printed with decimals is read again.
use Rattle.std.proofs.Common.{◌≡◌, ◌≢◌, ℕ, zero, suc, ◌+◌, ◌<◌, pos, Bool, true, false, ◌==◌, cond, IsTrue, List, [], ◌∷◌, ◌++◌, encode_utf8_all, length, map, Option, Some, option_map, refl, sym, ap, subst, ◌∙◌, arith}
use Rattle.std.specs.Prelude.{All}
use Rattle.std.specs.List.{slice_get}
use Rattle.std.specs.Str.{chars, IsUtf8, bytes_eq}
use Rattle.std.proofs.lemmas.Bool.{false≢true, eqb-true}
use Rattle.std.proofs.lemmas.List.{append-nil}
use Rattle.std.proofs.lemmas.List.Elements.{All-head, All-tail, All-cons, All-nil}
use Rattle.std.proofs.lemmas.Option.{slice_get-get_or}
use Rattle.std.proofs.lemmas.Slice.Eq.{bytes_eq-Decides}
use Rattle.std.proofs.lemmas.Str.{chars_from_encodes}
use Rattle.um_frac.specs.declared.number.Frac.{Frac}
use Rattle.um_frac.specs.Fraction.{numerator}
use Rattle.um_units.specs.declared.Atom.TheVariants.{Base}
use Rattle.um_units.specs.PowerMap.{PowerMap, atom}
use Rattle.um_units.specs.Range.{fits}
use Rattle.um_units.specs.Variables.{IsClosed}
use Rattle.um_syntax.specs.declared.token.Token.{Token}
use Rattle.um_syntax.specs.declared.token.Kind.{Kind}
use Rattle.um_syntax.specs.declared.token.Kind.TheVariants as kind_is
use Rattle.um_vocabulary.specs.declared.vocabulary.Keyword.{Keyword}
use Rattle.um_vocabulary.specs.declared.vocabulary.Keyword.TheVariants as keyword
use Rattle.um_vocabulary.specs.Vocabulary.{keyword_text}
use Rattle.um_syntax.specs.Gap.{is_space, IsGap, nothing, space, comment, closed}
use Rattle.um_syntax.specs.Lexeme.{Lexeme, Name, Var, Number, Word, Hole, Sign, IsLexeme, kind_of, begins}
use Rattle.um_syntax.specs.Lexeme.{text_of as lexeme_text}
use Rattle.um_syntax.specs.Lexeme.{AllContinue as LexedContinue, IsIdentifier as LexedIdentifier}
use Rattle.um_syntax.specs.Lexing.{is_power_place, Lexes, HasTokens}
use Rattle.um_syntax.proofs.Texts.{head_of}
use Rattle.um_tree.specs.RawTree.{NoteSyntax}
use Rattle.um_tree.specs.TypeTree.{TypeTree, num_type, ShapeTree}
use Rattle.um_tree.specs.ProgramTree.{FieldTree, RecordTree, ProgramTree}
use Rattle.um_tree.specs.ValueTree.{ValueTree}
use Rattle.um_tree.specs.Shapes.{type_shape}
use Rattle.um_tree.specs.Formed.{reserved_words, AllContinue, IsIdentifier, IsNameBytes, AreDistinct, BasesBelow, IsFieldType, field_names, IsFormed}
use Rattle.um_measures.specs.declared.abbreviation.Abbreviation.{Abbreviation}
use Rattle.um_measures.specs.Known.{Known, one_later, number_of, short_unit, base_or, measure_unit}
use Rattle.um_measures.specs.ClosedUnits.{given}
use Rattle.um_value.specs.ValueSyntax.{ValueSyntax, raw_truth, raw_number, raw_list, raw_record}
use Rattle.um_value.specs.ValueGrammar.{NumberSpells, Spells}
use Rattle.um_show.specs.UnitText.{base_name}
use Rattle.um_show.proofs.Chain.{fresh, full, IsGoodName}
use Rattle.um_show.proofs.Beginnings.{AllLow, numeral_low, word_low, sign_low}
use Rattle.um_display.specs.DisplayText.{number_display, display_text}
use Rattle.um_all_answers.specs.DisplayLaws.{has_mark, IsReadAgain, DisplayIsReadBack}
use Rattle.um_all_answers.proofs.Scalars.{identifier-scalars}
use Rattle.um_all_answers.proofs.Segments.{Segment}
use Rattle.um_all_answers.proofs.OwnTexts.{segment_own_unit}
use Rattle.um_all_answers.proofs.Numbers.{segment_number_at}
use Rattle.um_all_answers.proofs.OverBases.{IsOver, over_in, below_in}
use Rattle.um_all_answers.proofs.ReadValues.{IsFieldIn, IsValueOf, segment_value}

-- ---- names

-- each reserved word is among the words that are no names
word_listed : (k : Keyword) → (i : ℕ) × (slice_get reserved_words i ≡ Some (keyword_text k))
word_listed keyword.Let = (0, refl)
word_listed keyword.Rec = (1, refl)
word_listed keyword.In = (2, refl)
word_listed keyword.If = (3, refl)
word_listed keyword.Then = (4, refl)
word_listed keyword.Else = (5, refl)
word_listed keyword.Match = (6, refl)
word_listed keyword.With = (7, refl)
word_listed keyword.Type = (8, refl)
word_listed keyword.True = (9, refl)
word_listed keyword.False = (10, refl)
word_listed keyword.Not = (11, refl)
word_listed keyword.Num = (12, refl)
word_listed keyword.Bool = (13, refl)
word_listed keyword.List = (14, refl)
word_listed keyword.Measure = (15, refl)
word_listed keyword.Pown = (16, refl)

continue_same : (cs : List ℕ) → AllContinue cs → LexedContinue cs
continue_same [] h = tt
continue_same (c ∷ cs) h = (h.0, continue_same cs h.1)

identifier_same : (cs : List ℕ) → IsIdentifier cs → LexedIdentifier cs
identifier_same [] h = absurd h
identifier_same (c ∷ cs) h = (h.0, continue_same cs h.1)

good_name : (x : List ℕ) → IsNameBytes x → IsGoodName x
good_name x h = record {
  text = h.text;
  scalars = identifier-scalars h.text h.identifier;
  bytes = sym h.is;
  named = (identifier_same h.text h.identifier, h.no_hole, λ w. let listed = word_listed w.0 in h.no_word listed.0 (listed.1 ∙ ap Some (sym w.1)));
}

-- ---- the text from its start

-- a byte order mark
abbrev is_order : ℕ → Bool
is_order c = c == 65279

-- numbers, words and signs are of the ASCII range
abbrev is_low_kind : Kind → Bool
is_low_kind (kind_is.Number value digits one) = true
is_low_kind (kind_is.Word w) = true
is_low_kind (kind_is.Sign s) = true
is_low_kind _ = false

low_no_order : (cs more : List ℕ) → AllLow cs → cs ≢ [] → begins is_order (cs ++ more) ≡ false
low_no_order [] more h some = absurd (some refl)
low_no_order (c ∷ cs) more h some = go (is_order c) refl where
  go : (b : Bool) → is_order c ≡ b → is_order c ≡ false
  go true e = absurd (let same : c ≡ 65279 = eqb-true c 65279 e in let low = h.0 in omega (arith, same, low))
  go false e = e

lexeme_low : (lexeme : Lexeme) (power : Bool) (k : Kind) → IsLexeme lexeme → kind_of power lexeme ≡ Some k → is_low_kind k ≡ true → AllLow (lexeme_text lexeme)
lexeme_low (Name text) power k fits is low = absurd (let same : kind_is.Name (encode_utf8_all text) ≡ k = cc is in false≢true (ap is_low_kind same ∙ low))
lexeme_low (Var name) power k fits is low = absurd (let same : kind_is.Var (encode_utf8_all name) ≡ k = cc is in false≢true (ap is_low_kind same ∙ low))
lexeme_low (Number numeral) power k fits is low = numeral_low numeral fits
lexeme_low (Word w) power k fits is low = word_low w
lexeme_low Hole power k fits is low = absurd (let same : kind_is.Hole ≡ k = cc is in false≢true (ap is_low_kind same ∙ low))
lexeme_low (Sign s) power k fits is low = sign_low s

gap_no_order : (gap more : List ℕ) → IsGap gap → begins is_order more ≡ false → begins is_order (gap ++ more) ≡ false
gap_no_order _ more nothing h = h
gap_no_order _ back (space {c} {more} e g) h = go (is_order c) refl where
  go : (b : Bool) → is_order c ≡ b → is_order c ≡ false
  go true same = absurd (false≢true (ap is_space (sym (eqb-true c 65279 same)) ∙ e))
  go false same = same
gap_no_order _ back (comment line {more} l g) h = refl

no_order : (cs : List ℕ) (token : Token) (tokens : List Token) → Lexes [] 0 cs (token ∷ tokens) → is_low_kind token.kind ≡ true → begins is_order cs ≡ false
no_order cs token tokens (more, n, l) low =
    let head = head_of n.lexeme n.fits in
    let some : lexeme_text n.lexeme ≢ [] = λ none. cc (sym none ∙ head.2) in
    ap (begins is_order) n.cut
    ∙ gap_no_order n.gap (lexeme_text n.lexeme ++ more) n.skipped (low_no_order (lexeme_text n.lexeme) more (lexeme_low n.lexeme (is_power_place []) token.kind n.fits n.kind low) some)

-- the first token of a value text
record BeginsLow (tokens : List Token) : Type 0 where
  pub token : Token
  pub others : List Token
  pub is : tokens ≡ token ∷ others
  pub low : is_low_kind token.kind ≡ true

number_begins : (at : ℕ) (negative : Bool) (value : Frac) (n : Option NoteSyntax) (tokens rest : List Token) → NumberSpells at negative value n tokens rest → BeginsLow tokens
number_begins at false value n tokens rest (next, (token, digits, one, is, there, first), note) = record { token = token; others = next; is = first; low = ap is_low_kind is }
number_begins at true value n tokens rest (next, (token, is, first), number) = record { token = token; others = next; is = first; low = ap is_low_kind is }

value_begins : (records : List RecordTree) (raw : ValueSyntax) (s : ShapeTree) (tokens rest : List Token) → Spells records raw s tokens rest → BeginsLow tokens
value_begins records (raw_truth b) s tokens rest (shape, (token, is, first)) = record { token = token; others = rest; is = first; low = ap is_low_kind is }
value_begins records (raw_number at negative value n) s tokens rest (shape, number) = number_begins at negative value n tokens rest number
value_begins records (raw_list vs) s tokens rest (t, next, shape, (token, is, first), items) = record { token = token; others = next; is = first; low = ap is_low_kind is }
value_begins records (raw_record r vs) s tokens rest (d, next, shape, declared, (token, is, first), fields) = record { token = token; others = next; is = first; low = ap is_low_kind is }

from_start : (cs : List ℕ) (tokens : List Token) → begins is_order cs ≡ false → Lexes [] 0 cs tokens → HasTokens cs tokens
from_start [] tokens none l = l
from_start (c ∷ cs) tokens none l = subst (λ b. Lexes [] (cond b 3 0) (cond b cs (c ∷ cs)) tokens) (sym none) l

module _ (known : Known) (text : List ℕ) (v : ValueTree) (t : TypeTree) where
  -- a segment that is the whole text is an input
  segment_read : Segment text (fresh false false) full (IsValueOf known.program.records (measure_unit known) v t) → IsReadAgain known t text v
  segment_read s =
      let r = s.read [] 0 [] (record { glued = refl; power = refl; caret = refl }) (refl, refl) in
      let utf8 : IsUtf8 text = (s.cs, (s.is.scalars, s.is.encoded)) in
      let same : s.cs ≡ chars text = chars_from_encodes s.cs text utf8 s.is.encoded in
      let lexed : Lexes [] 0 s.cs r.own = subst (λ w. Lexes [] 0 w r.own) (append-nil s.cs) (subst (λ w. Lexes [] 0 (s.cs ++ []) w) (append-nil r.own) (r.lexes [] (closed nothing))) in
      let value = r.spelled [] in
      let raw = value.raw in
      let spelled : Spells known.program.records raw (type_shape t) r.own [] = subst (λ w. Spells known.program.records raw (type_shape t) w []) (append-nil r.own) value.spelled in
      let first = value_begins known.program.records raw (type_shape t) r.own [] spelled in
      let none : begins is_order s.cs ≡ false = no_order s.cs first.token first.others (subst (λ w. Lexes [] 0 s.cs w) first.is lexed) first.low in
      let tokens : HasTokens (chars text) r.own = subst (λ w. HasTokens w r.own) same (from_start s.cs r.own none lexed) in
      record {
        raw = raw;
        spelled = record { tokens = r.own; lexed = tokens; is = spelled; low = value.is.low };
        named = value.is.named;
        in_range = value.is.fit;
        typed = value.is.typed;
        same = value.is.same;
      }

-- ---- names in lists

in_front : {A : Type 0} (xs ys : List A) (i : ℕ) (x : A) → slice_get xs i ≡ Some x → slice_get (xs ++ ys) i ≡ Some x
in_front [] ys zero x e = absurd (cc e)
in_front [] ys (suc i) x e = absurd (cc e)
in_front (y ∷ xs) ys zero x e = e
in_front (y ∷ xs) ys (suc i) x e = in_front xs ys i x e

behind : {A : Type 0} (xs ys : List A) (i : ℕ) → slice_get (xs ++ ys) (length xs + i) ≡ slice_get ys i
behind [] ys i = ap (slice_get ys) (omega arith)
behind (x ∷ xs) ys i = let index : length (x ∷ xs) + i ≡ suc (length xs + i) = omega arith in ap (slice_get (x ∷ (xs ++ ys))) index ∙ behind xs ys i

name_listed : (fs : List FieldTree) (i : ℕ) (f : FieldTree) → slice_get fs i ≡ Some f → slice_get (map (λ (x : FieldTree). x.name) fs) i ≡ Some f.name
name_listed [] zero f e = absurd (cc e)
name_listed [] (suc i) f e = absurd (cc e)
name_listed (g ∷ fs) zero f e = ap (λ (o : Option FieldTree). option_map (λ (x : FieldTree). x.name) o) e
name_listed (g ∷ fs) (suc i) f e = name_listed fs i f e

field_among : (ds : List RecordTree) (r : ℕ) (d : RecordTree) → slice_get ds r ≡ Some d → (i : ℕ) (f : FieldTree) → slice_get d.fields i ≡ Some f → (j : ℕ) × (slice_get (field_names ds) j ≡ Some f.name)
field_among [] zero d e i f h = absurd (cc e)
field_among [] (suc r) d e i f h = absurd (cc e)
field_among (c ∷ ds) zero d e i f h =
    let same : c ≡ d = cc e in
    (i, in_front (map (λ (x : FieldTree). x.name) c.fields) (field_names ds) i f.name (name_listed c.fields i f (ap (λ (x : RecordTree). slice_get x.fields i) same ∙ h)))
field_among (c ∷ ds) (suc r) d e i f h =
    let j = field_among ds r d e i f h in
    (length (map (λ (x : FieldTree). x.name) c.fields) + j.0, behind (map (λ (x : FieldTree). x.name) c.fields) (field_names ds) j.0 ∙ j.1)

number_first : (names : List (List ℕ)) (k : ℕ) (x : List ℕ) → slice_get names k ≡ Some x → AreDistinct names → number_of names x ≡ Some k
number_first [] zero x e once = absurd (cc e)
number_first [] (suc k) x e once = absurd (cc e)
number_first (y ∷ names) zero x e once =
    let same : y ≡ x = cc e in
    ap (λ b. cond b (Some 0) (one_later (number_of names x))) ((bytes_eq-Decides x y).1 (sym same))
number_first (y ∷ names) (suc k) x e once = go (bytes_eq x y) refl (number_first names k x e (λ i j z a b. fewer i j (once (suc i) (suc j) z a b))) where
  fewer : (i j : ℕ) → suc i ≡ suc j → i ≡ j
  fewer i j same = omega (arith, same)

  go : (b : Bool) → bytes_eq x y ≡ b → number_of names x ≡ Some k → number_of (y ∷ names) x ≡ Some (suc k)
  go true is rest = absurd (let same : x ≡ y = (bytes_eq-Decides x y).0 is in let clash = once 0 (suc k) x (ap Some (sym same)) e in omega (arith, clash))
  go false is rest = ap (λ b. cond b (Some 0) (one_later (number_of names x))) is ∙ ap one_later rest

-- ---- the fields of a formed program

module _ (p : ProgramTree) (formed : IsFormed p) where
  field_name : (r : ℕ) (d : RecordTree) → slice_get p.records r ≡ Some d → (i : ℕ) (f : FieldTree) → slice_get d.fields i ≡ Some f → IsGoodName f.name
  field_name r d e i f h = let j = field_among p.records r d e i f h in good_name f.name (formed.names_of_fields j.0 f.name j.1)

  fields_known : (n : ℕ) (fs : List FieldTree) (r : ℕ) → ((i : ℕ) (f : FieldTree) → slice_get fs i ≡ Some f → IsGoodName f.name) → All (λ f. IsFieldType p r n f.type) fs → All (IsFieldIn (length p.bases) n) fs
  fields_known n [] r named all = All-nil (IsFieldIn (length p.bases) n)
  fields_known n (f ∷ fs) r named all =
      let first = All-head (λ (x : FieldTree). IsFieldType p r n x.type) f fs all in
      All-cons (IsFieldIn (length p.bases) n) f fs
      (record { below = below_in (length p.bases) n p.records f.type first.0; over = over_in (length p.bases) n p.records f.type first.0; named = named 0 f refl })
      (fields_known n fs r (λ i x h. named (suc i) x h) (All-tail (λ (x : FieldTree). IsFieldType p r n x.type) f fs all))

  fields_in_order : (r : ℕ) (d : RecordTree) → slice_get p.records r ≡ Some d → All (IsFieldIn (length p.bases) d.units) d.fields × (0 < length d.fields)
  fields_in_order r d e = let is = formed.records r d e in (fields_known d.units d.fields r (field_name r d e) is.fields, is.some_field)

  base_named : (k : ℕ) → k < length p.bases → slice_get p.bases k ≡ Some (base_name p.bases k)
  base_named k low = slice_get-get_or p.bases k [] low

  base_good : (k : ℕ) → k < length p.bases → IsGoodName (base_name p.bases k)
  base_good k low = good_name (base_name p.bases k) (formed.names k (base_name p.bases k) (in_front p.bases (map (λ d. d.name) p.records) k (base_name p.bases k) (base_named k low)))

  bases_once : AreDistinct p.bases
  bases_once i j x a b = formed.once i j x (in_front p.bases (map (λ d. d.name) p.records) i x a) (in_front p.bases (map (λ d. d.name) p.records) j x b)

  base_known : (shorts : List Abbreviation) (k : ℕ) → k < length p.bases → measure_unit (given p shorts) (base_name p.bases k) ≡ Some (atom (Base k))
  base_known shorts k low = ap (λ o. base_or o (short_unit shorts (base_name p.bases k))) (number_first p.bases k (base_name p.bases k) (base_named k low) bases_once)

-- ---- the law

pub display_is_read_back : DisplayIsReadBack
display_is_read_back p shorts parts units digits v t are resolved few shown unmarked =
    let known = given p shorts in
    let measures = measure_unit known in
    let n = length p.bases in
    let number = number_display p.bases digits units in
    let own = λ (w : PowerMap) (over : BasesBelow n w) (fit : IsTrue (fits w)) (closed : IsClosed w) (some : w.terms ≡ [] → ⊥).
    segment_own_unit measures p.bases n (base_good p shown.formed) (base_known p shown.formed shorts) w over closed fit some in
    let numbers = λ (c : Frac) (u : PowerMap) (g : Bool) (over : IsOver n (num_type u)) (fit : IsTrue (fits u)) (zero : (IsClosed u → ⊥) → numerator c ≡ pos 0) (plain : has_mark (number c (num_type u)) ≡ false).
    segment_number_at p.records measures p.bases digits few parts units are resolved u (own u over fit) c g zero plain in
    segment_read known (display_text p digits units v t) v t
    (segment_value p measures n number (fields_in_order p shown.formed) numbers v t false shown.stands (over_in n shown.variables p.records t shown.declared) shown.fits shown.parts_fit unmarked)
