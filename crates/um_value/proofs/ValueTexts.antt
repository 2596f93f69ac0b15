-- Each shape of a formed program has a value text without notes.
use Rattle.std.proofs.Common.{◌≡◌, ℕ, zero, suc, ◌<◌, max, true, false, List, [], ◌∷◌, ◌++◌, length, pos, slice_get, Some, None, refl, sym, ap, subst, append_assoc, arith}
use Rattle.std.specs.Prelude.{All}
use Rattle.std.proofs.lemmas.Int.{ints}
use Rattle.std.proofs.lemmas.List.Elements.{All-head, All-tail}
use Rattle.um_frac.specs.declared.number.Frac.{Frac}
use Rattle.um_frac.proofs.Gcd.{gcd-one}
use Rattle.um_syntax.specs.declared.token.Token.{Token}
use Rattle.um_syntax.specs.declared.token.Kind.{Kind}
use Rattle.um_syntax.specs.declared.token.Kind.TheVariants as kind
use Rattle.um_vocabulary.specs.declared.vocabulary.Keyword.TheVariants as keyword
use Rattle.um_vocabulary.specs.declared.vocabulary.Symbol.{Symbol}
use Rattle.um_vocabulary.specs.declared.vocabulary.Symbol.TheVariants as symbol
use Rattle.um_tree.specs.TypeTree.{TypeTree, bool_type, num_type, list_type, record_type, ShapeTree, bool_shape, num_shape, list_shape, record_shape}
use Rattle.um_tree.specs.ProgramTree.{FieldTree, RecordTree, ProgramTree}
use Rattle.um_tree.specs.Shapes.{type_shape}
use Rattle.um_tree.specs.Formed.{IsTypeIn, NamesEarlier, IsFieldType, IsFormedRecord}
use Rattle.um_value.specs.ValueSyntax.{ValueSyntax, ValueSyntaxes, raw_truth, raw_number, raw_list, raw_record, raw_none, raw_more}
use Rattle.um_value.specs.ValueGrammar.{NamedSpells, Spells, FieldsSpell, MoreFieldsSpell, IsShapeIn, value_height, raws_height}

abbrev pub plain_token : Kind → Token
plain_token k = record { kind = k; start = 0; end = 0; glued = false }

abbrev pub sign_token : Symbol → Token
sign_token s = plain_token (kind.Sign s)

abbrev pub name_token : List ℕ → Token
name_token x = plain_token (kind.Name x)

abbrev pub zero_number : Frac
zero_number = record { num = pos 0; den = pos 1; positive = omega (arith, ints); den_fits = omega (arith, ints); above = omega (arith, ints); num_fits = omega (arith, ints); lowest = gcd-one 0 }

abbrev pub number_token : Token
number_token = plain_token (kind.Number zero_number true false)

module _ (records : List RecordTree) where
  -- a value text of the shape, whatever follows
  abbrev pub HasText : ShapeTree → Type 0
  HasText s = (v : ValueSyntax) × (tokens : List Token) × ((rest : List Token) → Spells records v s (tokens ++ rest) rest) × (value_height v ≡ 0)

  -- each field has a shape over the records
  abbrev pub ShapesIn : List FieldTree → Type 0
  ShapesIn [] = Unit {0}
  ShapesIn (f ∷ fs) = IsShapeIn records (type_shape f.type) × ShapesIn fs

  abbrev pub FieldsHave : List FieldTree → Type 0
  FieldsHave [] = Unit {0}
  FieldsHave (f ∷ fs) = HasText (type_shape f.type) × FieldsHave fs

  pub named_spells : (f : FieldTree) (p : HasText (type_shape f.type)) (rest : List Token)
      → NamedSpells f (Spells records p.0 (type_shape f.type)) (name_token f.name ∷ sign_token symbol.Equal ∷ (p.1 ++ rest)) rest
  named_spells f p rest = (sign_token symbol.Equal ∷ (p.1 ++ rest), p.1 ++ rest, (name_token f.name, refl, refl), (sign_token symbol.Equal, refl, refl), p.2 rest)

  abbrev pub MoreFields : List FieldTree → Type 0
  MoreFields fs = (vs : ValueSyntaxes) × (tokens : List Token) × ((rest : List Token) → MoreFieldsSpell records vs fs (tokens ++ rest) rest) × (raws_height vs ≡ 0)

  both_zero : (m n : ℕ) → m ≡ 0 → n ≡ 0 → max m n ≡ 0
  both_zero m n e f = omega (arith, e, f)

  -- the name, `=`, the value, and then the others
  abbrev field_tokens : FieldTree → List Token → List Token → List Token
  field_tokens f value others = name_token f.name ∷ sign_token symbol.Equal ∷ (value ++ others)

  named_then : (f : FieldTree) (p : HasText (type_shape f.type)) (others rest : List Token)
      → NamedSpells f (Spells records p.0 (type_shape f.type)) (name_token f.name ∷ sign_token symbol.Equal ∷ ((p.1 ++ others) ++ rest)) (others ++ rest)
  named_then f p others rest =
      subst (λ w. NamedSpells f (Spells records p.0 (type_shape f.type)) (name_token f.name ∷ sign_token symbol.Equal ∷ w) (others ++ rest)) (sym (append_assoc p.1 others rest)) (named_spells f p (others ++ rest))

  pub more_fields : (fs : List FieldTree) → FieldsHave fs → MoreFields fs
  more_fields [] h = (raw_none, sign_token symbol.RightBrace ∷ [], (λ rest. (sign_token symbol.RightBrace, refl, refl)), refl)
  more_fields (f ∷ fs) h =
      let p : HasText (type_shape f.type) = h.0 in
      let q : MoreFields fs = more_fields fs h.1 in (
        raw_more p.0 q.0,
        sign_token symbol.Semicolon ∷ field_tokens f p.1 q.1,
        (λ rest. (name_token f.name ∷ sign_token symbol.Equal ∷ ((p.1 ++ q.1) ++ rest), q.1 ++ rest, (sign_token symbol.Semicolon, refl, refl), named_then f p q.1 rest, q.2 rest)),
        both_zero (value_height p.0) (raws_height q.0) p.3 q.3,
      )

  pub truth_text : HasText bool_shape
  truth_text = (raw_truth true, plain_token (kind.Word keyword.True) ∷ [], (λ rest. (refl, (plain_token (kind.Word keyword.True), refl, refl))), refl)

  pub number_text : HasText num_shape
  number_text = (raw_number 0 false zero_number None, number_token ∷ [], (λ rest. (refl, (rest, (number_token, true, false, refl, refl, refl), refl))), refl)

  pub list_text : (t : ShapeTree) → HasText (list_shape t)
  list_text t = (
    raw_list raw_none,
    sign_token symbol.LeftBracket ∷ sign_token symbol.RightBracket ∷ [],
    (λ rest. (t, sign_token symbol.RightBracket ∷ rest, refl, (sign_token symbol.LeftBracket, refl, refl), (sign_token symbol.RightBracket, refl, refl))),
    refl,
  )

  record_text : (r : ℕ) (d : RecordTree) (f : FieldTree) (fs : List FieldTree) → slice_get records r ≡ Some d → d.fields ≡ f ∷ fs → FieldsHave (f ∷ fs) → HasText (record_shape r)
  record_text r d f fs is are h =
      let p : HasText (type_shape f.type) = h.0 in
      let q : MoreFields fs = more_fields fs h.1 in (
        raw_record r (raw_more p.0 q.0),
        sign_token symbol.LeftBrace ∷ field_tokens f p.1 q.1,
        (λ rest. (
          d,
          name_token f.name ∷ sign_token symbol.Equal ∷ ((p.1 ++ q.1) ++ rest),
          refl,
          is,
          (sign_token symbol.LeftBrace, refl, refl),
          subst (λ gs. FieldsSpell records (raw_more p.0 q.0) gs (name_token f.name ∷ sign_token symbol.Equal ∷ ((p.1 ++ q.1) ++ rest)) rest) (sym are) (q.1 ++ rest, named_then f p q.1 rest, q.2 rest),
        )),
        both_zero (value_height p.0) (raws_height q.0) p.3 q.3,
      )

  -- the records before this one have texts
  abbrev Below : ℕ → Type 0
  Below r = (q : ℕ) (d : RecordTree) → q < r → slice_get records q ≡ Some d → HasText (record_shape q)

  type_text : (bases units r : ℕ) (t : TypeTree) → IsTypeIn bases units records t → NamesEarlier r t → Below r → HasText (type_shape t)
  type_text bases units r bool_type is earlier below = truth_text
  type_text bases units r (num_type u) is earlier below = number_text
  type_text bases units r (list_type t) is earlier below = list_text (type_shape t)
  type_text bases units r (record_type q us) is earlier below = below q is.0.0 earlier is.0.1

module _ (p : ProgramTree) where
  fields_text : (r units : ℕ) (fs : List FieldTree) → All (λ (f : FieldTree). IsFieldType p r units f.type) fs → Below p.records r → FieldsHave p.records fs
  fields_text r units [] all below = tt
  fields_text r units (f ∷ fs) all below =
      let h = All-head (λ (g : FieldTree). IsFieldType p r units g.type) f fs all in
      (type_text p.records (length p.bases) units r f.type h.0 h.1 below, fields_text r units fs (All-tail (λ (g : FieldTree). IsFieldType p r units g.type) f fs all) below)

  one_text : (r : ℕ) (d : RecordTree) (fs : List FieldTree) → d.fields ≡ fs → slice_get p.records r ≡ Some d → IsFormedRecord p r d → Below p.records r → HasText p.records (record_shape r)
  one_text r d [] are is formed below = absurd (let some = formed.some_field in let none : length d.fields ≡ 0 = ap (λ (gs : List FieldTree). length gs) are in omega (arith, some, none))
  one_text r d (f ∷ fs) are is formed below =
      record_text p.records r d f fs is are (fields_text r d.units (f ∷ fs) (subst (λ gs. All (λ (g : FieldTree). IsFieldType p r d.units g.type) gs) are formed.fields) below)

  module _ (formed : (r : ℕ) (d : RecordTree) → slice_get p.records r ≡ Some d → IsFormedRecord p r d) where
    records_below : (n : ℕ) → Below p.records n
    records_below zero q d lt is = absurd (omega (arith, lt))
    records_below (suc n) q d lt is = one_text q d d.fields refl is (formed q d is) (λ o e low at. records_below n o e (omega (arith, lt, low)) at)

    -- each shape over the records has a text
    pub shape_text : (s : ShapeTree) → IsShapeIn p.records s → HasText p.records s
    shape_text bool_shape is = truth_text p.records
    shape_text num_shape is = number_text p.records
    shape_text (list_shape t) is = list_text p.records t
    shape_text (record_shape r) is = records_below (suc r) r is.0 (omega arith) is.1

    type_in : (bases units : ℕ) (t : TypeTree) → IsTypeIn bases units p.records t → IsShapeIn p.records (type_shape t)
    type_in bases units bool_type is = tt
    type_in bases units (num_type u) is = tt
    type_in bases units (list_type t) is = type_in bases units t is
    type_in bases units (record_type q us) is = (is.0.0, is.0.1)

    fields_are_in : (r units : ℕ) (fs : List FieldTree) → All (λ (f : FieldTree). IsFieldType p r units f.type) fs → ShapesIn p.records fs
    fields_are_in r units [] all = tt
    fields_are_in r units (f ∷ fs) all =
        let h = All-head (λ (g : FieldTree). IsFieldType p r units g.type) f fs all in
        (type_in (length p.bases) units f.type h.0, fields_are_in r units fs (All-tail (λ (g : FieldTree). IsFieldType p r units g.type) f fs all))

    pub fields_in : (r : ℕ) (d : RecordTree) → slice_get p.records r ≡ Some d → ShapesIn p.records d.fields
    fields_in r d is = fields_are_in r d.units d.fields (formed r d is).fields
