-- The text of a value whose numbers are read is read as the value, at its type.
use Rattle.std.proofs.Common.{◌≡◌, ℕ, ◌<◌, ◌≤◌, max, pos, Bool, true, false, ◌==◌, ◌||◌, ◌&&◌, IsTrue, List, [], ◌∷◌, ◌++◌, append_assoc, codes, length, map, Option, Some, None, refl, sym, ap, subst, ◌∙◌, arith}
use Rattle.std.specs.Prelude.{All}
use Rattle.std.specs.List.{list_any, slice_get}
use Rattle.std.proofs.lemmas.Bool.{and_parts}
use Rattle.std.proofs.lemmas.List.Elements.{All-head, All-tail}
use Rattle.um_units.specs.PowerMap.{PowerMap, nth}
use Rattle.um_units.specs.Range.{fits}
use Rattle.um_units.specs.Variables.{IsClosed}
use Rattle.um_frac.specs.declared.number.Frac.{Frac}
use Rattle.um_frac.specs.Fraction.{numerator}
use Rattle.um_syntax.specs.declared.token.Token.{Token}
use Rattle.um_syntax.specs.declared.token.Kind.TheVariants as kind
use Rattle.um_vocabulary.specs.declared.vocabulary.Keyword.TheVariants as keyword
use Rattle.um_vocabulary.specs.declared.vocabulary.Symbol.TheVariants as symbol
use Rattle.um_syntax.proofs.Closing.{or_false}
use Rattle.um_tree.specs.RawTree.{NoteSyntax}
use Rattle.um_tree.specs.TypeTree.{TypeTree, bool_type, num_type, list_type, record_type, list_shape}
use Rattle.um_tree.specs.ProgramTree.{FieldTree, RecordTree, ProgramTree}
use Rattle.um_tree.specs.ValueTree.{ValueTree, ValueTrees, truth_value, number_value, list_value, record_value, no_values, more_values, without_units, without_units_each}
use Rattle.um_tree.specs.Typing.{put, unit_at, field_types, LiteralUnit, IsRecordAt}
use Rattle.um_tree.specs.Shapes.{type_shape}
use Rattle.um_tree.specs.InputType.{InputHas, EachInputHas, InputsHave}
use Rattle.um_elim.specs.Application.{type_fits}
use Rattle.um_rows.proofs.Variables.{TypeBelow}
use Rattle.um_rows.proofs.SliceLaws.{put-units}
use Rattle.um_scaling.specs.FreeNumbers.{IsFreeZero, EachFreeZero, FieldsFreeZero}
use Rattle.um_measures.specs.UnitNames.{or_else}
use Rattle.um_value.specs.ValueSyntax.{ValueSyntax, ValueSyntaxes, raw_truth, raw_number, raw_list, raw_record, raw_none, raw_more}
use Rattle.um_types.specs.TypeGrammar.{FirstSign}
use Rattle.um_value.specs.ValueGrammar.{truth_word, NumberSpells, NamedSpells, Spells, ItemsSpell, MoreItemsSpell, FieldsSpell, MoreFieldsSpell, written_height, value_height, raws_height}
use Rattle.um_value.specs.ValueNames.{signed_number, note_fault, note_range_fault, unit_note_of, name_fault, name_fault_among, range_fault, range_fault_among, input_of, inputs_of}
use Rattle.um_show.specs.ValueText.{truth_text, separator, field_at, fields_in, text_by, items_by, fields_by, parts_fit, items_fit, fields_fit}
use Rattle.um_show.proofs.Chain.{fresh, full, IsGoodName}
use Rattle.um_all_answers.specs.DisplayLaws.{has_mark}
use Rattle.um_all_answers.proofs.Segments.{Spelling, Segment, Then, segment_then, segment_as, segment_of, segment_token, segment_blank, Skips, FirstToken}
use Rattle.um_all_answers.proofs.Tokens.{name_token, word_token, sign_token}
use Rattle.um_all_answers.proofs.Labels.{any_parts}
use Rattle.um_all_answers.proofs.OverBases.{AreOver, IsOver, put_over}

-- no part of a text without `~` has one
any_front : (test : ℕ → Bool) (xs ys : List ℕ) → list_any test (xs ++ ys) ≡ false → list_any test xs ≡ false
any_front test [] ys e = refl
any_front test (x ∷ xs) ys e =
    let both = or_false (test x) (list_any test (xs ++ ys)) e in
    ap (λ b. b || list_any test xs) both.0 ∙ any_front test xs ys both.1

marks_front : (xs ys : List ℕ) → has_mark (xs ++ ys) ≡ false → has_mark xs ≡ false
marks_front xs ys e = any_front (λ b. b == 126) xs ys e

marks_back : (xs ys : List ℕ) → has_mark (xs ++ ys) ≡ false → has_mark ys ≡ false
marks_back xs ys e = any_parts (λ b. b == 126) xs ys e

-- units put into a type leave its shape
shape_kept : (s : ℕ → PowerMap) (t : TypeTree) → type_shape (put s t) ≡ type_shape t
shape_kept s bool_type = refl
shape_kept s (num_type u) = refl
shape_kept s (list_type t) = ap list_shape (shape_kept s t)
shape_kept s (record_type r us) = refl

both_none : (a b : Option ℕ) → a ≡ None → b ≡ None → or_else a b ≡ None
both_none a b e f = ap (λ x. or_else x b) e ∙ f

both_low : (a b : ℕ) → a ≤ 400 → b ≤ 400 → max a b ≤ 400
both_low a b h k = omega (arith, h, k)

-- the text of a field and of those after it, part by part
field_text : (name value more : List ℕ) → name ++ (codes " " ++ (codes "=" ++ (codes " " ++ (value ++ (more ++ codes " }"))))) ≡ (((name ++ codes " = ") ++ value) ++ more) ++ codes " }"
field_text name value more =
    sym
    (
    append_assoc ((name ++ codes " = ") ++ value) more (codes " }")
    ∙ append_assoc (name ++ codes " = ") value (more ++ codes " }")
    ∙ append_assoc name (codes " = ") (value ++ (more ++ codes " }"))
    )

behind_separator : (name value more : List ℕ) → codes ";" ++ (codes " " ++ ((((name ++ codes " = ") ++ value) ++ more) ++ codes " }")) ≡ (((separator ++ name ++ codes " = ") ++ value) ++ more) ++ codes " }"
behind_separator name value more = refl

-- ---- what the tokens are

module _ (records : List RecordTree) (measures : List ℕ → Option PowerMap) where
  -- a number of the unit
  pub record IsNumberOf (x : Frac) (u : PowerMap) (tokens rest : List Token) : Type 0 where
    pub at : ℕ
    pub negative : Bool
    pub value : Frac
    pub note : Option NoteSyntax
    pub spelled : NumberSpells at negative value note tokens rest
    pub signed : signed_number negative value ≡ x
    pub named : note_fault measures at value note ≡ None
    pub fit : note_range_fault measures note ≡ None
    pub low : written_height note ≤ 400
    pub literal : LiteralUnit x (unit_note_of measures note) u

  -- what is known of a value text beside its tokens
  pub record IsRawOf (raw : ValueSyntax) (v : ValueTree) (t : TypeTree) : Type 0 where
    pub named : name_fault measures raw ≡ None
    pub fit : range_fault measures raw ≡ None
    pub low : value_height raw ≤ 400
    pub typed : InputHas records (input_of measures raw) t
    pub same : without_units (input_of measures raw) ≡ v

  pub record IsValueOf (v : ValueTree) (t : TypeTree) (tokens rest : List Token) : Type 0 where
    pub raw : ValueSyntax
    pub spelled : Spells records raw (type_shape t) tokens rest
    pub is : IsRawOf raw v t

  record AreRawItems (raws : ValueSyntaxes) (vs : ValueTrees) (t : TypeTree) : Type 0 where
    pub named : name_fault_among measures raws ≡ None
    pub fit : range_fault_among measures raws ≡ None
    pub low : raws_height raws ≤ 400
    pub typed : EachInputHas records (inputs_of measures raws) t
    pub same : without_units_each (inputs_of measures raws) ≡ vs

  record AreItemsOf (vs : ValueTrees) (t : TypeTree) (tokens rest : List Token) : Type 0 where
    pub raws : ValueSyntaxes
    pub spelled : ItemsSpell records raws (type_shape t) tokens rest
    pub are : AreRawItems raws vs t

  record AreMoreItemsOf (vs : ValueTrees) (t : TypeTree) (tokens rest : List Token) : Type 0 where
    pub raws : ValueSyntaxes
    pub spelled : MoreItemsSpell records raws (type_shape t) tokens rest
    pub are : AreRawItems raws vs t

  no_items : (t : TypeTree) → AreRawItems raw_none no_values t
  no_items t = record { named = refl; fit = refl; low = omega arith; typed = tt; same = refl }

  one_item_more : (raw : ValueSyntax) (raws : ValueSyntaxes) (v : ValueTree) (vs : ValueTrees) (t : TypeTree) → IsRawOf raw v t → AreRawItems raws vs t → AreRawItems (raw_more raw raws) (more_values v vs) t
  one_item_more raw raws v vs t h k = record {
    named = both_none (name_fault measures raw) (name_fault_among measures raws) h.named k.named;
    fit = both_none (range_fault measures raw) (range_fault_among measures raws) h.fit k.fit;
    low = both_low (value_height raw) (raws_height raws) h.low k.low;
    typed = (h.typed, k.typed);
    same = λ i. more_values (h.same i) (k.same i);
  }

  record AreRawFields (raws : ValueSyntaxes) (vs : ValueTrees) (ts : List TypeTree) : Type 0 where
    pub named : name_fault_among measures raws ≡ None
    pub fit : range_fault_among measures raws ≡ None
    pub low : raws_height raws ≤ 400
    pub typed : InputsHave records (inputs_of measures raws) ts
    pub same : without_units_each (inputs_of measures raws) ≡ vs

  no_fields : AreRawFields raw_none no_values []
  no_fields = record { named = refl; fit = refl; low = omega arith; typed = refl; same = refl }

  one_field_more : (raw : ValueSyntax) (raws : ValueSyntaxes) (v : ValueTree) (vs : ValueTrees) (t : TypeTree) (ts : List TypeTree) → IsRawOf raw v t → AreRawFields raws vs ts → AreRawFields (raw_more raw raws) (more_values v vs) (t ∷ ts)
  one_field_more raw raws v vs t ts h k = record {
    named = both_none (name_fault measures raw) (name_fault_among measures raws) h.named k.named;
    fit = both_none (range_fault measures raw) (range_fault_among measures raws) h.fit k.fit;
    low = both_low (value_height raw) (raws_height raws) h.low k.low;
    typed = (t, ts, h.typed, k.typed, refl);
    same = λ i. more_values (h.same i) (k.same i);
  }

  record AreFieldsOf (vs : ValueTrees) (fs : List FieldTree) (ts : List TypeTree) (tokens rest : List Token) : Type 0 where
    pub raws : ValueSyntaxes
    pub spelled : FieldsSpell records raws fs tokens rest
    pub are : AreRawFields raws vs ts

  record AreMoreFieldsOf (vs : ValueTrees) (fs : List FieldTree) (ts : List TypeTree) (tokens rest : List Token) : Type 0 where
    pub raws : ValueSyntaxes
    pub spelled : MoreFieldsSpell records raws fs tokens rest
    pub are : AreRawFields raws vs ts

  number_value_of : (x : Frac) (u : PowerMap) (tokens rest : List Token) → IsNumberOf x u tokens rest → IsValueOf (number_value x) (num_type u) tokens rest
  number_value_of x u tokens rest n = record {
    raw = raw_number n.at n.negative n.value n.note;
    spelled = (refl, n.spelled);
    is = record {
      named = n.named;
      fit = n.fit;
      low = n.low;
      typed = (u, subst (λ c. LiteralUnit c (unit_note_of measures n.note) u) (sym n.signed) n.literal, refl);
      same = ap number_value n.signed;
    };
  }

  truth_value_of : (b : Bool) (g : Bool) (tokens rest : List Token) → FirstToken (kind.Word (truth_word b)) g tokens rest → IsValueOf (truth_value b) bool_type tokens rest
  truth_value_of b g tokens rest (token, is, glued, first) = record {
    raw = raw_truth b;
    spelled = (refl, (token, is, first));
    is = record { named = refl; fit = refl; low = omega arith; typed = refl; same = refl };
  }

  segment_truth : (b : Bool) (g : Bool) → Segment (truth_text b) (fresh g false) full (IsValueOf (truth_value b) bool_type)
  segment_truth true g =
      segment_as (codes "true") (fresh g false) full (FirstToken (kind.Word keyword.True) g) (IsValueOf (truth_value true) bool_type) (truth_value_of true g)
      (segment_token (codes "true") (fresh g false) full (kind.Word keyword.True) (word_token keyword.True (fresh g false) refl))
  segment_truth false g =
      segment_as (codes "false") (fresh g false) full (FirstToken (kind.Word keyword.False) g) (IsValueOf (truth_value false) bool_type) (truth_value_of false g)
      (segment_token (codes "false") (fresh g false) full (kind.Word keyword.False) (word_token keyword.False (fresh g false) refl))

  -- ---- the parts of lists and records

  list_value_of : (g : Bool) (vs : ValueTrees) (t : TypeTree) (tokens rest : List Token) → Then (FirstToken (kind.Sign symbol.LeftBracket) g) (AreItemsOf vs t) tokens rest → IsValueOf (list_value vs) (list_type t) tokens rest
  list_value_of g vs t tokens rest (next, (token, is, glued, first), items) = record {
    raw = raw_list items.raws;
    spelled = (type_shape t, next, refl, (token, is, first), items.spelled);
    is = record { named = items.are.named; fit = items.are.fit; low = items.are.low; typed = (t, items.are.typed, refl); same = ap list_value items.are.same };
  }

  items_none : (g : Bool) (t : TypeTree) (tokens rest : List Token) → FirstToken (kind.Sign symbol.RightBracket) g tokens rest → AreItemsOf no_values t tokens rest
  items_none g t tokens rest (token, is, glued, first) = record { raws = raw_none; spelled = (token, is, first); are = no_items t }

  more_items_none : (g : Bool) (t : TypeTree) (tokens rest : List Token) → FirstToken (kind.Sign symbol.RightBracket) g tokens rest → AreMoreItemsOf no_values t tokens rest
  more_items_none g t tokens rest (token, is, glued, first) = record { raws = raw_none; spelled = (token, is, first); are = no_items t }

  items_some : (v : ValueTree) (vs : ValueTrees) (t : TypeTree) (tokens rest : List Token) → Then (IsValueOf v t) (AreMoreItemsOf vs t) tokens rest → AreItemsOf (more_values v vs) t tokens rest
  items_some v vs t tokens rest (mid, x, xs) = record { raws = raw_more x.raw xs.raws; spelled = (mid, x.spelled, xs.spelled); are = one_item_more x.raw xs.raws v vs t x.is xs.are }

  more_items_some : (v : ValueTree) (vs : ValueTrees) (t : TypeTree) (tokens rest : List Token)
      → Then (FirstToken (kind.Sign symbol.Semicolon) true) (Then Skips (Then (IsValueOf v t) (AreMoreItemsOf vs t))) tokens rest → AreMoreItemsOf (more_values v vs) t tokens rest
  more_items_some v vs t tokens rest (next, (token, is, glued, first), (start, skip, (mid, x, xs))) = record {
    raws = raw_more x.raw xs.raws;
    spelled = (next, mid, (token, is, first), subst (λ w. Spells records x.raw (type_shape t) w mid) (sym skip) x.spelled, xs.spelled);
    are = one_item_more x.raw xs.raws v vs t x.is xs.are;
  }

  -- a field's name, `=` and its value; the value has the field's shape
  abbrev FieldTokens : Bool → List ℕ → Spelling → Spelling
  FieldTokens g name S = Then (FirstToken (kind.Name name) g) (Then Skips (Then (FirstToken (kind.Sign symbol.Equal) false) (Then Skips S)))

  abbrev FieldAndMore : Bool → FieldTree → List FieldTree → ValueTree → ValueTrees → TypeTree → List TypeTree → Spelling
  FieldAndMore g f fs v vs t ts = FieldTokens g f.name (Then (IsValueOf v t) (AreMoreFieldsOf vs fs ts))

  record FieldFound (f : FieldTree) (fs : List FieldTree) (v : ValueTree) (vs : ValueTrees) (t : TypeTree) (ts : List TypeTree) (tokens rest : List Token) : Type 0 where
    pub mid : List Token
    pub x : ValueSyntax
    pub xs : ValueSyntaxes
    pub spelled : NamedSpells f (Spells records x (type_shape f.type)) tokens mid
    pub more : MoreFieldsSpell records xs fs mid rest
    pub are : AreRawFields (raw_more x xs) (more_values v vs) (t ∷ ts)

  field_found : (g : Bool) (f : FieldTree) (fs : List FieldTree) (v : ValueTree) (vs : ValueTrees) (t : TypeTree) (ts : List TypeTree) (tokens rest : List Token) → type_shape t ≡ type_shape f.type
      → FieldAndMore g f fs v vs t ts tokens rest → FieldFound f fs v vs t ts tokens rest
  field_found g f fs v vs t ts tokens rest shape (a, (name, named, glued, first), (b, skip, (c, (equal, is, apart, second), (d, over, (mid, x, xs))))) = record {
    mid = mid;
    x = x.raw;
    xs = xs.raws;
    spelled = (
      a,
      c,
      (name, named, first),
      subst (λ w. FirstSign symbol.Equal w c) (sym skip) (equal, is, second),
      subst (λ w. Spells records x.raw (type_shape f.type) w mid) (sym over) (subst (λ s. Spells records x.raw s d mid) shape x.spelled),
    );
    more = xs.spelled;
    are = one_field_more x.raw xs.raws v vs t ts x.is xs.are;
  }

  fields_some : (g : Bool) (f : FieldTree) (fs : List FieldTree) (v : ValueTree) (vs : ValueTrees) (t : TypeTree) (ts : List TypeTree) (tokens rest : List Token) → type_shape t ≡ type_shape f.type
      → FieldAndMore g f fs v vs t ts tokens rest → AreFieldsOf (more_values v vs) (f ∷ fs) (t ∷ ts) tokens rest
  fields_some g f fs v vs t ts tokens rest shape h =
      let found = field_found g f fs v vs t ts tokens rest shape h in
      record { raws = raw_more found.x found.xs; spelled = (found.mid, found.spelled, found.more); are = found.are }

  more_fields_some : (g : Bool) (f : FieldTree) (fs : List FieldTree) (v : ValueTree) (vs : ValueTrees) (t : TypeTree) (ts : List TypeTree) (tokens rest : List Token) → type_shape t ≡ type_shape f.type
      → Then (FirstToken (kind.Sign symbol.Semicolon) true) (Then Skips (FieldAndMore g f fs v vs t ts)) tokens rest → AreMoreFieldsOf (more_values v vs) (f ∷ fs) (t ∷ ts) tokens rest
  more_fields_some g f fs v vs t ts tokens rest shape (next, (token, is, glued, first), (start, skip, h)) =
      let found = field_found g f fs v vs t ts start rest shape h in
      record {
        raws = raw_more found.x found.xs;
        spelled = (next, found.mid, (token, is, first), subst (λ w. NamedSpells f (Spells records found.x (type_shape f.type)) w found.mid) (sym skip) found.spelled, found.more);
        are = found.are;
      }

  more_fields_none : (tokens rest : List Token) → Then Skips (FirstToken (kind.Sign symbol.RightBrace) false) tokens rest → AreMoreFieldsOf no_values [] [] tokens rest
  more_fields_none tokens rest (next, skip, (token, is, glued, first)) = record {
    raws = raw_none;
    spelled = subst (λ w. FirstSign symbol.RightBrace w rest) (sym skip) (token, is, first);
    are = no_fields;
  }

  record_value_of : (g : Bool) (r : ℕ) (us : List PowerMap) (d : RecordTree) (vs : ValueTrees) (tokens rest : List Token) → IsRecordAt records r us d
      → Then (FirstToken (kind.Sign symbol.LeftBrace) g) (Then Skips (AreFieldsOf vs d.fields (map (put (unit_at us)) (field_types d)))) tokens rest → IsValueOf (record_value r vs) (record_type r us) tokens rest
  record_value_of g r us d vs tokens rest at (next, (token, is, glued, first), (start, skip, fields)) = record {
    raw = raw_record r fields.raws;
    spelled = (d, next, refl, at.declared, (token, is, first), subst (λ w. FieldsSpell records fields.raws d.fields w rest) (sym skip) fields.spelled);
    is = record { named = fields.are.named; fit = fields.are.fit; low = fields.are.low; typed = (us, d, at, fields.are.typed, refl); same = ap (record_value r) fields.are.same };
  }

-- ---- the text of a value

-- what is known of the declared type of a field: its variables are units of the record, and its base units are declared
pub record IsFieldIn (bases units : ℕ) (f : FieldTree) : Type 0 where
  pub below : TypeBelow units f.type
  pub over : IsOver bases f.type
  pub named : IsGoodName f.name

module _ (p : ProgramTree) (measures : List ℕ → Option PowerMap) (bases : ℕ) (number : Frac → TypeTree → List ℕ)
    (fields_in_order : (r : ℕ) (d : RecordTree) → slice_get p.records r ≡ Some d → All (IsFieldIn bases d.units) d.fields × (0 < length d.fields))
    (numbers : (c : Frac) (u : PowerMap) (g : Bool) → IsOver bases (num_type u) → IsTrue (fits u) → ((IsClosed u → ⊥) → numerator c ≡ pos 0) → has_mark (number c (num_type u)) ≡ false
    → Segment (number c (num_type u)) (fresh g false) full (IsNumberOf p.records measures c u)) where
  abbrev text : ValueTree → TypeTree → List ℕ
  text v t = text_by number p v t

  abbrev Items : ValueTrees → TypeTree → Spelling
  Items vs t = AreItemsOf p.records measures vs t

  abbrev MoreItems : ValueTrees → TypeTree → Spelling
  MoreItems vs t = AreMoreItemsOf p.records measures vs t

  abbrev Value : ValueTree → TypeTree → Spelling
  Value v t = IsValueOf p.records measures v t

  abbrev MoreFields : ValueTrees → List FieldTree → List TypeTree → Spelling
  MoreFields vs fs ts = AreMoreFieldsOf p.records measures vs fs ts

  abbrev put_types : List PowerMap → List FieldTree → List TypeTree
  put_types us fs = map (put (unit_at us)) (map (λ f. f.type) fs)

  blank_before : (a : List ℕ) (S : Spelling) → Segment a (fresh false false) full S → Segment (codes " " ++ a) full full (Then Skips S)
  blank_before a S x = segment_then (codes " ") a full (fresh false false) full Skips S (segment_blank full refl) x

  -- `; ` before others
  behind_semicolon : (a : List ℕ) (S : Spelling) → Segment a (fresh false false) full S → Segment (codes ";" ++ (codes " " ++ a)) full full (Then (FirstToken (kind.Sign symbol.Semicolon) true) (Then Skips S))
  behind_semicolon a S x =
      segment_then (codes ";") (codes " " ++ a) full (fresh true false) full (FirstToken (kind.Sign symbol.Semicolon) true) (Then Skips S)
      (segment_token (codes ";") full (fresh true false) (kind.Sign symbol.Semicolon) (sign_token symbol.Semicolon full refl))
      (segment_then (codes " ") a (fresh true false) (fresh false false) full Skips S (segment_blank (fresh true false) refl) x)

  -- what is known of the first of some fields
  record IsFieldKnown (v : ValueTree) (vs : ValueTrees) (f : FieldTree) (fs : List FieldTree) (us : List PowerMap) (n : ℕ) : Type 0 where
    pub same : put (nth us) f.type ≡ put (unit_at us) f.type
    pub zero_there : IsFreeZero p.records v (put (nth us) f.type)
    pub over : IsOver bases (put (nth us) f.type)
    pub fit : IsTrue (type_fits (put (nth us) f.type))
    pub parts : IsTrue (parts_fit p v (put (nth us) f.type))
    pub others : IsTrue (fields_fit p vs (map (field_at us) fs))
    pub named : IsGoodName f.name
    pub later : All (IsFieldIn bases n) fs

  field_known : (v : ValueTree) (vs : ValueTrees) (f : FieldTree) (fs : List FieldTree) (us : List PowerMap) (n : ℕ) → length us ≡ n → All (IsFieldIn bases n) (f ∷ fs) → FieldsFreeZero p.records (more_values v vs) (put_types us (f ∷ fs)) → All (AreOver bases) us
      → IsTrue (fields_fit p (more_values v vs) (map (field_at us) (f ∷ fs))) → IsFieldKnown v vs f fs us n
  field_known v vs f fs us n count known z o h =
      let t = put (nth us) f.type in
      let first = All-head (IsFieldIn bases n) f fs known in
      let same : t ≡ put (unit_at us) f.type = put-units us f.type (subst (λ m. TypeBelow m f.type) (sym count) first.below) in
      let fit = and_parts (type_fits t) (parts_fit p v t && fields_fit p vs (map (field_at us) fs)) h in
      let parts = and_parts (parts_fit p v t) (fields_fit p vs (map (field_at us) fs)) fit.1 in
      record {
        same = same;
        zero_there = subst (λ s. IsFreeZero p.records v s) (sym same) z.0;
        over = put_over bases us o f.type first.over;
        fit = fit.0;
        parts = parts.0;
        others = parts.1;
        named = first.named;
        later = All-tail (IsFieldIn bases n) f fs known;
      }

  -- a field and those after it
  segment_field : (g : Bool) (v : ValueTree) (vs : ValueTrees) (f : FieldTree) (fs : List FieldTree) (us : List PowerMap) (n : ℕ) → IsFieldKnown v vs f fs us n → Segment (text v (put (nth us) f.type)) (fresh false false) full (Value v (put (nth us) f.type))
      → Segment (fields_by number p separator vs (map (field_at us) fs) ++ codes " }") full full (MoreFields vs fs (put_types us fs))
      → Segment (f.name ++ (codes " " ++ (codes "=" ++ (codes " " ++ (text v (put (nth us) f.type) ++ (fields_by number p separator vs (map (field_at us) fs) ++ codes " }")))))) (fresh g false) full
      (FieldAndMore p.records measures g f fs v vs (put (unit_at us) f.type) (put_types us fs))
  segment_field g v vs f fs us n k own others =
      let t = put (nth us) f.type in
      let other = put (unit_at us) f.type in
      let more = fields_by number p separator vs (map (field_at us) fs) in
      let value : Segment (text v t) (fresh false false) full (Value v other) = subst (λ s. Segment (text v t) (fresh false false) full (Value v s)) k.same own in
      let R = Then (Value v other) (MoreFields vs fs (put_types us fs)) in
      let rest = segment_then (text v t) (more ++ codes " }") (fresh false false) full full (Value v other) (MoreFields vs fs (put_types us fs)) value others in
      let spaced = segment_then (codes " ") (text v t ++ (more ++ codes " }")) (fresh true false) (fresh false false) full Skips R (segment_blank (fresh true false) refl) rest in
      let equal =
      segment_then (codes "=") (codes " " ++ (text v t ++ (more ++ codes " }"))) (fresh false false) (fresh true false) full (FirstToken (kind.Sign symbol.Equal) false) (Then Skips R)
      (segment_token (codes "=") (fresh false false) (fresh true false) (kind.Sign symbol.Equal) (sign_token symbol.Equal (fresh false false) refl)) spaced in
      let apart = blank_before (codes "=" ++ (codes " " ++ (text v t ++ (more ++ codes " }")))) (Then (FirstToken (kind.Sign symbol.Equal) false) (Then Skips R)) equal in
      segment_then f.name (codes " " ++ (codes "=" ++ (codes " " ++ (text v t ++ (more ++ codes " }"))))) (fresh g false) full full (FirstToken (kind.Name f.name) g) (Then Skips (Then (FirstToken (kind.Sign symbol.Equal) false) (Then Skips R)))
      (segment_token f.name (fresh g false) full (kind.Name f.name) (name_token f.name (fresh g false) k.named refl)) apart

  mutual
    pub segment_value : (v : ValueTree) (t : TypeTree) (g : Bool) → IsFreeZero p.records v t → IsOver bases t → IsTrue (type_fits t) → IsTrue (parts_fit p v t) → has_mark (text v t) ≡ false
        → Segment (text v t) (fresh g false) full (Value v t)
    segment_value (truth_value b) bool_type g z o f h n = segment_truth p.records measures b g
    segment_value (truth_value b) (num_type u) g z o f h n = absurd z
    segment_value (truth_value b) (list_type t) g z o f h n = absurd z
    segment_value (truth_value b) (record_type r us) g z o f h n = absurd z
    segment_value (number_value c) bool_type g z o f h n = absurd z
    segment_value (number_value c) (num_type u) g z o f h n =
        segment_as (number c (num_type u)) (fresh g false) full (IsNumberOf p.records measures c u) (Value (number_value c) (num_type u)) (number_value_of p.records measures c u) (numbers c u g o f z n)
    segment_value (number_value c) (list_type t) g z o f h n = absurd z
    segment_value (number_value c) (record_type r us) g z o f h n = absurd z
    segment_value (list_value vs) bool_type g z o f h n = absurd z
    segment_value (list_value vs) (num_type u) g z o f h n = absurd z
    segment_value (list_value vs) (list_type t) g z o f h n =
        segment_of (codes "[" ++ (items_by number p [] vs t ++ codes "]")) (text (list_value vs) (list_type t)) (fresh g false) full (Value (list_value vs) (list_type t)) refl
        (
        segment_as (codes "[" ++ (items_by number p [] vs t ++ codes "]")) (fresh g false) full (Then (FirstToken (kind.Sign symbol.LeftBracket) g) (Items vs t)) (Value (list_value vs) (list_type t)) (list_value_of p.records measures g vs t)
        (
        segment_then (codes "[") (items_by number p [] vs t ++ codes "]") (fresh g false) (fresh true false) full (FirstToken (kind.Sign symbol.LeftBracket) g) (Items vs t)
        (segment_token (codes "[") (fresh g false) (fresh true false) (kind.Sign symbol.LeftBracket) (sign_token symbol.LeftBracket (fresh g false) refl))
        (segment_items vs t z o f h (marks_front (items_by number p [] vs t) (codes "]") (marks_back (codes "[") (items_by number p [] vs t ++ codes "]") n)))
        )
        )
    segment_value (list_value vs) (record_type r us) g z o f h n = absurd z
    segment_value (record_value r vs) bool_type g z o f h n = absurd z
    segment_value (record_value r vs) (num_type u) g z o f h n = absurd z
    segment_value (record_value r vs) (list_type t) g z o f h n = absurd z
    segment_value (record_value r vs) (record_type k us) g (d, at, same, z) o f h n =
        let there : slice_get p.records r ≡ Some d = ap (slice_get p.records) same ∙ at.declared in
        let listed : fields_in (slice_get p.records r) us ≡ map (field_at us) d.fields = ap (λ o. fields_in o us) there in
        let known = fields_in_order k d at.declared in
        let own = map (field_at us) d.fields in
        let inside = fields_by number p [] vs own in
        let fit : IsTrue (fields_fit p vs own) = subst (λ fs. IsTrue (fields_fit p vs fs)) listed h in
        let marks : has_mark (codes "{ " ++ inside ++ codes " }") ≡ false = subst (λ fs. has_mark (codes "{ " ++ fields_by number p [] vs fs ++ codes " }") ≡ false) listed n in
        let fields = segment_fields vs d.fields us d.units at.units known.0 known.1 z o fit (marks_front inside (codes " }") (marks_back (codes "{ ") (inside ++ codes " }") marks)) in
        let braced : Segment (codes "{" ++ (codes " " ++ (inside ++ codes " }"))) (fresh g false) full (Value (record_value k vs) (record_type k us)) =
        segment_as (codes "{" ++ (codes " " ++ (inside ++ codes " }"))) (fresh g false) full (Then (FirstToken (kind.Sign symbol.LeftBrace) g) (Then Skips (AreFieldsOf p.records measures vs d.fields (put_types us d.fields)))) (Value (record_value k vs) (record_type k us))
        (λ tokens rest. record_value_of p.records measures g k us d vs tokens rest at)
        (
        segment_then (codes "{") (codes " " ++ (inside ++ codes " }")) (fresh g false) (fresh true false) full (FirstToken (kind.Sign symbol.LeftBrace) g) (Then Skips (AreFieldsOf p.records measures vs d.fields (put_types us d.fields)))
        (segment_token (codes "{") (fresh g false) (fresh true false) (kind.Sign symbol.LeftBrace) (sign_token symbol.LeftBrace (fresh g false) refl))
        (
        segment_then (codes " ") (inside ++ codes " }") (fresh true false) (fresh false false) full Skips (AreFieldsOf p.records measures vs d.fields (put_types us d.fields))
        (segment_blank (fresh true false) refl) fields
        )
        ) in
        let as_listed : Segment (codes "{ " ++ fields_by number p [] vs (fields_in (slice_get p.records r) us) ++ codes " }") (fresh g false) full (Value (record_value k vs) (record_type k us)) =
        subst (λ fs. Segment (codes "{ " ++ fields_by number p [] vs fs ++ codes " }") (fresh g false) full (Value (record_value k vs) (record_type k us))) (sym listed) braced in
        subst (λ (j : ℕ). Segment (text (record_value r vs) (record_type k us)) (fresh g false) full (Value (record_value j vs) (record_type k us))) (sym same) as_listed

    segment_items : (vs : ValueTrees) (t : TypeTree) → EachFreeZero p.records vs t → IsOver bases t → IsTrue (type_fits t) → IsTrue (items_fit p vs t) → has_mark (items_by number p [] vs t) ≡ false
        → Segment (items_by number p [] vs t ++ codes "]") (fresh true false) full (Items vs t)
    segment_items no_values t z o f h n =
        segment_as (codes "]") (fresh true false) full (FirstToken (kind.Sign symbol.RightBracket) true) (Items no_values t) (items_none p.records measures true t)
        (segment_token (codes "]") (fresh true false) full (kind.Sign symbol.RightBracket) (sign_token symbol.RightBracket (fresh true false) refl))
    segment_items (more_values v vs) t z o f h n =
        let own = and_parts (parts_fit p v t) (items_fit p vs t) h in
        let more = items_by number p separator vs t in
        segment_of (text v t ++ (more ++ codes "]")) ((text v t ++ more) ++ codes "]") (fresh true false) full (Items (more_values v vs) t) (sym (append_assoc (text v t) more (codes "]")))
        (
        segment_as (text v t ++ (more ++ codes "]")) (fresh true false) full (Then (Value v t) (MoreItems vs t)) (Items (more_values v vs) t) (items_some p.records measures v vs t)
        (
        segment_then (text v t) (more ++ codes "]") (fresh true false) full full (Value v t) (MoreItems vs t)
        (segment_value v t true z.0 o f own.0 (marks_front (text v t) more n)) (segment_more vs t z.1 o f own.1 (marks_back (text v t) more n))
        )
        )

    segment_more : (vs : ValueTrees) (t : TypeTree) → EachFreeZero p.records vs t → IsOver bases t → IsTrue (type_fits t) → IsTrue (items_fit p vs t) → has_mark (items_by number p separator vs t) ≡ false
        → Segment (items_by number p separator vs t ++ codes "]") full full (MoreItems vs t)
    segment_more no_values t z o f h n =
        segment_as (codes "]") full full (FirstToken (kind.Sign symbol.RightBracket) true) (MoreItems no_values t) (more_items_none p.records measures true t)
        (segment_token (codes "]") full full (kind.Sign symbol.RightBracket) (sign_token symbol.RightBracket full refl))
    segment_more (more_values v vs) t z o f h n =
        let own = and_parts (parts_fit p v t) (items_fit p vs t) h in
        let more = items_by number p separator vs t in
        let here = marks_front (separator ++ text v t) more n in
        segment_of (codes ";" ++ (codes " " ++ (text v t ++ (more ++ codes "]")))) (((separator ++ text v t) ++ more) ++ codes "]") full full (MoreItems (more_values v vs) t)
        (ap (λ w. codes ";" ++ (codes " " ++ w)) (sym (append_assoc (text v t) more (codes "]"))))
        (
        segment_as (codes ";" ++ (codes " " ++ (text v t ++ (more ++ codes "]")))) full full (Then (FirstToken (kind.Sign symbol.Semicolon) true) (Then Skips (Then (Value v t) (MoreItems vs t)))) (MoreItems (more_values v vs) t)
        (more_items_some p.records measures v vs t)
        (
        behind_semicolon (text v t ++ (more ++ codes "]")) (Then (Value v t) (MoreItems vs t))
        (
        segment_then (text v t) (more ++ codes "]") (fresh false false) full full (Value v t) (MoreItems vs t)
        (segment_value v t false z.0 o f own.0 (marks_back separator (text v t) here)) (segment_more vs t z.1 o f own.1 (marks_back (separator ++ text v t) more n))
        )
        )
        )

    segment_fields : (vs : ValueTrees) (fs : List FieldTree) (us : List PowerMap) (n : ℕ) → length us ≡ n → All (IsFieldIn bases n) fs → 0 < length fs → FieldsFreeZero p.records vs (put_types us fs) → All (AreOver bases) us
        → IsTrue (fields_fit p vs (map (field_at us) fs)) → has_mark (fields_by number p [] vs (map (field_at us) fs)) ≡ false
        → Segment (fields_by number p [] vs (map (field_at us) fs) ++ codes " }") (fresh false false) full (AreFieldsOf p.records measures vs fs (put_types us fs))
    segment_fields no_values [] us m count known some z o h n = absurd (omega (arith, some))
    segment_fields no_values (f ∷ fs) us m count known some z o h n = absurd z
    segment_fields (more_values v vs) [] us m count known some z o h n = absurd z
    segment_fields (more_values v vs) (f ∷ fs) us m count known some z o h n =
        let k = field_known v vs f fs us m count known z o h in
        let t = put (nth us) f.type in
        let more = fields_by number p separator vs (map (field_at us) fs) in
        let front = f.name ++ codes " = " in
        segment_of (f.name ++ (codes " " ++ (codes "=" ++ (codes " " ++ (text v t ++ (more ++ codes " }")))))) (((front ++ text v t) ++ more) ++ codes " }") (fresh false false) full (AreFieldsOf p.records measures (more_values v vs) (f ∷ fs) (put_types us (f ∷ fs)))
        (field_text f.name (text v t) more)
        (
        segment_as (f.name ++ (codes " " ++ (codes "=" ++ (codes " " ++ (text v t ++ (more ++ codes " }")))))) (fresh false false) full (FieldAndMore p.records measures false f fs v vs (put (unit_at us) f.type) (put_types us fs))
        (AreFieldsOf p.records measures (more_values v vs) (f ∷ fs) (put_types us (f ∷ fs)))
        (λ tokens rest. fields_some p.records measures false f fs v vs (put (unit_at us) f.type) (put_types us fs) tokens rest (shape_kept (unit_at us) f.type))
        (segment_field false v vs f fs us m k (segment_value v t false k.zero_there k.over k.fit k.parts (marks_back front (text v t) (marks_front (front ++ text v t) more n))) (segment_more_fields vs fs us m count k.later z.1 o k.others (marks_back (front ++ text v t) more n)))
        )

    segment_more_fields : (vs : ValueTrees) (fs : List FieldTree) (us : List PowerMap) (n : ℕ) → length us ≡ n → All (IsFieldIn bases n) fs → FieldsFreeZero p.records vs (put_types us fs) → All (AreOver bases) us
        → IsTrue (fields_fit p vs (map (field_at us) fs)) → has_mark (fields_by number p separator vs (map (field_at us) fs)) ≡ false
        → Segment (fields_by number p separator vs (map (field_at us) fs) ++ codes " }") full full (MoreFields vs fs (put_types us fs))
    segment_more_fields no_values [] us m count known z o h n =
        segment_as (codes " }") full full (Then Skips (FirstToken (kind.Sign symbol.RightBrace) false)) (MoreFields no_values [] []) (more_fields_none p.records measures)
        (blank_before (codes "}") (FirstToken (kind.Sign symbol.RightBrace) false) (segment_token (codes "}") (fresh false false) full (kind.Sign symbol.RightBrace) (sign_token symbol.RightBrace (fresh false false) refl)))
    segment_more_fields no_values (f ∷ fs) us m count known z o h n = absurd z
    segment_more_fields (more_values v vs) [] us m count known z o h n = absurd z
    segment_more_fields (more_values v vs) (f ∷ fs) us m count known z o h n =
        let k = field_known v vs f fs us m count known z o h in
        let t = put (nth us) f.type in
        let more = fields_by number p separator vs (map (field_at us) fs) in
        let front = separator ++ f.name ++ codes " = " in
        let inside = f.name ++ (codes " " ++ (codes "=" ++ (codes " " ++ (text v t ++ (more ++ codes " }"))))) in
        let S = FieldAndMore p.records measures false f fs v vs (put (unit_at us) f.type) (put_types us fs) in
        segment_of (codes ";" ++ (codes " " ++ inside)) (((front ++ text v t) ++ more) ++ codes " }") full full (MoreFields (more_values v vs) (f ∷ fs) (put_types us (f ∷ fs)))
        (ap (λ w. codes ";" ++ (codes " " ++ w)) (field_text f.name (text v t) more) ∙ behind_separator f.name (text v t) more)
        (
        segment_as (codes ";" ++ (codes " " ++ inside)) full full (Then (FirstToken (kind.Sign symbol.Semicolon) true) (Then Skips S)) (MoreFields (more_values v vs) (f ∷ fs) (put_types us (f ∷ fs)))
        (λ tokens rest. more_fields_some p.records measures false f fs v vs (put (unit_at us) f.type) (put_types us fs) tokens rest (shape_kept (unit_at us) f.type))
        (behind_semicolon inside S (segment_field false v vs f fs us m k (segment_value v t false k.zero_there k.over k.fit k.parts (marks_back front (text v t) (marks_front (front ++ text v t) more n))) (segment_more_fields vs fs us m count k.later z.1 o k.others (marks_back (front ++ text v t) more n))))
        )
