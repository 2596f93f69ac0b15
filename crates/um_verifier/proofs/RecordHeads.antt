-- One record after another: what is known, and which breaks its rules.
use Rattle.std.proofs.Common.{◌≡◌, refl, sym, ap, subst, ◌∙◌, ℕ, zero, suc, ◌+◌, ◌<◌, ◌≤◌, true, false, List, [], ◌∷◌, ◌++◌, length, map, take, All, Option, Some, None, slice_get, arith, append-nil}
use Rattle.std.specs.Prelude.{vec_len, MatchOption}
use Rattle.std.specs.List.{list_all}
use Rattle.std.proofs.lemmas.Bool.{both_ways}
use Rattle.std.proofs.lemmas.Grind.{flat_map-append}
use Rattle.std.proofs.lemmas.List.{take_more, take_all, map_push, length-map, length-take-le}
use Rattle.std.proofs.lemmas.List.Elements.{All-nil, All-cons, All-map}
use Rattle.std.proofs.lemmas.Option.{slice_get_within, get_or_from_slice_get}
use Rattle.um_tree.specs.declared.program.FieldDecl.{FieldDecl}
use Rattle.um_tree.specs.declared.program.Record.{Record}
use Rattle.um_tree.specs.TypeTree.{type_tree}
use Rattle.um_tree.specs.TreeHeights.{type_tree_height}
use Rattle.um_tree.specs.Heights.{greatest_height}
use Rattle.um_tree.specs.ProgramTree.{FieldTree, RecordTree, field_tree, record_tree}
use Rattle.um_tree.specs.Typing.{field_types}
use Rattle.um_tree.specs.Shapes.{type_shape}
use Rattle.um_tree.specs.Formed.{IsNameBytes, AreDistinct, field_names}
use Rattle.um_shape.specs.RecordShapes.{RecordShape, tallest, declared_shape}
use Rattle.um_shape.proofs.Declarations.{All-unmapped}
use Rattle.um_verify.specs.StackShape.{StackShape, on_stack}
use Rattle.um_verify.specs.ImageTree.{IsPlainRecord}
use Rattle.um_verify.specs.Heads.{record_shapes, RecordHolds}
use Rattle.um_verify.specs.Rules.{fields_on_stack}
use Rattle.um_stacks.specs.FlatShapes.{flat_shapes}
use Rattle.um_verifier.specs.KnownImages.{off_stack, known_shape, known_fields, known_heights, over, admits, highest}
use Rattle.um_verifier.specs.Names.{Takes}
use Rattle.um_verifier.specs.KnownHeads.{KnowsRecords, TakesRecords, IsKnownRecord, FindsRecord}
use Rattle.um_verifier.specs.declared.known.KnownRecord.{KnownRecord}
use Rattle.um_verifier.specs.declared.known.Known.{Known}
use Rattle.um_verifier.proofs.OverRecords.{highest_tallest, all_off_on, fields_over, over_fields, and_shapes_push}

abbrev name_of : FieldTree → List ℕ
name_of f = f.name

-- the fields as trees

pub low_fields : (d : Record) → IsPlainRecord (record_tree d) → All (λ f. type_tree_height (type_tree f.ty) ≤ greatest_height) d.fields.items.items
low_fields d plain = All-unmapped (λ f. type_tree_height f.type ≤ greatest_height) field_tree d.fields.items.items (λ k x l. (plain.fields k x l).low)

shapes_on_stack : (fs : List FieldDecl) → map (λ f. on_stack (type_shape (type_tree f.ty))) fs ≡ map on_stack (map type_shape (map (λ (f : FieldTree). f.type) (map field_tree fs)))
shapes_on_stack [] = refl
shapes_on_stack (f ∷ fs) = ap (λ (ss : List StackShape). on_stack (type_shape (type_tree f.ty)) ∷ ss) (shapes_on_stack fs)

names_of_fields : (fs : List FieldDecl) → map (λ (f : FieldDecl). f.name) fs ≡ map name_of (map field_tree fs)
names_of_fields [] = refl
names_of_fields (f ∷ fs) = ap (λ (ns : List (List ℕ)). f.name ∷ ns) (names_of_fields fs)

pub shapes_are : (fs items : List FieldDecl) (d : RecordTree) → fs ≡ items → map field_tree items ≡ d.fields → map (λ f. on_stack (type_shape (type_tree f.ty))) fs ≡ fields_on_stack d
shapes_are fs items d e s = shapes_on_stack fs ∙ ap (λ (xs : List FieldTree). map on_stack (map type_shape (map (λ (f : FieldTree). f.type) xs))) (ap (map field_tree) e ∙ s)

pub field_names_are : (fs items : List FieldDecl) → fs ≡ items → map (λ (f : FieldDecl). f.name) fs ≡ map (λ (f : FieldTree). f.name) (map field_tree items)
field_names_are fs items e = names_of_fields fs ∙ ap (λ (xs : List FieldDecl). map name_of (map field_tree xs)) e

-- record i is found, or breaks its rules
abbrev pub RecordFound : List RecordTree → ℕ → RecordTree → Known → List (List ℕ) → List (List ℕ) → List (List ℕ) → List (List ℕ) → Option KnownRecord → Type 0
RecordFound records i d known names fields new_names new_fields o =
    MatchOption o (RecordHolds records i d → ⊥) (λ r. FindsRecord records i d known names fields new_names new_fields r)

pub is_first : (records : List RecordTree) (i : ℕ) (d : RecordTree) (known : Known) (names fields new_names new_fields : List (List ℕ)) (o : Option KnownRecord) → o ≡ None → RecordFound records i d known names fields new_names new_fields o → RecordHolds records i d → ⊥
is_first records i d known names fields new_names new_fields o e h = subst (λ (o : Option KnownRecord). RecordFound records i d known names fields new_names new_fields o) e h

pub is_found : (records : List RecordTree) (i : ℕ) (d : RecordTree) (known : Known) (names fields new_names new_fields : List (List ℕ)) (o : Option KnownRecord) (r : KnownRecord) → o ≡ Some r → RecordFound records i d known names fields new_names new_fields o → FindsRecord records i d known names fields new_names new_fields r
is_found records i d known names fields new_names new_fields o r e h = subst (λ (o : Option KnownRecord). RecordFound records i d known names fields new_names new_fields o) e h

module _ (records : List RecordTree) (i : ℕ) (d : RecordTree) (there : slice_get records i ≡ Some d) (known : Known) (names fields : List (List ℕ)) (takes : TakesRecords (take i records) known names fields) where
  within : i < length records
  within = slice_get_within records i d there

  next : take (i + 1) records ≡ take i records ++ d ∷ []
  next = take_more records i d within ∙ ap (λ (x : RecordTree). take i records ++ x ∷ []) (get_or_from_slice_get records i d d there)

  names_next : map (λ (x : RecordTree). x.name) (take (i + 1) records) ≡ names ++ d.name ∷ []
  names_next =
      ap (map (λ (x : RecordTree). x.name)) next ∙ map_push (λ (x : RecordTree). x.name) (take i records) d ∙ ap (λ (ns : List (List ℕ)). ns ++ d.name ∷ []) (sym takes.names)

  abbrev names_in : RecordTree → List (List ℕ)
  names_in x = map name_of x.fields

  fields_next : field_names (take (i + 1) records) ≡ fields ++ map name_of d.fields
  fields_next =
      ap field_names next
      ∙ flat_map-append names_in (take i records) (d ∷ [])
      ∙ ap (λ (ns : List (List ℕ)). field_names (take i records) ++ ns) (append-nil (map name_of d.fields))
      ∙ ap (λ (ns : List (List ℕ)). ns ++ map name_of d.fields) (sym takes.fields)

  -- the record has as many before it as are known
  before : vec_len known.records ≡ i
  before =
      let mapped : length (known_fields known) ≡ length known.records.items = length-map known.records.items (λ (r : KnownRecord). flat_shapes r.fields.items) in
      let others : length (map fields_on_stack (take i records)) ≡ length (take i records) = length-map (take i records) fields_on_stack in
      let so_many : length (take i records) ≡ i = length-take-le i records (omega (arith, within)) in
      known.records.ok.0 ∙ sym mapped ∙ ap (λ (xs : List (List StackShape)). length xs) takes.shapes.fields ∙ others ∙ so_many

  pub no_field : length d.fields ≡ 0 → RecordHolds records i d → ⊥
  no_field e h = let some = h.some_field in absurd (omega arith)

  pub many_fields : 32 < length d.fields → RecordHolds records i d → ⊥
  many_fields e h = let few = h.few_fields in absurd (omega arith)

  pub bad_name : (new : List (List ℕ)) → Takes false names (d.name ∷ []) new → RecordHolds records i d → ⊥
  bad_name new t h = t (All-cons IsNameBytes d.name [] h.name (All-nil IsNameBytes)) (subst AreDistinct names_next h.once)

  pub bad_fields : (new : List (List ℕ)) → Takes false fields (map name_of d.fields) new → RecordHolds records i d → ⊥
  bad_fields new t h = t (All-map IsNameBytes name_of d.fields h.names_of_fields) (subst AreDistinct fields_next h.fields_once)

  abbrev Hs : List RecordShape
  Hs = record_shapes (take i records)

  over_here : list_all (admits known) (fields_on_stack d) ≡ list_all (over i Hs) (fields_on_stack d)
  over_here = (λ j. list_all (over (before j) (takes.shapes.heights j)) (fields_on_stack d))

  bad_shapes : list_all (admits known) (fields_on_stack d) ≡ false → RecordHolds records i d → ⊥
  bad_shapes e h = both_ways (list_all (admits known) (fields_on_stack d)) e (over_here ∙ fields_over i Hs d.fields h.earlier h.low)

  finds : (new_names new_fields : List (List ℕ)) (r : KnownRecord) → 0 < length d.fields → length d.fields ≤ 32 → Takes true names (d.name ∷ []) new_names → Takes true fields (map name_of d.fields) new_fields
      → list_all (admits known) (fields_on_stack d) ≡ true → IsKnownRecord (known_heights known) (fields_on_stack d) r → FindsRecord records i d known names fields new_names new_fields r
  finds new_names new_fields r some few named fields_named e shapes =
      let parts = over_fields i Hs d.fields (sym over_here ∙ e) in
      record {
        holds = record {
          name = named.names 0 d.name (omega arith);
          once = subst AreDistinct (sym names_next) (named.once takes.names_once);
          some_field = some;
          few_fields = few;
          names_of_fields = All-unmapped IsNameBytes name_of d.fields fields_named.names;
          fields_once = subst AreDistinct (sym fields_next) (fields_named.once takes.fields_once);
          earlier = parts.0;
          low = parts.1;
        };
        shapes = shapes;
        names = named.taken;
        fields = fields_named.taken;
      }

  -- what is found of the fields' shapes
  pub found_record : (new_names new_fields : List (List ℕ)) (ss : List StackShape) → ss ≡ fields_on_stack d → 0 < length d.fields → length d.fields ≤ 32
      → Takes true names (d.name ∷ []) new_names → Takes true fields (map name_of d.fields) new_fields → (o : Option KnownRecord)
      → MatchOption o (list_all (admits known) ss ≡ false) (λ r. (list_all (admits known) ss ≡ true) × IsKnownRecord (known_heights known) ss r) → RecordFound records i d known names fields new_names new_fields o
  found_record new_names new_fields ss same some few named fields_named None h = bad_shapes (ap (list_all (admits known)) (sym same) ∙ h)
  found_record new_names new_fields ss same some few named fields_named (Some r) h =
      finds new_names new_fields r some few named fields_named (ap (list_all (admits known)) (sym same) ∙ h.0) (subst (λ (ss : List StackShape). IsKnownRecord (known_heights known) ss r) same h.1)

  -- it is known next
  pub takes_next : (new : Known) (new_names new_fields : List (List ℕ)) (r : KnownRecord) → new.records.items ≡ known.records.items ++ r ∷ []
      → FindsRecord records i d known names fields new_names new_fields r → TakesRecords (take (i + 1) records) new new_names new_fields
  takes_next new new_names new_fields r pushed found = record {
    shapes = record {
      fields =
          ap (map (λ (k : KnownRecord). flat_shapes k.fields.items)) pushed
          ∙ map_push (λ (k : KnownRecord). flat_shapes k.fields.items) known.records.items r
          ∙ (λ j. takes.shapes.fields j ++ found.shapes.0 j ∷ [])
          ∙ sym (map_push fields_on_stack (take i records) d)
          ∙ ap (map fields_on_stack) (sym next);
      heights =
          ap (map known_shape) pushed
          ∙ map_push known_shape known.records.items r
          ∙ (λ j. takes.shapes.heights j ++ shape_is j ∷ [])
          ∙ sym (and_shapes_push (take i records) [] d)
          ∙ ap record_shapes (sym next);
    };
    names = found.names ∙ sym names_next;
    names_once = subst AreDistinct (names_next ∙ sym found.names) found.holds.once;
    fields = found.fields ∙ sym fields_next;
    fields_once = subst AreDistinct (fields_next ∙ sym found.fields) found.holds.fields_once;
  }
    where
      shape_is : known_shape r ≡ declared_shape Hs d
      shape_is =
          let shapes = map type_shape (field_types d) in
          let fields_are : map off_stack (flat_shapes r.fields.items) ≡ shapes = ap (map off_stack) found.shapes.0 ∙ all_off_on shapes in
          let height_is : r.height ≡ tallest Hs shapes + 1 = found.shapes.1 ∙ (λ j. highest (takes.shapes.heights j) (fields_on_stack d) + 1) ∙ ap (λ (n : ℕ). n + 1) (highest_tallest Hs shapes) in
          (λ j. record { fields = fields_are j; height = height_is j })

-- ---- the loop

abbrev pub trees : List Record → List RecordTree
trees ds = map record_tree ds

pub whole_takes : (records : List RecordTree) (i : ℕ) (known : Known) (names fields : List (List ℕ)) → length records ≤ i → TakesRecords (take i records) known names fields → KnowsRecords records known
whole_takes records i known names fields l h = subst (λ (ds : List RecordTree). KnowsRecords ds known) (take_all i records l) h.shapes

pub none_take : (known : Known) → known.records.items ≡ [] → TakesRecords [] known [] []
none_take known e = record {
  shapes = record {
    fields = ap (map (λ (k : KnownRecord). flat_shapes k.fields.items)) e;
    heights = ap (map known_shape) e;
  };
  names = refl;
  names_once = λ i j x h k. none_there i x h;
  fields = refl;
  fields_once = λ i j x h k. none_there i x h;
}
  where
    none_there : {P : Type 0} (i : ℕ) (x : List ℕ) → slice_get [] i ≡ Some x → P
    none_there zero x h = absurd cc
    none_there (suc i) x h = absurd cc
