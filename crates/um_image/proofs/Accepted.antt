-- The image of a shaped program with its generated code is verified.
use Rattle.std.proofs.Common.{◌≡◌, refl, sym, subst, ap, ◌∙◌, ℕ, zero, suc, ◌+◌, ◌*◌, ◌<◌, ◌≤◌, ◌^◌, Bool, true, false, cond, ◌⊎◌, inl, inr, List, [], ◌∷◌, ◌++◌, length, map, take, All, Option, Some, None, slice_get, Result, Ok, Err, arith, append_assoc, length-append}
use Rattle.std.specs.Prelude.{option_map}
use Rattle.std.proofs.lemmas.List.{length-map}
use Rattle.std.proofs.lemmas.Option.{slice_get-map, slice_get_within}
use Rattle.std.proofs.lemmas.Bool.{cases_lt}
use Rattle.um_tree.specs.TypeTree.{TypeTree, bool_type, num_type, list_type, record_type, ShapeTree, NoteTree}
use Rattle.um_tree.specs.ProgramTree.{FieldTree, RecordTree, FunctionTree, ProgramTree}
use Rattle.um_tree.specs.Typing.{field_types}
use Rattle.um_tree.specs.Shapes.{type_shape, note_shape, ShapeSignature, FunctionShape}
use Rattle.um_tree.specs.Formed.{IsNameBytes, AreDistinct, NamesEarlier, IsFieldType, IsFormedNote, ResultFormed, field_names, IsFormed}
use Rattle.um_tree.specs.Heights.{greatest_height}
use Rattle.um_tree.specs.TreeHeights.{type_tree_height}
use Rattle.um_shape.specs.RecordShapes.{RecordShape, shape_height, tallest}
use Rattle.um_shape.specs.FirstFault.{ShapeFault, records_found, found, noted_shapes, own_shapes, functions_found, program_found, fault_of, first_fault}
use Rattle.um_shape.proofs.Sound.{then_ok, Alike, alike_at}
use Rattle.um_shape.proofs.SoundProgram.{records_alike, in_either, only_one, nothing_at, function_ok, at_place, found_are_shapes, its_shapes}
use Rattle.um_shape.proofs.Unique.{shapes_are_unique}
use Rattle.um_shape.proofs.LowShapes.{low_param, low_result_shape}
use Rattle.um_shape.specs.ShapedProgram.{IsLowShape}
use Rattle.um_machine.specs.declared.code.Entry.{Entry}
use Rattle.um_machine.specs.declared.code.Code.{Code}
use Rattle.um_gen.specs.ProgramCode.{expr_size, function_code, functions_code, functions_entries, program_code}
use Rattle.um_gen.proofs.Stands.{InRow}
use Rattle.um_gen.proofs.LaidOut.{located, rows, length_function}
use Rattle.um_gen.proofs.Sizes.{few}
use Rattle.um_verify.specs.StackShape.{on_stack}
use Rattle.um_verify.specs.ImageTree.{HeadTree, ImageTree, IsPlainType, IsPlainField, IsPlainRecord, IsLowText, IsPlainHead, Follow, Match, HasForm}
use Rattle.um_verify.specs.Heads.{record_shapes, RecordHolds, NamesBelow, IsShapeIn, FunctionHolds, HeadHolds}
use Rattle.um_verify.specs.Rules.{body_of, view_of}
use Rattle.um_verify.specs.Verified.{BodyHolds, CodeHolds, IsVerified}
use Rattle.um_verify.proofs.Bodies.{body_at, head_of}
use Rattle.um_image.specs.ProgramImage.{plain_type, plain_field, plain_record, IsImageOf}
use Rattle.um_image.specs.Laws.{HasShortNames, GeneratedIsVerified}
use Rattle.um_image.proofs.Records.{plain_shape, plain_and_shapes, take_plain, low_field, found_shapes, high_shapes, no_shapes, fields_recorded, text_lower}
use Rattle.um_image.proofs.Functions.{Begins, begins_get, IsFound, each_found, low_params, callee_is}
use Rattle.um_image.proofs.Accepts.{Known, Recorded, Positive}
use Rattle.um_image.proofs.Bodies.{body_accepted}
use Rattle.um_image.proofs.NamedRecords.{AllBelow, note_names, type_names, names_found}
use Rattle.um_image.proofs.Names.{Within, distinct_within, distinct_behind, plain_names, plain_field_names, names_within, fields_within, field_among, get_behind}
use Rattle.um_image.proofs.Items.{all_at, all_of}

-- a program without a fault has shapes
shapes_of : (p : ProgramTree) → first_fault p ≡ None → (gs : List ShapeSignature) × (program_found p ≡ Ok gs)
shapes_of p h = ok (program_found p) h where
  ok : (r : Result (List ShapeSignature) ShapeFault) → fault_of r ≡ None → (gs : List ShapeSignature) × (r ≡ Ok gs)
  ok (Ok gs) h = (gs, refl)
  ok (Err e) h = absurd cc

plain_is : (t : TypeTree) → IsPlainType (plain_type t)
plain_is bool_type = tt
plain_is (num_type u) = refl
plain_is (list_type t) = plain_is t
plain_is (record_type r us) = refl

plain_height : (t : TypeTree) → type_tree_height (plain_type t) ≡ type_tree_height t
plain_height bool_type = refl
plain_height (num_type u) = refl
plain_height (list_type t) = ap (λ (n : ℕ). n + 1) (plain_height t)
plain_height (record_type r us) = refl

plain_earlier : (i : ℕ) (t : TypeTree) → NamesEarlier i t → NamesEarlier i (plain_type t)
plain_earlier i bool_type h = tt
plain_earlier i (num_type u) h = tt
plain_earlier i (list_type t) h = plain_earlier i t h
plain_earlier i (record_type r us) h = h

-- what is asked of each field of a record, is asked of each field of its image
each_plain : (P : FieldTree → Type 0) (fs : List FieldTree) → ((k : ℕ) (f : FieldTree) → slice_get fs k ≡ Some f → P (plain_field f)) → All P (map plain_field fs)
each_plain P fs h = all_of P (map plain_field fs) (λ k x e. found k x (slice_get fs k) refl (sym (slice_get-map plain_field fs k) ∙ e)) where
  found : (k : ℕ) (x : FieldTree) (o : Option FieldTree) → slice_get fs k ≡ o → option_map plain_field o ≡ Some x → P x
  found k x None e w = absurd cc
  found k x (Some f) e w = let same : plain_field f ≡ x = cc in subst P same (h k f e)

module _ (p : ProgramTree) (formed : IsFormed p) (short : HasShortNames p) (gs : List ShapeSignature) (ok : program_found p ≡ Ok gs) (image : ImageTree) (is : IsImageOf p (program_code p.functions) image) where
  abbrev rs_found : (rs : List RecordShape) × (records_found [] p.records ≡ Ok rs) × (functions_found rs [] p.functions ≡ Ok gs)
  rs_found = then_ok (records_found [] p.records) (λ records. functions_found records [] p.functions) gs ok

  abbrev rs : List RecordShape
  rs = rs_found.0

  heights_are : record_shapes image.records ≡ rs
  heights_are = ap record_shapes is.records ∙ plain_and_shapes p.records [] ∙ found_shapes p.records [] rs rs_found.1

  positive_rs : (r : ℕ) (d : RecordShape) → slice_get rs r ≡ Some d → 1 ≤ d.height
  positive_rs =
      subst (λ (xs : List RecordShape). (r : ℕ) (d : RecordShape) → slice_get xs r ≡ Some d → 1 ≤ d.height) (found_shapes p.records [] rs rs_found.1)
      (high_shapes p.records [] (no_shapes (λ d. 1 ≤ d.height)))

  positive : Positive (view_of image)
  positive = subst (λ (xs : List RecordShape). (r : ℕ) (d : RecordShape) → slice_get xs r ≡ Some d → 1 ≤ d.height) (sym heights_are) positive_rs

  alike : Alike p.records rs
  alike = records_alike p.records [] [] rs tt rs_found.1

  recorded : Recorded (view_of image)
  recorded r d e =
      ap (λ (ds : List RecordTree). slice_get (view_of (record { records = ds; heads = image.heads; code = image.code })).fields r) is.records
      ∙ fields_recorded p.records rs alike r d (ap (λ (xs : List RecordShape). slice_get xs r) (sym heights_are) ∙ e)

  -- ---- form

  entries_match : (fs : List FunctionTree) (a : ℕ) (hs : List HeadTree) → length hs ≡ length fs → ((k : ℕ) (f : FunctionTree) (h : HeadTree) → slice_get fs k ≡ Some f → slice_get hs k ≡ Some h → length f.params ≡ length h.params) → Match (functions_entries fs a) hs
  entries_match [] a [] n w = tt
  entries_match (f ∷ fs) a (h ∷ hs) n w = (w 0 f h refl refl, entries_match fs (a + expr_size f.body + 1) hs (omega arith) (λ k g x e u. w (suc k) g x e u))
  entries_match [] a (h ∷ hs) n w = absurd (omega arith)
  entries_match (f ∷ fs) a [] n w = absurd (omega arith)

  entries_follow : (fs : List FunctionTree) (a z : ℕ) → z ≡ a + length (functions_code fs a) → Follow a (functions_entries fs a) z
  entries_follow [] a z e = omega arith
  entries_follow (f ∷ fs) a z e =
      let b : ℕ = a + expr_size f.body + 1 in
      let l : length (functions_code (f ∷ fs) a) ≡ length (function_code f a) + length (functions_code fs b) = length-append (function_code f a) (functions_code fs b) in
      let n = length_function f a in
      (refl, omega arith, entries_follow fs b z (omega arith))

  code_small : (fs : List FunctionTree) (a : ℕ) → ((k : ℕ) (f : FunctionTree) → slice_get fs k ≡ Some f → expr_size f.body ≤ 60000) → length (functions_code fs a) ≤ 60001 * length fs
  code_small [] a h = omega arith
  code_small (f ∷ fs) a h =
      let b : ℕ = a + expr_size f.body + 1 in
      let l : length (functions_code (f ∷ fs) a) ≡ length (function_code f a) + length (functions_code fs b) = length-append (function_code f a) (functions_code fs b) in
      let n = length_function f a in
      let s = h 0 f refl in
      let r = code_small fs b (λ k g e. h (suc k) g e) in
      omega arith

  small : (k : ℕ) (f : FunctionTree) → slice_get p.functions k ≡ Some f → expr_size f.body ≤ 60000
  small k f e = let one = formed.functions k f e in let n = one.nodes in let l = few f.body in omega arith

  -- the head of a function
  head_shapes : (k : ℕ) (f : FunctionTree) (h : HeadTree) → slice_get p.functions k ≡ Some f → slice_get image.heads k ≡ Some h → (g : ShapeSignature) × (slice_get gs k ≡ Some g) × (g ≡ record { params = h.params; result = h.result })
  head_shapes k f h e u =
      let w = is.heads k h u in
      let b : k < length p.functions = slice_get_within p.functions k f e in
      let found = found_are_shapes p gs ok in
      let n = found.1 in
      at_k (slice_get gs k) refl (omega arith) w.shapes
    where
      past : (xs : List ShapeSignature) (k : ℕ) → k < length xs → slice_get xs k ≡ None → ⊥
      past [] k l e = absurd (omega arith)
      past (x ∷ xs) zero l e = absurd cc
      past (x ∷ xs) (suc k) l e = past xs k (omega arith) e

      at_k : (o : Option ShapeSignature) → slice_get gs k ≡ o → k < length gs → FunctionShape p k (record { params = h.params; result = h.result }) → (g : ShapeSignature) × (slice_get gs k ≡ Some g) × (g ≡ record { params = h.params; result = h.result })
      at_k None s l w = absurd (past gs k l s)
      at_k (Some g) s l w = (g, s, shapes_are_unique p k g (record { params = h.params; result = h.result }) ((found_are_shapes p gs ok).0 k g s) w)

  same_function : (k : ℕ) (f g : FunctionTree) → slice_get p.functions k ≡ Some f → slice_get p.functions k ≡ Some g → f ≡ g
  same_function k f g e u = let h : Some f ≡ Some g = sym e ∙ u in cc

  head_params : (k : ℕ) (f : FunctionTree) (h : HeadTree) → slice_get p.functions k ≡ Some f → slice_get image.heads k ≡ Some h → h.params ≡ map note_shape f.params
  head_params k f h e u = (its_shapes p k f (record { params = h.params; result = h.result }) e (is.heads k h u).shapes).params

  matched : Match image.code.entries image.heads
  unfolding program_code
  matched =
      subst (λ (code : Code). Match code.entries image.heads) (sym is.code_is)
      (entries_match p.functions 0 image.heads is.count (λ k f h e u. sym (ap (λ (ss : List ShapeTree). length ss) (head_params k f h e u) ∙ length-map f.params note_shape)))

  follows : Follow 0 image.code.entries (length image.code.ops)
  unfolding program_code
  follows =
      subst (λ (code : Code). Follow 0 code.entries (length code.ops)) (sym is.code_is)
      (entries_follow p.functions 0 (length (functions_code p.functions 0)) (omega arith))

  addresses : length image.code.ops < 2 ^ 32
  unfolding program_code
  addresses =
      subst (λ (code : Code). length code.ops < 2 ^ 32) (sym is.code_is)
      (let l = code_small p.functions 0 small in let n = formed.few_functions in omega arith)

  -- ---- heads

  low_of : (s : ShapeTree) → IsLowShape p s → shape_height rs s ≤ greatest_height
  low_of s w =
      let both : Ok w.0 ≡ Ok rs = sym w.1 ∙ rs_found.1 in
      let same : w.0 ≡ rs = cc in
      subst (λ (xs : List RecordShape). shape_height xs s ≤ greatest_height) same w.2

  low_head_param : (k : ℕ) (f : FunctionTree) (h : HeadTree) (j : ℕ) (s : ShapeTree) → slice_get p.functions k ≡ Some f → slice_get image.heads k ≡ Some h → slice_get h.params j ≡ Some s → shape_height rs s ≤ greatest_height
  low_head_param k f h j s e u w =
      let g = head_shapes k f h e u in
      low_of s (low_param p gs ok k j g.0 s g.1 (ap (λ (x : ShapeSignature). slice_get x.params j) g.2 ∙ w))

  low_head_result : (k : ℕ) (f : FunctionTree) (h : HeadTree) → slice_get p.functions k ≡ Some f → slice_get image.heads k ≡ Some h → shape_height rs h.result ≤ greatest_height
  low_head_result k f h e u =
      let g = head_shapes k f h e u in
      subst (λ (x : ShapeSignature). shape_height rs x.result ≤ greatest_height) g.2 (low_of g.0.result (low_result_shape p gs ok k g.0 g.1))

  low_text : (s : ShapeTree) → shape_height rs s ≤ greatest_height → IsLowText s
  low_text s l = let t = text_lower rs positive_rs s in omega arith

  few_head_params : (k : ℕ) (f : FunctionTree) (h : HeadTree) → slice_get p.functions k ≡ Some f → slice_get image.heads k ≡ Some h → length h.params ≤ 16
  few_head_params k f h e u =
      let one = formed.functions k f e in
      let n = one.few_params in
      let c : length h.params ≡ length f.params = ap (λ (ss : List ShapeTree). length ss) (head_params k f h e u) ∙ length-map f.params note_shape in
      omega arith

  plain_head : (k : ℕ) (h : HeadTree) → slice_get image.heads k ≡ Some h → IsPlainHead h
  plain_head k h u =
      let w = is.heads k h u in
      let n = few_head_params k w.function h w.listed u in
      record {
        name = subst (λ (x : List ℕ). length x < 2 ^ 32) (sym w.name) (all_at (λ f. length f.name < 2 ^ 32) p.functions k w.function short.functions w.listed);
        count = omega arith;
        params = all_of IsLowText h.params (λ j s e. low_text s (low_head_param k w.function h j s w.listed u e));
        result = low_text h.result (low_head_result k w.function h w.listed u);
      }

  -- the image's record is one of the program's
  record_of : (r : ℕ) (d : RecordTree) → slice_get image.records r ≡ Some d → (x : RecordTree) × (slice_get p.records r ≡ Some x) × (plain_record x ≡ d)
  record_of r d e = known (slice_get p.records r) refl (sym (slice_get-map plain_record p.records r) ∙ ap (λ (ds : List RecordTree). slice_get ds r) (sym is.records) ∙ e) where
    known : (o : Option RecordTree) → slice_get p.records r ≡ o → option_map plain_record o ≡ Some d → (x : RecordTree) × (slice_get p.records r ≡ Some x) × (plain_record x ≡ d)
    known None s w = absurd cc
    known (Some x) s w = (x, s, cc)

  field_is : (r : ℕ) (x : RecordTree) → slice_get p.records r ≡ Some x → (k : ℕ) (f : FieldTree) → slice_get x.fields k ≡ Some f → IsFieldType p r x.units f.type
  field_is r x e k f u = all_at (λ f. IsFieldType p r x.units f.type) x.fields k f (formed.records r x e).fields u

  plain_record_is : (r : ℕ) (d : RecordTree) → slice_get image.records r ≡ Some d → IsPlainRecord d
  plain_record_is r d e =
      let x = record_of r d e in
      subst IsPlainRecord x.2 (of r x.0 x.1)
    where
      of : (r : ℕ) (x : RecordTree) → slice_get p.records r ≡ Some x → IsPlainRecord (plain_record x)
      of r x e =
          let names = all_at (λ d. (length d.name < 2 ^ 32) × All (λ f. length f.name < 2 ^ 32) d.fields) p.records r x short.records e in
          let n = (formed.records r x e).few_fields in
          let c : length (map plain_field x.fields) ≡ length x.fields = length-map x.fields plain_field in
          record {
            name = names.0;
            at = refl;
            units = refl;
            count = omega arith;
            fields = each_plain IsPlainField x.fields (λ k f u. record {
              name = all_at (λ f. length f.name < 2 ^ 32) x.fields k f names.1 u;
              plain = plain_is f.type;
              low = let h = plain_height f.type in let l = (field_is r x e k f u).2 in omega arith;
            });
          }

  form : HasForm image
  form = record {
    records = all_of IsPlainRecord image.records plain_record_is;
    heads = all_of IsPlainHead image.heads plain_head;
    entries = matched;
    follow = follows;
    addresses = addresses;
    count =
        let r = formed.few_records in
        let f = formed.few_functions in
        let n = is.count in
        let m : length image.records ≡ length p.records = ap (λ (ds : List RecordTree). length ds) is.records ∙ length-map p.records plain_record in
        omega arith;
  }

  -- ---- heads

  record_name : (r : ℕ) (x : RecordTree) → slice_get p.records r ≡ Some x → IsNameBytes x.name
  record_name r x e =
      formed.names (length p.bases + r) x.name (get_behind p.bases (map (λ d. d.name) p.records) r ∙ slice_get-map (λ (d : RecordTree). d.name) p.records r ∙ ap (option_map (λ (d : RecordTree). d.name)) e)

  names_once : (n : ℕ) → AreDistinct (map (λ d. d.name) (take n image.records))
  names_once n =
      distinct_within (map (λ d. d.name) (take n image.records)) (map (λ d. d.name) image.records) (names_within (λ (d : RecordTree). d.name) n image.records)
      (subst AreDistinct (sym (ap (λ (ds : List RecordTree). map (λ (d : RecordTree). d.name) ds) is.records ∙ plain_names p.records)) (distinct_behind p.bases (map (λ d. d.name) p.records) formed.once))

  fields_once : (n : ℕ) → AreDistinct (field_names (take n image.records))
  fields_once n =
      distinct_within (field_names (take n image.records)) (field_names image.records) (fields_within n image.records)
      (subst AreDistinct (sym (ap field_names is.records ∙ plain_field_names p.records)) formed.fields_once)

  -- the fields of a record are low over the records before it
  low_fields : (r : ℕ) (x : RecordTree) → slice_get p.records r ≡ Some x → (k : ℕ) (f : FieldTree) → slice_get x.fields k ≡ Some f → shape_height (record_shapes (take r image.records)) (type_shape (plain_type f.type)) ≤ greatest_height
  low_fields r x e k f u =
      let same : record_shapes (take r image.records) ≡ record_shapes (take r p.records) = ap (λ (ds : List RecordTree). record_shapes (take r ds)) is.records ∙ ap record_shapes (take_plain r p.records) ∙ plain_and_shapes (take r p.records) [] in
      let l = low_field p.records [] rs rs_found.1 r x e k f u in
      let h : shape_height (record_shapes (take r image.records)) (type_shape (plain_type f.type)) ≡ shape_height (record_shapes (take r p.records)) (type_shape f.type) = (λ i. shape_height (same i) (plain_shape f.type i)) in
      omega arith

  record_holds : (r : ℕ) (x : RecordTree) → slice_get p.records r ≡ Some x → RecordHolds image.records r (plain_record x)
  record_holds r x e =
      let c : length (map plain_field x.fields) ≡ length x.fields = length-map x.fields plain_field in
      let some = (formed.records r x e).some_field in
      let few = (formed.records r x e).few_fields in
      record {
        name = record_name r x e;
        once = names_once (r + 1);
        some_field = omega arith;
        few_fields = omega arith;
        names_of_fields = each_plain (λ f. IsNameBytes f.name) x.fields (λ k f u. let j = field_among p.records r x e k f u in formed.names_of_fields j.0 f.name j.1);
        fields_once = fields_once (r + 1);
        earlier = each_plain (λ f. NamesEarlier r f.type) x.fields (λ k f u. plain_earlier r f.type (field_is r x e k f u).1);
        low = each_plain (λ f. shape_height (record_shapes (take r image.records)) (type_shape f.type) ≤ greatest_height) x.fields (λ k f u. low_fields r x e k f u);
      }

  functions_once : (n : ℕ) → AreDistinct (map (λ h. h.name) (take n image.heads))
  functions_once n =
      distinct_within (map (λ h. h.name) (take n image.heads)) (map (λ f. f.name) p.functions) within formed.functions_once
    where
      within : Within (map (λ h. h.name) (take n image.heads)) (map (λ f. f.name) p.functions)
      within k x e = named (slice_get image.heads k) refl (sym (slice_get-map (λ (h : HeadTree). h.name) image.heads k) ∙ names_within (λ (h : HeadTree). h.name) n image.heads k x e)
        where
          named : (o : Option HeadTree) → slice_get image.heads k ≡ o → option_map (λ (h : HeadTree). h.name) o ≡ Some x → slice_get (map (λ f. f.name) p.functions) k ≡ Some x
          named None s w = absurd cc
          named (Some h) s w =
              let head = is.heads k h s in
              let same : h.name ≡ x = cc in
              slice_get-map (λ (f : FunctionTree). f.name) p.functions k ∙ ap (option_map (λ (f : FunctionTree). f.name)) head.listed ∙ ap Some (sym head.name ∙ same)

  function_name : (k : ℕ) (f : FunctionTree) → slice_get p.functions k ≡ Some f → IsNameBytes f.name
  function_name k f e = formed.names_of_functions k f.name (slice_get-map (λ (f : FunctionTree). f.name) p.functions k ∙ ap (option_map (λ (f : FunctionTree). f.name)) e)

  -- where the code of a function stands
  where_is : (k : ℕ) (f : FunctionTree) → slice_get p.functions k ≡ Some f → (e : Entry) × (slice_get image.code.entries k ≡ Some e) × (e.end ≡ e.start + expr_size f.body + 1) × InRow image.code k e.start (function_code f e.start)
  unfolding program_code
  where_is k f h =
      let r = located p.functions [] 0 k f refl h in
      let e = r.entry in
      let listed : slice_get image.code.entries k ≡ Some e = ap (λ (code : Code). slice_get code.entries k) is.code_is ∙ r.listed in
      let ops : image.code.ops ≡ r.before ++ (function_code f e.start ++ r.behind) = ap (λ (code : Code). code.ops) is.code_is ∙ r.ops in
      (e, listed, r.ends, rows image.code k e listed (function_code f e.start) r.before r.behind e.start ops r.starts (omega arith) (omega (arith, length_function f e.start, r.ends)))

  below_records : (s : ShapeTree) → NamesBelow (length p.records) s → NamesBelow (length image.records) s
  below_records s h =
      let m : length p.records ≡ length image.records = sym (ap (λ (ds : List RecordTree). length ds) is.records ∙ length-map p.records plain_record) in
      subst (λ (n : ℕ). NamesBelow n s) m h

  -- ---- which records shapes name

  abbrev Below : ShapeTree → Type 0
  Below s = NamesBelow (length p.records) s

  params_below : (k : ℕ) (f : FunctionTree) → slice_get p.functions k ≡ Some f → AllBelow (length p.records) (map note_shape f.params)
  params_below k f e j s u = noted (slice_get f.params j) refl (sym (slice_get-map note_shape f.params j) ∙ u) where
    noted : (o : Option NoteTree) → slice_get f.params j ≡ o → option_map note_shape o ≡ Some s → Below s
    noted None h w = absurd cc
    noted (Some n) h w =
        let same : note_shape n ≡ s = cc in
        let formed_note = all_at (IsFormedNote p f) f.params j n (formed.functions k f e).params h in
        subst Below same (note_names p (length p.bases) f.named n formed_note.0)

  own_below : (k : ℕ) (f : FunctionTree) → slice_get p.functions k ≡ Some f → (m : ℕ) (c : ShapeSignature) → slice_get (own_shapes f) m ≡ Some c → Below c.result
  own_below k f e m c h = by_recursive f.recursive h where
    by_result : (o : Option NoteTree) → ResultFormed p f o → slice_get (noted_shapes f.params o) m ≡ Some c → Below c.result
    by_result None w h = absurd (nothing_at m c h)
    by_result (Some n) w h =
        subst (λ (g : ShapeSignature). Below g.result) (only_one (record { params = map note_shape f.params; result = note_shape n }) m c h).1 (note_names p (length p.bases) f.named n w.0)

    by_recursive : (b : Bool) → slice_get (cond b (noted_shapes f.params f.result) []) m ≡ Some c → Below c.result
    by_recursive true h = by_result f.result (formed.functions k f e).result h
    by_recursive false h = absurd (nothing_at m c h)

  -- the fields of the records name records
  fields_below : (r : ℕ) (d : RecordShape) → slice_get rs r ≡ Some d → AllBelow (length p.records) d.fields
  fields_below r d e k s u =
      let a = alike_at p.records rs r d alike e in
      typed (slice_get a.0.fields k) refl (sym (slice_get-map type_shape (field_types a.0) k ∙ ap (option_map type_shape) (slice_get-map (λ (f : FieldTree). f.type) a.0.fields k)) ∙ ap (λ (ss : List ShapeTree). slice_get ss k) (sym a.2) ∙ u) a.1
    where
      typed : {x : RecordTree} (o : Option FieldTree) → slice_get x.fields k ≡ o → option_map type_shape (option_map (λ (f : FieldTree). f.type) o) ≡ Some s → slice_get p.records r ≡ Some x → Below s
      typed None h w v = absurd cc
      typed {x} (Some f) h w v =
          let same : type_shape f.type ≡ s = cc in
          subst Below same (type_names p (length p.bases) x.units f.type (field_is r x v k f h).0)

  alike_length : (ds : List RecordTree) (ss : List RecordShape) → Alike ds ss → length ss ≡ length ds
  alike_length [] [] h = refl
  alike_length (d ∷ ds) (s ∷ ss) h = ap suc (alike_length ds ss h.1)
  alike_length [] (s ∷ ss) h = absurd h
  alike_length (d ∷ ds) [] h = absurd h

  same_signature : (xs : List ShapeSignature) (k : ℕ) (g h : ShapeSignature) → slice_get xs k ≡ Some g → slice_get xs k ≡ Some h → g ≡ h
  same_signature xs k g h e u = let w : Some g ≡ Some h = sym e ∙ u in cc

  found_at : (k : ℕ) (f : FunctionTree) → slice_get p.functions k ≡ Some f → IsFound rs gs k f
  found_at k f e = let here : 0 + k ≡ k = omega arith in subst (λ (n : ℕ). IsFound rs gs n f) here (each_found rs [] gs p.functions rs_found.2 k f e)

  found_place : (k : ℕ) (f : FunctionTree) (x : IsFound rs gs k f) → slice_get gs k ≡ Some x.g
  found_place k f x =
      begins_get (x.before ++ x.g ∷ []) gs k x.g x.begins (ap (slice_get (x.before ++ x.g ∷ [])) (sym x.count) ∙ at_place x.before x.g [])

  abbrev ResultsBelow : ℕ → Type 0
  ResultsBelow n = (j : ℕ) (g : ShapeSignature) → j < n → slice_get gs j ≡ Some g → Below g.result

  one_more_below : (n : ℕ) → ResultsBelow n → ResultsBelow (suc n)
  one_more_below n earlier j g l e = which (cases_lt j n) where
    functions_there : (xs : List FunctionTree) (j : ℕ) → j < length xs → (f : FunctionTree) × (slice_get xs j ≡ Some f)
    functions_there [] j l = absurd (omega arith)
    functions_there (x ∷ xs) zero l = (x, refl)
    functions_there (x ∷ xs) (suc j) l = functions_there xs j (omega arith)

    callee : (f : FunctionTree) → slice_get p.functions j ≡ Some f → (x : IsFound rs gs j f) → n ≤ j → (m : ℕ) (c : ShapeSignature) → slice_get (x.before ++ own_shapes f) m ≡ Some c → Below c.result
    callee f h x b m c u = part_of_it (in_either x.before (own_shapes f) m c u) where
      part_of_it : ((m < length x.before) × (slice_get x.before m ≡ Some c)) ⊎ ((k : ℕ) × (m ≡ length x.before + k) × (slice_get (own_shapes f) k ≡ Some c)) → Below c.result
      part_of_it (inl w) =
          let count = x.count in
          earlier m c (omega arith) (begins_get x.before gs m c (x.g ∷ x.begins.0, sym (append_assoc x.before (x.g ∷ []) x.begins.0) ∙ x.begins.1) w.1)
      part_of_it (inr w) = own_below j f h w.0 c w.2

    here : (f : FunctionTree) → slice_get p.functions j ≡ Some f → n ≤ j → Below g.result
    here f h b =
        let x = found_at j f h in
        let o = function_ok rs x.before f x.g x.is in
        let same : x.g ≡ g = same_signature gs j x.g g (found_place j f x) e in
        let s = names_found p j f rs (alike_length p.records rs alike) fields_below (x.before ++ own_shapes f) (callee f h x b) f.body (length f.params) (map note_shape f.params) o.0 (formed.functions j f h).body (params_below j f h) o.1 in
        subst (λ (y : ShapeSignature). Below y.result) (sym o.3 ∙ same) s

    which : (j < n) ⊎ (n ≤ j) → Below g.result
    which (inl c) = earlier j g c e
    which (inr c) =
        let within = slice_get_within gs j g e in
        let count = (found_are_shapes p gs ok).1 in
        let f = functions_there p.functions j (omega arith) in
        here f.0 f.1 c

  results_below : (n : ℕ) → ResultsBelow n
  results_below zero j g l e = absurd (omega arith)
  results_below (suc n) j g l e = one_more_below n (results_below n) j g l e

  function_holds : (k : ℕ) (h : HeadTree) → slice_get image.heads k ≡ Some h → FunctionHolds image k h
  function_holds k h u =
      let w = is.heads k h u in
      let f = w.function in
      let e = w.listed in
      let at = where_is k f e in
      let g = head_shapes k f h e u in
      record {
        name = subst IsNameBytes (sym w.name) (function_name k f e);
        once = functions_once (k + 1);
        few_params = few_head_params k f h e u;
        some_instruction = λ x s.
            let same : at.0 ≡ x = same_entry at.0 x (sym at.1 ∙ s) in
            let end = at.2 in
            subst (λ (y : Entry). y.start < y.end) same (omega arith);
        params = all_of (IsShapeIn image) h.params (λ j s t. (below_records s (params_below k f e j s (ap (λ (ss : List ShapeTree). slice_get ss j) (sym (head_params k f h e u)) ∙ t)), subst (λ (xs : List RecordShape). shape_height xs s ≤ greatest_height) (sym heights_are) (low_head_param k f h j s e u t)));
        result = (below_records h.result (subst (λ (x : ShapeSignature). Below x.result) g.2 (results_below (suc k) k g.0 (omega arith) g.1)), subst (λ (xs : List RecordShape). shape_height xs h.result ≤ greatest_height) (sym heights_are) (low_head_result k f h e u));
      }
    where
      same_entry : (x y : Entry) → Some x ≡ Some y → x ≡ y
      same_entry x y h = cc

  heads_hold : (i : ℕ) → HeadHolds image i
  heads_hold i = record {
    record_holds = λ d e. let x = record_of i d e in subst (RecordHolds image.records i) x.2 (record_holds i x.0 x.1);
    function_holds = λ k h q u. function_holds k h u;
  }

  -- ---- code

  known : (k : ℕ) (f : FunctionTree) → slice_get p.functions k ≡ Some f → (x : IsFound rs gs k f) → Known (view_of image) (x.before ++ own_shapes f)
  known k f e x j c u =
      let o = function_ok rs x.before f x.g x.is in
      let begins = subst (λ (y : ShapeSignature). Begins (x.before ++ y ∷ []) gs) o.3 x.begins in
      let there = callee_is gs x.before f o.0 o.2 begins j c u in
      let within = slice_get_within gs j c there in
      let count = (found_are_shapes p gs ok).1 in
      let heads = is.count in
      let h = heads_there image.heads j (omega arith) in
      let w = is.heads j h.0 h.1 in
      let g = head_shapes j w.function h.0 w.listed h.1 in
      let same : c ≡ record { params = h.0.params; result = h.0.result } = same_signature gs j c g.0 there g.1 ∙ g.2 in
      let b = body_at image.code.entries image.heads matched j h.0 h.1 in
      (body_of b.0 h.0, b.2, ap (λ (y : ShapeSignature). map on_stack y.params) (sym same), ap (λ (y : ShapeSignature). on_stack y.result) (sym same))
    where
      heads_there : (xs : List HeadTree) (j : ℕ) → j < length xs → (h : HeadTree) × (slice_get xs j ≡ Some h)
      heads_there [] j l = absurd (omega arith)
      heads_there (x ∷ xs) zero l = (x, refl)
      heads_there (x ∷ xs) (suc j) l = heads_there xs j (omega arith)

  code_holds : CodeHolds (view_of image)
  code_holds k b s =
      let h = head_of image.code.entries image.heads k b s in
      let w = is.heads k h.0 h.2 in
      let f = w.function in
      let x = found_at k f w.listed in
      let o = function_ok rs x.before f x.g x.is in
      let g = head_shapes k f h.0 w.listed h.2 in
      let at = where_is k f w.listed in
      let entry : at.0 ≡ h.1 = same_entry at.0 h.1 (sym at.1 ∙ h.3) in
      let shapes : x.g ≡ record { params = h.0.params; result = h.0.result } = same_signature gs k x.g g.0 (found_place k f x) g.1 ∙ g.2 in
      let result : on_stack h.0.result ≡ on_stack o.0 = ap (λ (y : ShapeSignature). on_stack y.result) (sym shapes ∙ o.3) in
      let ends : h.1.end ≡ h.1.start + expr_size f.body + 1 = subst (λ (y : Entry). y.end ≡ y.start + expr_size f.body + 1) entry at.2 in
      let row : InRow image.code k h.1.start (function_code f h.1.start) = subst (λ (y : Entry). InRow image.code k y.start (function_code f y.start)) entry at.3 in
      let looked : found (view_of image).heights (x.before ++ own_shapes f) (map note_shape f.params) f.body ≡ Ok o.0 = ap (λ (xs : List RecordShape). found xs (x.before ++ own_shapes f) (map note_shape f.params) f.body) heights_are ∙ o.1 in
      let low : tallest (view_of image).heights (map note_shape f.params) ≤ greatest_height = subst (λ (xs : List RecordShape). tallest xs (map note_shape f.params) ≤ greatest_height) (sym heights_are) (low_params rs x.before f x.g x.is) in
      subst (BodyHolds (view_of image)) h.4
      (body_accepted image.code k (view_of image) (body_of h.1 h.0) refl positive recorded (x.before ++ own_shapes f) (known k f w.listed x) f o.0 looked (ap (map on_stack) (head_params k f h.0 w.listed h.2)) result ends row low)
    where
      same_entry : (x y : Entry) → Some x ≡ Some y → x ≡ y
      same_entry x y h = cc

  pub image_verified : IsVerified image
  image_verified = record { form = form; heads = heads_hold; code = code_holds }

pub generated_is_verified : GeneratedIsVerified
generated_is_verified p image formed faultless short is =
    let gs = shapes_of p faultless in image_verified p formed short gs.0 gs.1 image is
