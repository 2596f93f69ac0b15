-- It is decided whether the heads of an image hold, and which is the first that doesn't.
use Rattle.std.proofs.Common.{◌≡◌, ◌⊎◌, inl, inr, ℕ, ◌+◌, ◌-◌, ◌≤◌, ◌<◌, List, length, map, take, Some, ap, subst, ◌∙◌, arith}
use Rattle.std.specs.Prelude.{slice_get}
use Rattle.std.proofs.lemmas.Bool.{cases_lt}
use Rattle.std.proofs.lemmas.Option.{slice_get_within}
use Rattle.um_tree.specs.TypeTree.{TypeTree, bool_type, num_type, list_type, record_type, ShapeTree, bool_shape, num_shape, list_shape, record_shape}
use Rattle.um_tree.specs.ProgramTree.{FieldTree, RecordTree}
use Rattle.um_tree.specs.Shapes.{type_shape}
use Rattle.um_tree.specs.Heights.{greatest_height}
use Rattle.um_tree.specs.Formed.{IsNameBytes, NamesEarlier, field_names}
use Rattle.um_shape.specs.RecordShapes.{shape_height}
use Rattle.um_machine.specs.declared.code.Entry.{Entry}
use Rattle.um_verify.specs.ImageTree.{HeadTree, ImageTree}
use Rattle.um_verify.specs.Heads.{record_shapes, RecordHolds, NamesBelow, IsShapeIn, FunctionHolds, HeadHolds, IsFirstHead}
use Rattle.um_verifier.proofs.Decisions.{Dec, both, as_well, less, at_most, all, if_there, first_failing}
use Rattle.um_verifier.proofs.DecidedNames.{is_name, are_distinct}

names_earlier : (r : ℕ) (t : TypeTree) → Dec (NamesEarlier r t)
names_earlier r bool_type = inl tt
names_earlier r (num_type u) = inl tt
names_earlier r (list_type t) = names_earlier r t
names_earlier r (record_type q us) = less q r

names_below : (n : ℕ) (s : ShapeTree) → Dec (NamesBelow n s)
names_below n bool_shape = inl tt
names_below n num_shape = inl tt
names_below n (list_shape s) = names_below n s
names_below n (record_shape r) = less r n

record_holds : (records : List RecordTree) (i : ℕ) (d : RecordTree) → Dec (RecordHolds records i d)
record_holds records i d =
    as_well
    (both (is_name d.name)
    (both (are_distinct (map (λ (x : RecordTree). x.name) (take (i + 1) records)))
    (both (less 0 (length d.fields))
    (both (at_most (length d.fields) 32)
    (both (all (λ (f : FieldTree). IsNameBytes f.name) (λ f. is_name f.name) d.fields)
    (both (are_distinct (field_names (take (i + 1) records)))
    (both (all (λ (f : FieldTree). NamesEarlier i f.type) (λ f. names_earlier i f.type) d.fields)
    (all (λ (f : FieldTree). shape_height (record_shapes (take i records)) (type_shape f.type) ≤ greatest_height) (λ f. at_most (shape_height (record_shapes (take i records)) (type_shape f.type)) greatest_height) d.fields))))))))
    (λ (name, (once, (some_field, (few_fields, (names_of_fields, (fields_once, (earlier, low))))))).
    record { name = name; once = once; some_field = some_field; few_fields = few_fields; names_of_fields = names_of_fields; fields_once = fields_once; earlier = earlier; low = low })
    (λ r. (r.name, (r.once, (r.some_field, (r.few_fields, (r.names_of_fields, (r.fields_once, (r.earlier, r.low))))))))

module _ (image : ImageTree) where
  shape_in : (s : ShapeTree) → Dec (IsShapeIn image s)
  shape_in s = both (names_below (length image.records) s) (at_most (shape_height (record_shapes image.records) s) greatest_height)

  function_holds : (k : ℕ) (h : HeadTree) → Dec (FunctionHolds image k h)
  function_holds k h =
      as_well
      (both (is_name h.name)
      (both (are_distinct (map (λ (x : HeadTree). x.name) (take (k + 1) image.heads)))
      (both (at_most (length h.params) 16)
      (both (if_there (λ (e : Entry). e.start < e.end) (λ e. less e.start e.end) (slice_get image.code.entries k))
      (both (all (IsShapeIn image) shape_in h.params) (shape_in h.result))))))
      (λ (name, (once, (few_params, (some_instruction, (params, result))))).
      record { name = name; once = once; few_params = few_params; some_instruction = some_instruction; params = params; result = result })
      (λ r. (r.name, (r.once, (r.few_params, (r.some_instruction, (r.params, r.result))))))

  abbrev OfFunction : ℕ → Type 0
  OfFunction i = (k : ℕ) (h : HeadTree) → i ≡ length image.records + k → slice_get image.heads k ≡ Some h → FunctionHolds image k h

  of_function : (i : ℕ) → Dec (OfFunction i)
  of_function i =
      elim (cases_lt i (length image.records)) [
        | inl low ↦ inl (λ k h e is. absurd (omega (arith, low, e)))
        | inr high ↦
            let n = i - length image.records in
            as_well (if_there (FunctionHolds image n) (function_holds n) (slice_get image.heads n))
            (λ f k h e is. let same : n ≡ k = omega (arith, e) in subst (λ j. FunctionHolds image j h) same (f h (ap (slice_get image.heads) same ∙ is)))
            (λ f h is. f n h (omega (arith, high)) is)
      ]

  head_holds : (i : ℕ) → Dec (HeadHolds image i)
  head_holds i =
      as_well (both (if_there (RecordHolds image.records i) (record_holds image.records i) (slice_get image.records i)) (of_function i))
      (λ h. record { record_holds = h.0; function_holds = h.1 }) (λ r. (r.record_holds, r.function_holds))

  -- past the heads nothing is asked
  past_heads : (i : ℕ) → length image.records + length image.heads ≤ i → HeadHolds image i
  past_heads i past = record {
    record_holds = λ d e. (let within = slice_get_within image.records i d e in absurd (omega (arith, past, within)));
    function_holds = λ k h e is. (let within = slice_get_within image.heads k h is in absurd (omega (arith, past, e, within)));
  }

  every_head : ((m : ℕ) → m < length image.records + length image.heads → HeadHolds image m) → (i : ℕ) → HeadHolds image i
  every_head holds i =
      elim (cases_lt i (length image.records + length image.heads)) [
        | inl low ↦ holds i low
        | inr past ↦ past_heads i past
      ]

  pub heads_or_first : ((i : ℕ) → HeadHolds image i) ⊎ ((i : ℕ) × IsFirstHead image i)
  heads_or_first =
      elim (first_failing (HeadHolds image) head_holds (length image.records + length image.heads)) [
        | inl holds ↦ inl (every_head holds)
        | inr w ↦ inr (w.0, record { exists = w.1; fails = w.2; earlier = w.3 })
      ]
