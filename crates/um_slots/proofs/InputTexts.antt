-- Inputs as expressions have exactly the types of the inputs.
use Rattle.std.proofs.Common.{◌≡◌, ℕ, zero, suc, List, [], ◌∷◌, map, length, replicate, get_or, Some, slice_get, refl, sym, ap, ◌∙◌, subst}
use Rattle.std.specs.Prelude.{All}
use Rattle.std.proofs.lemmas.List.{length-map}
use Rattle.std.proofs.lemmas.List.Elements.{All-head, All-tail}
use Rattle.um_frac.specs.declared.number.Frac.{Frac}
use Rattle.um_units.specs.PowerMap.{PowerMap, replace}
use Rattle.um_units.specs.Variables.{IsClosed}
use Rattle.um_tree.specs.declared.note.UnitNote.{UnitNote}
use Rattle.um_tree.specs.declared.note.UnitNote.TheVariants.{Hole, Written}
use Rattle.um_tree.specs.TypeTree.{TypeTree, bool_type, num_type, list_type, record_type, NoteTree, bool_note, num_note, list_note, record_note, ShapeTree, bool_shape, num_shape, list_shape, record_shape}
use Rattle.um_tree.specs.ValueTree.{InputTree, InputTrees, truth_input, number_input, list_input, record_input, no_inputs, more_inputs}
use Rattle.um_tree.specs.ProgramTree.{RecordTree, Signature}
use Rattle.um_tree.specs.Typing.{put, moved, unit_at, field_types, UnitsMatch, Matches, TypesMatch, EachIs, Typed, AllTyped}
use Rattle.um_tree.specs.ExprTree.{ExprTrees, none, more}
use Rattle.um_tree.specs.Laws.{UnitNoteHas, NoteHas, ExprsHave, LiteralsAreClosed}
use Rattle.um_tree.specs.Shapes.{type_shape, note_shape}
use Rattle.um_tree.specs.InputType.{InputHas, EachInputHas, InputsHave}
use Rattle.um_tree.specs.Formed.{IsTypeIn, IsNoteTreeIn, IsLiteral, IsFormedInput, AreFormedInputs}
use Rattle.um_uses.specs.Holes.{record_holes}
use Rattle.um_slots.specs.CallFunction.{open_note, item_shape, list_of, field_shapes, input_text, item_texts, input_texts}

-- ---- types of a shape
units_open : (choice : ℕ → PowerMap) (us : List PowerMap) → UnitsMatch choice (replicate (length us) Hole) us
units_open choice [] = refl
units_open choice (u ∷ us) = (u, us, tt, units_open choice us, refl)

same_number_of_units : (choice : ℕ → PowerMap) (ns : List UnitNote) (us : List PowerMap) → UnitsMatch choice ns us → length us ≡ length ns
same_number_of_units choice [] us h = ap length h
same_number_of_units choice (n ∷ ns) us h = ap length h.4 ∙ ap suc (same_number_of_units choice ns h.1 h.3)

open_record : (records : List RecordTree) (choice : ℕ → PowerMap) (r : ℕ) (us : List PowerMap) (d : RecordTree) → slice_get records r ≡ Some d → length us ≡ d.units → Matches choice (open_note records (record_shape r)) (record_type r us)
open_record records choice r us d e l =
    let many : record_holes (slice_get records r) ≡ length us = ap record_holes e ∙ sym l in
    (us, subst (λ (m : ℕ). UnitsMatch choice (replicate m Hole) us) (sym many) (units_open choice us), refl)

-- the type of a note is of the note's shape
pub note_is_open : (bases vars : ℕ) (records : List RecordTree) (choice other : ℕ → PowerMap) (n : NoteTree) (t : TypeTree) → IsNoteTreeIn bases vars records n → Matches choice n t → Matches other (open_note records (note_shape n)) t
note_is_open bases vars records choice other bool_note t w m = m
note_is_open bases vars records choice other (num_note n) t w m = (m.0, tt, m.2)
note_is_open bases vars records choice other (list_note n) t w m = (m.0, note_is_open bases vars records choice other n m.0 w m.1, m.2)
note_is_open bases vars records choice other (record_note r ns) t w m =
    let many = same_number_of_units choice ns m.0 m.1 ∙ w.0.2 in
    subst (Matches other (open_note records (record_shape r))) (sym m.2) (open_record records other r m.0 w.0.0 w.0.1 many)

-- the type of a field is of the declared shape
field_is_open : (bases vars : ℕ) (records : List RecordTree) (s choice : ℕ → PowerMap) (t : TypeTree) → IsTypeIn bases vars records t → Matches choice (open_note records (type_shape t)) (put s t)
field_is_open bases vars records s choice bool_type w = refl
field_is_open bases vars records s choice (num_type u) w = (replace s u, tt, refl)
field_is_open bases vars records s choice (list_type t) w = (put s t, field_is_open bases vars records s choice t w, refl)
field_is_open bases vars records s choice (record_type r us) w = open_record records choice r (map (replace s) us) w.0.0 w.0.1 (length-map us (replace s) ∙ w.0.2)

-- type by type
abbrev pub TypesAreOpen : List RecordTree → (ℕ → PowerMap) → List ShapeTree → List TypeTree → Type 0
TypesAreOpen records choice [] ts = ts ≡ []
TypesAreOpen records choice (s ∷ ss) ts = (t : TypeTree) × (rest : List TypeTree) × Matches choice (open_note records s) t × TypesAreOpen records choice ss rest × (ts ≡ t ∷ rest)

pub notes_are_open : (bases vars : ℕ) (records : List RecordTree) (choice other : ℕ → PowerMap) (ns : List NoteTree) (ts : List TypeTree) → All (IsNoteTreeIn bases vars records) ns → TypesMatch choice ns ts → TypesAreOpen records other (map note_shape ns) ts
notes_are_open bases vars records choice other [] ts w m = m
notes_are_open bases vars records choice other (n ∷ ns) ts w m = (
  m.0,
  m.1,
  note_is_open bases vars records choice other n m.0 (All-head (IsNoteTreeIn bases vars records) n ns w) m.2,
  notes_are_open bases vars records choice other ns m.1 (All-tail (IsNoteTreeIn bases vars records) n ns w) m.3,
  m.4,
)

-- units that are changed leave the shape
units_moved : (choice : ℕ → PowerMap) (change : PowerMap → PowerMap) (n : ℕ) (us : List PowerMap) → UnitsMatch choice (replicate n Hole) us → UnitsMatch choice (replicate n Hole) (map change us)
units_moved choice change zero us m = ap (map change) m
units_moved choice change (suc n) us m = (change m.0, map change m.1, tt, units_moved choice change n m.1 m.3, ap (map change) m.4)

open_moved : (records : List RecordTree) (choice : ℕ → PowerMap) (change : PowerMap → PowerMap) (s : ShapeTree) (t : TypeTree) → Matches choice (open_note records s) t → Matches choice (open_note records s) (moved change t)
open_moved records choice change bool_shape t m = ap (moved change) m
open_moved records choice change num_shape t m = (change m.0, tt, ap (moved change) m.2)
open_moved records choice change (list_shape s) t m = (moved change m.0, open_moved records choice change s m.0 m.1, ap (moved change) m.2)
open_moved records choice change (record_shape r) t m = (map change m.0, units_moved choice change (record_holes (slice_get records r)) m.0 m.1, ap (moved change) m.2)

pub types_open_moved : (records : List RecordTree) (choice : ℕ → PowerMap) (change : PowerMap → PowerMap) (ss : List ShapeTree) (ts : List TypeTree) → TypesAreOpen records choice ss ts → TypesAreOpen records choice ss (map (moved change) ts)
types_open_moved records choice change [] ts m = ap (map (moved change)) m
types_open_moved records choice change (s ∷ ss) ts m =
    (moved change m.0, map (moved change) m.1, open_moved records choice change s m.0 m.2, types_open_moved records choice change ss m.1 m.3, ap (map (moved change)) m.4)

fields_are_open : (bases vars : ℕ) (records : List RecordTree) (s choice : ℕ → PowerMap) (ts : List TypeTree) → All (IsTypeIn bases vars records) ts → TypesAreOpen records choice (map type_shape ts) (map (put s) ts)
fields_are_open bases vars records s choice [] w = refl
fields_are_open bases vars records s choice (t ∷ ts) w = (
  put s t,
  map (put s) ts,
  field_is_open bases vars records s choice t (All-head (IsTypeIn bases vars records) t ts w),
  fields_are_open bases vars records s choice ts (All-tail (IsTypeIn bases vars records) t ts w),
  refl,
)

item_is_open : (records : List RecordTree) (choice : ℕ → PowerMap) (s : ShapeTree) (t : TypeTree) → Matches choice (open_note records s) (list_type t) → Matches choice (open_note records (item_shape s)) t
item_is_open records choice bool_shape t m = absurd (cc m)
item_is_open records choice num_shape t m = absurd (cc m.2)
item_is_open records choice (list_shape s) t m = let same : t ≡ m.0 = cc m.2 in subst (Matches choice (open_note records s)) (sym same) m.1
item_is_open records choice (record_shape r) t m = absurd (cc m.2)

module _ (bases : ℕ) (records : List RecordTree) (fields : (r : ℕ) (d : RecordTree) → slice_get records r ≡ Some d → All (IsTypeIn bases d.units records) (field_types d)) (calls : ℕ → Signature → Type 0) (choice : ℕ → PowerMap) where
  -- ---- an input's type is the expression's
  mutual
    pub text_typed : (s : ShapeTree) (i : InputTree) (t : TypeTree) → IsFormedInput bases i → Matches choice (open_note records s) t → InputHas records i t → Typed records calls choice [] (input_text records s i) t
    text_typed s (truth_input b) t w m h = h
    text_typed s (number_input c n) t w m h = (h.0, h.1, h.2)
    text_typed s (list_input is) t w m h = list_typed s is t h.0 w (subst (Matches choice (open_note records s)) h.2 m) h.1 h.2
    text_typed s (record_input r is) t w m h =
        let found : field_shapes (slice_get records r) ≡ map type_shape (field_types h.1) = ap field_shapes h.2.declared in
        let shaped = fields_are_open bases h.1.units records (unit_at h.0) choice (field_types h.1) (fields r h.1 h.2.declared) in
        (h.0, h.1, h.2, texts_typed (field_shapes (slice_get records r)) is _ w (subst (λ ss. TypesAreOpen records choice ss (map (put (unit_at h.0)) (field_types h.1))) (sym found) shaped) h.3, h.4)

    list_typed : (s : ShapeTree) (is : InputTrees) (t item : TypeTree) → AreFormedInputs bases is → Matches choice (open_note records s) (list_type item) → EachInputHas records is item → t ≡ list_type item → Typed records calls choice [] (input_text records s (list_input is)) t
    list_typed s no_inputs t item w m h e = (item, m, e)
    list_typed s (more_inputs i is) t item w m h e =
        let one = item_is_open records choice s item m in
        let rest = items_typed (item_shape s) is item w.1 one h.1 in
        (item, rest.0, (item, rest.0, text_typed (item_shape s) i item w.0 one h.0, rest.1, refl), rest.2, e)

    items_typed : (s : ShapeTree) (is : InputTrees) (t : TypeTree) → AreFormedInputs bases is → Matches choice (open_note records s) t → EachInputHas records is t →
        (ts : List TypeTree) × AllTyped records calls choice [] (item_texts records s is) ts × EachIs t ts
    items_typed s no_inputs t w m h = ([], refl, tt)
    items_typed s (more_inputs i is) t w m h =
        let rest = items_typed s is t w.1 m h.1 in
        (t ∷ rest.0, (t, rest.0, text_typed s i t w.0 m h.0, rest.1, refl), (refl, rest.2))

    pub texts_typed : (ss : List ShapeTree) (is : InputTrees) (ts : List TypeTree) → AreFormedInputs bases is → TypesAreOpen records choice ss ts → InputsHave records is ts → AllTyped records calls choice [] (input_texts records ss is) ts
    texts_typed ss no_inputs ts w m h = h
    texts_typed [] (more_inputs i is) ts w m h = absurd (cc (m, h.4))
    texts_typed (s ∷ ss) (more_inputs i is) ts w m h =
        let first : m.0 ≡ h.0 = cc (m.4, h.4) in
        let rest : m.1 ≡ h.1 = cc (m.4, h.4) in
        (h.0, h.1, text_typed s i h.0 w.0 (subst (Matches choice (open_note records s)) first m.2) h.2, texts_typed ss is h.1 w.1 (subst (TypesAreOpen records choice ss) rest m.3) h.3, h.4)

  -- ---- and back
  mutual
    pub input_has : (s : ShapeTree) (i : InputTree) (t : TypeTree) → IsFormedInput bases i → Typed records calls choice [] (input_text records s i) t → InputHas records i t
    input_has s (truth_input b) t w h = h
    input_has s (number_input c n) t w h = (h.0, h.1, h.2)
    input_has s (list_input no_inputs) t w h = (h.0, tt, h.2)
    input_has s (list_input (more_inputs i is)) t w h =
        let first : h.2.0 ≡ h.0 = cc h.2.4 in
        let rest : h.2.1 ≡ h.1 = cc h.2.4 in
        (h.0, (subst (InputHas records i) first (input_has (item_shape s) i h.2.0 w.0 h.2.2), each_has (item_shape s) is h.0 h.2.1 w.1 h.2.3 (subst (EachIs h.0) (sym rest) h.3)), h.4)
    input_has s (record_input r is) t w h = (h.0, h.1, h.2, inputs_have (field_shapes (slice_get records r)) is _ w h.3, h.4)

    each_has : (s : ShapeTree) (is : InputTrees) (t : TypeTree) (ts : List TypeTree) → AreFormedInputs bases is → AllTyped records calls choice [] (item_texts records s is) ts → EachIs t ts → EachInputHas records is t
    each_has s no_inputs t ts w h same = tt
    each_has s (more_inputs i is) t ts w h same =
        let all = subst (EachIs t) h.4 same in
        (subst (InputHas records i) all.0 (input_has s i h.0 w.0 h.2), each_has s is t h.1 w.1 h.3 all.1)

    pub inputs_have : (ss : List ShapeTree) (is : InputTrees) (ts : List TypeTree) → AreFormedInputs bases is → AllTyped records calls choice [] (input_texts records ss is) ts → InputsHave records is ts
    inputs_have ss no_inputs ts w h = h
    inputs_have [] (more_inputs i is) ts w h = (h.0, h.1, input_has bool_shape i h.0 w.0 h.2, inputs_have [] is h.1 w.1 h.3, h.4)
    inputs_have (s ∷ ss) (more_inputs i is) ts w h = (h.0, h.1, input_has s i h.0 w.0 h.2, inputs_have ss is h.1 w.1 h.3, h.4)

-- ---- the literals of inputs are closed
any_unit_note : (n : UnitNote) → UnitNoteHas (λ u. Unit {0}) n
any_unit_note Hole = tt
any_unit_note (Written u) = tt

any_note : (n : NoteTree) → NoteHas (λ u. Unit {0}) n
any_note bool_note = tt
any_note (num_note n) = any_unit_note n
any_note (list_note n) = any_note n
any_note (record_note r ns) = λ k d l. any_unit_note (get_or ns k d)

list_closed : (n : NoteTree) (es : ExprTrees) → ExprsHave (λ u. Unit {0}) IsClosed es → LiteralsAreClosed (list_of n es)
list_closed n none h = any_note n
list_closed n (more e es) h = h

literal_closed : (bases : ℕ) (c : Frac) (n : UnitNote) → IsLiteral bases c n → UnitNoteHas IsClosed n
literal_closed bases c Hole h = tt
literal_closed bases c (Written u) h = h.0

module _ (bases : ℕ) (records : List RecordTree) where
  mutual
    input_closed : (s : ShapeTree) (i : InputTree) → IsFormedInput bases i → LiteralsAreClosed (input_text records s i)
    input_closed s (truth_input b) h = tt
    input_closed s (number_input c n) h = literal_closed bases c n h
    input_closed s (list_input is) h = list_closed (open_note records s) (item_texts records (item_shape s) is) (items_closed (item_shape s) is h)
    input_closed s (record_input r is) h = inputs_closed (field_shapes (slice_get records r)) is h

    items_closed : (s : ShapeTree) (is : InputTrees) → AreFormedInputs bases is → ExprsHave (λ u. Unit {0}) IsClosed (item_texts records s is)
    items_closed s no_inputs h = tt
    items_closed s (more_inputs i is) h = (input_closed s i h.0, items_closed s is h.1)

    pub inputs_closed : (ss : List ShapeTree) (is : InputTrees) → AreFormedInputs bases is → ExprsHave (λ u. Unit {0}) IsClosed (input_texts records ss is)
    inputs_closed ss no_inputs h = tt
    inputs_closed [] (more_inputs i is) h = (input_closed bool_shape i h.0, inputs_closed [] is h.1)
    inputs_closed (s ∷ ss) (more_inputs i is) h = (input_closed s i h.0, inputs_closed ss is h.1)
