-- What is known of a formed program, as the code of the equations asks for it, and what its equations say.
use Rattle.std.proofs.Common.{◌≡◌, ◌↔◌, ℕ, List, [], ◌∷◌, map, length, get_or, Some, Ok, Err, slice_get, sym, ◌∙◌, subst, arith}
use Rattle.std.specs.Prelude.{All, Result, MatchResult, IfOk, IfErr}
use Rattle.std.proofs.lemmas.List.{get_or_default}
use Rattle.std.proofs.lemmas.List.Elements.{All-nil, All-cons, All-head, All-tail}
use Rattle.um_units.specs.PowerMap.{PowerMap, nth}
use Rattle.um_units.specs.Variables.{VariablesBelow}
use Rattle.um_units.specs.Solutions.{IsJointSolution}
use Rattle.um_tree.specs.declared.note.Note.{Note}
use Rattle.um_tree.specs.declared.types.Ty.{Ty}
use Rattle.um_tree.specs.declared.program.FieldDecl.{FieldDecl}
use Rattle.um_tree.specs.declared.program.Record.{Record}
use Rattle.um_tree.specs.declared.program.Scheme.{Scheme}
use Rattle.um_tree.specs.declared.program.Function.{Function}
use Rattle.um_tree.specs.declared.program.Program.{Program}
use Rattle.um_tree.specs.TypeTree.{TypeTree, bool_type, num_type, list_type, record_type, type_tree, note_tree}
use Rattle.um_tree.specs.ExprTree.{expr_tree}
use Rattle.um_tree.specs.ProgramTree.{RecordTree, FieldTree, FunctionTree, ProgramTree, Signature, SchemeTree, field_tree, record_tree, function_tree, result_tree, program_tree, scheme_tree}
use Rattle.um_tree.specs.Typing.{put_signature, IsLooseTypingOf, IsRigidTypingOf, typings_below}
use Rattle.um_tree.specs.Laws.{TypeHas}
use Rattle.um_tree.specs.Formed.{IsTypeIn, IsFieldType, IsFormed}
use Rattle.um_tree.proofs.WrittenUnits.{formed_literals_are_closed}
use Rattle.um_equal_types.specs.declared.row.Row.{Row}
use Rattle.um_equal_types.specs.declared.row.Rows.{Rows}
use Rattle.um_rows.specs.declared.nodes.TypedRows.{TypedRows}
use Rattle.um_equal_types.specs.declared.row.RowStop.{RowStop}
use Rattle.um_equal_types.specs.declared.row.RowStop.TheVariants as stop
use Rattle.um_tree.proofs.Moved.{slice_get_moved}
use Rattle.um_equal_types.specs.Steps.{rows_of, units_of}
use Rattle.um_slots.specs.Slots.{slot_count}
use Rattle.um_rows.specs.Equations.{slot_equations}
use Rattle.um_rows.specs.Solutions.{slot_signature, HaveSchemes}
use Rattle.um_rows.specs.Closed.{AreClosedBefore, IsClosedRecord}
use Rattle.um_rows.specs.Answers.{AreEquations, StopsFor, AreRowsOf, RowsStopFor, HaveVariablesBelow, rows_signature, IsGivenBy, IsRigidlyGivenBy, TypingsAreSolutionsOf, described}
use Rattle.um_rows.specs.NodeTypes.{typed_nodes, function_nodes, AreNodesOf}
use Rattle.um_rows.proofs.Variables.{TypesBelow}
use Rattle.um_rows.proofs.VariableLists.{signature_below_from}
use Rattle.um_rows.proofs.NodeLaws.{mapped_found}
use Rattle.um_rows.proofs.Solved.{loose_typings_are_solutions, rigid_typings_are_solutions}

-- ---- schemes
all_from : (n : ℕ) (ts : List Ty) → TypesBelow n (map type_tree ts) → All (λ t. TypeHas (VariablesBelow n) (type_tree t)) ts
all_from n [] h = All-nil (λ t. TypeHas (VariablesBelow n) (type_tree t))
all_from n (t ∷ ts) h = All-cons (λ t. TypeHas (VariablesBelow n) (type_tree t)) t ts h.0 (all_from n ts h.1)

pub closed_before : (i : ℕ) (schemes : List Scheme) → HaveVariablesBelow i (map scheme_tree schemes) → AreClosedBefore i schemes
closed_before i schemes h j d l m =
    let s = get_or schemes j d in
    let found = mapped_found scheme_tree schemes j s m (get_or_default schemes j d s m) in
    let below = signature_below_from s.vars (scheme_tree s).signature (h j (scheme_tree s) l found) in
    record { params = all_from s.vars s.params.items.items below.0; result = below.1 }

-- ---- records
type_below : (bases n : ℕ) (records : List RecordTree) (t : TypeTree) → IsTypeIn bases n records t → TypeHas (VariablesBelow n) t
type_below bases n records bool_type h = tt
type_below bases n records (num_type u) h = h.1
type_below bases n records (list_type t) h = type_below bases n records t h
type_below bases n records (record_type r us) h = λ k d l. (h.1 k d l).1

fields_below : (p : ProgramTree) (r n : ℕ) (fs : List FieldDecl) → All (λ (f : FieldTree). IsFieldType p r n f.type) (map field_tree fs) → All (λ (f : FieldDecl). TypeHas (VariablesBelow n) (type_tree f.ty)) fs
fields_below p r n [] h = All-nil (λ (f : FieldDecl). TypeHas (VariablesBelow n) (type_tree f.ty))
fields_below p r n (f ∷ fs) h =
    All-cons (λ (f : FieldDecl). TypeHas (VariablesBelow n) (type_tree f.ty)) f fs
    (type_below (length p.bases) n p.records (type_tree f.ty) (All-head (λ (f : FieldTree). IsFieldType p r n f.type) (field_tree f) (map field_tree fs) h).0)
    (fields_below p r n fs (All-tail (λ (f : FieldTree). IsFieldType p r n f.type) (field_tree f) (map field_tree fs) h))

pub closed_records : (p : Program) → IsFormed (program_tree p) → All IsClosedRecord p.records.items.items
closed_records p formed r d l =
    let x = get_or p.records.items.items r d in
    let found = mapped_found record_tree p.records.items.items r x l (get_or_default p.records.items.items r d x l) in
    record { fields = fields_below (program_tree p) r x.units x.fields.items.items (formed.records r (record_tree x) found).fields }

-- ---- what the code of the equations answers of a function with these notes
abbrev pub IsAnswer : List Record → List SchemeTree → ℕ → Function → List Note → Result Rows RowStop → Type 0
IsAnswer records schemes i f params r =
    MatchResult r (AreEquations (map record_tree records) schemes i (described f.at f.recursive f.units (map note_tree params) (result_tree f.result) (expr_tree f.body)))
    (StopsFor (map record_tree records) schemes i (described f.at f.recursive f.units (map note_tree params) (result_tree f.result) (expr_tree f.body)))

abbrev pub IsTypedAnswer : List Record → List SchemeTree → ℕ → Function → List Note → Result TypedRows RowStop → Type 0
IsTypedAnswer records schemes i f params r =
    MatchResult r (λ (typed : TypedRows). AreEquations (map record_tree records) schemes i (described f.at f.recursive f.units (map note_tree params) (result_tree f.result) (expr_tree f.body)) typed.rows)
    (StopsFor (map record_tree records) schemes i (described f.at f.recursive f.units (map note_tree params) (result_tree f.result) (expr_tree f.body)))

abbrev pub HaveNodes : List Record → List SchemeTree → ℕ → Function → List Note → Result TypedRows RowStop → Type 0
HaveNodes records schemes i f params r =
    IfOk r (λ (typed : TypedRows). typed_nodes typed.nodes ≡ function_nodes (map record_tree records) schemes i (described f.at f.recursive f.units (map note_tree params) (result_tree f.result) (expr_tree f.body)))

-- ---- a function of the program
module _ (p : Program) (formed : IsFormed (program_tree p)) (schemes : List SchemeTree) (i : ℕ) (f : Function) (there : slice_get p.functions.items.items i ≡ Some f) where
  abbrev parts : FunctionTree
  parts = described f.at f.recursive f.units (map note_tree f.params.items.items) (result_tree f.result) (expr_tree f.body)

  found : slice_get (program_tree p).functions i ≡ Some (function_tree f)
  found = slice_get_moved function_tree p.functions.items.items i f there

  only : (g : FunctionTree) → slice_get (program_tree p).functions i ≡ Some g → function_tree f ≡ g
  only g e = let same : Some (function_tree f) ≡ Some g = sym found ∙ e in cc same

  pub rows_of_function : (r : Rows) → AreEquations (program_tree p).records schemes i parts r → AreRowsOf (program_tree p) schemes i r
  rows_of_function r h g e = subst (λ x. AreEquations (program_tree p).records schemes i x r) (only g e) (record { few = h.few; in_range = h.in_range; slots = h.slots; list = h.list; params = h.params; result = h.result })

  stops_with : (x : RowStop) → StopsFor (program_tree p).records schemes i parts x → StopsFor (program_tree p).records schemes i (function_tree f) x
  stops_with stop.Slots h = h
  stops_with (stop.Range at) h = h
  stops_with stop.NoMemory h = tt

  pub stops_of_function : (x : RowStop) → StopsFor (program_tree p).records schemes i parts x → RowsStopFor (program_tree p) schemes i x
  stops_of_function x h g e = subst (λ y. StopsFor (program_tree p).records schemes i y x) (only g e) (stops_with x h)

  -- ---- solutions of the definition's rows are those of the code's
  module _ (r : Rows) (h : AreEquations (program_tree p).records schemes i parts r) where
    abbrev IsJoint : ℕ → List Row → List PowerMap → Type 0
    IsJoint n rs units = IsJointSolution n (units_of rs) units

    given : (units : List PowerMap) → IsJoint (slot_count (program_tree p).records schemes i (function_tree f)) (rows_of (slot_equations (program_tree p).records schemes i (function_tree f)).steps) units → IsJoint r.slots r.list.items.items units
    given units w =
        subst (λ n. IsJoint n r.list.items.items units) (sym h.slots) (subst (λ rs. IsJoint (slot_count (program_tree p).records schemes i (function_tree f)) rs units) (sym h.list) w)

    found_joint : (units : List PowerMap) → IsJoint r.slots r.list.items.items units → IsJoint (slot_count (program_tree p).records schemes i (function_tree f)) (rows_of (slot_equations (program_tree p).records schemes i (function_tree f)).steps) units
    found_joint units w =
        subst (λ n. IsJoint n (rows_of (slot_equations (program_tree p).records schemes i (function_tree f)).steps) units) h.slots (subst (λ rs. IsJoint r.slots rs units) h.list w)

    same_types : (units : List PowerMap) → put_signature (nth units) (slot_signature (program_tree p).records schemes i (function_tree f)) ≡ put_signature (nth units) (rows_signature r)
    same_types units = λ j. put_signature (nth units) (record { params = sym h.params j; result = sym h.result j })

    abbrev AreRight : Signature → FunctionTree → Type 0
    AreRight s x =
        (IsLooseTypingOf (program_tree p).records (typings_below (program_tree p) i) i x s ↔ IsGivenBy r s)
        × (IsRigidTypingOf (length (program_tree p).bases) (program_tree p).records (typings_below (program_tree p) i) i x s ↔ IsRigidlyGivenBy (length (program_tree p).bases) x.units r s)

    own_typings : HaveSchemes (program_tree p) schemes i → (s : Signature) → AreRight s (function_tree f)
    own_typings have s =
        let closed = formed_literals_are_closed (program_tree p) i formed i (function_tree f) (omega arith) found in
        let loose = loose_typings_are_solutions (program_tree p) schemes i (function_tree f) closed have s in
        let rigid = rigid_typings_are_solutions (program_tree p) schemes i (function_tree f) closed have s in (
          (
            (λ t. let w = loose.0 t in (w.0, given w.0 w.1, w.2 ∙ same_types w.0)),
            (λ w. loose.1 (w.0, found_joint w.0 w.1, w.2 ∙ sym (same_types w.0))),
          ),
          (
            (λ t. let w = rigid.0 t in (w.0, given w.0 w.1, w.2, w.3 ∙ same_types w.0)),
            (λ w. rigid.1 (w.0, found_joint w.0 w.1, w.2, w.3 ∙ sym (same_types w.0))),
          ),
        )

    pub typings_of_function : TypingsAreSolutionsOf (program_tree p) schemes i r
    typings_of_function g e have s = subst (AreRight s) (only g e) (own_typings have s)

  -- ---- by the answer
  pub rows_ok : (r : Result Rows RowStop) → IsAnswer p.records.items.items schemes i f f.params.items.items r → IfOk r (AreRowsOf (program_tree p) schemes i)
  rows_ok (Ok r) h = rows_of_function r h
  rows_ok (Err e) h = tt

  pub rows_err : (r : Result Rows RowStop) → IsAnswer p.records.items.items schemes i f f.params.items.items r → IfErr r (RowsStopFor (program_tree p) schemes i)
  rows_err (Ok r) h = tt
  rows_err (Err e) h = stops_of_function e h

  pub rows_typings : (r : Result Rows RowStop) → IsAnswer p.records.items.items schemes i f f.params.items.items r → IfOk r (TypingsAreSolutionsOf (program_tree p) schemes i)
  rows_typings (Ok r) h = typings_of_function r h
  rows_typings (Err e) h = tt

  pub typed_ok : (r : Result TypedRows RowStop) → IsTypedAnswer p.records.items.items schemes i f f.params.items.items r → IfOk r (λ (typed : TypedRows). AreRowsOf (program_tree p) schemes i typed.rows)
  typed_ok (Ok typed) h = rows_of_function typed.rows h
  typed_ok (Err e) h = tt

  pub typed_err : (r : Result TypedRows RowStop) → IsTypedAnswer p.records.items.items schemes i f f.params.items.items r → IfErr r (RowsStopFor (program_tree p) schemes i)
  typed_err (Ok typed) h = tt
  typed_err (Err e) h = stops_of_function e h

  pub nodes_ok : (r : Result TypedRows RowStop) → HaveNodes p.records.items.items schemes i f f.params.items.items r → IfOk r (λ (typed : TypedRows). AreNodesOf (program_tree p) schemes i typed.nodes)
  nodes_ok (Ok typed) h = λ g e. subst (λ x. typed_nodes typed.nodes ≡ function_nodes (program_tree p).records schemes i x) (only g e) h
  nodes_ok (Err e) h = tt
