-- What the parts of `read_call` come to.
use Rattle.std.proofs.Common.{◌≡◌, ℕ, ◌<◌, All, List, length, map, get_or, Some, slice_get, sym, ap, subst, ◌∙◌, Ok, Err, rules, arith}
use Rattle.std.specs.Prelude.{◌≢◌, IfOk, Result}
use Rattle.std.proofs.lemmas.List.{length-map}
use Rattle.std.proofs.lemmas.List.Elements.{All-map}
use Rattle.std.proofs.lemmas.Option.{same_Some, slice_get_within}
use Rattle.um_tree.specs.declared.types.Ty.{Ty}
use Rattle.um_tree.specs.declared.value.Input.{the_lemmas}
use Rattle.um_tree.specs.declared.value.Inputs.{Inputs}
use Rattle.um_tree.specs.declared.types.Shape.{Shape}
use Rattle.um_tree.specs.TypeTree.{TypeTree, ShapeTree, NoteTree, shape_tree}
use Rattle.um_tree.specs.ValueTree.{InputTree, InputTrees, input_tree, input_trees, inputs_in_order}
use Rattle.um_tree.specs.ProgramTree.{RecordTree, FunctionTree, ProgramTree, SchemeTree}
use Rattle.um_tree.specs.Shapes.{note_shape}
use Rattle.um_tree.specs.Formed.{IsFormed, IsFormedNote, IsNoteTreeIn}
use Rattle.um_tree.specs.TypeTree.{bool_note, num_note, list_note, record_note}
use Rattle.um_tree.proofs.Moved.{All_at, slice_get_moved}
use Rattle.um_measures.specs.declared.abbreviation.Abbreviation.{Abbreviation}
use Rattle.um_measures.specs.Known.{number_of, function_names}
use Rattle.um_measures.proofs.NameLists.{number_of-below}
use Rattle.um_rows.specs.Judgement.{Judgement}
use Rattle.um_value.specs.ValueGrammar.{IsShapeIn}
use Rattle.um_infer.specs.declared.stop.CallStop.{CallStop}
use Rattle.um_infer.specs.declared.stop.CallStop.TheVariants as call_stop
use Rattle.um_infer.specs.Answers.{CallAnswers}
use Rattle.um_infer.specs.CallJudgement.{judge_call}
use Rattle.um_infer.proofs.SchemeLists.{item_at}
use Rattle.um_run.specs.declared.call.Call.{Call}
use Rattle.um_run.specs.declared.call.CallRefusal.{CallRefusal}
use Rattle.um_run.specs.declared.call.CallRefusal.TheVariants as refusal
use Rattle.um_run.specs.Calls.{CallTree, parameter_shapes, IsNamed, IsJudgedCall, IsCallTo, IsCallOf, call_tree, call_answer}
use Rattle.um_run.specs.Reading.{call_refusal}
use Rattle.um_run.specs.Laws.{AreKnown, IsTypedCall}
use Rattle.um_run.proofs.CallLaws.{calls_are_typed}

-- ---- parameters

shape_in : (bases vars : ℕ) (records : List RecordTree) (n : NoteTree) → IsNoteTreeIn bases vars records n → IsShapeIn records (note_shape n)
shape_in bases vars records bool_note h = tt
shape_in bases vars records (num_note n) h = tt
shape_in bases vars records (list_note n) h = shape_in bases vars records n h
shape_in bases vars records (record_note r ns) h = (h.0.0, h.0.1)

-- the records that a parameter's shape names are in the program
pub parameter_in : (p : ProgramTree) → IsFormed p → (k : ℕ) (f : FunctionTree) → slice_get p.functions k ≡ Some f → (i : ℕ) (s : ShapeTree) → slice_get (parameter_shapes f) i ≡ Some s → IsShapeIn p.records s
parameter_in p formed k f declared i s is =
    let n = item_at f.params i (parameter_within f i s is) in
    let note : IsFormedNote p f n.0 = All_at (IsFormedNote p f) f.params i n.0 n.1 (formed.functions k f declared).params in
    let same : note_shape n.0 ≡ s = same_Some (note_shape n.0) s (sym (slice_get_moved note_shape f.params i n.0 n.1) ∙ is) in
    subst (IsShapeIn p.records) same (shape_in (length p.bases) f.named p.records n.0 note.0)
  where
    parameter_within : (g : FunctionTree) (j : ℕ) (t : ShapeTree) → slice_get (parameter_shapes g) j ≡ Some t → j < length g.params
    parameter_within g j t e = subst (λ (n : ℕ). j < n) (length-map g.params note_shape) (slice_get_within (parameter_shapes g) j t e)

-- and so are those that all its parameters' shapes name
pub params_in : (p : ProgramTree) → IsFormed p → (k : ℕ) (f : FunctionTree) → slice_get p.functions k ≡ Some f → All (IsShapeIn p.records) (parameter_shapes f)
params_in p formed k f declared =
    All-map (IsShapeIn p.records) note_shape f.params (λ i d below. shape_in (length p.bases) f.named p.records (get_or f.params i d) ((formed.functions k f declared).params i d below).0)

-- a count that is none of the shapes is none of the parameters
pub wrong_count : (f : FunctionTree) (n : ℕ) (shapes : List Shape) → n ≢ length shapes → map shape_tree shapes ≡ parameter_shapes f → n ≢ length f.params
wrong_count f n shapes other same e =
    let shown = length-map shapes shape_tree in
    let own = length-map f.params note_shape in
    let lengths = ap (λ (ss : List ShapeTree). length ss) same in
    other (omega (arith, shown, own, lengths, e))

-- ---- the call

-- the function of a name
pub named_below : (p : ProgramTree) (name : List ℕ) (k : ℕ) → Some k ≡ number_of (function_names p.functions) name → k < length p.functions
named_below p name k e =
    let below = number_of-below name (function_names p.functions) k (sym e) in
    let shown = length-map p.functions (λ (f : FunctionTree). f.name) in
    omega (arith, below, shown)

pub named_function : (p : ProgramTree) (name : List ℕ) (k : ℕ) → Some k ≡ number_of (function_names p.functions) name → (f : FunctionTree) × IsNamed p name k f
named_function p name k e = let w = item_at p.functions k (named_below p name k e) in (w.0, record { number = sym e; declared = w.1 })

pub in_order : (inputs : Inputs) → input_trees inputs ≡ inputs_in_order (map input_tree inputs.items.items)
in_order inputs = search (rules, the_lemmas)

-- the answer of `type_call`
pub call_has_type : (p : ProgramTree) (schemes : List SchemeTree) (k : ℕ) (f : FunctionTree) (inputs : Inputs) (ty : Ty) → CallAnswers (judge_call p schemes k f (input_trees inputs)) (Ok ty)
    → IsJudgedCall (judge_call p schemes k f (inputs_in_order (map input_tree inputs.items.items))) k (map input_tree inputs.items.items) (Ok (call_tree (record { function = k; inputs = inputs; ty = ty })))
call_has_type p schemes k f inputs ty h =
    (h.0, sym (ap (judge_call p schemes k f) (in_order inputs)) ∙ h.1, ap (λ (t : TypeTree). (let call : CallTree = record { function = k; inputs = map input_tree inputs.items.items; type = t } in call)) h.2)

call_stops : (j : Judgement) (k : ℕ) (inputs : List InputTree) (stop : CallStop) → CallAnswers j (Err stop) → IsJudgedCall j k inputs (Err (call_refusal stop))
call_stops j k inputs call_stop.Units h = h
call_stops j k inputs call_stop.PowerRange h = h
call_stops j k inputs call_stop.Slots h = h
call_stops j k inputs call_stop.NoMemory h = tt

pub call_has_no_type : (p : ProgramTree) (schemes : List SchemeTree) (k : ℕ) (f : FunctionTree) (inputs : Inputs) (stop : CallStop) → CallAnswers (judge_call p schemes k f (input_trees inputs)) (Err stop)
    → IsJudgedCall (judge_call p schemes k f (inputs_in_order (map input_tree inputs.items.items))) k (map input_tree inputs.items.items) (Err (call_refusal stop))
call_has_no_type p schemes k f inputs stop h =
    call_stops (judge_call p schemes k f (inputs_in_order (map input_tree inputs.items.items))) k (map input_tree inputs.items.items) stop
    (subst (λ (is : InputTrees). CallAnswers (judge_call p schemes k f is) (Err stop)) (in_order inputs) h)

module _ (p : ProgramTree) (shorts : List Abbreviation) (schemes : List SchemeTree) (texts : List (List ℕ)) where
  module _ (k : ℕ) (f : FunctionTree) where
    -- once the function is found
    pub behind_name : (name : List ℕ) → IsNamed p name k f → (r : Result CallTree CallRefusal) → IsCallTo p shorts schemes k f texts r → IsCallOf p shorts schemes name texts r
    behind_name name named (Ok call) h = (k, f, named, h)
    behind_name name named (Err refusal.NoFunction) h = absurd h
    behind_name name named (Err refusal.WrongCount) h = (k, f, named, h)
    behind_name name named (Err (refusal.Argument index stop)) h = (k, f, named, h)
    behind_name name named (Err refusal.Units) h = (k, f, named, h)
    behind_name name named (Err refusal.PowerRange) h = (k, f, named, h)
    behind_name name named (Err refusal.Slots) h = (k, f, named, h)
    behind_name name named (Err refusal.NoMemory) h = tt

  pub answer_typed : AreKnown p shorts schemes → (name : List ℕ) (r : Result Call CallRefusal) → IsCallOf p shorts schemes name texts (call_answer r) → IfOk r (λ call. IsTypedCall p (call_tree call))
  answer_typed known name (Ok call) h = calls_are_typed p shorts schemes name texts known (call_tree call) h
  answer_typed known name (Err stop) h = tt
