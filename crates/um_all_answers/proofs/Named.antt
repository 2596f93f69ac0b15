-- Words name a call of a function, or are refused.
use Rattle.std.proofs.Common.{◌≡◌, ◌≢◌, inl, inr, ℕ, nat_eq, All, true, false, List, [], ◌∷◌, length, map, Option, Some, None, refl, sym, ◌∙◌, arith}
use Rattle.std.specs.Prelude.{Result, Ok, Err}
use Rattle.std.proofs.lemmas.Bool.Decides.{nat_tests}
use Rattle.std.proofs.lemmas.List.{length-map}
use Rattle.std.proofs.lemmas.List.Elements.{All-head, All-tail}
use Rattle.um_elim.proofs.Cases.{on_test}
use Rattle.um_syntax.specs.Laws.{EachTextIsAnswered}
use Rattle.um_tree.specs.TypeTree.{NoteTree, bool_note, num_note, list_note, record_note}
use Rattle.um_tree.specs.ValueTree.{InputTree, inputs_in_order}
use Rattle.um_tree.specs.ProgramTree.{RecordTree, FunctionTree, ProgramTree, SchemeTree}
use Rattle.um_tree.specs.Shapes.{note_shape}
use Rattle.um_tree.specs.Formed.{IsFormed, IsNoteTreeIn, IsFormedNote}
use Rattle.um_measures.specs.declared.abbreviation.Abbreviation.{Abbreviation}
use Rattle.um_measures.specs.Known.{number_of, function_names}
use Rattle.um_measures.specs.ClosedUnits.{given}
use Rattle.um_measures.proofs.NameLists.{number_of-below}
use Rattle.um_value.specs.ValueGrammar.{IsShapeIn}
use Rattle.um_rows.specs.Judgement.{Judgement, has_scheme, too_many_slots, passes_range, has_no_typing, not_general}
use Rattle.um_infer.specs.CallJudgement.{judge_call}
use Rattle.um_infer.proofs.CallTypes.{call_is_general}
use Rattle.um_infer.proofs.SchemeLists.{item_at}
use Rattle.um_run.specs.declared.call.CallRefusal.{CallRefusal}
use Rattle.um_run.specs.declared.call.CallRefusal.TheVariants as refusal
use Rattle.um_run.specs.Calls.{CallTree, AreInputs, parameter_shapes, IsNamed, IsCallOf}
use Rattle.um_all_answers.proofs.Arguments.{AreShapesIn, InputsOrRefusal, inputs_or_refusal}

-- ---- the shapes of parameters name records of the program

shape_in : (bases vars : ℕ) (records : List RecordTree) (n : NoteTree) → IsNoteTreeIn bases vars records n → IsShapeIn records (note_shape n)
shape_in bases vars records bool_note h = tt
shape_in bases vars records (num_note n) h = tt
shape_in bases vars records (list_note n) h = shape_in bases vars records n h
shape_in bases vars records (record_note r ns) h = (h.0.0, h.0.1)

pub same_count : (n m : ℕ) → nat_eq n m ≡ true → n ≡ m
same_count n m t = grind (arith, nat_tests)

pub other_count : (n m : ℕ) → nat_eq n m ≡ false → n ≢ m
other_count n m t e = grind (arith, nat_tests)

module _ (each : EachTextIsAnswered) (p : ProgramTree) (shorts : List Abbreviation) (schemes : List SchemeTree) (formed : IsFormed p) where
  shapes_in : (f : FunctionTree) (notes : List NoteTree) → All (IsFormedNote p f) notes → AreShapesIn each (given p shorts) formed (map note_shape notes)
  shapes_in f [] all = tt
  shapes_in f (n ∷ notes) all =
      let note = All-head (IsFormedNote p f) n notes all in
      (shape_in (length p.bases) f.named p.records n note.0, shapes_in f notes (All-tail (IsFormedNote p f) n notes all))

  module _ (name : List ℕ) (texts : List (List ℕ)) where
    -- some answer besides want of memory
    abbrev pub CallOrRefusal : Type 0
    CallOrRefusal = (r : Result CallTree CallRefusal) × (r ≢ Err refusal.NoMemory) × IsCallOf p shorts schemes name texts r

    module _ (k : ℕ) (f : FunctionTree) (named : IsNamed p name k f) where
      judged : (inputs : List InputTree) → AreInputs (given p shorts) (parameter_shapes f) texts inputs → (j : Judgement) → judge_call p schemes k f (inputs_in_order inputs) ≡ j → CallOrRefusal
      judged inputs are (has_scheme s) e = (Ok (record { function = k; inputs = inputs; type = s.signature.result }), (λ h. cc h), (k, f, named, (inputs, are, (s, e, refl))))
      judged inputs are too_many_slots e = (Err refusal.Slots, (λ h. cc h), (k, f, named, (inputs, are, e)))
      judged inputs are (passes_range at) e = (Err refusal.PowerRange, (λ h. cc h), (k, f, named, (inputs, are, (at, e))))
      judged inputs are (has_no_typing row at) e = (Err refusal.Units, (λ h. cc h), (k, f, named, (inputs, are, (row, at, e))))
      judged inputs are (not_general row at) e = absurd (call_is_general p schemes k f (inputs_in_order inputs) row at e)

      with_inputs : length texts ≡ length f.params → InputsOrRefusal each (given p shorts) formed (parameter_shapes f) texts → CallOrRefusal
      with_inputs many (inl (inputs, are)) = judged inputs are (judge_call p schemes k f (inputs_in_order inputs)) refl
      with_inputs many (inr (index, why, first)) = (Err (refusal.Argument index why), (λ h. cc h), (k, f, named, (many, first)))

      of_function : CallOrRefusal
      of_function =
          on_test (nat_eq (length texts) (length f.params))
          (λ t.
          let many = same_count (length texts) (length f.params) t in
          with_inputs many
          (inputs_or_refusal each (given p shorts) formed (parameter_shapes f) (shapes_in f f.params (formed.functions k f named.declared).params) texts (many ∙ sym (length-map f.params note_shape))))
          (λ t. (Err refusal.WrongCount, (λ h. cc h), (k, f, named, other_count (length texts) (length f.params) t)))

    by_name : (o : Option ℕ) → number_of (function_names p.functions) name ≡ o → CallOrRefusal
    by_name None e = (Err refusal.NoFunction, (λ h. cc h), e)
    by_name (Some k) e =
        let below = number_of-below name (function_names p.functions) k e in
        let (f, declared) = item_at p.functions k (omega (arith, below, length-map p.functions (λ (g : FunctionTree). g.name))) in
        of_function k f (record { number = e; declared = declared })

    pub call_or_refusal : CallOrRefusal
    call_or_refusal = by_name (number_of (function_names p.functions) name) refl
