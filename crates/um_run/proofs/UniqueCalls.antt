-- Words have one answer, memory aside.
use Rattle.std.proofs.Common.{◌≡◌, ◌⊎◌, inl, inr, ℕ, suc, ◌≤◌, List, [], ◌∷◌, take, length, Some, None, slice_get, refl, sym, ap, subst, ◌∙◌, arith, Ok, Err}
use Rattle.std.specs.Prelude.{◌≢◌, Result}
use Rattle.std.proofs.lemmas.Bool.{cases_lt}
use Rattle.std.proofs.lemmas.List.{length-map}
use Rattle.std.proofs.lemmas.Option.{none-some, same_Some}
use Rattle.um_tree.specs.TypeTree.{ShapeTree}
use Rattle.um_tree.specs.ValueTree.{InputTree, inputs_in_order}
use Rattle.um_tree.specs.ProgramTree.{FunctionTree, ProgramTree, SchemeTree}
use Rattle.um_tree.specs.Shapes.{note_shape}
use Rattle.um_tree.specs.Formed.{IsFormed}
use Rattle.um_measures.specs.declared.abbreviation.Abbreviation.{Abbreviation}
use Rattle.um_measures.specs.Known.{Known, number_of, function_names, measure_unit}
use Rattle.um_measures.specs.ClosedUnits.{given}
use Rattle.um_rows.specs.Judgement.{Judgement, has_scheme, too_many_slots, passes_range, has_no_typing, not_general}
use Rattle.um_value.specs.declared.stop.InputStop.{InputStop}
use Rattle.um_value.specs.declared.stop.InputStop.TheVariants as input_stop
use Rattle.um_value.specs.ValueGrammar.{IsShapeIn}
use Rattle.um_value.specs.ValueNames.{name_fault, range_fault, input_of}
use Rattle.um_value.specs.InputRead.{IsInputOf}
use Rattle.um_value.specs.Laws.{AreSameInput}
use Rattle.um_value.proofs.UniqueInputs.{fault_or_value, value_or_none, one_value, inputs_are_unique}
use Rattle.um_infer.specs.CallJudgement.{judge_call}
use Rattle.um_run.specs.declared.call.CallRefusal.{CallRefusal}
use Rattle.um_run.specs.declared.call.CallRefusal.TheVariants as refusal
use Rattle.um_run.specs.Calls.{CallTree, IsInput, AreInputs, IsFirstRefused, parameter_shapes, IsNamed, IsCallTo, IsCallOf}
use Rattle.um_run.specs.Laws.{CallsAreUnique}
use Rattle.um_run.proofs.Inputs.{same_count, input_at}
use Rattle.um_run.proofs.OneByOne.{get_before}
use Rattle.um_run.proofs.CallParts.{parameter_in}

-- ---- one argument

same_stop : (e f : InputStop) → e ≢ input_stop.NoMemory → f ≢ input_stop.NoMemory → AreSameInput (Err e) (Err f) → e ≡ f
same_stop input_stop.NoMemory f ne mf h = absurd (ne refl)
same_stop e input_stop.NoMemory ne mf h = absurd (mf refl)
same_stop e f ne mf h = h

module _ (known : Known) (formed : IsFormed known.program) where
  module _ (s : ShapeTree) (text : List ℕ) (over : IsShapeIn known.program.records s) where
    one_input : (i j : InputTree) → IsInput known s text i → IsInput known s text j → i ≡ j
    one_input i j a b = a.4 ∙ ap (input_of (measure_unit known)) (one_value known s text formed over a.0 b.0 a.1 b.1) ∙ sym b.4

    -- an input isn't refused
    input_or_refused : (i : InputTree) (stop : InputStop) → IsInput known s text i → stop ≢ input_stop.NoMemory → IsInputOf known s text (Err stop) → ⊥
    input_or_refused i (input_stop.Text at) a cause b = fault_or_value known s text at a.0 b a.1
    input_or_refused i (input_stop.Shape at) a cause b = value_or_none known s text a.0 at a.1 b
    input_or_refused i (input_stop.Names at) a cause b =
        none-some at (sym a.2 ∙ ap (name_fault (measure_unit known)) (one_value known s text formed over a.0 b.0 a.1 b.1) ∙ b.2)
    input_or_refused i (input_stop.PowerRange at) a cause b =
        none-some at (sym a.3 ∙ ap (range_fault (measure_unit known)) (one_value known s text formed over a.0 b.0 a.1 b.1) ∙ b.3)
    input_or_refused i input_stop.NoMemory a cause b = cause refl

    one_stop : (e f : InputStop) → e ≢ input_stop.NoMemory → f ≢ input_stop.NoMemory → IsInputOf known s text (Err e) → IsInputOf known s text (Err f) → e ≡ f
    one_stop e f ne mf a b = same_stop e f ne mf (inputs_are_unique known s text (Err e) (Err f) formed over a b)

  -- ---- all arguments

  -- the shapes name records of the program
  abbrev AreShapesIn : List ShapeTree → Type 0
  AreShapesIn shapes = (k : ℕ) (s : ShapeTree) → slice_get shapes k ≡ Some s → IsShapeIn known.program.records s

  pub same_inputs : (shapes : List ShapeTree) (texts : List (List ℕ)) (is js : List InputTree) → AreShapesIn shapes → AreInputs known shapes texts is → AreInputs known shapes texts js → is ≡ js
  same_inputs [] [] [] [] over a b = refl
  same_inputs [] [] [] (j ∷ js) over a b = absurd b
  same_inputs [] [] (i ∷ is) js over a b = absurd a
  same_inputs [] (t ∷ texts) is js over a b = absurd a
  same_inputs (s ∷ shapes) [] is js over a b = absurd a
  same_inputs (s ∷ shapes) (t ∷ texts) [] js over a b = absurd a
  same_inputs (s ∷ shapes) (t ∷ texts) (i ∷ is) [] over a b = absurd b
  same_inputs (s ∷ shapes) (t ∷ texts) (i ∷ is) (j ∷ js) over a b =
      ap (λ (x : InputTree). x ∷ is) (one_input s t (over 0 s refl) i j a.0 b.0)
      ∙ ap (λ (xs : List InputTree). j ∷ xs) (same_inputs shapes texts is js (λ k r e. over (suc k) r e) a.1 b.1)

  module _ (shapes : List ShapeTree) (texts : List (List ℕ)) (over : AreShapesIn shapes) where
    pub inputs_or_refused : (inputs : List InputTree) (k : ℕ) (stop : InputStop) → AreInputs known shapes texts inputs → IsFirstRefused known shapes texts k stop → ⊥
    inputs_or_refused inputs k stop read r =
        let i = input_at known shapes texts inputs k r.shape r.text read r.has_shape r.has_text in
        input_or_refused r.shape r.text (over k r.shape r.has_shape) i.0 stop i.1 r.cause r.refused

    -- no argument before the first that is refused is refused
    none_before : (j k : ℕ) (e f : InputStop) → IsFirstRefused known shapes texts j e → IsFirstRefused known shapes texts k f → j ≤ k
    none_before j k e f a b =
        elim (cases_lt k j) [
          | inl lt ↦
              let i =
              input_at known (take j shapes) (take j texts) a.before k b.shape b.text a.read (get_before shapes j k lt ∙ b.has_shape) (get_before texts j k lt ∙ b.has_text) in
              absurd (input_or_refused b.shape b.text (over k b.shape b.has_shape) i.0 f i.1 b.cause b.refused)
          | inr le ↦ le
        ]

    pub same_refused : (j k : ℕ) (e f : InputStop) → IsFirstRefused known shapes texts j e → IsFirstRefused known shapes texts k f → (j ≡ k) × (e ≡ f)
    same_refused j k e f a b =
        let low = none_before j k e f a b in
        let high = none_before k j f e b a in
        let same : j ≡ k = omega (arith, low, high) in
        (same, one_refusal (subst (λ (n : ℕ). IsFirstRefused known shapes texts n e) same a))
      where
        one_refusal : IsFirstRefused known shapes texts k e → e ≡ f
        one_refusal c =
            let own : c.shape ≡ b.shape = same_Some c.shape b.shape (sym c.has_shape ∙ b.has_shape) in
            let words : c.text ≡ b.text = same_Some c.text b.text (sym c.has_text ∙ b.has_text) in
            one_stop b.shape b.text (over k b.shape b.has_shape) e f c.cause b.cause
            (subst (λ (t : List ℕ). IsInputOf known b.shape t (Err e)) words (subst (λ (s : ShapeTree). IsInputOf known s c.text (Err e)) own c.refused)) b.refused

-- ---- the call

-- both are one answer, or memory was wanting
abbrev AreOne : Result CallTree CallRefusal → Result CallTree CallRefusal → Type 0
AreOne r q = (r ≡ q) ⊎ ((r ≡ Err refusal.NoMemory) ⊎ (q ≡ Err refusal.NoMemory))

-- what a judgement is answered
abbrev judged_answer : ℕ → List InputTree → Judgement → Result CallTree CallRefusal
judged_answer k inputs (has_scheme s) = Ok (record { function = k; inputs = inputs; type = s.signature.result })
judged_answer k inputs too_many_slots = Err refusal.Slots
judged_answer k inputs (passes_range at) = Err refusal.PowerRange
judged_answer k inputs (has_no_typing row at) = Err refusal.Units
judged_answer k inputs (not_general row at) = Err refusal.NoMemory

module _ (p : ProgramTree) (shorts : List Abbreviation) (schemes : List SchemeTree) (formed : IsFormed p) (texts : List (List ℕ)) where
  module _ (k : ℕ) (f : FunctionTree) (declared : slice_get p.functions k ≡ Some f) where
    -- what is answered of a function: want of memory, another count, an argument's refusal, or what it is judged
    abbrev HasOtherCount : Result CallTree CallRefusal → Type 0
    HasOtherCount r = (r ≡ Err refusal.WrongCount) × (length texts ≢ length f.params)

    abbrev HasNoArgument : Result CallTree CallRefusal → Type 0
    HasNoArgument r =
        (index : ℕ) × (stop : InputStop) × (r ≡ Err (refusal.Argument index stop)) × (length texts ≡ length f.params) × IsFirstRefused (given p shorts) (parameter_shapes f) texts index stop

    abbrev IsJudgedSo : Result CallTree CallRefusal → Type 0
    IsJudgedSo r =
        (inputs : List InputTree) × AreInputs (given p shorts) (parameter_shapes f) texts inputs × (r ≡ judged_answer k inputs (judge_call p schemes k f (inputs_in_order inputs)))

    abbrev Told : Result CallTree CallRefusal → Type 0
    Told r = (r ≡ Err refusal.NoMemory) ⊎ (HasOtherCount r ⊎ (HasNoArgument r ⊎ IsJudgedSo r))

    told : (r : Result CallTree CallRefusal) → IsCallTo p shorts schemes k f texts r → Told r
    told (Ok call) (inputs, read, (s, e, same)) = inr (inr (inr (inputs, read, ap Ok same ∙ sym (ap (judged_answer k inputs) e))))
    told (Err refusal.NoFunction) h = absurd h
    told (Err refusal.WrongCount) h = inr (inl (refl, h))
    told (Err (refusal.Argument index stop)) h = inr (inr (inl (index, stop, refl, h.0, h.1)))
    told (Err refusal.Units) (inputs, read, (row, at, e)) = inr (inr (inr (inputs, read, sym (ap (judged_answer k inputs) e))))
    told (Err refusal.PowerRange) (inputs, read, (at, e)) = inr (inr (inr (inputs, read, sym (ap (judged_answer k inputs) e))))
    told (Err refusal.Slots) (inputs, read, e) = inr (inr (inr (inputs, read, sym (ap (judged_answer k inputs) e))))
    told (Err refusal.NoMemory) h = inl refl

    over : (i : ℕ) (s : ShapeTree) → slice_get (parameter_shapes f) i ≡ Some s → IsShapeIn p.records s
    over i s e = parameter_in p formed k f declared i s e

    counted : (inputs : List InputTree) → AreInputs (given p shorts) (parameter_shapes f) texts inputs → length texts ≡ length f.params
    counted inputs read = same_count (given p shorts) (parameter_shapes f) texts inputs read ∙ length-map f.params note_shape

    refused_or_judged : (r q : Result CallTree CallRefusal) → HasNoArgument r → IsJudgedSo q → ⊥
    refused_or_judged r q a b = inputs_or_refused (given p shorts) formed (parameter_shapes f) texts over b.0 a.0 a.1 b.1 a.4

    both_refused : (r q : Result CallTree CallRefusal) → HasNoArgument r → HasNoArgument q → r ≡ q
    both_refused r q a b =
        let same = same_refused (given p shorts) formed (parameter_shapes f) texts over a.0 b.0 a.1 b.1 a.4 b.4 in
        a.2 ∙ ap (λ (n : ℕ). Err (refusal.Argument n a.1)) same.0 ∙ ap (λ (e : InputStop). Err (refusal.Argument b.0 e)) same.1 ∙ sym b.2

    both_judged : (r q : Result CallTree CallRefusal) → IsJudgedSo r → IsJudgedSo q → r ≡ q
    both_judged r q a b =
        let same = same_inputs (given p shorts) formed (parameter_shapes f) texts a.0 b.0 over a.1 b.1 in
        a.2 ∙ ap (λ (is : List InputTree). judged_answer k is (judge_call p schemes k f (inputs_in_order is))) same ∙ sym b.2

    one_told : (r q : Result CallTree CallRefusal) → Told r → Told q → AreOne r q
    one_told r q (inl a) b = inr (inl a)
    one_told r q (inr a) (inl b) = inr (inr b)
    one_told r q (inr (inl a)) (inr (inl b)) = inl (a.0 ∙ sym b.0)
    one_told r q (inr (inl a)) (inr (inr (inl b))) = absurd (a.1 b.3)
    one_told r q (inr (inl a)) (inr (inr (inr b))) = absurd (a.1 (counted b.0 b.1))
    one_told r q (inr (inr (inl a))) (inr (inl b)) = absurd (b.1 a.3)
    one_told r q (inr (inr (inl a))) (inr (inr (inl b))) = inl (both_refused r q a b)
    one_told r q (inr (inr (inl a))) (inr (inr (inr b))) = absurd (refused_or_judged r q a b)
    one_told r q (inr (inr (inr a))) (inr (inl b)) = absurd (b.1 (counted a.0 a.1))
    one_told r q (inr (inr (inr a))) (inr (inr (inl b))) = absurd (refused_or_judged q r b a)
    one_told r q (inr (inr (inr a))) (inr (inr (inr b))) = inl (both_judged r q a b)

  module _ (name : List ℕ) where
    -- want of memory, no function of the name, or what is answered of one
    abbrev HasNoFunction : Result CallTree CallRefusal → Type 0
    HasNoFunction r = (r ≡ Err refusal.NoFunction) × (number_of (function_names p.functions) name ≡ None)

    abbrev IsOfFunction : Result CallTree CallRefusal → Type 0
    IsOfFunction r = (k : ℕ) × (f : FunctionTree) × IsNamed p name k f × IsCallTo p shorts schemes k f texts r

    abbrev Said : Result CallTree CallRefusal → Type 0
    Said r = (r ≡ Err refusal.NoMemory) ⊎ (HasNoFunction r ⊎ IsOfFunction r)

    said : (r : Result CallTree CallRefusal) → IsCallOf p shorts schemes name texts r → Said r
    said (Ok call) h = inr (inr h)
    said (Err refusal.NoFunction) h = inr (inl (refl, h))
    said (Err refusal.WrongCount) h = inr (inr h)
    said (Err (refusal.Argument index stop)) h = inr (inr h)
    said (Err refusal.Units) h = inr (inr h)
    said (Err refusal.PowerRange) h = inr (inr h)
    said (Err refusal.Slots) h = inr (inr h)
    said (Err refusal.NoMemory) h = inl refl

    one_function : (r q : Result CallTree CallRefusal) → IsOfFunction r → IsOfFunction q → AreOne r q
    one_function r q (k, f, a, here) (j, g, b, there) =
        let number : k ≡ j = same_Some k j (sym a.number ∙ b.number) in
        let own : f ≡ g = same_Some f g (sym a.declared ∙ ap (slice_get p.functions) number ∙ b.declared) in
        one_told j g b.declared r q
        (told j g b.declared r (subst (λ (h : FunctionTree). IsCallTo p shorts schemes j h texts r) own (subst (λ (n : ℕ). IsCallTo p shorts schemes n f texts r) number here)))
        (told j g b.declared q there)

    one_said : (r q : Result CallTree CallRefusal) → Said r → Said q → AreOne r q
    one_said r q (inl a) b = inr (inl a)
    one_said r q (inr a) (inl b) = inr (inr b)
    one_said r q (inr (inl a)) (inr (inl b)) = inl (a.0 ∙ sym b.0)
    one_said r q (inr (inl a)) (inr (inr b)) = absurd (none-some b.0 (sym a.1 ∙ b.2.number))
    one_said r q (inr (inr a)) (inr (inl b)) = absurd (none-some a.0 (sym b.1 ∙ a.2.number))
    one_said r q (inr (inr a)) (inr (inr b)) = one_function r q a b

pub calls_are_unique : CallsAreUnique
calls_are_unique p shorts schemes name texts formed r q a b =
    one_said p shorts schemes formed texts name r q (said p shorts schemes formed texts name r a) (said p shorts schemes formed texts name q b)
