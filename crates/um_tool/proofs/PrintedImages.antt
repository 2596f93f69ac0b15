-- What `image` printed says of the program that the bytes spell.
use Rattle.std.proofs.Common.{◌≡◌, ℕ, List, [], ◌∷◌, map, codes, slice_get, Option, None, Some, Ok, refl, sym, ap, subst, ◌∙◌}
use Rattle.std.specs.Option.{option_map}
use Rattle.std.proofs.lemmas.Option.{slice_get-map}
use Rattle.um_tree.specs.TypeTree.{TypeTree, bool_type, num_type, list_type, record_type, ShapeTree, list_shape}
use Rattle.um_tree.specs.ValueTree.{ValueTree, ValueTrees, truth_value, number_value, list_value, record_value, no_values, more_values, values_in_order}
use Rattle.um_tree.specs.ProgramTree.{FieldTree, RecordTree, ProgramTree}
use Rattle.um_tree.specs.Meaning.{outcome_of_call}
use Rattle.um_tree.specs.Typing.{field_types}
use Rattle.um_tree.specs.Shapes.{type_shape}
use Rattle.um_tree.specs.InputType.{ValueHas, EachValueHas, ValuesHave}
use Rattle.um_machine.specs.declared.code.Code.{Code}
use Rattle.um_machine.specs.Machine.{EndsWith, starts}
use Rattle.um_gen.specs.ProgramCode.{program_code}
use Rattle.um_gen.proofs.EndsAsMeant.{code_ends_as_meant}
use Rattle.um_verify.specs.ImageTree.{ImageTree}
use Rattle.um_image.specs.ProgramImage.{plain_type, plain_field, plain_record, IsImageOf}
use Rattle.um_image.specs.Laws.{GeneratedIsVerified}
use Rattle.um_run.specs.ImageCalls.{ImageCallTree, image_call_values, IsImageCallOf}
use Rattle.um_run.specs.ImageLaws.{IsShapedCall, ImageCallsAreShaped}
use Rattle.um_orders.specs.declared.order.Order.TheVariants.{Image}
use Rattle.um_orders.specs.Orders.{order_of}
use Rattle.um_reports.specs.declared.status.Status.{Status}
use Rattle.um_reports.specs.declared.status.Status.TheVariants.{Done}
use Rattle.um_front.specs.Stages.{CheckedTree, IsCheckedText}
use Rattle.um_front.proofs.CheckedTexts.{shaped_is_formed}
use Rattle.um_front.proofs.StageLaws.{checked_reached}
use Rattle.um_answers.specs.ImageAnswer.{IsImageReply, ImageAnswer}
use Rattle.um_answers.proofs.ShortNames.{short_names}
use Rattle.um_call_answers.specs.ExecAnswer.{ImageRunAnswer, ExecAnswer}
use Rattle.um_call_answers.specs.Laws.{VerifiedImagesRun}
use Rattle.um_call_answers.proofs.ExecAnswers.{ends_once}
use Rattle.um_tool.specs.Asked.{called}
use Rattle.um_tool.specs.Answer.{Answer}
use Rattle.um_tool.specs.ImageLaws.{CallEndsAsMeant, IsMeantImageCall, IsImageOfText, PrintedImagesAreVerified, PrintedImagesRunAsMeant}

-- ---- values of records without units

plain_shape : (t : TypeTree) → type_shape (plain_type t) ≡ type_shape t
plain_shape bool_type = refl
plain_shape (num_type u) = refl
plain_shape (list_type t) = ap list_shape (plain_shape t)
plain_shape (record_type r us) = refl

plain_fields : (fs : List FieldTree) → map type_shape (map (λ f. f.type) (map plain_field fs)) ≡ map type_shape (map (λ f. f.type) fs)
plain_fields [] = refl
plain_fields (f ∷ fs) = (λ i. plain_shape f.type i ∷ plain_fields fs i)

module _ (records : List RecordTree) where
  abbrev plain : List RecordTree
  plain = map plain_record records

  -- the record without units is one of the program's
  original : (r : ℕ) (d : RecordTree) → slice_get plain r ≡ Some d → (x : RecordTree) × (slice_get records r ≡ Some x) × (plain_record x ≡ d)
  original r d declared = by (slice_get records r) refl (sym (slice_get-map plain_record records r) ∙ declared) where
    by : (o : Option RecordTree) → slice_get records r ≡ o → option_map plain_record o ≡ Some d → (x : RecordTree) × (slice_get records r ≡ Some x) × (plain_record x ≡ d)
    by None is e = absurd (cc e)
    by (Some x) is e = (x, is, cc e)

  mutual
    value_over : (v : ValueTree) (s : ShapeTree) → ValueHas plain v s → ValueHas records v s
    value_over (truth_value b) s h = h
    value_over (number_value c) s h = h
    value_over (list_value vs) s (t, each, e) = (t, each_over vs t each, e)
    value_over (record_value r vs) s (d, declared, have, e) =
        let x = original r d declared in
        let shapes = ap (λ (y : RecordTree). map type_shape (field_types y)) (sym x.2) ∙ plain_fields x.0.fields in
        (x.0, x.1, values_over vs (map type_shape (field_types x.0)) (subst (ValuesHave plain vs) shapes have), e)

    each_over : (vs : ValueTrees) (s : ShapeTree) → EachValueHas plain vs s → EachValueHas records vs s
    each_over no_values s h = tt
    each_over (more_values v vs) s (first, rest) = (value_over v s first, each_over vs s rest)

    values_over : (vs : ValueTrees) (ss : List ShapeTree) → ValuesHave plain vs ss → ValuesHave records vs ss
    values_over no_values ss h = h
    values_over (more_values v vs) ss (t, rest, first, others, e) = (t, rest, value_over v t first, values_over vs rest others, e)

-- ---- calls of an image

call_ends_as_meant : (p : ProgramTree) (image : ImageTree) (call : ImageCallTree) (budget : ℕ) → IsImageOf p (program_code p.functions) image → IsShapedCall image call → CallEndsAsMeant p image call budget
call_ends_as_meant p image call budget is (h, called) =
    let vs = image_call_values call in
    let shapes = (is.heads call.function h called.listed).shapes in
    let plain = subst (λ (ds : List RecordTree). ValuesHave ds (values_in_order vs) h.params) is.records called.values in
    let run = code_ends_as_meant p call.function (record { params = h.params; result = h.result }) vs budget shapes (values_over p.records (values_in_order vs) h.params plain) in
    (run.0, run.1, subst (λ (code : Code). EndsWith code call.function vs budget run.0) (sym is.code_is) run.2)

-- ---- what is printed

image_ordered : order_of (codes "image" ∷ []) ≡ Some Image
unfolding order_of
image_ordered = refl

module _ (generated_is_verified : GeneratedIsVerified) (bytes text : List ℕ) where
  printed : (c : CheckedTree) → IsCheckedText bytes c → IsImageReply c text Done → IsImageOfText bytes text
  unfolding IsImageReply
  printed c spelled (image, is, fits, reply) =
      let p = c.text.program in
      record {
        checked = c;
        spelled = spelled;
        image = image;
        is = is;
        verified = generated_is_verified p image (shaped_is_formed bytes c.text spelled.shaped) spelled.shaped.faultless (short_names bytes c.text spelled.shaped) is;
        writable = fits;
        printed = reply.0;
        meant = λ call budget shaped. call_ends_as_meant p image call budget is shaped;
      }

  printed_of : ImageAnswer bytes text Done → IsImageOfText bytes text
  unfolding ImageAnswer
  printed_of answer =
      let r = checked_reached IsImageReply bytes text Done refl answer in
      printed r.0 r.1 r.2

pub printed_images_are_verified : GeneratedIsVerified → PrintedImagesAreVerified
unfolding Answer
printed_images_are_verified verified bytes text answer =
    let given : ImageAnswer bytes text Done = rw image_ordered at answer in
    printed_of verified bytes text given

-- ---- what is read again

module _ (shaped : ImageCallsAreShaped) (bytes printed_bytes : List ℕ) (is : IsImageOfText bytes printed_bytes) (budget : ℕ) (words : List (List ℕ)) (call : ImageCallTree) (named : IsImageCallOf is.image (called budget words).name (called budget words).texts (Ok call)) (text : List ℕ) (status : Status) where
  run_is_meant : ImageRunAnswer budget is.image call text status → IsMeantImageCall is.checked.text.program is.image call budget text status
  unfolding ImageRunAnswer
  run_is_meant (h, listed, o, ends, reply) =
      let p = is.checked.text.program in
      let vs = image_call_values call in
      let code = is.image.code in
      let run = is.meant call budget (shaped is.image (called budget words).name (called budget words).texts call named) in
      let same : run.0 ≡ o = ends_once code run.2.0 ends.0 (starts code call.function vs budget (slice_get code.entries call.function)) run.0 o run.2.1 ends.1 in
      record { head = h; listed = listed; outcome = o; meant = subst (λ x. outcome_of_call p call.function vs budget ≡ Some x) same run.1; printed = reply }

pub printed_images_run_as_meant : ImageCallsAreShaped → VerifiedImagesRun → PrintedImagesRunAsMeant
unfolding Answer
printed_images_run_as_meant shaped runs bytes printed_bytes is short budget words call ordered named text status answer =
    let given : ExecAnswer (called budget words) printed_bytes text status = rw ordered at answer in
    run_is_meant shaped bytes printed_bytes is budget words call named text status
    (runs (called budget words) printed_bytes text status is.image call short (record { writable = is.writable; spelled = is.printed }) is.verified named given)
