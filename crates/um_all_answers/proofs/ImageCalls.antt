-- Bytes that are an image's have an answer to each call, and so have all others.
use Rattle.std.proofs.Common.{◌≡◌, ◌≢◌, inl, inr, ℕ, ◌≤◌, ◌<◌, nat_le, nat_eq, All, List, [], ◌∷◌, ◌++◌, codes, decimal, length, get_or, Option, Some, None, refl, subst, arith}
use Rattle.std.specs.Prelude.{Result, Ok, Err}
use Rattle.std.proofs.lemmas.List.{length-map}
use Rattle.std.proofs.lemmas.List.Elements.{All-head, All-tail}
use Rattle.um_elim.proofs.Cases.{on_test}
use Rattle.um_syntax.specs.Laws.{EachTextIsAnswered}
use Rattle.um_tree.specs.TypeTree.{ShapeTree}
use Rattle.um_tree.specs.Formed.{IsFormed}
use Rattle.um_measures.specs.Known.{number_of}
use Rattle.um_measures.proofs.NameLists.{number_of-below}
use Rattle.um_value.specs.ValueGrammar.{IsShapeIn}
use Rattle.um_verify.specs.ImageTree.{HeadTree, ImageTree}
use Rattle.um_verify.specs.Verified.{IsVerified}
use Rattle.um_verify.specs.Laws.{RunsEnd}
use Rattle.um_verifier.specs.declared.stop.VerifyStop.{VerifyStop}
use Rattle.um_verifier.specs.declared.stop.VerifyStop.TheVariants as verify_stop
use Rattle.um_image.specs.declared.stop.DecodeStop.TheVariants as decode_stop
use Rattle.um_image.specs.ProgramImage.{type_of_shape}
use Rattle.um_image.specs.Places.{IsWritable}
use Rattle.um_image.specs.Laws.{BytesAreAnswered}
use Rattle.um_infer.proofs.SchemeLists.{item_at}
use Rattle.um_run.specs.declared.call.CallRefusal.{CallRefusal}
use Rattle.um_run.specs.declared.call.CallRefusal.TheVariants as refusal
use Rattle.um_run.specs.ImageCalls.{image_program, known_in, head_names, ImageCallTree, IsNamedHead, image_call_values, IsImageCallOf}
use Rattle.um_run.specs.ImageLaws.{ImageCallsAreShaped}
use Rattle.um_run.proofs.ImagePrograms.{formed, params_in}
use Rattle.um_reports.specs.declared.status.Status.TheVariants.{TooLong, Input, BadImage}
use Rattle.um_reports.specs.CallRefusals.{IsCallReply}
use Rattle.um_reports.specs.Steps.{line}
use Rattle.um_call_answers.specs.AskedCall.{AskedCall}
use Rattle.um_call_answers.specs.ExecAnswer.{IsVerifyReply, ImageRunAnswer, ByImageCall, VerifiedAnswer, DecodedAnswer, BytesAnswer, ExecAnswer}
use Rattle.um_all_answers.proofs.Texts.{within, beyond}
use Rattle.um_all_answers.proofs.Answers.{Told}
use Rattle.um_verifier.specs.Laws.{ImagesAreVerifiedOrRefused}
use Rattle.um_all_answers.specs.CallLaws.{ImagesHaveAnswers}
use Rattle.um_all_answers.proofs.Arguments.{AreShapesIn, InputsOrRefusal, inputs_or_refusal}
use Rattle.um_all_answers.proofs.Named.{same_count, other_count}
use Rattle.um_all_answers.proofs.Outcomes.{outcome_told}
use Rattle.um_all_answers.proofs.Calls.{argument_told}

-- ---- the call that words name
module _ (each : EachTextIsAnswered) (image : ImageTree) (v : IsVerified image) (few : length image.records ≤ 16777216) where
  is_formed : IsFormed (known_in image).program
  is_formed = formed image v few

  shapes_in : (shapes : List ShapeTree) → All (IsShapeIn image.records) shapes → AreShapesIn each (known_in image) is_formed shapes
  shapes_in [] all = tt
  shapes_in (s ∷ shapes) all = (All-head (IsShapeIn image.records) s shapes all, shapes_in shapes (All-tail (IsShapeIn image.records) s shapes all))

  module _ (name : List ℕ) (texts : List (List ℕ)) where
    abbrev CallOrRefusal : Type 0
    CallOrRefusal = (r : Result ImageCallTree CallRefusal) × IsImageCallOf image name texts r × ((why : CallRefusal) → r ≡ Err why → Told (IsCallReply texts why))

    module _ (k : ℕ) (h : HeadTree) (named : IsNamedHead image name k h) where
      with_inputs : length texts ≡ length h.params → InputsOrRefusal each (known_in image) is_formed h.params texts → CallOrRefusal
      with_inputs many (inl (inputs, are)) = (Ok (record { function = k; inputs = inputs }), (k, h, named, (refl, are)), (λ why e. absurd (cc e)))
      with_inputs many (inr (index, stop, first)) = (
        Err (refusal.Argument index stop),
        (k, h, named, (many, first)),
        (λ why e. let same : refusal.Argument index stop ≡ why = cc e in subst (λ x. Told (IsCallReply texts x)) same (argument_told index (get_or texts index []) stop first.cause)),
      )

      of_function : CallOrRefusal
      of_function =
          on_test (nat_eq (length texts) (length h.params))
          (λ t.
          let many = same_count (length texts) (length h.params) t in
          with_inputs many (inputs_or_refusal each (known_in image) is_formed h.params (shapes_in h.params (params_in image v few k h named.listed)) texts many))
          (λ t. (
            Err refusal.WrongCount,
            (k, h, named, other_count (length texts) (length h.params) t),
            (λ why e. let same : refusal.WrongCount ≡ why = cc e in subst (λ x. Told (IsCallReply texts x)) same (line (codes "error 11: wrong number of arguments"), Input, (refl, refl))),
          ))

    by_name : (o : Option ℕ) → number_of (head_names image.heads) name ≡ o → CallOrRefusal
    by_name None e = (
      Err refusal.NoFunction,
      e,
      (λ why same. let one : refusal.NoFunction ≡ why = cc same in subst (λ x. Told (IsCallReply texts x)) one (line (codes "error 11: no such function"), Input, (refl, refl))),
    )
    by_name (Some k) e =
        let below = number_of-below name (head_names image.heads) k e in
        let (h, listed) = item_at image.heads k (omega (arith, below, length-map image.heads (λ (g : HeadTree). g.name))) in
        of_function k h (record { number = e; listed = listed })

    call_or_refusal : CallOrRefusal
    call_or_refusal = by_name (number_of (head_names image.heads) name) refl

  -- ---- what is said of it
  module _ (ends : RunsEnd) (shaped : ImageCallsAreShaped) (asked : AskedCall) where
    run_told : (call : ImageCallTree) → IsImageCallOf image asked.name asked.texts (Ok call) → Told (ImageRunAnswer asked.budget image call)
    unfolding ImageRunAnswer
    run_told call named =
        let (h, is) = shaped image asked.name asked.texts call named in
        let (o, end, has) = ends image call.function h (image_call_values call) asked.budget v is in
        let (text, status, reply) = outcome_told (image_program image) (type_of_shape h.result) o None in
        (text, status, (h, is.listed, o, end, reply))

    by_call : (r : Result ImageCallTree CallRefusal) → IsImageCallOf image asked.name asked.texts r → ((why : CallRefusal) → r ≡ Err why → Told (IsCallReply asked.texts why)) → Told (ByImageCall asked image r)
    by_call (Ok call) named refused = run_told call named
    by_call (Err why) named refused = refused why refl

    verified_told : Told (VerifiedAnswer asked image)
    unfolding VerifiedAnswer
    verified_told =
        let (r, is, refused) = call_or_refusal asked.name asked.texts in let (text, status, says) = by_call r is refused in (text, status, (r, is, says))

-- ---- an image
stop_told : (stop : VerifyStop) → stop ≢ verify_stop.NoMemory → Told (IsVerifyReply stop)
stop_told (verify_stop.Head index) some = (line (codes "error 22: " ++ codes "head" ++ codes " " ++ decimal index), BadImage, (refl, refl))
stop_told (verify_stop.Code at) some = (line (codes "error 22: " ++ codes "code at" ++ codes " " ++ decimal at), BadImage, (refl, refl))
stop_told verify_stop.NoMemory some = absurd (some refl)

module _ (each : EachTextIsAnswered) (decoded : BytesAreAnswered) (verified : ImagesAreVerifiedOrRefused) (ends : RunsEnd) (shaped : ImageCallsAreShaped) (asked : AskedCall) where
  image_told : (image : ImageTree) → IsWritable image → length image.records ≤ 16777216 → Told (DecodedAnswer asked image)
  unfolding DecodedAnswer
  image_told image writable few =
      elim (verified image writable.form) [
        | inl v ↦ let (text, status, says) = verified_told each image v few ends shaped asked in (text, status, inl (v, says))
        | inr w ↦ let (text, status, reply) = stop_told w.0 w.1 in (text, status, inr (w.0, w.2, reply))
      ]

  module _ (bytes : List ℕ) (small : All (λ (b : ℕ). b < 256) bytes) where
    bytes_told : length bytes ≤ 16777216 → Told (BytesAnswer asked bytes)
    unfolding BytesAnswer
    bytes_told few =
        elim (decoded bytes small few) [
          | inl w ↦ let (text, status, says) = image_told w.0 w.1 w.3 in (text, status, inl (w.0, record { writable = w.1; spelled = w.2 }, says))
          | inr w ↦ (line (codes "error 22: " ++ codes "image at byte" ++ codes " " ++ decimal w.0), BadImage, inr (decode_stop.Bad w.0, record { small = small; refused = w.1 }, (refl, refl)))
        ]

    exec_told : Told (ExecAnswer asked bytes)
    unfolding ExecAnswer
    exec_told =
        on_test (nat_le (length bytes) 16777216)
        (λ fits.
        let short = within (length bytes) 16777216 fits in
        let (text, status, says) = bytes_told short in
        (text, status, inr ((λ long. absurd (omega (arith, short, long))), says)))
        (λ over. (line (codes "error 2: text too long"), TooLong, inl (beyond (length bytes) 16777216 over, (refl, refl))))

pub images_have_answers : EachTextIsAnswered → BytesAreAnswered → ImagesAreVerifiedOrRefused → RunsEnd → ImageCallsAreShaped → ImagesHaveAnswers
images_have_answers each decoded verified ends shaped asked bytes small = exec_told each decoded verified ends shaped asked bytes small
