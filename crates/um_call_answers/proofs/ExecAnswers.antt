-- The answer to a call of an image: it is one, it has the status of no fault, and it is done if its steps go through.
use Rattle.std.proofs.Common.{◌≡◌, ◌⊎◌, ℕ, zero, suc, ◌<◌, ◌≤◌, List, [], ◌∷◌, ◌++◌, length, length-append, IsTrue, Result, Ok, Err, Some, None, slice_get, inl, inr, refl, sym, ap, subst, ◌∙◌, append_assoc, arith}
use Rattle.std.specs.Prelude.{◌≢◌}
use Rattle.std.specs.List.{flat_map}
use Rattle.std.proofs.lemmas.Bool.{cases_lt}
use Rattle.std.proofs.lemmas.Option.{same_Some}
use Rattle.um_tree.specs.ValueTree.{OutcomeTree, value_outcome}
use Rattle.um_tree.specs.ProgramTree.{RecordTree}
use Rattle.um_machine.specs.declared.code.Code.{Code}
use Rattle.um_machine.specs.Machine.{Step, going, done, stuck, step, next, runs, starts}
use Rattle.um_show.specs.ValueText.{value_text}
use Rattle.um_verify.specs.ImageTree.{HeadTree, ImageTree}
use Rattle.um_verify.specs.Verified.{IsVerified}
use Rattle.um_verifier.specs.declared.stop.VerifyStop.{VerifyStop}
use Rattle.um_verifier.specs.declared.stop.VerifyStop.TheVariants as verify_stop
use Rattle.um_verifier.specs.Refusals.{IsRefusal}
use Rattle.um_verifier.specs.Laws.{RefusalsAreOne, VerifiedIsAccepted}
use Rattle.um_image.specs.declared.stop.DecodeStop.{DecodeStop}
use Rattle.um_image.specs.declared.stop.DecodeStop.TheVariants as decode_stop
use Rattle.um_image.specs.Encoding.{Item, written, forbidden, spell, four_bytes, counted_items, field_items, record_items, function_items, function_parts, image_bytes}
use Rattle.um_image.specs.ProgramImage.{type_of_shape}
use Rattle.um_image.specs.Laws.{PlacesAreUnique, BadBytesAreNoImage, BytesSpellOneImage}
use Rattle.um_run.specs.declared.call.CallRefusal.{CallRefusal}
use Rattle.um_run.specs.declared.call.CallRefusal.TheVariants as refusal
use Rattle.um_run.specs.ImageCalls.{ImageCallTree, image_call_values, image_program, IsImageCallOf}
use Rattle.um_run.specs.ImageLaws.{ImageCallsAreUnique}
use Rattle.um_reports.specs.declared.status.Status.{Status}
use Rattle.um_reports.specs.declared.status.Status.TheVariants.{Done}
use Rattle.um_reports.specs.Steps.{line}
use Rattle.um_reports.proofs.ReportStatuses.{is_answered, call_reply}
use Rattle.um_call_answers.specs.AskedCall.{AskedCall}
use Rattle.um_call_answers.specs.CallAnswer.{IsOutcomeReply, steps_text}
use Rattle.um_call_answers.specs.ExecAnswer.{IsDecodeReply, IsVerifyReply, ImageRunAnswer, ByImageCall, VerifiedAnswer, DecodedAnswer, IsImageIn, AreRefused, BytesAnswer, ExecAnswer, GivesImageValue}
use Rattle.um_call_answers.proofs.CallStatuses.{outcome_reply}
use Rattle.um_call_answers.proofs.CallStage.{one_call_reply}
use Rattle.um_call_answers.proofs.UniqueReplies.{one_outcome_reply}
use Rattle.um_call_answers.proofs.ImageValues.{value_fits}

-- ---- what is known of images

-- bytes spell one image, or are refused at one place; an image is verified, or refused once; words call one function
pub record AreOnce : Type 0 where
  pub spelled : BytesSpellOneImage
  pub places : PlacesAreUnique
  pub refused_or_spelled : BadBytesAreNoImage
  pub refusals : RefusalsAreOne
  pub accepted : VerifiedIsAccepted
  pub calls : ImageCallsAreUnique

-- a run has one end
pub ends_once : (code : Code) (n m : ℕ) (r : Step) (o p : OutcomeTree) → next r (runs code n) ≡ done o → next r (runs code m) ≡ done p → o ≡ p
ends_once code n m (done q) o p a b = let same : done o ≡ done p = sym a ∙ b in cc same
ends_once code n m stuck o p a b = absurd (cc a)
ends_once code zero m (going s) o p a b = absurd (cc a)
ends_once code (suc n) zero (going s) o p a b = absurd (cc b)
ends_once code (suc n) (suc m) (going s) o p a b = ends_once code n m (step code s) o p a b

-- ---- an image has at most as many records as bytes

length_spelled : (a b : List Item) → length (spell b) ≤ length (spell (a ++ b))
length_spelled [] b = omega arith
length_spelled (written bytes ∷ a) b = let more = length_spelled a b in let both = length-append bytes (spell (a ++ b)) in omega (arith, more, both)
length_spelled (forbidden ∷ a) b = length_spelled a b

many_records : (ds : List RecordTree) (more : List Item) → length ds ≤ length (spell (flat_map record_items ds ++ more))
many_records [] more = omega arith
many_records (d ∷ ds) more =
    let all = append_assoc (record_items d) (flat_map record_items ds) more in
    let rest = many_records ds more in
    let behind = written d.name ∷ counted_items field_items d.fields in
    let tail = length_spelled behind (flat_map record_items ds ++ more) in
    let first = length-append (four_bytes (length d.name)) (spell (behind ++ (flat_map record_items ds ++ more))) in
    let some : 0 < length (four_bytes (length d.name)) = omega arith in
    subst (λ (items : List Item). suc (length ds) ≤ length (spell items)) (sym all) (omega (arith, rest, tail, first, some))

few_records : (image : ImageTree) → length image.records ≤ length (image_bytes image)
few_records image =
    let functions = function_parts image.heads image.code.ops image.code.entries in
    let behind = counted_items function_items functions in
    let count = four_bytes (length image.records) in
    let items = flat_map record_items image.records ++ behind in
    let rest = many_records image.records behind in
    let second = length-append count (spell items) in
    omega (arith, rest, second)

within : (n : ℕ) → (16777216 < n → ⊥) → n ≤ 16777216
within n short = by (cases_lt 16777216 n)
  where
    by : (16777216 < n) ⊎ (n ≤ 16777216) → n ≤ 16777216
    by (inl past) = absurd (short past)
    by (inr fits) = fits

-- ---- one answer
module _ (once : AreOnce) (text other : List ℕ) (status another : Status) where
  abbrev AreSame : Type 0
  AreSame = (text ≡ other) × (status ≡ another)

  one_decode_reply : (stop : DecodeStop) → IsDecodeReply stop text status → IsDecodeReply stop other another → AreSame
  one_decode_reply (decode_stop.Bad at) a b = (a.0 ∙ sym b.0, a.1 ∙ sym b.1)
  one_decode_reply decode_stop.NoMemory a b = absurd a

  one_verify_reply : (stop : VerifyStop) → IsVerifyReply stop text status → IsVerifyReply stop other another → AreSame
  one_verify_reply (verify_stop.Head index) a b = (a.0 ∙ sym b.0, a.1 ∙ sym b.1)
  one_verify_reply (verify_stop.Code at) a b = (a.0 ∙ sym b.0, a.1 ∙ sym b.1)
  one_verify_reply verify_stop.NoMemory a b = absurd a

  image_run_one : (budget : ℕ) (image : ImageTree) (call : ImageCallTree) → ImageRunAnswer budget image call text status → ImageRunAnswer budget image call other another → AreSame
  unfolding ImageRunAnswer
  image_run_one budget image call (h, listed, o, ends, a) (g, found, e, also, b) =
      let p = image_program image in
      let head : h ≡ g = same_Some h g (sym listed ∙ found) in
      let first = starts image.code call.function (image_call_values call) budget (slice_get image.code.entries call.function) in
      let same : o ≡ e = ends_once image.code ends.0 also.0 first o e ends.1 also.1 in
      let here = subst (λ (x : HeadTree). IsOutcomeReply p (type_of_shape x.result) o None text status) head a in
      one_outcome_reply text other status another p (type_of_shape g.result) e None (subst (λ x. IsOutcomeReply p (type_of_shape g.result) x None text status) same here) b

  by_image_call_one : (asked : AskedCall) (image : ImageTree) (r : Result ImageCallTree CallRefusal) → ByImageCall asked image r text status → ByImageCall asked image r other another → AreSame
  by_image_call_one asked image (Ok call) a b = image_run_one asked.budget image call a b
  by_image_call_one asked image (Err refused) a b = one_call_reply text other status another asked.texts refused a b

  image_calls_one : (asked : AskedCall) (image : ImageTree) (r q : Result ImageCallTree CallRefusal) → (r ≡ q) ⊎ ((r ≡ Err refusal.NoMemory) ⊎ (q ≡ Err refusal.NoMemory))
      → ByImageCall asked image r text status → ByImageCall asked image q other another → AreSame
  image_calls_one asked image r q (inl same) a b = by_image_call_one asked image q (subst (λ x. ByImageCall asked image x text status) same a) b
  image_calls_one asked image r q (inr (inl wanting)) a b = absurd (subst (λ x. ByImageCall asked image x text status) wanting a)
  image_calls_one asked image r q (inr (inr wanting)) a b = absurd (subst (λ x. ByImageCall asked image x other another) wanting b)

  verified_one : (asked : AskedCall) (image : ImageTree) → IsVerified image → length image.records ≤ 16777216 → VerifiedAnswer asked image text status → VerifiedAnswer asked image other another → AreSame
  unfolding VerifiedAnswer
  verified_one asked image verified few (r, named, a) (q, also, b) =
      image_calls_one asked image r q (once.calls image asked.name asked.texts r q verified few named also) a b

  accepted : (image : ImageTree) (stop : VerifyStop) (t : List ℕ) (s : Status) → IsVerified image → IsRefusal image stop → IsVerifyReply stop t s → ⊥
  accepted image (verify_stop.Head index) t s verified refused reply = let wanting = once.accepted image (verify_stop.Head index) verified refused in cc wanting
  accepted image (verify_stop.Code at) t s verified refused reply = let wanting = once.accepted image (verify_stop.Code at) verified refused in cc wanting
  accepted image verify_stop.NoMemory t s verified refused reply = reply

  told : (stop : VerifyStop) (t : List ℕ) (s : Status) → IsVerifyReply stop t s → stop ≢ verify_stop.NoMemory
  told (verify_stop.Head index) t s reply e = cc e
  told (verify_stop.Code at) t s reply e = cc e
  told verify_stop.NoMemory t s reply e = reply

  decoded_one : (asked : AskedCall) (image : ImageTree) → length image.records ≤ 16777216 → DecodedAnswer asked image text status → DecodedAnswer asked image other another → AreSame
  unfolding DecodedAnswer
  decoded_one asked image few (inl (verified, a)) (inl (also, b)) = verified_one asked image verified few a b
  decoded_one asked image few (inl (verified, a)) (inr (stop, refused, reply)) = absurd (accepted image stop other another verified refused reply)
  decoded_one asked image few (inr (stop, refused, reply)) (inl (verified, b)) = absurd (accepted image stop text status verified refused reply)
  decoded_one asked image few (inr (stop, refused, a)) (inr (sort, also, b)) =
      let same = once.refusals image stop sort refused also (told stop text status a) (told sort other another b) in
      one_verify_reply sort (subst (λ x. IsVerifyReply x text status) same a) b

  not_both : (bytes : List ℕ) (image : ImageTree) (stop : DecodeStop) (t : List ℕ) (s : Status) → IsImageIn bytes image → AreRefused bytes stop → IsDecodeReply stop t s → ⊥
  not_both bytes image (decode_stop.Bad at) t s is are reply = once.refused_or_spelled bytes at image are.small are.refused is.writable is.spelled
  not_both bytes image decode_stop.NoMemory t s is are reply = reply

  one_place : (bytes : List ℕ) (stop sort : DecodeStop) → AreRefused bytes stop → AreRefused bytes sort → IsDecodeReply stop text status → IsDecodeReply sort other another → AreSame
  one_place bytes (decode_stop.Bad at) (decode_stop.Bad place) are also a b =
      let same = once.places bytes at place are.small are.refused also.refused in
      one_decode_reply (decode_stop.Bad place) (subst (λ k. IsDecodeReply (decode_stop.Bad k) text status) same a) b
  one_place bytes (decode_stop.Bad at) decode_stop.NoMemory are also a b = absurd b
  one_place bytes decode_stop.NoMemory sort are also a b = absurd a

  bytes_one : (asked : AskedCall) (bytes : List ℕ) → length bytes ≤ 16777216 → BytesAnswer asked bytes text status → BytesAnswer asked bytes other another → AreSame
  unfolding BytesAnswer
  bytes_one asked bytes short (inl (image, is, a)) (inl (found, also, b)) =
      let same : image ≡ found = once.spelled image found is.writable also.writable (sym is.spelled ∙ also.spelled) in
      let records = few_records found in
      let long : length bytes ≡ length (image_bytes found) = ap length also.spelled in
      decoded_one asked found (omega (arith, short, records, long)) (subst (λ x. DecodedAnswer asked x text status) same a) b
  bytes_one asked bytes short (inl (image, is, a)) (inr (stop, are, reply)) = absurd (not_both bytes image stop other another is are reply)
  bytes_one asked bytes short (inr (stop, are, reply)) (inl (image, is, b)) = absurd (not_both bytes image stop text status is are reply)
  bytes_one asked bytes short (inr (stop, are, a)) (inr (sort, also, b)) = one_place bytes stop sort are also a b

  pub exec_one : (asked : AskedCall) (bytes : List ℕ) → ExecAnswer asked bytes text status → ExecAnswer asked bytes other another → AreSame
  unfolding ExecAnswer
  exec_one asked bytes (inl (long, a)) (inl (also, b)) = (a.0 ∙ sym b.0, a.1 ∙ sym b.1)
  exec_one asked bytes (inl (long, a)) (inr (short, b)) = absurd (short long)
  exec_one asked bytes (inr (short, a)) (inl (long, b)) = absurd (short long)
  exec_one asked bytes (inr (short, a)) (inr (also, b)) = bytes_one asked bytes (within (length bytes) short) a b

-- ---- the answer to a call of a verified image is how its code ends
module _ (once : AreOnce) (text : List ℕ) (status : Status) (asked : AskedCall) (bytes : List ℕ) (image : ImageTree) (call : ImageCallTree) (short : length bytes ≤ 16777216) (is : IsImageIn bytes image) (verified : IsVerified image) (named : IsImageCallOf image asked.name asked.texts (Ok call)) where
  abbrev IsRun : Type 0
  IsRun = ImageRunAnswer asked.budget image call text status

  abbrev IsWanting : Result ImageCallTree CallRefusal → Type 0
  IsWanting r = r ≡ Err refusal.NoMemory

  few : length image.records ≤ 16777216
  few = let records = few_records image in let long : length bytes ≡ length (image_bytes image) = ap length is.spelled in omega (arith, short, records, long)

  verified_run : VerifiedAnswer asked image text status → IsRun
  unfolding VerifiedAnswer
  verified_run (r, also, answer) = by (once.calls image asked.name asked.texts (Ok call) r verified few named also) where
    by : (Ok call ≡ r) ⊎ (IsWanting (Ok call) ⊎ IsWanting r) → IsRun
    by (inl same) = subst (λ x. ByImageCall asked image x text status) (sym same) answer
    by (inr (inl wrong)) = absurd (cc wrong)
    by (inr (inr wanting)) = absurd (subst (λ x. ByImageCall asked image x text status) wanting answer)

  decoded_run : DecodedAnswer asked image text status → IsRun
  unfolding DecodedAnswer
  decoded_run (inl (also, answer)) = verified_run answer
  decoded_run (inr (stop, refused, reply)) = absurd (accepted once text text status status image stop text status verified refused reply)

  bytes_run : BytesAnswer asked bytes text status → IsRun
  unfolding BytesAnswer
  bytes_run (inl (found, also, answer)) =
      let same : found ≡ image = once.spelled found image also.writable is.writable (sym also.spelled ∙ is.spelled) in
      decoded_run (subst (λ x. DecodedAnswer asked x text status) same answer)
  bytes_run (inr (stop, are, reply)) = absurd (not_both once text text status status bytes image stop text status is are reply)

  pub exec_runs : ExecAnswer asked bytes text status → IsRun
  unfolding ExecAnswer
  exec_runs (inl (long, reply)) = absurd (omega (arith, short, long))
  exec_runs (inr (within, answer)) = bytes_run answer

-- ---- statuses

by_image_call_status : (asked : AskedCall) (image : ImageTree) (r : Result ImageCallTree CallRefusal) (text : List ℕ) (status : Status) → ByImageCall asked image r text status → IsTrue (is_answered status)
unfolding ImageRunAnswer
by_image_call_status asked image (Ok call) text status (h, listed, o, ends, reply) = outcome_reply (image_program image) (type_of_shape h.result) o None text status reply
by_image_call_status asked image (Err refused) text status reply = call_reply asked.texts refused text status reply

verify_reply : (stop : VerifyStop) (text : List ℕ) (status : Status) → IsVerifyReply stop text status → IsTrue (is_answered status)
verify_reply (verify_stop.Head index) text status reply = rw reply.1 refl
verify_reply (verify_stop.Code at) text status reply = rw reply.1 refl
verify_reply verify_stop.NoMemory text status reply = absurd reply

decode_reply : (stop : DecodeStop) (text : List ℕ) (status : Status) → IsDecodeReply stop text status → IsTrue (is_answered status)
decode_reply (decode_stop.Bad at) text status reply = rw reply.1 refl
decode_reply decode_stop.NoMemory text status reply = absurd reply

VerifiedAnswer-status : (asked : AskedCall) (image : ImageTree) (text : List ℕ) (status : Status) → VerifiedAnswer asked image text status → IsTrue (is_answered status)
unfolding VerifiedAnswer
VerifiedAnswer-status asked image text status (r, named, answer) = by_image_call_status asked image r text status answer

DecodedAnswer-status : (asked : AskedCall) (image : ImageTree) (text : List ℕ) (status : Status) → DecodedAnswer asked image text status → IsTrue (is_answered status)
unfolding DecodedAnswer
DecodedAnswer-status asked image text status (inl (verified, answer)) = VerifiedAnswer-status asked image text status answer
DecodedAnswer-status asked image text status (inr (stop, refused, reply)) = verify_reply stop text status reply

bytes_status : (asked : AskedCall) (bytes text : List ℕ) (status : Status) → BytesAnswer asked bytes text status → IsTrue (is_answered status)
unfolding BytesAnswer
bytes_status asked bytes text status (inl (image, is, answer)) = DecodedAnswer-status asked image text status answer
bytes_status asked bytes text status (inr (stop, are, reply)) = decode_reply stop text status reply

pub ExecAnswer-status : (asked : AskedCall) (bytes text : List ℕ) (status : Status) → ExecAnswer asked bytes text status → IsTrue (is_answered status)
unfolding ExecAnswer
ExecAnswer-status asked bytes text status (inl (long, reply)) = rw reply.1 refl
ExecAnswer-status asked bytes text status (inr (short, answer)) = bytes_status asked bytes text status answer

-- ---- where each step goes through

-- the head of the call's function
head_called : (image : ImageTree) (name : List ℕ) (texts : List (List ℕ)) (call : ImageCallTree) → IsImageCallOf image name texts (Ok call) → (h : HeadTree) × (slice_get image.heads call.function ≡ Some h)
head_called image name texts call (k, h, named, is) = (h, ap (slice_get image.heads) is.0 ∙ named.listed)

module _ (asked : AskedCall) (bytes : List ℕ) (g : GivesImageValue asked bytes) where
  head : (h : HeadTree) × (slice_get g.image.heads g.call.function ≡ Some h)
  head = head_called g.image asked.name asked.texts g.call g.named

  abbrev value_line : List ℕ
  value_line = line (value_text (image_program g.image) g.value (type_of_shape head.0.result)) ++ steps_text None

  run_answer : ImageRunAnswer asked.budget g.image g.call value_line Done
  unfolding ImageRunAnswer
  run_answer = (head.0, head.1, value_outcome g.value, g.gives, inl (value_fits (image_program g.image) g.is.writable.form.records g.value (type_of_shape head.0.result), (refl, refl)))

  verified_answer : VerifiedAnswer asked g.image value_line Done
  unfolding VerifiedAnswer
  verified_answer = (Ok g.call, g.named, run_answer)

  decoded_answer : DecodedAnswer asked g.image value_line Done
  unfolding DecodedAnswer
  decoded_answer = inl (g.verified, verified_answer)

  bytes_answer : BytesAnswer asked bytes value_line Done
  unfolding BytesAnswer
  bytes_answer = inl (g.image, g.is, decoded_answer)

  value_answer : ExecAnswer asked bytes value_line Done
  unfolding ExecAnswer
  value_answer = let short = g.short in inr ((λ long. omega (arith, long, short)), bytes_answer)

  pub exec_done : AreOnce → (text : List ℕ) (status : Status) → ExecAnswer asked bytes text status → status ≡ Done
  exec_done once text status answer = (exec_one once text value_line status Done asked bytes answer value_answer).1
