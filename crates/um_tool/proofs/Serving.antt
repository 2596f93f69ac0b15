-- What is planned, by the steps of the answer.
use Rattle.std.proofs.Common.{◌≡◌, ℕ, ◌<◌, ◌≤◌, List, [], length, None, Some, Result, Ok, Err, IfOk, Bool, true, false, IsTrue, codes, sym, subst, ◌∙◌, refl, inl, inr, arith}
use Rattle.std.specs.Prelude.{IsErrOf, MatchBool, ◌↔◌}
use Rattle.std.specs.declared.option.Option.{Option}
use Rattle.um_wire.specs.Faults.{Rose}
use Rattle.um_wire.specs.Bytes.{Tells, TellsMoreThan}
use Rattle.um_wire.specs.declared.read.ReadStop.{ReadStop}
use Rattle.um_wire.specs.declared.read.ReadStop.TheVariants.{TooLong as TooLongToRead, Failed as ReadFailed, NoMemory as OutOfMemory}
use Rattle.um_orders.specs.declared.order.Order.{Order}
use Rattle.um_orders.specs.declared.order.Order.TheVariants.{Types, Explain, Annot, Code, Fmt, Tidy, Run, Steps, Eval, Trace, Show, Conform, Rescale, Twin, Big, Prove, Image, Exec, Calls}
use Rattle.um_orders.specs.declared.order.BytesOrder.{BytesOrder}
use Rattle.um_orders.specs.declared.order.BytesOrder.TheVariants as bytes_order
use Rattle.um_orders.specs.declared.order.TextOrder.{TextOrder}
use Rattle.um_orders.specs.declared.order.TextOrder.TheVariants as text_order
use Rattle.um_orders.specs.Orders.{order_of, intake_of, order_about, order_about_bytes}
use Rattle.um_reports.specs.declared.status.Status.{Status}
use Rattle.um_reports.specs.declared.status.Status.TheVariants.{Usage, TooLong, ReadFault, WriteFault, NoMemory}
use Rattle.um_reports.specs.Refusals.{IsReadReply}
use Rattle.um_reports.specs.Steps.{IsReply, line}
use Rattle.um_reports.proofs.ReportStatuses.{is_answered}
use Rattle.um_front.proofs.TooLongTexts.{too_long_unread, too_long_unshaped, too_long_unchecked}
use Rattle.um_answers.specs.TypesAnswer.{TypesAnswer}
use Rattle.um_answers.specs.AnnotAnswer.{AnnotAnswer}
use Rattle.um_answers.specs.CodeAnswer.{CodeAnswer}
use Rattle.um_answers.specs.FmtAnswer.{FmtAnswer}
use Rattle.um_answers.specs.TidyAnswer.{TidyAnswer}
use Rattle.um_answers.specs.ConformAnswer.{ConformAnswer}
use Rattle.um_answers.specs.RescaleAnswer.{RescaleAnswer}
use Rattle.um_answers.specs.ProveAnswer.{ProveAnswer}
use Rattle.um_answers.specs.ImageAnswer.{ImageAnswer}
use Rattle.um_call_answers.specs.CallAnswer.{CallAnswer}
use Rattle.um_call_answers.specs.TwinAnswer.{TwinAnswer}
use Rattle.um_call_answers.specs.BigAnswer.{BigAnswer}
use Rattle.um_call_answers.specs.ExecAnswer.{BytesAnswer, ExecAnswer}
use Rattle.um_call_answers.specs.CallsAnswer.{SourceAnswer, CallsAnswer}
use Rattle.um_shown_answers.specs.TraceAnswer.{TraceAnswer}
use Rattle.um_shown_answers.specs.ShowAnswer.{ShowAnswer}
use Rattle.um_explain_answers.proofs.ShortTexts.{explain_too_long}
use Rattle.um_display.specs.UnitWords.{PartSyntax, IsUnitWord}
use Rattle.um_tool.specs.Asked.{called, shown_units, StatesUnits}
use Rattle.um_tool.specs.Answer.{Answer, ByOrder}
use Rattle.um_tool.specs.Served.{TakesSome, IsPlanned, Reads}
use Rattle.um_tool.proofs.Statuses.{Answer-status}

-- some bytes that the source may have left
pub some_told : (left : Option (List ℕ)) → (bytes : List ℕ) × Tells left bytes
some_told None = ([], tt)
some_told (Some bytes) = (bytes, refl)

-- what holds of an answer that isn't want of memory
pub if_ok : {T E : Type 0} {P Q : T → Type 0} (result : Result T E) → ((v : T) → P v → Q v) → IfOk result P → IfOk result Q
if_ok (Ok v) step fact = step v fact
if_ok (Err e) step fact = fact

pub usage_planned : (words : List (List ℕ)) (left : Option (List ℕ)) (before now : ℕ) (text : List ℕ) (status : Status) → None ≡ order_of words → IsReply text status (line (codes "error 1: usage")) Usage → IsPlanned words left before now text status
unfolding Answer
usage_planned words left before now text status none reply =
    let told = some_told left in
    inl (told.0, told.1, rw (← none) reply)

-- ---- whether the word that shall state units does

decided : (b : Bool) {P : Type 0} → IsTrue b ↔ P → MatchBool b P (P → ⊥)
decided true h = h.0 refl
decided false h = λ p. cc (h.1 p)

pub states_by_word : {E : Type 0} (order : Order) (digits budget : ℕ) (words : List (List ℕ)) (word : List ℕ) → order ≡ Show digits budget → shown_units words ≡ word → (result : Result Bool E) → IfOk result (λ b. IsTrue b ↔ ((parts : List PartSyntax) × IsUnitWord word parts)) → IfOk result (λ b. MatchBool b (StatesUnits order words) (StatesUnits order words → ⊥))
states_by_word order digits budget words word is same (Ok b) stated =
    let here = subst (λ (w : List ℕ). IsTrue b ↔ ((parts : List PartSyntax) × IsUnitWord w parts)) (sym same) stated in
    subst (λ (o : Order). MatchBool b (StatesUnits o words) (StatesUnits o words → ⊥)) (sym is) (decided b here)
states_by_word order digits budget words word is same (Err e) stated = stated

-- ---- an order, by what it takes from the source

-- a word that shall state units and doesn't
not_stated : (order : Order) (words : List (List ℕ)) (bytes text : List ℕ) (status : Status) → (StatesUnits order words → ⊥) → IsReply text status (line (codes "error 1: usage")) Usage → ByOrder order words bytes text status
not_stated (Show digits budget) words bytes text status none reply = inr (none, reply)
not_stated Types words bytes text status none reply = absurd (none tt)
not_stated Explain words bytes text status none reply = absurd (none tt)
not_stated Annot words bytes text status none reply = absurd (none tt)
not_stated Code words bytes text status none reply = absurd (none tt)
not_stated Fmt words bytes text status none reply = absurd (none tt)
not_stated Tidy words bytes text status none reply = absurd (none tt)
not_stated (Run budget) words bytes text status none reply = absurd (none tt)
not_stated (Steps budget) words bytes text status none reply = absurd (none tt)
not_stated (Eval budget) words bytes text status none reply = absurd (none tt)
not_stated (Trace budget) words bytes text status none reply = absurd (none tt)
not_stated Conform words bytes text status none reply = absurd (none tt)
not_stated Rescale words bytes text status none reply = absurd (none tt)
not_stated (Twin budget) words bytes text status none reply = absurd (none tt)
not_stated (Big n) words bytes text status none reply = absurd (none tt)
not_stated Prove words bytes text status none reply = absurd (none tt)
not_stated Image words bytes text status none reply = absurd (none tt)
not_stated (Exec budget) words bytes text status none reply = absurd (none tt)
not_stated (Calls budget) words bytes text status none reply = absurd (none tt)

pub unstated_planned : (words : List (List ℕ)) (left : Option (List ℕ)) (before now : ℕ) (order : Order) (text : List ℕ) (status : Status) → order_of words ≡ Some order → (StatesUnits order words → ⊥) → IsReply text status (line (codes "error 1: usage")) Usage → IsPlanned words left before now text status
unfolding Answer
unstated_planned words left before now order text status ordered none reply =
    let told = some_told left in
    inl (told.0, told.1, rw ordered (not_stated order words told.0 text status none reply))

pub order_planned : (words : List (List ℕ)) (left : Option (List ℕ)) (before now : ℕ) (order : Order) (bytes text : List ℕ) (status : Status) → order_of words ≡ Some order → Tells left bytes → ByOrder order words bytes text status → IsPlanned words left before now text status
unfolding Answer
order_planned words left before now order bytes text status ordered told answer = inl (bytes, told, rw ordered answer)

-- a generated text is answered whatever the source has
pub generated_planned : (words : List (List ℕ)) (left : Option (List ℕ)) (before now : ℕ) (n : ℕ) (text : List ℕ) (status : Status) → order_of words ≡ Some (Big n) → BigAnswer n text status → IsPlanned words left before now text status
generated_planned words left before now n text status ordered answer =
    let told = some_told left in
    order_planned words left before now (Big n) told.0 text status ordered told.1 answer

-- ---- a text

-- a text that is too long is refused, whatever is asked of it
too_long : (order : TextOrder) (words : List (List ℕ)) → StatesUnits (order_about order) words → (bytes text : List ℕ) (status : Status) → 1048576 < length bytes → IsReply text status (line (codes "error 2: text too long")) TooLong → ByOrder (order_about order) words bytes text status
unfolding TypesAnswer AnnotAnswer CodeAnswer FmtAnswer TidyAnswer CallAnswer TraceAnswer ShowAnswer ConformAnswer RescaleAnswer TwinAnswer ProveAnswer ImageAnswer
too_long text_order.Types words units bytes text status long reply = inr (too_long_unchecked bytes text status long reply)
too_long text_order.Explain words units bytes text status long reply = explain_too_long bytes text status long reply
too_long text_order.Annot words units bytes text status long reply = inr (too_long_unchecked bytes text status long reply)
too_long text_order.Code words units bytes text status long reply = inr (too_long_unchecked bytes text status long reply)
too_long text_order.Fmt words units bytes text status long reply = inr (too_long_unread bytes text status long reply)
too_long text_order.Tidy words units bytes text status long reply = inr (too_long_unread bytes text status long reply)
too_long (text_order.Run budget) words units bytes text status long reply = inr (too_long_unchecked bytes text status long reply)
too_long (text_order.Steps budget) words units bytes text status long reply = inr (too_long_unchecked bytes text status long reply)
too_long (text_order.Eval budget) words units bytes text status long reply = inr (too_long_unchecked bytes text status long reply)
too_long (text_order.Trace budget) words units bytes text status long reply = inr (too_long_unchecked bytes text status long reply)
too_long (text_order.Show digits budget) words units bytes text status long reply = inl (units, inr (too_long_unchecked bytes text status long reply))
too_long text_order.Conform words units bytes text status long reply = inr (too_long_unchecked bytes text status long reply)
too_long text_order.Rescale words units bytes text status long reply = inr (too_long_unchecked bytes text status long reply)
too_long (text_order.Twin budget) words units bytes text status long reply = inr (too_long_unchecked bytes text status long reply)
too_long text_order.Prove words units bytes text status long reply = inr (too_long_unshaped bytes text status long reply)
too_long text_order.Image words units bytes text status long reply = inr (too_long_unchecked bytes text status long reply)

text_takes : (order : TextOrder) → TakesSome (intake_of (order_about order))
text_takes text_order.Types = tt
text_takes text_order.Explain = tt
text_takes text_order.Annot = tt
text_takes text_order.Code = tt
text_takes text_order.Fmt = tt
text_takes text_order.Tidy = tt
text_takes (text_order.Run budget) = tt
text_takes (text_order.Steps budget) = tt
text_takes (text_order.Eval budget) = tt
text_takes (text_order.Trace budget) = tt
text_takes (text_order.Show digits budget) = tt
text_takes text_order.Conform = tt
text_takes text_order.Rescale = tt
text_takes (text_order.Twin budget) = tt
text_takes text_order.Prove = tt
text_takes text_order.Image = tt

-- words that ask something of a text read
pub text_reads : (words : List (List ℕ)) (order : TextOrder) → StatesUnits (order_about order) words → order_of words ≡ Some (order_about order) → Reads words
text_reads words order units ordered = record { order = order_about order; ordered = ordered; some = text_takes order; units = units }

pub unread_planned : {T : Type 0} (result : Result T ReadStop) (stop : ReadStop) (words : List (List ℕ)) (left : Option (List ℕ)) (before now : ℕ) (order : TextOrder) (text : List ℕ) (status : Status) → StatesUnits (order_about order) words → order_of words ≡ Some (order_about order) → result ≡ Err stop
    → (IsErrOf result TooLongToRead → TellsMoreThan 1048576 left) → (IsErrOf result ReadFailed → Rose before now) → IsReadReply stop text status → IsPlanned words left before now text status
unread_planned result TooLongToRead words left before now order text status units ordered is long rose reply =
    let more = long is in
    order_planned words left before now (order_about order) more.bytes text status ordered more.told (too_long order words units more.bytes text status more.more reply)
unread_planned result ReadFailed words left before now order text status units ordered is long rose reply = inr (reply, text_reads words order units ordered, rose is)
unread_planned result OutOfMemory words left before now order text status units ordered is long rose reply = absurd reply

-- ---- bytes as they are

-- what is asked of them, if they are not too many
abbrev pub OfBytes : BytesOrder → List (List ℕ) → List ℕ → List ℕ → Status → Type 0
OfBytes (bytes_order.Exec budget) words bytes text status = BytesAnswer (called budget words) bytes text status
OfBytes (bytes_order.Calls budget) words bytes text status = SourceAnswer budget bytes text status

pub few_bytes : (order : BytesOrder) (words : List (List ℕ)) (bytes text : List ℕ) (status : Status) → length bytes ≤ 16777216 → OfBytes order words bytes text status → ByOrder (order_about_bytes order) words bytes text status
unfolding ExecAnswer CallsAnswer
few_bytes (bytes_order.Exec budget) words bytes text status short answer = inr ((λ long. omega (arith, short, long)), answer)
few_bytes (bytes_order.Calls budget) words bytes text status short answer = inr ((λ long. omega (arith, short, long)), answer)

many_bytes : (order : BytesOrder) (words : List (List ℕ)) (bytes text : List ℕ) (status : Status) → 16777216 < length bytes → IsReply text status (line (codes "error 2: text too long")) TooLong → ByOrder (order_about_bytes order) words bytes text status
unfolding ExecAnswer CallsAnswer
many_bytes (bytes_order.Exec budget) words bytes text status long reply = inl (long, reply)
many_bytes (bytes_order.Calls budget) words bytes text status long reply = inl (long, reply)

bytes_take : (order : BytesOrder) → TakesSome (intake_of (order_about_bytes order))
bytes_take (bytes_order.Exec budget) = tt
bytes_take (bytes_order.Calls budget) = tt

bytes_state_none : (order : BytesOrder) (words : List (List ℕ)) → StatesUnits (order_about_bytes order) words
bytes_state_none (bytes_order.Exec budget) words = tt
bytes_state_none (bytes_order.Calls budget) words = tt

pub bytes_read : (words : List (List ℕ)) (order : BytesOrder) → order_of words ≡ Some (order_about_bytes order) → Reads words
bytes_read words order ordered = record { order = order_about_bytes order; ordered = ordered; some = bytes_take order; units = bytes_state_none order words }

module _ (words : List (List ℕ)) (left : Option (List ℕ)) (before now : ℕ) (order : BytesOrder) (ordered : order_of words ≡ Some (order_about_bytes order)) where
  pub bytes_unread : {T : Type 0} (result : Result T ReadStop) (stop : ReadStop) (text : List ℕ) (status : Status) → result ≡ Err stop → (IsErrOf result TooLongToRead → TellsMoreThan 16777216 left) → (IsErrOf result ReadFailed → Rose before now)
      → IsReadReply stop text status → IsPlanned words left before now text status
  bytes_unread result TooLongToRead text status is long rose reply =
      let more = long is in
      order_planned words left before now (order_about_bytes order) more.bytes text status ordered more.told (many_bytes order words more.bytes text status more.more reply)
  bytes_unread result ReadFailed text status is long rose reply = inr (reply, bytes_read words order ordered, rose is)
  bytes_unread result OutOfMemory text status is long rose reply = absurd reply

-- what is planned with the status of a failed read has its cause
pub planned_read_fault : (words : List (List ℕ)) (left : Option (List ℕ)) (before now : ℕ) (text : List ℕ) (status : Status) → IsPlanned words left before now text status → status ≡ ReadFault → Rose before now
planned_read_fault words left before now text status (inl (bytes, told, answer)) is = let no : IsTrue (is_answered ReadFault) = rw is at (Answer-status words bytes text status answer) in absurd (cc)
planned_read_fault words left before now text status (inr (reply, reads, rose)) is = rose

-- nothing is planned with the status of a failed write
pub planned_write_fault : (words : List (List ℕ)) (left : Option (List ℕ)) (before now : ℕ) (text : List ℕ) (status : Status) → IsPlanned words left before now text status → status ≡ WriteFault → ⊥
planned_write_fault words left before now text status (inl (bytes, told, answer)) is = let no : IsTrue (is_answered WriteFault) = rw is at (Answer-status words bytes text status answer) in cc
planned_write_fault words left before now text status (inr (reply, reads, rose)) is = let no : ReadFault ≡ WriteFault = sym reply.1 ∙ is in cc

-- nor with that of want of memory
pub planned_no_memory : (words : List (List ℕ)) (left : Option (List ℕ)) (before now : ℕ) (text : List ℕ) (status : Status) → IsPlanned words left before now text status → status ≡ NoMemory → ⊥
planned_no_memory words left before now text status (inl (bytes, told, answer)) is = let no : IsTrue (is_answered NoMemory) = rw is at (Answer-status words bytes text status answer) in cc
planned_no_memory words left before now text status (inr (reply, reads, rose)) is = let no : ReadFault ≡ NoMemory = sym reply.1 ∙ is in cc no

-- a source that isn't read, and whose fault isn't told, met none
pub unread_calm : {T : Type 0} (result : Result T ReadStop) (stop : ReadStop) (before now : ℕ) (text : List ℕ) (status : Status) → result ≡ Err stop → ((IsErrOf result ReadFailed → ⊥) → now ≡ before) → IsReadReply stop text status → (status ≡ ReadFault → ⊥) → now ≡ before
unread_calm result TooLongToRead before now text status is calm reply other = calm (λ failed. cc (is, failed))
unread_calm result ReadFailed before now text status is calm reply other = absurd (other reply.1)
unread_calm result OutOfMemory before now text status is calm reply other = absurd reply
