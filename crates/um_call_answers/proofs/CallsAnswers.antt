-- The answers to many calls: line by line, one answer, its status, and when it is done.
use Rattle.std.proofs.Common.{◌≡◌, ℕ, ◌<◌, ◌≤◌, ◌==◌, Bool, true, false, ◌&&◌, IsTrue, List, [], ◌∷◌, ◌++◌, length, map, drop, get_or, codes, All, refl, sym, ap, subst, ◌∙◌, append_assoc, inl, inr, arith, eqb-true}
use Rattle.std.specs.Prelude.{nat_le}
use Rattle.std.specs.Str.{IsUtf8}
use Rattle.std.proofs.lemmas.Bool.{leb-true}
use Rattle.std.proofs.lemmas.List.{append-nil}
use Rattle.std.proofs.lemmas.List.Elements.{All-nil, All-cons}
use Rattle.um_parse.specs.Laws.{AnswersAreUnique}
use Rattle.um_lines.specs.Sources.{lines_between, calls_in, whole_lines, without_return, call_lines, program_in, calls_of, words_in}
use Rattle.um_reports.specs.declared.status.Status.{Status}
use Rattle.um_reports.specs.declared.status.Status.TheVariants.{Done, TooLong}
use Rattle.um_reports.specs.Steps.{line, IsReply, Cases}
use Rattle.um_reports.proofs.ReportStatuses.{is_answered}
use Rattle.um_front.specs.Stages.{CheckedTree, IsCheckedText}
use Rattle.um_front.specs.Refused.{IsUnchecked}
use Rattle.um_front.proofs.StageLaws.{checked_given, checked_answered, checked_once}
use Rattle.um_front.proofs.TooLongTexts.{too_long_unchecked}
use Rattle.um_call_answers.specs.declared.way.Way.TheVariants as way
use Rattle.um_call_answers.specs.AskedCall.{AskedCall}
use Rattle.um_call_answers.specs.CallsAnswer.{call_by, are_short, IsRunText, IsLineAnswer, AreLineAnswers, AreCallsAnswers, SourceAnswer, CallsAnswer}
use Rattle.um_call_answers.proofs.UniqueReplies.{call_once}

-- ---- lines with and without bytes

pub none_of : (bytes : List ℕ) → length bytes == 0 ≡ true → bytes ≡ []
none_of [] e = refl
none_of (b ∷ bytes) e = absurd (let none = eqb-true (length (b ∷ bytes)) 0 e in omega (arith, none))

pub some_of : (bytes : List ℕ) → length bytes == 0 ≡ false → bytes ≡ [] → ⊥
some_of bytes e none = let wrong : false ≡ true = sym e ∙ ap (λ (xs : List ℕ). length xs == 0) none in cc wrong

-- ---- a line

-- an empty one
pub empty_line : (budget : ℕ) (c : CheckedTree) (bytes text : List ℕ) → bytes ≡ [] → text ≡ line [] → IsLineAnswer budget c bytes text
unfolding IsLineAnswer
empty_line budget c bytes text none is = inl (none, is)

module _ (budget : ℕ) (c : CheckedTree) (bytes text : List ℕ) (some : bytes ≡ [] → ⊥) where
  -- one that isn't UTF-8
  pub unreadable_line : (IsUtf8 bytes → ⊥) → text ≡ line (codes "error 1: usage") → IsLineAnswer budget c bytes text
  unfolding IsLineAnswer
  unreadable_line unreadable is = inr (some, inr ((λ has. unreadable has.0), is))

  -- one with words
  pub line_of_words : IsUtf8 bytes → Cases (IsTrue (are_short (words_in bytes))) (IsRunText budget c (words_in bytes) text) (text ≡ line (codes "error 1: usage")) → IsLineAnswer budget c bytes text
  unfolding IsLineAnswer
  line_of_words utf8 (inl (short, run)) = inr (some, inl ((utf8, short), run))
  line_of_words utf8 (inr (long, is)) = inr (some, inr ((λ has. long has.1), is))

-- ---- the words of a call

both : (a b : Bool) → (a && b) ≡ true → (a ≡ true) × (b ≡ true)
both true b e = (refl, e)
both false b e = absurd cc

pub all_short : (words : List (List ℕ)) → are_short words ≡ true → All (λ (word : List ℕ). length word ≤ 1048576) words
all_short [] e = All-nil (λ (word : List ℕ). length word ≤ 1048576)
all_short (w ∷ ws) e =
    let h = both (nat_le (length w) 1048576) (are_short ws) e in
    All-cons (λ (word : List ℕ). length word ≤ 1048576) w ws (leb-true (length w) 1048576 h.0) (all_short ws h.1)

-- the call by the words, of which the first is the name
pub call_by_first : {X : Type 0} (f : X → List ℕ) (budget : ℕ) (words rest : List X) (x : X) (name : List ℕ) → 0 < length words → x ≡ get_or words 0 x → name ≡ f x → rest ≡ drop 1 words
    → ◌≡◌ {A = AskedCall} (record { budget = budget; name = name; texts = map f rest }) (call_by budget (map f words))
call_by_first f budget [] rest x name some first named others = absurd (omega (arith, some))
call_by_first f budget (word ∷ words) rest x name some first named others =
    let its : name ≡ f word = named ∙ ap f first in λ i. record { budget = budget; name = its i; texts = map f (others i) }

-- ---- all lines, one after another

-- the answers so far, with those of the lines that are left, are those of all lines
abbrev pub AreAnswered : ℕ → CheckedTree → List (List ℕ) → List (List ℕ) → List ℕ → Type 0
AreAnswered budget c all left text = (rest : List ℕ) → AreLineAnswers budget c left rest → AreLineAnswers budget c all (text ++ rest)

module _ (budget : ℕ) (c : CheckedTree) (all : List (List ℕ)) where
  pub none_answered : AreAnswered budget c all all []
  none_answered rest answers = answers

  pub next_answered : (left more : List (List ℕ)) (bytes text one : List ℕ) → AreAnswered budget c all left text → left ≡ bytes ∷ more → IsLineAnswer budget c bytes one → AreAnswered budget c all more (text ++ one)
  next_answered left more bytes text one so_far is answer rest answers =
      subst (AreLineAnswers budget c all) (sym (append_assoc text one rest))
      (so_far (one ++ rest) (subst (λ ls. AreLineAnswers budget c ls (one ++ rest)) (sym is) (one, rest, answer, answers, refl)))

  pub all_answered : (left : List (List ℕ)) (text : List ℕ) → AreAnswered budget c all left text → left ≡ [] → AreLineAnswers budget c all text
  all_answered left text so_far none =
      subst (AreLineAnswers budget c all) (append-nil text) (so_far [] (subst (λ ls. AreLineAnswers budget c ls []) (sym none) refl))

-- ---- a source that is too long

pub long_source : (budget : ℕ) (bytes text : List ℕ) (status : Status) → 1048576 < length (program_in bytes) → IsReply text status (line (codes "error 2: text too long")) TooLong → SourceAnswer budget bytes text status
unfolding SourceAnswer
long_source budget bytes text status long reply = inr (too_long_unchecked (program_in bytes) text status long reply)

-- ---- a source in two

module _ (budget : ℕ) (bytes program : List ℕ) where
  pub source_refused : (text : List ℕ) (status : Status) → program ≡ program_in bytes → IsUnchecked program text status → SourceAnswer budget bytes text status
  unfolding SourceAnswer
  source_refused text status is refused = inr (subst (λ (s : List ℕ). IsUnchecked s text status) is refused)

  pub source_of : (calls : List ℕ) (c : CheckedTree) (text : List ℕ) (status : Status) → program ≡ program_in bytes → whole_lines (lines_between calls) ≡ whole_lines (calls_in (lines_between bytes)) → IsCheckedText program c
      → AreCallsAnswers budget (call_lines calls) c text status → SourceAnswer budget bytes text status
  unfolding SourceAnswer
  source_of calls c text status is called checked answers = inl (
    c,
    subst (λ (s : List ℕ). IsCheckedText s c) is checked,
    subst (λ (ls : List (List ℕ)). AreCallsAnswers budget (map without_return ls) c text status) called answers,
  )

-- ---- the answers are one

module _ (budget : ℕ) (source : List ℕ) (c : CheckedTree) (checked : IsCheckedText source c) where
  run_once : (words : List (List ℕ)) (text other : List ℕ) → IsRunText budget c words text → IsRunText budget c words other → text ≡ other
  run_once words text other (status, h) (another, k) = (call_once text other status another way.Code (call_by budget words) source c checked h k).0

  line_once : (bytes text other : List ℕ) → IsLineAnswer budget c bytes text → IsLineAnswer budget c bytes other → text ≡ other
  unfolding IsLineAnswer
  line_once bytes text other (inl (none, h)) (inl (also, k)) = h ∙ sym k
  line_once bytes text other (inl (none, h)) (inr (some, k)) = absurd (some none)
  line_once bytes text other (inr (some, h)) (inl (none, k)) = absurd (some none)
  line_once bytes text other (inr (some, inl (has, h))) (inr (also, inl (too, k))) = run_once (words_in bytes) text other h k
  line_once bytes text other (inr (some, inl (has, h))) (inr (also, inr (lacks, k))) = absurd (lacks has)
  line_once bytes text other (inr (some, inr (lacks, h))) (inr (also, inl (has, k))) = absurd (lacks has)
  line_once bytes text other (inr (some, inr (lacks, h))) (inr (also, inr (too, k))) = h ∙ sym k

  lines_once : (lines : List (List ℕ)) (text other : List ℕ) → AreLineAnswers budget c lines text → AreLineAnswers budget c lines other → text ≡ other
  lines_once [] text other h k = h ∙ sym k
  lines_once (bytes ∷ more) text other (first, rest, a, b, is) (one, others, d, e, also) =
      is ∙ (λ i. line_once bytes first one a d i ++ lines_once more rest others b e i) ∙ sym also

module _ (text other : List ℕ) (status another : Status) where
  source_one : AnswersAreUnique → (budget : ℕ) (bytes : List ℕ) → SourceAnswer budget bytes text status → SourceAnswer budget bytes other another → (text ≡ other) × (status ≡ another)
  unfolding SourceAnswer
  source_one one budget bytes a b =
      checked_once (AreCallsAnswers budget (calls_of bytes)) (program_in bytes) text status other another one
      (λ c is h k. (lines_once budget (program_in bytes) c is (calls_of bytes) text other h.0 k.0, h.1 ∙ sym k.1)) a b

  pub calls_one : AnswersAreUnique → (budget : ℕ) (bytes : List ℕ) → CallsAnswer budget bytes text status → CallsAnswer budget bytes other another → (text ≡ other) × (status ≡ another)
  unfolding CallsAnswer
  calls_one one budget bytes (inl (long, a)) (inl (also, b)) = (a.0 ∙ sym b.0, a.1 ∙ sym b.1)
  calls_one one budget bytes (inl (long, a)) (inr (short, b)) = absurd (short long)
  calls_one one budget bytes (inr (short, a)) (inl (long, b)) = absurd (short long)
  calls_one one budget bytes (inr (short, a)) (inr (also, b)) = source_one one budget bytes a b

-- ---- the status

source_status : (budget : ℕ) (bytes text : List ℕ) (status : Status) → SourceAnswer budget bytes text status → IsTrue (is_answered status)
unfolding SourceAnswer
source_status budget bytes text status answer =
    checked_answered (AreCallsAnswers budget (calls_of bytes)) (program_in bytes) text status (λ c answers. rw answers.1 refl) answer

pub CallsAnswer-status : (budget : ℕ) (bytes text : List ℕ) (status : Status) → CallsAnswer budget bytes text status → IsTrue (is_answered status)
unfolding CallsAnswer
CallsAnswer-status budget bytes text status (inl (long, reply)) = rw reply.1 refl
CallsAnswer-status budget bytes text status (inr (short, answer)) = source_status budget bytes text status answer

-- of a source that is short enough with a checked program
module _ (budget : ℕ) (bytes : List ℕ) (c : CheckedTree) (is : IsCheckedText (program_in bytes) c) (text : List ℕ) (status : Status) where
  source_done : SourceAnswer budget bytes text status → status ≡ Done
  unfolding SourceAnswer
  source_done answer = (checked_given (AreCallsAnswers budget (calls_of bytes)) (program_in bytes) text status c is answer).1

  pub calls_done : length bytes ≤ 16777216 → CallsAnswer budget bytes text status → status ≡ Done
  unfolding CallsAnswer
  calls_done short (inl (long, reply)) = absurd (omega (arith, short, long))
  calls_done short (inr (fits, answer)) = source_done answer
