-- The command that the words of a call are.
use Rattle.std.proofs.Common.{◌≡◌, ℕ, ◌<◌, ◌≤◌, Bool, true, false, ◌&&◌, if◌then◌else◌, List, [], ◌∷◌, length, codes, None, Some, MatchOption, refl, sym, ap, subst, ◌∙◌, arith}
use Rattle.std.specs.Prelude.{Option, nat_lt, nat_le, decimal}
use Rattle.std.specs.Char.{is_ascii_digit}
use Rattle.std.specs.List.{list_all}
use Rattle.std.specs.Str.{IsUtf8, is_utf8}
use Rattle.std.specs.Str.Parse.{AllDigits, digits_value}
use Rattle.std.proofs.lemmas.Bool.{le-leb, lt-leb}
use Rattle.std.proofs.lemmas.Fmt.{decimal_is_IsNumeral, length-decimal-le}
use Rattle.std.proofs.lemmas.Str.{IsUtf8-from_is_utf8, is_utf8-from_IsUtf8}
use Rattle.std.proofs.lemmas.Str.Parse.{digit_from_value}
use Rattle.um_orders.specs.declared.order.Order.{Order}
use Rattle.um_orders.specs.declared.order.Order.TheVariants.{Types, Run}
use Rattle.um_orders.specs.Orders.{is_short, are_few_digits, budget_of, call_order, order_by_count, order_of}
use Rattle.um_orders.proofs.OrderWords.{by_count, none_of_long}
use Rattle.um_orders.proofs.LineWords.{IsBudget, run_named}
use Rattle.um_reports.specs.declared.status.Status.{Status}
use Rattle.um_answers.specs.TypesAnswer.{TypesAnswer}
use Rattle.um_call_answers.specs.declared.way.Way.TheVariants as way
use Rattle.um_call_answers.specs.CallAnswer.{CallAnswer}
use Rattle.um_call_answers.specs.CallsAnswer.{are_short, call_by}
use Rattle.um_tool.specs.Answer.{Answer, ByOrder, IsUsageReply}
use Rattle.um_tool.proofs.PrintedSchemes.{types_ordered}
use Rattle.um_embed.specs.Embedded.{types_words, words_between, run_words}

-- ---- answers by the order that words name
module _ (words : List (List ℕ)) (bytes text : List ℕ) (status : Status) where
  abbrev Ordered : Option Order → Type 0
  Ordered order = MatchOption order (IsUsageReply text status) (λ o. ByOrder o words bytes text status)

  ordered : (order : Option Order) → order_of words ≡ order → Ordered order → Answer words bytes text status
  unfolding Answer
  ordered order is answer = subst Ordered (sym is) answer

  pub no_order : order_of words ≡ None → IsUsageReply text status → Answer words bytes text status
  no_order none reply = ordered None none reply

pub types_answer : (bytes text : List ℕ) (status : Status) → TypesAnswer bytes text status → Answer types_words bytes text status
types_answer bytes text status answer = ordered types_words bytes text status (Some Types) types_ordered answer

unnamed : order_of (codes "?" ∷ []) ≡ None
unfolding order_of
unnamed = refl

pub unreadable_answer : (bytes text : List ℕ) (status : Status) → IsUsageReply text status → Answer (codes "?" ∷ []) bytes text status
unreadable_answer bytes text status reply = no_order (codes "?" ∷ []) bytes text status unnamed reply

-- ---- the word that states a budget
both : (a b : Bool) → a ≡ true → b ≡ true → (a && b) ≡ true
both a b first second = λ i. first i && second i

none_of : (a b : Bool) → b ≡ false → (a && b) ≡ false
none_of true b none = none
none_of false b none = refl

are_digits : (ds : List ℕ) → AllDigits 10 ds → list_all is_ascii_digit ds ≡ true
are_digits [] all = refl
are_digits (d ∷ ds) all =
    let in_range = digit_from_value d all.0 in
    both (is_ascii_digit d) (list_all is_ascii_digit ds) (both (nat_le 48 d) (nat_le d 57) (le-leb 48 d in_range.0) (le-leb d 57 in_range.1)) (are_digits ds all.1)

module _ (budget : ℕ) (fits : budget < 18446744073709551616) where
  abbrev Word : List ℕ
  Word = decimal budget

  value : digits_value 10 Word ≡ budget
  value = (decimal_is_IsNumeral budget fits).1

  small_stated : budget ≤ 10000000 → IsBudget Word budget
  small_stated small =
      let short : length Word ≤ 8 = length-decimal-le 8 budget (omega arith) (omega (arith, small)) fits in
      let some : 0 < length Word = (decimal_is_IsNumeral budget fits).0.0 in
      let few : are_few_digits Word ≡ true =
      both (nat_lt 0 (length Word) && nat_le (length Word) 8) (list_all is_ascii_digit Word)
      (both (nat_lt 0 (length Word)) (nat_le (length Word) 8) (le-leb 1 (length Word) some) (le-leb (length Word) 8 short))
      (are_digits Word (decimal_is_IsNumeral budget fits).0.1) in
      let limit : nat_le (digits_value 10 Word) 10000000 ≡ true = le-leb (digits_value 10 Word) 10000000 (omega (arith, small, value)) in
      record {
        short = le-leb (length Word) 1048576 (omega (arith, short));
        stated = ap (λ t. if t then Some (digits_value 10 Word) else None) (both (are_few_digits Word) (nat_le (digits_value 10 Word) 10000000) few limit) ∙ ap Some value;
      }

  great_unstated : 10000000 < budget → budget_of Word ≡ None
  great_unstated great =
      ap (λ t. if t then Some (digits_value 10 Word) else None)
      (none_of (are_few_digits Word) (nat_le (digits_value 10 Word) 10000000) (lt-leb (digits_value 10 Word) 10000000 (omega (arith, great, value))))

  -- ---- the words of a call
  abbrev Words : List (List ℕ) → List (List ℕ)
  Words words = codes "run" ∷ Word ∷ words

  run_ordered : (words : List (List ℕ)) → 0 < length words → budget ≤ 10000000 → list_all is_short words ≡ true → order_of (Words words) ≡ Some (Run budget)
  run_ordered [] some small short = absurd (omega (arith, some))
  run_ordered (name ∷ more) some small short = run_named Word budget (small_stated small) name more short

  great_by_count : (name : List ℕ) (more : List (List ℕ)) → 10000000 < budget → order_by_count (Words (name ∷ more)) ≡ None
  great_by_count name [] great = ap (call_order (codes "run")) (great_unstated great)
  great_by_count name (text ∷ []) great = ap (call_order (codes "run")) (great_unstated great)
  great_by_count name (text ∷ another ∷ more) great = ap (call_order (codes "run")) (great_unstated great)

  great_unordered : (words : List (List ℕ)) → 0 < length words → 10000000 < budget → order_of (Words words) ≡ None
  great_unordered [] some great = absurd (omega (arith, some))
  great_unordered (name ∷ more) some great = by (list_all is_short (Words (name ∷ more))) refl
    where
      by : (t : Bool) → list_all is_short (Words (name ∷ more)) ≡ t → order_of (Words (name ∷ more)) ≡ None
      by true short = by_count (Words (name ∷ more)) short ∙ great_by_count name more great
      by false long = none_of_long (Words (name ∷ more)) long

  long_unordered : (words : List (List ℕ)) → list_all is_short words ≡ false → order_of (Words words) ≡ None
  long_unordered words long =
      none_of_long (Words words) (none_of (is_short (codes "run")) (list_all is_short (Word ∷ words)) (none_of (is_short Word) (list_all is_short words) long))

  module _ (words : List (List ℕ)) (bytes text : List ℕ) (status : Status) where
    pub run_answer : 0 < length words → budget ≤ 10000000 → are_short words ≡ true → CallAnswer way.Code (call_by budget words) bytes text status → Answer (Words words) bytes text status
    run_answer some small short answer = ordered (Words words) bytes text status (Some (Run budget)) (run_ordered words some small short) answer

    pub great_answer : 0 < length words → 10000000 < budget → IsUsageReply text status → Answer (Words words) bytes text status
    great_answer some great reply = no_order (Words words) bytes text status (great_unordered words some great) reply

    pub long_answer : are_short words ≡ false → IsUsageReply text status → Answer (Words words) bytes text status
    long_answer long reply = no_order (Words words) bytes text status (long_unordered words long) reply

-- ---- of bytes
module _ (budget : ℕ) (bytes : List ℕ) where
  abbrev Chosen : Bool → List (List ℕ)
  Chosen is_text = if is_text then codes "run" ∷ decimal budget ∷ words_between bytes else codes "?" ∷ []

  pub readable : IsUtf8 bytes → codes "run" ∷ decimal budget ∷ words_between bytes ≡ run_words budget bytes
  readable is = ap Chosen (sym (is_utf8-from_IsUtf8 bytes is))

  pub unreadable : ¬ (IsUtf8 bytes) → codes "?" ∷ [] ≡ run_words budget bytes
  unreadable is_not = by (is_utf8 bytes) refl
    where
      by : (is_text : Bool) → is_utf8 bytes ≡ is_text → codes "?" ∷ [] ≡ run_words budget bytes
      by true is = absurd (is_not (IsUtf8-from_is_utf8 bytes is))
      by false is = ap Chosen (sym is)
