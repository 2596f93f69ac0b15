-- What words are that name an order.
use Rattle.std.proofs.Common.{◌≡◌, ℕ, ◌<◌, ◌≤◌, Bool, true, false, ◌&&◌, IsTrue, if◌then◌else◌, List, [], ◌∷◌, length, drop, get_or, codes, All, Some, None, Result, Ok, refl, sym, ap, subst, ◌∙◌, arith}
use Rattle.std.specs.Prelude.{Option, nat_lt, nat_le, slice_get}
use Rattle.std.specs.Char.{is_ascii_digit}
use Rattle.std.specs.List.{list_all}
use Rattle.std.specs.Str.{bytes_eq, all_ascii_digits}
use Rattle.std.specs.Str.Parse.{digits_value, ParsesUnsigned}
use Rattle.std.proofs.lemmas.Bool.{leb-true}
use Rattle.std.proofs.lemmas.Str.Parse.{numerals_by_value, tells_all_ascii_digits, digits_value_short, parse_gives}
use Rattle.std.proofs.lemmas.Slice.Eq.{bytes_eq-Decides}
use Rattle.std.proofs.lemmas.List.Elements.{All-nil, All-cons}
use Rattle.um_sizes.specs.ScaleWords.{is_scales}
use Rattle.um_orders.specs.declared.order.Order.{Order}
use Rattle.um_orders.specs.declared.order.Order.TheVariants.{Types, Explain, Annot, Code, Fmt, Tidy, Run, Steps, Eval, Trace, Show, Conform, Rescale, Twin, Big, Prove, Image, Exec, Calls}
use Rattle.um_orders.specs.declared.order.Intake.TheVariants.{Generated, Text, Bytes}
use Rattle.um_orders.specs.declared.order.BytesOrder.{BytesOrder}
use Rattle.um_orders.specs.declared.order.BytesOrder.TheVariants as bytes
use Rattle.um_orders.specs.declared.order.TextOrder.{TextOrder}
use Rattle.um_orders.specs.declared.order.TextOrder.TheVariants as text
use Rattle.um_orders.specs.Orders.{is_short, are_few_digits, budget_of, states_count, count_of, states_digits, digits_of, big_order, rescale_order, calls_order, order_of_two, order_alone, call_order, order_of_three, twin_order, order_of_many, show_order, longest_order, longer_order, order_by_count, order_of, intake_of, order_about, order_about_bytes}

pub both : (a b : Bool) → (a && b) ≡ true → (a ≡ true) × (b ≡ true)
both true b e = (refl, e)
both false b e = absurd cc

-- ---- each word is short, and the words have the form of their count
pub named_by_count : (words : List (List ℕ)) (o : Order) → order_of words ≡ Some o → (list_all is_short words ≡ true) × (order_by_count words ≡ Some o)
unfolding order_of
named_by_count words o e = by (list_all is_short words) refl e where
  by : (t : Bool) → list_all is_short words ≡ t → (if t then order_by_count words else None) ≡ Some o → (list_all is_short words ≡ true) × (order_by_count words ≡ Some o)
  by true s named = (s, named)
  by false s named = absurd (cc named)

abbrev IsShort : List ℕ → Type 0
IsShort word = length word ≤ 1048576

all_short : (words : List (List ℕ)) → list_all is_short words ≡ true → All IsShort words
all_short [] e = All-nil IsShort
all_short (w ∷ ws) e =
    let h = both (is_short w) (list_all is_short ws) e in
    All-cons IsShort w ws (leb-true (length w) 1048576 h.0) (all_short ws h.1)

pub short_words : (words : List (List ℕ)) (o : Order) → order_of words ≡ Some o → All IsShort words
short_words words o e = all_short words (named_by_count words o e).0

pub none_of_long : (words : List (List ℕ)) → list_all is_short words ≡ false → order_of words ≡ None
unfolding order_of
none_of_long words e = ap (λ t. if t then order_by_count words else None) e

pub by_count : (words : List (List ℕ)) → list_all is_short words ≡ true → order_of words ≡ order_by_count words
unfolding order_of
by_count words e = ap (λ t. if t then order_by_count words else None) e

-- ---- the forms by the count of words
pub none_of_few : (words : List (List ℕ)) → (length words ≡ 1 → ⊥) → (length words ≡ 2 → ⊥) → length words < 3 → order_by_count words ≡ None
none_of_few [] more other few = refl
none_of_few (w ∷ []) more other few = absurd (more refl)
none_of_few (w ∷ v ∷ []) more other few = absurd (other refl)
none_of_few (w ∷ v ∷ u ∷ ws) more other few = absurd (omega (arith, few))

pub alone_of_one : (words : List (List ℕ)) (w : List ℕ) → length words ≡ 1 → slice_get words 0 ≡ Some w → order_by_count words ≡ order_alone w
alone_of_one [] w e h = absurd (omega (arith, e))
alone_of_one (x ∷ []) w e h = let same : x ≡ w = cc h in ap order_alone same
alone_of_one (x ∷ y ∷ ws) w e h = absurd (omega (arith, e))

pub pair_of_two : (words : List (List ℕ)) (w v : List ℕ) → length words ≡ 2 → slice_get words 0 ≡ Some w → slice_get words 1 ≡ Some v → order_by_count words ≡ order_of_two w v
pair_of_two [] w v e first second = absurd (omega (arith, e))
pair_of_two (x ∷ []) w v e first second = absurd (omega (arith, e))
pair_of_two (x ∷ y ∷ []) w v e first second = let same : x ≡ w = cc first in let other : y ≡ v = cc second in (λ i. order_of_two (same i) (other i))
pair_of_two (x ∷ y ∷ z ∷ ws) w v e first second = absurd (omega (arith, e))

pub longer_of_more : (words : List (List ℕ)) → 2 < length words → order_by_count words ≡ longer_order (get_or words 0 []) (get_or words 1 []) (get_or words 2 []) (drop 3 words)
longer_of_more [] l = absurd (omega (arith, l))
longer_of_more (w ∷ []) l = absurd (omega (arith, l))
longer_of_more (w ∷ v ∷ []) l = absurd (omega (arith, l))
longer_of_more (w ∷ v ∷ u ∷ ws) l = refl

-- of four words, and of more, by the first three
module _ (word second third : List ℕ) where
  pub longer_of_four : (words : List (List ℕ)) → length words ≡ 4 → longer_order word second third (drop 3 words) ≡ order_of_many word (budget_of second) (is_scales third)
  longer_of_four [] e = absurd (omega (arith, e))
  longer_of_four (a ∷ []) e = absurd (omega (arith, e))
  longer_of_four (a ∷ b ∷ []) e = absurd (omega (arith, e))
  longer_of_four (a ∷ b ∷ c ∷ []) e = absurd (omega (arith, e))
  longer_of_four (a ∷ b ∷ c ∷ d ∷ []) e = refl
  longer_of_four (a ∷ b ∷ c ∷ d ∷ x ∷ ws) e = absurd (omega (arith, e))

  pub longer_of_five : (words : List (List ℕ)) → 4 < length words → longer_order word second third (drop 3 words) ≡ longest_order word second third (get_or words 3 [])
  longer_of_five [] l = absurd (omega (arith, l))
  longer_of_five (a ∷ []) l = absurd (omega (arith, l))
  longer_of_five (a ∷ b ∷ []) l = absurd (omega (arith, l))
  longer_of_five (a ∷ b ∷ c ∷ []) l = absurd (omega (arith, l))
  longer_of_five (a ∷ b ∷ c ∷ d ∷ []) l = absurd (omega (arith, l))
  longer_of_five (a ∷ b ∷ c ∷ d ∷ x ∷ ws) l = refl

-- of five words or more, if the first is another command's
pub other_than_show : (word second third fourth : List ℕ) → (word ≡ codes "show" → ⊥) → longest_order word second third fourth ≡ order_of_many word (budget_of second) (is_scales third)
other_than_show word second third fourth other = by (bytes_eq word (codes "show")) refl where
  by : (t : Bool) → bytes_eq word (codes "show") ≡ t → (if t then show_order (digits_of second) (budget_of fourth) else order_of_many word (budget_of second) (is_scales third)) ≡ order_of_many word (budget_of second) (is_scales third)
  by true e = absurd (other ((bytes_eq-Decides word (codes "show")).0 e))
  by false e = refl

-- ---- what words are beside the form of their order

within_limit : (word : List ℕ) (n : ℕ) → budget_of word ≡ Some n → n ≤ 10000000
within_limit word n e = by (are_few_digits word && nat_le (digits_value 10 word) 10000000) refl e where
  by : (t : Bool) → (are_few_digits word && nat_le (digits_value 10 word) 10000000) ≡ t → (if t then Some (digits_value 10 word) else None) ≡ Some n → n ≤ 10000000
  by true s named =
      let same : digits_value 10 word ≡ n = cc named in
      subst (λ k. k ≤ 10000000) same (leb-true (digits_value 10 word) 10000000 (both (are_few_digits word) (nat_le (digits_value 10 word) 10000000) s).1)
  by false s named = absurd (cc named)

count_within : (word : List ℕ) (n : ℕ) → count_of word ≡ Some n → (1 ≤ n) × (n ≤ 2000)
count_within word n e = by (are_few_digits word && states_count word) refl e where
  by : (t : Bool) → (are_few_digits word && states_count word) ≡ t → (if t then Some (digits_value 10 word) else None) ≡ Some n → (1 ≤ n) × (n ≤ 2000)
  by true s named =
      let same : digits_value 10 word ≡ n = cc named in
      let bounds = both (nat_le (length word) 4 && nat_le 1 (digits_value 10 word)) (nat_le (digits_value 10 word) 2000) (both (are_few_digits word) (states_count word) s).1 in
      let least = both (nat_le (length word) 4) (nat_le 1 (digits_value 10 word)) bounds.0 in
      (subst (λ k. 1 ≤ k) same (leb-true 1 (digits_value 10 word) least.1), subst (λ k. k ≤ 2000) same (leb-true (digits_value 10 word) 2000 bounds.1))
  by false s named = absurd (cc named)

digits_within : (word : List ℕ) (n : ℕ) → digits_of word ≡ Some n → n ≤ 18
digits_within word n e = by (are_few_digits word && states_digits word) refl e where
  by : (t : Bool) → (are_few_digits word && states_digits word) ≡ t → (if t then Some (digits_value 10 word) else None) ≡ Some n → n ≤ 18
  by true s named =
      let same : digits_value 10 word ≡ n = cc named in
      let bound = both (nat_le (length word) 2) (nat_le (digits_value 10 word) 18) (both (are_few_digits word) (states_digits word) s).1 in
      subst (λ k. k ≤ 18) same (leb-true (digits_value 10 word) 18 bound.1)
  by false s named = absurd (cc named)

-- a call has a function's name and a budget within its limit, a generated program has few functions, and a word states
-- sizes where one shall
abbrev pub AreWordsOf : List (List ℕ) → Order → Type 0
AreWordsOf words (Run b) = (3 ≤ length words) × (b ≤ 10000000)
AreWordsOf words (Steps b) = (3 ≤ length words) × (b ≤ 10000000)
AreWordsOf words (Eval b) = (3 ≤ length words) × (b ≤ 10000000)
AreWordsOf words (Trace b) = (3 ≤ length words) × (b ≤ 10000000)
AreWordsOf words (Show d b) = (5 ≤ length words) × (d ≤ 18) × (b ≤ 10000000)
AreWordsOf words Conform = 3 ≤ length words
AreWordsOf words Rescale = (2 ≤ length words) × IsTrue (is_scales (get_or words 1 []))
AreWordsOf words (Twin b) = (4 ≤ length words) × (b ≤ 10000000) × IsTrue (is_scales (get_or words 2 []))
AreWordsOf words (Big n) = (1 ≤ n) × (n ≤ 2000)
AreWordsOf words (Exec b) = (3 ≤ length words) × (b ≤ 10000000)
AreWordsOf words (Calls b) = b ≤ 10000000
AreWordsOf words order = Unit {0}

words_alone : (word : List ℕ) (o : Order) → order_alone word ≡ Some o → AreWordsOf (word ∷ []) o
words_alone word o e = by (bytes_eq word (codes "types")) (bytes_eq word (codes "explain")) (bytes_eq word (codes "annot")) (bytes_eq word (codes "code")) (bytes_eq word (codes "fmt")) (bytes_eq word (codes "tidy")) (bytes_eq word (codes "prove")) (bytes_eq word (codes "image")) e where
  by : (s r a t u x v w : Bool) → (if s then Some Types else if r then Some Explain else if a then Some Annot else if t then Some Code else if u then Some Fmt else if x then Some Tidy else if v then Some Prove else if w then Some Image else None) ≡ Some o → AreWordsOf (word ∷ []) o
  by true r a t u x v w named = let same : Types ≡ o = cc named in subst (AreWordsOf (word ∷ [])) same tt
  by false true a t u x v w named = let same : Explain ≡ o = cc named in subst (AreWordsOf (word ∷ [])) same tt
  by false false true t u x v w named = let same : Annot ≡ o = cc named in subst (AreWordsOf (word ∷ [])) same tt
  by false false false true u x v w named = let same : Code ≡ o = cc named in subst (AreWordsOf (word ∷ [])) same tt
  by false false false false true x v w named = let same : Fmt ≡ o = cc named in subst (AreWordsOf (word ∷ [])) same tt
  by false false false false false true v w named = let same : Tidy ≡ o = cc named in subst (AreWordsOf (word ∷ [])) same tt
  by false false false false false false true w named = let same : Prove ≡ o = cc named in subst (AreWordsOf (word ∷ [])) same tt
  by false false false false false false false true named = let same : Image ≡ o = cc named in subst (AreWordsOf (word ∷ [])) same tt
  by false false false false false false false false named = absurd (cc named)

words_of_two : (word second : List ℕ) (o : Order) → order_of_two word second ≡ Some o → AreWordsOf (word ∷ second ∷ []) o
words_of_two word second o e = by (bytes_eq word (codes "big")) (count_of second) refl (bytes_eq word (codes "rescale")) (is_scales second) refl (bytes_eq word (codes "calls")) (budget_of second) refl e where
  by : (s : Bool) (count : Option ℕ) → count_of second ≡ count → (t stated : Bool) → is_scales second ≡ stated → (u : Bool) (limit : Option ℕ) → budget_of second ≡ limit
      → (if s then big_order count else if t then rescale_order stated else if u then calls_order limit else None) ≡ Some o → AreWordsOf (word ∷ second ∷ []) o
  by true (Some n) is t stated so u limit within named = let same : Big n ≡ o = cc named in subst (AreWordsOf (word ∷ second ∷ [])) same (count_within second n is)
  by true None is t stated so u limit within named = absurd (cc named)
  by false count is true true so u limit within named = let same : Rescale ≡ o = cc named in subst (AreWordsOf (word ∷ second ∷ [])) same (omega arith, so)
  by false count is true false so u limit within named = absurd (cc named)
  by false count is false stated so true (Some n) within named = let same : Calls n ≡ o = cc named in subst (AreWordsOf (word ∷ second ∷ [])) same (within_limit second n within)
  by false count is false stated so true None within named = absurd (cc named)
  by false count is false stated so false limit within named = absurd (cc named)

words_of_call : (words : List (List ℕ)) (word : List ℕ) (limit : Option ℕ) (o : Order) → 3 ≤ length words → ((n : ℕ) → limit ≡ Some n → n ≤ 10000000) → call_order word limit ≡ Some o → AreWordsOf words o
words_of_call words word None o many within e = absurd (cc e)
words_of_call words word (Some n) o many within e = by (bytes_eq word (codes "run")) (bytes_eq word (codes "steps")) (bytes_eq word (codes "eval")) (bytes_eq word (codes "trace")) (bytes_eq word (codes "exec")) e where
  by : (s t u x v : Bool) → (if s then Some (Run n) else if t then Some (Steps n) else if u then Some (Eval n) else if x then Some (Trace n) else if v then Some (Exec n) else None) ≡ Some o → AreWordsOf words o
  by true t u x v named = let same : Run n ≡ o = cc named in subst (AreWordsOf words) same (many, within n refl)
  by false true u x v named = let same : Steps n ≡ o = cc named in subst (AreWordsOf words) same (many, within n refl)
  by false false true x v named = let same : Eval n ≡ o = cc named in subst (AreWordsOf words) same (many, within n refl)
  by false false false true v named = let same : Trace n ≡ o = cc named in subst (AreWordsOf words) same (many, within n refl)
  by false false false false true named = let same : Exec n ≡ o = cc named in subst (AreWordsOf words) same (many, within n refl)
  by false false false false false named = absurd (cc named)

words_of_three : (word second third : List ℕ) (o : Order) → order_of_three word (budget_of second) ≡ Some o → AreWordsOf (word ∷ second ∷ third ∷ []) o
words_of_three word second third o e = by (bytes_eq word (codes "conform")) e where
  many : 3 ≤ length (word ∷ second ∷ third ∷ [])
  many = omega arith

  by : (t : Bool) → (if t then Some Conform else call_order word (budget_of second)) ≡ Some o → AreWordsOf (word ∷ second ∷ third ∷ []) o
  by true named = let same : Conform ≡ o = cc named in subst (AreWordsOf (word ∷ second ∷ third ∷ [])) same many
  by false named = words_of_call (word ∷ second ∷ third ∷ []) word (budget_of second) o many (within_limit second) named

-- more words than three
module _ (word second third fourth : List ℕ) (more : List (List ℕ)) where
  abbrev More : Order → Type 0
  More o = AreWordsOf (word ∷ second ∷ third ∷ fourth ∷ more) o

  words_of_many : (o : Order) → order_of_many word (budget_of second) (is_scales third) ≡ Some o → More o
  words_of_many o e = by (bytes_eq word (codes "twin")) (budget_of second) refl (is_scales third) refl e where
    by : (t : Bool) (limit : Option ℕ) → budget_of second ≡ limit → (stated : Bool) → is_scales third ≡ stated → (if t then twin_order limit stated else call_order word limit) ≡ Some o → More o
    by true None is stated so named = absurd (cc named)
    by true (Some n) is true so named = let same : Twin n ≡ o = cc named in subst More same (omega arith, within_limit second n is, so)
    by true (Some n) is false so named = absurd (cc named)
    by false limit is stated so named = words_of_call (word ∷ second ∷ third ∷ fourth ∷ more) word limit o (omega arith) (λ n given. within_limit second n (is ∙ given)) named

-- more words than four
module _ (word second third fourth fifth : List ℕ) (more : List (List ℕ)) where
  abbrev Most : Order → Type 0
  Most o = AreWordsOf (word ∷ second ∷ third ∷ fourth ∷ fifth ∷ more) o

  words_of_most : (o : Order) → longer_order word second third (fourth ∷ fifth ∷ more) ≡ Some o → Most o
  words_of_most o e = by (bytes_eq word (codes "show")) (digits_of second) refl (budget_of fourth) refl e where
    by : (t : Bool) (digits : Option ℕ) → digits_of second ≡ digits → (limit : Option ℕ) → budget_of fourth ≡ limit → (if t then show_order digits limit else order_of_many word (budget_of second) (is_scales third)) ≡ Some o → Most o
    by true None few limit is named = absurd (cc named)
    by true (Some d) few None is named = absurd (cc named)
    by true (Some d) few (Some n) is named = let same : Show d n ≡ o = cc named in subst Most same (omega arith, digits_within second d few, within_limit fourth n is)
    by false digits few limit is named = words_of_many word second third fourth (fifth ∷ more) o named

words_by_count : (words : List (List ℕ)) (o : Order) → order_by_count words ≡ Some o → AreWordsOf words o
words_by_count [] o e = absurd (cc e)
words_by_count (w ∷ []) o e = words_alone w o e
words_by_count (w ∷ v ∷ []) o e = words_of_two w v o e
words_by_count (w ∷ v ∷ u ∷ []) o e = words_of_three w v u o e
words_by_count (w ∷ v ∷ u ∷ x ∷ []) o e = words_of_many w v u x [] o e
words_by_count (w ∷ v ∷ u ∷ x ∷ y ∷ ws) o e = words_of_most w v u x y ws o e

pub words_of_order : (words : List (List ℕ)) (o : Order) → order_of words ≡ Some o → AreWordsOf words o
words_of_order words o e = words_by_count words o (named_by_count words o e).1

-- ---- the order by what it takes

pub order_of_text : (o : Order) (t : TextOrder) → intake_of o ≡ Text t → o ≡ order_about t
order_of_text Types t takes = let same : text.Types ≡ t = cc takes in ap order_about same
order_of_text Explain t takes = let same : text.Explain ≡ t = cc takes in ap order_about same
order_of_text Annot t takes = let same : text.Annot ≡ t = cc takes in ap order_about same
order_of_text Code t takes = let same : text.Code ≡ t = cc takes in ap order_about same
order_of_text Fmt t takes = let same : text.Fmt ≡ t = cc takes in ap order_about same
order_of_text Tidy t takes = let same : text.Tidy ≡ t = cc takes in ap order_about same
order_of_text (Run b) t takes = let same : text.Run b ≡ t = cc takes in ap order_about same
order_of_text (Steps b) t takes = let same : text.Steps b ≡ t = cc takes in ap order_about same
order_of_text (Eval b) t takes = let same : text.Eval b ≡ t = cc takes in ap order_about same
order_of_text (Trace b) t takes = let same : text.Trace b ≡ t = cc takes in ap order_about same
order_of_text (Show d b) t takes = let same : text.Show d b ≡ t = cc takes in ap order_about same
order_of_text Conform t takes = let same : text.Conform ≡ t = cc takes in ap order_about same
order_of_text Rescale t takes = let same : text.Rescale ≡ t = cc takes in ap order_about same
order_of_text (Twin b) t takes = let same : text.Twin b ≡ t = cc takes in ap order_about same
order_of_text Prove t takes = let same : text.Prove ≡ t = cc takes in ap order_about same
order_of_text Image t takes = let same : text.Image ≡ t = cc takes in ap order_about same
order_of_text (Big k) t takes = absurd (cc takes)
order_of_text (Exec b) t takes = absurd (cc takes)
order_of_text (Calls b) t takes = absurd (cc takes)

pub order_of_generated : (o : Order) (n : ℕ) → intake_of o ≡ Generated n → o ≡ Big n
order_of_generated (Big k) n takes = let same : k ≡ n = cc takes in ap Big same
order_of_generated Types n takes = absurd (cc takes)
order_of_generated Explain n takes = absurd (cc takes)
order_of_generated Annot n takes = absurd (cc takes)
order_of_generated Code n takes = absurd (cc takes)
order_of_generated Fmt n takes = absurd (cc takes)
order_of_generated Tidy n takes = absurd (cc takes)
order_of_generated (Run b) n takes = absurd (cc takes)
order_of_generated (Steps b) n takes = absurd (cc takes)
order_of_generated (Eval b) n takes = absurd (cc takes)
order_of_generated (Trace b) n takes = absurd (cc takes)
order_of_generated (Show d b) n takes = absurd (cc takes)
order_of_generated Conform n takes = absurd (cc takes)
order_of_generated Rescale n takes = absurd (cc takes)
order_of_generated (Twin b) n takes = absurd (cc takes)
order_of_generated Prove n takes = absurd (cc takes)
order_of_generated Image n takes = absurd (cc takes)
order_of_generated (Exec b) n takes = absurd (cc takes)
order_of_generated (Calls b) n takes = absurd (cc takes)

pub order_of_bytes : (o : Order) (b : BytesOrder) → intake_of o ≡ Bytes b → o ≡ order_about_bytes b
order_of_bytes (Exec n) b takes = let same : bytes.Exec n ≡ b = cc takes in ap order_about_bytes same
order_of_bytes (Calls n) b takes = let same : bytes.Calls n ≡ b = cc takes in ap order_about_bytes same
order_of_bytes Types b takes = absurd (cc takes)
order_of_bytes Explain b takes = absurd (cc takes)
order_of_bytes Annot b takes = absurd (cc takes)
order_of_bytes Code b takes = absurd (cc takes)
order_of_bytes Fmt b takes = absurd (cc takes)
order_of_bytes Tidy b takes = absurd (cc takes)
order_of_bytes (Run n) b takes = absurd (cc takes)
order_of_bytes (Steps n) b takes = absurd (cc takes)
order_of_bytes (Eval n) b takes = absurd (cc takes)
order_of_bytes (Trace n) b takes = absurd (cc takes)
order_of_bytes (Show d n) b takes = absurd (cc takes)
order_of_bytes Conform b takes = absurd (cc takes)
order_of_bytes Rescale b takes = absurd (cc takes)
order_of_bytes (Twin n) b takes = absurd (cc takes)
order_of_bytes Prove b takes = absurd (cc takes)
order_of_bytes Image b takes = absurd (cc takes)
order_of_bytes (Big n) b takes = absurd (cc takes)

-- ---- digits

abbrev AreDigits : List ℕ → Type 0
AreDigits ds = all_ascii_digits ds ≡ true

digits_are : (ds : List ℕ) → list_all is_ascii_digit ds ≡ all_ascii_digits ds
digits_are [] = refl
digits_are (d ∷ ds) = ap (λ b. is_ascii_digit d && b) (digits_are ds)

-- few digits are read as their value
pub few_digits_parsed : {E : Type 0} (word : List ℕ) (r : Result ℕ E) → IsTrue (are_few_digits word) → ParsesUnsigned 64 10 word r → r ≡ Ok (digits_value 10 word)
few_digits_parsed word r few parses =
    let parts = both (nat_lt 0 (length word) && nat_le (length word) 8) (list_all is_ascii_digit word) few in
    let counts = both (nat_lt 0 (length word)) (nat_le (length word) 8) parts.0 in
    let own = numerals_by_value AreDigits tells_all_ascii_digits in
    let digits : AreDigits word = sym (digits_are word) ∙ parts.1 in
    let some : 0 < length word = leb-true 1 (length word) counts.0 in
    let short : length word ≤ 8 = leb-true (length word) 8 counts.1 in
    let small = digits_value_short own word 8 digits short in
    parse_gives own 64 word r parses digits some (omega (arith, small))
