-- What the words of the command line ask for.
-- Source: this project's own commands.
use Rattle.std.specs.Prelude.{ℕ, Bool, true, false, ◌&&◌, List, [], ◌∷◌, length, Option, Some, None, codes}
use Rattle.std.specs.Prelude.{nat_le, nat_lt, if◌then◌else◌}
use Rattle.std.specs.List.{list_all}
use Rattle.std.specs.Char.{is_ascii_digit}
use Rattle.std.specs.Str.{bytes_eq}
use Rattle.std.specs.Str.Parse.{digits_value}
use Rattle.um_sizes.specs.ScaleWords.{is_scales}
use Rattle.um_orders.specs.declared.order.Order.{Order}
use Rattle.um_orders.specs.declared.order.Order.TheVariants.{Types, Explain, Annot, Code, Fmt, Tidy, Run, Steps, Eval}
use Rattle.um_orders.specs.declared.order.Order.TheVariants.{Trace, Show, Conform, Rescale, Twin}
use Rattle.um_orders.specs.declared.order.Order.TheVariants.{Big, Prove, Image, Exec, Calls}
use Rattle.um_orders.specs.declared.order.Intake.{Intake}
use Rattle.um_orders.specs.declared.order.Intake.TheVariants.{Generated, Text, Bytes}
use Rattle.um_orders.specs.declared.order.BytesOrder.{BytesOrder}
use Rattle.um_orders.specs.declared.order.BytesOrder.TheVariants as bytes
use Rattle.um_orders.specs.declared.order.TextOrder.{TextOrder}
use Rattle.um_orders.specs.declared.order.TextOrder.TheVariants as text

-- ---- the parts of a form

-- at most 1,048,576 bytes
abbrev pub is_short : List ℕ → Bool
is_short word = nat_le (length word) 1048576

-- one to eight digits
abbrev pub are_few_digits : List ℕ → Bool
are_few_digits word = nat_lt 0 (length word) && nat_le (length word) 8 && list_all is_ascii_digit word

-- a budget: these, of value at most 10,000,000
abbrev pub budget_of : List ℕ → Option ℕ
budget_of word =
    if are_few_digits word && nat_le (digits_value 10 word) 10000000 then Some (digits_value 10 word) else None

-- at most four digits of value 1 to 2,000: the number of functions of a generated program
abbrev pub states_count : List ℕ → Bool
states_count word =
    nat_le (length word) 4 && nat_le 1 (digits_value 10 word) && nat_le (digits_value 10 word) 2000

abbrev pub count_of : List ℕ → Option ℕ
count_of word = if are_few_digits word && states_count word then Some (digits_value 10 word) else None

-- at most two digits of value at most 18: how many digits after the point are printed
abbrev pub states_digits : List ℕ → Bool
states_digits word = nat_le (length word) 2 && nat_le (digits_value 10 word) 18

abbrev pub digits_of : List ℕ → Option ℕ
digits_of word = if are_few_digits word && states_digits word then Some (digits_value 10 word) else None

-- ---- the forms

-- a command of one word
abbrev pub order_alone : List ℕ → Option Order
order_alone word =
    if bytes_eq word (codes "types") then Some Types
    else if bytes_eq word (codes "explain") then Some Explain
    else if bytes_eq word (codes "annot") then Some Annot
    else if bytes_eq word (codes "code") then Some Code
    else if bytes_eq word (codes "fmt") then Some Fmt
    else if bytes_eq word (codes "tidy") then Some Tidy
    else if bytes_eq word (codes "prove") then Some Prove
    else if bytes_eq word (codes "image") then Some Image else None

-- big N, by the number of functions
abbrev pub big_order : Option ℕ → Option Order
big_order None = None
big_order (Some n) = Some (Big n)

-- rescale SCALES, if the word states sizes of base units
abbrev pub rescale_order : Bool → Option Order
rescale_order stated = if stated then Some Rescale else None

-- calls BUDGET
abbrev pub calls_order : Option ℕ → Option Order
calls_order None = None
calls_order (Some budget) = Some (Calls budget)

-- a command of two words
abbrev pub order_of_two : List ℕ → List ℕ → Option Order
order_of_two word second =
    if bytes_eq word (codes "big") then big_order (count_of second)
    else if bytes_eq word (codes "rescale") then rescale_order (is_scales second)
    else if bytes_eq word (codes "calls") then calls_order (budget_of second) else None

-- COMMAND BUDGET NAME ARG*, by its first word and the budget
abbrev pub call_order : List ℕ → Option ℕ → Option Order
call_order word None = None
call_order word (Some budget) =
    if bytes_eq word (codes "run") then Some (Run budget)
    else if bytes_eq word (codes "steps") then Some (Steps budget)
    else if bytes_eq word (codes "eval") then Some (Eval budget)
    else if bytes_eq word (codes "trace") then Some (Trace budget)
    else if bytes_eq word (codes "exec") then Some (Exec budget) else None

-- conform NAME TYPE, or such a command without an ARG
abbrev pub order_of_three : List ℕ → Option ℕ → Option Order
order_of_three word budget = if bytes_eq word (codes "conform") then Some Conform else call_order word budget

-- twin BUDGET SCALES NAME ARG*, if the third word states sizes of base units
abbrev pub twin_order : Option ℕ → Bool → Option Order
twin_order None stated = None
twin_order (Some budget) stated = if stated then Some (Twin budget) else None

abbrev pub order_of_many : List ℕ → Option ℕ → Bool → Option Order
order_of_many word budget stated =
    if bytes_eq word (codes "twin") then twin_order budget stated else call_order word budget

-- show DIGITS UNITS BUDGET NAME ARG*, by the digits and the budget; UNITS is any word here
abbrev pub show_order : Option ℕ → Option ℕ → Option Order
show_order None budget = None
show_order (Some digits) None = None
show_order (Some digits) (Some budget) = Some (Show digits budget)

-- five words or more
abbrev pub longest_order : List ℕ → List ℕ → List ℕ → List ℕ → Option Order
longest_order word second third fourth =
    if bytes_eq word (codes "show") then show_order (digits_of second) (budget_of fourth)
    else order_of_many word (budget_of second) (is_scales third)

-- by the first three words and those after them
abbrev pub longer_order : List ℕ → List ℕ → List ℕ → List (List ℕ) → Option Order
longer_order word second third [] = order_of_three word (budget_of second)
longer_order word second third (fourth ∷ []) = order_of_many word (budget_of second) (is_scales third)
longer_order word second third (fourth ∷ fifth ∷ more) = longest_order word second third fourth

abbrev pub order_by_count : List (List ℕ) → Option Order
order_by_count [] = None
order_by_count (word ∷ []) = order_alone word
order_by_count (word ∷ second ∷ []) = order_of_two word second
order_by_count (word ∷ second ∷ third ∷ more) = longer_order word second third more

-- the order that the words name, if they have one of the forms and each is short enough
unfoldable pub order_of : List (List ℕ) → Option Order
order_of words = if list_all is_short words then order_by_count words else None

-- ---- what is taken

-- what an order takes from the source, and what is asked of it
abbrev pub intake_of : Order → Intake
intake_of Types = Text text.Types
intake_of Explain = Text text.Explain
intake_of Annot = Text text.Annot
intake_of Code = Text text.Code
intake_of Fmt = Text text.Fmt
intake_of Tidy = Text text.Tidy
intake_of (Run budget) = Text (text.Run budget)
intake_of (Steps budget) = Text (text.Steps budget)
intake_of (Eval budget) = Text (text.Eval budget)
intake_of (Trace budget) = Text (text.Trace budget)
intake_of (Show digits budget) = Text (text.Show digits budget)
intake_of Conform = Text text.Conform
intake_of Rescale = Text text.Rescale
intake_of (Twin budget) = Text (text.Twin budget)
intake_of (Big n) = Generated n
intake_of Prove = Text text.Prove
intake_of Image = Text text.Image
intake_of (Exec budget) = Bytes (bytes.Exec budget)
intake_of (Calls budget) = Bytes (bytes.Calls budget)

-- the order that asks this of a text
abbrev pub order_about : TextOrder → Order
order_about text.Types = Types
order_about text.Explain = Explain
order_about text.Annot = Annot
order_about text.Code = Code
order_about text.Fmt = Fmt
order_about text.Tidy = Tidy
order_about (text.Run budget) = Run budget
order_about (text.Steps budget) = Steps budget
order_about (text.Eval budget) = Eval budget
order_about (text.Trace budget) = Trace budget
order_about (text.Show digits budget) = Show digits budget
order_about text.Conform = Conform
order_about text.Rescale = Rescale
order_about (text.Twin budget) = Twin budget
order_about text.Prove = Prove
order_about text.Image = Image

-- whether this calls a function
abbrev pub calls : TextOrder → Bool
calls text.Types = false
calls text.Explain = false
calls text.Annot = false
calls text.Code = false
calls text.Fmt = false
calls text.Tidy = false
calls (text.Run budget) = true
calls (text.Steps budget) = true
calls (text.Eval budget) = true
calls (text.Trace budget) = true
calls (text.Show digits budget) = true
calls text.Conform = false
calls text.Rescale = false
calls (text.Twin budget) = true
calls text.Prove = false
calls text.Image = false

-- the order that asks this of bytes
abbrev pub order_about_bytes : BytesOrder → Order
order_about_bytes (bytes.Exec budget) = Exec budget
order_about_bytes (bytes.Calls budget) = Calls budget
