-- What the words of an order name besides the order: functions, their arguments, a signature, sizes.
-- Source: this project's own commands.
use Rattle.std.specs.Prelude.{ℕ, List, [], drop, get_or}
use Rattle.um_orders.specs.declared.order.Order.{Order}
use Rattle.um_orders.specs.declared.order.Order.TheVariants.{Show}
use Rattle.um_display.specs.UnitWords.{PartSyntax, IsUnitWord}
use Rattle.um_call_answers.specs.AskedCall.{AskedCall}

-- COMMAND BUDGET NAME ARG*: the call
abbrev pub called : ℕ → List (List ℕ) → AskedCall
called budget words = record { budget = budget; name = get_or words 2 []; texts = drop 3 words }

-- conform NAME TYPE: the name of the function, and the signature
abbrev pub held_name : List (List ℕ) → List ℕ
held_name words = get_or words 1 []

abbrev pub signature_text : List (List ℕ) → List ℕ
signature_text words = get_or words 2 []

-- rescale SCALES: the sizes of base units
abbrev pub rescale_sizes : List (List ℕ) → List ℕ
rescale_sizes words = get_or words 1 []

-- twin BUDGET SCALES NAME ARG*: these sizes, and the call
abbrev pub twin_sizes : List (List ℕ) → List ℕ
twin_sizes words = get_or words 2 []

abbrev pub called_twice : ℕ → List (List ℕ) → AskedCall
called_twice budget words = record { budget = budget; name = get_or words 3 []; texts = drop 4 words }

-- show DIGITS UNITS BUDGET NAME ARG*: the units, and the call
abbrev pub shown_units : List (List ℕ) → List ℕ
shown_units words = get_or words 2 []

abbrev pub called_shown : ℕ → List (List ℕ) → AskedCall
called_shown budget words = record { budget = budget; name = get_or words 4 []; texts = drop 5 words }

-- the word that shall state units does
abbrev pub StatesUnits : Order → List (List ℕ) → Type 0
StatesUnits (Show digits budget) words = (parts : List PartSyntax) × IsUnitWord (shown_units words) parts
StatesUnits order words = Unit {0}
