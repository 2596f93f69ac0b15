-- What the host of an open program hands in, and what it gets.
-- Source: this project's own.
use Rattle.std.specs.Prelude.{ℕ, ◌≡◌, ◌≤◌, ◌==◌, ◌⊎◌, Bool, true, false, if◌then◌else◌, Option, Some, None}
use Rattle.std.specs.Prelude.{List, [], ◌∷◌, ◌++◌, length, drop, codes, decimal}
use Rattle.std.specs.List.{slice_split}
use Rattle.std.specs.Str.{is_utf8}
use Rattle.um_reports.specs.declared.status.Status.{Status}
use Rattle.um_reports.specs.declared.status.Status.TheVariants.{NoMemory}
use Rattle.um_reports.specs.Numbers.{number_of}
use Rattle.um_tool.specs.Answer.{Answer, IsUsageReply}

-- ---- what the host holds

-- the text, if a program is open
abbrev pub held : Bool → List ℕ → Option (List ℕ)
held true text = Some text
held false text = None

-- ---- what it asks

abbrev pub types_words : List (List ℕ)
types_words = codes "types" ∷ []

-- the words in one text, a zero byte between each two
abbrev pub words_between : List ℕ → List (List ℕ)
words_between bytes = slice_split (λ b. b == 0) bytes

-- `run BUDGET NAME ARG*`: these bytes have the name and the arguments. Bytes that aren't UTF-8 are read as the one word
-- `?`, which names no command, as the program reads a command line that isn't
abbrev pub run_words : ℕ → List ℕ → List (List ℕ)
run_words budget bytes =
    if is_utf8 bytes then codes "run" ∷ decimal budget ∷ words_between bytes else codes "?" ∷ []

-- ---- what it gets

-- the program's answer to the words and the text that is held; if none is, the answer to words that name no command
abbrev pub HeldAnswer : Option (List ℕ) → List (List ℕ) → List ℕ → Status → Type 0
HeldAnswer None words bytes status = IsUsageReply bytes status
HeldAnswer (Some text) words bytes status = Answer words text bytes status

-- a room begins with these bytes and is otherwise as it was, if it is large enough for them
abbrev pub BeginsWith : List ℕ → List ℕ → List ℕ → Type 0
BeginsWith bytes old new = length bytes ≤ length old → new ≡ bytes ++ drop (length bytes) old

-- the number of the status and the number of the bytes, which the room begins with
abbrev pub IsHanded : List ℕ → Status → ℕ → ℕ → List ℕ → List ℕ → Type 0
IsHanded bytes status number size old new =
    (number ≡ number_of status) × (size ≡ length bytes) × BeginsWith bytes old new

-- want of memory, without an answer
abbrev pub IsWanting : ℕ → ℕ → Type 0
IsWanting number size = (number ≡ number_of NoMemory) × (size ≡ 0)

-- the answer to the words, or want of memory
abbrev pub Answered : Option (List ℕ) → List (List ℕ) → ℕ → ℕ → List ℕ → List ℕ → Type 0
Answered text words number size old new =
    IsWanting number size
    ⊎ ((bytes : List ℕ) × (status : Status) × HeldAnswer text words bytes status
    × IsHanded bytes status number size old new)
