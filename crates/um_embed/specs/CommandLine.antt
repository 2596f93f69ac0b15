-- What a host hands in that asks as by a command line, and what it gets.
-- Source: this project's own.
use Rattle.std.specs.Prelude.{ℕ, ◌≡◌, if◌then◌else◌, List, codes}
use Rattle.std.specs.Str.{is_utf8}
use Rattle.um_reports.specs.declared.status.Status.{Status}
use Rattle.um_tool.specs.Answer.{Answer}
use Rattle.um_reports.specs.Numbers.{number_of}
use Rattle.um_embed.specs.Embedded.{words_between}

-- the words of a command line in one text, a zero byte between each two: what stands between these bytes. Bytes that
-- aren't UTF-8 are read as the one word `?`, which names no order, as the program reads a command line that isn't
abbrev pub words_in : List ℕ → List (List ℕ)
words_in bytes = words_between (if is_utf8 bytes then bytes else codes "?")

-- these bytes are the program's answer to the words and the text, and the number is its status's
pub record IsAnswer (words text bytes : List ℕ) (number : ℕ) : Type 0 where
  pub status : Status
  pub numbered : number ≡ number_of status
  pub answered : Answer (words_in words) text bytes status
