-- All words and all bytes have an answer. Want of memory is none.
-- Source: this project's own.
use Rattle.std.specs.Prelude.{◌<◌, ℕ, All, List}
use Rattle.um_all_answers.specs.Answered.{HasAnswer}
use Rattle.um_tool.specs.Answer.{Answer}

-- All words have an answer about all bytes, each below 256.
abbrev pub EachIsAnswered : Type 0
EachIsAnswered =
    (words : List (List ℕ)) (bytes : List ℕ) → All (λ b. b < 256) bytes → HasAnswer (Answer words) bytes
