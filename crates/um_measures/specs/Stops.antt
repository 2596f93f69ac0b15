-- Mirrors the code: what its refusal says of a text. It is the text's first fault, with its place.
-- Source: this project's own.
use Rattle.std.specs.Prelude.{◌≡◌, Err}
use Rattle.um_measures.specs.declared.stop.NameStop.{NameStop}
use Rattle.um_measures.specs.declared.stop.NameStop.TheVariants.{Unknown, Twice, WrongCount, Hole, Range, NoMemory}
use Rattle.um_measures.specs.Faults.{unknown, twice, wrong_count, hole, range, Found}

-- want of memory says nothing of the text
abbrev pub IsFirst : {A : Type 0} → Found A → NameStop → Type 0
IsFirst found (Unknown at) = found ≡ Err (unknown at)
IsFirst found (Twice at) = found ≡ Err (twice at)
IsFirst found (WrongCount at) = found ≡ Err (wrong_count at)
IsFirst found (Hole at) = found ≡ Err (hole at)
IsFirst found (Range at) = found ≡ Err (range at)
IsFirst found NoMemory = Unit {0}
