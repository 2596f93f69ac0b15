-- Mirrors the code: what is known of a refused call.
-- Source: this project's own.
use Rattle.std.specs.Prelude.{ℕ, ◌<◌}
use Rattle.um_run.specs.declared.call.CallRefusal.{CallRefusal}
use Rattle.um_run.specs.declared.call.CallRefusal.TheVariants.{Argument}

-- of so many texts, the one that a refusal names is there
abbrev pub NamesText : ℕ → CallRefusal → Type 0
NamesText count (Argument index stop) = index < count
NamesText count refusal = Unit {0}
