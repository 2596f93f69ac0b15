-- The variables of the running function, and those of the functions that wait for it.
-- Source: this project's own.
use Rattle.std.specs.Prelude.{◌≡◌, ◌≤◌, ℕ, List, length, take, drop}
use Rattle.um_cells.specs.declared.word.Word.{Word}
use Rattle.um_eval.specs.declared.scope.Scope.{Scope}

abbrev pub own_of : Scope → List Word
own_of scope = drop scope.base scope.words.items

abbrev pub callers_of : Scope → List Word
callers_of scope = take scope.base scope.words.items

-- a function was called with these variables; those of its caller begin there
abbrev pub HasOpened : Scope → Scope → ℕ → List Word → Type 0
HasOpened old new base words =
    (base ≤ length (callers_of new))
    × (take base (callers_of new) ≡ callers_of old)
    × (drop base (callers_of new) ≡ own_of old)
    × (own_of new ≡ words)
