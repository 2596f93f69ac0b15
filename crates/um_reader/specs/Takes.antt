-- What one token gives.
-- Source: this project's own.
use Rattle.std.specs.Prelude.{◌≡◌, ◌≢◌, ℕ, ◌≤◌, ◌<◌}
use Rattle.um_reader.specs.Machine.{Machine}
use Rattle.um_reader.specs.declared.taken.Taken.{Taken}
use Rattle.um_reader.specs.declared.taken.Taken.TheVariants as taken

-- What a token gives whose next state is this: that state, within the limit; or that it is refused, in a state that
-- still ends as the one before; or that it is too high.
abbrev pub Gives : {S T A : Type 0} → Machine S T A → ℕ → S → S → Taken → S → Type 0
Gives m limit old next taken.Goes new = (new ≡ next) × (new ≢ m.refused) × (m.least new ≤ limit)
Gives m limit old next taken.Stops new = (next ≡ m.refused) × (m.finish new ≡ m.finish old)
Gives m limit old next taken.High new = (next ≢ m.refused) × (limit < m.least next)

-- what the token gives
abbrev pub Takes : {S T A : Type 0} → Machine S T A → ℕ → S → T → Taken → S → Type 0
Takes m limit old token given new = Gives m limit old (m.step old token) given new
