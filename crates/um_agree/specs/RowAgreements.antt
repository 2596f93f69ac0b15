-- Which agreement a row is of: the rows of a function are those of its agreements, one after another.
-- Source: this project's own.
use Rattle.std.specs.Prelude.{ℕ, suc, ◌-◌, nat_lt, if◌then◌else◌, List, [], ◌∷◌, length}
use Rattle.um_agree.specs.Agreements.{Agreement, agreement_rows}

-- the number of the agreement that row k is of, counted from 0. A row past them all has their number
abbrev pub agreement_of : List Agreement → ℕ → ℕ
agreement_of [] k = 0
agreement_of (a ∷ others) k =
    let n = length (agreement_rows a) in if nat_lt k n then 0 else suc (agreement_of others (k - n))
