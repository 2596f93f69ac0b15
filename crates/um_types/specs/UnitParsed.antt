-- What parsing a unit text answers: the numbers of tokens and the places are those of the whole list.
-- Source: this project's own.
use Rattle.std.specs.Prelude.{◌≡◌, ℕ, ◌+◌, List, drop, Result, Ok, Err}
use Rattle.um_syntax.specs.declared.token.Token.{Token}
use Rattle.um_tree.specs.declared.raw.RawUnit.{RawUnit}
use Rattle.um_tree.specs.RawTree.{unit_syntax}
use Rattle.um_types.specs.declared.parse.LimitKind.TheVariants as limit
use Rattle.um_types.specs.declared.parse.ParseStop.{ParseStop}
use Rattle.um_types.specs.declared.parse.ParseStop.TheVariants as stop
use Rattle.um_unit_texts.specs.UnitStops.{place_of, Reads, Misread, HighAt}

abbrev pub Parsed : List Token → ℕ → ℕ → Result (RawUnit × ℕ) ParseStop → Type 0
Parsed tokens from end (Ok (u, n)) = (k : ℕ) × (n ≡ from + k) × Reads (drop from tokens) k (unit_syntax u)
Parsed tokens from end (Err (stop.Syntax at)) =
    (k : ℕ) × (at ≡ place_of (drop from tokens) k end) × Misread (drop from tokens) k
Parsed tokens from end (Err (stop.Limit kind at)) =
    (k : ℕ) × (kind ≡ limit.Height) × (at ≡ place_of (drop from tokens) k end) × HighAt (drop from tokens) k
Parsed tokens from end (Err stop.NoMemory) = Unit {0}
