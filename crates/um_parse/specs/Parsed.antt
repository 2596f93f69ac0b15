-- What parsing a program answers.
-- Source: this project's own.
use Rattle.std.specs.Prelude.{◌≡◌, ℕ, ◌≤◌, true, List, Result, Ok, Err}
use Rattle.um_syntax.specs.declared.token.Token.{Token}
use Rattle.um_tree.specs.declared.raw.RawProgram.{RawProgram}
use Rattle.um_tree.specs.RawTree.{DeclSyntax, program_syntax}
use Rattle.um_types.specs.declared.parse.LimitKind.{LimitKind}
use Rattle.um_types.specs.declared.parse.LimitKind.TheVariants as limit
use Rattle.um_types.specs.declared.parse.ParseStop.{ParseStop}
use Rattle.um_types.specs.declared.parse.ParseStop.TheVariants as stop
use Rattle.um_unit_texts.specs.UnitStops.{greatest_height, place_of}
use Rattle.um_parse.specs.DeclGrammar.{IsProgram}
use Rattle.um_parse.specs.ProgramHeights.{program_height}
use Rattle.um_parse.specs.ProgramLimits.{WithinLimits, PassesAt}
use Rattle.um_parse.specs.ProgramStops.{StopsAt, HighAt}
use Rattle.um_parse.specs.Spaced.{Spaced}
use Rattle.um_parse.specs.declared.program_parse.ReadProgram.{ReadProgram}

-- the tokens are this program and no other, and it is within the limits
pub record IsRead (tokens : List Token) (ds : List DeclSyntax) : Type 0 where
  pub is : IsProgram tokens ds
  pub only : (other : List DeclSyntax) → IsProgram tokens other → other ≡ ds
  pub low : program_height ds ≤ greatest_height
  pub small : WithinLimits 0 ds

-- the tokens are a program of an allowed height; its first declaration that passes another limit has its name at the
-- place
pub record IsLarge (tokens : List Token) (kind : LimitKind) (at : ℕ) : Type 0 where
  pub ds : List DeclSyntax
  pub is : IsProgram tokens ds
  pub low : program_height ds ≤ greatest_height
  pub passes : PassesAt 0 ds kind at

-- a limit: the height at the token through which no program within it begins, the others if the tokens are a program
abbrev pub LimitAt : List Token → ℕ → LimitKind → ℕ → Type 0
LimitAt tokens end limit.Height at = (k : ℕ) × (at ≡ place_of tokens k end) × HighAt tokens k
LimitAt tokens end kind at = IsLarge tokens kind at

abbrev pub Parsed : List Token → ℕ → Result RawProgram ParseStop → Type 0
Parsed tokens end (Ok p) = IsRead tokens (program_syntax p)
Parsed tokens end (Err (stop.Syntax at)) = (k : ℕ) × (at ≡ place_of tokens k end) × StopsAt tokens k
Parsed tokens end (Err (stop.Limit kind at)) = LimitAt tokens end kind at
Parsed tokens end (Err stop.NoMemory) = Unit {0}

-- the tokens are this program, of an allowed height, whatever its other limits; or what `parse` answers
abbrev pub ReadAt : List Token → ℕ → Result ReadProgram ParseStop → Type 0
ReadAt tokens end (Ok read) =
    IsProgram tokens (program_syntax read.program)
    × (program_height (program_syntax read.program) ≤ greatest_height)
    × (read.spaced ≡ true → Spaced (program_syntax read.program) end)
ReadAt tokens end (Err stop) = Parsed tokens end (Err stop)

-- the program itself if it passes no limit besides its height; otherwise the first that it passes
abbrev pub Limited : List DeclSyntax → Result RawProgram ParseStop → Type 0
Limited ds (Ok p) = (program_syntax p ≡ ds) × WithinLimits 0 ds
Limited ds (Err (stop.Syntax at)) = ⊥
Limited ds (Err (stop.Limit kind at)) = PassesAt 0 ds kind at
Limited ds (Err stop.NoMemory) = ⊥
