-- Where one space stands between two tokens of a line.
-- Source: this project's own.
use Rattle.std.specs.Prelude.{Bool, true, false, ◌||◌, not}
use Rattle.um_syntax.specs.declared.token.Kind.{Kind}
use Rattle.um_syntax.specs.declared.token.Kind.TheVariants as kind
use Rattle.um_vocabulary.specs.declared.vocabulary.Symbol.{Symbol}
use Rattle.um_vocabulary.specs.declared.vocabulary.Symbol.TheVariants as symbol
use Rattle.um_tidy.specs.declared.stand.Stand.{Stand}

-- A longer sign or a comment begins with the first sign, and the second goes on with it.
abbrev pub goes_on : Symbol → Symbol → Bool
goes_on symbol.LeftBracket symbol.Less = true
goes_on symbol.LeftBracket symbol.LessEqual = true
goes_on symbol.LeftBracket symbol.NotEqual = true
goes_on symbol.Less symbol.Equal = true
goes_on symbol.Less symbol.Greater = true
goes_on symbol.Colon symbol.Colon = true
goes_on symbol.Colon symbol.ColonColon = true
goes_on symbol.Bar symbol.Bar = true
goes_on symbol.Bar symbol.BarBar = true
goes_on symbol.Minus symbol.Greater = true
goes_on symbol.Slash symbol.Slash = true
goes_on _ _ = false

-- a number's point
abbrev pub is_dot : Symbol → Bool
is_dot symbol.Dot = true
is_dot _ = false

abbrev pub sign_runs_into : Symbol → Kind → Bool
sign_runs_into s (kind.Sign t) = goes_on s t
sign_runs_into s (kind.Number value digits one) = is_dot s
sign_runs_into s _ = false

-- the token begins with a letter or a digit, not with a quote or a sign
abbrev pub begins_lettered : Kind → Bool
begins_lettered (kind.Var x) = false
begins_lettered (kind.Sign s) = false
begins_lettered _ = true

-- Without a space the two would be read as other tokens, so one stands between them whatever the table says.
abbrev pub runs_into : Kind → Kind → Bool
runs_into (kind.Sign s) k = sign_runs_into s k
runs_into _ k = begins_lettered k

-- A space stands between two tokens, unless the first stands directly before the next token or the second directly
-- after the one before it.
abbrev pub is_spaced : Stand → Kind → Stand → Kind → Bool
is_spaced first k second l = not (first.before || second.after) || runs_into k l
