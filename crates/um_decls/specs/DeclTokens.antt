-- What a declaration leaves of a token that it refuses.
-- Source: this project's own.
use Rattle.std.specs.Prelude.{◌≡◌}
use Rattle.um_syntax.specs.declared.token.Token.{Token}
use Rattle.um_reader.specs.declared.taken.Taken.{Taken}
use Rattle.um_reader.specs.declared.taken.Taken.TheVariants as taken
use Rattle.um_decls.specs.DeclMachine.{DeclBegin, Expects, decl_step}

-- a declaration begins with the one token as with the other
abbrev pub BeginsAlike : Token → Token → Type 0
BeginsAlike one other = decl_step (Expects DeclBegin) one ≡ decl_step (Expects DeclBegin) other

-- this holds if the token is refused
abbrev pub IfStops : Taken → Type 0 → Type 0
IfStops taken.Goes holds = Unit {0}
IfStops taken.Stops holds = holds
IfStops taken.High holds = Unit {0}
