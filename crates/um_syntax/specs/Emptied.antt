-- A token whose letters were taken.
-- Source: this project's own.
use Rattle.std.specs.Prelude.{[]}
use Rattle.um_syntax.specs.declared.token.Kind.{Kind}
use Rattle.um_syntax.specs.declared.token.Kind.TheVariants as kind
use Rattle.um_syntax.specs.declared.token.Token.{Token}

abbrev pub emptied_kind : Kind → Kind
emptied_kind (kind.Name x) = kind.Name []
emptied_kind (kind.Var x) = kind.Var []
emptied_kind (kind.Number value digits one) = kind.Number value digits one
emptied_kind (kind.Word k) = kind.Word k
emptied_kind kind.Hole = kind.Hole
emptied_kind (kind.Sign s) = kind.Sign s

-- the letters of a name or a variable are gone, and the rest is as it was
abbrev pub emptied : Token → Token
emptied t = record { kind = emptied_kind t.kind; start = t.start; end = t.end; glued = t.glued }
