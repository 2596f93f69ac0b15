-- The `let` that a writer may have left without its `in`.
-- Source: this project's own.
use Rattle.std.specs.Prelude.{ℕ, ◌&&◌, ◌==◌, Bool, true, false, if◌then◌else◌, List, [], ◌∷◌, count_by}
use Rattle.std.specs.Prelude.{Option, Some, None}
use Rattle.um_syntax.specs.declared.token.Kind.{Kind}
use Rattle.um_syntax.specs.declared.token.Kind.TheVariants as kind
use Rattle.um_syntax.specs.declared.token.Token.{Token}
use Rattle.um_vocabulary.specs.declared.vocabulary.Keyword.TheVariants as keyword
use Rattle.um_vocabulary.specs.declared.vocabulary.Symbol.TheVariants as symbol

abbrev pub is_let_kind : Kind → Bool
is_let_kind (kind.Word keyword.Let) = true
is_let_kind _ = false

abbrev pub is_in_kind : Kind → Bool
is_in_kind (kind.Word keyword.In) = true
is_in_kind _ = false

abbrev pub is_let : Token → Bool
is_let t = is_let_kind t.kind

abbrev pub is_in : Token → Bool
is_in t = is_in_kind t.kind

-- `let`, `type` and `[<`
abbrev pub begins_declaration : Kind → Bool
begins_declaration (kind.Word keyword.Let) = true
begins_declaration (kind.Word keyword.Type) = true
begins_declaration (kind.Sign symbol.AttributeOpen) = true
begins_declaration _ = false

-- the end of the text, or a token that begins a declaration
abbrev pub ends_body : Option Token → Bool
ends_body None = true
ends_body (Some t) = begins_declaration t.kind

-- a `let` with as many `in` as `let` after it
abbrev pub is_open : Token → List Token → Bool
is_open t later = is_let t && count_by is_in later == count_by is_let later

abbrev pub or_here : Option ℕ → Bool → ℕ → Option ℕ
or_here (Some later) here at = Some later
or_here None here at = if here then Some at else None

-- the place of the last such `let`
abbrev pub open_let : List Token → Option ℕ
open_let [] = None
open_let (t ∷ ts) = or_here (open_let ts) (is_open t ts) t.start
