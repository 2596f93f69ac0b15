-- What is told, by examples.
use Rattle.std.proofs.Common.{◌≡◌, ℕ, false, List, [], ◌∷◌, codes, refl}
use Rattle.std.specs.Prelude.{Some, None}
use Rattle.um_syntax.specs.declared.token.Kind.{Kind}
use Rattle.um_syntax.specs.declared.token.Kind.TheVariants as kind
use Rattle.um_syntax.specs.declared.token.Token.{Token}
use Rattle.um_vocabulary.specs.declared.vocabulary.Keyword.TheVariants as keyword
use Rattle.um_types.specs.declared.parse.LimitKind.TheVariants as limit
use Rattle.um_text_details.specs.declared.word.Word.TheVariants as word
use Rattle.um_text_details.specs.LimitDetails.{limit_details}
use Rattle.um_text_details.specs.OpenLets.{open_let}
use Rattle.um_text_details.specs.SyntaxDetails.{expected_line, missing_in}

abbrev token_at : Kind → ℕ → Token
token_at k at = record { kind = k; start = at; end = at; glued = false }

-- `let f = let a = ..`, which lacks the inner `in`
abbrev lets : List Token
lets = token_at (kind.Word keyword.Let) 0 ∷ token_at kind.Hole 4 ∷ token_at (kind.Word keyword.Let) 8 ∷ []

inner : open_let lets ≡ Some 8
inner = refl

-- with it, the first `let` is the one that has no `in`
outer : open_let (token_at (kind.Word keyword.Let) 0 ∷ token_at (kind.Word keyword.Let) 8 ∷ token_at (kind.Word keyword.In) 20 ∷ []) ≡ Some 0
outer = refl

-- told at the end of the text, if `in` could stand there
at_end : missing_in lets 3 (word.Name ∷ word.Keyword keyword.In ∷ []) ≡ Some 8
at_end = refl

not_in : missing_in lets 3 (word.Name ∷ []) ≡ None
not_in = refl

words : expected_line (word.Name ∷ word.Keyword keyword.In ∷ word.Operator ∷ word.End ∷ []) ≡ codes "expected: NAME in OPERATOR end\n"
words = refl

levels : limit_details limit.Depth ≡ codes "at most 400 levels of types\n"
levels = refl
