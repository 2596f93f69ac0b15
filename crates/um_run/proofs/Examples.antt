-- Calls on which the definitions are tried.
use Rattle.std.proofs.Common.{◌≡◌, ℕ, ◌+◌, Bool, true, false, List, [], ◌∷◌, codes, pos, refl, ap, ◌∙◌, arith, Ok, Err}
use Rattle.std.specs.Str.{chars}
use Rattle.um_units.specs.declared.Atom.TheVariants.{Var}
use Rattle.um_units.specs.declared.Term.{Term}
use Rattle.um_units.specs.PowerMap.{product}
use Rattle.um_syntax.specs.declared.token.Token.{Token}
use Rattle.um_syntax.specs.declared.token.Kind.TheVariants as kind
use Rattle.um_vocabulary.specs.declared.vocabulary.Symbol.{Symbol}
use Rattle.um_vocabulary.specs.declared.vocabulary.Symbol.TheVariants as symbol
use Rattle.um_syntax.specs.Lexing.{HasTokens}
use Rattle.um_tree.specs.declared.note.UnitNote.TheVariants.{Hole}
use Rattle.um_tree.specs.TypeTree.{TypeTree, bool_type, num_type, list_type, record_type, NoteTree, num_note, list_note, num_shape, list_shape}
use Rattle.um_tree.specs.ExprTree.{truth, local}
use Rattle.um_tree.specs.ValueTree.{InputTree, list_input, no_inputs, inputs_in_order}
use Rattle.um_tree.specs.ProgramTree.{FunctionTree, ProgramTree, SchemeTree}
use Rattle.um_tree.proofs.ExamplePrograms.{plain}
use Rattle.um_measures.specs.ClosedUnits.{given}
use Rattle.um_value.specs.declared.stop.InputStop.TheVariants as input_stop
use Rattle.um_value.specs.ValueSyntax.{ValueSyntax, raw_truth, raw_number, raw_list, raw_record, raw_none}
use Rattle.um_value.specs.ValueGrammar.{IsValueText}
use Rattle.um_rows.specs.Judgement.{Judgement, has_scheme, too_many_slots, passes_range, has_no_typing, not_general}
use Rattle.um_infer.specs.Inference.{Inference, all_schemes, stops_at_slots, stops_at_range, stops_at_units, stops_at_not_general, infer}
use Rattle.um_infer.specs.CallJudgement.{judge_call}
use Rattle.um_run.specs.declared.call.CallRefusal.TheVariants as refusal
use Rattle.um_run.specs.Calls.{IsInput, IsNamed, IsCallOf}

abbrev sign : Symbol → ℕ → Bool → Token
sign s at glued = record { kind = kind.Sign s; start = at; end = at + 1; glued = glued }

abbrev left : Token
left = sign symbol.LeftBracket 0 false

abbrev right : ℕ → Bool → Token
right at glued = sign symbol.RightBracket at glued

-- let on = true, and let keep (x: num<_> list) (y: num<_> list) = y
abbrev on : FunctionTree
on = record (plain [] (truth 0 true)) { name = codes "on" }

abbrev numbers : NoteTree
numbers = list_note (num_note Hole)

abbrev keep : FunctionTree
keep = record (plain (numbers ∷ numbers ∷ []) (local 0 1)) { name = codes "keep" }

abbrev program : ProgramTree
program = record { bases = []; records = []; functions = on ∷ keep ∷ [] }

abbrev schemes_in : Inference → List SchemeTree
schemes_in (all_schemes ss) = ss
schemes_in (stops_at_slots i) = []
schemes_in (stops_at_range i at) = []
schemes_in (stops_at_units i row at) = []
schemes_in (stops_at_not_general i row at) = []

abbrev schemes : List SchemeTree
schemes = schemes_in (infer program)

-- no list begins with `]`
no_list : (more : List Token) (v : ValueSyntax) → IsValueText [] (list_shape num_shape) (right 0 false ∷ more) v → ⊥
no_list more (raw_truth b) h = absurd (cc h.0)
no_list more (raw_number at negative value n) h = absurd (cc h.0)
no_list more (raw_list vs) h =
    let same : right 0 false ≡ h.3.0 = cc h.3.2 in
    let other : kind.Sign symbol.RightBracket ≡ kind.Sign symbol.LeftBracket = ap (λ (t : Token). t.kind) same ∙ h.3.1 in
    absurd (cc other)
no_list more (raw_record r vs) h = absurd (cc h.2)

keep_is_named : IsNamed program (codes "keep") 1 keep
keep_is_named = record { number = refl; declared = refl }

-- ---- calls that are refused before an argument is read

no_function : IsCallOf program [] schemes (codes "kept") (codes "[]" ∷ codes "[]" ∷ []) (Err refusal.NoFunction)
no_function = refl

one_missing : IsCallOf program [] schemes (codes "keep") (codes "[]" ∷ []) (Err refusal.WrongCount)
one_missing = (1, keep, keep_is_named, λ e. omega (arith, e))

-- ---- calls, given the tokens of the two texts

abbrev empty : InputTree
empty = list_input no_inputs

abbrev judged : Judgement
judged = judge_call program schemes 1 keep (inputs_in_order (empty ∷ empty ∷ []))

abbrev nowhere : SchemeTree
nowhere = record { signature = record { params = []; result = bool_type }; vars = 0 }

abbrev scheme_in : Judgement → SchemeTree
scheme_in (has_scheme s) = s
scheme_in too_many_slots = nowhere
scheme_in (passes_range at) = nowhere
scheme_in (has_no_typing row at) = nowhere
scheme_in (not_general row at) = nowhere

module _ (brackets : HasTokens (chars (codes "[]")) (left ∷ right 1 true ∷ [])) (bracket : HasTokens (chars (codes "]")) (right 0 false ∷ [])) where
  empty_is_input : IsInput (given program []) (list_shape num_shape) (codes "[]") empty
  empty_is_input = (
    raw_list raw_none,
    record { tokens = left ∷ right 1 true ∷ []; lexed = brackets; is = (num_shape, right 1 true ∷ [], refl, (left, refl, refl), (right 1 true, refl, refl)); low = omega arith },
    refl,
    refl,
    refl,
  )

  -- the second argument is refused, at its first token
  second_refused : IsCallOf program [] schemes (codes "keep") (codes "[]" ∷ codes "]" ∷ []) (Err (refusal.Argument 1 (input_stop.Shape 0)))
  second_refused = (
    1,
    keep,
    keep_is_named,
    (
      refl,
      record {
        before = empty ∷ [];
        read = (empty_is_input, tt);
        shape = list_shape num_shape;
        has_shape = refl;
        text = codes "]";
        has_text = refl;
        refused = record {
          tokens = right 0 false ∷ [];
          lexed = bracket;
          k = 0;
          place = refl;
          stops = record {
            within = omega arith;
            before = (left ∷ right 1 true ∷ [], raw_list raw_none, (num_shape, right 1 true ∷ [], refl, (left, refl, refl), (right 1 true, refl, refl)), omega arith);
            through = λ lt b. no_list b.0 b.1 b.2;
            none = λ e. absurd (omega (arith, e));
          };
        };
        cause = λ e. absurd (cc e);
      },
    ),
  )

  kept : IsCallOf program [] schemes (codes "keep") (codes "[]" ∷ codes "[]" ∷ []) (Ok (record { function = 1; inputs = empty ∷ empty ∷ []; type = (scheme_in judged).signature.result }))
  unfolding product
  kept = (1, keep, keep_is_named, (empty ∷ empty ∷ [], (empty_is_input, (empty_is_input, tt)), (scheme_in judged, refl, refl)))

-- its type is num<'a> list
abbrev item_terms : TypeTree → List Term
item_terms bool_type = []
item_terms (num_type u) = []
item_terms (list_type bool_type) = []
item_terms (list_type (num_type u)) = u.terms
item_terms (list_type (list_type t)) = []
item_terms (list_type (record_type r us)) = []
item_terms (record_type r us) = []

kept_type : item_terms (scheme_in judged).signature.result ≡ record { atom = Var 0; power = pos 1 } ∷ []
unfolding product
kept_type = refl
