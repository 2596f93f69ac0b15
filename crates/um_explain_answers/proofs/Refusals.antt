-- How a text is refused and explained, by the first stage that fails.
use Rattle.std.proofs.Common.{◌≡◌, ℕ, ◌≤◌, List, length, true, inl, inr, None, Ok, Err, refl, sym, subst}
use Rattle.um_syntax.specs.declared.token.Token.{Token}
use Rattle.um_syntax.specs.declared.token.TextStop.{TextStop}
use Rattle.um_syntax.specs.Feeding.{IsTextAnswer}
use Rattle.um_types.specs.declared.parse.ParseStop.{ParseStop}
use Rattle.um_tree.specs.RawTree.{DeclSyntax}
use Rattle.um_tree.specs.ProgramTree.{ProgramTree, SchemeTree}
use Rattle.um_parse.specs.Parsed.{Parsed}
use Rattle.um_measures.specs.declared.stop.NameStop.{NameStop}
use Rattle.um_measures.specs.Stops.{IsFirst}
use Rattle.um_names.specs.Resolution.{resolved_program}
use Rattle.um_shape.specs.declared.stop.ShapeStop.{ShapeStop}
use Rattle.um_shape.specs.FirstFault.{first_fault}
use Rattle.um_shape.specs.ShapedProgram.{IsRefusal}
use Rattle.um_infer.specs.declared.stop.InferStop.{InferStop}
use Rattle.um_infer.specs.Answers.{IsInferred}
use Rattle.um_infer.specs.Inference.{all_schemes, infer}
use Rattle.um_reports.specs.declared.status.Status.{Status}
use Rattle.um_reports.specs.declared.status.Status.TheVariants.{Done}
use Rattle.um_reports.specs.Refusals.{IsTextReply, IsParseReply, IsNameReply, IsShapeReply}
use Rattle.um_reports.specs.Steps.{IsReply}
use Rattle.um_front.specs.Stages.{IsReadText, ShapedTree, IsShapedText}
use Rattle.um_front.specs.Refused.{IsUntypedReply, IsUnread, IsUnshaped, IsUnchecked}
use Rattle.um_answers.specs.TypesAnswer.{TypesAnswer, scheme_lines}
use Rattle.um_explain_answers.specs.Added.{Adds, HasNames, IsRefused}
use Rattle.um_explain_answers.specs.ExplainAnswer.{is_explained, Explains, ExplainAnswer}
use Rattle.um_explain_answers.specs.TokenRest.{IsTextRest, IsParseRest}
use Rattle.um_explain_answers.specs.NameRest.{IsNameRest, IsShapeRest}
use Rattle.um_explain_answers.specs.SchemeRest.{IsSchemeRest}
use Rattle.um_explain_answers.specs.Stages.{FollowsLine}
use Rattle.um_explain_answers.proofs.ShortTexts.{unchecked_explained}

-- ---- the line of the refusal

module _ (bytes line : List ℕ) (answered : Status) where
  pub text_refused : (stop : TextStop) → length bytes ≤ 1048576 → IsTextAnswer bytes (Err stop) → IsTextReply bytes stop line answered → IsRefused bytes line answered
  unfolding IsUnchecked IsUnshaped IsUnread
  text_refused stop short fault reply = (short, inl (inl (inr (inl (short, stop, fault, reply)))))

  pub parse_refused : (tokens : List Token) (stop : ParseStop) → length bytes ≤ 1048576 → IsTextAnswer bytes (Ok tokens) → Parsed tokens (length bytes) (Err stop) → IsParseReply bytes stop line answered
      → IsRefused bytes line answered
  unfolding IsUnchecked IsUnshaped IsUnread
  parse_refused tokens stop short lexed parsed reply = (short, inl (inl (inr (inr (short, tokens, lexed, stop, parsed, reply)))))

  pub names_refused : (raw : List DeclSyntax) (stop : NameStop) → IsReadText bytes raw → IsFirst (resolved_program raw) stop → IsNameReply bytes stop line answered → IsRefused bytes line answered
  unfolding IsUnchecked IsUnshaped
  names_refused raw stop read first reply = (read.short, inl (inr (inl (raw, read, stop, first, reply))))

  pub shapes_refused : (raw : List DeclSyntax) (p : ProgramTree) (stop : ShapeStop) → IsReadText bytes raw → resolved_program raw ≡ Ok p → IsRefusal (first_fault p) stop → IsShapeReply bytes stop line answered
      → IsRefused bytes line answered
  unfolding IsUnchecked IsUnshaped
  shapes_refused raw p stop read resolved fault reply = (read.short, inl (inr (inr (raw, read, p, resolved, stop, fault, reply))))

  module _ (raw : List DeclSyntax) (p : ProgramTree) (names : HasNames bytes raw p) (faultless : first_fault p ≡ None) where
    abbrev tree : ShapedTree
    tree = record { program = p; abbreviations = names.shorts }

    shaped : IsShapedText bytes tree
    shaped = record { raw = raw; written = names.read; resolved = names.resolved; abbreviated = names.abbreviated; faultless = faultless }

    pub schemes_refused : IsUntypedReply bytes line answered p (infer p) → IsRefused bytes line answered
    unfolding IsUnchecked
    schemes_refused reply = (names.read.short, inr (tree, shaped, reply))

    -- or each function has its scheme
    pub typed_answer : (schemes : List SchemeTree) → infer p ≡ all_schemes schemes → IsReply line answered (scheme_lines p p.functions schemes) Done → ExplainAnswer bytes line answered
    unfolding ExplainAnswer TypesAnswer
    typed_answer schemes inferred reply =
        (line, Done, inl (record { text = tree; schemes = schemes }, record { shaped = shaped; inferred = inferred }, (reply.0, refl)), (refl, reply.1))

-- ---- what follows it

module _ (bytes before after : List ℕ) where
  pub text_follows : (stop : TextStop) → IsTextAnswer bytes (Err stop) → Adds (IsTextRest bytes stop) before after → Adds (FollowsLine bytes) before after
  unfolding FollowsLine
  text_follows stop fault (rest, is, told) = (rest, is, inl (stop, fault, told))

  pub parse_follows : (tokens : List Token) (stop : ParseStop) → IsTextAnswer bytes (Ok tokens) → Parsed tokens (length bytes) (Err stop) → Adds (IsParseRest bytes tokens stop) before after → Adds (FollowsLine bytes) before after
  unfolding FollowsLine
  parse_follows tokens stop lexed parsed (rest, is, told) = (rest, is, inr (tokens, lexed, inl (stop, parsed, told)))

  module _ (raw : List DeclSyntax) (read : IsReadText bytes raw) where
    pub names_follow : (stop : NameStop) → IsFirst (resolved_program raw) stop → Adds (IsNameRest bytes raw stop) before after → Adds (FollowsLine bytes) before after
    unfolding FollowsLine
    names_follow stop first (rest, is, told) = (rest, is, inr (read.tokens, read.lexed, inr (raw, read.read, inl (stop, first, told))))

    module _ (p : ProgramTree) (resolved : resolved_program raw ≡ Ok p) where
      pub shapes_follow : (stop : ShapeStop) → IsRefusal (first_fault p) stop → Adds (IsShapeRest bytes p stop) before after → Adds (FollowsLine bytes) before after
      unfolding FollowsLine
      shapes_follow stop fault (rest, is, told) =
          (rest, is, inr (read.tokens, read.lexed, inr (raw, read.read, inr (p, resolved, inl (stop, fault, told)))))

      pub schemes_follow : (stop : InferStop) → first_fault p ≡ None → IsInferred p (Err stop) → Adds (IsSchemeRest bytes raw p stop) before after → Adds (FollowsLine bytes) before after
      unfolding FollowsLine
      schemes_follow stop faultless inferred (rest, is, told) =
          (rest, is, inr (read.tokens, read.lexed, inr (raw, read.read, inr (p, resolved, inr (faultless, (stop, inferred, told))))))

-- ---- both

pub explained_refusal : (bytes line text : List ℕ) (answered : Status) → IsRefused bytes line answered → Adds (FollowsLine bytes) line text → ExplainAnswer bytes text Done
unfolding ExplainAnswer TypesAnswer
explained_refusal bytes line text answered (short, refused) (rest, is, follows) =
    let told : is_explained answered ≡ true = unchecked_explained bytes line answered short refused in
    (line, answered, inr refused, subst (λ b. Explains b bytes line answered text Done) (sym told) (refl, rest, is, follows))
