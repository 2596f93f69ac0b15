-- Each function that a word names is held to each signature.
use Rattle.std.proofs.Common.{◌≡◌, ◌≢◌, ℕ, ◌≤◌, ◌<◌, List, ◌++◌, codes, length, MatchOption, Option, Some, None, refl, sym, ap, subst, arith}
use Rattle.std.specs.Prelude.{Result, Ok, Err}
use Rattle.std.proofs.lemmas.List.{length-map}
use Rattle.um_syntax.specs.Laws.{EachTextIsAnswered}
use Rattle.um_tree.specs.TypeTree.{TypeTree, type_trees}
use Rattle.um_tree.specs.ProgramTree.{FunctionTree}
use Rattle.um_parse.specs.Laws.{EachListIsAnswered}
use Rattle.um_measures.specs.Known.{number_of, function_names}
use Rattle.um_measures.proofs.NameLists.{number_of-below}
use Rattle.um_infer.proofs.SchemeLists.{item_at}
use Rattle.um_infer.specs.Laws.{SlotStopsAreExact, RangeStopsAreExact, UnitStopsAreExact, NotGeneralStopsAreExact}
use Rattle.um_sig.specs.declared.signature.Signature.{Signature}
use Rattle.um_sig.specs.declared.stop.SigText.{SigText}
use Rattle.um_sig.specs.declared.stop.SigText.TheVariants as sig_text
use Rattle.um_sig.specs.declared.stop.SigStop.{SigStop}
use Rattle.um_sig.specs.declared.stop.SigStop.TheVariants as sig_stop
use Rattle.um_reports.specs.declared.status.Status.{Status}
use Rattle.um_reports.specs.declared.status.Status.TheVariants.{Done, PowerRange, Input, NotConform}
use Rattle.um_reports.specs.CallRefusals.{positioned, signature_label, IsUnnamedReply, IsSignatureReply, difference_line, IsConformReply}
use Rattle.um_reports.specs.Steps.{line}
use Rattle.um_front.specs.Stages.{CheckedTree}
use Rattle.um_front.proofs.CheckedTexts.{schemes_are_principal}
use Rattle.um_answers.specs.ConformAnswer.{MatchingAnswer, BySignature, SignatureAnswer, IsConformAnswer, ConformAnswer}
use Rattle.um_all_answers.specs.TextLaws.{EachTextIsConformed}
use Rattle.um_all_answers.proofs.Texts.{each_is_read_or_refused}
use Rattle.um_all_answers.proofs.Stages.{schemes_or_refusal}
use Rattle.um_all_answers.proofs.Signatures.{signature_or_refusal, verdict}
use Rattle.um_all_answers.proofs.Answers.{Told, of_checked}

text_told : (word : List ℕ) (stop : SigText) → stop ≢ sig_text.NoMemory → Told (IsSignatureReply word stop)
text_told word (sig_text.Text at) some = (positioned (signature_label (codes "text")) word at, Input, (refl, refl))
text_told word (sig_text.Syntax at) some = (positioned (signature_label (codes "syntax")) word at, Input, (refl, refl))
text_told word (sig_text.Height at) some = (positioned (signature_label (codes "height")) word at, Input, (refl, refl))
text_told word (sig_text.Names at) some = (positioned (signature_label (codes "name")) word at, Input, (refl, refl))
text_told word (sig_text.PowerRange at) some = (positioned (signature_label (codes "power range")) word at, Input, (refl, refl))
text_told word sig_text.NoMemory some = absurd (some refl)

verdict_told : (name : List ℕ) (r : Result (Unit {0}) SigStop) → r ≢ Err sig_stop.NoMemory → Told (IsConformReply name r)
verdict_told name (Ok done) some = (line (name ++ codes " conforms"), Done, (refl, refl))
verdict_told name (Err (sig_stop.Form index)) some = (difference_line (codes "form") name index, NotConform, (refl, refl))
verdict_told name (Err (sig_stop.Units index)) some = (difference_line (codes "units") name index, NotConform, (refl, refl))
verdict_told name (Err (sig_stop.Range index)) some = (line (codes "error 10: power range of the signature"), PowerRange, (refl, refl))
verdict_told name (Err sig_stop.NoMemory) some = absurd (some refl)

module _ (each : EachTextIsAnswered) (name word : List ℕ) (short : length word ≤ 1048576) (bytes : List ℕ) (c : CheckedTree) (many : length c.schemes ≡ length c.text.program.functions) where
  module _ (k : ℕ) (below : k < length c.text.program.functions) where
    matching_told : (types : List TypeTree) → Told (MatchingAnswer k name c types)
    unfolding MatchingAnswer
    matching_told types =
        let (s, is) = item_at c.schemes k (omega (arith, below, many)) in
        let (r, some, conformed) = verdict (length c.text.program.bases) s types in
        let (text, status, reply) = verdict_told name r some in
        (text, status, (s, is, (r, conformed, reply)))

    by_signature : (r : Result Signature SigText) → r ≢ Err sig_text.NoMemory → Told (BySignature k name word c r)
    by_signature (Ok signature) some = matching_told (type_trees signature.types)
    by_signature (Err stop) some = text_told word stop (λ e. some (ap (λ x. Err x) e))

    signature_told : Told (SignatureAnswer k name word c)
    unfolding SignatureAnswer
    signature_told =
        let (r, some, read) = signature_or_refusal each c.text.program c.text.abbreviations word short in
        let (text, status, says) = by_signature r some in
        (text, status, (r, read, says))

  abbrev ByName : Option ℕ → List ℕ → Status → Type 0
  ByName o text status = MatchOption o (IsUnnamedReply text status) (λ k. SignatureAnswer k name word c text status)

  by_name : (o : Option ℕ) → number_of (function_names c.text.program.functions) name ≡ o → Told (IsConformAnswer name word c)
  unfolding IsConformAnswer
  by_name None e = let text = line (codes "error 11: no such function") in (text, Input, subst (λ (o : Option ℕ). ByName o text Input) (sym e) (refl, refl))
  by_name (Some k) e =
      let below = number_of-below name (function_names c.text.program.functions) k e in
      let (text, status, says) = signature_told k (omega (arith, below, length-map c.text.program.functions (λ (g : FunctionTree). g.name))) in
      (text, status, subst (λ (o : Option ℕ). ByName o text status) (sym e) says)

  pub conform_told : Told (IsConformAnswer name word c)
  conform_told = by_name (number_of (function_names c.text.program.functions) name) refl

module _ (each : EachTextIsAnswered) (parsed : EachListIsAnswered) (slots : SlotStopsAreExact) (ranges : RangeStopsAreExact) (units : UnitStopsAreExact) (less_general : NotGeneralStopsAreExact) where
  pub each_is_conformed : EachTextIsConformed
  unfolding ConformAnswer
  each_is_conformed name word bytes short =
      of_checked bytes (IsConformAnswer name word) (λ c is. conform_told each name word short bytes c (schemes_are_principal bytes c is).count)
      (schemes_or_refusal bytes slots ranges units less_general (each_is_read_or_refused each parsed bytes))
