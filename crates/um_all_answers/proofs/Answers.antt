-- Each text has an answer of each of these commands. Published: crates above use it.
use Rattle.std.proofs.Common.{◌≡◌, ◌⊎◌, ℕ, List, Option, Some, None, codes, refl, sym, subst, inl, inr}
use Rattle.std.specs.Prelude.{IsTrue, MatchOption, Ok, Err}
use Rattle.um_frac.specs.declared.number.Frac.{Frac}
use Rattle.um_syntax.specs.Laws.{EachTextIsAnswered}
use Rattle.um_show.specs.Layout.{layout}
use Rattle.um_tree.specs.RawTree.{DeclSyntax}
use Rattle.um_gen.specs.ProgramCode.{program_code}
use Rattle.um_code.specs.Listing.{listing_text}
use Rattle.um_tidy.specs.Tidied.{tidied}
use Rattle.um_parse.specs.Laws.{EachListIsAnswered}
use Rattle.um_scale.specs.RescaledLiterals.{misfit_in, rescaled_program}
use Rattle.um_scale.specs.RescaledText.{literals_of, literal_at, respelled, IsRescaledText}
use Rattle.um_sizes.specs.declared.read.ScalesRefusal.TheVariants.{NoBaseUnit}
use Rattle.um_sizes.specs.ScaleWords.{is_scales}
use Rattle.um_infer.specs.Laws.{SlotStopsAreExact, RangeStopsAreExact, UnitStopsAreExact, NotGeneralStopsAreExact}
use Rattle.um_reports.specs.declared.status.Status.{Status}
use Rattle.um_reports.specs.declared.status.Status.TheVariants.{Done, PowerRange, Input, ScaleRange}
use Rattle.um_reports.specs.Refusals.{placed, range_label}
use Rattle.um_reports.specs.ScaleRefusals.{IsLiteralReply}
use Rattle.um_reports.specs.Steps.{line}
use Rattle.um_front.specs.Stages.{IsReadText, CheckedTree, IsCheckedText}
use Rattle.um_front.specs.Refused.{IsUnchecked}
use Rattle.um_front.specs.Staged.{OfRead, OfChecked}
use Rattle.um_answers.specs.TypesAnswer.{scheme_lines, IsSchemeList, TypesAnswer}
use Rattle.um_answers.specs.AnnotAnswer.{Listing, listed, past, listing, IsListingReply, IsAnnotReply, AnnotAnswer}
use Rattle.um_answers.specs.CodeAnswer.{IsListing, CodeAnswer}
use Rattle.um_answers.specs.FmtAnswer.{IsLayout, FmtAnswer}
use Rattle.um_answers.specs.TidyAnswer.{IsTidied, TidyAnswer}
use Rattle.um_answers.specs.RescaleAnswer.{LiteralsAnswer, IsRescaled, RescaleAnswer}
use Rattle.um_all_answers.specs.Answered.{HasAnswer, IsReadOrRefused}
use Rattle.um_all_answers.specs.TextLaws.{EachTextHasStages, EachTextHasAnswers, EachTextIsRescaled}
use Rattle.um_all_answers.proofs.Texts.{each_is_read_or_refused}
use Rattle.um_all_answers.proofs.Stages.{shapes_or_refusal, schemes_or_refusal}
use Rattle.um_all_answers.proofs.Sizes.{SizesOrRefusal, sizes_or_refusal}

-- some text and status are these
abbrev pub Told : (List ℕ → Status → Type 0) → Type 0
Told Says = (text : List ℕ) × (status : Status) × Says text status

-- the text has schemes, or there is a refusal
abbrev pub SchemesOrRefusal : List ℕ → Type 0
SchemesOrRefusal bytes = ((c : CheckedTree) × IsCheckedText bytes c) ⊎ HasAnswer IsUnchecked bytes

module _ (bytes : List ℕ) where
  -- ---- a command that says something of each text of its stage
  of_read : (Says : List DeclSyntax → List ℕ → Status → Type 0) → ((raw : List DeclSyntax) → IsReadText bytes raw → Told (Says raw)) → IsReadOrRefused bytes → HasAnswer (OfRead Says) bytes
  of_read Says said (inl (raw, read)) = let (text, status, says) = said raw read in (text, status, inl (raw, read, says))
  of_read Says said (inr (text, status, unread)) = (text, status, inr unread)

  pub of_checked : (Says : CheckedTree → List ℕ → Status → Type 0) → ((c : CheckedTree) → IsCheckedText bytes c → Told (Says c)) → SchemesOrRefusal bytes → HasAnswer (OfChecked Says) bytes
  of_checked Says said (inl (c, is)) = let (text, status, says) = said c is in (text, status, inl (c, is, says))
  of_checked Says said (inr (text, status, unchecked)) = (text, status, inr unchecked)

  -- ---- the commands
  annotated_reply : (l : Listing) → Told (IsListingReply bytes l)
  annotated_reply (listed lines) = (lines, Done, (refl, refl))
  annotated_reply (past f at) = (placed (range_label f.name) bytes at, PowerRange, (refl, refl))

  tidied_reply : (raw : List DeclSyntax) → IsReadText bytes raw → Told (IsTidied bytes raw)
  tidied_reply raw read = (tidied bytes read.tokens, Done, (read.tokens, read.lexed, (refl, refl)))

  module _ (checked : SchemesOrRefusal bytes) where
    types_answered : HasAnswer TypesAnswer bytes
    unfolding TypesAnswer
    types_answered = of_checked IsSchemeList (λ c is. (scheme_lines c.text.program c.text.program.functions c.schemes, Done, (refl, refl))) checked

    annot_answered : HasAnswer AnnotAnswer bytes
    unfolding AnnotAnswer
    annot_answered = of_checked (IsAnnotReply bytes) (λ c is. annotated_reply (listing bytes c.text.program c.schemes 0 c.text.program.functions c.schemes)) checked

    code_answered : HasAnswer CodeAnswer bytes
    unfolding CodeAnswer
    code_answered = of_checked IsListing (λ c is. (listing_text c.text.program (program_code c.text.program.functions), Done, (refl, refl))) checked

  module _ (read : IsReadOrRefused bytes) where
    fmt_answered : HasAnswer FmtAnswer bytes
    unfolding FmtAnswer
    fmt_answered = of_read IsLayout (λ raw is. (layout raw, Done, (refl, refl))) read

    tidy_answered : HasAnswer TidyAnswer bytes
    unfolding TidyAnswer
    tidy_answered = of_read (IsTidied bytes) tidied_reply read

  -- ---- other sizes
  module _ (c : CheckedTree) (is : IsCheckedText bytes c) where
    abbrev Literals : List Frac → Option ℕ → List ℕ → Status → Type 0
    Literals cs x text status = MatchOption x (IsRescaledText bytes (rescaled_program cs c.text.program) text × (status ≡ Done)) (λ at. IsLiteralReply bytes at text status)

    literals_told : (cs : List Frac) (o : Option ℕ) → misfit_in cs c.text.program.functions ≡ o → Told (LiteralsAnswer cs bytes c.text.program)
    unfolding LiteralsAnswer
    literals_told cs None e =
        let tokens = is.shaped.written.tokens in
        let text = respelled bytes (literal_at (literals_of (rescaled_program cs c.text.program).functions)) 0 tokens in
        (text, Done, subst (λ (x : Option ℕ). Literals cs x text Done) (sym e) ((tokens, is.shaped.written.lexed.1, refl), refl))
    literals_told cs (Some at) e =
        let text = placed (codes "error 14: literal at ") bytes at in
        (text, ScaleRange, subst (λ (x : Option ℕ). Literals cs x text ScaleRange) (sym e) (refl, refl))

    rescaled_told : (word : List ℕ) → SizesOrRefusal c.text.program.bases word → Told (IsRescaled word bytes c)
    unfolding IsRescaled
    rescaled_told word (inl (cs, read)) =
        let (text, status, says) = literals_told cs (misfit_in cs c.text.program.functions) refl in (text, status, (Ok cs, read, says))
    rescaled_told word (inr read) = (line (codes "error 11: no such base unit"), Input, (Err NoBaseUnit, read, (refl, refl)))

  rescale_answered : (word : List ℕ) → IsTrue (is_scales word) → SchemesOrRefusal bytes → HasAnswer (RescaleAnswer word) bytes
  unfolding RescaleAnswer
  rescale_answered word stated checked =
      of_checked (IsRescaled word bytes) (λ c is. rescaled_told c is word (sizes_or_refusal c.text.program.bases word stated)) checked

module _ (each : EachTextIsAnswered) (parsed : EachListIsAnswered) (slots : SlotStopsAreExact) (ranges : RangeStopsAreExact) (units : UnitStopsAreExact) (less_general : NotGeneralStopsAreExact) where
  read_of : (bytes : List ℕ) → IsReadOrRefused bytes
  read_of = each_is_read_or_refused each parsed

  checked_of : (bytes : List ℕ) → SchemesOrRefusal bytes
  checked_of bytes = schemes_or_refusal bytes slots ranges units less_general (read_of bytes)

  pub each_has_stages : EachTextHasStages
  each_has_stages bytes = (shapes_or_refusal bytes (read_of bytes), checked_of bytes)

  pub each_has_answers : EachTextHasAnswers
  each_has_answers bytes =
      let read = read_of bytes in
      let checked = checked_of bytes in
      (types_answered bytes checked, annot_answered bytes checked, code_answered bytes checked, fmt_answered bytes read, tidy_answered bytes read)

  pub each_is_rescaled : EachTextIsRescaled
  each_is_rescaled word bytes stated = rescale_answered bytes word stated (checked_of bytes)
