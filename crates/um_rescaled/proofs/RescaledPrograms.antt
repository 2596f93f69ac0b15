-- A program in tokens with the numbers of the rescaled program is the rescaled program.
use Rattle.std.proofs.Common.{◌≡◌, ℕ, List, [], length, map, Some, sym, ap, subst, ◌∙◌, Ok}
use Rattle.std.specs.Str.{chars}
use Rattle.std.proofs.lemmas.List.{append-nil}
use Rattle.std.proofs.lemmas.Str.{scalars-chars}
use Rattle.um_frac.specs.declared.number.Frac.{Frac}
use Rattle.um_syntax.specs.declared.token.Token.{Token}
use Rattle.um_tree.specs.RawTree.{DeclSyntax}
use Rattle.um_tree.specs.ProgramTree.{ProgramTree}
use Rattle.um_measures.specs.Faults.{and_then}
use Rattle.um_measures.specs.Known.{Known, nothing}
use Rattle.um_names.specs.Resolution.{resolution, resolved_program, resolved_abbreviations}
use Rattle.um_parse.specs.ProgramHeights.{program_height}
use Rattle.um_parse.specs.ProgramLimits.{WithinLimits}
use Rattle.um_parse.specs.DeclGrammar.{DeclsSpell, IsProgram}
use Rattle.um_text_details.proofs.RisingTokens.{Rise, tokens_rise}
use Rattle.um_show.proofs.GoodTokens.{IsNatural, AllGood, tokens_good}
use Rattle.um_scale.specs.Sizes.{AreSizes}
use Rattle.um_scale.specs.RescaledLiterals.{rescaled_function, rescaled_program}
use Rattle.um_scale.specs.RescaledText.{literals_of, literal_at}
use Rattle.um_rescaled.specs.Replaced.{AreReplaced}
use Rattle.um_rescaled.specs.NumberLaws.{rescaled_numbers, Spells, RescaledNumbersAreUnsigned, ReplacedProgramsAreRescaled}
use Rattle.um_rescaled.proofs.Picks.{front, picked, AreTold}
use Rattle.um_rescaled.proofs.OtherFunctions.{rescaled_known}
use Rattle.um_rescaled.proofs.ExprsReplaced.{one_found}
use Rattle.um_rescaled.proofs.DeclsReplaced.{DeclsAgain, decls_again}
use Rattle.um_rescaled.proofs.Table.{told, natural}

module _ (bytes : List ℕ) (tokens : List Token) (ds : List DeclSyntax) (p : ProgramTree) (cs : List Frac) (above : AreSizes cs) (spelled : Spells bytes tokens ds p) where
  abbrev Whole : Known → Type 0
  Whole known = DeclsAgain cs above (rescaled_numbers cs p) ds nothing known tokens []

  -- the program as it is read again, and what is known at its end
  whole : (known : Known) × (resolution ds ≡ Ok known) × (known.program ≡ p) × Whole known
  whole =
      let r = spelled.read in
      let w = one_found (resolution ds) (λ (k : Known). k.program) p spelled.resolved in
      (w.0, w.1, w.2, decls_again cs above (rescaled_numbers cs p) ds nothing w.0 tokens [] r.spelled r.fits w.1)

  -- the literals that were found are those of the table
  marked : (known : Known) → known.program ≡ p → (a : Whole known) → picked a.segment.picks ≡ literals_of (rescaled_program cs p).functions
  marked known same a =
      let added : a.added ≡ p.functions = sym a.functions ∙ ap (λ (q : ProgramTree). q.functions) same in
      a.segment.marked ∙ ap (λ fs. literals_of (map (rescaled_function cs) fs)) added

  all_tokens : (known : Known) (a : Whole known) → tokens ≡ front a.segment.picks
  all_tokens known a = a.segment.cut ∙ append-nil (front a.segment.picks)

  unsigned : (place : ℕ) (c : Frac) → rescaled_numbers cs p place ≡ Some c → IsNatural c
  unsigned place c is =
      let w = whole in
      let s = w.3.segment in
      let good = tokens_good (chars bytes) tokens (scalars-chars bytes spelled.lexed.0) spelled.lexed.1 in
      natural s.picks place c s.signs (subst AllGood (all_tokens w.0 w.3) good) (ap (λ ls. literal_at ls place) (marked w.0 w.2 w.3) ∙ is)

  table_told : (known : Known) → known.program ≡ p → (a : Whole known) → AreTold (rescaled_numbers cs p) a.segment.picks
  table_told known same a =
      let rise = subst (λ ts. Rise 0 ts (length bytes)) (all_tokens known a) (tokens_rise bytes tokens spelled.lexed.0 spelled.lexed.1) in
      subst (λ ls. AreTold (literal_at ls) a.segment.picks) (marked known same a) (told a.segment.picks [] 0 (length bytes) rise tt)

  again : (others : List Token) → AreReplaced (rescaled_numbers cs p) tokens others → (es : List DeclSyntax) × IsProgram others es × (resolved_program es ≡ Ok (rescaled_program cs p)) × (resolved_abbreviations es ≡ resolved_abbreviations ds) × (program_height es ≡ program_height ds) × (WithinLimits 0 ds → WithinLimits 0 es)
  again others replaced =
      let w = whole in
      let a = w.3 in
      let read = a.segment.again (table_told w.0 w.2 a) others replaced in
      let found : resolution a.again ≡ Ok (rescaled_known cs w.0) = a.resolved in (
        a.again,
        record { spelled = subst (DeclsSpell a.again others) read.later read.good; fits = a.fits },
        (λ i. and_then (found i) (λ known. Ok known.program)) ∙ ap (λ (q : ProgramTree). Ok (rescaled_program cs q)) w.2,
        (λ i. and_then (found i) (λ known. Ok known.shorts)) ∙ sym (λ i. and_then (w.1 i) (λ known. Ok known.shorts)),
        a.height,
        a.within 0,
      )

pub numbers_unsigned : RescaledNumbersAreUnsigned
numbers_unsigned bytes tokens ds p cs above spelled = unsigned bytes tokens ds p cs above spelled

pub programs_rescaled : ReplacedProgramsAreRescaled
programs_rescaled bytes tokens others ds p cs above spelled replaced = again bytes tokens ds p cs above spelled others replaced
