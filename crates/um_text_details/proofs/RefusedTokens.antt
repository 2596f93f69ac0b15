-- The token that is refused at a place, and what is told of it.
use Rattle.std.proofs.Common.{◌≡◌, ℕ, zero, suc, ◌≤◌, List, [], ◌∷◌, ◌++◌, length, take, Ok, Err, refl, sym, ap, ◌∙◌, subst, arith}
use Rattle.std.specs.Prelude.{Option, slice_get}
use Rattle.um_syntax.specs.declared.token.Token.{Token}
use Rattle.um_syntax.specs.Feeding.{IsTextAnswer}
use Rattle.um_syntax.specs.Order.{AreInOrder}
use Rattle.um_syntax.proofs.InOrder.{tokens_in_order}
use Rattle.um_reader.specs.Texts.{BeginsTextWithin}
use Rattle.um_unit_texts.specs.UnitStops.{greatest_height, place_of}
use Rattle.um_types.specs.declared.parse.ParseStop.TheVariants as stop
use Rattle.um_parse.specs.DeclGrammar.{IsProgram}
use Rattle.um_parse.specs.Parsed.{Parsed}
use Rattle.um_parse.specs.ProgramHeights.{program_height}
use Rattle.um_text_details.specs.declared.word.Word.{Word}
use Rattle.um_text_details.specs.Expected.{Place, AreExpected}
use Rattle.um_text_details.specs.SyntaxDetails.{expected_line, is_glued, missing_in}
use Rattle.um_text_details.specs.Stops.{AddsTold, number_at}
use Rattle.um_text_details.proofs.RisingTokens.{number_of_place, place_after, tokens_rise}

place_within : (tokens : List Token) (k from end : ℕ) → AreInOrder from tokens end → place_of tokens k end ≤ end
place_within [] zero from end o = omega arith
place_within [] (suc k) from end o = omega arith
place_within (t ∷ ts) zero from end o = let start = o.1 in let within = o.2 in omega (arith, start, within)
place_within (t ∷ ts) (suc k) from end o = place_within ts k t.end end o.3

module _ (bytes : List ℕ) (tokens : List Token) (at : ℕ) (lexed : IsTextAnswer bytes (Ok tokens)) (refused : Parsed tokens (length bytes) (Err (stop.Syntax at))) where
  number : number_at tokens at ≡ refused.0
  number =
      ap (number_at tokens) refused.1
      ∙ number_of_place tokens refused.0 0 (length bytes) (tokens_rise bytes tokens lexed.0 lexed.1) refused.2.within

  pub refused_begins : (k : ℕ) → k ≡ number_at tokens at → BeginsTextWithin IsProgram program_height greatest_height (take k tokens)
  refused_begins k is = subst (λ (n : ℕ). BeginsTextWithin IsProgram program_height greatest_height (take n tokens)) (sym (is ∙ number)) refused.2.before

  pub refused_after : (k : ℕ) → k ≡ number_at tokens at → k ≤ at
  refused_after k is =
      let same = is ∙ number in
      let after = place_after tokens refused.0 0 (length bytes) (tokens_rise bytes tokens lexed.0 lexed.1) refused.2.within in
      let place = refused.1 in
      omega (arith, same, after, place)

  pub refused_within : at ≤ length bytes
  refused_within =
      let within = place_within tokens refused.0 0 (length bytes) (tokens_in_order bytes tokens 0 (omega arith) lexed.0 lexed.1) in
      let place = refused.1 in
      omega (arith, within, place)

  abbrev place_at : ℕ → ℕ → Place
  place_at n m = record { before = take n tokens; at = m; glued = is_glued (slice_get tokens n) }

  pub told_of_refused : (k : ℕ) → k ≡ number_at tokens at → (words : List Word) → AreExpected (place_at k at) words → (before after : List ℕ) → after ≡ before ++ expected_line words
      → (missing : Option ℕ) → missing ≡ missing_in tokens k words → AddsTold tokens (length bytes) before after missing
  told_of_refused k is words expected before after line missing lets =
      let same : k ≡ refused.0 = is ∙ number in
      let here : AreExpected (place_at refused.0 (place_of tokens refused.0 (length bytes))) words =
      subst (λ (m : ℕ). AreExpected (place_at refused.0 m) words) refused.1 (subst (λ (n : ℕ). AreExpected (place_at n at) words) same expected) in (
        expected_line words,
        line,
        record {
          number = refused.0;
          stops = refused.2;
          words = words;
          expected = here;
          line = refl;
          missing_in = lets ∙ ap (λ (n : ℕ). missing_in tokens n words) same;
        },
      )
