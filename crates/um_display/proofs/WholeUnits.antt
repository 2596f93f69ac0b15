-- Tokens that are one unit text within the height are read to their end.
use Rattle.std.proofs.Common.{◌≡◌, ℕ, Bool, true, false, cond, eqb, eqb-true, List, length, take, Option, Some, None, sym, ap, subst, ◌∙◌, arith}
use Rattle.std.specs.Prelude.{MatchOption, Ok, option_map}
use Rattle.std.proofs.Math.Seq.{take-length}
use Rattle.std.proofs.lemmas.Bool.{eqb-false}
use Rattle.um_syntax.specs.declared.token.Token.{Token}
use Rattle.um_tree.specs.declared.raw.RawUnit.{RawUnit}
use Rattle.um_tree.specs.RawTree.{UnitSyntax, unit_syntax}
use Rattle.um_tree.specs.Heights.{unit_height}
use Rattle.um_reader.specs.Stops.{HasOneReading}
use Rattle.um_reader.proofs.Readers.{unambiguous}
use Rattle.um_reader.proofs.Texts.{begins_front}
use Rattle.um_reader.proofs.Answers.{one_reading}
use Rattle.um_unit_texts.specs.UnitGrammar.{IsUnit}
use Rattle.um_unit_texts.specs.UnitStops.{greatest_height, Reads, Misread, HighAt}
use Rattle.um_types.specs.UnitParsed.{Parsed}
use Rattle.um_types.proofs.ReaderLaws.{units_read}
use Rattle.um_display.specs.UnitWords.{IsLowUnit}

one_of : (tokens : List Token) → HasOneReading IsUnit unit_height greatest_height tokens
one_of tokens = one_reading IsUnit unit_height greatest_height tokens (unambiguous units_read)

whole_reading : (tokens : List Token) (u : UnitSyntax) → IsLowUnit tokens u → Reads tokens (length tokens) u
whole_reading tokens u h = record {
  stop = record { within = omega arith; before = begins_front IsUnit tokens u (length tokens) h.is; through = λ lt b. absurd (omega (arith, lt)) };
  is = subst (λ (ts : List Token). IsUnit ts u) (sym (take-length tokens)) h.is;
  low = h.low;
}

-- two unit texts of the same tokens are the same
pub one_unit : (tokens : List Token) (u v : UnitSyntax) → IsLowUnit tokens u → IsLowUnit tokens v → u ≡ v
one_unit tokens u v h k = ((one_of tokens).one_text (length tokens) (length tokens) u v (whole_reading tokens u h) (whole_reading tokens v k)).1

pub misread_none : (tokens : List Token) (k : ℕ) → Misread tokens k → (u : UnitSyntax) → IsLowUnit tokens u → ⊥
misread_none tokens k m u h = (one_of tokens).text_or_misread (length tokens) k u (whole_reading tokens u h) m

pub high_none : (tokens : List Token) (k : ℕ) → HighAt tokens k → (u : UnitSyntax) → IsLowUnit tokens u → ⊥
high_none tokens k m u h = (one_of tokens).text_or_high (length tokens) k u (whole_reading tokens u h) m

-- what is read up to a stop is all, or the tokens are no unit text
pub if_low : (tokens : List Token) (u : RawUnit) (n end : ℕ) (whole : Bool) (o : Option RawUnit) → Parsed tokens 0 end (Ok (u, n)) → whole ≡ eqb n (length tokens)
    → option_map unit_syntax o ≡ cond whole (Some (unit_syntax u)) None
    → MatchOption o ((v : UnitSyntax) → IsLowUnit tokens v → ⊥) (λ w. IsLowUnit tokens (unit_syntax w))
if_low tokens u n end whole o (k, at, read) s e = by whole s o e where
  by : (b : Bool) → b ≡ eqb n (length tokens) → (o : Option RawUnit) → option_map unit_syntax o ≡ cond b (Some (unit_syntax u)) None
      → MatchOption o ((v : UnitSyntax) → IsLowUnit tokens v → ⊥) (λ w. IsLowUnit tokens (unit_syntax w))
  by true s None e = absurd (cc e)
  by true s (Some w) e =
      let same : unit_syntax w ≡ unit_syntax u = cc e in
      let all : n ≡ length tokens = eqb-true n (length tokens) (sym s) in
      let stop : k ≡ length tokens = omega (arith, at, all) in
      let tokens_all : take k tokens ≡ tokens = ap (λ (j : ℕ). take j tokens) stop ∙ take-length tokens in
      subst (IsLowUnit tokens) (sym same) (record { is = subst (λ (ts : List Token). IsUnit ts (unit_syntax u)) tokens_all read.is; low = read.low })
  by false s None e = λ v h.
      let other = eqb-false n (length tokens) (sym s) in
      let stop : k ≡ length tokens = ((one_of tokens).one_text k (length tokens) (unit_syntax u) v read (whole_reading tokens v h)).0 in
      other (omega (arith, at, stop))
  by false s (Some w) e = absurd (cc e)
