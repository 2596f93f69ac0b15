-- What stands after a number: nothing, a unit text in angle brackets, or `<_>`.
use Rattle.std.proofs.Common.{◌≡◌, ℕ, ◌≤◌, pos, Bool, true, false, List, [], ◌∷◌, ◌++◌, codes, Option, Some, None, refl, sym, ap, arith}
use Rattle.std.specs.Ordering.{int_eq}
use Rattle.um_units.specs.PowerMap.{PowerMap, one}
use Rattle.um_frac.specs.declared.number.Frac.{Frac}
use Rattle.um_frac.specs.Fraction.{numerator}
use Rattle.um_syntax.specs.declared.token.Token.{Token}
use Rattle.um_syntax.specs.declared.token.Kind.TheVariants as kind
use Rattle.um_vocabulary.specs.declared.vocabulary.Symbol.TheVariants as symbol
use Rattle.um_tree.specs.RawTree.{NoteSyntax, hole_syntax, unit_note_syntax}
use Rattle.um_tree.specs.Typing.{LiteralUnit}
use Rattle.um_measures.specs.UnitNames.{unless}
use Rattle.um_value.specs.ValueGrammar.{WrittenSpells, written_height}
use Rattle.um_value.specs.ValueNames.{fault_in, note_fault, note_range_fault, unit_note_of}
use Rattle.um_show.proofs.Chain.{fresh, full}
use Rattle.um_all_answers.proofs.Segments.{Spelling, Segment, Then, segment_then, segment_as, segment_none, segment_token, Skips, FirstToken}
use Rattle.um_all_answers.proofs.Tokens.{sign_token, hole_token}
use Rattle.um_all_answers.proofs.UnitEdges.{unit_begins}
use Rattle.um_all_answers.proofs.BareUnits.{resolved_is}
use Rattle.um_all_answers.proofs.UnitTexts.{IsUnitOf}

module _ (measures : List ℕ → Option PowerMap) where
  -- the tokens up to the rest are what stands after a number of the unit; if the unit is left open, the number is 0
  pub record IsNoteOf (free : Bool) (u : PowerMap) (tokens rest : List Token) : Type 0 where
    pub note : Option NoteSyntax
    pub spelled : WrittenSpells note tokens rest
    pub named : (at : ℕ) (c : Frac) → (free ≡ true → numerator c ≡ pos 0) → note_fault measures at c note ≡ None
    pub fit : note_range_fault measures note ≡ None
    pub low : written_height note ≤ 400
    pub literal : (x : Frac) → (free ≡ true → numerator x ≡ pos 0) → LiteralUnit x (unit_note_of measures note) u

  no_note : (tokens rest : List Token) → Skips tokens rest → IsNoteOf false one tokens rest
  no_note tokens rest s = record { note = None; spelled = s; named = λ at c z. refl; fit = refl; low = omega arith; literal = λ x z. refl }

  pub segment_no_note : Segment [] full full (IsNoteOf false one)
  segment_no_note = segment_as [] full full Skips (IsNoteOf false one) no_note (segment_none full)

  abbrev Angled : Spelling → Spelling
  Angled S = Then (Then (FirstToken (kind.Sign symbol.Less) true) S) (FirstToken (kind.Sign symbol.Greater) true)

  segment_angled : (text : List ℕ) (S : Spelling) → Segment text (fresh true false) full S → Segment (codes "<" ++ text ++ codes ">") full full (Angled S)
  segment_angled text S x =
      segment_then (codes "<" ++ text) (codes ">") full full full (Then (FirstToken (kind.Sign symbol.Less) true) S) (FirstToken (kind.Sign symbol.Greater) true)
      (
      segment_then (codes "<") text full (fresh true false) full (FirstToken (kind.Sign symbol.Less) true) S
      (segment_token (codes "<") full (fresh true false) (kind.Sign symbol.Less) (sign_token symbol.Less full refl)) x
      )
      (segment_token (codes ">") full full (kind.Sign symbol.Greater) (sign_token symbol.Greater full refl))

  unit_note : (u : PowerMap) (tokens rest : List Token) → Angled (IsUnitOf measures u) tokens rest → IsNoteOf false u tokens rest
  unit_note u tokens rest (last, (next, (less, first, glued, is), unit), (greater, second, close, ends)) =
      let begun = unit_begins unit.syntax unit.inside [] unit.is.spelled unit.is.fits in
      record {
        note = Some (unit_note_syntax begun.token.start unit.syntax);
        spelled = (next, unit.inside, last, (less, first, glued, is), unit.cut, record { spelled = ((begun.token, begun.others, refl, begun.is), unit.is.spelled); fits = unit.is.fits }, (greater, second, ends));
        named = λ at c z. unit.resolved.known;
        fit = ap fault_in (resolved_is measures unit.syntax u unit.resolved);
        low = unit.low;
        literal = λ x z. sym unit.resolved.is;
      }

  pub segment_unit_note : (text : List ℕ) (u : PowerMap) → Segment text (fresh true false) full (IsUnitOf measures u) → Segment (codes "<" ++ text ++ codes ">") full full (IsNoteOf false u)
  segment_unit_note text u x = segment_as (codes "<" ++ text ++ codes ">") full full (Angled (IsUnitOf measures u)) (IsNoteOf false u) (unit_note u) (segment_angled text (IsUnitOf measures u) x)

  hole_note : (u : PowerMap) (tokens rest : List Token) → Angled (FirstToken kind.Hole true) tokens rest → IsNoteOf true u tokens rest
  hole_note u tokens rest (last, (next, (less, first, glued, is), (hole, which, behind, inside)), (greater, second, close, ends)) = record {
    note = Some (hole_syntax hole.start);
    spelled = (next, hole ∷ [], last, (less, first, glued, is), inside, record { spelled = (hole, which, refl, refl); fits = tt }, (greater, second, ends));
    named = λ at c z. ap (λ w. unless (int_eq w (pos 0)) at) (z refl);
    fit = refl;
    low = omega arith;
    literal = λ x z. z refl;
  }

  pub segment_hole_note : (u : PowerMap) → Segment (codes "<_>") full full (IsNoteOf true u)
  segment_hole_note u =
      segment_as (codes "<_>") full full (Angled (FirstToken kind.Hole true)) (IsNoteOf true u) (hole_note u)
      (segment_angled (codes "_") (FirstToken kind.Hole true) (segment_token (codes "_") (fresh true false) full kind.Hole (hole_token (fresh true false) refl)))
