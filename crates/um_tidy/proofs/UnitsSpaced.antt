-- The layout of a unit text has the table's spaces.
use Rattle.std.proofs.Common.{◌≡◌, refl, sym, ap, ◌∙◌, ℕ, ◌≤◌, ℤ, pos, negsuc, Bool, true, false, cond, List, [], ◌∷◌, ◌++◌, arith}
use Rattle.um_tree.specs.RawTree.{UnitSyntax, UnitSyntaxes, one_syntax, measure_syntax, variable_syntax, power_syntax, side_syntax, times_syntax, over_syntax, inverse_syntax, bracket_syntax, no_units, more_units}
use Rattle.um_unit_texts.specs.UnitGrammar.{Fits, ArePowers, rank}
use Rattle.um_vocabulary.specs.declared.vocabulary.Symbol.TheVariants as symbol
use Rattle.um_show.specs.Pieces.{Piece, caret, times, over, bracket_close}
use Rattle.um_show.specs.Layout.{power_pieces, unit_pieces, more_side_pieces}
use Rattle.um_tidy.specs.declared.stand.Next.{Next}
use Rattle.um_tidy.specs.declared.stand.Next.TheVariants as next_of
use Rattle.um_tidy.specs.declared.stand.Within.{Within}
use Rattle.um_tidy.specs.Stands.{apart, before, between, has_ended, in_unit, star_stand, slash_stand}
use Rattle.um_tidy.proofs.SpacedPieces.{joined, parted, gap_of, standing, Spaced, joins, never, first, sign_step, name_step, named, bracketed}

-- behind these pieces, that stand inside units, an operand has ended
pub record UnitSpaced (b : Bool) (n : Next) (w : Within) (ps : List Piece) : Type 0 where
  pub next : Next
  pub ends : has_ended next ≡ true
  pub spaced : Spaced (standing b n w) (gap_of b) ps (standing false next w) joined

pub record SideSpaced (n : Next) (w : Within) (ps : List Piece) : Type 0 where
  pub next : Next
  pub ends : has_ended next ≡ true
  pub spaced : Spaced (standing false n w) joined ps (standing false next w) joined

-- ---- the rows of the table for `*` and `/`

star_is : (w : Within) → in_unit w ≡ true → star_stand w ≡ between next_of.Operand w
star_is w e = ap (λ b. cond b (between next_of.Operand w) (apart next_of.Operand w)) e

slash_is : (n : Next) (w : Within) (b : Bool) → in_unit w ≡ true → has_ended n ≡ b → slash_stand n w ≡ cond b (between next_of.Operand w) (before next_of.Operand w)
slash_is n w b e h =
    ap (λ c. cond c (cond (has_ended n) (between next_of.Operand w) (before next_of.Operand w)) (apart next_of.Operand w)) e
    ∙ ap (λ c. cond c (between next_of.Operand w) (before next_of.Operand w)) h

-- ---- ranks

pub not_so : (b : Bool) → (b ≡ true → ⊥) → b ≡ false
not_so true none = absurd (none refl)
not_so false none = refl

three : 3 ≤ 2 → ⊥
three h = omega (arith, h)

four : 4 ≤ 2 → ⊥
four h = omega (arith, h)

low_rank : (n : ℕ) → n ≤ 1 → n ≤ 2
low_rank n h = omega (arith, h)

no_rank : (n : ℕ) → n ≡ 0 → n ≤ 2
no_rank n h = omega (arith, h)

-- ---- units

power_spaced : (w : Within) (k : ℤ) → Spaced (standing true next_of.Operand w) joined (power_pieces k) (standing false next_of.Number w) joined
power_spaced w (pos n) = (refl, (refl, refl))
power_spaced w (negsuc n) = (refl, (refl, (refl, refl)))

-- Where an operand has ended, no `/` begins a unit.
mutual
  pub unit_spaced : (w : Within) → in_unit w ≡ true → (u : UnitSyntax) → Fits u → (b : Bool) (n : Next) → (has_ended n ≡ true → rank u ≤ 2) → UnitSpaced b n w (unit_pieces u)
  unit_spaced w i (one_syntax at) f b n low = record { next = next_of.Number; ends = refl; spaced = (first b n w (apart next_of.Number w) refl, (refl, refl)) }
  unit_spaced w i (measure_syntax at x) f b n low =
      let e = named n w in
      record { next = e.next; ends = e.ended; spaced = name_step (standing b n w) (gap_of b) x (apart e.next w) [] (standing false e.next w) joined e.is (first b n w (apart e.next w) refl) (refl, refl) }
  unit_spaced w i (variable_syntax at x) f b n low = record { next = next_of.Ended; ends = refl; spaced = (first b n w (apart next_of.Ended w) refl, (refl, refl)) }
  unit_spaced w i (power_syntax u k) f b n low =
      let r = unit_spaced w i u f.1 b n (λ e. no_rank (rank u) f.0) in
      record {
        next = next_of.Number;
        ends = refl;
        spaced = joins (unit_pieces u) (caret ∷ power_pieces k) (standing b n w) (standing false r.next w) (standing false next_of.Number w) (gap_of b) joined joined r.spaced (refl, power_spaced w k);
      }
  unit_spaced w i (side_syntax no_units) f b n low = absurd f.0
  unit_spaced w i (side_syntax (more_units u us)) f b n low =
      let r = unit_spaced w i u f.1.1 b n (λ e. low_rank (rank u) f.1.0) in
      let q = more_spaced w i us f.1.2 r.next r.ends in
      record { next = q.next; ends = q.ends; spaced = joins (unit_pieces u) (more_side_pieces us) (standing b n w) (standing false r.next w) (standing false q.next w) (gap_of b) joined joined r.spaced q.spaced }
  unit_spaced w i (times_syntax u v) f b n low =
      let r = unit_spaced w i u f.1 b n (λ e. absurd (four (low e))) in
      let q = unit_spaced w i v f.2 true next_of.Operand never in
      record {
        next = q.next;
        ends = q.ends;
        spaced =
            joins (unit_pieces u) (times ∷ unit_pieces v) (standing b n w) (standing false r.next w) (standing false q.next w) (gap_of b) joined joined r.spaced
            (sign_step (standing false r.next w) joined symbol.Star (between next_of.Operand w) (unit_pieces v) (standing false q.next w) joined (star_is w i) refl q.spaced);
      }
  unit_spaced w i (over_syntax u v) f b n low =
      let r = unit_spaced w i u f.1 b n (λ e. absurd (four (low e))) in
      let q = unit_spaced w i v f.2 true next_of.Operand never in
      record {
        next = q.next;
        ends = q.ends;
        spaced =
            joins (unit_pieces u) (over ∷ unit_pieces v) (standing b n w) (standing false r.next w) (standing false q.next w) (gap_of b) joined joined r.spaced
            (sign_step (standing false r.next w) joined symbol.Slash (between next_of.Operand w) (unit_pieces v) (standing false q.next w) joined (slash_is r.next w true i r.ends) refl q.spaced);
      }
  unit_spaced w i (inverse_syntax at u) f b n low =
      let q = unit_spaced w i u f.1 true next_of.Operand never in
      let wants = not_so (has_ended n) (λ e. three (low e)) in
      record {
        next = q.next;
        ends = q.ends;
        spaced =
            sign_step (standing b n w) (gap_of b) symbol.Slash (before next_of.Operand w) (unit_pieces u) (standing false q.next w) joined (slash_is n w false i wants) (first b n w (before next_of.Operand w) refl) q.spaced;
      }
  unit_spaced w i (bracket_syntax at u) f b n low =
      let o = bracketed n w in
      let q = unit_spaced w i u f true o.next (λ e. never (sym o.wants ∙ e)) in
      record {
        next = next_of.Ended;
        ends = refl;
        spaced =
            sign_step (standing b n w) (gap_of b) symbol.LeftParen (before o.next w) (unit_pieces u ++ bracket_close ∷ []) (standing false next_of.Ended w) joined o.is (first b n w (before o.next w) refl)
            (joins (unit_pieces u) (bracket_close ∷ []) (standing true o.next w) (standing false q.next w) (standing false next_of.Ended w) joined joined joined q.spaced (refl, (refl, refl)));
      }

  more_spaced : (w : Within) → in_unit w ≡ true → (us : UnitSyntaxes) → ArePowers us → (n : Next) → has_ended n ≡ true → SideSpaced n w (more_side_pieces us)
  more_spaced w i no_units f n e = record { next = n; ends = e; spaced = (refl, refl) }
  more_spaced w i (more_units u us) f n e =
      let r = unit_spaced w i u f.1 false n (λ e. low_rank (rank u) f.0) in
      let q = more_spaced w i us f.2 r.next r.ends in
      record { next = q.next; ends = q.ends; spaced = (refl, joins (unit_pieces u) (more_side_pieces us) (standing false n w) (standing false r.next w) (standing false q.next w) parted joined joined r.spaced q.spaced) }
