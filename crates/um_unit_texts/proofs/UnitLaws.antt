-- What isn't refused can be completed; a unit text is read as it, and what is found is one.
use Rattle.std.proofs.Common.{◌≡◌, ◌≢◌, ◌≤◌, pos, List, [], ◌∷◌, ◌++◌, true, false, Some, refl, sym, ap, subst, ◌∙◌, arith, inl, inr}
use Rattle.std.specs.Prelude.{neg_ℤ}
use Rattle.std.proofs.lemmas.List.{append-nil}
use lib.Signed.{le_z_yes}
use Rattle.um_frac.specs.declared.number.Frac.{Frac}
use Rattle.um_frac.specs.Gcd.{gcd}
use Rattle.um_syntax.specs.declared.token.Token.{Token}
use Rattle.um_syntax.specs.declared.token.Kind.TheVariants as kind
use Rattle.um_vocabulary.specs.declared.vocabulary.Symbol.TheVariants as symbol
use Rattle.um_tree.specs.RawTree.{UnitSyntax, measure_syntax, power_syntax, side_syntax, times_syntax, over_syntax, inverse_syntax, bracket_syntax, units_in_order}
use Rattle.um_unit_texts.specs.UnitGrammar.{Spells, rank, Fits, IsUnit}
use Rattle.um_unit_texts.specs.UnitMachine.{Frame, InBracket, InInverse, InTimes, InOver, InSide, State, Need, Have, Raised, Lowered, Refused, top_limit, run, whole, finish}
use Rattle.um_unit_texts.proofs.UnitComplete.{into, red, red_into, rank_low, complete}
use Rattle.um_unit_texts.proofs.UnitSound.{Opened, FramesFit, SpellsPrefix, limit_low, side_fits, spells_last, spells_prefix, is_unit}

pub lowest_zero : gcd 0 1 ≡ 1
unfolding gcd
lowest_zero = refl

abbrev pub zero_number : Frac
zero_number = record { num = pos 0; den = pos 1; positive = le_z_yes tt; den_fits = le_z_yes tt; above = le_z_yes tt; num_fits = le_z_yes tt; lowest = lowest_zero }

-- a name without letters, a number and a closing bracket
abbrev name_token : Token
name_token = record { kind = kind.Name []; start = 0; end = 0; glued = false }

abbrev number_token : Token
number_token = record { kind = kind.Number zero_number true false; start = 0; end = 0; glued = false }

abbrev close_token : Token
close_token = record { kind = kind.Sign symbol.RightParen; start = 0; end = 0; glued = false }

-- the least that ends what is open, and the unit text then
abbrev pub endings : List Frame → List Token
endings [] = []
endings (InBracket at ∷ frames) = close_token ∷ endings frames
endings (InInverse at ∷ frames) = endings frames
endings (InTimes left ∷ frames) = endings frames
endings (InOver left ∷ frames) = endings frames
endings (InSide earlier ∷ frames) = endings frames

abbrev pub filled : Frame → UnitSyntax → UnitSyntax
filled (InBracket at) t = bracket_syntax at t
filled (InInverse at) t = inverse_syntax at t
filled (InTimes left) t = times_syntax left t
filled (InOver left) t = over_syntax left t
filled (InSide earlier) t = side_syntax (units_in_order (earlier ++ t ∷ []))

abbrev pub all_filled : List Frame → UnitSyntax → UnitSyntax
all_filled [] t = t
all_filled (frame ∷ frames) t = all_filled frames (filled frame t)

abbrev pub ending_of : State → List Token
ending_of (Need frames) = name_token ∷ endings frames
ending_of (Have frames t) = endings frames
ending_of (Raised frames t) = number_token ∷ endings frames
ending_of (Lowered frames t) = number_token ∷ endings frames
ending_of Refused = []

abbrev pub completed : State → UnitSyntax
completed (Need frames) = all_filled frames (measure_syntax 0 [])
completed (Have frames t) = all_filled frames t
completed (Raised frames t) = all_filled frames (power_syntax t (pos 0))
completed (Lowered frames t) = all_filled frames (power_syntax t (neg_ℤ (pos 0)))
completed Refused = measure_syntax 0 []

ends : (frames : List Frame) (t : UnitSyntax) (tokens mid : List Token) → Opened frames tokens mid → Spells t mid (endings frames) → FramesFit frames → Fits t → rank t ≤ top_limit frames → IsUnit tokens (all_filled frames t)
ends [] t tokens mid o s f fits le = record { spelled = subst (λ w. Spells t w []) (sym o) s; fits = fits }
ends (InBracket at ∷ frames) t tokens mid o s f fits le =
    ends frames (bracket_syntax at t) tokens o.0 o.1 (mid, close_token ∷ endings frames, o.2, s, (close_token, refl, refl)) f.1 fits (omega (arith, limit_low frames))
ends (InInverse at ∷ frames) t tokens mid o s f fits le = ends frames (inverse_syntax at t) tokens o.0 o.1 (mid, o.2, s) f.1 (le, fits) f.0
ends (InTimes left ∷ frames) t tokens mid o s f fits le = ends frames (times_syntax left t) tokens o.0 o.2 (o.1, mid, o.3, o.4, s) f.1 (le, f.0.1, fits) f.0.0
ends (InOver left ∷ frames) t tokens mid o s f fits le = ends frames (over_syntax left t) tokens o.0 o.2 (o.1, mid, o.3, o.4, s) f.1 (le, f.0.1, fits) f.0.0
ends (InSide earlier ∷ frames) t tokens mid o s f fits le =
    ends frames (side_syntax (units_in_order (earlier ++ t ∷ []))) tokens o.0 o.1 (spells_last earlier t o.0 mid (endings frames) o.2 s) f.1 (side_fits earlier t f.0.1 f.0.2 fits le) f.0.0

-- what isn't refused can be completed
can_end : (st : State) (tokens : List Token) → SpellsPrefix st tokens (ending_of st) → st ≢ Refused → IsUnit tokens (completed st)
can_end (Need frames) tokens h ok =
    ends frames (measure_syntax 0 []) tokens (name_token ∷ endings frames) h.0 (name_token, refl, refl, refl) h.1 tt (omega (arith, limit_low frames))
can_end (Have frames t) tokens h ok = ends frames t tokens h.0 h.1 h.2 h.3 h.4 (omega (arith, h.5, limit_low frames))
can_end (Raised frames t) tokens h ok =
    ends frames (power_syntax t (pos 0)) tokens h.0 h.2 (h.1, number_token ∷ endings frames, h.3, h.4, (0, inl (refl, (false, (number_token, refl, refl))))) h.5 (h.7, h.6) (omega (arith, limit_low frames))
can_end (Lowered frames t) tokens h ok =
    ends frames (power_syntax t (neg_ℤ (pos 0))) tokens h.0 h.3 (h.1, h.2, h.4, h.5, (0, inr (number_token ∷ endings frames, refl, h.6, (false, (number_token, refl, refl))))) h.7 (h.9, h.8)
    (omega (arith, limit_low frames))
can_end Refused tokens h ok = absurd (ok refl)

pub can_go_on : (read : List Token) → run (Need []) read ≢ Refused → IsUnit (read ++ ending_of (run (Need []) read)) (completed (run (Need []) read))
can_go_on read ok = can_end (run (Need []) read) (read ++ ending_of (run (Need []) read)) (spells_prefix read (ending_of (run (Need []) read))) ok

pub reads_as : (t : UnitSyntax) (tokens : List Token) → IsUnit tokens t → run (Need []) tokens ≡ into [] t
reads_as t tokens p = complete t [] tokens [] p.spelled p.fits (rank_low t)

pub finish_red : (st : State) → finish st ≡ whole (red st)
finish_red (Need frames) = refl
finish_red (Have frames t) = refl
finish_red (Raised frames t) = refl
finish_red (Lowered frames t) = refl
finish_red Refused = refl

-- a unit text is read as it
pub finds : (tokens : List Token) (t : UnitSyntax) → IsUnit tokens t → finish (run (Need []) tokens) ≡ Some t
finds tokens t p = ap finish (reads_as t tokens p) ∙ finish_red (into [] t) ∙ ap whole (red_into t [] p.fits)

-- what is found is a unit text
pub found : (tokens : List Token) (t : UnitSyntax) → finish (run (Need []) tokens) ≡ Some t → IsUnit tokens t
found tokens t e = is_unit (run (Need []) tokens) t tokens (subst (λ w. SpellsPrefix (run (Need []) tokens) w []) (append-nil tokens) (spells_prefix tokens [])) e
