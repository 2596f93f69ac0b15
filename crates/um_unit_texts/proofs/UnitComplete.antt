-- What a unit text spells is read as it, inside any frames, whatever follows.
use Rattle.std.proofs.Common.{◌≡◌, ℕ, ◌≤◌, ℤ, List, [], ◌∷◌, ◌++◌, cond, true, Some, refl, sym, ap, ◌∙◌, arith, inl, inr}
use Rattle.um_syntax.specs.declared.token.Token.{Token}
use Rattle.um_tree.specs.RawTree.{UnitSyntax, UnitSyntaxes, one_syntax, measure_syntax, variable_syntax, power_syntax, side_syntax, times_syntax, over_syntax, inverse_syntax, bracket_syntax, no_units, more_units, units_in_order}
use Rattle.um_unit_texts.specs.UnitTokens.{UnitToken, sign, measure, variable, number}
use Rattle.um_vocabulary.specs.declared.vocabulary.Symbol.TheVariants as symbol
use Rattle.um_unit_texts.specs.UnitGrammar.{First, FirstAt, PowerSpells, Spells, AllSpell, rank, Fits, ArePowers}
use Rattle.um_unit_texts.specs.UnitMachine.{Frame, InBracket, InInverse, InTimes, InOver, InSide, State, Need, Have, Raised, Lowered, Refused, top_limit, opens, reduce, juxtapose, begin, times_after, over_after, close_after, raise, after, act, run}

-- after a front of a juxtaposition, if there is one
abbrev pub inside : List UnitSyntax → List Frame → List Frame
inside [] frames = frames
inside (u ∷ us) frames = InSide (u ∷ us) ∷ frames

-- the state once a front, a unit and some more of a juxtaposition were read
abbrev pub behind : List Frame → List UnitSyntax → UnitSyntax → UnitSyntaxes → State
behind frames earlier u no_units = Have (inside earlier frames) u
behind frames earlier u (more_units v us) = behind frames (earlier ++ u ∷ []) v us

abbrev pub into_side : List Frame → UnitSyntaxes → State
into_side frames no_units = Refused
into_side frames (more_units u us) = behind frames [] u us

-- the state once a unit text was read inside frames
abbrev pub into : List Frame → UnitSyntax → State
into frames (one_syntax at) = Have frames (one_syntax at)
into frames (measure_syntax at x) = Have frames (measure_syntax at x)
into frames (variable_syntax at x) = Have frames (variable_syntax at x)
into frames (power_syntax u k) = Have frames (power_syntax u k)
into frames (side_syntax us) = into_side frames us
into frames (times_syntax u v) = into (InTimes u ∷ frames) v
into frames (over_syntax u v) = into (InOver u ∷ frames) v
into frames (inverse_syntax at u) = into (InInverse at ∷ frames) u
into frames (bracket_syntax at u) = Have frames (bracket_syntax at u)

abbrev pub red : State → State
red (Have frames t) = reduce frames t
red _ = Refused

-- a front and then the others
abbrev pub put : List UnitSyntax → UnitSyntaxes → UnitSyntaxes
put [] us = us
put (x ∷ xs) us = more_units x (put xs us)

put_last : (earlier : List UnitSyntax) (u : UnitSyntax) (us : UnitSyntaxes) → put (earlier ++ u ∷ []) us ≡ put earlier (more_units u us)
put_last [] u us = refl
put_last (x ∷ xs) u us = ap (more_units x) (put_last xs u us)

pub order_last : (earlier : List UnitSyntax) (u : UnitSyntax) → units_in_order (earlier ++ u ∷ []) ≡ put earlier (more_units u no_units)
order_last [] u = refl
order_last (x ∷ xs) u = ap (more_units x) (order_last xs u)

red_behind : (us : UnitSyntaxes) (frames : List Frame) (x : UnitSyntax) (xs : List UnitSyntax) (u : UnitSyntax) → red (behind frames (x ∷ xs) u us) ≡ reduce frames (side_syntax (put (x ∷ xs) (more_units u us)))
red_behind no_units frames x xs u = ap (λ w. reduce frames (side_syntax w)) (order_last (x ∷ xs) u)
red_behind (more_units v us) frames x xs u =
    red_behind us frames x (xs ++ u ∷ []) v ∙ ap (λ w. reduce frames (side_syntax (more_units x w))) (put_last xs u (more_units v us))

pub red_into : (t : UnitSyntax) (frames : List Frame) → Fits t → red (into frames t) ≡ reduce frames t
red_into (one_syntax at) frames fits = refl
red_into (measure_syntax at x) frames fits = refl
red_into (variable_syntax at x) frames fits = refl
red_into (power_syntax u k) frames fits = refl
red_into (side_syntax no_units) frames fits = absurd fits.0
red_into (side_syntax (more_units u no_units)) frames fits = absurd fits.0
red_into (side_syntax (more_units u (more_units v us))) frames fits = red_behind us frames u [] v
red_into (times_syntax u v) frames fits = red_into v (InTimes u ∷ frames) fits.2
red_into (over_syntax u v) frames fits = red_into v (InOver u ∷ frames) fits.2
red_into (inverse_syntax at u) frames fits = red_into u (InInverse at ∷ frames) fits.1
red_into (bracket_syntax at u) frames fits = refl

pub rank_low : (t : UnitSyntax) → rank t ≤ 4
rank_low (one_syntax at) = omega arith
rank_low (measure_syntax at x) = omega arith
rank_low (variable_syntax at x) = omega arith
rank_low (power_syntax u k) = omega arith
rank_low (side_syntax us) = omega arith
rank_low (times_syntax u v) = omega arith
rank_low (over_syntax u v) = omega arith
rank_low (inverse_syntax at u) = omega arith
rank_low (bracket_syntax at u) = omega arith

-- ---- signs after a unit that was read

on_times : (st : State) (at : ℕ) → act st (sign symbol.Star) at ≡ times_after (red st)
on_times (Need frames) at = refl
on_times (Have frames t) at = refl
on_times (Raised frames t) at = refl
on_times (Lowered frames t) at = refl
on_times Refused at = refl

-- where an atom is wanted a `/` is another sign
abbrev Reading : State → Type 0
Reading (Need frames) = ⊥
Reading _ = Unit {0}

on_over : (st : State) (at : ℕ) → Reading st → act st (sign symbol.Slash) at ≡ over_after (red st)
on_over (Need frames) at h = absurd h
on_over (Have frames t) at h = refl
on_over (Raised frames t) at h = refl
on_over (Lowered frames t) at h = refl
on_over Refused at h = refl

on_close : (st : State) (at : ℕ) → act st (sign symbol.RightParen) at ≡ close_after (red st)
on_close (Need frames) at = refl
on_close (Have frames t) at = refl
on_close (Raised frames t) at = refl
on_close (Lowered frames t) at = refl
on_close Refused at = refl

-- what was read ends in a unit at hand
abbrev pub IsAtOperand : State → Type 0
IsAtOperand (Have frames t) = Unit {0}
IsAtOperand _ = ⊥

behind_hand : (us : UnitSyntaxes) (frames : List Frame) (earlier : List UnitSyntax) (u : UnitSyntax) → IsAtOperand (behind frames earlier u us)
behind_hand no_units frames earlier u = tt
behind_hand (more_units v us) frames earlier u = behind_hand us frames (earlier ++ u ∷ []) v

pub into_operand : (t : UnitSyntax) (frames : List Frame) → Fits t → IsAtOperand (into frames t)
into_operand (one_syntax at) frames fits = tt
into_operand (measure_syntax at x) frames fits = tt
into_operand (variable_syntax at x) frames fits = tt
into_operand (power_syntax u k) frames fits = tt
into_operand (side_syntax no_units) frames fits = absurd fits.0
into_operand (side_syntax (more_units u us)) frames fits = behind_hand us frames [] u
into_operand (times_syntax u v) frames fits = into_operand v (InTimes u ∷ frames) fits.2
into_operand (over_syntax u v) frames fits = into_operand v (InOver u ∷ frames) fits.2
into_operand (inverse_syntax at u) frames fits = into_operand u (InInverse at ∷ frames) fits.1
into_operand (bracket_syntax at u) frames fits = tt

operand_reads : (st : State) → IsAtOperand st → Reading st
operand_reads (Have frames t) h = tt
operand_reads (Need frames) h = absurd h
operand_reads (Raised frames t) h = absurd h
operand_reads (Lowered frames t) h = absurd h
operand_reads Refused h = absurd h

-- where a product may stand, nothing ends
wide_stays : (frames : List Frame) (t : UnitSyntax) → 3 ≤ top_limit frames → reduce frames t ≡ Have frames t
wide_stays [] t le = refl
wide_stays (InBracket at ∷ frames) t le = refl
wide_stays (InInverse at ∷ frames) t le = absurd (omega arith)
wide_stays (InTimes left ∷ frames) t le = absurd (omega arith)
wide_stays (InOver left ∷ frames) t le = absurd (omega arith)
wide_stays (InSide earlier ∷ frames) t le = absurd (omega arith)

pub wide_opens : (frames : List Frame) → 3 ≤ top_limit frames → opens frames ≡ true
wide_opens [] le = refl
wide_opens (InBracket at ∷ frames) le = refl
wide_opens (InInverse at ∷ frames) le = absurd (omega arith)
wide_opens (InTimes left ∷ frames) le = absurd (omega arith)
wide_opens (InOver left ∷ frames) le = absurd (omega arith)
wide_opens (InSide earlier ∷ frames) le = absurd (omega arith)

-- ---- one token

then_first : (st new : State) (what : UnitToken) (tokens rest : List Token) → First what tokens rest → ((at : ℕ) → act st what at ≡ new) → run st tokens ≡ run new rest
then_first st new what tokens rest f e =
    ap (run st) f.2 ∙ ap (λ w. run (act st w f.0.start) rest) f.1 ∙ ap (λ s. run s rest) (e f.0.start)

then_at : (st new : State) (what : UnitToken) (at : ℕ) (tokens rest : List Token) → FirstAt what at tokens rest → act st what at ≡ new → run st tokens ≡ run new rest
then_at st new what at tokens rest f e =
    ap (run st) f.3 ∙ ap (λ w. run (act st w f.0.start) rest) f.1 ∙ ap (λ a. run (act st what a) rest) f.2 ∙ ap (λ s. run s rest) e

-- an atom after a unit at hand begins inside the juxtaposition
same_start : (frames : List Frame) (t : UnitSyntax) (what : UnitToken) (at : ℕ) (tokens rest : List Token) → FirstAt what at tokens rest
    → after frames t what at ≡ begin (juxtapose frames t) what at → run (Have frames t) tokens ≡ run (Need (juxtapose frames t)) tokens
same_start frames t what at tokens rest f e =
    then_at (Have frames t) (begin (juxtapose frames t) what at) what at tokens rest f e
    ∙ sym (then_at (Need (juxtapose frames t)) (begin (juxtapose frames t) what at) what at tokens rest f refl)

starts : (next : UnitSyntax) (frames : List Frame) (t : UnitSyntax) (tokens rest : List Token) → Spells next tokens rest → Fits next → rank next ≤ 1
    → run (Have frames t) tokens ≡ run (Need (juxtapose frames t)) tokens
starts (one_syntax at) frames t tokens rest s fits le = same_start frames t (number true s.0) at tokens rest s.1 refl
starts (measure_syntax at x) frames t tokens rest s fits le = same_start frames t (measure x) at tokens rest s refl
starts (variable_syntax at x) frames t tokens rest s fits le = same_start frames t (variable x) at tokens rest s refl
starts (bracket_syntax at u) frames t tokens rest s fits le = same_start frames t (sign symbol.LeftParen) at tokens s.0 s.2 refl
starts (power_syntax u k) frames t tokens rest s fits le = starts u frames t tokens s.0 s.2 fits.1 (omega (arith, fits.0))
starts (side_syntax us) frames t tokens rest s fits le = absurd (omega arith)
starts (times_syntax u v) frames t tokens rest s fits le = absurd (omega arith)
starts (over_syntax u v) frames t tokens rest s fits le = absurd (omega arith)
starts (inverse_syntax at u) frames t tokens rest s fits le = absurd (omega arith)

pub juxtapose_side : (earlier : List UnitSyntax) (frames : List Frame) (u : UnitSyntax) → 2 ≤ top_limit frames → juxtapose (inside earlier frames) u ≡ InSide (earlier ++ u ∷ []) ∷ frames
juxtapose_side (x ∷ xs) frames u le = refl
juxtapose_side [] [] u le = refl
juxtapose_side [] (InBracket at ∷ frames) u le = refl
juxtapose_side [] (InInverse at ∷ frames) u le = refl
juxtapose_side [] (InTimes left ∷ frames) u le = refl
juxtapose_side [] (InOver left ∷ frames) u le = refl
juxtapose_side [] (InSide earlier ∷ frames) u le = absurd (omega arith)

inside_last : (earlier : List UnitSyntax) (u : UnitSyntax) (frames : List Frame) → inside (earlier ++ u ∷ []) frames ≡ InSide (earlier ++ u ∷ []) ∷ frames
inside_last [] u frames = refl
inside_last (x ∷ xs) u frames = refl

raise_atom : (frames : List Frame) (u : UnitSyntax) → rank u ≡ 0 → raise frames u ≡ Raised frames u
raise_atom frames (one_syntax at) low = refl
raise_atom frames (measure_syntax at x) low = refl
raise_atom frames (variable_syntax at x) low = refl
raise_atom frames (bracket_syntax at u) low = refl
raise_atom frames (power_syntax u k) low = absurd (omega arith)
raise_atom frames (side_syntax us) low = absurd (omega arith)
raise_atom frames (times_syntax u v) low = absurd (omega arith)
raise_atom frames (over_syntax u v) low = absurd (omega arith)
raise_atom frames (inverse_syntax at u) low = absurd (omega arith)

into_atom : (frames : List Frame) (u : UnitSyntax) → rank u ≤ 1 → into frames u ≡ Have frames u
into_atom frames (one_syntax at) low = refl
into_atom frames (measure_syntax at x) low = refl
into_atom frames (variable_syntax at x) low = refl
into_atom frames (bracket_syntax at u) low = refl
into_atom frames (power_syntax u k) low = refl
into_atom frames (side_syntax us) low = absurd (omega arith)
into_atom frames (times_syntax u v) low = absurd (omega arith)
into_atom frames (over_syntax u v) low = absurd (omega arith)
into_atom frames (inverse_syntax at u) low = absurd (omega arith)

complete_power : (frames : List Frame) (u : UnitSyntax) (k : ℤ) (tokens rest : List Token) → PowerSpells k tokens rest → run (Raised frames u) tokens ≡ run (Have frames (power_syntax u k)) rest
complete_power frames u k tokens rest (n, inl (e, (one, f))) =
    then_first (Raised frames u) (Have frames (power_syntax u _)) (number one (Some n)) tokens rest f (λ at. refl) ∙ ap (λ j. run (Have frames (power_syntax u j)) rest) (sym e)
complete_power frames u k tokens rest (n, inr (next, e, minus, (one, f))) =
    then_first (Raised frames u) (Lowered frames u) (sign symbol.Minus) tokens next minus (λ at. refl)
    ∙ then_first (Lowered frames u) (Have frames (power_syntax u _)) (number one (Some n)) next rest f (λ at. refl) ∙ ap (λ j. run (Have frames (power_syntax u j)) rest) (sym e)

after_times : (frames : List Frame) (u : UnitSyntax) (at : ℕ) → Fits u → 4 ≤ top_limit frames → act (into frames u) (sign symbol.Star) at ≡ Need (InTimes u ∷ frames)
after_times frames u at fits le = on_times (into frames u) at ∙ ap times_after (red_into u frames fits ∙ wide_stays frames u (omega arith))

after_over : (frames : List Frame) (u : UnitSyntax) (at : ℕ) → Fits u → 4 ≤ top_limit frames → act (into frames u) (sign symbol.Slash) at ≡ Need (InOver u ∷ frames)
after_over frames u at fits le =
    on_over (into frames u) at (operand_reads (into frames u) (into_operand u frames fits)) ∙ ap over_after (red_into u frames fits ∙ wide_stays frames u (omega arith))

mutual
  pub complete : (t : UnitSyntax) (frames : List Frame) (tokens rest : List Token) → Spells t tokens rest → Fits t → rank t ≤ top_limit frames
      → run (Need frames) tokens ≡ run (into frames t) rest
  complete (one_syntax at) frames tokens rest s fits le = then_at (Need frames) (Have frames (one_syntax at)) (number true s.0) at tokens rest s.1 refl
  complete (measure_syntax at x) frames tokens rest s fits le = then_at (Need frames) (Have frames (measure_syntax at x)) (measure x) at tokens rest s refl
  complete (variable_syntax at x) frames tokens rest s fits le = then_at (Need frames) (Have frames (variable_syntax at x)) (variable x) at tokens rest s refl
  complete (power_syntax u k) frames tokens rest s fits le =
      complete u frames tokens s.0 s.2 fits.1 (omega (arith, fits.0))
      ∙ then_first (into frames u) (Raised frames u) (sign symbol.Caret) s.0 s.1 s.3 (λ at. ap (λ st. act st (sign symbol.Caret) at) (into_atom frames u (omega (arith, fits.0))) ∙ raise_atom frames u fits.0)
      ∙ complete_power frames u k s.1 rest s.4
  complete (side_syntax no_units) frames tokens rest s fits le = absurd fits.0
  complete (side_syntax (more_units u us)) frames tokens rest s fits le =
      complete u frames tokens s.0 s.1 fits.1.1 (omega (arith, fits.1.0))
      ∙ ap (λ st. run st s.0) (into_atom frames u fits.1.0)
      ∙ complete_side us frames [] u s.0 rest s.2 fits.1.2 le
  complete (times_syntax u v) frames tokens rest s fits le =
      complete u frames tokens s.0 s.2 fits.1 (omega (arith, rank_low u))
      ∙ then_first (into frames u) (Need (InTimes u ∷ frames)) (sign symbol.Star) s.0 s.1 s.3 (λ at. after_times frames u at fits.1 le)
      ∙ complete v (InTimes u ∷ frames) s.1 rest s.4 fits.2 fits.0
  complete (over_syntax u v) frames tokens rest s fits le =
      complete u frames tokens s.0 s.2 fits.1 (omega (arith, rank_low u))
      ∙ then_first (into frames u) (Need (InOver u ∷ frames)) (sign symbol.Slash) s.0 s.1 s.3 (λ at. after_over frames u at fits.1 le)
      ∙ complete v (InOver u ∷ frames) s.1 rest s.4 fits.2 fits.0
  complete (inverse_syntax at u) frames tokens rest s fits le =
      then_at (Need frames) (Need (InInverse at ∷ frames)) (sign symbol.Slash) at tokens s.0 s.1 (ap (λ b. cond b (Need (InInverse at ∷ frames)) Refused) (wide_opens frames le))
      ∙ complete u (InInverse at ∷ frames) s.0 rest s.2 fits.1 fits.0
  complete (bracket_syntax at u) frames tokens rest s fits le =
      then_at (Need frames) (Need (InBracket at ∷ frames)) (sign symbol.LeftParen) at tokens s.0 s.2 refl
      ∙ complete u (InBracket at ∷ frames) s.0 s.1 s.3 fits (rank_low u)
      ∙ then_first (into (InBracket at ∷ frames) u) (Have frames (bracket_syntax at u)) (sign symbol.RightParen) s.1 rest s.4
      (λ m. on_close (into (InBracket at ∷ frames) u) m ∙ ap close_after (red_into u (InBracket at ∷ frames) fits))

  complete_side : (us : UnitSyntaxes) (frames : List Frame) (earlier : List UnitSyntax) (u : UnitSyntax) (tokens rest : List Token) → AllSpell us tokens rest → ArePowers us → 2 ≤ top_limit frames
      → run (Have (inside earlier frames) u) tokens ≡ run (behind frames earlier u us) rest
  complete_side no_units frames earlier u tokens rest s fits le = ap (run (Have (inside earlier frames) u)) s
  complete_side (more_units v us) frames earlier u tokens rest s fits le =
      starts v (inside earlier frames) u tokens s.0 s.1 fits.1 fits.0
      ∙ ap (λ fs. run (Need fs) tokens) (juxtapose_side earlier frames u le)
      ∙ complete v (InSide (earlier ++ u ∷ []) ∷ frames) tokens s.0 s.1 fits.1 fits.0
      ∙ ap (λ st. run st s.0) (into_atom (InSide (earlier ++ u ∷ []) ∷ frames) v fits.0 ∙ ap (λ fs. Have fs v) (sym (inside_last earlier u frames)))
      ∙ complete_side us frames (earlier ++ u ∷ []) v s.0 rest s.2 fits.2 le
