-- The tokens that were read are those of the state, and what stands in it fits.
use Rattle.std.proofs.Common.{◌≡◌, ℕ, ◌≤◌, List, [], ◌∷◌, ◌++◌, cond, Bool, true, false, Some, refl, sym, subst, arith, inl, inr}
use Rattle.um_syntax.specs.declared.token.Token.{Token}
use Rattle.um_tree.specs.RawTree.{UnitSyntax, one_syntax, measure_syntax, variable_syntax, power_syntax, side_syntax, times_syntax, over_syntax, inverse_syntax, bracket_syntax, units_in_order}
use Rattle.um_unit_texts.specs.UnitTokens.{UnitToken, sign, measure, variable, number, unit_token}
use Rattle.um_vocabulary.specs.declared.vocabulary.Symbol.TheVariants as symbol
use Rattle.um_unit_texts.specs.UnitGrammar.{First, FirstAt, Spells, AllSpell, rank, Several, Fits, ArePowers, IsUnit}
use Rattle.um_unit_texts.specs.UnitMachine.{Frame, InBracket, InInverse, InTimes, InOver, InSide, State, Need, Have, Raised, Lowered, Refused, top_limit, opens, reduce, juxtapose, begin, times_after, over_after, close_after, raise, after, raised, lowered, act, run, whole, finish}

-- the tokens up to the rest are those of the frames, before their open places
abbrev pub Opened : List Frame → List Token → List Token → Type 0
Opened [] tokens rest = tokens ≡ rest
Opened (InBracket at ∷ frames) tokens rest = (mid : List Token) × Opened frames tokens mid × FirstAt (sign symbol.LeftParen) at mid rest
Opened (InInverse at ∷ frames) tokens rest = (mid : List Token) × Opened frames tokens mid × FirstAt (sign symbol.Slash) at mid rest
Opened (InTimes left ∷ frames) tokens rest = (mid next : List Token) × Opened frames tokens mid × Spells left mid next × First (sign symbol.Star) next rest
Opened (InOver left ∷ frames) tokens rest = (mid next : List Token) × Opened frames tokens mid × Spells left mid next × First (sign symbol.Slash) next rest
Opened (InSide earlier ∷ frames) tokens rest = (mid : List Token) × Opened frames tokens mid × AllSpell (units_in_order earlier) mid rest

abbrev pub NonEmpty : List UnitSyntax → Type 0
NonEmpty [] = ⊥
NonEmpty (u ∷ us) = Unit {0}

-- a frame over the frames around it
abbrev pub FrameFits : Frame → List Frame → Type 0
FrameFits (InBracket at) frames = Unit {0}
FrameFits (InInverse at) frames = 3 ≤ top_limit frames
FrameFits (InTimes left) frames = (4 ≤ top_limit frames) × Fits left
FrameFits (InOver left) frames = (4 ≤ top_limit frames) × Fits left
FrameFits (InSide earlier) frames = (2 ≤ top_limit frames) × NonEmpty earlier × ArePowers (units_in_order earlier)

abbrev pub FramesFit : List Frame → Type 0
FramesFit [] = Unit {0}
FramesFit (frame ∷ frames) = FrameFits frame frames × FramesFit frames

abbrev pub SpellsPrefix : State → List Token → List Token → Type 0
SpellsPrefix (Need frames) tokens rest = Opened frames tokens rest × FramesFit frames
SpellsPrefix (Have frames t) tokens rest = (mid : List Token) × Opened frames tokens mid × Spells t mid rest × FramesFit frames × Fits t × (rank t ≤ 1)
SpellsPrefix (Raised frames t) tokens rest = (mid next : List Token) × Opened frames tokens mid × Spells t mid next × First (sign symbol.Caret) next rest × FramesFit frames × Fits t × (rank t ≡ 0)
SpellsPrefix (Lowered frames t) tokens rest =
    (mid next last : List Token) × Opened frames tokens mid × Spells t mid next × First (sign symbol.Caret) next last × First (sign symbol.Minus) last rest × FramesFit frames × Fits t × (rank t ≡ 0)
SpellsPrefix Refused tokens rest = Unit {0}

-- the same once all up to the innermost brackets has ended
abbrev pub SpellsPrefixUpTo : State → List Token → List Token → Type 0
SpellsPrefixUpTo (Have frames t) tokens rest = (mid : List Token) × Opened frames tokens mid × Spells t mid rest × FramesFit frames × Fits t × (top_limit frames ≡ 4)
SpellsPrefixUpTo _ tokens rest = ⊥

pub limit_low : (frames : List Frame) → (1 ≤ top_limit frames) × (top_limit frames ≤ 4)
limit_low [] = (omega arith, omega arith)
limit_low (InBracket at ∷ frames) = (omega arith, omega arith)
limit_low (InInverse at ∷ frames) = (omega arith, omega arith)
limit_low (InTimes left ∷ frames) = (omega arith, omega arith)
limit_low (InOver left ∷ frames) = (omega arith, omega arith)
limit_low (InSide earlier ∷ frames) = (omega arith, omega arith)

-- ---- juxtapositions

pub spells_last : (earlier : List UnitSyntax) (t : UnitSyntax) (tokens mid rest : List Token) → AllSpell (units_in_order earlier) tokens mid → Spells t mid rest → AllSpell (units_in_order (earlier ++ t ∷ [])) tokens rest
spells_last [] t tokens mid rest e s = (rest, subst (λ w. Spells t w rest) (sym e) s, refl)
spells_last (u ∷ us) t tokens mid rest h s = (h.0, h.1, spells_last us t h.0 mid rest h.2 s)

pub powers_last : (earlier : List UnitSyntax) (t : UnitSyntax) → ArePowers (units_in_order earlier) → Fits t → rank t ≤ 1 → ArePowers (units_in_order (earlier ++ t ∷ []))
powers_last [] t h fits le = (le, fits, tt)
powers_last (u ∷ us) t h fits le = (h.0, h.1, powers_last us t h.2 fits le)

several_last : (earlier : List UnitSyntax) (t : UnitSyntax) → NonEmpty earlier → Several (units_in_order (earlier ++ t ∷ []))
several_last [] t h = absurd h
several_last (u ∷ []) t h = tt
several_last (u ∷ v ∷ us) t h = tt

nonempty_last : (earlier : List UnitSyntax) (t : UnitSyntax) → NonEmpty (earlier ++ t ∷ [])
nonempty_last [] t = tt
nonempty_last (u ∷ us) t = tt

pub side_fits : (earlier : List UnitSyntax) (t : UnitSyntax) → NonEmpty earlier → ArePowers (units_in_order earlier) → Fits t → rank t ≤ 1 → Fits (side_syntax (units_in_order (earlier ++ t ∷ [])))
side_fits earlier t h all fits le = (several_last earlier t h, powers_last earlier t all fits le)

-- ---- ending what ends

pub reduce_sound : (frames : List Frame) (t : UnitSyntax) (tokens mid rest : List Token) → Opened frames tokens mid → Spells t mid rest → FramesFit frames → Fits t → rank t ≤ top_limit frames
    → SpellsPrefixUpTo (reduce frames t) tokens rest
reduce_sound [] t tokens mid rest o s f fits le = (mid, o, s, f, fits, refl)
reduce_sound (InBracket at ∷ frames) t tokens mid rest o s f fits le = (mid, o, s, f, fits, refl)
reduce_sound (InInverse at ∷ frames) t tokens mid rest o s f fits le =
    reduce_sound frames (inverse_syntax at t) tokens o.0 rest o.1 (mid, o.2, s) f.1 (le, fits) f.0
reduce_sound (InTimes left ∷ frames) t tokens mid rest o s f fits le =
    reduce_sound frames (times_syntax left t) tokens o.0 rest o.2 (o.1, mid, o.3, o.4, s) f.1 (le, f.0.1, fits) f.0.0
reduce_sound (InOver left ∷ frames) t tokens mid rest o s f fits le =
    reduce_sound frames (over_syntax left t) tokens o.0 rest o.2 (o.1, mid, o.3, o.4, s) f.1 (le, f.0.1, fits) f.0.0
reduce_sound (InSide earlier ∷ frames) t tokens mid rest o s f fits le =
    reduce_sound frames (side_syntax (units_in_order (earlier ++ t ∷ []))) tokens o.0 rest o.1 (spells_last earlier t o.0 mid rest o.2 s) f.1 (side_fits earlier t f.0.1 f.0.2 fits le) f.0.0

ended : (frames : List Frame) (t : UnitSyntax) (tokens rest : List Token) → SpellsPrefix (Have frames t) tokens rest → SpellsPrefixUpTo (reduce frames t) tokens rest
ended frames t tokens rest h = reduce_sound frames t tokens h.0 rest h.1 h.2 h.3 h.4 (omega (arith, h.5, limit_low frames))

-- ---- one token

opens_wide : (frames : List Frame) → opens frames ≡ true → 4 ≤ top_limit frames
opens_wide [] e = omega arith
opens_wide (InBracket at ∷ frames) e = omega arith
opens_wide (InInverse at ∷ frames) e = absurd cc
opens_wide (InTimes left ∷ frames) e = absurd cc
opens_wide (InOver left ∷ frames) e = absurd cc
opens_wide (InSide earlier ∷ frames) e = absurd cc

inverse_begins : (frames : List Frame) (b : Bool) (at : ℕ) (tokens mid rest : List Token) → opens frames ≡ b → Opened frames tokens mid → FramesFit frames → FirstAt (sign symbol.Slash) at mid rest
    → SpellsPrefix (cond b (Need (InInverse at ∷ frames)) Refused) tokens rest
inverse_begins frames true at tokens mid rest e o f s = ((mid, o, s), (omega (arith, opens_wide frames e), f))
inverse_begins frames false at tokens mid rest e o f s = tt

begin_sound : (frames : List Frame) (what : UnitToken) (at : ℕ) (tokens mid rest : List Token) → Opened frames tokens mid → FramesFit frames → FirstAt what at mid rest → SpellsPrefix (begin frames what at) tokens rest
begin_sound frames (measure x) at tokens mid rest o f s = (mid, o, s, f, tt, omega arith)
begin_sound frames (variable x) at tokens mid rest o f s = (mid, o, s, f, tt, omega arith)
begin_sound frames (number true power) at tokens mid rest o f s = (mid, o, (power, s), f, tt, omega arith)
begin_sound frames (number false power) at tokens mid rest o f s = tt
begin_sound frames (sign symbol.LeftParen) at tokens mid rest o f s = ((mid, o, s), (tt, f))
begin_sound frames (sign symbol.Slash) at tokens mid rest o f s = inverse_begins frames (opens frames) at tokens mid rest refl o f s
begin_sound frames _ at tokens mid rest o f s = tt

one_spells : (t : UnitSyntax) (mid rest : List Token) → Spells t mid rest → AllSpell (units_in_order (t ∷ [])) mid rest
one_spells t mid rest s = (rest, s, refl)

juxtapose_sound : (frames : List Frame) (t : UnitSyntax) (tokens rest : List Token) → SpellsPrefix (Have frames t) tokens rest → Opened (juxtapose frames t) tokens rest × FramesFit (juxtapose frames t)
juxtapose_sound [] t tokens rest h = ((h.0, h.1, one_spells t h.0 rest h.2), ((omega arith, tt, (h.5, h.4, tt)), h.3))
juxtapose_sound (InBracket at ∷ frames) t tokens rest h = ((h.0, h.1, one_spells t h.0 rest h.2), ((omega arith, tt, (h.5, h.4, tt)), h.3))
juxtapose_sound (InInverse at ∷ frames) t tokens rest h = ((h.0, h.1, one_spells t h.0 rest h.2), ((omega arith, tt, (h.5, h.4, tt)), h.3))
juxtapose_sound (InTimes left ∷ frames) t tokens rest h = ((h.0, h.1, one_spells t h.0 rest h.2), ((omega arith, tt, (h.5, h.4, tt)), h.3))
juxtapose_sound (InOver left ∷ frames) t tokens rest h = ((h.0, h.1, one_spells t h.0 rest h.2), ((omega arith, tt, (h.5, h.4, tt)), h.3))
juxtapose_sound (InSide earlier ∷ frames) t tokens rest h =
    ((h.1.0, h.1.1, spells_last earlier t h.1.0 h.0 rest h.1.2 h.2), ((h.3.0.0, nonempty_last earlier t, powers_last earlier t h.3.0.2 h.4 h.5), h.3.1))

times_sound : (st : State) (at : ℕ) (tokens mid rest : List Token) → SpellsPrefixUpTo st tokens mid → FirstAt (sign symbol.Star) at mid rest → SpellsPrefix (times_after st) tokens rest
times_sound (Have frames t) at tokens mid rest h s = ((h.0, mid, h.1, h.2, (s.0, s.1, s.3)), ((omega (arith, h.5), h.4), h.3))
times_sound (Need frames) at tokens mid rest h s = absurd h
times_sound (Raised frames t) at tokens mid rest h s = absurd h
times_sound (Lowered frames t) at tokens mid rest h s = absurd h
times_sound Refused at tokens mid rest h s = absurd h

over_sound : (st : State) (at : ℕ) (tokens mid rest : List Token) → SpellsPrefixUpTo st tokens mid → FirstAt (sign symbol.Slash) at mid rest → SpellsPrefix (over_after st) tokens rest
over_sound (Have frames t) at tokens mid rest h s = ((h.0, mid, h.1, h.2, (s.0, s.1, s.3)), ((omega (arith, h.5), h.4), h.3))
over_sound (Need frames) at tokens mid rest h s = absurd h
over_sound (Raised frames t) at tokens mid rest h s = absurd h
over_sound (Lowered frames t) at tokens mid rest h s = absurd h
over_sound Refused at tokens mid rest h s = absurd h

close_sound : (st : State) (at : ℕ) (tokens mid rest : List Token) → SpellsPrefixUpTo st tokens mid → FirstAt (sign symbol.RightParen) at mid rest → SpellsPrefix (close_after st) tokens rest
close_sound (Have (InBracket m ∷ frames) t) at tokens mid rest h s = (h.1.0, h.1.1, (h.0, mid, h.1.2, h.2, (s.0, s.1, s.3)), h.3.1, h.4, omega arith)
close_sound (Have [] t) at tokens mid rest h s = tt
close_sound (Have (InInverse m ∷ frames) t) at tokens mid rest h s = tt
close_sound (Have (InTimes left ∷ frames) t) at tokens mid rest h s = tt
close_sound (Have (InOver left ∷ frames) t) at tokens mid rest h s = tt
close_sound (Have (InSide earlier ∷ frames) t) at tokens mid rest h s = tt
close_sound (Need frames) at tokens mid rest h s = absurd h
close_sound (Raised frames t) at tokens mid rest h s = absurd h
close_sound (Lowered frames t) at tokens mid rest h s = absurd h
close_sound Refused at tokens mid rest h s = absurd h

raise_sound : (frames : List Frame) (t : UnitSyntax) (at : ℕ) (tokens mid rest : List Token) → SpellsPrefix (Have frames t) tokens mid → FirstAt (sign symbol.Caret) at mid rest → SpellsPrefix (raise frames t) tokens rest
raise_sound frames (one_syntax m) at tokens mid rest h s = (h.0, mid, h.1, h.2, (s.0, s.1, s.3), h.3, h.4, refl)
raise_sound frames (measure_syntax m x) at tokens mid rest h s = (h.0, mid, h.1, h.2, (s.0, s.1, s.3), h.3, h.4, refl)
raise_sound frames (variable_syntax m x) at tokens mid rest h s = (h.0, mid, h.1, h.2, (s.0, s.1, s.3), h.3, h.4, refl)
raise_sound frames (bracket_syntax m u) at tokens mid rest h s = (h.0, mid, h.1, h.2, (s.0, s.1, s.3), h.3, h.4, refl)
raise_sound frames (power_syntax u k) at tokens mid rest h s = tt
raise_sound frames (side_syntax us) at tokens mid rest h s = tt
raise_sound frames (times_syntax u v) at tokens mid rest h s = tt
raise_sound frames (over_syntax u v) at tokens mid rest h s = tt
raise_sound frames (inverse_syntax m u) at tokens mid rest h s = tt

begins_after : (frames : List Frame) (t : UnitSyntax) (what : UnitToken) (at : ℕ) (tokens mid rest : List Token) → SpellsPrefix (Have frames t) tokens mid → FirstAt what at mid rest → SpellsPrefix (begin (juxtapose frames t) what at) tokens rest
begins_after frames t what at tokens mid rest h s =
    let j = juxtapose_sound frames t tokens mid h in begin_sound (juxtapose frames t) what at tokens mid rest j.0 j.1 s

after_sound : (frames : List Frame) (t : UnitSyntax) (what : UnitToken) (at : ℕ) (tokens mid rest : List Token) → SpellsPrefix (Have frames t) tokens mid → FirstAt what at mid rest → SpellsPrefix (after frames t what at) tokens rest
after_sound frames t (measure x) at tokens mid rest h s = begins_after frames t (measure x) at tokens mid rest h s
after_sound frames t (variable x) at tokens mid rest h s = begins_after frames t (variable x) at tokens mid rest h s
after_sound frames t (number one power) at tokens mid rest h s = begins_after frames t (number one power) at tokens mid rest h s
after_sound frames t (sign symbol.LeftParen) at tokens mid rest h s = begins_after frames t (sign symbol.LeftParen) at tokens mid rest h s
after_sound frames t (sign symbol.RightParen) at tokens mid rest h s = close_sound (reduce frames t) at tokens mid rest (ended frames t tokens mid h) s
after_sound frames t (sign symbol.Star) at tokens mid rest h s = times_sound (reduce frames t) at tokens mid rest (ended frames t tokens mid h) s
after_sound frames t (sign symbol.Slash) at tokens mid rest h s = over_sound (reduce frames t) at tokens mid rest (ended frames t tokens mid h) s
after_sound frames t (sign symbol.Caret) at tokens mid rest h s = raise_sound frames t at tokens mid rest h s
after_sound frames t _ at tokens mid rest h s = tt

raised_sound : (frames : List Frame) (t : UnitSyntax) (what : UnitToken) (at : ℕ) (tokens mid rest : List Token) → SpellsPrefix (Raised frames t) tokens mid → FirstAt what at mid rest → SpellsPrefix (raised frames t what) tokens rest
raised_sound frames t (number one (Some n)) at tokens mid rest h s =
    (h.0, h.2, (h.1, mid, h.3, h.4, (n, inl (refl, (one, (s.0, s.1, s.3))))), h.5, (h.7, h.6), omega arith)
raised_sound frames t (sign symbol.Minus) at tokens mid rest h s = (h.0, h.1, mid, h.2, h.3, h.4, (s.0, s.1, s.3), h.5, h.6, h.7)
raised_sound frames t _ at tokens mid rest h s = tt

lowered_sound : (frames : List Frame) (t : UnitSyntax) (what : UnitToken) (at : ℕ) (tokens mid rest : List Token) → SpellsPrefix (Lowered frames t) tokens mid → FirstAt what at mid rest → SpellsPrefix (lowered frames t what) tokens rest
lowered_sound frames t (number one (Some n)) at tokens mid rest h s =
    (h.0, h.3, (h.1, h.2, h.4, h.5, (n, inr (mid, refl, h.6, (one, (s.0, s.1, s.3))))), h.7, (h.9, h.8), omega arith)
lowered_sound frames t _ at tokens mid rest h s = tt

pub act_sound : (st : State) (what : UnitToken) (at : ℕ) (tokens mid rest : List Token) → SpellsPrefix st tokens mid → FirstAt what at mid rest → SpellsPrefix (act st what at) tokens rest
act_sound (Need frames) what at tokens mid rest h s = begin_sound frames what at tokens mid rest h.0 h.1 s
act_sound (Have frames t) what at tokens mid rest h s = after_sound frames t what at tokens mid rest h s
act_sound (Raised frames t) what at tokens mid rest h s = raised_sound frames t what at tokens mid rest h s
act_sound (Lowered frames t) what at tokens mid rest h s = lowered_sound frames t what at tokens mid rest h s
act_sound Refused what at tokens mid rest h s = tt

-- the tokens that are read go over to the state
pub run_sound : (read : List Token) (st : State) (tokens rest : List Token) → SpellsPrefix st tokens (read ++ rest) → SpellsPrefix (run st read) tokens rest
run_sound [] st tokens rest h = h
run_sound (token ∷ read) st tokens rest h =
    run_sound read (act st (unit_token token.kind) token.start) tokens rest (act_sound st (unit_token token.kind) token.start tokens (token ∷ (read ++ rest)) (read ++ rest) h (token, refl, refl, refl))

-- from the start
pub spells_prefix : (read rest : List Token) → SpellsPrefix (run (Need []) read) (read ++ rest) rest
spells_prefix read rest = run_sound read (Need []) (read ++ rest) rest (refl, tt)

whole_is : (st : State) (t : UnitSyntax) (tokens : List Token) → SpellsPrefixUpTo st tokens [] → whole st ≡ Some t → IsUnit tokens t
whole_is (Have [] u) t tokens h e =
    let same : u ≡ t = cc in
    subst (λ (w : UnitSyntax). IsUnit tokens w) same (record { spelled = subst (λ w. Spells u w []) (sym h.1) h.2; fits = h.4 })
whole_is (Have (frame ∷ frames) u) t tokens h e = absurd cc
whole_is (Need frames) t tokens h e = absurd cc
whole_is (Raised frames u) t tokens h e = absurd cc
whole_is (Lowered frames u) t tokens h e = absurd cc
whole_is Refused t tokens h e = absurd cc

-- what is found is a unit text
pub is_unit : (st : State) (t : UnitSyntax) (tokens : List Token) → SpellsPrefix st tokens [] → finish st ≡ Some t → IsUnit tokens t
is_unit (Have frames u) t tokens h e = whole_is (reduce frames u) t tokens (ended frames u tokens [] h) e
is_unit (Need frames) t tokens h e = absurd cc
is_unit (Raised frames u) t tokens h e = absurd cc
is_unit (Lowered frames u) t tokens h e = absurd cc
is_unit Refused t tokens h e = absurd cc
