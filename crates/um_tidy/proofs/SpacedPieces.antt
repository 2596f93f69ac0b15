-- Pieces that stand one behind the other with the table's spaces.
use Rattle.std.proofs.Common.{◌≡◌, ℕ, refl, sym, subst, Bool, true, false, ◌||◌, List, [], ◌∷◌, ◌++◌}
use Rattle.std.proofs.lemmas.Bool.{false≢true}
use Rattle.um_vocabulary.specs.declared.vocabulary.Symbol.{Symbol}
use Rattle.um_show.specs.Pieces.{Piece, name, variable, number, digits, word, sign, hole, space, line_end}
use Rattle.um_tidy.specs.declared.stand.Next.{Next}
use Rattle.um_tidy.specs.declared.stand.Next.TheVariants as next_of
use Rattle.um_tidy.specs.declared.stand.Within.{Within}
use Rattle.um_tidy.specs.declared.stand.Stand.{Stand}
use Rattle.um_tidy.proofs.StandAgain.{is_number_next}
use Rattle.um_tidy.specs.Stands.{apart, before, has_ended, after_measure_word, opens_units, name_stand, hole_stand, keyword_stand, bracket_stand, symbol_stand}

-- what stands between a token and the one before it: nothing, one space, or the end of a line
pub data Gap : Type 0 where
  joined : Gap
  parted : Gap
  ended : Gap

abbrev pub is_joined : Gap → Bool
is_joined joined = true
is_joined parted = false
is_joined ended = false

-- the gap after a token, if the next has none of its own before it
abbrev pub gap_of : Bool → Gap
gap_of true = joined
gap_of false = parted

-- a token as those after it see it
abbrev pub standing : Bool → Next → Within → Stand
standing b n w = record { after = false; before = b; begins = false; next = n; within = w }

abbrev pub settled : Stand → Stand
settled s = standing s.before s.next s.within

-- the gap before a token that stands so is the table's
abbrev pub Stood : Stand → Gap → Stand → Type 0
Stood s joined u = (s.before || u.after) ≡ true
Stood s parted u = (s.before || u.after) ≡ false
Stood s ended u = u.begins ≡ true

abbrev pub piece_stand : Stand → Gap → Piece → Stand
piece_stand s g (name x) = name_stand s.next s.within
piece_stand s g (variable x) = apart next_of.Ended s.within
piece_stand s g (number c) = apart next_of.Number s.within
piece_stand s g (digits n) = apart next_of.Number s.within
piece_stand s g (word k) = keyword_stand s.next s.within k
piece_stand s g (sign k) = symbol_stand s.next s.within (is_joined g) k
piece_stand s g hole = hole_stand s.next s.within
piece_stand s g space = s
piece_stand s g line_end = s

-- Behind a token that stands so, with such a gap, stand these pieces with the table's spaces. The others say what stands
-- behind them.
abbrev pub Spaced : Stand → Gap → List Piece → Stand → Gap → Type 0
Spaced s g [] t h = (s ≡ t) × (g ≡ h)
Spaced s g (name x ∷ ps) t h = Stood s g (piece_stand s g (name x)) × Spaced (settled (piece_stand s g (name x))) joined ps t h
Spaced s g (variable x ∷ ps) t h = Stood s g (piece_stand s g (variable x)) × Spaced (settled (piece_stand s g (variable x))) joined ps t h
Spaced s g (number c ∷ ps) t h = Stood s g (piece_stand s g (number c)) × Spaced (settled (piece_stand s g (number c))) joined ps t h
Spaced s g (digits n ∷ ps) t h = Stood s g (piece_stand s g (digits n)) × Spaced (settled (piece_stand s g (digits n))) joined ps t h
Spaced s g (word k ∷ ps) t h = Stood s g (piece_stand s g (word k)) × Spaced (settled (piece_stand s g (word k))) joined ps t h
Spaced s g (sign k ∷ ps) t h = Stood s g (piece_stand s g (sign k)) × Spaced (settled (piece_stand s g (sign k))) joined ps t h
Spaced s g (hole ∷ ps) t h = Stood s g (piece_stand s g hole) × Spaced (settled (piece_stand s g hole)) joined ps t h
Spaced s g (space ∷ ps) t h = (g ≡ joined) × Spaced s parted ps t h
Spaced s g (line_end ∷ ps) t h = (g ≡ joined) × Spaced s ended ps t h

-- pieces, and then others
pub joins : (xs ys : List Piece) (s t u : Stand) (g h k : Gap) → Spaced s g xs t h → Spaced t h ys u k → Spaced s g (xs ++ ys) u k
joins [] ys s t u g h k a b = subst (λ (z : Stand). Spaced z g ys u k) (sym a.0) (subst (λ z. Spaced t z ys u k) (sym a.1) b)
joins (name x ∷ xs) ys s t u g h k a b = (a.0, joins xs ys (settled (piece_stand s g (name x))) t u joined h k a.1 b)
joins (variable x ∷ xs) ys s t u g h k a b = (a.0, joins xs ys (settled (piece_stand s g (variable x))) t u joined h k a.1 b)
joins (number c ∷ xs) ys s t u g h k a b = (a.0, joins xs ys (settled (piece_stand s g (number c))) t u joined h k a.1 b)
joins (digits n ∷ xs) ys s t u g h k a b = (a.0, joins xs ys (settled (piece_stand s g (digits n))) t u joined h k a.1 b)
joins (word w ∷ xs) ys s t u g h k a b = (a.0, joins xs ys (settled (piece_stand s g (word w))) t u joined h k a.1 b)
joins (sign w ∷ xs) ys s t u g h k a b = (a.0, joins xs ys (settled (piece_stand s g (sign w))) t u joined h k a.1 b)
joins (hole ∷ xs) ys s t u g h k a b = (a.0, joins xs ys (settled (piece_stand s g hole)) t u joined h k a.1 b)
joins (space ∷ xs) ys s t u g h k a b = (a.0, joins xs ys s t u parted h k a.1 b)
joins (line_end ∷ xs) ys s t u g h k a b = (a.0, joins xs ys s t u ended h k a.1 b)

-- ---- single tokens

-- what never is
pub never : {P : Type 0} → false ≡ true → P
never e = absurd (false≢true e)

-- a token that doesn't stand directly after the one before it
pub first : (b : Bool) (n : Next) (w : Within) (u : Stand) → u.after ≡ false → Stood (standing b n w) (gap_of b) u
first true n w u e = refl
first false n w u e = e

-- a sign whose row of the table is known
pub sign_step : (s : Stand) (g : Gap) (k : Symbol) (u : Stand) (ps : List Piece) (t : Stand) (h : Gap) → symbol_stand s.next s.within (is_joined g) k ≡ u → Stood s g u → Spaced (settled u) joined ps t h → Spaced s g (sign k ∷ ps) t h
sign_step s g k u ps t h is a b = (subst (λ (z : Stand). Stood s g z) (sym is) a, subst (λ (z : Stand). Spaced (settled z) joined ps t h) (sym is) b)

pub name_step : (s : Stand) (g : Gap) (x : List ℕ) (u : Stand) (ps : List Piece) (t : Stand) (h : Gap) → name_stand s.next s.within ≡ u → Stood s g u → Spaced (settled u) joined ps t h → Spaced s g (name x ∷ ps) t h
name_step s g x u ps t h is a b = (subst (λ (z : Stand). Stood s g z) (sym is) a, subst (λ (z : Stand). Spaced (settled z) joined ps t h) (sym is) b)

-- ---- what the next token may be

-- a name is one that units may follow, or a measure that is declared
abbrev pub is_naming : Next → Bool
is_naming next_of.Heads = true
is_naming next_of.Measures = true
is_naming _ = false

-- an operand has ended
abbrev pub is_operand : Next → Bool
is_operand next_of.Ended = true
is_operand next_of.Number = true
is_operand next_of.Bound = true
is_operand _ = false

-- a type has ended, or a name that units may follow
abbrev pub is_typed : Next → Bool
is_typed next_of.Ended = true
is_typed next_of.Head = true
is_typed _ = false

pub operand_ended : (n : Next) → is_operand n ≡ true → has_ended n ≡ true
operand_ended next_of.Ended e = refl
operand_ended next_of.Number e = refl
operand_ended next_of.Bound e = refl
operand_ended _ e = never e

pub typed_ended : (n : Next) → is_typed n ≡ true → has_ended n ≡ true
typed_ended next_of.Ended e = refl
typed_ended next_of.Head e = refl
typed_ended _ e = never e

pub operand_names : (n : Next) → is_operand n ≡ true → is_naming n ≡ false
operand_names next_of.Heads e = never e
operand_names next_of.Measures e = never e
operand_names _ e = refl

pub ended_measure : (n : Next) → has_ended n ≡ true → after_measure_word n ≡ false
ended_measure next_of.MeasureWord e = never e
ended_measure _ e = refl

-- a `<` after a space opens no units
pub operand_opens : (n : Next) → is_operand n ≡ true → opens_units n false ≡ false
operand_opens next_of.Head e = never e
operand_opens next_of.Number e = refl
operand_opens _ e = refl

-- what a name is, wherever it stands
pub record Named (n : Next) (w : Within) : Type 0 where
  pub next : Next
  pub ended : has_ended next ≡ true
  pub is : name_stand n w ≡ apart next w

pub named : (n : Next) (w : Within) → Named n w
named next_of.Heads w = record { next = next_of.Head; ended = refl; is = refl }
named next_of.Measures w = record { next = next_of.Measure; ended = refl; is = refl }
named next_of.Binds w = record { next = next_of.Bound; ended = refl; is = refl }
named _ w = record { next = next_of.Ended; ended = refl; is = refl }

-- in an expression
pub record NamedOperand (n : Next) (w : Within) : Type 0 where
  pub next : Next
  pub operand : is_operand next ≡ true
  pub unnumbered : is_number_next next ≡ false
  pub is : name_stand n w ≡ apart next w

pub named_operand : (n : Next) (w : Within) → is_naming n ≡ false → NamedOperand n w
named_operand next_of.Heads w e = never (sym e)
named_operand next_of.Measures w e = never (sym e)
named_operand next_of.Binds w e = record { next = next_of.Bound; operand = refl; unnumbered = refl; is = refl }
named_operand _ w e = record { next = next_of.Ended; operand = refl; unnumbered = refl; is = refl }

-- what `(` is, wherever it stands
pub record Bracketed (n : Next) (w : Within) : Type 0 where
  pub next : Next
  pub wants : has_ended next ≡ false
  pub is : bracket_stand n w ≡ before next w

pub bracketed : (n : Next) (w : Within) → Bracketed n w
bracketed next_of.Heads w = record { next = next_of.Heads; wants = refl; is = refl }
bracketed _ w = record { next = next_of.Binds; wants = refl; is = refl }

-- outside a type
pub bracket_binds : (n : Next) (w : Within) → is_naming n ≡ false → bracket_stand n w ≡ before next_of.Binds w
bracket_binds next_of.Heads w e = never (sym e)
bracket_binds _ w e = refl
