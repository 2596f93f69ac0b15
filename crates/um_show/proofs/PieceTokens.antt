-- The tokens of pieces that stand one behind the other.
use Rattle.std.proofs.Common.{◌≡◌, ℕ, pos, Bool, true, false, cond, nat_le, List, [], ◌∷◌, ◌++◌, Some, None, refl, ap, ◌∙◌, subst}
use Rattle.um_frac.specs.declared.number.Frac.{Frac}
use Rattle.um_frac.specs.Fraction.{numerator}
use Rattle.um_syntax.specs.declared.token.Token.{Token}
use Rattle.um_syntax.specs.declared.token.Kind.{Kind}
use Rattle.um_syntax.specs.declared.token.Kind.TheVariants as kind_of
use Rattle.um_unit_texts.specs.UnitTokens.{unit_token, number, power_from, greatest_power}
use Rattle.um_show.specs.Pieces.{Piece, name, variable, digits, word, sign, hole, space, line_end}
use Rattle.um_show.specs.Pieces.{number as number_piece}

-- digits stand as a number that is no more than the greatest power
pub record IsPower (n : ℕ) (k : Kind) : Type 0 where
  pub value : Frac
  pub one : Bool
  pub is : k ≡ kind_of.Number value true one
  pub above : numerator value ≡ pos n
  pub low : nat_le n greatest_power ≡ true
  pub is_one : n ≡ 1 → one ≡ true

abbrev pub IsKind : Piece → Kind → Type 0
IsKind (name x) k = k ≡ kind_of.Name x
IsKind (variable x) k = k ≡ kind_of.Var x
IsKind (number_piece c) k = (whole one : Bool) × (k ≡ kind_of.Number c whole one)
IsKind (digits n) k = IsPower n k
IsKind (word n) k = k ≡ kind_of.Word n
IsKind (sign n) k = k ≡ kind_of.Sign n
IsKind hole k = k ≡ kind_of.Hole
IsKind space k = ⊥
IsKind line_end k = ⊥

-- the first token is the piece's, and directly behind the one before it or not
pub record IsToken (p : Piece) (glued : Bool) (tokens : List Token) (behind : Bool) (rest : List Token) : Type 0 where
  pub token : Token
  pub kind : IsKind p token.kind
  pub gap : token.glued ≡ glued
  pub open_end : behind ≡ true
  pub first : tokens ≡ token ∷ rest

-- white space has no token, and none is directly behind it
pub record IsBlank (tokens : List Token) (behind : Bool) (rest : List Token) : Type 0 where
  pub blank_end : behind ≡ false
  pub none : tokens ≡ rest

abbrev pub PieceSpells : Piece → Bool → List Token → Bool → List Token → Type 0
PieceSpells (name x) g tokens h rest = IsToken (name x) g tokens h rest
PieceSpells (variable x) g tokens h rest = IsToken (variable x) g tokens h rest
PieceSpells (number_piece c) g tokens h rest = IsToken (number_piece c) g tokens h rest
PieceSpells (digits n) g tokens h rest = IsToken (digits n) g tokens h rest
PieceSpells (word n) g tokens h rest = IsToken (word n) g tokens h rest
PieceSpells (sign n) g tokens h rest = IsToken (sign n) g tokens h rest
PieceSpells hole g tokens h rest = IsToken hole g tokens h rest
PieceSpells space g tokens h rest = IsBlank tokens h rest
PieceSpells line_end g tokens h rest = IsBlank tokens h rest

-- this, and then that
pub record Then (this that : Bool → List Token → Type 0) : Type 0 where
  pub flag : Bool
  pub next : List Token
  pub here : this flag next
  pub later : that flag next

pub record Ended (g : Bool) (tokens : List Token) (h : Bool) (rest : List Token) : Type 0 where
  pub same_flag : g ≡ h
  pub same : tokens ≡ rest

-- The tokens up to the rest are those of the pieces. The flags say whether what stands next is directly behind a token, before the pieces and behind them.
abbrev pub PiecesSpell : List Piece → Bool → List Token → Bool → List Token → Type 0
PiecesSpell [] g tokens h rest = Ended g tokens h rest
PiecesSpell (p ∷ ps) g tokens h rest = Then (λ f next. PieceSpells p g tokens f next) (λ f next. PiecesSpell ps f next h rest)

pub both : (xs ys : List Piece) (g : Bool) (tokens : List Token) (h : Bool) (rest : List Token) → PiecesSpell (xs ++ ys) g tokens h rest → Then (λ f next. PiecesSpell xs g tokens f next) (λ f next. PiecesSpell ys f next h rest)
both [] ys g tokens h rest s = record { flag = g; next = tokens; here = record { same_flag = refl; same = refl }; later = s }
both (x ∷ xs) ys g tokens h rest s =
    let more = both xs ys s.flag s.next h rest s.later in
    record { flag = more.flag; next = more.next; here = record { flag = s.flag; next = s.next; here = s.here; later = more.here }; later = more.later }

-- the only piece
pub only : (p : Piece) (g : Bool) (tokens : List Token) (h : Bool) (rest : List Token) → PiecesSpell (p ∷ []) g tokens h rest → PieceSpells p g tokens h rest
only p g tokens h rest s =
    subst (λ next. PieceSpells p g tokens h next) s.later.same (subst (λ f. PieceSpells p g tokens f s.next) s.later.same_flag s.here)

-- what digits are in a unit text
pub power_token : (n : ℕ) (k : Kind) (p : IsPower n k) → unit_token k ≡ number p.one (Some n)
power_token n k p =
    ap unit_token p.is ∙ ap (λ z. number p.one (power_from true z)) p.above ∙ ap (λ b. number p.one (cond b (Some n) None)) p.low
