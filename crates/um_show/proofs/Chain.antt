-- Pieces that may stand one behind the other, so that each is a token of its own, or white space.
use Rattle.std.proofs.Common.{◌≡◌, ℕ, ◌≤◌, Bool, true, false, ◌==◌, ◌||◌, ◌&&◌, not, List, [], ◌∷◌, ◌++◌, append_assoc, sym, subst}
use Rattle.std.specs.Prelude.{pos}
use Rattle.std.specs.Char.{is_ascii_digit}
use Rattle.std.specs.Str.{encode_utf8_all, all_scalars}
use Rattle.unicode_ident.specs.Ident.{is_xid_continue}
use Rattle.um_frac.specs.Fraction.{numerator}
use Rattle.um_vocabulary.specs.declared.vocabulary.Symbol.{Symbol}
use Rattle.um_vocabulary.specs.declared.vocabulary.Symbol.TheVariants as symbol
use Rattle.um_vocabulary.specs.Vocabulary.{symbol_text}
use Rattle.um_syntax.specs.Lexeme.{IsName, begins, begins_part}
use Rattle.um_show.specs.Pieces.{Piece, name, variable, number, digits, word, sign, hole, space, line_end}

-- Where a piece stands: behind white space, or a sign of which little may follow, or `/`; behind a name, a number or a sign that
-- closes; behind `^`; behind `^` and `-`; behind `.`.
pub data Place : Type 0 where
  fresh : (glued slash : Bool) → Place
  full : Place
  raised : Place
  lowered : Place
  pointed : Place

pub data Role : Type 0 where
  opening : Role
  closing : Role
  lowering : Role
  slashing : Role
  raising : Role
  pointing : Role

abbrev pub role : Symbol → Role
role symbol.RightParen = closing
role symbol.RightBracket = closing
role symbol.RightBrace = closing
role symbol.Greater = closing
role symbol.Minus = lowering
role symbol.Slash = slashing
role symbol.Caret = raising
role symbol.Dot = pointing
role _ = opening

abbrev pub after_role : Role → Place → Place
after_role opening s = fresh true false
after_role closing s = full
after_role slashing s = fresh true true
after_role raising s = raised
after_role pointing s = pointed
after_role lowering (fresh g d) = fresh true false
after_role lowering full = fresh true false
after_role lowering raised = lowered
after_role lowering lowered = fresh true false
after_role lowering pointed = fresh true false

abbrev pub after : Piece → Place → Place
after (name x) s = full
after (variable x) s = full
after (number c) s = full
after (digits n) s = full
after (word k) s = full
after (sign k) s = after_role (role k) s
after hole s = full
after space s = fresh false false
after line_end s = fresh false false

-- the second characters of signs; the slash
abbrev pub is_second : ℕ → Bool
is_second c = c == 60 || (c == 61 || (c == 62 || (c == 58 || (c == 124 || c == 38))))

abbrev pub is_slash : ℕ → Bool
is_slash c = c == 47

abbrev pub takes_letter : Place → Bool
takes_letter (fresh g d) = true
takes_letter full = false
takes_letter raised = false
takes_letter lowered = false
takes_letter pointed = true

abbrev pub is_fresh : Place → Bool
is_fresh (fresh g d) = true
is_fresh full = false
is_fresh raised = false
is_fresh lowered = false
is_fresh pointed = false

abbrev pub takes_digit : Place → Bool
takes_digit (fresh g d) = true
takes_digit full = false
takes_digit raised = true
takes_digit lowered = true
takes_digit pointed = false

abbrev pub takes_blank : Place → Bool
takes_blank (fresh g d) = g
takes_blank full = true
takes_blank raised = false
takes_blank lowered = false
takes_blank pointed = false

abbrev pub takes_sign : Place → List ℕ → Bool
takes_sign (fresh g d) t = (not (begins is_second t) || not g) && (not (begins is_slash t) || not d)
takes_sign full t = true
takes_sign raised t = true
takes_sign lowered t = false
takes_sign pointed t = false

-- the piece may stand there
abbrev pub may : Place → Piece → Bool
may s (name x) = takes_letter s
may s (variable x) = is_fresh s
may s (number c) = is_fresh s
may s (digits n) = takes_digit s
may s (word k) = takes_letter s
may s (sign k) = takes_sign s (symbol_text k)
may s hole = takes_letter s
may s space = takes_blank s
may s line_end = takes_blank s

-- the bytes of a name
pub record IsGoodName (x : List ℕ) : Type 0 where
  pub text : List ℕ
  pub scalars : all_scalars text ≡ true
  pub bytes : encode_utf8_all text ≡ x
  pub named : IsName text

-- the piece is the text of a token, or white space
abbrev pub Good : Piece → Type 0
Good (name x) = IsGoodName x
Good (variable x) = IsGoodName x
Good (number c) = (n : ℕ) × (numerator c ≡ pos n)
Good (digits n) = n ≤ 2147483647
Good (word k) = Unit {0}
Good (sign k) = Unit {0}
Good hole = Unit {0}
Good space = Unit {0}
Good line_end = Unit {0}

-- each piece may stand where it stands
abbrev pub Chain : Place → List Piece → Place → Type 0
Chain s [] t = s ≡ t
Chain s (p ∷ ps) t = Good p × (may s p ≡ true) × Chain (after p s) ps t

-- one chain behind the other
pub joined : (xs ys : List Piece) (s t u : Place) → Chain s xs t → Chain t ys u → Chain s (xs ++ ys) u
joined [] ys s t u a b = subst (λ w. Chain w ys u) (sym a) b
joined (x ∷ xs) ys s t u a b = (a.0, a.1, joined xs ys (after x s) t u a.2 b)

-- three parts one behind the other
pub regroup : (xs ys zs : List Piece) (s t : Place) → Chain s (xs ++ (ys ++ zs)) t → Chain s ((xs ++ ys) ++ zs) t
regroup xs ys zs s t c = subst (λ ps. Chain s ps t) (sym (append_assoc xs ys zs)) c

-- what the characters behind a place begin with
abbrev pub Clear : Place → List ℕ → Type 0
Clear (fresh g d) cs = ((g && begins is_second cs) ≡ false) × ((d && begins is_slash cs) ≡ false)
Clear full cs = (begins is_xid_continue cs ≡ false) × (begins_part cs ≡ false)
Clear raised cs = Unit {0}
Clear lowered cs = begins is_second cs ≡ false
Clear pointed cs = begins is_ascii_digit cs ≡ false

-- directly behind a token; behind `^`; where a number is a power
abbrev pub is_behind : Place → Bool
is_behind (fresh g d) = g
is_behind full = true
is_behind raised = true
is_behind lowered = true
is_behind pointed = true

abbrev pub is_raised : Place → Bool
is_raised (fresh g d) = false
is_raised full = false
is_raised raised = true
is_raised lowered = false
is_raised pointed = false

abbrev pub is_power : Place → Bool
is_power (fresh g d) = false
is_power full = false
is_power raised = true
is_power lowered = true
is_power pointed = false
