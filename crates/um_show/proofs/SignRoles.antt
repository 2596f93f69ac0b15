-- What each sign lets stand directly after it.
use Rattle.std.proofs.Common.{◌≡◌, ℕ, ◌<◌, Bool, true, false, ◌==◌, ◌||◌, ◌&&◌, cond, eqb, List, [], ◌∷◌, ◌++◌, length, Some, None, is_some, refl, sym, ap, ◌∙◌, subst, arith}
use Rattle.std.proofs.lemmas.Bool.{false≢true, or_parts, or_from}
use Rattle.std.specs.Char.{is_ascii_digit}
use Rattle.um_vocabulary.specs.declared.vocabulary.Symbol.{Symbol}
use Rattle.um_vocabulary.specs.declared.vocabulary.Symbol.TheVariants as symbol
use Rattle.um_syntax.specs.declared.token.Kind.TheVariants as kind
use Rattle.um_vocabulary.specs.Vocabulary.{symbol_text}
use Rattle.um_syntax.specs.Lexing.{is_caret_kind, is_minus_kind}
use Rattle.um_syntax.specs.Lexeme.{SignEnds, begins, begins_part}
use Rattle.um_vocabulary.specs.Tables.{double_symbol, double_symbols, found_pair}
use Rattle.um_syntax.proofs.SignEnds.{grows, sign_ends}
use Rattle.um_show.proofs.Chain.{Place, fresh, full, raised, lowered, pointed, Role, opening, closing, lowering, slashing, raising, pointing, role, after_role, is_second, is_slash, Clear, is_behind, is_raised, is_power}

-- whether the role is that of `^`; of `-`
abbrev pub is_raising : Role → Bool
is_raising opening = false
is_raising closing = false
is_raising lowering = false
is_raising slashing = false
is_raising raising = true
is_raising pointing = false

abbrev pub is_lowering : Role → Bool
is_lowering opening = false
is_lowering closing = false
is_lowering lowering = true
is_lowering slashing = false
is_lowering raising = false
is_lowering pointing = false

-- no character lengthens this text
abbrev pub Quiet : List ℕ → Type 0
Quiet t = (c : ℕ) → grows t c ≡ false

abbrev pub EndsAs : Role → List ℕ → Type 0
EndsAs opening t = begins is_slash t ≡ false
EndsAs closing t = Quiet t
EndsAs lowering t = begins is_slash t ≡ false
EndsAs slashing t = Unit {0}
EndsAs raising t = Quiet t
EndsAs pointing t = Quiet t

-- a point or an r
abbrev pub starts_part : ℕ → Bool
starts_part c = c == 46 || c == 114

abbrev pub BeginsAs : Role → List ℕ → Type 0
BeginsAs opening t = begins starts_part t ≡ false
BeginsAs closing t = begins starts_part t ≡ false
BeginsAs lowering t = begins starts_part t ≡ false
BeginsAs slashing t = begins starts_part t ≡ false
BeginsAs raising t = begins starts_part t ≡ false
BeginsAs pointing t = t ≡ 46 ∷ []

-- what the role of a sign says of it
pub record IsRole (k : Symbol) : Type 0 where
  pub ends : EndsAs (role k) (symbol_text k)
  pub begins_as : BeginsAs (role k) (symbol_text k)
  pub caret : is_caret_kind (kind.Sign k) ≡ is_raising (role k)
  pub minus : is_minus_kind (kind.Sign k) ≡ is_lowering (role k)

pub role_is : (k : Symbol) → IsRole k
role_is symbol.RightParen = record { ends = λ c. refl; begins_as = refl; caret = refl; minus = refl }
role_is symbol.RightBracket = record { ends = λ c. refl; begins_as = refl; caret = refl; minus = refl }
role_is symbol.RightBrace = record { ends = λ c. refl; begins_as = refl; caret = refl; minus = refl }
role_is symbol.Greater = record { ends = λ c. refl; begins_as = refl; caret = refl; minus = refl }
role_is symbol.Caret = record { ends = λ c. refl; begins_as = refl; caret = refl; minus = refl }
role_is symbol.Dot = record { ends = λ c. refl; begins_as = refl; caret = refl; minus = refl }
role_is symbol.Slash = record { ends = tt; begins_as = refl; caret = refl; minus = refl }
role_is _ = record { ends = refl; begins_as = refl; caret = refl; minus = refl }

-- ---- no second character of a sign, so no longer sign

abbrev NoSecond : ℕ → List (ℕ × ℕ × Symbol) → Type 0
NoSecond c [] = Unit {0}
NoSecond c (x ∷ xs) = (eqb c x.1 ≡ false) × NoSecond c xs

pub and_no : (a b : Bool) → b ≡ false → (a && b) ≡ false
and_no true b e = e
and_no false b e = refl

no_pair : (a c : ℕ) (xs : List (ℕ × ℕ × Symbol)) → NoSecond c xs → found_pair a c xs ≡ None
no_pair a c [] none = refl
no_pair a c (x ∷ xs) none = ap (λ b. cond b (Some x.2) (found_pair a c xs)) (and_no (eqb a x.0) (eqb c x.1) none.0) ∙ no_pair a c xs none.1

no_double : (a c : ℕ) → is_second c ≡ false → is_some (double_symbol a c) ≡ false
no_double a c e =
    let less = or_parts _ _ e in let equal = or_parts _ _ less.1 in let greater = or_parts _ _ equal.1 in
    let colon = or_parts _ _ greater.1 in let bar = or_parts _ _ colon.1 in
    ap is_some (no_pair a c double_symbols (less.0, (equal.0, (greater.0, (colon.0, (bar.0, (bar.1, (greater.0, tt))))))))

apart : (t : List ℕ) (c : ℕ) → is_second c ≡ false → (begins is_slash t && is_slash c) ≡ false → grows t c ≡ false
apart [] c s l = refl
apart (a ∷ []) c s l = or_from (is_some (double_symbol a c)) (is_slash a && is_slash c) (no_double a c s) l
apart (a ∷ b ∷ more) c s l = refl

no_slash : (a b : Bool) → a ≡ false → (a && b) ≡ false
no_slash true b e = absurd (false≢true (sym e))
no_slash false b e = refl

by_role : (r : Role) (t : List ℕ) (s : Place) (c : ℕ) (more : List ℕ) → EndsAs r t → Clear (after_role r s) (c ∷ more) → grows t c ≡ false
by_role opening t s c more e clear = apart t c clear.0 (no_slash (begins is_slash t) (is_slash c) e)
by_role closing t s c more e clear = e c
by_role slashing t s c more e clear = apart t c clear.0 (and_no (begins is_slash t) (is_slash c) clear.1)
by_role raising t s c more e clear = e c
by_role pointing t s c more e clear = e c
by_role lowering t (fresh g d) c more e clear = apart t c clear.0 (no_slash (begins is_slash t) (is_slash c) e)
by_role lowering t full c more e clear = apart t c clear.0 (no_slash (begins is_slash t) (is_slash c) e)
by_role lowering t raised c more e clear = apart t c clear (no_slash (begins is_slash t) (is_slash c) e)
by_role lowering t lowered c more e clear = apart t c clear.0 (no_slash (begins is_slash t) (is_slash c) e)
by_role lowering t pointed c more e clear = apart t c clear.0 (no_slash (begins is_slash t) (is_slash c) e)

-- a sign ends where what follows is clear
pub sign_stops : (k : Symbol) (s : Place) (cs : List ℕ) → Clear (after_role (role k) s) cs → SignEnds (symbol_text k) cs
sign_stops k s [] clear = tt
sign_stops k s (c ∷ more) clear = sign_ends k c more (by_role (role k) (symbol_text k) s c more (role_is k).ends clear)

no_part : (t more : List ℕ) → begins starts_part t ≡ false → 0 < length t → begins_part (t ++ more) ≡ false
no_part [] more e some = absurd (omega (arith, some))
no_part (c ∷ cs) more e some = no_slash (starts_part c) (begins is_ascii_digit (cs ++ more)) e

-- no sign but a point with a digit continues a number
pub part_clear : (r : Role) (t more : List ℕ) (s : Place) → BeginsAs r t → Clear (after_role r s) more → 0 < length t → begins_part (t ++ more) ≡ false
part_clear opening t more s e clear some = no_part t more e some
part_clear closing t more s e clear some = no_part t more e some
part_clear lowering t more s e clear some = no_part t more e some
part_clear slashing t more s e clear some = no_part t more e some
part_clear raising t more s e clear some = no_part t more e some
part_clear pointing t more s e clear some = subst (λ x. begins_part (x ++ more) ≡ false) (sym e) clear

-- ---- what the place behind a sign is

pub raised_after : (r : Role) (s : Place) → is_raising r ≡ is_raised (after_role r s)
raised_after opening s = refl
raised_after closing s = refl
raised_after slashing s = refl
raised_after raising s = refl
raised_after pointing s = refl
raised_after lowering (fresh g d) = refl
raised_after lowering full = refl
raised_after lowering raised = refl
raised_after lowering lowered = refl
raised_after lowering pointed = refl

pub power_after : (r : Role) (s : Place) → (is_raising r || (is_lowering r && is_raised s)) ≡ is_power (after_role r s)
power_after opening s = refl
power_after closing s = refl
power_after slashing s = refl
power_after raising s = refl
power_after pointing s = refl
power_after lowering (fresh g d) = refl
power_after lowering full = refl
power_after lowering raised = refl
power_after lowering lowered = refl
power_after lowering pointed = refl

pub behind_after : (r : Role) (s : Place) → is_behind (after_role r s) ≡ true
behind_after opening s = refl
behind_after closing s = refl
behind_after slashing s = refl
behind_after raising s = refl
behind_after pointing s = refl
behind_after lowering (fresh g d) = refl
behind_after lowering full = refl
behind_after lowering raised = refl
behind_after lowering lowered = refl
behind_after lowering pointed = refl
