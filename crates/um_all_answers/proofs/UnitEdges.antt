-- The first and the last token of a unit text.
use Rattle.std.proofs.Common.{◌≡◌, ◌⊎◌, ℕ, ℤ, Bool, true, false, List, [], ◌∷◌, ◌++◌, append_assoc, Option, refl, sym, ap, subst, ◌∙◌, inl, inr}
use Rattle.um_syntax.specs.declared.token.Token.{Token}
use Rattle.um_vocabulary.specs.declared.vocabulary.Symbol.TheVariants as symbol
use Rattle.um_tree.specs.RawTree.{UnitSyntax, UnitSyntaxes, one_syntax, measure_syntax, variable_syntax, power_syntax, side_syntax, times_syntax, over_syntax, inverse_syntax, bracket_syntax, no_units, more_units}
use Rattle.um_unit_texts.specs.UnitTokens.{UnitToken, sign, measure, variable, number, unit_token}
use Rattle.um_unit_texts.specs.UnitGrammar.{First, FirstAt, PowerSpells, Spells, AllSpell, Fits, ArePowers}

abbrev pub may_begin : UnitToken → Bool
may_begin (sign symbol.LeftParen) = true
may_begin (sign symbol.Slash) = true
may_begin (measure x) = true
may_begin (variable x) = true
may_begin (number one power) = true
may_begin _ = false

abbrev pub may_end : UnitToken → Bool
may_end (sign symbol.RightParen) = true
may_end (measure x) = true
may_end (variable x) = true
may_end (number one power) = true
may_end _ = false

pub record Begins (tokens : List Token) : Type 0 where
  pub token : Token
  pub others : List Token
  pub may : may_begin (unit_token token.kind) ≡ true
  pub is : tokens ≡ token ∷ others

pub record EndsWith (tokens rest : List Token) : Type 0 where
  pub front : List Token
  pub token : Token
  pub may : may_end (unit_token token.kind) ≡ true
  pub is : tokens ≡ front ++ token ∷ rest

begins_with : (what : UnitToken) (at : ℕ) (tokens rest : List Token) → may_begin what ≡ true → FirstAt what at tokens rest → Begins tokens
begins_with what at tokens rest m (token, is, there, first) = record { token = token; others = rest; may = ap may_begin is ∙ m; is = first }

pub unit_begins : (u : UnitSyntax) (tokens rest : List Token) → Spells u tokens rest → Fits u → Begins tokens
unit_begins (one_syntax at) tokens rest s f = begins_with (number true s.0) at tokens rest refl s.1
unit_begins (measure_syntax at x) tokens rest s f = begins_with (measure x) at tokens rest refl s
unit_begins (variable_syntax at x) tokens rest s f = begins_with (variable x) at tokens rest refl s
unit_begins (power_syntax u k) tokens rest s f = unit_begins u tokens s.0 s.2 f.1
unit_begins (side_syntax no_units) tokens rest s f = absurd f.0
unit_begins (side_syntax (more_units u us)) tokens rest s f = unit_begins u tokens s.0 s.1 f.1.1
unit_begins (times_syntax u v) tokens rest s f = unit_begins u tokens s.0 s.2 f.1
unit_begins (over_syntax u v) tokens rest s f = unit_begins u tokens s.0 s.2 f.1
unit_begins (inverse_syntax at u) tokens rest s f = begins_with (sign symbol.Slash) at tokens s.0 refl s.1
unit_begins (bracket_syntax at u) tokens rest s f = begins_with (sign symbol.LeftParen) at tokens s.0 refl s.2

-- ---- the last token

ends_with : (what : UnitToken) (tokens rest : List Token) → may_end what ≡ true → First what tokens rest → EndsWith tokens rest
ends_with what tokens rest m (token, is, first) = record { front = []; token = token; may = ap may_end is ∙ m; is = first }

ends_at : (what : UnitToken) (at : ℕ) (tokens rest : List Token) → may_end what ≡ true → FirstAt what at tokens rest → EndsWith tokens rest
ends_at what at tokens rest m (token, is, there, first) = ends_with what tokens rest m (token, is, first)

-- what stands before the end may be longer
ends_later : (tokens mid rest : List Token) (front : List Token) → tokens ≡ front ++ mid → EndsWith mid rest → EndsWith tokens rest
ends_later tokens mid rest front is e = record {
  front = front ++ e.front;
  token = e.token;
  may = e.may;
  is = is ∙ ap (λ w. front ++ w) e.is ∙ sym (append_assoc front e.front (e.token ∷ rest));
}

ends_behind : (tokens mid rest : List Token) → EndsWith tokens mid → EndsWith mid rest → EndsWith tokens rest
ends_behind tokens mid rest a e =
    ends_later tokens mid rest (a.front ++ a.token ∷ []) (a.is ∙ sym (append_assoc a.front (a.token ∷ []) mid)) e

ends_first : (what : UnitToken) (tokens mid rest : List Token) → First what tokens mid → EndsWith mid rest → EndsWith tokens rest
ends_first what tokens mid rest (token, is, first) e = ends_later tokens mid rest (token ∷ []) first e

power_ends : (k : ℤ) (tokens rest : List Token) → PowerSpells k tokens rest → EndsWith tokens rest
power_ends k tokens rest (n, inl (e, (one, f))) = ends_with (number one (Option.Some n)) tokens rest refl f
power_ends k tokens rest (n, inr (next, e, minus, (one, f))) =
    ends_first (sign symbol.Minus) tokens next rest minus (ends_with (number one (Option.Some n)) next rest refl f)

ends_then : (tokens mid rest : List Token) → EndsWith tokens mid → (mid ≡ rest) ⊎ EndsWith mid rest → EndsWith tokens rest
ends_then tokens mid rest a (inl same) = subst (λ w. EndsWith tokens w) same a
ends_then tokens mid rest a (inr e) = ends_behind tokens mid rest a e

mutual
  pub unit_ends : (u : UnitSyntax) (tokens rest : List Token) → Spells u tokens rest → Fits u → EndsWith tokens rest
  unit_ends (one_syntax at) tokens rest s f = ends_at (number true s.0) at tokens rest refl s.1
  unit_ends (measure_syntax at x) tokens rest s f = ends_at (measure x) at tokens rest refl s
  unit_ends (variable_syntax at x) tokens rest s f = ends_at (variable x) at tokens rest refl s
  unit_ends (power_syntax u k) tokens rest s f =
      ends_behind tokens s.0 rest (unit_ends u tokens s.0 s.2 f.1) (ends_first (sign symbol.Caret) s.0 s.1 rest s.3 (power_ends k s.1 rest s.4))
  unit_ends (side_syntax no_units) tokens rest s f = absurd f.0
  unit_ends (side_syntax (more_units u us)) tokens rest s f = ends_then tokens s.0 rest (unit_ends u tokens s.0 s.1 f.1.1) (others_end us s.0 rest s.2 f.1.2)
  unit_ends (times_syntax u v) tokens rest s f =
      ends_behind tokens s.0 rest (unit_ends u tokens s.0 s.2 f.1) (ends_first (sign symbol.Star) s.0 s.1 rest s.3 (unit_ends v s.1 rest s.4 f.2))
  unit_ends (over_syntax u v) tokens rest s f =
      ends_behind tokens s.0 rest (unit_ends u tokens s.0 s.2 f.1) (ends_first (sign symbol.Slash) s.0 s.1 rest s.3 (unit_ends v s.1 rest s.4 f.2))
  unit_ends (inverse_syntax at u) tokens rest s f =
      ends_later tokens s.0 rest (s.1.0 ∷ []) s.1.3 (unit_ends u s.0 rest s.2 f.1)
  unit_ends (bracket_syntax at u) tokens rest s f =
      let inside = unit_ends u s.0 s.1 s.3 f in
      ends_later tokens s.0 rest (s.2.0 ∷ []) s.2.3 (ends_behind s.0 s.1 rest inside (ends_with (sign symbol.RightParen) s.1 rest refl s.4))

  -- none, or some that end so
  others_end : (us : UnitSyntaxes) (tokens rest : List Token) → AllSpell us tokens rest → ArePowers us → (tokens ≡ rest) ⊎ EndsWith tokens rest
  others_end no_units tokens rest s f = inl s
  others_end (more_units v vs) tokens rest s f = inr (ends_then tokens s.0 rest (unit_ends v tokens s.0 s.1 f.1) (others_end vs s.0 rest s.2 f.2))
