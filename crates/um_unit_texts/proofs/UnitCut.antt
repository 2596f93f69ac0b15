-- What a unit text spells doesn't depend on what follows: its own tokens, and then any rest.
use Rattle.std.proofs.Common.{◌≡◌, ℕ, ℤ, List, [], ◌∷◌, ◌++◌, true, Some, refl, sym, ap, subst, ◌∙◌, append_assoc, inl, inr}
use Rattle.std.proofs.lemmas.List.{append-nil}
use Rattle.um_syntax.specs.declared.token.Token.{Token}
use Rattle.um_tree.specs.RawTree.{UnitSyntax, UnitSyntaxes, one_syntax, measure_syntax, variable_syntax, power_syntax, side_syntax, times_syntax, over_syntax, inverse_syntax, bracket_syntax, no_units, more_units}
use Rattle.um_unit_texts.specs.UnitTokens.{UnitToken, sign, measure, variable, number}
use Rattle.um_vocabulary.specs.declared.vocabulary.Symbol.TheVariants as symbol
use Rattle.um_unit_texts.specs.UnitGrammar.{First, FirstAt, PowerSpells, Spells, AllSpell, Fits, IsUnit}

abbrev pub Text : Type 1
Text = List Token → List Token → Type 0

-- the tokens of the text, which are followed by the rest and may be followed by anything
abbrev pub Cut : Text → List Token → List Token → Type 0
Cut P tokens rest = (read : List Token) × (tokens ≡ read ++ rest) × ((more : List Token) → P (read ++ more) more)

-- one text and then another
abbrev pub Then : Text → Text → Text
Then P Q tokens rest = (mid : List Token) × P tokens mid × Q mid rest

pub cut_then : (P Q : Text) → (tokens mid rest : List Token) → Cut P tokens mid → Cut Q mid rest → Cut (Then P Q) tokens rest
cut_then P Q tokens mid rest p q = (
  p.0 ++ q.0,
  p.1 ∙ ap (λ w. p.0 ++ w) q.1 ∙ sym (append_assoc p.0 q.0 rest),
  (λ more. (q.0 ++ more, subst (λ w. P w (q.0 ++ more)) (sym (append_assoc p.0 q.0 more)) (p.2 (q.0 ++ more)), q.2 more)),
)

-- the same text in other words
pub cut_as : (P Q : Text) → ((s r : List Token) → P s r → Q s r) → (tokens rest : List Token) → Cut P tokens rest → Cut Q tokens rest
cut_as P Q turn tokens rest c = (c.0, c.1, (λ more. turn (c.0 ++ more) more (c.2 more)))

pub cut_first : (what : UnitToken) (tokens rest : List Token) → First what tokens rest → Cut (First what) tokens rest
cut_first what tokens rest f = (f.0 ∷ [], f.2, (λ more. (f.0, f.1, refl)))

pub cut_at : (what : UnitToken) (at : ℕ) (tokens rest : List Token) → FirstAt what at tokens rest → Cut (FirstAt what at) tokens rest
cut_at what at tokens rest f = (f.0 ∷ [], f.3, (λ more. (f.0, f.1, f.2, refl)))

cut_power : (k : ℤ) (tokens rest : List Token) → PowerSpells k tokens rest → Cut (PowerSpells k) tokens rest
cut_power k tokens rest (n, inl (e, (one, f))) =
    cut_as (First (number one (Some n))) (PowerSpells k) (λ s r g. (n, inl (e, (one, g)))) tokens rest (cut_first (number one (Some n)) tokens rest f)
cut_power k tokens rest (n, inr (next, e, minus, (one, f))) =
    cut_as (Then (First (sign symbol.Minus)) (First (number one (Some n)))) (PowerSpells k) (λ s r g. (n, inr (g.0, e, g.1, (one, g.2)))) tokens rest
    (cut_then (First (sign symbol.Minus)) (First (number one (Some n))) tokens next rest (cut_first (sign symbol.Minus) tokens next minus) (cut_first (number one (Some n)) next rest f))

mutual
  pub unit_cut : (t : UnitSyntax) (tokens rest : List Token) → Spells t tokens rest → Cut (Spells t) tokens rest
  unit_cut (one_syntax at) tokens rest s =
      cut_as (FirstAt (number true s.0) at) (Spells (one_syntax at)) (λ a b g. (s.0, g)) tokens rest (cut_at (number true s.0) at tokens rest s.1)
  unit_cut (measure_syntax at x) tokens rest s = cut_at (measure x) at tokens rest s
  unit_cut (variable_syntax at x) tokens rest s = cut_at (variable x) at tokens rest s
  unit_cut (power_syntax u k) tokens rest s =
      cut_as (Then (Spells u) (Then (First (sign symbol.Caret)) (PowerSpells k))) (Spells (power_syntax u k)) (λ a b g. (g.0, g.2.0, g.1, g.2.1, g.2.2)) tokens rest
      (
      cut_then (Spells u) (Then (First (sign symbol.Caret)) (PowerSpells k)) tokens s.0 rest (unit_cut u tokens s.0 s.2)
      (cut_then (First (sign symbol.Caret)) (PowerSpells k) s.0 s.1 rest (cut_first (sign symbol.Caret) s.0 s.1 s.3) (cut_power k s.1 rest s.4))
      )
  unit_cut (side_syntax us) tokens rest s = all_cut us tokens rest s
  unit_cut (times_syntax u v) tokens rest s =
      cut_as (Then (Spells u) (Then (First (sign symbol.Star)) (Spells v))) (Spells (times_syntax u v)) (λ a b g. (g.0, g.2.0, g.1, g.2.1, g.2.2)) tokens rest
      (
      cut_then (Spells u) (Then (First (sign symbol.Star)) (Spells v)) tokens s.0 rest (unit_cut u tokens s.0 s.2)
      (cut_then (First (sign symbol.Star)) (Spells v) s.0 s.1 rest (cut_first (sign symbol.Star) s.0 s.1 s.3) (unit_cut v s.1 rest s.4))
      )
  unit_cut (over_syntax u v) tokens rest s =
      cut_as (Then (Spells u) (Then (First (sign symbol.Slash)) (Spells v))) (Spells (over_syntax u v)) (λ a b g. (g.0, g.2.0, g.1, g.2.1, g.2.2)) tokens rest
      (
      cut_then (Spells u) (Then (First (sign symbol.Slash)) (Spells v)) tokens s.0 rest (unit_cut u tokens s.0 s.2)
      (cut_then (First (sign symbol.Slash)) (Spells v) s.0 s.1 rest (cut_first (sign symbol.Slash) s.0 s.1 s.3) (unit_cut v s.1 rest s.4))
      )
  unit_cut (inverse_syntax at u) tokens rest s =
      cut_then (FirstAt (sign symbol.Slash) at) (Spells u) tokens s.0 rest (cut_at (sign symbol.Slash) at tokens s.0 s.1) (unit_cut u s.0 rest s.2)
  unit_cut (bracket_syntax at u) tokens rest s =
      cut_as (Then (FirstAt (sign symbol.LeftParen) at) (Then (Spells u) (First (sign symbol.RightParen)))) (Spells (bracket_syntax at u)) (λ a b g. (g.0, g.2.0, g.1, g.2.1, g.2.2)) tokens rest
      (
      cut_then (FirstAt (sign symbol.LeftParen) at) (Then (Spells u) (First (sign symbol.RightParen))) tokens s.0 rest (cut_at (sign symbol.LeftParen) at tokens s.0 s.2)
      (cut_then (Spells u) (First (sign symbol.RightParen)) s.0 s.1 rest (unit_cut u s.0 s.1 s.3) (cut_first (sign symbol.RightParen) s.1 rest s.4))
      )

  all_cut : (us : UnitSyntaxes) (tokens rest : List Token) → AllSpell us tokens rest → Cut (AllSpell us) tokens rest
  all_cut no_units tokens rest s = ([], s, (λ more. refl))
  all_cut (more_units u us) tokens rest s = cut_then (Spells u) (AllSpell us) tokens s.0 rest (unit_cut u tokens s.0 s.1) (all_cut us s.0 rest s.2)

-- the unit text's own tokens
pub cut_unit : (t : UnitSyntax) (tokens rest : List Token) → Spells t tokens rest → Fits t → (read : List Token) × (tokens ≡ read ++ rest) × IsUnit read t
cut_unit t tokens rest s fits =
    let c = unit_cut t tokens rest s in (c.0, c.1, record { spelled = subst (λ w. Spells t w []) (append-nil c.0) (c.2 []); fits = fits })

-- a unit text followed by anything
pub unit_before : (t : UnitSyntax) (tokens rest : List Token) → IsUnit tokens t → Spells t (tokens ++ rest) rest
unit_before t tokens rest p =
    let c = unit_cut t tokens [] p.spelled in subst (λ w. Spells t (w ++ rest) rest) (sym (c.1 ∙ append-nil c.0)) (c.2 rest)
