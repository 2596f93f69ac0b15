-- Tokens of the same kinds are the same unit text, places aside.
use Rattle.std.proofs.Common.{◌≡◌, ℕ, ◌≤◌, ℤ, true, List, [], ◌∷◌, ◌++◌, Some, refl, sym, ap, subst, ◌∙◌, inl, inr}
use Rattle.um_syntax.specs.declared.token.Token.{Token}
use Rattle.um_vocabulary.specs.declared.vocabulary.Symbol.TheVariants as symbol
use Rattle.um_tree.specs.RawTree.{UnitSyntax, UnitSyntaxes, one_syntax, measure_syntax, variable_syntax, power_syntax, side_syntax, times_syntax, over_syntax, inverse_syntax, bracket_syntax, no_units, more_units}
use Rattle.um_unit_texts.specs.UnitTokens.{UnitToken, sign, measure, variable, number, unit_token}
use Rattle.um_unit_texts.specs.UnitGrammar.{First, FirstAt, PowerSpells, Spells, AllSpell, Several, Fits, ArePowers, rank}
use Rattle.um_show.specs.Unplaced.{bare_unit, bare_units}

abbrev pub SameKinds : List Token → List Token → Type 0
SameKinds [] [] = Unit {0}
SameKinds [] (s ∷ ss) = ⊥
SameKinds (t ∷ ts) [] = ⊥
SameKinds (t ∷ ts) (s ∷ ss) = (t.kind ≡ s.kind) × SameKinds ts ss

pub kinds_join : (a b c d : List Token) → SameKinds a b → SameKinds c d → SameKinds (a ++ c) (b ++ d)
kinds_join [] [] c d h k = k
kinds_join [] (s ∷ ss) c d h k = absurd h
kinds_join (t ∷ ts) [] c d h k = absurd h
kinds_join (t ∷ ts) (s ∷ ss) c d h k = (h.0, kinds_join ts ss c d h.1 k)

-- the first of such tokens
record FirstAlike (what : UnitToken) (others rest : List Token) : Type 0 where
  pub token : Token
  pub left : List Token
  pub is : unit_token token.kind ≡ what
  pub first : others ≡ token ∷ left
  pub same : SameKinds rest left

first_alike : (what : UnitToken) (tokens rest others : List Token) → First what tokens rest → SameKinds tokens others → FirstAlike what others rest
first_alike what [] rest others f h = absurd (cc f.2)
first_alike what (t ∷ ts) rest [] f h = absurd h
first_alike what (t ∷ ts) rest (s ∷ ss) f h =
    let same : t ≡ f.0 = cc f.2 in
    let more : ts ≡ rest = cc f.2 in
    record {
      token = s;
      left = ss;
      is = ap unit_token (sym h.0) ∙ ap (λ (x : Token). unit_token x.kind) same ∙ f.1;
      first = refl;
      same = subst (λ w. SameKinds w ss) more h.1;
    }

first_at_alike : (what : UnitToken) (at : ℕ) (tokens rest others : List Token) → FirstAt what at tokens rest → SameKinds tokens others → FirstAlike what others rest
first_at_alike what at tokens rest others f h = first_alike what tokens rest others (f.0, f.1, f.3) h

-- the power of such tokens
record PowerAlike (k : ℤ) (others rest : List Token) : Type 0 where
  pub left : List Token
  pub spelled : PowerSpells k others left
  pub same : SameKinds rest left

power_alike : (k : ℤ) (tokens rest others : List Token) → PowerSpells k tokens rest → SameKinds tokens others → PowerAlike k others rest
power_alike k tokens rest others (n, inl (e, (one, f))) h =
    let a = first_alike (number one (Some n)) tokens rest others f h in
    record { left = a.left; spelled = (n, inl (e, (one, (a.token, a.is, a.first)))); same = a.same }
power_alike k tokens rest others (n, inr (next, e, minus, (one, f))) h =
    let m = first_alike (sign symbol.Minus) tokens next others minus h in
    let a = first_alike (number one (Some n)) next rest m.left f m.same in
    record { left = a.left; spelled = (n, inr (m.left, e, (m.token, m.is, m.first), (one, (a.token, a.is, a.first)))); same = a.same }

-- the unit text of such tokens
pub record Alike (u : UnitSyntax) (others rest : List Token) : Type 0 where
  pub unit : UnitSyntax
  pub left : List Token
  pub spelled : Spells unit others left
  pub same : SameKinds rest left
  pub bare : bare_unit unit ≡ bare_unit u
  pub ranked : rank unit ≡ rank u
  pub fits : Fits u → Fits unit

record AllAlike (us : UnitSyntaxes) (others rest : List Token) : Type 0 where
  pub units : UnitSyntaxes
  pub left : List Token
  pub spelled : AllSpell units others left
  pub same : SameKinds rest left
  pub bare : bare_units units ≡ bare_units us
  pub several : Several us → Several units
  pub powers : ArePowers us → ArePowers units

several_more : (u v : UnitSyntax) (us vs : UnitSyntaxes) → bare_units vs ≡ bare_units us → Several (more_units u us) → Several (more_units v vs)
several_more u v no_units vs e h = absurd h
several_more u v (more_units w ws) no_units e h = absurd (cc e)
several_more u v (more_units w ws) (more_units x xs) e h = tt

mutual
  pub unit_alike : (u : UnitSyntax) (tokens rest others : List Token) → Spells u tokens rest → SameKinds tokens others → Alike u others rest
  unit_alike (one_syntax at) tokens rest others s h =
      let a = first_at_alike (number true s.0) at tokens rest others s.1 h in
      record { unit = one_syntax a.token.start; left = a.left; spelled = (s.0, (a.token, a.is, refl, a.first)); same = a.same; bare = refl; ranked = refl; fits = λ f. f }
  unit_alike (measure_syntax at x) tokens rest others s h =
      let a = first_at_alike (measure x) at tokens rest others s h in
      record { unit = measure_syntax a.token.start x; left = a.left; spelled = (a.token, a.is, refl, a.first); same = a.same; bare = refl; ranked = refl; fits = λ f. f }
  unit_alike (variable_syntax at x) tokens rest others s h =
      let a = first_at_alike (variable x) at tokens rest others s h in
      record { unit = variable_syntax a.token.start x; left = a.left; spelled = (a.token, a.is, refl, a.first); same = a.same; bare = refl; ranked = refl; fits = λ f. f }
  unit_alike (power_syntax u k) tokens rest others s h =
      let a = unit_alike u tokens s.0 others s.2 h in
      let c = first_alike (sign symbol.Caret) s.0 s.1 a.left s.3 a.same in
      let p = power_alike k s.1 rest c.left s.4 c.same in
      record {
        unit = power_syntax a.unit k;
        left = p.left;
        spelled = (a.left, c.left, a.spelled, (c.token, c.is, c.first), p.spelled);
        same = p.same;
        bare = ap (λ v. power_syntax v k) a.bare;
        ranked = refl;
        fits = λ f. (a.ranked ∙ f.0, a.fits f.1);
      }
  unit_alike (side_syntax us) tokens rest others s h =
      let a = all_alike us tokens rest others s h in
      record { unit = side_syntax a.units; left = a.left; spelled = a.spelled; same = a.same; bare = ap side_syntax a.bare; ranked = refl; fits = λ f. (a.several f.0, a.powers f.1) }
  unit_alike (times_syntax u v) tokens rest others s h =
      let a = unit_alike u tokens s.0 others s.2 h in
      let c = first_alike (sign symbol.Star) s.0 s.1 a.left s.3 a.same in
      let b = unit_alike v s.1 rest c.left s.4 c.same in
      record {
        unit = times_syntax a.unit b.unit;
        left = b.left;
        spelled = (a.left, c.left, a.spelled, (c.token, c.is, c.first), b.spelled);
        same = b.same;
        bare = λ i. times_syntax (a.bare i) (b.bare i);
        ranked = refl;
        fits = λ f. (subst (λ n. n ≤ 2) (sym b.ranked) f.0, a.fits f.1, b.fits f.2);
      }
  unit_alike (over_syntax u v) tokens rest others s h =
      let a = unit_alike u tokens s.0 others s.2 h in
      let c = first_alike (sign symbol.Slash) s.0 s.1 a.left s.3 a.same in
      let b = unit_alike v s.1 rest c.left s.4 c.same in
      record {
        unit = over_syntax a.unit b.unit;
        left = b.left;
        spelled = (a.left, c.left, a.spelled, (c.token, c.is, c.first), b.spelled);
        same = b.same;
        bare = λ i. over_syntax (a.bare i) (b.bare i);
        ranked = refl;
        fits = λ f. (subst (λ n. n ≤ 2) (sym b.ranked) f.0, a.fits f.1, b.fits f.2);
      }
  unit_alike (inverse_syntax at u) tokens rest others s h =
      let c = first_at_alike (sign symbol.Slash) at tokens s.0 others s.1 h in
      let a = unit_alike u s.0 rest c.left s.2 c.same in
      record {
        unit = inverse_syntax c.token.start a.unit;
        left = a.left;
        spelled = (c.left, (c.token, c.is, refl, c.first), a.spelled);
        same = a.same;
        bare = ap (inverse_syntax 0) a.bare;
        ranked = refl;
        fits = λ f. (subst (λ n. n ≤ 2) (sym a.ranked) f.0, a.fits f.1);
      }
  unit_alike (bracket_syntax at u) tokens rest others s h =
      let c = first_at_alike (sign symbol.LeftParen) at tokens s.0 others s.2 h in
      let a = unit_alike u s.0 s.1 c.left s.3 c.same in
      let d = first_alike (sign symbol.RightParen) s.1 rest a.left s.4 a.same in
      record {
        unit = bracket_syntax c.token.start a.unit;
        left = d.left;
        spelled = (c.left, a.left, (c.token, c.is, refl, c.first), a.spelled, (d.token, d.is, d.first));
        same = d.same;
        bare = ap (bracket_syntax 0) a.bare;
        ranked = refl;
        fits = λ f. a.fits f;
      }

  all_alike : (us : UnitSyntaxes) (tokens rest others : List Token) → AllSpell us tokens rest → SameKinds tokens others → AllAlike us others rest
  all_alike no_units tokens rest others s h = record { units = no_units; left = others; spelled = refl; same = subst (λ w. SameKinds w others) s h; bare = refl; several = λ x. x; powers = λ p. p }
  all_alike (more_units u us) tokens rest others s h =
      let a = unit_alike u tokens s.0 others s.1 h in
      let b = all_alike us s.0 rest a.left s.2 a.same in
      record {
        units = more_units a.unit b.units;
        left = b.left;
        spelled = (a.left, a.spelled, b.spelled);
        same = b.same;
        bare = λ i. more_units (a.bare i) (b.bare i);
        several = several_more u a.unit us b.units b.bare;
        powers = λ p. (subst (λ n. n ≤ 1) (sym a.ranked) p.0, a.fits p.1, b.powers p.2);
      }
