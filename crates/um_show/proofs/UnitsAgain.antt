-- The tokens of the layout of a unit text are those of the same unit text, places aside.
use Rattle.std.proofs.Common.{◌≡◌, suc, ◌≤◌, ℤ, pos, negsuc, Bool, List, [], ◌∷◌, ◌++◌, Some, refl, sym, ap, ◌∙◌, subst, inl, inr}
use Rattle.um_syntax.specs.declared.token.Token.{Token}
use Rattle.um_tree.specs.RawTree.{UnitSyntax, UnitSyntaxes, one_syntax, measure_syntax, variable_syntax, power_syntax, side_syntax, times_syntax, over_syntax, inverse_syntax, bracket_syntax, no_units, more_units}
use Rattle.um_unit_texts.specs.UnitTokens.{unit_token, number}
use Rattle.um_unit_texts.specs.UnitGrammar.{Spells, AllSpell, PowerSpells, Fits, ArePowers, Several, rank}
use Rattle.um_show.specs.Pieces.{digits, name, variable, caret, times, over, bracket_close}
use Rattle.um_show.specs.Layout.{power_pieces, unit_pieces, side_pieces, more_side_pieces}
use Rattle.um_show.specs.Unplaced.{bare_unit, bare_units}
use Rattle.um_show.proofs.PieceTokens.{PiecesSpell, both, only, power_token}

pub record UnitAgain (u : UnitSyntax) (tokens rest : List Token) : Type 0 where
  pub again : UnitSyntax
  pub spelled : Spells again tokens rest
  pub fits : Fits again
  pub same : bare_unit again ≡ bare_unit u
  pub ranked : rank again ≡ rank u

pub record UnitsAgain (us : UnitSyntaxes) (tokens rest : List Token) : Type 0 where
  pub again : UnitSyntaxes
  pub spelled : AllSpell again tokens rest
  pub fits : ArePowers again
  pub same : bare_units again ≡ bare_units us
  pub several : Several us → Several again

power_again : (k : ℤ) (g : Bool) (tokens : List Token) (h : Bool) (rest : List Token) → PiecesSpell (power_pieces k) g tokens h rest → PowerSpells k tokens rest
power_again (pos n) g tokens h rest s =
    let o = only (digits n) g tokens h rest s in
    (n, inl (refl, (o.kind.one, (o.token, power_token n o.token.kind o.kind, o.first))))
power_again (negsuc n) g tokens h rest s =
    let m = s.here in let o = only (digits (suc n)) s.flag s.next h rest s.later in
    (suc n, inr (s.next, refl, (m.token, ap unit_token m.kind, m.first), (o.kind.one, (o.token, power_token (suc n) o.token.kind o.kind, o.first))))

several_more : (u v : UnitSyntax) (us vs : UnitSyntaxes) → bare_units vs ≡ bare_units us → Several (more_units u us) → Several (more_units v vs)
several_more u v no_units vs e s = absurd s
several_more u v (more_units w us) no_units e s = absurd (none_more (bare_unit w) (bare_units us) e)
  where
    none_more : (w : UnitSyntax) (us : UnitSyntaxes) → ◌≡◌ {A = UnitSyntaxes} no_units (more_units w us) → ⊥
    none_more w us e = cc
several_more u v (more_units w us) (more_units x vs) e s = tt

mutual
  pub unit_again : (u : UnitSyntax) → Fits u → (g : Bool) (tokens : List Token) (h : Bool) (rest : List Token) → PiecesSpell (unit_pieces u) g tokens h rest → UnitAgain u tokens rest
  unit_again (one_syntax at) f g tokens h rest s =
      let o = only (digits 1) g tokens h rest s in
      record { again = one_syntax o.token.start; spelled = (Some 1, (o.token, power_token 1 o.token.kind o.kind ∙ ap (λ b. number b (Some 1)) (o.kind.is_one refl), refl, o.first)); fits = tt; same = refl; ranked = refl }
  unit_again (measure_syntax at x) f g tokens h rest s =
      let o = only (name x) g tokens h rest s in
      record { again = measure_syntax o.token.start x; spelled = (o.token, ap unit_token o.kind, refl, o.first); fits = tt; same = refl; ranked = refl }
  unit_again (variable_syntax at x) f g tokens h rest s =
      let o = only (variable x) g tokens h rest s in
      record { again = variable_syntax o.token.start x; spelled = (o.token, ap unit_token o.kind, refl, o.first); fits = tt; same = refl; ranked = refl }
  unit_again (power_syntax u k) f g tokens h rest s =
      let b = both (unit_pieces u) (caret ∷ power_pieces k) g tokens h rest s in let r = unit_again u f.1 g tokens b.flag b.next b.here in
      let o = b.later.here in
      record { again = power_syntax r.again k; spelled = (b.next, b.later.next, r.spelled, (o.token, ap unit_token o.kind, o.first), power_again k b.later.flag b.later.next h rest b.later.later); fits = (r.ranked ∙ f.0, r.fits); same = ap (λ v. power_syntax v k) r.same; ranked = refl }
  unit_again (side_syntax us) f g tokens h rest s =
      let r = side_again us f.1 g tokens h rest s in
      record { again = side_syntax r.again; spelled = r.spelled; fits = (r.several f.0, r.fits); same = ap side_syntax r.same; ranked = refl }
  unit_again (times_syntax u v) f g tokens h rest s =
      let b = both (unit_pieces u) (times ∷ unit_pieces v) g tokens h rest s in let r = unit_again u f.1 g tokens b.flag b.next b.here in
      let o = b.later.here in let q = unit_again v f.2 b.later.flag b.later.next h rest b.later.later in
      record { again = times_syntax r.again q.again; spelled = (b.next, b.later.next, r.spelled, (o.token, ap unit_token o.kind, o.first), q.spelled); fits = (subst (λ n. n ≤ 2) (sym q.ranked) f.0, r.fits, q.fits); same = ap (λ a. times_syntax a (bare_unit q.again)) r.same ∙ ap (times_syntax (bare_unit u)) q.same; ranked = refl }
  unit_again (over_syntax u v) f g tokens h rest s =
      let b = both (unit_pieces u) (over ∷ unit_pieces v) g tokens h rest s in let r = unit_again u f.1 g tokens b.flag b.next b.here in
      let o = b.later.here in let q = unit_again v f.2 b.later.flag b.later.next h rest b.later.later in
      record { again = over_syntax r.again q.again; spelled = (b.next, b.later.next, r.spelled, (o.token, ap unit_token o.kind, o.first), q.spelled); fits = (subst (λ n. n ≤ 2) (sym q.ranked) f.0, r.fits, q.fits); same = ap (λ a. over_syntax a (bare_unit q.again)) r.same ∙ ap (over_syntax (bare_unit u)) q.same; ranked = refl }
  unit_again (inverse_syntax at u) f g tokens h rest s =
      let o = s.here in let r = unit_again u f.1 s.flag s.next h rest s.later in
      record { again = inverse_syntax o.token.start r.again; spelled = (s.next, (o.token, ap unit_token o.kind, refl, o.first), r.spelled); fits = (subst (λ n. n ≤ 2) (sym r.ranked) f.0, r.fits); same = ap (inverse_syntax 0) r.same; ranked = refl }
  unit_again (bracket_syntax at u) f g tokens h rest s =
      let o = s.here in let b = both (unit_pieces u) (bracket_close ∷ []) s.flag s.next h rest s.later in let r = unit_again u f s.flag s.next b.flag b.next b.here in
      let c = only bracket_close b.flag b.next h rest b.later in
      record { again = bracket_syntax o.token.start r.again; spelled = (s.next, b.next, (o.token, ap unit_token o.kind, refl, o.first), r.spelled, (c.token, ap unit_token c.kind, c.first)); fits = r.fits; same = ap (bracket_syntax 0) r.same; ranked = refl }

  side_again : (us : UnitSyntaxes) → ArePowers us → (g : Bool) (tokens : List Token) (h : Bool) (rest : List Token) → PiecesSpell (side_pieces us) g tokens h rest → UnitsAgain us tokens rest
  side_again no_units f g tokens h rest s = record { again = no_units; spelled = s.same; fits = tt; same = refl; several = λ n. n }
  side_again (more_units u us) f g tokens h rest s =
      let b = both (unit_pieces u) (more_side_pieces us) g tokens h rest s in let r = unit_again u f.1 g tokens b.flag b.next b.here in
      let q = more_again us f.2 b.flag b.next h rest b.later in
      record { again = more_units r.again q.again; spelled = (b.next, r.spelled, q.spelled); fits = (subst (λ n. n ≤ 1) (sym r.ranked) f.0, r.fits, q.fits); same = ap (λ a. more_units a (bare_units q.again)) r.same ∙ ap (more_units (bare_unit u)) q.same; several = several_more u r.again us q.again q.same }

  more_again : (us : UnitSyntaxes) → ArePowers us → (g : Bool) (tokens : List Token) (h : Bool) (rest : List Token) → PiecesSpell (more_side_pieces us) g tokens h rest → UnitsAgain us tokens rest
  more_again no_units f g tokens h rest s = record { again = no_units; spelled = s.same; fits = tt; same = refl; several = λ n. n }
  more_again (more_units u us) f g tokens h rest s =
      let begun = subst (λ ts. PiecesSpell (unit_pieces u ++ more_side_pieces us) s.flag ts h rest) (sym s.here.none) s.later in
      let b = both (unit_pieces u) (more_side_pieces us) s.flag tokens h rest begun in let r = unit_again u f.1 s.flag tokens b.flag b.next b.here in
      let q = more_again us f.2 b.flag b.next h rest b.later in
      record { again = more_units r.again q.again; spelled = (b.next, r.spelled, q.spelled); fits = (subst (λ n. n ≤ 1) (sym r.ranked) f.0, r.fits, q.fits); same = ap (λ a. more_units a (bare_units q.again)) r.same ∙ ap (more_units (bare_unit u)) q.same; several = several_more u r.again us q.again q.same }
