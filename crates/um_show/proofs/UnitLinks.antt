-- The layout of a unit text whose tokens are those of some text is a chain of pieces.
use Rattle.std.proofs.Common.{◌≡◌, ℕ, zero, suc, ◌≤◌, ℤ, pos, Bool, true, false, not, List, [], ◌∷◌, ◌++◌, refl, sym, ap, subst, arith, ⊎_elim}
use Rattle.std.specs.Prelude.{neg_ℤ}
use Rattle.std.proofs.lemmas.Bool.{false≢true}
use Rattle.um_syntax.specs.declared.token.Token.{Token}
use Rattle.um_tree.specs.RawTree.{UnitSyntax, UnitSyntaxes, one_syntax, measure_syntax, variable_syntax, power_syntax, side_syntax, times_syntax, over_syntax, inverse_syntax, bracket_syntax, no_units, more_units}
use Rattle.um_unit_texts.specs.UnitMachine.{power_in}
use Rattle.um_unit_texts.specs.UnitGrammar.{Digits, PowerSpells, Spells, AllSpell, Fits, ArePowers, rank}
use Rattle.um_show.specs.Pieces.{Piece, caret, times, over, bracket_close}
use Rattle.um_show.specs.Layout.{power_pieces, unit_pieces, more_side_pieces}
use Rattle.um_show.proofs.Chain.{Place, fresh, full, raised, Chain, joined}
use Rattle.um_show.proofs.GoodTokens.{AllGood, first_good, measure_good, unit_variable_good, power_good}

-- the pieces are a chain, and the tokens behind them have good names and numbers
pub record Linked (s : Place) (ps : List Piece) (t : Place) (rest : List Token) : Type 0 where
  pub chain : Chain s ps t
  pub good : AllGood rest

pub linked_all : (tokens rest : List Token) → tokens ≡ rest → AllGood tokens → Linked full [] full rest
linked_all tokens rest e h = record { chain = refl; good = subst (λ w. AllGood w) e h }

-- pieces up to the end of a part, and then others
pub link : (a ps : List Piece) (g d : Bool) → Chain (fresh g d) a full → Chain full ps full → Chain (fresh g d) (a ++ ps) full
link a ps g d x y = joined a ps (fresh g d) full full x y

-- what isn't said of a slash
pub never : {P : Type 0} → false ≡ true → P
never e = absurd (false≢true e)

-- digits up to the greatest power
digits_low : (n : ℕ) (tokens rest : List Token) → Digits n tokens rest → AllGood tokens → (n ≤ 2147483647) × AllGood rest
digits_low n tokens rest s h = (power_good s.1.0.kind n (ap power_in s.1.1), (first_good tokens rest s.1.0 s.1.2 h).1)

negative_links : (n : ℕ) (rest : List Token) → n ≤ 2147483647 → AllGood rest → Linked raised (power_pieces (neg_ℤ (pos n))) full rest
negative_links zero rest low h = record { chain = (low, refl, refl); good = h }
negative_links (suc n) rest low h = record { chain = (tt, refl, (low, refl, refl)); good = h }

power_links : (k : ℤ) (tokens rest : List Token) → PowerSpells k tokens rest → AllGood tokens → Linked raised (power_pieces k) full rest
power_links k tokens rest s h =
    ⊎_elim
    (λ p. let d = digits_low s.0 tokens rest p.1 h in subst (λ z. Linked raised (power_pieces z) full rest) (sym p.0) (record { chain = (d.0, refl, refl); good = d.1 }))
    (λ m. let d = digits_low s.0 m.0 rest m.3 (first_good tokens m.0 m.2.0 m.2.2 h).1 in subst (λ z. Linked raised (power_pieces z) full rest) (sym m.1) (negative_links s.0 rest d.0 d.1))
    s.1

no_slash : (d : Bool) → (d ≡ true → ⊥) → not d ≡ true
no_slash true none = absurd (none refl)
no_slash false none = refl

too_high : 4 ≤ 2 → ⊥
too_high h = omega (arith, h)

high : 3 ≤ 2 → ⊥
high h = omega (arith, h)

low_rank : (n : ℕ) → n ≤ 1 → n ≤ 2
low_rank n h = omega (arith, h)

no_rank : (n : ℕ) → n ≡ 0 → n ≤ 2
no_rank n h = omega (arith, h)

-- behind `/` stands none that begins with another `/`
mutual
  pub unit_links : (u : UnitSyntax) (tokens rest : List Token) → Spells u tokens rest → Fits u → AllGood tokens → (g d : Bool) → (d ≡ true → rank u ≤ 2) → Linked (fresh g d) (unit_pieces u) full rest
  unit_links (one_syntax at) tokens rest s f h g d low = record { chain = (omega arith, refl, refl); good = (first_good tokens rest s.1.0 s.1.3 h).1 }
  unit_links (measure_syntax at x) tokens rest s f h g d low =
      let b = first_good tokens rest s.0 s.3 h in record { chain = (measure_good s.0.kind x s.1 b.0, refl, refl); good = b.1 }
  unit_links (variable_syntax at x) tokens rest s f h g d low =
      let b = first_good tokens rest s.0 s.3 h in record { chain = (unit_variable_good s.0.kind x s.1 b.0, refl, refl); good = b.1 }
  unit_links (power_syntax u k) tokens rest s f h g d low =
      let r = unit_links u tokens s.0 s.2 f.1 h g d (λ e. no_rank (rank u) f.0) in
      let q = power_links k s.1 rest s.4 (first_good s.0 s.1 s.3.0 s.3.2 r.good).1 in
      record { chain = link (unit_pieces u) (caret ∷ power_pieces k) g d r.chain (tt, refl, q.chain); good = q.good }
  unit_links (side_syntax no_units) tokens rest s f h g d low = absurd f.0
  unit_links (side_syntax (more_units u us)) tokens rest s f h g d low =
      let r = unit_links u tokens s.0 s.1 f.1.1 h g d (λ e. low_rank (rank u) f.1.0) in
      let q = more_links us s.0 rest s.2 f.1.2 r.good in
      record { chain = link (unit_pieces u) (more_side_pieces us) g d r.chain q.chain; good = q.good }
  unit_links (times_syntax u v) tokens rest s f h g d low =
      let r = unit_links u tokens s.0 s.2 f.1 h g d (λ e. absurd (too_high (low e))) in
      let q = unit_links v s.1 rest s.4 f.2 (first_good s.0 s.1 s.3.0 s.3.2 r.good).1 true false never in
      record { chain = link (unit_pieces u) (times ∷ unit_pieces v) g d r.chain (tt, refl, q.chain); good = q.good }
  unit_links (over_syntax u v) tokens rest s f h g d low =
      let r = unit_links u tokens s.0 s.2 f.1 h g d (λ e. absurd (too_high (low e))) in
      let q = unit_links v s.1 rest s.4 f.2 (first_good s.0 s.1 s.3.0 s.3.2 r.good).1 true true (λ e. f.0) in
      record { chain = link (unit_pieces u) (over ∷ unit_pieces v) g d r.chain (tt, refl, q.chain); good = q.good }
  unit_links (inverse_syntax at u) tokens rest s f h g d low =
      let q = unit_links u s.0 rest s.2 f.1 (first_good tokens s.0 s.1.0 s.1.3 h).1 true true (λ e. f.0) in
      record { chain = (tt, no_slash d (λ e. high (low e)), q.chain); good = q.good }
  unit_links (bracket_syntax at u) tokens rest s f h g d low =
      let r = unit_links u s.0 s.1 s.3 f (first_good tokens s.0 s.2.0 s.2.3 h).1 true false never in
      record { chain = (tt, refl, link (unit_pieces u) (bracket_close ∷ []) true false r.chain (tt, refl, refl)); good = (first_good s.1 rest s.4.0 s.4.2 r.good).1 }

  more_links : (us : UnitSyntaxes) (tokens rest : List Token) → AllSpell us tokens rest → ArePowers us → AllGood tokens → Linked full (more_side_pieces us) full rest
  more_links no_units tokens rest s f h = linked_all tokens rest s h
  more_links (more_units u us) tokens rest s f h =
      let r = unit_links u tokens s.0 s.1 f.1 h false false never in
      let q = more_links us s.0 rest s.2 f.2 r.good in
      record { chain = (tt, refl, link (unit_pieces u) (more_side_pieces us) false false r.chain q.chain); good = q.good }
