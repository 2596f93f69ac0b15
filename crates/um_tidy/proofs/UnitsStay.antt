-- The tokens of a unit text, in a text laid out anew, are those of the same unit text, places aside.
use Rattle.std.proofs.Common.{◌≡◌, refl, sym, ap, ◌∙◌, subst, ℕ, ◌≤◌, ℤ, Bool, true, false, cond, List, Option, Some, ⊎_elim, inl, inr}
use Rattle.um_frac.specs.declared.number.Frac.{Frac}
use Rattle.um_syntax.specs.declared.token.Token.{Token}
use Rattle.um_syntax.specs.declared.token.Kind.{Kind}
use Rattle.um_syntax.specs.declared.token.Kind.TheVariants as kind
use Rattle.um_vocabulary.specs.declared.vocabulary.Symbol.{Symbol}
use Rattle.um_vocabulary.specs.declared.vocabulary.Symbol.TheVariants as symbol
use Rattle.um_tree.specs.RawTree.{UnitSyntax, UnitSyntaxes, one_syntax, measure_syntax, variable_syntax, power_syntax, side_syntax, times_syntax, over_syntax, inverse_syntax, bracket_syntax, no_units, more_units}
use Rattle.um_unit_texts.specs.UnitTokens.{unit_token}
use Rattle.um_unit_texts.specs.UnitTokens.{sign as sign_token, measure as measure_token, variable as variable_token, number as number_token}
use Rattle.um_unit_texts.specs.UnitGrammar.{Spells, AllSpell, PowerSpells, Digits, Fits, ArePowers, Several, rank}
use Rattle.um_show.specs.Unplaced.{bare_unit, bare_units}
use Rattle.um_tidy.specs.declared.stand.Next.{Next}
use Rattle.um_tidy.specs.declared.stand.Next.TheVariants as next_of
use Rattle.um_tidy.specs.declared.stand.Within.{Within}
use Rattle.um_tidy.specs.declared.stand.Stand.{Stand}
use Rattle.um_tidy.specs.Stands.{apart, before, between, has_ended, in_unit, star_stand, slash_stand}
use Rattle.um_tidy.proofs.SpacedPieces.{named, bracketed}
use Rattle.um_tidy.proofs.Alike.{Alike, step}

-- ---- the kind of a token of a unit text

measure_is : (k : Kind) (x : List ℕ) → unit_token k ≡ measure_token x → k ≡ kind.Name x
measure_is (kind.Name y) x e = cc
measure_is _ x e = cc

variable_is : (k : Kind) (x : List ℕ) → unit_token k ≡ variable_token x → k ≡ kind.Var x
variable_is (kind.Var y) x e = cc
variable_is _ x e = cc

sign_is : (k : Kind) (s : Symbol) → unit_token k ≡ sign_token s → k ≡ kind.Sign s
sign_is (kind.Sign t) s e = cc
sign_is _ s e = cc

pub record IsNumber (k : Kind) : Type 0 where
  pub value : Frac
  pub digits : Bool
  pub one : Bool
  pub is : k ≡ kind.Number value digits one

number_is : (k : Kind) (b : Bool) (p : Option ℕ) → unit_token k ≡ number_token b p → IsNumber k
number_is (kind.Name y) b p e = absurd cc
number_is (kind.Var y) b p e = absurd cc
number_is (kind.Number value digits one) b p e = record { value = value; digits = digits; one = one; is = refl }
number_is (kind.Word k) b p e = absurd cc
number_is kind.Hole b p e = absurd cc
number_is (kind.Sign k) b p e = absurd cc

-- ---- what `*` and `/` leave the table

pub next_either : (b : Bool) (x y : Stand) (m : Next) → x.next ≡ m → y.next ≡ m → (cond b x y).next ≡ m
next_either true x y m e f = e
next_either false x y m e f = f

pub within_either : (b : Bool) (x y : Stand) (w : Within) → x.within ≡ w → y.within ≡ w → (cond b x y).within ≡ w
within_either true x y w e f = e
within_either false x y w e f = f

pub star_next : (w : Within) → (star_stand w).next ≡ next_of.Operand
star_next w = next_either (in_unit w) (between next_of.Operand w) (apart next_of.Operand w) next_of.Operand refl refl

pub star_within : (w : Within) → (star_stand w).within ≡ w
star_within w = within_either (in_unit w) (between next_of.Operand w) (apart next_of.Operand w) w refl refl

pub slash_next : (n : Next) (w : Within) → (slash_stand n w).next ≡ next_of.Operand
slash_next n w =
    next_either (in_unit w) (cond (has_ended n) (between next_of.Operand w) (before next_of.Operand w)) (apart next_of.Operand w) next_of.Operand
    (next_either (has_ended n) (between next_of.Operand w) (before next_of.Operand w) next_of.Operand refl refl) refl

pub slash_within : (n : Next) (w : Within) → (slash_stand n w).within ≡ w
slash_within n w =
    within_either (in_unit w) (cond (has_ended n) (between next_of.Operand w) (before next_of.Operand w)) (apart next_of.Operand w) w
    (within_either (has_ended n) (between next_of.Operand w) (before next_of.Operand w) w refl refl) refl

-- ---- powers

record DigitsStay (n : ℕ) (w : Within) (rest others : List Token) : Type 0 where
  pub left : List Token
  pub spelled : Digits n others left
  pub later : Alike rest next_of.Number w left

digits_stay : (n : ℕ) (tokens rest : List Token) → Digits n tokens rest → (m : Next) (w : Within) (others : List Token) → Alike tokens m w others → DigitsStay n w rest others
digits_stay n tokens rest s m w others a =
    let t = s.1.0 in
    let k = number_is t.kind s.0 (Some n) s.1.1 in
    let o = step t tokens rest (kind.Number k.value k.digits k.one) m next_of.Number w w others k.is refl refl s.1.2 a in
    record { left = o.left; spelled = (s.0, (o.token, ap unit_token o.same ∙ s.1.1, o.first)); later = o.later }

record PowerStays (k : ℤ) (w : Within) (rest others : List Token) : Type 0 where
  pub left : List Token
  pub spelled : PowerSpells k others left
  pub later : Alike rest next_of.Number w left

power_stays : (k : ℤ) (tokens rest : List Token) → PowerSpells k tokens rest → (w : Within) (others : List Token) → Alike tokens next_of.Operand w others → PowerStays k w rest others
power_stays k tokens rest s w others a =
    ⊎_elim
    (λ p. let d = digits_stay s.0 tokens rest p.1 next_of.Operand w others a in record { left = d.left; spelled = (s.0, inl (p.0, d.spelled)); later = d.later })
    (λ m.
    let o = step m.2.0 tokens m.0 (kind.Sign symbol.Minus) next_of.Operand next_of.Operand w w others (sign_is m.2.0.kind symbol.Minus m.2.1) refl refl m.2.2 a in
    let d = digits_stay s.0 m.0 rest m.3 next_of.Operand w o.left o.later in
    record { left = d.left; spelled = (s.0, inr (o.left, m.1, (o.token, ap unit_token o.same ∙ m.2.1, o.first), d.spelled)); later = d.later })
    s.1

-- ---- units

pub record UnitStays (u : UnitSyntax) (w : Within) (rest others : List Token) : Type 0 where
  pub again : UnitSyntax
  pub left : List Token
  pub next : Next
  pub ends : has_ended next ≡ true
  pub spelled : Spells again others left
  pub fits : Fits again
  pub same : bare_unit again ≡ bare_unit u
  pub ranked : rank again ≡ rank u
  pub later : Alike rest next w left

record UnitsStay (us : UnitSyntaxes) (w : Within) (rest others : List Token) : Type 0 where
  pub again : UnitSyntaxes
  pub left : List Token
  pub next : Next
  pub ends : has_ended next ≡ true
  pub spelled : AllSpell again others left
  pub fits : ArePowers again
  pub same : bare_units again ≡ bare_units us
  pub several : Several us → Several again
  pub later : Alike rest next w left

several_more : (u v : UnitSyntax) (us vs : UnitSyntaxes) → bare_units vs ≡ bare_units us → Several (more_units u us) → Several (more_units v vs)
several_more u v no_units vs e s = absurd s
several_more u v (more_units w us) no_units e s = absurd (none_more (bare_unit w) (bare_units us) e)
  where
    none_more : (w : UnitSyntax) (us : UnitSyntaxes) → ◌≡◌ {A = UnitSyntaxes} no_units (more_units w us) → ⊥
    none_more w us e = cc
several_more u v (more_units w us) (more_units x vs) e s = tt

mutual
  pub unit_stays : (u : UnitSyntax) (tokens rest : List Token) → Spells u tokens rest → Fits u → (n : Next) (w : Within) (others : List Token) → Alike tokens n w others → UnitStays u w rest others
  unit_stays (one_syntax at) tokens rest s f n w others a =
      let t = s.1.0 in
      let k = number_is t.kind true s.0 s.1.1 in
      let o = step t tokens rest (kind.Number k.value k.digits k.one) n next_of.Number w w others k.is refl refl s.1.3 a in
      record { again = one_syntax o.token.start; left = o.left; next = next_of.Number; ends = refl; spelled = (s.0, (o.token, ap unit_token o.same ∙ s.1.1, refl, o.first)); fits = tt; same = refl; ranked = refl; later = o.later }
  unit_stays (measure_syntax at x) tokens rest s f n w others a =
      let e = named n w in
      let o = step s.0 tokens rest (kind.Name x) n e.next w w others (measure_is s.0.kind x s.1) (ap (λ (z : Stand). z.next) e.is) (ap (λ (z : Stand). z.within) e.is) s.3 a in
      record { again = measure_syntax o.token.start x; left = o.left; next = e.next; ends = e.ended; spelled = (o.token, ap unit_token o.same ∙ s.1, refl, o.first); fits = tt; same = refl; ranked = refl; later = o.later }
  unit_stays (variable_syntax at x) tokens rest s f n w others a =
      let o = step s.0 tokens rest (kind.Var x) n next_of.Ended w w others (variable_is s.0.kind x s.1) refl refl s.3 a in
      record { again = variable_syntax o.token.start x; left = o.left; next = next_of.Ended; ends = refl; spelled = (o.token, ap unit_token o.same ∙ s.1, refl, o.first); fits = tt; same = refl; ranked = refl; later = o.later }
  unit_stays (power_syntax u k) tokens rest s f n w others a =
      let r = unit_stays u tokens s.0 s.2 f.1 n w others a in
      let o = step s.3.0 s.0 s.1 (kind.Sign symbol.Caret) r.next next_of.Operand w w r.left (sign_is s.3.0.kind symbol.Caret s.3.1) refl refl s.3.2 r.later in
      let q = power_stays k s.1 rest s.4 w o.left o.later in
      record {
        again = power_syntax r.again k;
        left = q.left;
        next = next_of.Number;
        ends = refl;
        spelled = (r.left, o.left, r.spelled, (o.token, ap unit_token o.same ∙ s.3.1, o.first), q.spelled);
        fits = (r.ranked ∙ f.0, r.fits);
        same = ap (λ v. power_syntax v k) r.same;
        ranked = refl;
        later = q.later;
      }
  unit_stays (side_syntax us) tokens rest s f n w others a =
      let r = side_stays us f.0 tokens rest s f.1 n w others a in
      record { again = side_syntax r.again; left = r.left; next = r.next; ends = r.ends; spelled = r.spelled; fits = (r.several f.0, r.fits); same = ap side_syntax r.same; ranked = refl; later = r.later }
  unit_stays (times_syntax u v) tokens rest s f n w others a =
      let r = unit_stays u tokens s.0 s.2 f.1 n w others a in
      let o = step s.3.0 s.0 s.1 (kind.Sign symbol.Star) r.next next_of.Operand w w r.left (sign_is s.3.0.kind symbol.Star s.3.1) (star_next w) (star_within w) s.3.2 r.later in
      let q = unit_stays v s.1 rest s.4 f.2 next_of.Operand w o.left o.later in
      record {
        again = times_syntax r.again q.again;
        left = q.left;
        next = q.next;
        ends = q.ends;
        spelled = (r.left, o.left, r.spelled, (o.token, ap unit_token o.same ∙ s.3.1, o.first), q.spelled);
        fits = (subst (λ m. m ≤ 2) (sym q.ranked) f.0, r.fits, q.fits);
        same = ap (λ x. times_syntax x (bare_unit q.again)) r.same ∙ ap (times_syntax (bare_unit u)) q.same;
        ranked = refl;
        later = q.later;
      }
  unit_stays (over_syntax u v) tokens rest s f n w others a =
      let r = unit_stays u tokens s.0 s.2 f.1 n w others a in
      let o = step s.3.0 s.0 s.1 (kind.Sign symbol.Slash) r.next next_of.Operand w w r.left (sign_is s.3.0.kind symbol.Slash s.3.1) (slash_next r.next w) (slash_within r.next w) s.3.2 r.later in
      let q = unit_stays v s.1 rest s.4 f.2 next_of.Operand w o.left o.later in
      record {
        again = over_syntax r.again q.again;
        left = q.left;
        next = q.next;
        ends = q.ends;
        spelled = (r.left, o.left, r.spelled, (o.token, ap unit_token o.same ∙ s.3.1, o.first), q.spelled);
        fits = (subst (λ m. m ≤ 2) (sym q.ranked) f.0, r.fits, q.fits);
        same = ap (λ x. over_syntax x (bare_unit q.again)) r.same ∙ ap (over_syntax (bare_unit u)) q.same;
        ranked = refl;
        later = q.later;
      }
  unit_stays (inverse_syntax at u) tokens rest s f n w others a =
      let o = step s.1.0 tokens s.0 (kind.Sign symbol.Slash) n next_of.Operand w w others (sign_is s.1.0.kind symbol.Slash s.1.1) (slash_next n w) (slash_within n w) s.1.3 a in
      let q = unit_stays u s.0 rest s.2 f.1 next_of.Operand w o.left o.later in
      record {
        again = inverse_syntax o.token.start q.again;
        left = q.left;
        next = q.next;
        ends = q.ends;
        spelled = (o.left, (o.token, ap unit_token o.same ∙ s.1.1, refl, o.first), q.spelled);
        fits = (subst (λ m. m ≤ 2) (sym q.ranked) f.0, q.fits);
        same = ap (inverse_syntax 0) q.same;
        ranked = refl;
        later = q.later;
      }
  unit_stays (bracket_syntax at u) tokens rest s f n w others a =
      let b = bracketed n w in
      let o = step s.2.0 tokens s.0 (kind.Sign symbol.LeftParen) n b.next w w others (sign_is s.2.0.kind symbol.LeftParen s.2.1) (ap (λ (z : Stand). z.next) b.is) (ap (λ (z : Stand). z.within) b.is) s.2.3 a in
      let q = unit_stays u s.0 s.1 s.3 f b.next w o.left o.later in
      let c = step s.4.0 s.1 rest (kind.Sign symbol.RightParen) q.next next_of.Ended w w q.left (sign_is s.4.0.kind symbol.RightParen s.4.1) refl refl s.4.2 q.later in
      record {
        again = bracket_syntax o.token.start q.again;
        left = c.left;
        next = next_of.Ended;
        ends = refl;
        spelled = (o.left, q.left, (o.token, ap unit_token o.same ∙ s.2.1, refl, o.first), q.spelled, (c.token, ap unit_token c.same ∙ s.4.1, c.first));
        fits = q.fits;
        same = ap (bracket_syntax 0) q.same;
        ranked = refl;
        later = c.later;
      }

  -- the powers of a juxtaposition, which are two or more
  side_stays : (us : UnitSyntaxes) → Several us → (tokens rest : List Token) → AllSpell us tokens rest → ArePowers us → (n : Next) (w : Within) (others : List Token) → Alike tokens n w others → UnitsStay us w rest others
  side_stays no_units m tokens rest s f n w others a = absurd m
  side_stays (more_units u us) m tokens rest s f n w others a =
      let r = unit_stays u tokens s.0 s.1 f.1 n w others a in
      let q = more_stay us s.0 rest s.2 f.2 r.next r.ends w r.left r.later in
      record {
        again = more_units r.again q.again;
        left = q.left;
        next = q.next;
        ends = q.ends;
        spelled = (r.left, r.spelled, q.spelled);
        fits = (subst (λ k. k ≤ 1) (sym r.ranked) f.0, r.fits, q.fits);
        same = ap (λ x. more_units x (bare_units q.again)) r.same ∙ ap (more_units (bare_unit u)) q.same;
        several = several_more u r.again us q.again q.same;
        later = q.later;
      }

  more_stay : (us : UnitSyntaxes) (tokens rest : List Token) → AllSpell us tokens rest → ArePowers us → (n : Next) → has_ended n ≡ true → (w : Within) (others : List Token) → Alike tokens n w others → UnitsStay us w rest others
  more_stay no_units tokens rest s f n e w others a =
      record { again = no_units; left = others; next = n; ends = e; spelled = refl; fits = tt; same = refl; several = λ m. m; later = subst (λ ts. Alike ts n w others) s a }
  more_stay (more_units u us) tokens rest s f n e w others a =
      let r = unit_stays u tokens s.0 s.1 f.1 n w others a in
      let q = more_stay us s.0 rest s.2 f.2 r.next r.ends w r.left r.later in
      record {
        again = more_units r.again q.again;
        left = q.left;
        next = q.next;
        ends = q.ends;
        spelled = (r.left, r.spelled, q.spelled);
        fits = (subst (λ k. k ≤ 1) (sym r.ranked) f.0, r.fits, q.fits);
        same = ap (λ x. more_units x (bare_units q.again)) r.same ∙ ap (more_units (bare_unit u)) q.same;
        several = several_more u r.again us q.again q.same;
        later = q.later;
      }
