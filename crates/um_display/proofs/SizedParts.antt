-- Tokens are cut into those of a size in one way.
use Rattle.std.proofs.Common.{◌≡◌, ℕ, suc, ◌+◌, ◌-◌, ◌≤◌, true, List, [], ◌∷◌, ◌++◌, length, take, drop, get_or, Option, Some, None, inl, inr, refl, sym, ap, subst, ◌∙◌, arith}
use Rattle.std.specs.Prelude.{MatchOption}
use Rattle.std.proofs.lemmas.List.{take_all, take_more}
use Rattle.um_frac.specs.declared.number.Frac.{Frac}
use Rattle.um_syntax.specs.declared.token.Token.{Token}
use Rattle.um_tree.specs.RawTree.{UnitSyntax, unit_syntax}
use Rattle.um_display.specs.declared.part.Part.{Part}
use Rattle.um_display.specs.UnitWords.{PartSyntax, IsLowUnit, IsWritten, IsNamed, IsSized, IsPartOf, are_marks, name_in, positive_in}
use Rattle.um_display.specs.PartView.{part_syntax}

-- the same list with one element at its end
same_last : {A : Type 0} (xs ys : List A) (x y : A) → xs ++ x ∷ [] ≡ ys ++ y ∷ [] → (xs ≡ ys) × (x ≡ y)
same_last [] [] x y e = (refl, cc e)
same_last [] (b ∷ []) x y e = absurd (cc e)
same_last [] (b ∷ c ∷ ys) x y e = absurd (cc e)
same_last (a ∷ []) [] x y e = absurd (cc e)
same_last (a ∷ b ∷ xs) [] x y e = absurd (cc e)
same_last {A} (a ∷ xs) (b ∷ ys) x y e =
    let head : a ≡ b = cc e in
    let rest : xs ++ x ∷ [] ≡ ys ++ y ∷ [] = cc e in
    let same = same_last xs ys x y rest in
    ((λ i. head i ∷ same.0 i), same.1)

-- a size is one of these tokens
pub sized_as : (tokens : List Token) (name equal number less : Token) (inside : List Token) (greater : Token) (part : PartSyntax)
    → tokens ≡ name ∷ equal ∷ number ∷ less ∷ inside ++ greater ∷ [] → IsSized tokens part
    → (are_marks equal less greater ≡ true) × IsNamed name number inside part
sized_as tokens name equal number less inside greater part whole s =
    let both : s.name ∷ s.equal ∷ s.number ∷ s.less ∷ s.inside ++ s.greater ∷ [] ≡ name ∷ equal ∷ number ∷ less ∷ inside ++ greater ∷ [] = sym s.whole ∙ whole in
    let names : s.name ≡ name = cc both in
    let equals : s.equal ≡ equal = cc both in
    let numbers : s.number ≡ number = cc both in
    let lesses : s.less ≡ less = cc both in
    let rest : s.inside ++ s.greater ∷ [] ≡ inside ++ greater ∷ [] = cc both in
    let last = same_last s.inside inside s.greater greater rest in (
      sym (λ i. are_marks (equals i) (lesses i) (last.1 i)) ∙ s.marked,
      subst (λ (ts : List Token). IsNamed name number ts part) last.0
          (subst (λ (t : Token). IsNamed name t s.inside part) numbers
          (subst (λ (t : Token). IsNamed t s.number s.inside part) names s.named)),
    )

-- ---- tokens by their numbers

last_of : (rest : List Token) (g d : Token) → 1 ≤ length rest → g ≡ get_or rest (length rest - 1) d → rest ≡ take (length rest - 1) rest ++ g ∷ []
last_of rest g d some is =
    let whole : length rest - 1 + 1 ≡ length rest = omega (arith, some) in
    sym (take_all (length rest - 1 + 1) rest (omega (arith, whole)))
    ∙ take_more rest (length rest - 1) d (omega (arith, some))
    ∙ ap (λ (t : Token). take (length rest - 1) rest ++ t ∷ []) (sym is)

pub cut_at_items : (tokens : List Token) (n e k l g a b c d f : Token) → 5 ≤ length tokens
    → n ≡ get_or tokens 0 a → e ≡ get_or tokens 1 b → k ≡ get_or tokens 2 c → l ≡ get_or tokens 3 d → g ≡ get_or tokens (length tokens - 1) f
    → tokens ≡ n ∷ e ∷ k ∷ l ∷ take (length tokens - 1 - 4) (drop 4 tokens) ++ g ∷ []
cut_at_items [] n e k l g a b c d f many hn he hk hl hg = absurd (omega (arith, many))
cut_at_items (x ∷ []) n e k l g a b c d f many hn he hk hl hg = absurd (omega (arith, many))
cut_at_items (x ∷ y ∷ []) n e k l g a b c d f many hn he hk hl hg = absurd (omega (arith, many))
cut_at_items (x ∷ y ∷ z ∷ []) n e k l g a b c d f many hn he hk hl hg = absurd (omega (arith, many))
cut_at_items (x ∷ y ∷ z ∷ w ∷ rest) n e k l g a b c d f many hn he hk hl hg =
    let all = x ∷ y ∷ z ∷ w ∷ rest in
    let some : 1 ≤ length rest = omega (arith, many) in
    let five : length all - 1 - 4 ≡ length rest - 1 = omega arith in
    let last : length all - 1 ≡ suc (suc (suc (suc (length rest - 1)))) = omega (arith, some) in
    let end : g ≡ get_or rest (length rest - 1) f = hg ∙ ap (λ (j : ℕ). get_or all j f) last in
    let cut : rest ≡ take (length all - 1 - 4) rest ++ g ∷ [] = last_of rest g f some end ∙ ap (λ (j : ℕ). take j rest ++ g ∷ []) (sym five) in
    λ i. sym hn i ∷ sym he i ∷ sym hk i ∷ sym hl i ∷ cut i

-- ---- what is read of them

pub named_by : (name number : Token) (inside : List Token) (label : List ℕ) (value : Frac) (o : Option Part)
    → name_in name.kind ≡ Some label → positive_in number.kind ≡ Some value
    → MatchOption o ((u : UnitSyntax) → IsLowUnit inside u → ⊥) (λ p. IsLowUnit inside (unit_syntax p.unit) × (p.label ≡ label) × (p.size ≡ Some value))
    → MatchOption o ((p : PartSyntax) → IsNamed name number inside p → ⊥) (λ p. IsNamed name number inside (part_syntax p))
named_by name number inside label value None n v h = λ p k. h p.unit k.unit
named_by name number inside label value (Some p) n v h = record { value = value; named = n ∙ ap Some (sym h.1); numbered = v; size = h.2; unit = h.0 }

pub sized_by : (tokens : List Token) (n e k l : Token) (inside : List Token) (g : Token) (o : Option Part)
    → tokens ≡ n ∷ e ∷ k ∷ l ∷ inside ++ g ∷ [] → are_marks e l g ≡ true
    → MatchOption o ((p : PartSyntax) → IsNamed n k inside p → ⊥) (λ p. IsNamed n k inside (part_syntax p))
    → MatchOption o ((p : PartSyntax) → IsSized tokens p → ⊥) (λ p. IsSized tokens (part_syntax p))
sized_by tokens n e k l inside g None whole marked h = λ p s. h p (sized_as tokens n e k l inside g p whole s).1
sized_by tokens n e k l inside g (Some p) whole marked h =
    record { name = n; equal = e; number = k; less = l; inside = inside; greater = g; whole = whole; marked = marked; named = h }

-- the form of a part
pub form_by : (bytes : List ℕ) (tokens : List Token) (o : Option Part) → ((p : PartSyntax) → IsWritten bytes tokens p → ⊥)
    → MatchOption o ((p : PartSyntax) → IsSized tokens p → ⊥) (λ p. IsSized tokens (part_syntax p))
    → MatchOption o ((p : PartSyntax) → IsPartOf bytes tokens p → ⊥) (λ p. IsPartOf bytes tokens (part_syntax p))
form_by bytes tokens None none h = λ p. by p where
  by : (p : PartSyntax) → IsPartOf bytes tokens p → ⊥
  by p (inl written) = none p written
  by p (inr sized) = h p sized
form_by bytes tokens (Some q) none h = inr h
