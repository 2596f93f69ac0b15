-- A word states its parts in one way.
use Rattle.std.proofs.Common.{◌≡◌, ℕ, Bool, true, false, ◌&&◌, List, [], ◌∷◌, Some, None, inl, inr, refl, sym, ap, subst, ◌∙◌}
use Rattle.std.proofs.lemmas.Bool.{false≢true}
use Rattle.um_syntax.specs.declared.token.Token.{Token}
use Rattle.um_syntax.specs.declared.token.Kind.{Kind}
use Rattle.um_syntax.specs.declared.token.Kind.TheVariants as kind
use Rattle.um_vocabulary.specs.declared.vocabulary.Symbol.TheVariants as symbol
use Rattle.um_syntax.proofs.Whole.{unique_tokens}
use Rattle.std.specs.Str.{chars}
use Rattle.um_tree.specs.RawTree.{UnitSyntax}
use Rattle.um_unit_texts.specs.UnitTokens.{sign, unit_token}
use Rattle.um_unit_texts.specs.UnitGrammar.{IsUnit}
use Rattle.um_unit_texts.specs.UnitMachine.{State, Need, Refused, act, unit_step, run, finish}
use Rattle.um_unit_texts.proofs.ForeignTokens.{foreign_refused}
use Rattle.um_unit_texts.proofs.UnitLaws.{finds}
use Rattle.um_display.specs.UnitWords.{PartSyntax, IsWritten, IsNamed, IsSized, IsPartOf, IsPart, ArePartsOf, IsUnitWord, is_equal, texts_in}
use Rattle.um_display.proofs.WholeUnits.{one_unit}
use Rattle.um_display.proofs.SizedParts.{sized_as}

-- ---- no unit text has `=`

equal_refused : (k : Kind) → is_equal k ≡ true → (st : State) (at : ℕ) → act st (unit_token k) at ≡ Refused
equal_refused (kind.Sign symbol.Equal) e st at = foreign_refused st (sign symbol.Equal) at refl
equal_refused _ e st at = absurd (false≢true e)

refused_on : (tokens : List Token) → run Refused tokens ≡ Refused
refused_on [] = refl
refused_on (token ∷ tokens) = refused_on tokens

no_equal : (name equal : Token) (rest : List Token) (u : UnitSyntax) → is_equal equal.kind ≡ true → IsUnit (name ∷ equal ∷ rest) u → ⊥
no_equal name equal rest u e is =
    let first = unit_step (Need []) name in
    let ends : run (Need []) (name ∷ equal ∷ rest) ≡ Refused = ap (λ s. run s rest) (equal_refused equal.kind e first equal.start) ∙ refused_on rest in
    let wrong : Some u ≡ None = sym (finds (name ∷ equal ∷ rest) u is) ∙ ap finish ends in
    cc wrong

and_first : (a b : Bool) → (a && b) ≡ true → a ≡ true
and_first true b e = refl
and_first false b e = absurd (false≢true e)

written_or_sized : (bytes : List ℕ) (tokens : List Token) (p q : PartSyntax) → IsWritten bytes tokens p → IsSized tokens q → ⊥
written_or_sized bytes tokens p q h s =
    no_equal s.name s.equal _ p.unit (and_first (is_equal s.equal.kind) _ s.marked) (subst (λ (ts : List Token). IsUnit ts p.unit) s.whole h.unit.is)

-- ---- one part

same_part : (p q : PartSyntax) → p.label ≡ q.label → p.size ≡ q.size → p.unit ≡ q.unit → p ≡ q
same_part p q a b c = λ i. record { label = a i; size = b i; unit = c i }

one_written : (bytes : List ℕ) (tokens : List Token) (p q : PartSyntax) → IsWritten bytes tokens p → IsWritten bytes tokens q → p ≡ q
one_written bytes tokens p q h k = same_part p q (h.label ∙ sym k.label) (h.size ∙ sym k.size) (one_unit tokens p.unit q.unit h.unit k.unit)

one_named : (name number : Token) (inside : List Token) (p q : PartSyntax) → IsNamed name number inside p → IsNamed name number inside q → p ≡ q
one_named name number inside p q h k =
    let labels : Some p.label ≡ Some q.label = sym h.named ∙ k.named in
    let label : p.label ≡ q.label = cc labels in
    let values : Some h.value ≡ Some k.value = sym h.numbered ∙ k.numbered in
    same_part p q label (h.size ∙ values ∙ sym k.size) (one_unit inside p.unit q.unit h.unit k.unit)

one_form : (bytes : List ℕ) (tokens : List Token) (p q : PartSyntax) → IsPartOf bytes tokens p → IsPartOf bytes tokens q → p ≡ q
one_form bytes tokens p q (inl h) (inl k) = one_written bytes tokens p q h k
one_form bytes tokens p q (inl h) (inr k) = absurd (written_or_sized bytes tokens p q h k)
one_form bytes tokens p q (inr h) (inl k) = absurd (written_or_sized bytes tokens q p k h)
one_form bytes tokens p q (inr h) (inr k) =
    let other = sized_as tokens h.name h.equal h.number h.less h.inside h.greater q h.whole k in
    one_named h.name h.number h.inside p q h.named other.1

one_part : (bytes : List ℕ) (p q : PartSyntax) → IsPart bytes p → IsPart bytes q → p ≡ q
one_part bytes p q h k =
    let same = unique_tokens (chars bytes) h.tokens k.tokens h.lexed k.lexed in
    one_form bytes k.tokens p q (subst (λ (ts : List Token). IsPartOf bytes ts p) same h.form) k.form

-- ---- one word

one_list : (texts : List (List ℕ)) (ps qs : List PartSyntax) → ArePartsOf texts ps → ArePartsOf texts qs → ps ≡ qs
one_list [] [] [] h k = refl
one_list [] [] (q ∷ qs) h k = absurd k
one_list [] (p ∷ ps) qs h k = absurd h
one_list (text ∷ texts) [] qs h k = absurd h
one_list (text ∷ texts) (p ∷ ps) [] h k = absurd k
one_list (text ∷ texts) (p ∷ ps) (q ∷ qs) h k =
    let first = one_part text p q h.0 k.0 in
    let others = one_list texts ps qs h.1 k.1 in
    λ i. first i ∷ others i

pub one_word : (word : List ℕ) (ps qs : List PartSyntax) → IsUnitWord word ps → IsUnitWord word qs → ps ≡ qs
one_word word ps qs (inl (is, none)) (inl (also, nothing)) = none ∙ sym nothing
one_word word ps qs (inl (is, none)) (inr (other, parts)) = absurd (other is)
one_word word ps qs (inr (other, parts)) (inl (is, none)) = absurd (other is)
one_word word ps qs (inr (other, parts)) (inr (also, more)) = one_list (texts_in word) ps qs parts more
