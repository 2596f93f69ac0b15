-- What measures stand for, entry by entry.
use Rattle.std.proofs.Common.{◌≡◌, ℕ, ◌<◌, ◌+◌, Bool, true, false, List, [], ◌∷◌, ◌++◌, take, get_or, length, cond, refl, ap, sym, ◌∙◌, arith}
use Rattle.std.specs.Prelude.{Option, Some, None}
use Rattle.std.specs.Str.{bytes_eq}
use Rattle.std.proofs.Common.{length-take-le}
use Rattle.std.proofs.lemmas.List.{take_more}
use Rattle.um_units.specs.declared.Atom.TheVariants.{Base}
use Rattle.um_units.specs.PowerMap.{PowerMap, atom}
use Rattle.um_measures.specs.declared.abbreviation.Abbreviation.{Abbreviation}
use Rattle.um_measures.specs.Known.{number_of, short_unit, base_or, measure_unit}
use Rattle.um_tree.specs.ProgramTree.{ProgramTree}
use Rattle.um_tree.specs.RawTree.{UnitSyntax}
use Rattle.um_measures.specs.UnitNames.{resolved_unit}
use Rattle.um_measures.specs.ClosedUnits.{base_unit, first_of_both, given}
use Rattle.um_measures.proofs.NameLists.{or_else, if_named, short_unit-append, number_of-append}

base_else : (o : Option ℕ) (b : Bool) (i : ℕ) → or_else (base_unit o) (cond b (Some (atom (Base i))) None) ≡ base_unit (or_else o (cond b (Some i) None))
base_else None true i = refl
base_else None false i = refl
base_else (Some k) b i = refl

both_else : (o p q : Option PowerMap) → or_else (first_of_both o p) q ≡ first_of_both o (or_else p q)
both_else None p q = refl
both_else (Some u) p q = refl

pub take_next : {A : Type 0} (xs : List A) (i : ℕ) (x : A) → i < length xs → x ≡ get_or xs i x → take (i + 1) xs ≡ take i xs ++ x ∷ []
take_next xs i x h e = take_more xs i x h ∙ ap (λ y. take i xs ++ y ∷ []) (sym e)

-- one more base unit
pub bases_more : (names : List (List ℕ)) (i : ℕ) (name : List ℕ) (m more : List Abbreviation) → ((y : List ℕ) → short_unit m y ≡ base_unit (number_of (take i names) y)) → i < length names → name ≡ get_or names i name
    → ((y : List ℕ) → short_unit more y ≡ short_unit (m ++ record { name = name; unit = atom (Base i) } ∷ []) y) → (y : List ℕ) → short_unit more y ≡ base_unit (number_of (take (i + 1) names) y)
bases_more names i name m more inv below is added y =
    let e : Abbreviation = record { name = name; unit = atom (Base i) } in
    let long : length (take i names) ≡ i = length-take-le i names (omega arith) in
    added y ∙ short_unit-append y m e ∙ ap (λ o. or_else o (if_named y name (atom (Base i)))) (inv y)
    ∙ base_else (number_of (take i names) y) (bytes_eq y name) i
    ∙ ap (λ (k : ℕ). base_unit (or_else (number_of (take i names) y) (if_named y name k))) (sym long)
    ∙ ap base_unit (sym (ap (λ (ns : List (List ℕ)). number_of ns y) (take_next names i name below is) ∙ number_of-append y (take i names) name))

-- one more abbreviation
pub shorts_more : (ss : List Abbreviation) (i : ℕ) (s : Abbreviation) (b : List ℕ → Option PowerMap) (m more : List Abbreviation) → ((y : List ℕ) → short_unit m y ≡ first_of_both (b y) (short_unit (take i ss) y)) → i < length ss → s ≡ get_or ss i s
    → ((y : List ℕ) → short_unit more y ≡ short_unit (m ++ s ∷ []) y) → (y : List ℕ) → short_unit more y ≡ first_of_both (b y) (short_unit (take (i + 1) ss) y)
shorts_more ss i s b m more inv below is added y =
    added y ∙ short_unit-append y m s ∙ ap (λ o. or_else o (if_named y s.name s.unit)) (inv y)
    ∙ both_else (b y) (short_unit (take i ss) y) (if_named y s.name s.unit)
    ∙ ap (first_of_both (b y)) (sym (ap (λ (es : List Abbreviation). short_unit es y) (take_next ss i s below is) ∙ short_unit-append y (take i ss) s))

pub measures_are : (bases : List (List ℕ)) (shorts : List Abbreviation) (y : List ℕ) → first_of_both (base_unit (number_of bases y)) (short_unit shorts y) ≡ base_or (number_of bases y) (short_unit shorts y)
measures_are bases shorts y = by (number_of bases y) where
  by : (o : Option ℕ) → first_of_both (base_unit o) (short_unit shorts y) ≡ base_or o (short_unit shorts y)
  by None = refl
  by (Some k) = refl

pub both_none : (o : Option PowerMap) → o ≡ first_of_both o None
both_none None = refl
both_none (Some u) = refl

-- the unit of a text depends on what its measures stand for alone
pub closed_is : (m : List ℕ → Option PowerMap) (vars : List (List ℕ)) (p : ProgramTree) (shorts : List Abbreviation) (u : UnitSyntax) → ((y : List ℕ) → m y ≡ measure_unit (given p shorts) y) → vars ≡ []
    → resolved_unit m vars u ≡ resolved_unit (measure_unit (given p shorts)) [] u
closed_is m vars p shorts u same none =
    let alike : m ≡ measure_unit (given p shorts) = λ i y. same y i in
    ap (λ (f : List ℕ → Option PowerMap). resolved_unit f vars u) alike ∙ ap (λ (vs : List (List ℕ)). resolved_unit (measure_unit (given p shorts)) vs u) none
