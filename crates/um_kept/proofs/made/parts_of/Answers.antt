use Rattle.std.proofs.Common.{◌≡◌, ◌<◌, ◌≤◌, ◌∙◌, ℕ, List, [], ◌∷◌, ◌++◌, map, take, length, pos, nat_abs, to_z, of_z, w64, FitsSigned, true, sym, ap, subst, rules, arith}
use Rattle.std.specs.Prelude.{All, IsTrue, slice_index_or}
use Rattle.std.specs.Int.{w128}
use Rattle.std.proofs.lemmas.Bool.{ltb-true}
use Rattle.std.proofs.lemmas.Int.{to_z-of_z}
use Rattle.std.proofs.lemmas.List.{map-append, take_all, take_more}
use Rattle.std.proofs.lemmas.List.Elements.{All-nil, All-cons, All-head, All-tail}
use Rattle.um_units.specs.declared.Atom.{Atom}
use Rattle.um_units.specs.declared.Atom.TheVariants.{Base, Var}
use Rattle.um_units.specs.declared.Term.{Term}
use Rattle.um_units.specs.PowerMap.{power_of, product}
use Rattle.um_units.specs.Terms.{is_normal}
use Rattle.um_units.specs.Variables.{atom_below}
use Rattle.um_units.proofs.Equality.{product-of_terms}
use Rattle.um_units.specs.declared.wide.WideTerm.{WideTerm}
use Rattle.um_units.specs.Wide.{as_term}
use Rattle.um_check.specs.declared.certificate.Part.{Part}
use Rattle.um_check.specs.Combination.{NamesRowsBelow}
use Rattle.um_check.specs.Tidy.{AreTidyParts}
use Rattle.um_kept.specs.Formed.{IsPowerIn}
use Rattle.um_kept.proofs.Limits.{power_held, held_at, narrow64}
use Rattle.um_kept.proofs.Parts.{row_below}
use Rattle.um_kept.proofs.TidyParts.{of_part, tidy_parts}
use Rattle.um_kept.proofs.made.parts_of.Goals as goal

abbrev none : WideTerm
none = record { atom = Base 0; power = pos 0 }

-- parts of variables below n name rows below n
named_below : (n : ℕ) (ps : List Part) → All (λ (t : Term). atom_below n t.atom ≡ true) (map of_part ps) → NamesRowsBelow n ps
named_below n [] h = All-nil (λ (p : Part). p.row < n)
named_below n (p ∷ ps) h =
    All-cons (λ (p : Part). p.row < n) p ps (ltb-true p.row n (All-head (λ (t : Term). atom_below n t.atom ≡ true) (of_part p) (map of_part ps) h))
    (named_below n ps (All-tail (λ (t : Term). atom_below n t.atom ≡ true) (of_part p) (map of_part ps) h))

pub overflow_cast-term : goal.overflow_cast-term
overflow_cast-term c =
    let ws = c.terms-term-items.result.now in
    let w = slice_index_or ws c.loop-term.term-index none in
    let inside : c.loop-term.term-index < length ws = search rules in
    let at : IsPowerIn w.power c.args.powers.now = power_held ws c.args.powers.now c.loop-term.term-index none c.terms-term-items.ensures.terms inside in
    let low : nat_abs w.power ≤ 9223372036854775807 = subst (λ z. nat_abs z ≤ 9223372036854775807) at.1 (c.requires.narrow at.0) in
    let same : to_z w128 (of_z w128 w.power) ≡ w.power = to_z-of_z w128 w.power (search rules) in
    subst (FitsSigned w64) (sym same) (narrow64 w.power low)

pub unreachable-requires : goal.unreachable-requires
unreachable-requires c =
    let ws = c.terms-term-items.result.now in
    let i = c.loop-term.term-index in
    let inside : i < length ws = search rules in
    held_at ws c.args.powers.now i none c.terms-term-items.ensures.terms inside (ap (power_of c.args.powers.now) c.in-Base.is ∙ c.requires.rows c.in-Base.field-0)

pub loop-term-preserved : goal.loop-term-preserved
loop-term-preserved c =
    let ws = c.terms-term-items.result.now in
    let i = c.loop-term.term-index in
    let w = slice_index_or ws i none in
    let inside : i < length ws = search rules in
    let at : IsPowerIn w.power c.args.powers.now = power_held ws c.args.powers.now i none c.terms-term-items.ensures.terms inside in
    let low : nat_abs w.power ≤ 9223372036854775807 = subst (λ z. nat_abs z ≤ 9223372036854775807) at.1 (c.requires.narrow at.0) in
    let same : to_z w128 (of_z w128 w.power) ≡ w.power = to_z-of_z w128 w.power (search rules) in
    let kept : to_z w64 (of_z w64 (to_z w128 (of_z w128 w.power))) ≡ w.power = ap (λ z. to_z w64 (of_z w64 z)) same ∙ to_z-of_z w64 w.power (narrow64 w.power low) in
    ap (map of_part) c.in_ok-push-in-Var.ensures.items
    ∙ map-append of_part c.loop-term.items.items _
    ∙ ap (λ (ts : List Term). ts ++ record { atom = Var c.in-Var.row; power = to_z w64 (of_z w64 (to_z w128 (of_z w128 w.power))) } ∷ []) c.loop-term.invariant
    ∙ ap (λ (x : Atom). map as_term (take i ws) ++ record { atom = x; power = to_z w64 (of_z w64 (to_z w128 (of_z w128 w.power))) } ∷ []) (sym c.in-Var.is)
    ∙ ap (λ z. map as_term (take i ws) ++ record { atom = w.atom; power = z } ∷ []) kept
    ∙ sym (ap (map as_term) (take_more ws i none inside) ∙ map-append as_term (take i ws) (w ∷ []))

pub returns-clause-exact : goal.returns-clause-exact
returns-clause-exact c =
    let ws = c.terms-term-items.result.now in
    let past = c.loop-term-test.false in
    let all : take c.loop-term.term-index ws ≡ ws = take_all c.loop-term.term-index ws (omega (arith, past)) in
    ap (λ (ps : List Part). product (map of_part ps)) c.from_vec.ensures.items
    ∙ ap product (c.loop-term.invariant ∙ ap (map as_term) all ∙ c.terms-term-items.ensures.terms) ∙ product-of_terms c.args.powers.now

pub returns-clause-tidy : goal.returns-clause-tidy
returns-clause-tidy c = λ n few below.
    let ws = c.terms-term-items.result.now in
    let past = c.loop-term-test.false in
    let all : take c.loop-term.term-index ws ≡ ws = take_all c.loop-term.term-index ws (omega (arith, past)) in
    let terms : map of_part c.loop-term.items.items ≡ c.args.powers.now.terms = c.loop-term.invariant ∙ ap (map as_term) all ∙ c.terms-term-items.ensures.terms in
    subst AreTidyParts (sym c.from_vec.ensures.items)
    (tidy_parts n c.loop-term.items.items few (subst (λ ts. IsTrue (is_normal ts)) (sym terms) c.args.powers.now.normal)
    (named_below n c.loop-term.items.items (subst (All (λ (t : Term). atom_below n t.atom ≡ true)) (sym terms) (row_below n c.args.powers.now below))))

pub returns-clause-named : goal.returns-clause-named
returns-clause-named c = λ n below.
    let ws = c.terms-term-items.result.now in
    let past = c.loop-term-test.false in
    let all : take c.loop-term.term-index ws ≡ ws = take_all c.loop-term.term-index ws (omega (arith, past)) in
    let terms : map of_part c.loop-term.items.items ≡ c.args.powers.now.terms = c.loop-term.invariant ∙ ap (map as_term) all ∙ c.terms-term-items.ensures.terms in
    subst (NamesRowsBelow n) (sym c.from_vec.ensures.items)
    (named_below n c.loop-term.items.items (subst (All (λ (t : Term). atom_below n t.atom ≡ true)) (sym terms) (row_below n c.args.powers.now below)))
