use Rattle.std.proofs.Common.{rules, ◌≡◌, ◌≤◌, All, IsTrue, List, length, subst, arith}
use Rattle.std.proofs.lemmas.List.{take_all}
use Rattle.std.proofs.lemmas.List.Elements.{All-more}
use Rattle.um_units.specs.declared.Term.{Term}
use Rattle.um_units.specs.PowerMap.{PowerMap, atom, image, nth}
use Rattle.um_units.proofs.staying.all_stay.Goals as goal

abbrev Stays : List PowerMap → Term → Type 0
Stays by term = image (nth by) term.atom ≡ atom term.atom

pub loop-term-preserved : goal.loop-term-preserved
loop-term-preserved c =
    let yes : IsTrue c.stays.result = search rules in
    All-more (Stays c.args.by.now) c.args.terms.now c.loop-term.term-index _ c.loop-term-test.true c.loop-term.invariant (c.stays.ensures yes)

pub returns : goal.returns
returns c = λ h.
    let past = c.loop-term-test.false in
    let all : length c.args.terms.now ≤ c.loop-term.term-index = omega (arith, past) in
    subst (All (Stays c.args.by.now)) (take_all c.loop-term.term-index c.args.terms.now all) c.loop-term.invariant
