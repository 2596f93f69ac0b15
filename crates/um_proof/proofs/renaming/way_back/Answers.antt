use Rattle.std.proofs.Common.{◌≡◌, ◌<◌, length, get_or, set, sym, ap, ◌∙◌, subst, arith}
use Rattle.std.specs.Prelude.{All}
use Rattle.std.proofs.lemmas.List.{take_all, length-set, length-replicate, get_or_default}
use Rattle.std.proofs.lemmas.List.Elements.{All-nil, All-set, All-get_or, All-replicate}
use Rattle.um_units.specs.declared.Atom.TheVariants.{Var}
use Rattle.um_units.specs.PowerMap.{one, atom, nth}
use Rattle.um_tree.specs.Formed.{BasesBelow}
use Rattle.um_elim.specs.Numbering.{place}
use Rattle.um_proof.specs.Renaming.{GoBack}
use Rattle.um_proof.proofs.DeclaredUnits.{one_declared}
use Rattle.um_proof.proofs.WayBackSteps.{goes_back_more, place_of, place_below}
use Rattle.um_proof.proofs.renaming.way_back.Goals as goal

pub number_of-number-requires : goal.number_of-number-requires
number_of-number-requires c =
    let w = c.requires.places in
    (place w.0 (get_or c.args.held.now c.loop-i.i 0), place_of w.0 c.args.held.now c.args.places.now c.loop-i.i c.index-places-i.result w.2 c.loop-i-test.true c.index-places-i.is)

pub set_unit-requires : goal.set_unit-requires
set_unit-requires c =
    let w = c.requires.places in
    let held = c.args.held.now in
    let p = place w.0 (get_or held c.loop-i.i 0) in
    let is : c.number_of-number.result ≡ p = c.number_of-number.ensures p (place_of w.0 held c.args.places.now c.loop-i.i c.index-places-i.result w.2 c.loop-i-test.true c.index-places-i.is) in
    let low : p < c.args.vars = place_below w.0 held c.loop-i.i 0 c.args.vars w.1 w.2.listed c.loop-i-test.true in
    subst (λ n. c.number_of-number.result < n) (sym c.loop-i.invariant.count) (subst (λ n. n < c.args.vars) (sym is) low)

pub loop-i-preserved : goal.loop-i-preserved
loop-i-preserved c =
    let w = c.requires.places in
    let held = c.args.held.now in
    let i = c.loop-i.i in
    let out = c.loop-i.out.items in
    let v = get_or held i 0 in
    let low = c.loop-i-test.true in
    let inside : v < length c.args.back.now = c.requires.held i 0 low in
    let unit = c.index-back-held.is ∙ get_or_default c.args.back.now v c.index-back-held.result (atom (Var v)) inside in
    let made : c.set_unit.new.units.items ≡ set out c.number_of-number.result (nth c.args.back.now v) = c.in_ok-set_unit.ensures ∙ ap (set out c.number_of-number.result) unit in
    let p = place w.0 v in
    let is : c.number_of-number.result ≡ p = c.number_of-number.ensures p (place_of w.0 held c.args.places.now i c.index-places-i.result w.2 low c.index-places-i.is) in
    let below : c.number_of-number.result < length out = subst (λ n. c.number_of-number.result < n) (sym c.loop-i.invariant.count) (subst (λ n. n < c.args.vars) (sym is) (place_below w.0 held i 0 c.args.vars w.1 w.2.listed low)) in
    record {
      count = ap length made ∙ length-set out c.number_of-number.result (nth c.args.back.now v) ∙ c.loop-i.invariant.count;
      back = λ order h.
          goes_back_more order held c.args.back.now out c.set_unit.new.units.items i 0 c.number_of-number.result low h.listed
          (c.number_of-number.ensures (place order v) (place_of order held c.args.places.now i c.index-places-i.result h low c.index-places-i.is)) below made (c.loop-i.invariant.back order h);
      declared = λ n all.
          subst (All (BasesBelow n)) (sym made)
          (All-set (BasesBelow n) out c.number_of-number.result (nth c.args.back.now v) (All-get_or (BasesBelow n) c.args.back.now v (atom (Var v)) inside all) (c.loop-i.invariant.declared n all));
    }

pub loop-i-init : goal.loop-i-init
loop-i-init c =
    let ones = c.in_ok-out.ensures in
    record {
      count = ap length ones ∙ length-replicate c.args.vars one;
      back = λ order h. All-nil (λ k. nth c.in_ok-out.out.items (place order k) ≡ nth c.args.back.now k);
      declared = λ n all. subst (All (BasesBelow n)) (sym ones) (All-replicate (BasesBelow n) c.args.vars one (one_declared n));
    }

pub returns-clause-back : goal.returns-clause-back
returns-clause-back c = λ order h.
    let past = c.loop-i-test.false in
    subst (λ ks. GoBack order ks c.args.back.now c.loop-i.out.items) (take_all c.loop-i.i c.args.held.now (omega (arith, past))) (c.loop-i.invariant.back order h)
