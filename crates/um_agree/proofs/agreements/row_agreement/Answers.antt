use Rattle.std.proofs.Common.{◌≡◌, ◌+◌, ◌<◌, ◌≤◌, length, drop, get_or, sym, subst, arith}
use Rattle.um_rows.specs.NodeTypes.{typed_nodes}
use Rattle.um_agree.specs.declared.rule.Rule.TheVariants.{Sum}
use Rattle.um_agree.specs.Made.{node_type, known_type, units_in, made_of}
use Rattle.um_equal_types.specs.Steps.{units_of}
use Rattle.um_agree.proofs.RowLaws.{IsPast, default_at, within, one_past, here, stands_here, none_left}
use Rattle.um_agree.proofs.RowAnswers.{is_told}
use Rattle.um_agree.proofs.agreements.row_agreement.Goals as goal

pub told_of-requires : goal.told_of-requires
told_of-requires c =
    let nodes = typed_nodes c.args.nodes.now in
    let rows = c.args.rows.now in
    let xs = c.args.asked.now in
    let g = c.requires.agreed in
    let m = c.loop-m.m in
    let x = get_or xs m (record { rule = Sum; at = 0; node = 0 }) in
    let below : m < length xs = omega (arith, c.loop-m-test.true) in
    let is = default_at xs m (record { rule = Sum; at = 0; node = 0 }) x below in
    record { within = within g.0 nodes rows xs g.1 m c.loop-m.start x below is (let p = c.loop-m.invariant.past g.0 g.1 in p.start_is) }

pub returns-then-units-k : goal.returns-then-units-k
returns-then-units-k c = λ agreed g.
    let nodes = typed_nodes c.args.nodes.now in
    let rows = c.args.rows.now in
    let xs = c.args.asked.now in
    let m = c.loop-m.m in
    let x = get_or xs m (record { rule = Sum; at = 0; node = 0 }) in
    let k = c.args.k in
    let start = c.loop-m.start in
    let below : m < length xs = omega (arith, c.loop-m-test.true) in
    let is = default_at xs m (record { rule = Sum; at = 0; node = 0 }) x below in
    let past = c.loop-m.invariant.past agreed g in
    let type = known_type x.rule (node_type nodes x.node) in
    let same : c.units_known-units.result ≡ units_in type = c.units_known-units.ensures in
    let inside : k < start + units_in type = omega (arith, same, c.if-units-k.true, c.loop-m.invariant.low) in
    is_told agreed k m (made_of x.rule x.at type (units_of (drop start rows))) c.told_of.result c.told_of.ensures.number c.told_of.ensures.exact c.told_of.ensures.fits
    (here agreed nodes rows xs g k m start x below is past inside)
    (stands_here agreed nodes rows xs g k m start x below is past inside)

pub loop-m-preserved : goal.loop-m-preserved
loop-m-preserved c =
    let nodes = typed_nodes c.args.nodes.now in
    let rows = c.args.rows.now in
    let xs = c.args.asked.now in
    let m = c.loop-m.m in
    let x = get_or xs m (record { rule = Sum; at = 0; node = 0 }) in
    let k = c.args.k in
    let start = c.loop-m.start in
    let below : m < length xs = omega (arith, c.loop-m-test.true) in
    let is = default_at xs m (record { rule = Sum; at = 0; node = 0 }) x below in
    let type = known_type x.rule (node_type nodes x.node) in
    let same : c.units_known-units.result ≡ units_in type = c.units_known-units.ensures in
    let outside : start + units_in type ≤ k = omega (arith, same, c.if-units-k.false, c.loop-m.invariant.low) in
    record {
      low = omega (arith, c.if-units-k.false, c.loop-m.invariant.low);
      past = λ agreed g.
          subst (λ n. IsPast agreed nodes rows xs g k (m + 1) (start + n)) (sym same)
          (one_past agreed nodes rows xs g k m start x below is (c.loop-m.invariant.past agreed g) outside);
    }

pub unreachable-requires : goal.unreachable-requires
unreachable-requires c =
    let g = c.requires.agreed in
    none_left g.0 (typed_nodes c.args.nodes.now) c.args.rows.now c.args.asked.now g.1 c.args.k c.loop-m.m c.loop-m.start (omega (arith, c.loop-m-test.false)) c.requires.some (c.loop-m.invariant.past g.0 g.1)
