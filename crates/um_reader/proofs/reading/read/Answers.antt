use Rattle.std.proofs.Common.{rules, ◌≡◌, ◌≤◌, arith, sym, subst, get_or}
use Rattle.um_reader.proofs.Loop.{goes, too_high, stops, at_end}
use Rattle.um_reader.proofs.reading.read.Goals as goal

pub loop-i-init : goal.loop-i-init
loop-i-init g c = ((omega arith, g.met.R.Reader.starts, g.met.R.Reader.starts_low), c.new-reader.ensures.start)

pub take_copy-requires : goal.take_copy-requires
take_copy-requires g c =
    let r = g.R.Reader in
    record { low = subst (λ s. r.machine.least s ≤ r.limit) (sym c.loop-i.invariant.1) c.loop-i.invariant.0.2 }

pub loop-i-preserved : goal.loop-i-preserved
loop-i-preserved g c =
    let r = g.R.Reader in
    let x = c.index-tokens-i.result in
    let same : get_or c.args.tokens.now c.loop-i.i x ≡ x = search (rules, c.index-tokens-i.is) in
    let given = rw c.in-Goes.is at c.in_ok-take_copy.ensures.taken in
    goes r.machine r.limit c.args.tokens.now c.loop-i.i x (r.state_in c.loop-i.reader) (r.state_in c.take_copy.new.reader) c.loop-i-test.true same c.loop-i.invariant given

pub returns-in-High : goal.returns-in-High
returns-in-High g c =
    let r = g.R.Reader in
    let x = c.index-tokens-i.result in
    let same : get_or c.args.tokens.now c.loop-i.i x ≡ x = search (rules, c.index-tokens-i.is) in
    let given = rw c.in-High.is at c.in_ok-take_copy.ensures.taken in
    too_high r.machine r.limit c.args.tokens.now c.loop-i.i x (r.state_in c.loop-i.reader) (r.state_in c.take_copy.new.reader) c.loop-i-test.true same c.loop-i.invariant given

pub returns-in-Stops : goal.returns-in-Stops
returns-in-Stops g c =
    let r = g.R.Reader in
    let x = c.index-tokens-i.result in
    let found = c.in_ok-finish-in-Stops in
    let same : get_or c.args.tokens.now c.loop-i.i x ≡ x = search (rules, c.index-tokens-i.is) in
    let given = rw c.in-Stops.is at c.in_ok-take_copy.ensures.taken in
    rw c.ended_at.ensures
    (stops r.machine r.limit c.args.tokens.now r.view c.loop-i.i x (r.state_in c.loop-i.reader) (r.state_in c.take_copy.new.reader) found.field-0 c.loop-i-test.true same c.loop-i.invariant given found.ensures.found)

pub returns : goal.returns
returns g c =
    let r = g.R.Reader in
    rw c.ended_at-2.ensures
    (at_end r.machine r.limit c.args.tokens.now r.view c.loop-i.i (r.state_in c.loop-i.reader) c.in_ok-finish.field-0 c.loop-i-test.false c.loop-i.invariant c.in_ok-finish.ensures.found)
