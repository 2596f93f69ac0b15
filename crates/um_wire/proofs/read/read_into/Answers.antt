use Rattle.std.proofs.Common.{◌<◌, ◌≤◌, ◌+◌, length, take, rules, refl, arith, length-take}
use Rattle.um_wire.proofs.Pieces.{ReadsPast-of_reads, TellsMoreThan-of_read, TellsPrefix-of_read}
use Rattle.um_wire.proofs.read.read_into.Goals as goal

pub returns-in_err-count-clause-prefix : goal.returns-in_err-count-clause-prefix
returns-in_err-count-clause-prefix g c _ = TellsPrefix-of_read _ _ _ c.loop-count.invariant.read

pub returns-then-room-count-clause-prefix : goal.returns-then-room-count-clause-prefix
returns-then-room-count-clause-prefix g c _ = TellsPrefix-of_read _ _ _ c.loop-count.invariant.read

-- the piece doesn't fit
pub returns-then-room-count-clause-past_limit : goal.returns-then-room-count-clause-past_limit
returns-then-room-count-clause-past_limit g c =
    let piece = take c.in_ok-count.count c.read.new.into in
    let taken = g.T.Taker.taken c.loop-count.taker in
    let more : c.args.limit < length taken + length piece = search (rules, length-take) in
    let before = c.loop-count.invariant.read in
    let now = c.in_ok-count.ensures.bytes.0 in
    ReadsPast-of_reads c.args.limit _ _ _ _ taken piece before now (λ _. more, λ _. refl)

pub returns-then-room-count-clause-too_long : goal.returns-then-room-count-clause-too_long
returns-then-room-count-clause-too_long g c too_long =
    let reads = returns-then-room-count-clause-past_limit g c in
    TellsMoreThan-of_read c.args.limit _ _ reads.bytes reads.read (reads.past.0 too_long)

-- the piece fits, and there is no memory for it
pub returns-in_err-take-clause-past_limit : goal.returns-in_err-take-clause-past_limit
returns-in_err-take-clause-past_limit g c =
    let piece = take c.in_ok-count.count c.read.new.into in
    let taken = g.T.Taker.taken c.loop-count.taker in
    let fits : length taken + length piece ≤ c.args.limit = search (rules, length-take) in
    let before = c.loop-count.invariant.read in
    let now = c.in_ok-count.ensures.bytes.0 in
    ReadsPast-of_reads c.args.limit _ _ _ _ taken piece before now
    (λ too_long. absurd (search rules), λ more. absurd (omega (arith, fits, more)))
