use Rattle.um_sig.proofs.reading.named.Goals as goal

pub unreachable-requires : goal.unreachable-requires
unreachable-requires c = c.in-Err-Twice.ensures.never_twice c.in-Err-Twice.field-0-0 c.in-Err-Twice.field-0-is
