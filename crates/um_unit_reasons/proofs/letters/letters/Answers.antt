use Rattle.std.proofs.Common.{◌+◌, length, sym, subst, arith}
use Rattle.um_unit_reasons.proofs.LoopSteps.{LettersLeft, none_lettered, more_letters, all_letters}
use Rattle.um_unit_reasons.proofs.letters.letters.Goals as goal

pub loop-k-init : goal.loop-k-init
loop-k-init c = subst (LettersLeft c.args.names.now (c.args.count + length c.args.names.now) 0) (sym c.new-texts.ensures.items) (none_lettered c.args.names.now (c.args.count + length c.args.names.now))

pub loop-k-preserved : goal.loop-k-preserved
loop-k-preserved c =
    more_letters c.args.names.now (c.args.count + length c.args.names.now) c.loop-k.k c.loop-k.texts.items c.push_free.new.texts.items (omega (arith, c.loop-k-test.true)) c.loop-k.invariant c.in_ok-push_free.ensures

pub returns : goal.returns
returns c = all_letters c.args.names.now (c.args.count + length c.args.names.now) c.loop-k.k c.loop-k.texts.items (omega (arith, c.loop-k-test.false)) c.loop-k.invariant
