use Rattle.std.proofs.Common.{◌≡◌, false, [], length, drop, sym, ap, ◌∙◌, arith}
use Rattle.std.proofs.lemmas.Iterator.{YieldsList-from_chars}
use Rattle.std.proofs.lemmas.Iterator.Consumers.{YieldsList-turn, YieldsList-end}
use Rattle.std.proofs.lemmas.List.{length_push, drop_all}
use Rattle.std.specs.Str.{chars}
use Rattle.um_verifier.specs.Names.{reads}
use Rattle.um_verifier.proofs.NameTests.{drop_next, reads_on, reads_no_more}
use Rattle.um_verifier.proofs.names.is_identifier.Goals as goal

pub loop-c-preserved : goal.loop-c-preserved
loop-c-preserved c =
    let t = YieldsList-turn (YieldsList-from_chars c.args.text.now c.utf8.text cc) c.loop-c.yielded _ c.loop-c.yielded_by _ _ c.in-Some.c c.in-Some.is c.next.ensures.steps in
    let d = drop_next (chars c.args.text.now) (length c.loop-c.yielded) c.in-Some.c t in
    rw (length_push c.loop-c.yielded c.in-Some.c)
    (reads_on c.loop-c.some (chars c.args.text.now) (length c.loop-c.yielded) c.in-Some.c (reads false (chars c.args.text.now)) d (sym c.goes_on.ensures ∙ c.if-not-goes_on.false) c.loop-c.invariant)

pub returns-then-not-goes_on : goal.returns-then-not-goes_on
returns-then-not-goes_on c =
    let t = YieldsList-turn (YieldsList-from_chars c.args.text.now c.utf8.text cc) c.loop-c.yielded _ c.loop-c.yielded_by _ _ c.in-Some.c c.in-Some.is c.next.ensures.steps in
    let d = drop_next (chars c.args.text.now) (length c.loop-c.yielded) c.in-Some.c t in
    reads_no_more c.loop-c.some (chars c.args.text.now) (length c.loop-c.yielded) c.in-Some.c (reads false (chars c.args.text.now)) d (sym c.goes_on.ensures ∙ c.if-not-goes_on.true) c.loop-c.invariant

pub returns : goal.returns
returns c =
    let t = YieldsList-end (YieldsList-from_chars c.args.text.now c.utf8.text cc) c.loop-c.yielded _ c.loop-c.yielded_by _ _ c.in-None.is c.next.ensures.steps in
    let none : drop (length c.loop-c.yielded) (chars c.args.text.now) ≡ [] = drop_all (length c.loop-c.yielded) (chars c.args.text.now) (omega (arith, t.1)) in
    sym (ap (reads c.loop-c.some) none) ∙ c.loop-c.invariant
