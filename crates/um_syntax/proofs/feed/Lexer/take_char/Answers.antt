use Rattle.std.proofs.Common.{◌≢◌, ◌∷◌, ◌++◌, [], Some, arith, sym, ap, subst, ◌∙◌}
use Rattle.um_syntax.specs.Scanning.{scan_of}
use Rattle.um_syntax.specs.Feeding.{IsReadable, text_stop, HasScanned}
use Rattle.um_syntax.specs.declared.token.LexStop.TheVariants as lex
use Rattle.um_syntax.proofs.Places.{size_of-append}
use Rattle.um_syntax.proofs.Feeds.{scalars-snoc, scanned_stays, scanned_goes, scanned_stops, counts_stays, counts_stops, counts_goes, counts_feed, readable_stop}
use Rattle.um_syntax.proofs.feed.Lexer.take_char.Goals as goal

pub returns-then-is_some-clause-read : goal.returns-then-is_some-clause-read
returns-then-is_some-clause-read c = λ cs more h.
    let some = sym c.is_some.ensures ∙ c.if-is_some.true in
    let there = size_of-append cs (c.args.c ∷ []) in
    record {
      scalars = scalars-snoc cs c.args.c h.scalars c.ranges.c.0;
      place = omega (arith, h.place, there, c.len_utf8.ensures.value);
      scanned = scanned_stays c.args.self.now.fault (scan_of c.args.self.now.scanner) cs c.args.c more some c.requires.readable h.scanned;
      counted = counts_stays c.args.self.now.fault (scan_of c.args.self.now.scanner) c.args.self.now.counted cs c.args.c more some c.requires.readable h.scanned h.counted;
    }

pub returns-then-c-eq10-clause-read : goal.returns-then-c-eq10-clause-read
returns-then-c-eq10-clause-read c = λ cs more h.
    let none = sym c.is_some.ensures ∙ c.if-is_some.false in
    let there = size_of-append cs (c.args.c ∷ []) in
    record {
      scalars = scalars-snoc cs c.args.c h.scalars c.ranges.c.0;
      place = omega (arith, h.place, there, c.len_utf8.ensures.value);
      scanned = scanned_goes c.args.self.now.fault (scan_of c.args.self.now.scanner) (scan_of c.scan.new.self) cs c.args.c more none h.scanned c.in-Ok.ensures.goes;
      counted = counts_feed c.args.self.now.fault (scan_of c.args.self.now.scanner) (scan_of c.scan.new.self) c.count-self.result cs c.args.c more none h.scanned c.in-Ok.ensures.goes c.if-c-eq10.true c.count-self.ensures;
    }

pub returns-else-c-eq10-clause-read : goal.returns-else-c-eq10-clause-read
returns-else-c-eq10-clause-read c = λ cs more h.
    let none = sym c.is_some.ensures ∙ c.if-is_some.false in
    let there = size_of-append cs (c.args.c ∷ []) in
    record {
      scalars = scalars-snoc cs c.args.c h.scalars c.ranges.c.0;
      place = omega (arith, h.place, there, c.len_utf8.ensures.value);
      scanned = scanned_goes c.args.self.now.fault (scan_of c.args.self.now.scanner) (scan_of c.scan.new.self) cs c.args.c more none h.scanned c.in-Ok.ensures.goes;
      counted = counts_goes c.args.self.now.counted cs c.args.c c.if-c-eq10.false h.counted;
    }

pub returns-in_default-clause-read : goal.returns-in_default-clause-read
returns-in_default-clause-read c = λ cs more h.
    let none = sym c.is_some.ensures ∙ c.if-is_some.false in
    let there = size_of-append cs (c.args.c ∷ []) in
    let memory : c.in-Err.stop ≢ lex.NoMemory = λ e. c.in_default.not-NoMemory (c.text_stop.ensures ∙ ap text_stop e) in
    record {
      scalars = scalars-snoc cs c.args.c h.scalars c.ranges.c.0;
      place = omega (arith, h.place, there, c.len_utf8.ensures.value);
      scanned = subst (λ t. HasScanned (Some t) (scan_of c.scan.new.self) (cs ++ c.args.c ∷ []) more) (sym c.text_stop.ensures) (scanned_stops c.args.self.now.fault c.in-Err.stop (scan_of c.args.self.now.scanner) (scan_of c.scan.new.self) cs c.args.c more none h.scanned memory c.in-Err.ensures.goes);
      counted = counts_stops c.args.self.now.fault c.in-Err.stop (scan_of c.args.self.now.scanner) c.args.self.now.counted cs c.args.c more none h.scanned memory c.in-Err.ensures.goes h.counted;
    }

pub returns-in_default-clause-readable : goal.returns-in_default-clause-readable
returns-in_default-clause-readable c =
    let memory : c.in-Err.stop ≢ lex.NoMemory = λ e. c.in_default.not-NoMemory (c.text_stop.ensures ∙ ap text_stop e) in
    subst (λ t. IsReadable (Some t)) (sym c.text_stop.ensures) (readable_stop c.in-Err.stop memory)
