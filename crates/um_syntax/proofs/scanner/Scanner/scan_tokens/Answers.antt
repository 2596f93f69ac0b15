use Rattle.std.proofs.Common.{◌≡◌, ◌+◌, ap, subst, ◌∙◌, arith}
use Rattle.std.proofs.lemmas.Str.{IsCharBoundary-start}
use Rattle.std.specs.String.{string_bytes}
use Rattle.um_syntax.specs.Scanning.{scan_of, Scans}
use Rattle.um_syntax.proofs.AtOnce.{scans_none, scans_more}
use Rattle.um_syntax.proofs.scanner.Scanner.scan_tokens.Goals as goal

pub loop-len-init : goal.loop-len-init
loop-len-init c = record {
  boundary = IsCharBoundary-start c.args.text.now c.utf8.text;
  scans = scans_none (scan_of c.args.self.now) c.args.text.now c.utf8.text;
  free = c.requires.free;
  none = c.requires.none;
  place = omega arith;
}

pub loop-len-preserved : goal.loop-len-preserved
loop-len-preserved c =
    let text = c.args.text.now in
    let mid = c.loop-len.self in
    let new = c.scan_token.new.self in
    let invariant = c.loop-len.invariant in
    let more = c.in_ok-more.more in
    let scans = subst (λ l. Scans (scan_of mid) l more (scan_of new)) c.range_from.ensures.value c.in_ok-more.ensures.scans in
    let both = scans_more (scan_of c.args.self.now) (scan_of mid) (scan_of new) text c.loop-len.len more c.utf8.text invariant.scans scans in
    record {
      boundary = both.front;
      scans = both;
      free = c.in_ok-more.ensures.free;
      none = ap string_bytes c.in_ok-more.ensures.letters ∙ invariant.none;
      place = (let there = c.in_ok-more.ensures.place in let place = invariant.place in omega (arith, there, place));
    }

pub returns-then-more-eq0-clause-scans : goal.returns-then-more-eq0-clause-scans
returns-then-more-eq0-clause-scans c =
    let text = c.args.text.now in
    let mid = c.loop-len.self in
    let new = c.scan_token.new.self in
    let len = c.loop-len.len in
    let more = c.in_ok-more.more in
    let scans = subst (λ l. Scans (scan_of mid) l more (scan_of new)) c.range_from.ensures.value c.in_ok-more.ensures.scans in
    let here : len + more ≡ len = omega (arith, c.if-more-eq0.true) in
    subst (λ n. Scans (scan_of c.args.self.now) text n (scan_of new)) here
    (scans_more (scan_of c.args.self.now) (scan_of mid) (scan_of new) text len more c.utf8.text c.loop-len.invariant.scans scans)
