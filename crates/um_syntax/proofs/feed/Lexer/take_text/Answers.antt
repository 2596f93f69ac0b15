use Rattle.std.proofs.Common.{◌+◌, ◌++◌, [], take, drop, refl, sym, ap, subst, ◌∙◌, arith, append_assoc}
use Rattle.std.proofs.lemmas.List.{take_all, drop_all, drop-drop}
use Rattle.std.proofs.lemmas.Str.{IsCharBoundary-start, IsCharBoundary-from_rest, chars-nil}
use Rattle.std.specs.Str.{chars, IsCharBoundary}
use Rattle.um_syntax.specs.Feeding.{HasRead}
use Rattle.um_syntax.proofs.Feeds.{behind_is, behind_from, text_stands, scanned_now, none_read}
use Rattle.um_syntax.specs.Scanning.{scan_of}
use Rattle.um_syntax.proofs.Kept.{chars_on}
use Rattle.um_syntax.proofs.feed.Lexer.take_text.Goals as goal

pub loop-at-init : goal.loop-at-init
loop-at-init c = record {
  boundary = IsCharBoundary-start c.args.text.now c.utf8.text;
  readable = c.requires.readable;
  whole = c.requires.whole;
  fed = refl;
  place = omega arith;
  read = λ cs h.
      let old = c.args.self.now in
      let text = c.args.text.now in
      none_read _ cs (chars text)
      (record {
        scalars = h.scalars;
        place = h.place;
        scanned = scanned_now old.fault (scan_of old.scanner) cs (chars text) h.scanned;
        counted = h.counted;
      });
}

pub loop-at-preserved : goal.loop-at-preserved
loop-at-preserved c =
    let text = c.args.text.now in
    let at = c.loop-at.at in
    let n = c.in_ok-at.field-0 in
    let rest = c.range_from.ensures.value in
    let new = c.take_next.new.self in
    record {
      boundary = IsCharBoundary-from_rest text at n c.loop-at.invariant.boundary.0 (subst (λ l. IsCharBoundary l n) rest c.in_ok-at.ensures.front);
      readable = c.in_ok-at.ensures.readable;
      whole = c.in_ok-at.ensures.whole;
      fed = c.in_ok-at.ensures.fed ∙ c.loop-at.invariant.fed;
      place = (let there = c.in_ok-at.ensures.place in let place = c.loop-at.invariant.place in omega (arith, there, place));
      read = λ cs h.
          let front = chars (take at text) in
          let before = subst (λ l. HasRead c.loop-at.self (cs ++ front) (chars l)) (sym rest) (c.loop-at.invariant.read cs h) in
          let reads = c.in_ok-at.ensures.read (cs ++ front) before in
          let further = append_assoc cs front _ ∙ ap (λ l. cs ++ l) (chars_on text at n c.utf8.text c.loop-at.invariant.boundary) in
          let behind = subst (λ l. HasRead new ((cs ++ front) ++ chars (take n l)) (chars (drop n l))) rest reads in
          subst (λ l. HasRead new l (chars (drop (at + n) text))) further
          (subst (λ l. HasRead new ((cs ++ front) ++ chars (take n (drop at text))) (chars l)) (drop-drop n at text) behind);
    }

pub returns-clause-stands : goal.returns-clause-stands
returns-clause-stands c = λ bytes h.
    let text = c.args.text.now in
    let old = c.args.self.now in
    let l = c.loop-at.self in
    let through = take_all c.loop-at.at text c.loop-at-test.false in
    let ended = drop_all c.loop-at.at text (omega (arith, c.loop-at-test.false)) in
    let behind = behind_is old.fault old.valid (take old.held old.partial) h.tail c.requires.readable h.behind in
    record {
      cs = h.cs ++ chars text;
      tail = [];
      read = subst (λ x. HasRead l x []) (ap (λ x. h.cs ++ chars x) through)
          (subst (HasRead l (h.cs ++ chars (take c.loop-at.at text))) (ap chars ended ∙ chars-nil) (c.loop-at.invariant.read h.cs h.read));
      whole = text_stands bytes h.cs h.tail text c.utf8.text h.whole (behind ∙ ap (λ n. take n old.partial) c.requires.whole);
      behind = behind_from l.fault l.valid (take l.held l.partial) [] c.loop-at.invariant.readable (ap (λ n. take n l.partial) (sym c.loop-at.invariant.whole));
    }
