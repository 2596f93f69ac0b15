use Rattle.std.proofs.Common.{◌≡◌, ◌≢◌, ℕ, Bool, false, eqb, List, [], ◌∷◌, ◌++◌, length, sym, ap, ◌∙◌, arith, length-append, ne_eqb}
use Rattle.std.proofs.lemmas.Bool.{eqb-true}
use Rattle.std.proofs.lemmas.Iterator.{YieldsList-from_chars}
use Rattle.std.proofs.lemmas.Iterator.Consumers.{YieldsList-end}
use Rattle.std.proofs.lemmas.List.{map-id}
use Rattle.um_excerpt.specs.SourceLine.{line_before}
use Rattle.um_excerpt.proofs.Lines.{line_ended, line_added, mark_dropped}
use Rattle.um_excerpt.proofs.line.line_before.Goals.{then-not-first-via-then-not-first, then-not-first-via-else-not-first+then-c-ne65279}
use Rattle.um_excerpt.proofs.line.line_before.Goals as goal

not_first : (ys : List ℕ) (d : ℕ) → false ≡ eqb (length (ys ++ d ∷ [])) 0
not_first ys d = sym (ne_eqb (length (ys ++ d ∷ [])) 0 (λ e. omega (arith, length-append ys (d ∷ []), e)))

first_alone : (first : Bool) (n : ℕ) → first ≡ eqb n 0 → first ≡ false → n ≢ 0
first_alone first n e f z = grind arith

pub loop-c-preserved-then-c-eq10 : goal.loop-c-preserved-then-c-eq10
loop-c-preserved-then-c-eq10 c = record {
  line = c.clear.ensures.items ∙ line_ended c.loop-c.yielded c.in-Some.c c.if-c-eq10.true;
  first = not_first c.loop-c.yielded c.in-Some.c;
}

pub loop-c-preserved-in_ok-push : goal.loop-c-preserved-in_ok-push
loop-c-preserved-in_ok-push c =
    let ys = c.loop-c.yielded in
    let no_mark : length ys ≡ 0 → c.in-Some.c ≢ 65279 =
    (λ e. elim c.then-not-first.branch [
      | then-not-first-via-then-not-first w ↦ absurd (first_alone c.loop-c.first (length ys) c.loop-c.invariant.first w.if-not-first.true e)
      | then-not-first-via-else-not-first+then-c-ne65279 w ↦ w.if-c-ne65279.true
    ]) in
    record {
      line = c.in_ok-push.ensures.items ∙ ap (λ line. line ++ c.in-Some.c ∷ []) c.loop-c.invariant.line ∙ line_added ys c.in-Some.c c.if-c-eq10.false no_mark;
      first = not_first ys c.in-Some.c;
    }

pub loop-c-preserved : goal.loop-c-preserved
loop-c-preserved c =
    let ys = c.loop-c.yielded in
    record {
      line = c.loop-c.invariant.line ∙ mark_dropped ys c.in-Some.c (eqb-true (length ys) 0 (sym c.loop-c.invariant.first ∙ c.if-not-first.false)) c.if-c-ne65279.false;
      first = not_first ys c.in-Some.c;
    }

pub returns : goal.returns
returns c =
    let text = c.args.text.now in
    let t = YieldsList-end (YieldsList-from_chars text c.utf8.text cc) c.loop-c.yielded _ c.loop-c.yielded_by _ _ c.in-None.is c.next.ensures.steps in
    c.loop-c.invariant.line ∙ ap line_before (sym (map-id c.loop-c.yielded) ∙ t.0)
