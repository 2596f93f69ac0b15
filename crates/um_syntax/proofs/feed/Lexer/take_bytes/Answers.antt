use Rattle.std.proofs.Common.{◌∷◌, ◌++◌, [], take, get_or, append_assoc, arith, sym, ap, subst, ◌∙◌}
use Rattle.std.proofs.lemmas.List.{take_more, take_all}
use Rattle.um_syntax.specs.Feeding.{Stands}
use Rattle.um_syntax.proofs.feed.Lexer.take_bytes.Goals as goal

pub loop-byte-preserved : goal.loop-byte-preserved
loop-byte-preserved c = record {
  stands = λ bytes h.
      let piece = c.args.piece.now in
      let stands = c.in_ok-take_byte.ensures.stands (bytes ++ take c.loop-byte.byte-index piece) (c.loop-byte.invariant.stands bytes h) in
      let more = take_more piece c.loop-byte.byte-index 0 c.loop-byte-test.true in
      subst (Stands c.take_byte.new.self) (append_assoc bytes (take c.loop-byte.byte-index piece) (get_or piece c.loop-byte.byte-index 0 ∷ []) ∙ ap (λ x. bytes ++ x) (sym more)) stands;
  fed = omega arith;
}

pub returns-clause-stands : goal.returns-clause-stands
returns-clause-stands c = λ bytes h.
    let all = take_all c.loop-byte.byte-index c.args.piece.now c.loop-byte-test.false in
    subst (λ x. Stands c.loop-byte.self (bytes ++ x)) all (c.loop-byte.invariant.stands bytes h)
