use Rattle.std.proofs.Common.{◌≡◌, ◌∷◌, [], ◌<◌, ◌≤◌, Bool, true, false, length, map, subst, arith}
use Rattle.std.specs.Prelude.{MatchOption}
use Rattle.std.proofs.lemmas.List.{length-map}
use Rattle.std.proofs.lemmas.Result.{IfOk-weaker}
use Rattle.um_tree.specs.TypeTree.{shape_tree}
use Rattle.um_verify.specs.ImageTree.{head_tree}
use Rattle.um_verifier.specs.Names.{Takes}
use Rattle.um_verifier.specs.KnownHeads.{known_signature, head_signature, admits_signature}
use Rattle.um_verifier.proofs.FunctionHeads.{HeadFound, bad_name, found_head}
use Rattle.um_verifier.proofs.heads.checked_head.Goals as goal

pub returns-then-not-named : goal.returns-then-not-named
returns-then-not-named c = λ image k there entry takes.
    let old = c.args.names.now in
    let new = c.take_name.new.taken in
    bad_name image k (head_tree c.args.head.now) c.args.entry there entry c.args.known.now old takes new
    (subst (λ (b : Bool). Takes b old (c.args.head.now.name ∷ []) new) c.if-not-named.true c.in_ok-named.ensures)

pub returns : goal.returns
returns c = λ image k there entry takes.
    let h = head_tree c.args.head.now in
    let own = head_signature h in
    let known = c.args.known.now in
    let old = c.args.names.now in
    let new = c.take_name.new.taken in
    let shapes = c.args.head.now.params.items in
    let many : length (map shape_tree shapes.items) ≡ length shapes.items = length-map shapes.items shape_tree in
    let few : length (map shape_tree shapes.items) ≤ 16 = omega (arith, many, c.len.ensures, shapes.ok.0, c.if-len-gt16.false) in
    let some : c.args.entry.start < c.args.entry.end = omega (arith, c.if-entry.false) in
    let named = subst (λ (b : Bool). Takes b old (c.args.head.now.name ∷ []) new) c.if-not-named.false c.in_ok-named.ensures in
    IfOk-weaker c.known_head.result (λ found. MatchOption found (admits_signature known own ≡ false) (λ x. (admits_signature known own ≡ true) × (known_signature x ≡ own))) (λ found. HeadFound image k h old new found)
    (found_head image k h c.args.entry there entry known old takes new some few named)
    c.known_head.ensures
