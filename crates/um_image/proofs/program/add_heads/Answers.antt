use Rattle.std.proofs.Common.{◌≡◌, ◌∷◌, ◌++◌, [], map}
use Rattle.std.proofs.lemmas.List.{map_push}
use Rattle.um_tree.specs.ProgramTree.{program_tree}
use Rattle.um_verify.specs.ImageTree.{head_tree}
use Rattle.um_image.proofs.Mapped.{one_more_head}
use Rattle.um_image.proofs.program.add_heads.Goals as goal

pub loop-f-preserved : goal.loop-f-preserved
loop-f-preserved c =
    let e : map head_tree c.push.new.self.items ≡ map head_tree c.loop-f.heads.items ++ head_tree c.in_ok-head.head ∷ [] = rw c.in_ok-push.ensures.items (map_push _ c.loop-f.heads.items c.in_ok-head.head) in
    rw e (one_more_head (program_tree c.args.shaped.now) c.loop-f.f (map head_tree c.loop-f.heads.items) (head_tree c.in_ok-head.head) c.loop-f.invariant c.in_ok-head.ensures)
