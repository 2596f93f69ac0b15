use Rattle.std.proofs.Common.{◌≡◌, ◌∙◌, length, arith}
use Rattle.um_stacks.proofs.Nodes.{count_is, first_is}
use Rattle.um_stacks.proofs.stacks.Stacks.count.Goals as goal

pub returns-clause-count : goal.returns-clause-count
returns-clause-count c =
    let l = count_is c.args.self.now c.self.inside.nodes.items c.self.view_is in
    let n : c.len.result ≡ length c.self.inside.nodes.items = c.len.ensures ∙ c.self.inside.nodes.ok.0 in
    omega (arith, l, n)

pub returns-clause-first : goal.returns-clause-first
returns-clause-first c = first_is c.args.self.now c.self.inside.nodes.items c.self.view_is
