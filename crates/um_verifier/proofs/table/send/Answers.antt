use Rattle.std.proofs.Common.{◌≡◌, ◌∙◌}
use Rattle.um_verifier.specs.Tables.{met_at, state_of}
use Rattle.um_verifier.proofs.Sending.{state_stays, goes_sent, forks_sent}
use Rattle.um_verifier.proofs.table.send.Goals as goal

pub returns-in_ok-arrive-in-Goes-clause-gathered : goal.returns-in_ok-arrive-in-Goes-clause-gathered
returns-in_ok-arrive-in-Goes-clause-gathered c =
    let first = c.in_ok-arrive-in-Goes.ensures in
    let old = c.args.stacks.now in
    let new = c.arrive.new.stacks in
    goes_sent old c.args.flow c.in-Goes.p c.args.start _ (λ t. met_at old c.args.table.now.items t) (λ t. met_at new c.arrive.new.table.items t) c.in-Goes.is c.requires.stays first.place first.others

pub returns-in_ok-arrive-in-Forks-2-clause-gathered : goal.returns-in_ok-arrive-in-Forks-2-clause-gathered
returns-in_ok-arrive-in-Forks-2-clause-gathered c =
    let first = c.in_ok-arrive-in-Forks.ensures in
    let second = c.in_ok-arrive-in-Forks-2.ensures in
    let other = c.settled-other.result in
    let old = c.args.stacks.now in
    let mid = c.arrive-in-Forks.new.stacks in
    let new = c.arrive-in-Forks-2.new.stacks in
    let is : state_of mid other ≡ state_of old c.in-Forks.q = state_stays old mid other first.grows c.settled-other.ensures.number ∙ c.settled-other.ensures.state in
    forks_sent old c.args.flow c.in-Forks.p c.in-Forks.q other.to c.args.start _ (state_of mid other) (λ t. met_at old c.args.table.now.items t) (λ t. met_at mid c.arrive-in-Forks.new.table.items t) (λ t. met_at new c.arrive-in-Forks-2.new.table.items t) c.in-Forks.is c.requires.stays c.settled-other.ensures.to is first.place first.others second.place second.others
