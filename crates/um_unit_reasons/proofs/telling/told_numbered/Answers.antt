use Rattle.std.proofs.Common.{◌≡◌, ◌+◌, ◌-◌, ◌++◌, List, map, drop, length, ap, ◌∙◌, arith}
use Rattle.um_tree.specs.TypeTree.{type_tree}
use Rattle.um_tree.specs.ProgramTree.{program_tree}
use Rattle.um_unit_reasons.specs.declared.named.Named.{Named}
use Rattle.um_unit_reasons.specs.declared.reason.Told.{Told}
use Rattle.um_unit_reasons.specs.VariableNames.{written, letters}
use Rattle.um_unit_reasons.specs.TypeTexts.{told}
use Rattle.um_unit_reasons.specs.Answers.{refusal_of, told_trees}
use Rattle.um_unit_reasons.proofs.TellingSteps.{all_told}
use Rattle.um_unit_reasons.proofs.telling.told_numbered.Goals as goal

pub returns : goal.returns
returns c = λ agreed types a b.
    let x = c.args.x.now in
    let p = program_tree x.program.now in
    let own = c.args.own.now in
    let others = c.args.others.now in
    let last = c.args.agreements.now.last.items in
    let rest = c.args.agreements.now.others.items in
    let free = c.in_ok-free.free.items in
    let used = c.left_of-used.result in
    let sum : c.from.result + c.from-2.result ≡ own.count + others.count = (let e = c.from.ensures in let f = c.from-2.ensures in omega (arith, e, f)) in
    let free_is : free ≡ map written (letters x.names.now (own.count + others.count)) = c.in_ok-free.ensures ∙ ap (λ n. map written (letters x.names.now n)) sum in
    let used_is : used ≡ own.count - length own.named.items = c.left_of-used.ensures ∙ ap (λ n. own.count - n) (c.len.ensures ∙ own.named.ok.0) in
    let first : List Told = told p (map (λ (n : Named). n.text) own.named.items ++ free) (told_trees last) (map type_tree (drop (length own.named.items) own.types.items.items)) in
    let begun : c.push_numbered.new.all.items ≡ first =
    c.in_ok-push_numbered.ensures
    ∙ (λ k.
    c.new-told.ensures.items k
    ++ told p (map (λ (n : Named). n.text) own.named.items ++ c.deref.ensures.value k) (told_trees (c.deref-2.ensures.value k)) (map type_tree (drop (length own.named.items) own.types.items.items))) in
    let left_is : c.after-rest.result.now ≡ drop used free = c.after-rest.ensures ∙ ap (drop used) c.deref-3.ensures.value in
    c.in_ok-push_numbered-2.ensures
    ∙ (λ k.
    begun k
    ++ told p (map (λ (n : Named). n.text) others.named.items ++ left_is k) (told_trees (c.deref-4.ensures.value k)) (map type_tree (drop (length others.named.items) others.types.items.items)))
    ∙ all_told (refusal_of x agreed) types (told_trees last) (told_trees rest) own others a b free free_is used used_is
