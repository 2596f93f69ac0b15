-- What the end of a call comes to.
use Rattle.std.proofs.Common.{◌≡◌, sym, subst, ◌∙◌, ℕ, List, Some}
use Rattle.um_tree.specs.ValueTree.{ValueTree, OutcomeTree}
use Rattle.um_machine.specs.Machine.{EndsWith}
use Rattle.um_verify.specs.ImageTree.{HeadTree, ImageTree}
use Rattle.um_verify.specs.Verified.{IsVerified}
use Rattle.um_verify.specs.Laws.{OutcomeHas, EndsHaveShape, RunsEnd}
use Rattle.um_verifier.specs.Calls.{IsCallIn, ResultHas}

same_head : (x y : HeadTree) → Some x ≡ Some y → x ≡ y
same_head x y h = cc

module _ (image : ImageTree) (f : ℕ) (vs : List ValueTree) (b : ℕ) (verified : IsVerified image) (call : IsCallIn image f vs) where
  -- the call has an outcome
  pub ends : RunsEnd → (o : OutcomeTree) × EndsWith image.code f vs b o
  ends law = let (o, end, has) = law image f call.0 vs b verified call.1 in (o, end)

  -- its value has the result's shape
  pub result_has : EndsHaveShape → (o : OutcomeTree) → EndsWith image.code f vs b o → ResultHas image f o
  result_has law o (n, e, w) other there =
      let same : call.0 ≡ other = same_head call.0 other (sym call.1.listed ∙ there) in
      subst (λ (h : HeadTree). OutcomeHas image.records o h.result) same (law image f call.0 vs b n o verified call.1 e)
