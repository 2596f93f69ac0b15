-- Principal schemes of the first functions: what the equations of the next function ask for, and one scheme more.
-- Source: Kennedy (1996), on principal schemes.
use Rattle.std.proofs.Common.{◌≡◌, ℕ, suc, ◌<◌, inl, inr, List, [], ◌∷◌, ◌++◌, Some, length, slice_get, refl, sym, ◌∙◌, subst, arith}
use Rattle.std.proofs.lemmas.List.{length-append}
use Rattle.um_units.specs.PowerMap.{one}
use Rattle.um_tree.specs.ProgramTree.{FunctionTree, ProgramTree, SchemeTree}
use Rattle.um_tree.specs.Typing.{put_signature}
use Rattle.um_tree.specs.Scheme.{IsPrincipal, IsNumberedScheme}
use Rattle.um_tree.specs.Laws.{LiteralsAreClosed}
use Rattle.um_rows.specs.Solutions.{HaveSchemes}
use Rattle.um_rows.specs.Judgement.{has_scheme, judge}
use Rattle.um_rows.proofs.JudgementLaws.{judged_schemes_are_principal}
use Rattle.um_infer.specs.Schemes.{ArePrincipal, AreTyped}
use Rattle.um_infer.proofs.SchemeLists.{item_at, item_or_last}

module _ (p : ProgramTree) (n : ℕ) (schemes : List SchemeTree) (h : ArePrincipal p n schemes) where
  scheme_at : (j : ℕ) → j < n → (s : SchemeTree) × (slice_get schemes j ≡ Some s)
  scheme_at j l = item_at schemes j (subst (λ m. j < m) (sym h.count) l)

  pub have_schemes : HaveSchemes p schemes n
  have_schemes j l =
      let w = scheme_at j l in
      record {
        scheme = w.0;
        stands = w.1;
        principal = h.principal j w.0 w.1;
      }

  -- any units in place of a scheme's variables give a typing
  pub are_typed : AreTyped p n
  are_typed j l =
      let w = scheme_at j l in
      let g = put_signature (λ k. one) w.0.signature in
      (g, ((h.principal j w.0 w.1).instances g).1 ((λ k. one), refl))

  -- the next function's scheme, behind the others
  pub one_more : (f : FunctionTree) (s : SchemeTree) → slice_get p.functions n ≡ Some f → LiteralsAreClosed f.body → judge (length p.bases) p.records schemes n f ≡ has_scheme s → ArePrincipal p (suc n) (schemes ++ s ∷ [])
  one_more f s declared closed is =
      let right = judged_schemes_are_principal p schemes n f declared closed have_schemes s is in
      let count = h.count in
      record {
        count = length-append schemes (s ∷ []) ∙ omega (arith, count);
        principal = λ i t e. elim (item_or_last schemes s i t e) [
          | inl there ↦ h.principal i t there
          | inr last ↦ subst (IsPrincipal p i) last.1 (subst (λ m. IsPrincipal p m s) (sym (last.0 ∙ count)) right.0)
        ];
        numbered = λ i t e. elim (item_or_last schemes s i t e) [ inl there ↦ h.numbered i t there | inr last ↦ subst IsNumberedScheme last.1 right.1 ];
      }
