-- A signature's numbered scheme has the instances of the signature.
use Rattle.std.proofs.Common.{◌≡◌, ◌↔◌, ℕ, List, [], ◌∷◌, ◌++◌, map, length, refl, sym, ap, ◌∙◌, subst}
use Rattle.std.proofs.lemmas.List.{map-append}
use Rattle.um_units.specs.PowerMap.{PowerMap, replace}
use Rattle.um_tree.specs.TypeTree.{TypeTree}
use Rattle.um_tree.specs.ProgramTree.{Signature}
use Rattle.um_tree.specs.Typing.{put, put_signature}
use Rattle.um_tree.specs.Scheme.{IsInstance, IsNumberedScheme, IsNumberedBy, signature_types}
use Rattle.um_elim.specs.Numbering.{variable_order, by_place}
use Rattle.um_elim.proofs.NumberedTypes.{renumbered_is_numbered, same_instances}
use Rattle.um_rows.specs.Judgement.{numbered_scheme}
use Rattle.um_rows.proofs.PutTypes.{signature_put-put}

-- ---- a signature as a list of types
types-put : (s : ℕ → PowerMap) (g : Signature) → signature_types (put_signature s g) ≡ map (put s) (signature_types g)
types-put s g = sym (map-append (put s) g.params (g.result ∷ []))

same_parts : (ss ts : List TypeTree) (s t : TypeTree) → ss ++ s ∷ [] ≡ ts ++ t ∷ [] → (ss ≡ ts) × (s ≡ t)
same_parts [] [] s t e = let same : s ≡ t = cc e in (refl, same)
same_parts [] (b ∷ []) s t e = absurd (cc e)
same_parts [] (b ∷ c ∷ ts) s t e = absurd (cc e)
same_parts (a ∷ []) [] s t e = absurd (cc e)
same_parts (a ∷ c ∷ ss) [] s t e = absurd (cc e)
same_parts (a ∷ ss) (b ∷ ts) s t e =
    let first : a ≡ b = cc e in
    let rest : ss ++ s ∷ [] ≡ ts ++ t ∷ [] = cc e in
    let parts = same_parts ss ts s t rest in
    ((λ i. first i ∷ parts.0 i), parts.1)

same_signature : (g h : Signature) → signature_types g ≡ signature_types h → g ≡ h
same_signature g h e = let parts = same_parts g.params h.params g.result h.result e in λ i. record { params = parts.0 i; result = parts.1 i }

-- ---- the numbered scheme
pub numbered_instances : (g h : Signature) → IsInstance (numbered_scheme g) h ↔ ((s : ℕ → PowerMap) × (h ≡ put_signature s g))
numbered_instances g h = (
  (λ i. ((λ k. replace i.0 (by_place order k)), i.1 ∙ signature_put-put (by_place order) i.0 g)),
  (λ i.
      let w = (same_instances (signature_types g) (signature_types h)).0 (i.0, ap signature_types i.1 ∙ types-put i.0 g) in
      (w.0, same_signature h (put_signature w.0 (put_signature (by_place order) g)) (w.1 ∙ ap (map (put w.0)) (sym (types-put (by_place order) g)) ∙ sym (types-put w.0 (put_signature (by_place order) g))))),
)
  where
    order : List ℕ
    order = variable_order (signature_types g)

pub numbered_is_numbered : (g : Signature) → IsNumberedScheme (numbered_scheme g)
numbered_is_numbered g =
    let order = variable_order (signature_types g) in
    subst (IsNumberedBy (length order)) (sym (types-put (by_place order) g)) (renumbered_is_numbered (signature_types g))
