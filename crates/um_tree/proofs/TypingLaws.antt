-- What is typed and at which units.
use Rattle.std.proofs.Common.{◌≡◌, refl, sym, ap, subst, ◌∙◌, ℕ, List, [], ◌∷◌, map, length}
use Rattle.um_units.specs.PowerMap.{PowerMap, one, replace}
use Rattle.um_units.proofs.Replacement.{replace-closed}
use Rattle.um_tree.specs.TypeTree.{TypeTree, bool_type, num_type, list_type, record_type}
use Rattle.um_tree.specs.ProgramTree.{Signature}
use Rattle.um_tree.specs.Typing.{put, put_signature, moved, moved_signature, IsTypingOf, TypingAt, typings_below, Typing}
use Rattle.um_tree.specs.Laws.{TypedIn, TypingsWithoutParameters, ClosedUnitsAreFixed, ReplacementsKeepTypings, HomomorphismsKeepTypings, SumHasOneUnit, DifferenceHasOneUnit, ComparisonHasOneUnit, ZeroHasEveryUnit, NumberHasItsUnit}
use Rattle.um_tree.proofs.Homomorphisms.{h-replace}
use Rattle.um_tree.proofs.TypingsMoved.{typing_moved, typing_put, loose_of_typing, typing_of_loose}

-- ---- changes of units
put-moved : (s : ℕ → PowerMap) (t : TypeTree) → moved (replace s) t ≡ put s t
put-moved s bool_type = refl
put-moved s (num_type u) = refl
put-moved s (list_type t) = ap list_type (put-moved s t)
put-moved s (record_type r us) = refl

puts-moved : (s : ℕ → PowerMap) (ts : List TypeTree) → map (moved (replace s)) ts ≡ map (put s) ts
puts-moved s [] = refl
puts-moved s (t ∷ ts) = ap (λ x. x ∷ map (moved (replace s)) ts) (put-moved s t) ∙ ap (λ xs. put s t ∷ xs) (puts-moved s ts)

pub signature-moved : (s : ℕ → PowerMap) (g : Signature) → moved_signature (replace s) g ≡ put_signature s g
signature-moved s g =
    ap (λ ts. record { params = ts; result = moved (replace s) g.result }) (puts-moved s g.params) ∙ ap (λ t. record { params = map (put s) g.params; result = t }) (put-moved s g.result)

pub homomorphisms_keep_typings : HomomorphismsKeepTypings
homomorphisms_keep_typings p i g h declared h-mul left m = typing_moved p i declared h h-mul left g m

pub replacements_keep_typings : ReplacementsKeepTypings
replacements_keep_typings p i g units m = subst (Typing p i) (signature-moved units g) (typing_put p i units g m)

pub typings_without_parameters : TypingsWithoutParameters
typings_without_parameters p i f g at none closed =
    let same : Typing p i g ≡ IsTypingOf (length p.bases) p.records (typings_below p i) i f g = ap (λ o. TypingAt (length p.bases) p.records (typings_below p i) i o g) at in (
      λ m. loose_of_typing p i f none closed g (subst (λ (X : Type 0). X) same m),
      λ m. subst (λ (X : Type 0). X) (sym same) (typing_of_loose p i f none g m),
    )

pub closed_units_are_fixed : ClosedUnitsAreFixed
closed_units_are_fixed h u h-mul left closed =
    let ones : ℕ → PowerMap = λ k. one in
    sym (ap h (replace-closed ones u closed)) ∙ h-replace h h-mul u left ones ∙ replace-closed (λ k. h one) u closed

-- ---- sums and comparisons
pub sum_has_one_unit : SumHasOneUnit
sum_has_one_unit p i f self choice vars at a b t =
    (λ m. (m.0, m.3, subst (λ v. TypedIn p i f self choice vars b (num_type v)) (sym m.5.0) m.4, m.6 ∙ ap num_type m.5.1), λ m. (m.0, m.0, m.0, m.1, m.2, (refl, refl), m.3))

pub difference_has_one_unit : DifferenceHasOneUnit
difference_has_one_unit p i f self choice vars at a b t =
    (λ m. (m.0, m.3, subst (λ v. TypedIn p i f self choice vars b (num_type v)) (sym m.5.0) m.4, m.6 ∙ ap num_type m.5.1), λ m. (m.0, m.0, m.0, m.1, m.2, (refl, refl), m.3))

pub comparison_has_one_unit : ComparisonHasOneUnit
comparison_has_one_unit p i f self choice vars at sign a b t = (λ m. m, λ m. m)

-- ---- literals
pub zero_has_every_unit : ZeroHasEveryUnit
zero_has_every_unit p i f self choice vars at c t = (λ m. (m.1, (m.0, m.2)), λ m. (m.1.0, m.0, m.1.1))

pub number_has_its_unit : NumberHasItsUnit
number_has_its_unit p i f self choice vars at c u t = (λ m. m.2 ∙ ap num_type m.1, λ e. (u, refl, e))
