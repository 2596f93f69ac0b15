-- What stands between the zero bytes of a text.
use Rattle.std.proofs.Common.{◌≡◌, ◌≢◌, ap, sym, ◌∙◌, ℕ, ◌==◌, ◌<◌, false, List, [], ◌∷◌, ◌++◌, length, get_or, ne_eqb, eq-eqb, refl, append_assoc, arith}
use Rattle.std.specs.List.{All}
use Rattle.std.proofs.lemmas.Grind.{common_steps}
use Rattle.std.proofs.lemmas.List.Splits.{slice_split_none, slice_split_at}
use Rattle.um_embed.specs.Embedded.{words_between}

abbrev Lacks : List ℕ → Type 0
Lacks bytes = (i : ℕ) → i < length bytes → get_or bytes i 0 ≢ 0

all_other : (bytes : List ℕ) → Lacks bytes → All (λ b. b == 0 ≡ false) bytes
all_other bytes lacks = λ k d less. let other = ne_eqb _ 0 (lacks k less) in grind (arith, common_steps)

pub words_cut : (text : List ℕ) (before : List (List ℕ)) (bytes front back : List ℕ) → words_between text ≡ before ++ words_between bytes
    → bytes ≡ front ++ 0 ∷ back → Lacks front → words_between text ≡ (before ++ front ∷ []) ++ words_between back
words_cut text before bytes front back so_far is lacks =
    so_far ∙ ap (λ s. before ++ s) (ap words_between is ∙ slice_split_at (λ b. b == 0) front 0 back (all_other front lacks) (eq-eqb 0 0 refl))
    ∙ sym (append_assoc before (front ∷ []) (words_between back))

pub words_end : (bytes : List ℕ) → Lacks bytes → words_between bytes ≡ bytes ∷ []
words_end bytes lacks = slice_split_none (λ b. b == 0) bytes (all_other bytes lacks)
