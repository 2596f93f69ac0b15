-- Tokens and words, one after another.
use Rattle.std.proofs.Common.{◌≡◌, ℕ, suc, ◌+◌, ◌<◌, ◌==◌, true, false, List, [], ◌∷◌, ◌++◌, length, take, drop, get_or, refl, sym, ap, ◌∙◌, append_assoc, arith}
use Rattle.std.specs.List.{flat_map}
use Rattle.std.proofs.Math.Seq.{drop-cons, drop-length}
use Rattle.std.proofs.lemmas.Grind.{flat_map-append}
use Rattle.std.proofs.lemmas.List.{append-nil, take_more}
use Rattle.um_syntax.specs.declared.token.Token.{Token}
use Rattle.um_text_details.specs.declared.word.Word.{Word}
use Rattle.um_text_details.specs.SyntaxDetails.{spaced_word}
use Rattle.um_text_details.specs.Stops.{number_at}

pub copies_next : (tokens copied : List Token) (k : ℕ) (t : Token) → k < length tokens → t ≡ get_or tokens k t → copied ≡ take k tokens → copied ++ t ∷ [] ≡ take (k + 1) tokens
copies_next tokens copied k t within is so_far = ap (λ l. l ++ t ∷ []) so_far ∙ ap (λ x. take k tokens ++ x ∷ []) is ∙ sym (take_more tokens k t within)

pub each_next : (told : List Word) (before text : List ℕ) (k : ℕ) (w : Word) → k < length told → w ≡ get_or told k w → text ≡ before ++ flat_map spaced_word (take k told) → text ++ spaced_word w ≡ before ++ flat_map spaced_word (take (k + 1) told)
each_next told before text k w within is so_far =
    let one : flat_map spaced_word (take (k + 1) told) ≡ flat_map spaced_word (take k told) ++ spaced_word w =
    ap (flat_map spaced_word) (take_more told k w within ∙ ap (λ x. take k told ++ x ∷ []) (sym is))
    ∙ flat_map-append spaced_word (take k told) (w ∷ []) ∙ ap (λ z. flat_map spaced_word (take k told) ++ z) (append-nil (spaced_word w)) in
    ap (λ l. l ++ spaced_word w) so_far ∙ append_assoc before (flat_map spaced_word (take k told)) (spaced_word w) ∙ ap (λ l. before ++ l) (sym one)

-- ---- the number of the token at a place

from_here : (tokens : List Token) (k : ℕ) (t : Token) → k < length tokens → t ≡ get_or tokens k t → drop k tokens ≡ t ∷ drop (suc k) tokens
from_here tokens k t within is = drop-cons tokens k t within ∙ ap (λ x. x ∷ drop (suc k) tokens) (sym is)

pub number_next : (tokens : List Token) (at k : ℕ) (t : Token) → k < length tokens → t ≡ get_or tokens k t → (t.start == at) ≡ false → number_at tokens at ≡ k + number_at (drop k tokens) at → number_at tokens at ≡ (k + 1) + number_at (drop (k + 1) tokens) at
number_next tokens at k t within is other so_far =
    let here : number_at (drop k tokens) at ≡ 1 + number_at (drop (suc k) tokens) at = ap (λ l. number_at l at) (from_here tokens k t within is) ∙ rw other refl in
    let next : k + 1 ≡ suc k = omega arith in
    let same : number_at (drop (k + 1) tokens) at ≡ number_at (drop (suc k) tokens) at = ap (λ (n : ℕ). number_at (drop n tokens) at) next in
    omega (arith, so_far, here, same)

pub number_here : (tokens : List Token) (at k : ℕ) (t : Token) → k < length tokens → t ≡ get_or tokens k t → (t.start == at) ≡ true → number_at tokens at ≡ k + number_at (drop k tokens) at → k ≡ number_at tokens at
number_here tokens at k t within is there so_far =
    let here : number_at (drop k tokens) at ≡ 0 = ap (λ l. number_at l at) (from_here tokens k t within is) ∙ rw there refl in
    omega (arith, so_far, here)

pub number_end : (tokens : List Token) (at k : ℕ) → k ≡ length tokens → number_at tokens at ≡ k + number_at (drop k tokens) at → length tokens ≡ number_at tokens at
number_end tokens at k ends so_far =
    let here : number_at (drop k tokens) at ≡ 0 = ap (λ (n : ℕ). number_at (drop n tokens) at) ends ∙ ap (λ l. number_at l at) (drop-length tokens) in
    omega (arith, so_far, here, ends)
