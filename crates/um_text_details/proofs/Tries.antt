-- One try more.
use Rattle.std.proofs.Common.{◌≡◌, ℕ, ◌+◌, ◌<◌, Bool, true, false, cond, List, [], ◌∷◌, ◌++◌, length, take, get_or, sym, subst, ◌∙◌}
use Rattle.std.specs.Bool.{Decides}
use Rattle.std.specs.List.{All}
use Rattle.std.proofs.lemmas.List.{take_more}
use Rattle.std.proofs.lemmas.List.Elements.{All-push}
use Rattle.um_syntax.specs.declared.token.Kind.TheVariants as kind
use Rattle.um_vocabulary.specs.declared.vocabulary.Symbol.{Symbol}
use Rattle.um_text_details.specs.declared.word.Word.{Word}
use Rattle.um_text_details.specs.Expected.{Place, CanStand, AllOperatorsStand, IsExpected, AreChosen}
use Rattle.um_text_details.specs.Words.{operators}
use Rattle.um_text_details.proofs.WordLists.{chosen_step}

-- all signs before can stand, and the next one
pub signs_more : (p : Place) (items : List Symbol) (i : ℕ) (d : Symbol) → i < length items
    → All (λ s. CanStand p (kind.Sign s)) (take i items) → CanStand p (kind.Sign (get_or items i d))
    → All (λ s. CanStand p (kind.Sign s)) (take (i + 1) items)
signs_more p items i d lt before here =
    subst (λ l. All (λ s. CanStand p (kind.Sign s)) l) (sym (take_more items i d lt))
    (All-push (λ s. CanStand p (kind.Sign s)) (take i items) (get_or items i d) before here)

-- a sign that can't stand is one of the operators
pub sign_refused : (p : Place) (items : List Symbol) (i : ℕ) (d : Symbol) (b : Bool) → items ≡ operators → i < length items → b ≡ false
    → Decides b (CanStand p (kind.Sign (get_or items i d))) → AllOperatorsStand p → false ≡ true
sign_refused p items i d b e lt fails here all =
    sym fails ∙ here.1 (subst (λ l. All (λ s. CanStand p (kind.Sign s)) l) (sym e) all i d lt)

-- the words told so far, and the next one
pub words_more : (p : Place) (items : List Word) (i : ℕ) (d : Word) (old new : List Word) (b : Bool) → i < length items
    → AreChosen (IsExpected p) (take i items) old → Decides b (IsExpected p (get_or items i d))
    → new ≡ cond b (old ++ get_or items i d ∷ []) old → AreChosen (IsExpected p) (take (i + 1) items) new
words_more p items i d old new b lt before here e =
    subst (λ l. AreChosen (IsExpected p) l new) (sym (take_more items i d lt))
    (chosen_step (IsExpected p) (take i items) old new (get_or items i d) b before here e)
