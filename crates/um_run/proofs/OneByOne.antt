-- Arguments read one by one: the first of them, and then one more.
use Rattle.std.proofs.Common.{◌≡◌, ℕ, zero, suc, ◌+◌, ◌<◌, ◌≤◌, List, [], ◌∷◌, ◌++◌, take, map, get_or, length, Some, slice_get, refl, sym, ap, subst, add-one, arith, Err}
use Rattle.std.specs.Prelude.{◌≢◌}
use Rattle.std.proofs.lemmas.List.{take_all}
use Rattle.std.proofs.lemmas.Option.{slice_get_read}
use Rattle.um_tree.specs.TypeTree.{ShapeTree}
use Rattle.um_tree.specs.ValueTree.{InputTree}
use Rattle.um_tree.proofs.Moved.{slice_get_moved}
use Rattle.um_measures.specs.Known.{Known}
use Rattle.um_value.specs.declared.stop.InputStop.{InputStop}
use Rattle.um_value.specs.declared.stop.InputStop.TheVariants as input_stop
use Rattle.um_value.specs.InputRead.{IsInputOf}
use Rattle.um_run.specs.declared.call.CallRefusal.{CallRefusal}
use Rattle.um_run.specs.declared.call.CallRefusal.TheVariants as refusal
use Rattle.um_run.specs.Calls.{IsInput, AreInputs, IsFirstRefused}
use Rattle.um_run.specs.Reading.{IsArgumentRefused, IsArgumentAdded, AreArgumentsRead}

take_next : {A : Type 0} (xs : List A) (k : ℕ) (x : A) → slice_get xs k ≡ Some x → take (suc k) xs ≡ take k xs ++ x ∷ []
take_next [] k x e = absurd cc
take_next (y ∷ xs) zero x e = let same : y ≡ x = cc e in ap (λ z. z ∷ []) same
take_next (y ∷ xs) (suc k) x e = ap (λ zs. y ∷ zs) (take_next xs k x e)

pub take_more : {A : Type 0} (xs : List A) (k : ℕ) (x : A) → slice_get xs k ≡ Some x → take (k + 1) xs ≡ take k xs ++ x ∷ []
take_more xs k x e = rw add-one (take_next xs k x e)

pub get_before : {A : Type 0} (xs : List A) (n k : ℕ) → k < n → slice_get (take n xs) k ≡ slice_get xs k
get_before [] zero k l = refl
get_before [] (suc n) k l = refl
get_before (x ∷ xs) zero k l = absurd (omega (arith, l))
get_before (x ∷ xs) (suc n) zero l = refl
get_before (x ∷ xs) (suc n) (suc k) l = get_before xs n k (omega (arith, l))

-- an item as it is shown
pub shown_at : {A B : Type 0} (f : A → B) (xs : List A) (k : ℕ) (x : A) → k < length xs → x ≡ get_or xs k x → slice_get (map f xs) k ≡ Some (f x)
shown_at f xs k x below there = slice_get_moved f xs k x (slice_get_read xs (length xs) k x refl below there)

module _ (known : Known) where
  inputs_more : (shapes : List ShapeTree) (texts : List (List ℕ)) (inputs : List InputTree) (s : ShapeTree) (text : List ℕ) (input : InputTree) → AreInputs known shapes texts inputs → IsInput known s text input
      → AreInputs known (shapes ++ s ∷ []) (texts ++ text ∷ []) (inputs ++ input ∷ [])
  inputs_more [] [] [] s text input h is = (is, tt)
  inputs_more [] [] (i ∷ inputs) s text input h is = absurd h
  inputs_more [] (t ∷ texts) inputs s text input h is = absurd h
  inputs_more (r ∷ shapes) [] inputs s text input h is = absurd h
  inputs_more (r ∷ shapes) (t ∷ texts) [] s text input h is = absurd h
  inputs_more (r ∷ shapes) (t ∷ texts) (i ∷ inputs) s text input h is = (h.0, inputs_more shapes texts inputs s text input h.1 is)

  module _ (shapes : List ShapeTree) (texts : List (List ℕ)) (k : ℕ) (before : List InputTree) (read : AreInputs known (take k shapes) (take k texts) before) where
    pub one_more : (s : ShapeTree) (text : List ℕ) → slice_get shapes k ≡ Some s → slice_get texts k ≡ Some text → (new : List InputTree) → (input : InputTree) × IsInput known s text input × (new ≡ before ++ input ∷ [])
        → AreInputs known (take (k + 1) shapes) (take (k + 1) texts) new
    one_more s text e g new h =
        subst (λ (ss : List ShapeTree). AreInputs known ss (take (k + 1) texts) new) (sym (take_more shapes k s e))
        (subst (λ (ts : List (List ℕ)). AreInputs known (take k shapes ++ s ∷ []) ts new) (sym (take_more texts k text g))
        (subst (λ (is : List InputTree). AreInputs known (take k shapes ++ s ∷ []) (take k texts ++ text ∷ []) is) (sym h.2)
        (inputs_more (take k shapes) (take k texts) before s text h.0 read h.1)))

    pub all_read : length shapes ≤ k → length texts ≤ k → AreInputs known shapes texts before
    all_read l m =
        subst (λ (ss : List ShapeTree). AreInputs known ss texts before) (take_all k shapes l)
        (subst (λ (ts : List (List ℕ)). AreInputs known (take k shapes) ts before) (take_all k texts m) read)

    first_refused : (s : ShapeTree) (text : List ℕ) → slice_get shapes k ≡ Some s → slice_get texts k ≡ Some text → (index : ℕ) (stop : InputStop) → index ≡ k → IsInputOf known s text (Err stop) → stop ≢ input_stop.NoMemory
        → IsFirstRefused known shapes texts index stop
    first_refused s text e g index stop same refused cause =
        subst (λ (n : ℕ). IsFirstRefused known shapes texts n stop) (sym same)
        (record { before = before; read = read; shape = s; has_shape = e; text = text; has_text = g; refused = refused; cause = cause })

    pub one_refused : (s : ShapeTree) (text : List ℕ) → slice_get shapes k ≡ Some s → slice_get texts k ≡ Some text → (old new : List InputTree) (r : CallRefusal) → IsArgumentAdded known s text k old new (Err r) → AreArgumentsRead known shapes texts (Err r)
    one_refused s text e g old new (refusal.Argument index stop) h = first_refused s text e g index stop h.0 h.1 h.2
    one_refused s text e g old new refusal.NoMemory h = tt
    one_refused s text e g old new refusal.NoFunction h = absurd h
    one_refused s text e g old new refusal.WrongCount h = absurd h
    one_refused s text e g old new refusal.Units h = absurd h
    one_refused s text e g old new refusal.PowerRange h = absurd h
    one_refused s text e g old new refusal.Slots h = absurd h

  -- the refusal of one argument
  pub argument_refused : (s : ShapeTree) (text : List ℕ) (k : ℕ) (old new : List InputTree) (stop : InputStop) (r : CallRefusal) → IsInputOf known s text (Err stop) → IsArgumentRefused k stop r → IsArgumentAdded known s text k old new (Err r)
  argument_refused s text k old new stop (refusal.Argument index other) is h =
      (h.0, subst (λ (e : InputStop). IsInputOf known s text (Err e)) (sym h.1) is, subst (λ (e : InputStop). e ≢ input_stop.NoMemory) (sym h.1) h.2)
  argument_refused s text k old new stop refusal.NoMemory is h = tt
  argument_refused s text k old new stop refusal.NoFunction is h = absurd h
  argument_refused s text k old new stop refusal.WrongCount is h = absurd h
  argument_refused s text k old new stop refusal.Units is h = absurd h
  argument_refused s text k old new stop refusal.PowerRange is h = absurd h
  argument_refused s text k old new stop refusal.Slots is h = absurd h
