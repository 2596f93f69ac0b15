-- Runs of the machine.
use Rattle.std.proofs.Common.{◌≡◌, ℕ, List, [], ◌∷◌, ◌++◌, Result, Ok, Err, refl, sym, ap, ◌∙◌, append_assoc}
use Rattle.std.proofs.lemmas.List.{append-nil}
use Rattle.um_syntax.specs.declared.token.LexStop.{LexStop}
use Rattle.um_syntax.specs.declared.token.LexStop.TheVariants.{BadChar, NumberRange, PowerText, NoMemory}
use Rattle.um_syntax.specs.Machine.{Scan, step, steps, ended, Reaches}
use Rattle.um_syntax.specs.Scanning.{Stops, Answers}

pub steps-stopped : (stop : LexStop) (cs : List ℕ) → steps (Err stop) cs ≡ Err stop
steps-stopped stop [] = refl
steps-stopped stop (c ∷ cs) = refl

pub steps-append : (r : Result Scan LexStop) (xs ys : List ℕ) → steps r (xs ++ ys) ≡ steps (steps r xs) ys
steps-append r [] ys = refl
steps-append (Ok s) (x ∷ xs) ys = steps-append (step s x) xs ys
steps-append (Err stop) (x ∷ xs) ys = sym (steps-stopped stop ys)

-- one character of those that are left
pub steps_on : (s new : Scan) (left after : List ℕ) (c : ℕ) (all : Result Scan LexStop) → left ≡ c ∷ after → step s c ≡ Ok new → steps (Ok s) left ≡ all → steps (Ok new) after ≡ all
steps_on s new left after c all e stepped so_far = ap (λ r. steps r after) (sym stepped) ∙ ap (λ w. steps (Ok s) w) (sym e) ∙ so_far

steps_stop : (s : Scan) (left after : List ℕ) (c : ℕ) (stop : LexStop) (all : Result Scan LexStop) → left ≡ c ∷ after → step s c ≡ Err stop → steps (Ok s) left ≡ all → ended all ≡ Err stop
steps_stop s left after c stop all e stepped so_far =
    ap ended (sym so_far ∙ ap (λ w. steps (Ok s) w) e ∙ ap (λ r. steps r after) stepped ∙ steps-stopped stop after)

pub refuses : (stop : LexStop) (s new : Scan) (left after : List ℕ) (c : ℕ) (all : Result Scan LexStop) → left ≡ c ∷ after → Stops stop (step s c) → steps (Ok s) left ≡ all → Answers (Err stop) (ended all)
refuses (BadChar at) s new left after c all e stepped so_far = steps_stop s left after c (BadChar at) all e stepped so_far
refuses (NumberRange at) s new left after c all e stepped so_far = steps_stop s left after c (NumberRange at) all e stepped so_far
refuses (PowerText at) s new left after c all e stepped so_far = steps_stop s left after c (PowerText at) all e stepped so_far
refuses NoMemory s new left after c all e stepped so_far = tt

-- a state that is reached, whatever follows
pub reaches_now : (old new : Scan) (cs more : List ℕ) → steps (Ok old) cs ≡ Ok new → Reaches old cs new more
reaches_now old new cs [] e = e
reaches_now old new cs (c ∷ more) e = steps-append (Ok old) cs (c ∷ []) ∙ ap (λ r. steps r (c ∷ [])) e

pub reaches_on : (old mid new : Scan) (cs ds es : List ℕ) → Reaches old cs mid (ds ++ es) → Reaches mid ds new es → Reaches old (cs ++ ds) new es
reaches_on old mid new cs [] [] a b = ap (λ l. steps (Ok old) l) (append-nil cs) ∙ a ∙ b
reaches_on old mid new cs [] (e ∷ es) a b = ap (λ l. steps (Ok old) (l ++ e ∷ [])) (append-nil cs) ∙ a ∙ b
reaches_on old mid new cs (d ∷ ds) [] a b =
    ap (λ l. steps (Ok old) l) (sym (append_assoc cs (d ∷ []) ds))
    ∙ steps-append (Ok old) (cs ++ d ∷ []) ds
    ∙ ap (λ r. steps r ds) a
    ∙ b
reaches_on old mid new cs (d ∷ ds) (e ∷ es) a b =
    ap (λ l. steps (Ok old) l) (append_assoc cs (d ∷ ds) (e ∷ []) ∙ sym (append_assoc cs (d ∷ []) (ds ++ e ∷ [])))
    ∙ steps-append (Ok old) (cs ++ d ∷ []) (ds ++ e ∷ [])
    ∙ ap (λ r. steps r (ds ++ e ∷ [])) a
    ∙ b
