-- Calls of an image's functions by their words: which function, which refusal.
use Rattle.std.proofs.Common.{◌≡◌, refl, ℕ, [], ◌∷◌, codes, Ok, Err, arith}
use Rattle.um_tree.specs.TypeTree.{bool_shape, num_shape}
use Rattle.um_run.specs.declared.call.CallRefusal.TheVariants as refusal
use Rattle.um_verify.specs.ImageTree.{HeadTree, ImageTree}
use Rattle.um_run.specs.ImageCalls.{IsImageCallOf, image_program}

first : HeadTree
first = record { name = codes "k"; params = []; result = num_shape }

second : HeadTree
second = record { name = codes "not_k"; params = bool_shape ∷ []; result = bool_shape }

-- an image of two functions; its code isn't looked at
two : ImageTree
two = record { records = []; heads = first ∷ second ∷ []; code = record { ops = []; entries = [] } }

-- a constant is called without arguments
of_first : IsImageCallOf two (codes "k") [] (Ok (record { function = 0; inputs = [] }))
unfolding two first second
of_first = (0, first, record { number = refl; listed = refl }, (refl, tt))

no_function : IsImageCallOf two (codes "not") [] (Err refusal.NoFunction)
unfolding two first second
no_function = refl

-- the second function takes one argument
not_one : (n : ℕ) → n ≡ 0 → n ≡ 1 → ⊥
not_one n e f = omega arith

too_few : IsImageCallOf two (codes "not_k") [] (Err refusal.WrongCount)
unfolding two first second
too_few = (1, second, record { number = refl; listed = refl }, λ e. not_one 0 refl e)

no_units : image_program two ≡ record { bases = []; records = []; functions = [] }
unfolding two
no_units = refl
