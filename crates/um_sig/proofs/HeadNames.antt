-- Names that are taken once, one after another, and what type texts name of records: their heads.
use Rattle.std.proofs.Common.{◌≡◌, ℕ, zero, suc, ◌<◌, ◌+◌, Bool, true, false, ◌||◌, List, [], ◌∷◌, ◌++◌, map, take, get_or, length, refl, sym, ap, ◌∙◌, arith, append_assoc}
use Rattle.std.specs.Prelude.{Some, slice_get}
use Rattle.std.specs.Str.{bytes_eq}
use Rattle.std.proofs.lemmas.Slice.Eq.{bytes_eq-Decides}
use Rattle.std.proofs.lemmas.Option.{slice_get-get_or}
use Rattle.std.proofs.lemmas.List.{map-append, length-map}
use Rattle.um_tree.specs.declared.program.Record.{Record}
use Rattle.um_tree.specs.Formed.{AreDistinct}
use Rattle.um_tree.specs.ProgramTree.{RecordTree, record_tree}
use Rattle.um_measures.specs.Known.{Known, is_among, is_taken, record_names}
use Rattle.um_sig.specs.Heads.{head_of, only_bases, with_heads}
use Rattle.um_names.specs.Resolution.{with_record}

found : (xs : List (List ℕ)) (i : ℕ) (x : List ℕ) → is_among (take i xs) x ≡ true → (j : ℕ) × (j < i) × (slice_get xs j ≡ Some x)
found [] zero x e = absurd cc
found [] (suc i) x e = absurd cc
found (y ∷ ys) zero x e = absurd cc
found (y ∷ ys) (suc i) x e = by (bytes_eq x y) refl (found ys i x) e where
  by : (b : Bool) → bytes_eq x y ≡ b → (is_among (take i ys) x ≡ true → (j : ℕ) × (j < i) × (slice_get ys j ≡ Some x)) → (b || is_among (take i ys) x) ≡ true → (j : ℕ) × (j < suc i) × (slice_get (y ∷ ys) j ≡ Some x)
  by true f rest g = (0, omega arith, ap Some (sym ((bytes_eq-Decides x y).0 f)))
  by false f rest g = let w = rest g in (suc w.0, (let l = w.1 in omega (arith, l)), w.2)

-- no name is one of those before it
pub new_among : (xs : List (List ℕ)) (i : ℕ) (x : List ℕ) → AreDistinct xs → i < length xs → x ≡ get_or xs i x → is_among (take i xs) x ≡ false
new_among xs i x once l e = by (is_among (take i xs) x) refl where
  by : (b : Bool) → is_among (take i xs) x ≡ b → b ≡ false
  by false f = refl
  by true f =
      let w = found xs i x f in
      let here : slice_get xs i ≡ Some x = slice_get-get_or xs i x l ∙ ap Some (sym e) in
      let same : w.0 ≡ i = once w.0 i x w.2 here in
      let below = w.1 in
      absurd (omega (arith, same, below))

pub names_of_heads : (ds : List RecordTree) → record_names (map head_of ds) ≡ record_names ds
names_of_heads [] = refl
names_of_heads (d ∷ ds) = ap (λ (ns : List (List ℕ)). d.name ∷ ns) (names_of_heads ds)

-- a name that is no base unit's, where there are base units alone
pub taken_only : (xs : List (List ℕ)) (x : List ℕ) → is_among xs x ≡ false → is_taken (only_bases xs) x ≡ false
taken_only xs x e = ap (λ b. b || (false || false)) e

names_at : (ds : List Record) (i : ℕ) (d : Record) → i < length ds → d ≡ get_or ds i d → d.name ≡ get_or (record_names (map record_tree ds)) i d.name
names_at [] i d l e = absurd (omega arith)
names_at (y ∷ ys) zero d l e = ap (λ (z : Record). z.name) e
names_at (y ∷ ys) (suc i) d l e = names_at ys i d (omega (arith, l)) e

names_before : (ds : List Record) (i : ℕ) → take i (record_names (map record_tree ds)) ≡ record_names (map record_tree (take i ds))
names_before [] zero = refl
names_before [] (suc i) = refl
names_before (y ∷ ys) zero = refl
names_before (y ∷ ys) (suc i) = ap (λ (ns : List (List ℕ)). y.name ∷ ns) (names_before ys i)

pub head_new : (ds : List Record) (i : ℕ) (d : Record) → AreDistinct (record_names (map record_tree ds)) → i < length ds → d ≡ get_or ds i d → is_among (record_names (map record_tree (take i ds))) d.name ≡ false
head_new ds i d once l e =
    let long : length (record_names (map record_tree ds)) ≡ length ds = length-map (map record_tree ds) (λ z. z.name) ∙ length-map ds record_tree in
    ap (λ (ns : List (List ℕ)). is_among ns d.name) (sym (names_before ds i)) ∙ new_among (record_names (map record_tree ds)) i d.name once (omega (arith, l, long)) (names_at ds i d l e)

pub heads_more : (known : Known) (ds : List RecordTree) (d : RecordTree) → with_record (with_heads known ds) (head_of d) ≡ with_heads known (ds ++ d ∷ [])
heads_more known ds d =
    let e : (known.program.records ++ map head_of ds) ++ head_of d ∷ [] ≡ known.program.records ++ map head_of (ds ++ d ∷ []) =
    append_assoc known.program.records (map head_of ds) (head_of d ∷ []) ∙ ap (λ (rs : List RecordTree). known.program.records ++ rs) (sym (map-append head_of ds (d ∷ []))) in
    ap (λ (rs : List RecordTree). record { program = record { bases = known.program.bases; records = rs; functions = known.program.functions }; shorts = known.shorts }) e
