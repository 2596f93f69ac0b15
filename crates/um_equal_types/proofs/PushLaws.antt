-- Steps behind steps: their rows, and the first that passes the range.
use Rattle.std.proofs.Common.{◌≡◌, ℕ, ◌+◌, ◌<◌, length, map, take, drop, take-append-drop, get_or, Bool, true, false, cond, List, [], ◌∷◌, ◌++◌, Option, Some, None, Ok, Err, refl, sym, ap, ◌∙◌, subst}
use Rattle.std.specs.Prelude.{Result}
use Rattle.std.proofs.lemmas.List.{append_assoc, append-nil, map-append, take_more}
use Rattle.um_units.specs.declared.Atom.TheVariants.{Base}
use Rattle.um_units.specs.PowerMap.{product, atom}
use Rattle.um_units.specs.Range.{fits}
use Rattle.um_tree.specs.declared.types.Ty.{Ty}
use Rattle.um_tree.specs.TypeTree.{TypeTree, type_tree}
use Rattle.um_elim.specs.Application.{type_fits}
use Rattle.um_equal_types.specs.declared.row.Row.{Row}
use Rattle.um_equal_types.specs.declared.row.RowStop.{RowStop}
use Rattle.um_equal_types.specs.declared.row.RowStop.TheVariants as stop
use Rattle.um_equal_types.specs.Steps.{Step, row_at, wrong_shape_at, type_at, first_past, rows_of}
use Rattle.um_equal_types.specs.Against.{never, against, against_each}
use Rattle.um_equal_types.specs.Pushed.{AreBehind, StopsPast, ArePushed}

abbrev pub first_of : Option ℕ → Option ℕ → Option ℕ
first_of None o = o
first_of (Some n) o = Some n

cond_first : (b : Bool) (o p : Option ℕ) (n : ℕ) → cond b (first_of o p) (Some n) ≡ first_of (cond b o (Some n)) p
cond_first true o p n = refl
cond_first false o p n = refl

pub first_past-append : (a b : List Step) → first_past (a ++ b) ≡ first_of (first_past a) (first_past b)
first_past-append [] b = refl
first_past-append (row_at at u ∷ a) b = ap (λ o. cond (fits u) o (Some at)) (first_past-append a b) ∙ cond_first (fits u) (first_past a) (first_past b) at
first_past-append (wrong_shape_at at ∷ a) b = first_past-append a b
first_past-append (type_at at t ∷ a) b = ap (λ o. cond (type_fits t) o (Some at)) (first_past-append a b) ∙ cond_first (type_fits t) (first_past a) (first_past b) at

pub rows_of-append : (a b : List Step) → rows_of (a ++ b) ≡ rows_of a ++ rows_of b
rows_of-append [] b = refl
rows_of-append (row_at at u ∷ a) b = ap (λ rs. record { at = at; unit = u } ∷ rs) (rows_of-append a b)
rows_of-append (wrong_shape_at at ∷ a) b = ap (λ rs. record { at = at; unit = atom (Base 0) } ∷ rs) (rows_of-append a b)
rows_of-append (type_at at t ∷ a) b = rows_of-append a b

-- ---- the first steps stop, or the others do
pub stops_front : (a b : List Step) (e : RowStop) → StopsPast (first_past a) e → StopsPast (first_past (a ++ b)) e
stops_front a b stop.Slots h = h
stops_front a b (stop.Range at) h = first_past-append a b ∙ ap (λ o. first_of o (first_past b)) h
stops_front a b stop.NoMemory h = tt

pub stops_back : (a b : List Step) (e : RowStop) → first_past a ≡ None → StopsPast (first_past b) e → StopsPast (first_past (a ++ b)) e
stops_back a b stop.Slots g h = h
stops_back a b (stop.Range at) g h = first_past-append a b ∙ ap (λ o. first_of o (first_past b)) g ∙ h
stops_back a b stop.NoMemory g h = tt

-- ---- rows behind rows
pub behind-append : (a b : List Step) (old mid new : List Row) → AreBehind a old mid → AreBehind b mid new → AreBehind (a ++ b) old new
behind-append a b old mid new h k = (
  first_past-append a b ∙ ap (λ o. first_of o (first_past b)) h.0 ∙ k.0,
  k.1 ∙ ap (λ rs. rs ++ rows_of b) h.1 ∙ append_assoc old (rows_of a) (rows_of b) ∙ ap (λ rs. old ++ rs) (sym (rows_of-append a b)),
)

pub behind_then : (a b : List Step) (old mid new : List Row) → AreBehind a old mid → AreBehind b mid new → AreBehind (a ++ b) old new
behind_then a b old mid new h k = behind-append a b old mid new h k

pub pushed_after : (a b : List Step) (old mid new : List Row) (r : Result (Unit {0}) RowStop) → AreBehind a old mid → ArePushed b mid new r → ArePushed (a ++ b) old new r
pushed_after a b old mid new (Ok x) h k = behind-append a b old mid new h k
pushed_after a b old mid new (Err e) h k = stops_back a b e h.0 k

-- ---- a row that no units satisfy is in range
pub never_in_range : (at : ℕ) → first_past (never at) ≡ None
unfolding product
never_in_range at = refl

-- ---- one type against each of the others, one after another
module _ (at : ℕ) (left : TypeTree) where
  abbrev pub each : List Ty → List Step
  each ts = against_each at left (map type_tree ts)

  each-append : (ss ts : List TypeTree) → against_each at left (ss ++ ts) ≡ against_each at left ss ++ against_each at left ts
  each-append [] ts = refl
  each-append (s ∷ ss) ts = ap (λ r. against at left s ++ r) (each-append ss ts) ∙ sym (append_assoc (against at left s) (against_each at left ss) (against_each at left ts))

  each-both : (ss ts : List Ty) → each (ss ++ ts) ≡ each ss ++ each ts
  each-both ss ts = ap (against_each at left) (map-append type_tree ss ts) ∙ each-append (map type_tree ss) (map type_tree ts)

  module _ (others : List Ty) (i : ℕ) (t : Ty) (h : i < length others) (is : t ≡ get_or others i t) (old now : List Row) (was : AreBehind (each (take i others)) old now) where
    abbrev own : List Step
    own = against at left (type_tree t)

    each_more : each (take (i + 1) others) ≡ each (take i others) ++ own
    each_more = ap each (take_more others i t h ∙ ap (λ x. take i others ++ x ∷ []) (sym is)) ∙ each-both (take i others) (t ∷ []) ∙ ap (λ r. each (take i others) ++ r) (append-nil own)

    each_all : each others ≡ each (take (i + 1) others) ++ each (drop (i + 1) others)
    each_all = ap each (sym (take-append-drop (i + 1) others)) ∙ each-both (take (i + 1) others) (drop (i + 1) others)

    pub each_next : (new : List Row) → AreBehind own now new → AreBehind (each (take (i + 1) others)) old new
    each_next new k = subst (λ ss. AreBehind ss old new) (sym each_more) (behind-append (each (take i others)) own old now new was k)

    pub each_stops : (e : RowStop) → StopsPast (first_past own) e → StopsPast (first_past (each others)) e
    each_stops e k =
        subst (λ ss. StopsPast (first_past ss) e) (sym each_all)
        (stops_front (each (take (i + 1) others)) (each (drop (i + 1) others)) e
        (subst (λ ss. StopsPast (first_past ss) e) (sym each_more) (stops_back (each (take i others)) own e was.0 k)))
