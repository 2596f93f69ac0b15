-- The first fault of a part is that of the whole.
use Rattle.std.proofs.Common.{◌≡◌, refl, Err, Ok}
use Rattle.um_measures.specs.declared.stop.NameStop.{NameStop}
use Rattle.um_measures.specs.declared.stop.NameStop.TheVariants.{Unknown, Twice, WrongCount, Hole, Range, NoMemory}
use Rattle.um_measures.specs.Faults.{Fault, unknown, twice, wrong_count, hole, range, Found, and_then}
use Rattle.um_measures.specs.Stops.{IsFirst}

pub first_from : {A B : Type 0} (x : Found A) (y : Found B) → ((f : Fault) → x ≡ Err f → y ≡ Err f) → (stop : NameStop) → IsFirst x stop → IsFirst y stop
first_from x y moves (Unknown at) e = moves (unknown at) e
first_from x y moves (Twice at) e = moves (twice at) e
first_from x y moves (WrongCount at) e = moves (wrong_count at) e
first_from x y moves (Hole at) e = moves (hole at) e
first_from x y moves (Range at) e = moves (range at) e
first_from x y moves NoMemory e = tt

-- what comes behind a fault isn't looked at
pub first_and_then : {A B : Type 0} (x : Found A) (next : A → Found B) (stop : NameStop) → IsFirst x stop → IsFirst (and_then x next) stop
first_and_then x next stop e = first_from x (and_then x next) (λ f g. rw g refl) stop e

-- and what comes behind a text that stands for something is
pub first_next : {A B : Type 0} (x : Found A) (next : A → Found B) (a : A) (stop : NameStop) → x ≡ Ok a → IsFirst (next a) stop → IsFirst (and_then x next) stop
first_next x next a stop e h = rw e h
