-- Lemmas on pieces of lists, and on what calls move of bytes that are known.
use Rattle.std.proofs.Common.{◌≡◌, ℕ, ◌+◌, ◌-◌, ◌<◌, ◌≤◌, ◌↔◌, List, [], ◌++◌, length, take, drop, None, Some, Result, Ok, Err, refl, sym, ◌∙◌, ap, append_assoc, arith, length-append, length-drop, take_all, take-append-drop}
use Rattle.std.proofs.lemmas.List.{take-append-le, drop-drop}
use Rattle.std.specs.declared.option.Option.{Option}
use Rattle.std.specs.Io.KnownBytes.{Consumes, Keeps, WriteAppends}
use Rattle.std.proofs.KnownBytes.{Consumes-trans, Appends-kept, Appends-nil, Keeps-trans}
use Rattle.um_wire.specs.Bytes.{TellsMoreThan, TellsPrefix, ReadsPast, AppendsPrefix}

-- known bytes that lose some were at least as many
pub TellsMoreThan-of_read : (limit : ℕ) (old new : Option (List ℕ)) (bytes : List ℕ)
    → Consumes old new bytes → limit < length bytes → TellsMoreThan limit old
TellsMoreThan-of_read limit None new bytes read more =
    record { bytes = bytes; told = tt; more = more }
TellsMoreThan-of_read limit (Some known) None bytes read more = absurd read
TellsMoreThan-of_read limit (Some known) (Some rest) bytes read more = record {
  bytes = known;
  told = refl;
  more = rw read (omega (arith, length-append bytes rest, more));
}

-- known bytes that lose some began with them
pub TellsPrefix-of_read : (old new : Option (List ℕ)) (bytes : List ℕ)
    → Consumes old new bytes → TellsPrefix old bytes
TellsPrefix-of_read None new bytes read = record { rest = bytes; told = tt }
TellsPrefix-of_read (Some known) None bytes read = absurd read
TellsPrefix-of_read (Some known) (Some rest) bytes read = record { rest = rest; told = read }

-- what was read before, and the next piece, are the bytes read
pub ReadsPast-of_reads : (limit : ℕ) (IsPast : Type 0) (old mid new : Option (List ℕ))
    (text piece : List ℕ) → Consumes old mid text → Consumes mid new piece
    → IsPast ↔ (limit < length text + length piece) → ReadsPast limit IsPast old new
ReadsPast-of_reads limit IsPast old mid new text piece before now past = record {
  bytes = text ++ piece;
  read = Consumes-trans old mid new text piece before now;
  past = rw (length-append text piece) past;
}

-- the front of the rest goes over to what was taken
pub append-moved : (all front rest : List ℕ) (n m : ℕ) → all ≡ front ++ rest → m ≡ length rest
    → all ≡ front ++ take n rest ++ take (m - n) (drop n rest)
append-moved all front rest n m parts is =
    let whole : length (drop n rest) ≤ m - n = rw (is, length-drop n rest) (omega arith) in
    let split = ap (λ (l : List ℕ). front ++ l) (sym (take-append-drop n rest)) in
    let regrouped = sym (append_assoc front (take n rest) (drop n rest)) in
    let kept = ap (λ (l : List ℕ). front ++ take n rest ++ l) (sym (take_all _ _ whole)) in
    parts ∙ split ∙ regrouped ∙ kept

-- no rest is left of nothing
pub no_rest : (all front rest : List ℕ) → all ≡ front ++ rest → all ≡ [] → 0 < length rest → ⊥
no_rest all front rest parts is more =
    omega (arith, more, length-append front rest, ap length parts, ap length is)

-- what a writer has after a write and a flush of which one failed
pub failed_write : {E : Type 0} (old mid new : Option (List ℕ)) (result : Result ℕ E)
    (piece : List ℕ) → WriteAppends old mid result piece → Keeps mid new
    → AppendsPrefix old new piece
failed_write old mid new (Ok n) piece written kept = record {
  front = take n piece;
  rest = drop n piece;
  parts = sym (take-append-drop n piece);
  added = Appends-kept old mid new (take n piece) written kept;
}
failed_write old mid new (Err e) piece written kept = record {
  front = [];
  rest = piece;
  parts = refl;
  added = Appends-kept old old new [] (Appends-nil old) (Keeps-trans old mid new written kept);
}

-- the next n bytes stand at the front of the piece
pub drop-copied : (bytes copy piece : List ℕ) (at n : ℕ) → copy ≡ take n (drop at bytes)
    → length copy ≡ n → drop at bytes ≡ take n (copy ++ drop n piece) ++ drop (at + n) bytes
drop-copied bytes copy piece at n is len =
    let fits : n ≤ length copy = omega (arith, len) in
    let whole : length copy ≤ n = omega (arith, len) in
    let front = sym (take-append-le n copy (drop n piece) fits ∙ take_all n copy whole ∙ is) in
    let split = sym (take-append-drop n (drop at bytes)) in
    let copied = ap (λ (l : List ℕ). l ++ drop n (drop at bytes)) front in
    let moved = ap (λ (l : List ℕ). take n (copy ++ drop n piece) ++ l) (drop-drop n at bytes) in
    split ∙ copied ∙ moved
