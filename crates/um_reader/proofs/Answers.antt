-- What reading answers, by the grammar: the exact places, and that no two answers stand together. Published: crates above
-- use it.
use Rattle.std.proofs.Common.{◌≡◌, ℕ, ◌+◌, ◌≤◌, List, length, take, None, sym, subst, ◌∙◌, arith, inl, inr}
use Rattle.std.specs.Prelude.{Result, Ok, Err}
use Rattle.std.proofs.lemmas.Bool.{cases_lt}
use Rattle.std.proofs.lemmas.List.{take_all}
use Rattle.um_reader.specs.Texts.{BeginsTextWithin, IsUnambiguous}
use Rattle.um_reader.specs.Stops.{StopsAt, Reads, Fails, HighAt, HasOneReading, HasOneAnswer}
use Rattle.um_reader.specs.ReadTo.{ReadTo, ReadAll}
use Rattle.um_reader.specs.Machine.{Machine, reached, IsReaderOf}
use Rattle.um_reader.specs.RunTo.{IsRead, IsRefused, IsHigh, RunTo, RunAll}
use Rattle.um_reader.specs.declared.reading.ReadStop.{ReadStop}
use Rattle.um_reader.specs.declared.reading.ReadStop.TheVariants as stop
use Rattle.um_reader.proofs.Texts.{begins_before, begins_front, within_before, within_front, within_whole}
use Rattle.um_reader.proofs.Readers.{none_some, begins_text, begins_within, begins_none, none_within}

module _ {S T A : Type 0} {m : Machine S T A} {Is : List T → A → Type 0} {height : A → ℕ} (law : IsReaderOf m Is height) (limit : ℕ) (tokens : List T) where
  stops : (k : ℕ) → IsRead m limit tokens k → IsRefused m tokens k → StopsAt Is tokens k
  stops k r refused = record {
    within = r.0;
    before = begins_text law (take k tokens) r.1;
    through = λ lt b. begins_none law (take (k + 1) tokens) (refused lt) b;
  }

  high : (k : ℕ) → IsRead m limit tokens k → IsHigh m limit tokens k → HighAt Is height limit tokens k
  high k r h = record {
    within = h.0;
    before = begins_within law (take k tokens) limit r.1 r.2;
    through = begins_text law (take (k + 1) tokens) h.1;
    none = none_within law (take (k + 1) tokens) limit h.2;
  }

  fails : (k : ℕ) → IsRead m limit tokens k → IsRefused m tokens k → (k ≡ length tokens → m.finish (reached m (take k tokens)) ≡ None) → Fails Is height limit tokens k
  fails k r refused ends = record {
    within = r.0;
    before = begins_within law (take k tokens) limit r.1 r.2;
    through = λ lt b. begins_none law (take (k + 1) tokens) (refused lt) b;
    none = λ e t p.
        let all : take k tokens ≡ tokens = take_all k tokens (omega (arith, e)) in
        none_some t (sym (ends e) ∙ law.finds (take k tokens) t (subst (λ w. Is w t) (sym all) p));
  }

  -- what the states say of the grammar
  pub reads_to : {R : Type 0} → (view : R → A) (answer : Result (R × ℕ) ReadStop) → RunTo m limit view tokens answer → ReadTo Is height limit view tokens answer
  reads_to view (Ok (tree, k)) r = record {
    stop = stops k r.0 r.1;
    is = law.found (take k tokens) (view tree) r.2;
    low = let same = law.same_height (reached m (take k tokens)) (view tree) r.2 in let low = r.0.2 in omega (arith, same, low);
  }
  reads_to view (Err (stop.Syntax k)) r = record {
    stop = stops k r.0 r.1;
    none = λ t p. none_some t (sym r.2 ∙ law.finds (take k tokens) t p);
    low = begins_within law (take k tokens) limit r.0.1 r.0.2;
  }
  reads_to view (Err (stop.High k)) r = high k r.0 r.1
  reads_to view (Err stop.NoMemory) r = tt

  pub reads_all : {R : Type 0} → (view : R → A) (answer : Result R ReadStop) → RunAll m limit view tokens answer → ReadAll Is height limit view tokens answer
  reads_all view (Ok tree) r =
      let all : take (length tokens) tokens ≡ tokens = take_all (length tokens) tokens (omega arith) in
      let same = law.same_height (reached m (take (length tokens) tokens)) (view tree) r.1 in
      let low = r.0.2 in
      (subst (λ w. Is w (view tree)) all (law.found (take (length tokens) tokens) (view tree) r.1), omega (arith, same, low))
  reads_all view (Err (stop.Syntax k)) r = fails k r.0 r.1 r.2
  reads_all view (Err (stop.High k)) r = high k r.0 r.1
  reads_all view (Err stop.NoMemory) r = tt

-- ---- no two answers stand together

same_number : (j k : ℕ) → j ≤ k → k ≤ j → j ≡ k
same_number j k a b = omega (arith, a, b)

module _ {T A : Type 0} (Is : List T → A → Type 0) (height : A → ℕ) (limit : ℕ) (tokens : List T) where
  stop_before : (j k : ℕ) → StopsAt Is tokens j → StopsAt Is tokens k → j ≤ k
  stop_before j k s t =
      elim (cases_lt k j) [
        | inl lt ↦ let within = s.within in absurd (t.through (omega (arith, within)) (begins_before Is tokens (k + 1) j (omega arith) s.before))
        | inr le ↦ le
      ]

  one_stop : (j k : ℕ) → StopsAt Is tokens j → StopsAt Is tokens k → j ≡ k
  one_stop j k s t = same_number j k (stop_before j k s t) (stop_before k j t s)

  high_before : (j k : ℕ) → HighAt Is height limit tokens j → HighAt Is height limit tokens k → j ≤ k
  high_before j k h g =
      elim (cases_lt k j) [
        | inl lt ↦ absurd (g.none (within_before Is height limit tokens (k + 1) j (omega arith) h.before))
        | inr le ↦ le
      ]

  one_high : (j k : ℕ) → HighAt Is height limit tokens j → HighAt Is height limit tokens k → j ≡ k
  one_high j k h g = same_number j k (high_before j k h g) (high_before k j g h)

  -- no text is too high before its stop, and none stops before it is too high
  stop_or_high : (j k : ℕ) → StopsAt Is tokens j → BeginsTextWithin Is height limit (take j tokens) → HighAt Is height limit tokens k → ⊥
  stop_or_high j k s low h =
      elim (cases_lt k j) [
        | inl lt ↦ h.none (within_before Is height limit tokens (k + 1) j (omega arith) low)
        | inr le ↦ let within = h.within in s.through (omega (arith, within)) (begins_before Is tokens (j + 1) (k + 1) (omega arith) h.through)
      ]

  failure_before : (j k : ℕ) → Fails Is height limit tokens j → Fails Is height limit tokens k → j ≤ k
  failure_before j k f g =
      elim (cases_lt k j) [
        | inl lt ↦
            let within = f.within in
            let b = f.before in
            absurd (g.through (omega (arith, within)) (begins_before Is tokens (k + 1) j (omega arith) (b.0, b.1, b.2)))
        | inr le ↦ le
      ]

  failure_or_high : (j k : ℕ) → Fails Is height limit tokens j → HighAt Is height limit tokens k → ⊥
  failure_or_high j k f h =
      elim (cases_lt k j) [
        | inl lt ↦ h.none (within_before Is height limit tokens (k + 1) j (omega arith) f.before)
        | inr le ↦ let within = h.within in f.through (omega (arith, within)) (begins_before Is tokens (j + 1) (k + 1) (omega arith) h.through)
      ]

  -- a text is refused nowhere
  text_or_failure : (t : A) (k : ℕ) → Is tokens t → Fails Is height limit tokens k → ⊥
  text_or_failure t k p f =
      elim (cases_lt k (length tokens)) [
        | inl lt ↦ f.through lt (begins_front Is tokens t (k + 1) p)
        | inr le ↦ let within = f.within in f.none (omega (arith, within)) t p
      ]

  module _ (one : IsUnambiguous Is) where
    both_read : (j k : ℕ) (t u : A) → Reads Is height limit tokens j t → Reads Is height limit tokens k u → (j ≡ k) × (t ≡ u)
    both_read j k t u r q =
        let same = one_stop j k r.stop q.stop in (same, one (take k tokens) t u (subst (λ n. Is (take n tokens) t) same r.is) q.is)

    pub one_reading : HasOneReading Is height limit tokens
    one_reading = record {
      one_text = both_read;
      one_misread = λ j k p q. one_stop j k p.stop q.stop;
      one_high = one_high;
      text_or_misread = λ j k t r q. let same = one_stop j k r.stop q.stop in q.none t (subst (λ n. Is (take n tokens) t) same r.is);
      text_or_high = λ j k t r h. stop_or_high j k r.stop (within_whole Is height limit (take j tokens) t r.is r.low) h;
      misread_or_high = λ j k q h. stop_or_high j k q.stop q.low h;
    }

    pub one_answer : HasOneAnswer Is height limit tokens
    one_answer = record {
      one_text = one tokens;
      one_failure = λ j k f g. same_number j k (failure_before j k f g) (failure_before k j g f);
      one_high = one_high;
      text_or_failure = text_or_failure;
      text_or_high = λ t k p low h. h.none (within_front Is height limit tokens t (k + 1) p low);
      failure_or_high = failure_or_high;
    }
