-- The records that are written, one by one. Assumes nothing.
use Prim.Native.Nat.{◌+◌, ◌*◌, ◌<◌, ◌≤◌, ℕ}
use lib.ListN.{drop, length, replicate, take}
use mathlib.Core.List.{List, [], ◌∷◌}
use mathlib.Core.Logic.{⊎_elim}
use mathlib.Core.Path.{◌∙◌, ◌≡◌, ap, refl, subst, sym}
use native.Mathlib.Omega.{arith}
use Rattle.basics.proofs.Bools.{by_eq}
use Rattle.records.specs.Records.{put_record, record_at}
use Rattle.records.specs.declared.Circuit.{Circuit}
use Rattle.method.specs.Line.{Assignment, Distinct, Plan, unassigned}
use Rattle.order.specs.Order.{Ordered}
use Rattle.places.specs.Places.{Rider, given_to, riders}
use Rattle.places.specs.Turns.{number}
use Rattle.places.proofs.RiderLaws.{length_riders, rider_is}
use Rattle.places.proofs.RisingLaws.{Each, each_of}
use Rattle.additions.specs.Adding.{give, places_found}
use Rattle.placing.specs.Riding.{Among, NoneRides}
use Rattle.placing.specs.Turns.{AllWritten, given_bytes, recorded}
use Rattle.records.proofs.RecordLaws.{before_put, behind_put, length_put_record, record_other, record_same}
use Rattle.placing.proofs.Orderly.{among_at, given_are_found, none_at}

-- nobody of a file that has no places yet rides
pub none_yet : (ds : List Circuit) (m : ℕ) → NoneRides (riders ds (replicate m unassigned))
none_yet ds m d l = ap (λ (r : Rider). r.fibre) (rider_is ds (replicate m unassigned) d (omega (arith, length_riders ds (replicate m unassigned)))) ∙ ap (λ (g : Assignment). g.fibre) (none_at m d)

module _ (ds : List Circuit) (b : ℕ) (gs : List Assignment) where
  -- what the writing of any record keeps is kept
  pub recorded_keeps : (I : List ℕ → Type 0) (m : ℕ) (js : List ℕ) (s : List ℕ) → Each (λ j. j < m) js → 8 * (b + m) ≤ length s
      → ((t : List ℕ) (j : ℕ) → j < m → length t ≡ length s → I t → I (put_record t (b + j) (given_bytes ds j (given_to gs j)))) → I s → I (recorded ds b gs js s)
  unfolding recorded
  recorded_keeps I m [] s e room k i = i
  recorded_keeps I m (j ∷ js) s e room k i =
      let e₀ = e.0 in
      let n = length_put_record s (b + j) (given_bytes ds j (given_to gs j)) (omega arith) refl in
      recorded_keeps I m js (put_record s (b + j) (given_bytes ds j (given_to gs j))) e.1 (omega arith) (λ t d l q. k t d l (q ∙ n)) (k s j e.0 refl i)

  -- the record of each of them says what it is given
  pub recorded_at : (m : ℕ) (js : List ℕ) (s : List ℕ) → Each (λ j. j < m) js → 8 * (b + m) ≤ length s → (d : ℕ) → d < m → Among d js → record_at (recorded ds b gs js s) (b + d) ≡ given_bytes ds d (given_to gs d)
  unfolding recorded
  recorded_at m [] s e room d l a = absurd a
  recorded_at m (j ∷ js) s e room d l a =
      let e₀ = e.0 in
      let n = length_put_record s (b + j) (given_bytes ds j (given_to gs j)) (omega arith) refl in
      ⊎_elim {C = record_at (recorded ds b gs js (put_record s (b + j) (given_bytes ds j (given_to gs j)))) (b + d) ≡ given_bytes ds d (given_to gs d)}
      (λ i.
      recorded_keeps (λ t. record_at t (b + d) ≡ given_bytes ds d (given_to gs d)) m js (put_record s (b + j) (given_bytes ds j (given_to gs j))) e.1 (omega arith)
      (λ t k x q y.
      by_eq d k (λ z. ap (λ v. record_at (put_record t (b + k) (given_bytes ds k (given_to gs k))) (b + v)) z ∙ record_same t (b + k) (given_bytes ds k (given_to gs k)) (omega arith) refl ∙ ap (λ v. given_bytes ds v (given_to gs v)) (sym z))
      (λ z. record_other t (b + k) (given_bytes ds k (given_to gs k)) (b + d) (omega arith) refl (omega arith) ∙ y))
      (ap (λ v. record_at (put_record s (b + j) (given_bytes ds j (given_to gs j))) (b + v)) i ∙ record_same s (b + j) (given_bytes ds j (given_to gs j)) (omega arith) refl ∙ ap (λ v. given_bytes ds v (given_to gs v)) (sym i)))
      (λ i. recorded_at m js (put_record s (b + j) (given_bytes ds j (given_to gs j))) e.1 (omega arith) d l i)
      a

  -- if each circuit of the file is among them, all are written
  pub recorded_all : (js : List ℕ) (s : List ℕ) → Each (λ j. j < length ds) js → ((d : ℕ) → d < length ds → Among d js) → 8 * (b + length ds) ≤ length s → AllWritten ds b gs s (recorded ds b gs js s)
  recorded_all js s e all room =
      record {
        sized = recorded_keeps (λ t. length t ≡ length s) (length ds) js s e room (λ t j l q y. length_put_record t (b + j) (given_bytes ds j (given_to gs j)) (omega arith) refl ∙ y) refl;
        olds = recorded_keeps (λ t. take (8 * b) t ≡ take (8 * b) s) (length ds) js s e room (λ t j l q y. before_put t (b + j) (given_bytes ds j (given_to gs j)) (8 * b) (omega arith) (omega arith) ∙ y) refl;
        news = λ j l. recorded_at (length ds) js s e room j l (all j l);
        rest = recorded_keeps (λ t. drop (8 * (b + length ds)) t ≡ drop (8 * (b + length ds)) s) (length ds) js s e room (λ t j l q y. behind_put t (b + j) (given_bytes ds j (given_to gs j)) (8 * (b + length ds)) (omega arith) (omega arith) refl ∙ y) refl;
      }

-- AN ADDITION'S TURNS, as `order` has them: the new records say what R-2's definition gives
pub found_written : (w m : ℕ) (cs : List Circuit) (p : Plan) (ds : List Circuit) (P s s' : List ℕ) (b : ℕ) → length P ≡ m → length ds ≡ m → Distinct ds → ((j : ℕ) → j < m → 1 ≤ number ds j) → Ordered m ds P
    → 8 * (b + m) ≤ length s → s' ≡ recorded ds b (give p.fibres w (riders cs p.assignments) ds P (replicate m unassigned)) P s → AllWritten ds b (places_found w cs p ds) s s'
found_written w m cs p ds P s s' b n k once pos o room e =
    subst (AllWritten ds b (places_found w cs p ds) s) (sym (e ∙ ap (λ g. recorded ds b g P s) (given_are_found w m cs p ds P n k once pos o)))
    (recorded_all ds b (places_found w cs p ds) P s (each_of (λ j. j < length ds) P (λ t l. let y = o.there.places t (omega arith) in omega arith))
    (λ d l. let y = o.there.all d (omega arith) in let y₁ = y.1 in subst (λ x. Among x P) y.2 (among_at P y.0 (omega arith))) (omega arith))
