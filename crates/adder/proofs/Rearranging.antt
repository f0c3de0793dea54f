-- Two files whose records are rearranged, each within itself, and a valid plan whose assignments go with them. Assumes nothing.
use Prim.Native.Nat.{ℕ, ◌+◌, ◌-◌, ◌<◌}
use mathlib.Core.Path.{◌≡◌, ap, ap₂, ◌∙◌, sym}
use mathlib.Core.Bool.{cond}
use mathlib.Core.List.{List, ◌++◌}
use native.Mathlib.Omega.{arith}
use lib.ListN.{get_or, length, length-append}
use lib.Dec.{ltb}
use borrow.Author.Tests.{le-ltb, lt-ltb}
use Rattle.records.specs.declared.Circuit.{Circuit}
use Rattle.method.specs.Demands.{Rearranged}
use Rattle.method.specs.Line.{Assignment, Fibre, Plan, Valid, assigned, circuit, fibre_under, no_fibre, overlap}
use Rattle.places.proofs.TwoFiles.{circuit_new, circuit_old, old_or_new}
use Rattle.additions.specs.AddDemands.{Permuted}

-- a rearrangement, the other way
abbrev turned : {cs ds : List Circuit} → Rearranged cs ds → Rearranged ds cs
turned h = record { there = h.back; back = h.there; to = h.fro; fro = h.to }

-- a place of two files: one of k old ones goes as f says, a new one as g says, behind k' old ones
shifted : ℕ → ℕ → (ℕ → ℕ) → (ℕ → ℕ) → ℕ → ℕ
shifted k k' f g i = cond (ltb i k) (f i) (k' + g (i - k))

shifted_old : (k k' : ℕ) (f g : ℕ → ℕ) (i : ℕ) → i < k → shifted k k' f g i ≡ f i
unfolding shifted
shifted_old k k' f g i h = rw (lt-ltb i k h)

shifted_new : (k k' : ℕ) (f g : ℕ → ℕ) (t : ℕ) → shifted k k' f g (k + t) ≡ k' + g t
unfolding shifted
shifted_new k k' f g t = let z : k + t - k ≡ t = omega arith in rw (le-ltb (k + t) k (omega arith), z)

-- each circuit of two files is in the rearranged ones
there_and_back : (cs ds cs' ds' : List Circuit) (a : Rearranged cs cs') (b : Rearranged ds ds') (i : ℕ) → i < length (cs ++ ds)
    → (shifted (length cs) (length cs') a.there b.there i < length (cs' ++ ds'))
    × (shifted (length cs') (length cs) a.back b.back (shifted (length cs) (length cs') a.there b.there i) ≡ i)
    × (circuit (cs ++ ds) i ≡ circuit (cs' ++ ds') (shifted (length cs) (length cs') a.there b.there i))
there_and_back cs ds cs' ds' a b i l =
    let there : ℕ → ℕ = shifted (length cs) (length cs') a.there b.there in
    let back : ℕ → ℕ = shifted (length cs') (length cs) a.back b.back in
    let many = length-append cs' ds' in
    old_or_new cs ds i l
    (λ h.
    let e = shifted_old (length cs) (length cs') a.there b.there i h in
    let t = a.to i h in
    let t₀ = t.0 in (
      omega arith,
      ap back e ∙ shifted_old (length cs') (length cs) a.back b.back (a.there i) t.0 ∙ t.1,
      circuit_old cs ds i h ∙ t.2 ∙ sym (ap (circuit (cs' ++ ds')) e ∙ circuit_old cs' ds' (a.there i) t.0),
    ))
    (λ d h q.
    let e = ap there q ∙ shifted_new (length cs) (length cs') a.there b.there d in
    let t = b.to d h in
    let t₀ = t.0 in (
      omega arith,
      ap back e ∙ shifted_new (length cs') (length cs) a.back b.back (b.there d) ∙ ap (λ (x : ℕ). length cs + x) t.1 ∙ sym q,
      ap (circuit (cs ++ ds)) q ∙ circuit_new cs ds d ∙ t.2 ∙ sym (ap (circuit (cs' ++ ds')) e ∙ circuit_new cs' ds' (b.there d)),
    ))

-- so the joined files are rearranged
pub both_rearranged : (cs ds cs' ds' : List Circuit) → Rearranged cs cs' → Rearranged ds ds' → Rearranged (cs ++ ds) (cs' ++ ds')
both_rearranged cs ds cs' ds' a b =
    record {
      there = shifted (length cs) (length cs') a.there b.there;
      back = shifted (length cs') (length cs) a.back b.back;
      to = there_and_back cs ds cs' ds' a b;
      fro = there_and_back cs' ds' cs ds (turned a) (turned b);
    }

-- where an old circuit goes
pub old_there : (cs ds cs' ds' : List Circuit) (a : Rearranged cs cs') (b : Rearranged ds ds') (i : ℕ) → i < length cs → (both_rearranged cs ds cs' ds' a b).there i ≡ a.there i
unfolding both_rearranged
old_there cs ds cs' ds' a b i h = shifted_old (length cs) (length cs') a.there b.there i h

-- where a new one goes
pub new_there : (cs ds cs' ds' : List Circuit) (a : Rearranged cs cs') (b : Rearranged ds ds') (t : ℕ) → (both_rearranged cs ds cs' ds' a b).there (length cs + t) ≡ length cs' + b.there t
unfolding both_rearranged
new_there cs ds cs' ds' a b t = shifted_new (length cs) (length cs') a.there b.there t

-- a valid plan stays valid if the assignments go with their circuits
pub permuted_valid : (w : ℕ) (cs : List Circuit) (p : Plan) (cs' : List Circuit) (p' : Plan) → Permuted cs p cs' p' → Valid w cs p → Valid w cs' p'
unfolding fibre_under
permuted_valid w cs p cs' p' same v =
    let h = same.records in
    let given : (j : ℕ) → j < length cs' → assigned p' j ≡ assigned p (h.back j) =
    λ j l. let x = h.fro j l in sym (same.assigned_same (h.back j) x.0 ∙ ap (assigned p') x.1) in
    record {
      all_assigned = same.one_each;
      numbered = λ j l.
          let r = v.numbered (h.back j) (h.fro j l).0 in
          let e = ap (λ (g : Assignment). g.fibre) (given j l) in
          (omega (arith, e, r.0), omega (arith, e, r.1, ap length same.fibres_same));
      within = λ j l.
          let x = h.fro j l in
          let r = v.within (h.back j) x.0 in
          let e : fibre_under p' j ≡ fibre_under p (h.back j) =
          ap₂ (λ (fs : List Fibre) (g : Assignment). get_or fs (g.fibre - 1) no_fibre) (sym same.fibres_same) (given j l) in
          let a = ap (λ (f : Fibre). f.first) e in
          let b = ap (λ (f : Fibre). f.last) e in
          let c = ap (λ (c : Circuit). c.first) x.2 in
          let d = ap (λ (c : Circuit). c.last) x.2 in
          (omega (arith, a, c, r.0), omega (arith, b, d, r.1));
      wavelength_in = λ j l.
          let r = v.wavelength_in (h.back j) (h.fro j l).0 in
          let e = ap (λ (g : Assignment). g.wavelength) (given j l) in
          (omega (arith, e, r.0), omega (arith, e, r.1));
      apart = λ i j a b d o e f.
          let x = h.fro i a in
          let y = h.fro j b in
          v.apart (h.back i) (h.back j) x.0 y.0 (λ z. d (sym x.1 ∙ ap h.there z ∙ y.1))
          (sym (ap₂ overlap x.2 y.2) ∙ o)
          (ap (λ (g : Assignment). g.fibre) (sym (given i a)) ∙ e ∙ ap (λ (g : Assignment). g.fibre) (given j b))
          (ap (λ (g : Assignment). g.wavelength) (sym (given i a)) ∙ f ∙ ap (λ (g : Assignment). g.wavelength) (given j b));
    }
