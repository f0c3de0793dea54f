-- Both files of circuits as one: it passes the tests, and has the floor of both. Assumes nothing.
use Prim.Native.Nat.{◌*◌, ◌+◌, ◌≤◌, ℕ}
use lib.ListN.{get_or-append, get_or, length, length-append, take}
use lib.Seq.{get_or-append-add, take_at}
use mathlib.Core.List.{List, ◌++◌}
use mathlib.Core.Path.{◌∙◌, ◌≡◌, ap, subst, sym}
use native.Mathlib.Omega.{arith}
use Rattle.method.specs.Fibres.{floor}
use Rattle.method.specs.Line.{Distinct, Lies, circuit, nobody}
use Rattle.places.proofs.TwoFiles.{old_or_new}
use Rattle.records.specs.Records.{circuits_in}
use Rattle.records.specs.declared.Circuit.{Circuit}
use Rattle.rows.specs.Accepted.{Accepted}
use Rattle.two_files.proofs.JoinLaws.{joined_circuits}

-- both lie on the line
lies_both : (n : ℕ) (cs ds : List Circuit) → Lies n cs → Lies n ds → Lies n (cs ++ ds)
unfolding circuit
lies_both n cs ds a b j l =
    old_or_new cs ds j l (λ q. rw (get_or-append cs ds nobody j q) (a j q))
    (λ i q e. let z : get_or (cs ++ ds) j nobody ≡ get_or ds i nobody = ap (λ x. get_or (cs ++ ds) x nobody) e ∙ get_or-append-add cs ds i nobody in rw z (b i q))

-- the joined file passes as one
pub joined_accepted : (n w k m e : ℕ) (old new joined rest : List ℕ) → Accepted n w k old → Accepted n w m new → k + m ≤ 2048 → Distinct (circuits_in k old ++ circuits_in m new)
    → e ≡ length (old ++ new) → joined ≡ (old ++ new) ++ rest → Accepted n w (k + m) (take e joined)
joined_accepted n w k m e old new joined rest a b few once long is =
    let q = a.file.whole in
    let r = b.file.whole in
    let l = length-append old new in
    let s : take e joined ≡ old ++ new = ap (take e) is ∙ take_at (old ++ new) rest e (sym long) in
    let cs : circuits_in (k + m) (take e joined) ≡ circuits_in k old ++ circuits_in m new = ap (circuits_in (k + m)) s ∙ joined_circuits old new k m (sym q) in
    record {
      file = record {
        line = a.file.line;
        few = few;
        whole = ap length s ∙ omega arith;
        lies = subst (Lies n) (sym cs) (lies_both n (circuits_in k old) (circuits_in m new) a.file.lies b.file.lies);
        distinct = subst Distinct (sym cs) once;
      };
      waves = a.waves;
    }

-- there is room for it in the list where it was written
pub joined_room : (e : ℕ) (both joined rest : List ℕ) → e ≡ length both → joined ≡ both ++ rest → e ≤ length joined
joined_room e both joined rest long is = let n = ap length is ∙ length-append both rest in omega arith

-- and has the floor of both
pub joined_floor : (n w k m e : ℕ) (old new joined rest : List ℕ) (r : ℕ) → length old ≡ 8 * k → e ≡ length (old ++ new) → joined ≡ (old ++ new) ++ rest
    → r ≡ floor n w (circuits_in (k + m) (take e joined)) → r ≡ floor n w (circuits_in k old ++ circuits_in m new)
joined_floor n w k m e old new joined rest r q long is is-floor =
    is-floor ∙ ap (λ x. floor n w (circuits_in (k + m) x)) (ap (take e) is ∙ take_at (old ++ new) rest e (sym long)) ∙ ap (floor n w) (joined_circuits old new k m (sym q))
