-- `refill` meets its contract: the first pass, then places for those that are not kept. Assumes nothing.
use Prim.Native.Nat.{ℕ, ◌*◌}
use mathlib.Core.Path.{◌≡◌, refl, ap, ◌∙◌, sym, subst}
use mathlib.Core.List.{List, []}
use native.Mathlib.Omega.{arith}
use lib.ListN.{length, length-replicate}
use lib.Seq.{length-take-le}
use Rattle.records.specs.Records.{circuits_in}
use Rattle.placing.specs.Riding.{spans_of}
use Rattle.placing.specs.Turns.{recorded, InTurn}
use Rattle.additions.specs.Adding.{give}
use Rattle.parts.proofs.Leaving.{places_lent}
use Rattle.mender.specs.inner.Steps.{kept_of}
use Rattle.mender.proofs.Refilling.{first_from_one, length_kept, lost_in_turn, refilled_all}
use Rattle.mender.proofs.refill.refill.Goals as goal

pub sift-k-requires : goal.sift-k-requires
sift-k-requires c =
    let p = c.requires in record {
      register = p.register;
      room = (p.room.0, omega (arith, length-replicate {A = ℕ} 4096 0), p.room.1, refl);
    }

pub place_all-requires : goal.place_all-requires
place_all-requires c =
    let sift = c.sift-k in
    let a = c.args in
    let A = a.assigns.now in
    let F = a.fibres.now in
    let s = a.circuits.now in
    let p = c.requires in
    let reg = p.register.1 in
    let y = sift.ensures in
    let k = sift.result in
    let table = sift.new.turns in
    let long : length table ≡ 4096 = sift.auto.turns ∙ length-replicate {A = ℕ} 4096 0 in
    let back = places_lent _ table k y.their_turns in
    let K = kept_of a.w a.m a.many s F A in record {
      room = (
        reg.accepted.file.whole,
        length-take-le (2 * k) table (omega arith),
        reg.fibres_there,
        omega arith,
        omega arith,
        first_from_one p.register.0 a.w a.m a.many s F A reg,
        omega arith,
      );
      riding = (
        [],
        K,
        refl,
        length_kept p.register.0 a.w a.m a.many s F A reg,
        subst (InTurn a.m K) (sym back) (lost_in_turn p.register.0 a.w a.m a.many s F A reg),
        y.riding,
      );
    }

pub returns : goal.returns
returns c =
    let sift = c.sift-k in
    let place-all = c.place_all in
    let a = c.args in
    let A = a.assigns.now in
    let F = a.fibres.now in
    let s = a.circuits.now in
    let p = c.requires in
    let reg = p.register.1 in
    let y = sift.ensures in
    let k = sift.result in
    let table = sift.new.turns in
    let back = places_lent _ table k y.their_turns in
    let K = kept_of a.w a.m a.many s F A in
    let cs = circuits_in a.m s in
    let z = place-all.ensures [] K refl
    (length_kept p.register.0 a.w a.m a.many s F A reg)
    (subst (InTurn a.m K) (sym back) (lost_in_turn p.register.0 a.w a.m a.many s F A reg)) y.riding in
    refilled_all p.register.0 a.w a.m a.many s F A reg _
    (z.said ∙ ap (λ (x : List ℕ). recorded cs 0 (give (spans_of a.many F) a.w [] cs x K) x A) back) a.report.now _ k y.many_lost y.few_lost y.begun
