-- All that is promised of mending holds. Assumes nothing.
use Prim.Native.Nat.{◌<◌, ℕ}
use lib.ListN.{length}
use mathlib.Core.Bool.{false}
use mathlib.Core.List.{List}
use mathlib.Core.Path.{◌∙◌, ◌≡◌, ap, ap₂, refl, subst, sym}
use Rattle.records.specs.declared.AssignmentRecord.{AssignmentRecord}
use Rattle.records.specs.declared.Circuit.{Circuit}
use Rattle.method.specs.Line.{Assignment, Fibre, Valid}
use Rattle.register.specs.Lists.{counts_of}
use Rattle.mending.specs.Mended.{Mended, reported}
use Rattle.mending.specs.MendDemands.{MendDemand, Mendable, nothing_reported}
use Rattle.mending.specs.Mending.{mend, mend_counts, mend_lines, mended_records, record_of}
use Rattle.mending.proofs.Mended.{kept_given, mend_few, mend_lines_lem, mend_on_line, mend_valid, mends}
use Rattle.mending.proofs.Orders.{mend_any_order, mend_any_report}
use Rattle.mending.proofs.Pinned.{mended_pins}
use Rattle.mending.proofs.Sound.{record_is, records_hold, records_named, sound_stays}

module _ (n w : ℕ) (fs : List Fibre) (cs : List Circuit) (rs : List AssignmentRecord) (a : Mendable n w cs) where
  -- a record that is kept is as it was
  record_kept : (j : ℕ) → j < length cs → reported cs (mend n w fs cs rs) j ≡ false → record_of (mended_records n w fs cs rs) j ≡ record_of rs j
  record_kept j l e =
      let y : Mended n w fs cs rs (mend n w fs cs rs) = mends n w fs cs rs a.waves a.lies a.once a.from_one in
      record_is cs (mend n w fs cs rs).plan j l
      ∙ ap₂ (λ (m : ℕ) (g : Assignment). let r : AssignmentRecord = record { circuit = m; fibre = g.fibre; wavelength = g.wavelength } in r)
      (sym (y.kept_only j l e).0) (kept_given n w fs cs rs a.waves a.lies a.once a.from_one j l e)

  -- mending twice is mending once
  mended_stays : mend n w (mend n w fs cs rs).plan.fibres cs (mended_records n w fs cs rs) ≡ nothing_reported (mend n w fs cs rs).plan
  mended_stays =
      let p = (mend n w fs cs rs).plan in
      let v : Valid w cs p = mend_valid n w fs cs rs a.waves a.lies in
      let held = records_hold cs p v.all_assigned in
      sound_stays n w p.fibres cs (mended_records n w fs cs rs) a.waves a.lies a.once a.from_one (records_named cs p) (subst (Valid w cs) (sym held) v)
      ∙ ap nothing_reported held

-- ALL THAT IS PROMISED OF MENDING
pub mend_demand : (n w : ℕ) (fs : List Fibre) (cs : List Circuit) (rs : List AssignmentRecord) → Mendable n w cs → MendDemand n w fs cs rs
unfolding mend mend_counts mend_lines counts_of
mend_demand n w fs cs rs a =
    let y : Mended n w fs cs rs (mend n w fs cs rs) = mends n w fs cs rs a.waves a.lies a.once a.from_one in
    record {
      mended = y;
      no_other = λ M z. mended_pins n w fs cs rs a.waves a.lies a.once M (mend n w fs cs rs) z y;
      valid = mend_valid n w fs cs rs a.waves a.lies;
      on_line = mend_on_line n w fs cs rs a.waves a.lies;
      few_fibres = mend_few n w fs cs rs a.waves a.lies a.once a.from_one;
      any_order = mend_any_order n w fs cs rs a.waves a.lies a.once;
      any_report = mend_any_report n w fs cs rs a.waves a.lies a.once;
      fibres_are = refl;
      total_is = refl;
      floor_is = refl;
      lines_are = refl;
      one_line_each = mend_lines_lem n w fs cs rs a.waves a.lies a.once a.from_one;
      names_own = records_named cs (mend n w fs cs rs).plan;
      record_kept = record_kept n w fs cs rs a;
      sound_stays = sound_stays n w fs cs rs a.waves a.lies a.once a.from_one;
      mended_stays = mended_stays n w fs cs rs a;
    }
