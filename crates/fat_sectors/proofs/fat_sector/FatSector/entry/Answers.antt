use mathlib.Core.Path.{sym, ◌∙◌}
use native.Mathlib.Omega.{arith}
use Rattle.std.proofs.lemmas.List.{length-map}
use Rattle.std.proofs.lemmas.Result.{IfOk-weaker}
use Rattle.vdisk.specs.OwnerLaws.{owner-is}
use Rattle.file_table.specs.Files.{start_of}
use Rattle.fat_sectors.specs.Fat.{own_number}
use Rattle.fat_sectors.specs.Gathered.{judged_as}
use Rattle.fat_sectors.proofs.EntryLaws.{number-by, number-low, needs-low, frees-low, number-live, needs-live, frees-live, number-gone, needs-gone, frees-gone, number-free, needs-free, frees-free}
use Rattle.fat_sectors.proofs.fat_sector.FatSector.entry.Goals as goal

pub returns-then-c-lt2-clause-number : goal.returns-then-c-lt2-clause-number
returns-then-c-lt2-clause-number c =
    c.reserved_entry.ensures.number ∙ number-low (judged_as c.args.self.now) c.args.i c.requires.changed.1 c.if-c-lt2.true c.value-v.result c.value-v.ensures

pub returns-then-c-lt2-clause-needs : goal.returns-then-c-lt2-clause-needs
returns-then-c-lt2-clause-needs c =
    IfOk-weaker c.reserved_entry.result _ _ (λ e h. rw h (needs-low (judged_as c.args.self.now) c.args.i c.requires.changed.1 c.if-c-lt2.true)) c.reserved_entry.ensures.entry

pub returns-then-c-lt2-clause-frees : goal.returns-then-c-lt2-clause-frees
returns-then-c-lt2-clause-frees c =
    IfOk-weaker c.reserved_entry.result _ _ (λ e h. rw h (frees-low (judged_as c.args.self.now) c.args.i c.requires.changed.1 c.if-c-lt2.true)) c.reserved_entry.ensures.entry

pub ours_live-requires : goal.ours_live-requires
ours_live-requires c = omega (arith, (owner-is _ _ _ _ _ (sym c.owner.ensures ∙ c.in-Dyn.is)).row, length-map c.args.self.now.files.rows.now start_of)

pub file_entry-requires-clause-row : goal.file_entry-requires-clause-row
file_entry-requires-clause-row c =
    omega (arith, (owner-is _ _ _ _ _ (sym c.owner.ensures ∙ c.in-Dyn.is)).row, length-map c.args.self.now.files.rows.now start_of)

pub returns-then-ours_live-clause-number : goal.returns-then-ours_live-clause-number
returns-then-ours_live-clause-number c =
    c.file_entry.ensures.number
    ∙ rw c.value-v.ensures (number-live (judged_as c.args.self.now) c.args.i c.requires.changed.1 c.in-Dyn.j (sym c.owner.ensures ∙ c.in-Dyn.is) (sym c.ours_live.ensures ∙ c.if-ours_live.true))

pub returns-then-ours_live-clause-needs : goal.returns-then-ours_live-clause-needs
returns-then-ours_live-clause-needs c =
    let n = needs-live (judged_as c.args.self.now) c.args.i c.requires.changed.1 c.in-Dyn.j (sym c.owner.ensures ∙ c.in-Dyn.is) (sym c.ours_live.ensures ∙ c.if-ours_live.true) in
    IfOk-weaker c.file_entry.result _ _ (λ e h. rw h n) c.file_entry.ensures.entry

pub returns-then-ours_live-clause-frees : goal.returns-then-ours_live-clause-frees
returns-then-ours_live-clause-frees c =
    let n = frees-live (judged_as c.args.self.now) c.args.i c.requires.changed.1 c.in-Dyn.j (sym c.owner.ensures ∙ c.in-Dyn.is) (sym c.ours_live.ensures ∙ c.if-ours_live.true) in
    IfOk-weaker c.file_entry.result _ _ (λ e h. rw h n) c.file_entry.ensures.entry

pub returns-in-Reserved-clause-number : goal.returns-in-Reserved-clause-number
unfolding own_number
returns-in-Reserved-clause-number c =
    sym (number-by (judged_as c.args.self.now) c.args.i c.requires.changed.1 _ (sym c.owner.ensures ∙ c.in-Reserved.is) (omega arith))

pub returns-in-Fixed-clause-number : goal.returns-in-Fixed-clause-number
unfolding own_number
returns-in-Fixed-clause-number c =
    sym (number-by (judged_as c.args.self.now) c.args.i c.requires.changed.1 _ (sym c.owner.ensures ∙ c.in-Fixed.is) (omega arith))

pub returns-else-ours_live-clause-number : goal.returns-else-ours_live-clause-number
returns-else-ours_live-clause-number c =
    c.host_entry.ensures.number
    ∙ rw c.value-v.ensures (number-gone (judged_as c.args.self.now) c.args.i c.requires.changed.1 c.in-Dyn.j (sym c.owner.ensures ∙ c.in-Dyn.is) (sym c.ours_live.ensures ∙ c.if-ours_live.false))

pub returns-else-ours_live-clause-needs : goal.returns-else-ours_live-clause-needs
returns-else-ours_live-clause-needs c =
    let n = needs-gone (judged_as c.args.self.now) c.args.i c.requires.changed.1 c.in-Dyn.j (sym c.owner.ensures ∙ c.in-Dyn.is) (sym c.ours_live.ensures ∙ c.if-ours_live.false) in
    IfOk-weaker c.host_entry.result _ _ (λ e h. h ∙ rw c.value-v.ensures n) c.host_entry.ensures.needs

pub returns-else-ours_live-clause-frees : goal.returns-else-ours_live-clause-frees
returns-else-ours_live-clause-frees c =
    let n = frees-gone (judged_as c.args.self.now) c.args.i c.requires.changed.1 c.in-Dyn.j (sym c.owner.ensures ∙ c.in-Dyn.is) (sym c.ours_live.ensures ∙ c.if-ours_live.false) in
    IfOk-weaker c.host_entry.result _ _ (λ e h. h ∙ n) c.host_entry.ensures.frees

pub returns-in-Free-clause-number : goal.returns-in-Free-clause-number
returns-in-Free-clause-number c =
    c.host_entry-in-Free.ensures.number
    ∙ rw c.value-v.ensures (number-free (judged_as c.args.self.now) c.args.i c.requires.changed.1 (sym c.owner.ensures ∙ c.in-Free.is) (omega arith))

pub returns-in-Free-clause-needs : goal.returns-in-Free-clause-needs
returns-in-Free-clause-needs c =
    let n = needs-free (judged_as c.args.self.now) c.args.i c.requires.changed.1 (sym c.owner.ensures ∙ c.in-Free.is) in
    IfOk-weaker c.host_entry-in-Free.result _ _ (λ e h. h ∙ rw c.value-v.ensures n) c.host_entry-in-Free.ensures.needs

pub returns-in-Free-clause-frees : goal.returns-in-Free-clause-frees
returns-in-Free-clause-frees c =
    let n = frees-free (judged_as c.args.self.now) c.args.i c.requires.changed.1 (sym c.owner.ensures ∙ c.in-Free.is) in
    IfOk-weaker c.host_entry-in-Free.result _ _ (λ e h. h ∙ n) c.host_entry-in-Free.ensures.frees
