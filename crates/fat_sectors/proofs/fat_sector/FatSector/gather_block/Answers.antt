use mathlib.Core.Path.{sym, ap, ◌∙◌}
use native.Mathlib.Omega.{arith}
use Rattle.std.proofs.lemmas.List.{length-map}
use Rattle.refusals.proofs.Numbers.{refused}
use Rattle.file_table.specs.Files.{start_of}
use Rattle.fat_sectors.specs.FatLaws.{freed_by-lt}
use Rattle.fat_sectors.specs.Gathered.{judged_as, needs, frees}
use Rattle.refusals.proofs.Numbers.{told-err}
use Rattle.fat_sectors.proofs.Passed.{on-err}
use Rattle.fat_sectors.proofs.GatherLaws.{gathered-same, gathered-passes, gathered-needs, gathered-frees, gathered-refused, need-le}
use Rattle.fat_sectors.proofs.fat_sector.FatSector.gather_block.Goals.{in-Passes, in-NeedsPair, in-Frees}
use Rattle.fat_sectors.proofs.fat_sector.FatSector.gather_block.Goals as goal

pub loop-i-preserved-then-not-is_changed : goal.loop-i-preserved-then-not-is_changed
loop-i-preserved-then-not-is_changed c =
    gathered-same (judged_as c.args.self.now) c.loop-i.i c.loop-i.gathered c.loop-i.invariant (sym c.is_changed.ensures ∙ c.if-not-is_changed.true)

pub returns-in_err-entry-clause-refused : goal.returns-in_err-entry-clause-refused
returns-in_err-entry-clause-refused c =
    let q = gathered-refused (judged_as c.args.self.now) c.loop-i.i _ c.loop-i.gathered c.loop-i.invariant (omega arith) c.in_err-entry.ensures.number (refused _) in
    on-err _ (told-err _ _ c.from_residual.ensures.1 ∙ q)

pub overflow_add-gathered : goal.overflow_add-gathered
overflow_add-gathered c = omega (arith, need-le (judged_as c.args.self.now) c.loop-i.i c.loop-i.gathered c.loop-i.invariant)

pub bounds-gathered-j : goal.bounds-gathered-j
bounds-gathered-j c =
    let x = judged_as c.args.self.now in
    let f = sym c.in_ok-entry.ensures.frees ∙ ap frees c.in-Frees.is in
    omega (arith, freed_by-lt x c.loop-i.i c.in-Frees.j f, length-map c.args.self.now.files.rows.now start_of, c.args.self.now.few)

pub loop-i-preserved : goal.loop-i-preserved
loop-i-preserved c =
    let x = judged_as c.args.self.now in
    let i = c.loop-i.i in
    let g = c.loop-i.gathered in
    let o = c.in_ok-entry.ensures in
    let t = sym o.number in
    elim c.match-branch-2.branch [
      | in-Passes w ↦ rw w.gathered-is (gathered-passes x i g c.loop-i.invariant t (sym o.needs ∙ ap needs w.in-Passes.is) (sym o.frees ∙ ap frees w.in-Passes.is))
      | in-NeedsPair w ↦ rw w.gathered-is (gathered-needs x i g c.loop-i.invariant t (sym o.needs ∙ ap needs w.in-NeedsPair.is) (sym o.frees ∙ ap frees w.in-NeedsPair.is))
      | in-Frees w ↦
          let f = sym o.frees ∙ ap frees w.in-Frees.is in
          let l = freed_by-lt x i w.in-Frees.j f in
          let m = length-map c.args.self.now.files.rows.now start_of in
          let n = sym o.needs ∙ ap needs w.in-Frees.is in
          rw w.gathered-is (gathered-frees x i g c.loop-i.invariant t w.in-Frees.j (omega (arith, l, m, c.args.self.now.few)) n f)
    ]
