use mathlib.Core.Path.{refl, sym, ◌∙◌, ap}
use lib.ListN.{length, length-set}
use Rattle.std.proofs.Common.{map, ◌<◌}
use Rattle.std.proofs.lemmas.List.{length-map}
use Rattle.file_table.specs.Files.{id_of}
use Rattle.file_table.proofs.FileRows.{column-at}
use native.Mathlib.Omega.{arith}
use Rattle.release.specs.Notes.{waits}
use Rattle.release.proofs.WaitLaws.{list-more, list-past, list-end}
use Rattle.release.proofs.notes.list_waiting.Goals.{then-is_waiting, else-is_waiting}
use Rattle.release.proofs.notes.list_waiting.Goals as goal

pub loop-j-init : goal.loop-j-init
loop-j-init c = (omega arith, refl, refl)

pub is_waiting-requires : goal.is_waiting-requires
is_waiting-requires c = tt

pub loop-j-preserved : goal.loop-j-preserved
loop-j-preserved c =
    let fs = c.args.files.now in
    let m = length-map fs id_of in
    let l : c.loop-j.j < length (map id_of fs) = omega arith in
    let i = column-at id_of fs c.loop-j.j _ c.loop-j-test.true in
    elim c.if-is_waiting.branch [
      | then-is_waiting w ↦ rw (w.rows-is, w.n-is) (omega arith, simp length-set c.loop-j.invariant.1, list-more (map id_of c.args.files.now) c.loop-j.rows c.loop-j.n c.loop-j.j c.loop-j.invariant.2 l (omega arith) (ap waits i ∙ sym c.is_waiting.ensures ∙ w.if-is_waiting.true))
      | else-is_waiting w ↦ rw (w.rows-is, w.n-is) (omega arith, c.loop-j.invariant.1, list-past (map id_of c.args.files.now) c.loop-j.rows c.loop-j.n c.loop-j.j c.loop-j.invariant.2 l (ap waits i ∙ sym c.is_waiting.ensures ∙ w.if-is_waiting.false))
    ]

pub returns : goal.returns
returns c = (omega arith, list-end (map id_of c.args.files.now) c.loop-j.rows c.loop-j.n c.loop-j.j c.loop-j.invariant.2 (omega (arith, length-map c.args.files.now id_of)))
