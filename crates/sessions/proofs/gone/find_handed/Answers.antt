use Rattle.std.proofs.Common.{sym, ap, ◌∙◌, map}
use Rattle.loops.specs.Found.{find, find-start, find-go, find-stop, find-end}
use Rattle.vdisk.specs.Ids.{handed}
use Rattle.std.proofs.lemmas.List.{length-map}
use Rattle.file_table.specs.Files.{id_of}
use Rattle.file_table.proofs.FileRows.{column-at}
use Rattle.sessions.specs.SessionLaws.{handed_at, finds-first}
use Rattle.sessions.proofs.gone.find_handed.Goals as goal

pub loop-j-init : goal.loop-j-init
loop-j-init c = find-start _ _

pub returns-then-is_handed : goal.returns-then-is_handed
returns-then-is_handed c =
    let fs = c.args.files.now in
    let h = ap handed (column-at id_of fs c.loop-j.j _ c.loop-j-test.true) ∙ sym c.is_handed.ensures ∙ c.if-is_handed.true in
    finds-first (map id_of fs) _ (find-stop _ _ _ _ c.loop-j.invariant c.loop-j-test.true h ∙ ap (find (handed_at (map id_of fs))) (sym (length-map fs id_of)))

pub loop-j-preserved : goal.loop-j-preserved
loop-j-preserved c =
    let h = ap handed (column-at id_of c.args.files.now c.loop-j.j _ c.loop-j-test.true) ∙ sym c.is_handed.ensures ∙ c.if-is_handed.false in
    find-go _ _ _ _ c.loop-j.invariant c.loop-j-test.true h

pub returns : goal.returns
returns c =
    let fs = c.args.files.now in
    finds-first (map id_of fs) _ (find-end _ _ _ _ c.loop-j.invariant c.loop-j-test.false ∙ ap (find (handed_at (map id_of fs))) (sym (length-map fs id_of)))
