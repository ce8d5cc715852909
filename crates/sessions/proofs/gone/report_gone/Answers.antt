use Rattle.std.proofs.Common.{sym, ap, refl, ◌∙◌, map, set}
use borrow.Author.Tests.{le-leb, lt-leb, lt-ltb, le-ltb}
use Rattle.vdisk.specs.Ids.{handed}
use Rattle.bits.specs.Bit.{set_bit}
use Rattle.std.proofs.lemmas.List.{length-map}
use Rattle.file_table.specs.Files.{id_of, with_ids}
use Rattle.file_table.proofs.FileRows.{column-at, same-ids, set-one}
use Rattle.sessions.specs.Sessions.{report_gone}
use Rattle.sessions.proofs.gone.report_gone.Goals as goal

pub returns-then-files-gt-MAX_VF : goal.returns-then-files-gt-MAX_VF
unfolding report_gone
returns-then-files-gt-MAX_VF c =
    let e = lt-leb _ _ c.if-files-gt-MAX_VF.true in
    rw (length-map c.args.files.now id_of, e) (refl, sym (same-ids c.args.files.now))

pub returns-then-files-j : goal.returns-then-files-j
unfolding report_gone
returns-then-files-j c =
    let e = le-leb _ _ c.if-files-gt-MAX_VF.false in
    let f = le-ltb _ _ c.if-files-j.true in
    rw (length-map c.args.files.now id_of, e, f) (refl, sym (same-ids c.args.files.now))

pub returns-then-not-is_handed : goal.returns-then-not-is_handed
unfolding report_gone
returns-then-not-is_handed c =
    let fs = c.args.files.now in
    let e = le-leb _ _ c.if-files-gt-MAX_VF.false in
    let f = lt-ltb _ _ c.if-files-j.false in
    let h = ap handed (column-at id_of fs c.args.j _ c.if-files-j.false) ∙ sym c.is_handed.ensures ∙ c.if-not-is_handed.true in
    rw (length-map fs id_of, e, f, h) (refl, sym (same-ids fs))

pub returns : goal.returns
unfolding report_gone
returns c =
    let fs = c.args.files.now in
    let e = le-leb _ _ c.if-files-gt-MAX_VF.false in
    let f = lt-ltb _ _ c.if-files-j.false in
    let i = column-at id_of fs c.args.j _ c.if-files-j.false in
    let h = ap handed i ∙ sym c.is_handed.ensures ∙ c.if-not-is_handed.false in
    let v = c.set_u16.ensures ∙ ap (λ n. set_bit n 14) (sym i) in
    rw (length-map fs id_of, e, f, h) (refl, set-one fs c.args.j c.set_u16.result _ c.if-files-j.false ∙ ap (λ n. with_ids fs (set (map id_of fs) c.args.j n)) v)
