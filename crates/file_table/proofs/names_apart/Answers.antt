use mathlib.Core.Path.{refl, sym, ◌∙◌, ap}
use mathlib.Core.Bool.{not}
use mathlib.Core.List.{map}
use Rattle.std.proofs.lemmas.List.{length-map, length-set}
use Rattle.loops.specs.Loops.{all-start, all-go, all-stop, all-end}
use Rattle.file_table.specs.Files.{id_of}
use Rattle.file_table.specs.Table.{names_apart}
use Rattle.file_table.proofs.FileRows.{column-at}
use Rattle.file_table.proofs.KeyLaws.{keyed-more, name_at, name-repeated}
use Rattle.std.specs.Prelude.{ℕ, ◌%◌}
use native.Mathlib.Omega.{arith}
use Rattle.file_table.proofs.names_apart.Goals as goal

pub loop-j-init : goal.loop-j-init
loop-j-init c = (all-start _ _, (λ i l. absurd (omega arith)), refl)

pub returns-then-is_repeated : goal.returns-then-is_repeated
unfolding names_apart
returns-then-is_repeated c =
    let ids = map id_of c.args.files.now in
    let n = length-map c.args.files.now id_of in
    let key = c.clear_marks.ensures ∙ ap (λ (x : ℕ). x % 4096) (sym (column-at id_of c.args.files.now c.loop-j.j _ (omega arith))) in
    let keyed = keyed-more (name_at ids) c.loop-j.keys c.loop-j.j _ (omega (arith, c.loop-j.invariant.2)) key c.loop-j.invariant.1 in
    all-stop _ _ _ _ c.loop-j.invariant.0 (omega (arith, n)) (ap not (sym (name-repeated ids _ c.loop-j.j keyed) ∙ sym c.is_repeated.ensures ∙ c.if-is_repeated.true))

pub loop-j-preserved : goal.loop-j-preserved
loop-j-preserved c =
    let ids = map id_of c.args.files.now in
    let n = length-map c.args.files.now id_of in
    let key = c.clear_marks.ensures ∙ ap (λ (x : ℕ). x % 4096) (sym (column-at id_of c.args.files.now c.loop-j.j _ (omega arith))) in
    let keyed = keyed-more (name_at ids) c.loop-j.keys c.loop-j.j _ (omega (arith, c.loop-j.invariant.2)) key c.loop-j.invariant.1 in
    (all-go _ _ _ _ c.loop-j.invariant.0 (omega (arith, n)) (ap not (sym (name-repeated ids _ c.loop-j.j keyed) ∙ sym c.is_repeated.ensures ∙ c.if-is_repeated.false)), keyed, length-set _ _ _ ∙ c.loop-j.invariant.2)

pub returns : goal.returns
unfolding names_apart
returns c = all-end _ _ _ _ c.loop-j.invariant.0 (omega (arith, length-map c.args.files.now id_of))
