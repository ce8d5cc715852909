use mathlib.Core.Path.{refl, sym, ◌∙◌, ap}
use mathlib.Core.Bool.{not}
use mathlib.Core.List.{map}
use Rattle.std.specs.Prelude.{◌≡◌}
use Rattle.std.proofs.lemmas.List.{length-map, length-set}
use Rattle.loops.specs.Loops.{all-start, all-go, all-stop, all-end}
use Rattle.file_table.specs.Files.{id_of, dir_slot_of}
use Rattle.file_table.specs.Table.{places_apart}
use Rattle.file_table.proofs.FileRows.{column-at}
use Rattle.file_table.proofs.RowLaws.{any_file}
use Rattle.file_table.proofs.KeyLaws.{keyed-more, narrow-more, place_at, place-repeated}
use native.Mathlib.Omega.{arith}
use Rattle.file_table.proofs.places_apart.Goals as goal

pub loop-j-init : goal.loop-j-init
loop-j-init c = (all-start _ _, (λ i l. absurd (omega arith)), refl, λ i l. absurd (omega arith))

pub returns-then-is_repeated : goal.returns-then-is_repeated
unfolding places_apart
returns-then-is_repeated c =
    let fs = c.args.files.now in
    let j = c.loop-j.j in
    let ids = map id_of fs in
    let slots = map dir_slot_of fs in
    let n = length-map fs id_of in
    let slot = column-at dir_slot_of fs j any_file (omega arith) in
    let key : c.place_key.result ≡ place_at ids slots j = rw (column-at id_of fs j any_file (omega arith), slot) c.place_key.ensures in
    let keyed = keyed-more (place_at ids slots) c.loop-j.keys j _ (omega (arith, c.loop-j.invariant.2)) key c.loop-j.invariant.1 in
    let narrow = narrow-more slots j (rw slot c.loop-j-test.element_fits2.fits) c.loop-j.invariant.3 in
    all-stop _ _ _ _ c.loop-j.invariant.0 (omega (arith, n)) (ap not (sym (place-repeated ids slots _ j keyed narrow) ∙ sym c.is_repeated.ensures ∙ c.if-is_repeated.true))

pub loop-j-preserved : goal.loop-j-preserved
loop-j-preserved c =
    let fs = c.args.files.now in
    let j = c.loop-j.j in
    let ids = map id_of fs in
    let slots = map dir_slot_of fs in
    let n = length-map fs id_of in
    let slot = column-at dir_slot_of fs j any_file (omega arith) in
    let key : c.place_key.result ≡ place_at ids slots j = rw (column-at id_of fs j any_file (omega arith), slot) c.place_key.ensures in
    let keyed = keyed-more (place_at ids slots) c.loop-j.keys j _ (omega (arith, c.loop-j.invariant.2)) key c.loop-j.invariant.1 in
    let narrow = narrow-more slots j (rw slot c.loop-j-test.element_fits2.fits) c.loop-j.invariant.3 in (
      all-go _ _ _ _ c.loop-j.invariant.0 (omega (arith, n)) (ap not (sym (place-repeated ids slots _ j keyed narrow) ∙ sym c.is_repeated.ensures ∙ c.if-is_repeated.false)),
      keyed,
      length-set _ _ _ ∙ c.loop-j.invariant.2,
      narrow,
    )

pub returns : goal.returns
unfolding places_apart
returns c = all-end _ _ _ _ c.loop-j.invariant.0 (omega (arith, length-map c.args.files.now id_of))
