-- Rows that are made of columns.
use Rattle.std.specs.Prelude.{ℕ, ◌+◌, ◌<◌, ◌≤◌, List, map, ◌≡◌, refl, eqb, get_or, length, set, take}
use Rattle.std.proofs.Common.{ap, ◌∙◌, arith, length-take-le}
use Rattle.std.proofs.lemmas.List.{ext_get_or, get_or-take, get_or-set_same, get_or-set_other, length-map}
use Rattle.loops.specs.Choices.{either}
use Rattle.file_table.specs.declared.VF.{VF}
use Rattle.file_table.specs.Files.{id_of, dir_slot_of, start_of, size_of}
use Rattle.file_table.specs.Table.{columns, table_of}
use Rattle.file_table.proofs.FileRows.{column-at}
use Rattle.file_table.proofs.RowLaws.{any_file}
use borrow.Author.Tests.{eqb-true, eqb-false}

-- row j of four columns
abbrev pub row_of : List ℕ → List ℕ → List ℕ → List ℕ → ℕ → VF
row_of ids slots starts sizes j =
    record { id = get_or ids j 0; slot = get_or slots j 0; vstart = get_or starts j 0; src = 0; ssize = 0; vsize = get_or sizes j 0 }

-- the first j rows are made of the columns
abbrev pub Filled : List ℕ → List ℕ → List ℕ → List ℕ → List VF → ℕ → Type 0
Filled ids slots starts sizes files j = (i : ℕ) → i < j → get_or files i any_file ≡ row_of ids slots starts sizes i

module _ (ids slots starts sizes : List ℕ) (files : List VF) (j : ℕ) (f : Filled ids slots starts sizes files j) where
  pub filled-more : j < length files → Filled ids slots starts sizes (set files j (row_of ids slots starts sizes j)) (j + 1)
  filled-more h i l =
      either (eqb i j)
      (λ q. let z = eqb-true i j q in rw z (get_or-set_same files j (row_of ids slots starts sizes j) any_file h))
      (λ q. let z = eqb-false i j q in get_or-set_other files j i (row_of ids slots starts sizes j) any_file z ∙ f i (omega arith))

  column : (g : VF → ℕ) (ns : List ℕ) → length ns ≡ j → j ≤ length files → ((i : ℕ) → i < j → g (row_of ids slots starts sizes i) ≡ get_or ns i 0)
      → map g (take j files) ≡ ns
  column g ns n h e =
      let m = length-take-le j files h in
      let k = length-map (take j files) g in
      ext_get_or 0 (map g (take j files)) ns (omega arith)
      (λ i l. column-at g (take j files) i any_file (omega arith) ∙ ap g (get_or-take j files i any_file (omega arith) ∙ f i (omega arith)) ∙ e i (omega arith))

  pub columns-are : (first : ℕ) → length ids ≡ j → length slots ≡ j → length starts ≡ j → length sizes ≡ j → j ≤ length files
      → columns (take j files) first ≡ table_of ids slots starts sizes first
  columns-are first a b c d h =
      rw (
        column id_of ids a h (λ i l. refl),
        column dir_slot_of slots b h (λ i l. refl),
        column start_of starts c h (λ i l. refl),
        column size_of sizes d h (λ i l. refl),
      )
