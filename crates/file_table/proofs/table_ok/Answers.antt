use Prim.Native.Nat.{◌<◌}
use mathlib.Core.Path.{◌≡◌, sym, ◌∙◌}
use mathlib.Core.Bool.{true, false}
use mathlib.Core.List.{List, map}
use lib.ListN.{length}
use Rattle.std.specs.Prelude.{ℕ, ◌≤◌, ◌&&◌}
use Rattle.std.proofs.lemmas.List.{length-map}
use borrow.Author.Tests.{eq-eqb, lt-leb, le-leb}
use Rattle.file_table.specs.Files.{id_of, dir_slot_of, start_of, size_of}
use Rattle.file_table.specs.Table.{columns, accepts, whole_columns, max_files, all_unmarked, clusters_fit, names_apart, places_apart}
use Rattle.file_table.specs.declared.VF.{VF}
use Rattle.file_table.proofs.table_ok.Goals as goal

module _ (fs : List VF) (first : ℕ) where
  -- the columns of a lent table have one length
  whole : whole_columns (columns fs first) ≡ true
  unfolding whole_columns
  whole =
      let n = length-map fs id_of in
      rw (eq-eqb _ _ (length-map fs dir_slot_of ∙ sym n), eq-eqb _ _ (length-map fs start_of ∙ sym n), eq-eqb _ _ (length-map fs size_of ∙ sym n))

  many : max_files < length fs → false ≡ accepts (columns fs first)
  unfolding accepts
  many h = rw (whole, length-map fs id_of, lt-leb _ _ h)

  few : length fs ≤ max_files → accepts (columns fs first)
      ≡ (all_unmarked (map id_of fs) && clusters_fit (map start_of fs) (map size_of fs) first && names_apart (map id_of fs) && places_apart (map id_of fs) (map dir_slot_of fs))
  unfolding accepts
  few h = rw (whole, length-map fs id_of, le-leb _ _ h)

pub returns-then-files-gt-MAX_VF : goal.returns-then-files-gt-MAX_VF
returns-then-files-gt-MAX_VF c = many c.args.files.now c.args.first c.if-files-gt-MAX_VF.true

pub returns-then-not-all_unmarked : goal.returns-then-not-all_unmarked
returns-then-not-all_unmarked c = simp (few c.args.files.now c.args.first c.if-files-gt-MAX_VF.false, sym c.all_unmarked.ensures ∙ c.if-not-all_unmarked.true)

pub returns-then-not-clusters_ok : goal.returns-then-not-clusters_ok
returns-then-not-clusters_ok c = simp (
  few c.args.files.now c.args.first c.if-files-gt-MAX_VF.false,
  sym c.all_unmarked.ensures ∙ c.if-not-all_unmarked.false,
  sym c.clusters_ok.ensures
      ∙ c.if-not-clusters_ok.true,
)

pub returns-then-not-names_apart : goal.returns-then-not-names_apart
returns-then-not-names_apart c = simp (
  few c.args.files.now c.args.first c.if-files-gt-MAX_VF.false,
  sym c.all_unmarked.ensures ∙ c.if-not-all_unmarked.false,
  sym c.clusters_ok.ensures
      ∙ c.if-not-clusters_ok.false,
  sym c.names_apart.ensures ∙ c.if-not-names_apart.true,
)

pub returns : goal.returns
returns c = simp (
  few c.args.files.now c.args.first c.if-files-gt-MAX_VF.false,
  sym c.all_unmarked.ensures ∙ c.if-not-all_unmarked.false,
  sym c.clusters_ok.ensures
      ∙ c.if-not-clusters_ok.false,
  sym c.names_apart.ensures ∙ c.if-not-names_apart.false,
  ← c.places_apart.ensures,
)
