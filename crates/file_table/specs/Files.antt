-- A lent table of files: its columns, and its ids set.
use Rattle.std.specs.Prelude.{ℕ, List, [], ◌∷◌}
use Rattle.file_table.specs.declared.VF.{VF}

-- the four columns
abbrev pub id_of : VF → ℕ
id_of f = f.id

abbrev pub dir_slot_of : VF → ℕ
dir_slot_of f = f.slot

abbrev pub start_of : VF → ℕ
start_of f = f.vstart

abbrev pub size_of : VF → ℕ
size_of f = f.vsize

-- a file with another id, and files with other ids: every other field stays
abbrev pub with_id : VF → ℕ → VF
with_id f n = record { id = n; slot = f.slot; vstart = f.vstart; src = f.src; ssize = f.ssize; vsize = f.vsize }

abbrev pub with_ids : List VF → List ℕ → List VF
with_ids [] ns = []
with_ids (f ∷ fs) [] = f ∷ fs
with_ids (f ∷ fs) (n ∷ ns) = with_id f n ∷ with_ids fs ns
