-- Laws of files whose ids are set: what the columns are then, ids set twice, and the loop that sets them row by row.
use Rattle.std.specs.Prelude.{ℕ, zero, suc, ◌+◌, ◌<◌, ◌≤◌, List, [], ◌∷◌, map, ◌≡◌, refl, length, get_or, set, take}
use Rattle.std.proofs.Common.{le_of_suc-le-suc, not-suc-le-zero, sym, ap, ◌∙◌, arith, add-one, take_all}
use Rattle.std.proofs.lemmas.List.{length-map}
use Rattle.loops.specs.Rows.{rows, rows-at, rows-length}
use Rattle.file_table.specs.Files.{id_of, start_of, size_of, with_id, with_ids}
use Rattle.file_table.specs.declared.VF.{VF}

pub no-ids : (fs : List VF) → with_ids fs [] ≡ fs
no-ids [] = refl
no-ids (f ∷ fs) = refl

pub same-ids : (fs : List VF) → with_ids fs (map id_of fs) ≡ fs
same-ids [] = refl
same-ids (f ∷ fs) = ap (λ (gs : List VF). f ∷ gs) (same-ids fs)

-- the columns of files whose ids are set
pub ids-of : (fs : List VF) (ns : List ℕ) → length ns ≡ length fs → map id_of (with_ids fs ns) ≡ ns
ids-of [] [] e = refl
ids-of [] (n ∷ ns) e = absurd (omega arith)
ids-of (f ∷ fs) [] e = absurd (omega arith)
ids-of (f ∷ fs) (n ∷ ns) e = ap (λ (ms : List ℕ). n ∷ ms) (ids-of fs ns (omega arith))

pub starts-of : (fs : List VF) (ns : List ℕ) → map start_of (with_ids fs ns) ≡ map start_of fs
starts-of [] ns = refl
starts-of (f ∷ fs) [] = refl
starts-of (f ∷ fs) (n ∷ ns) = ap (λ (ms : List ℕ). f.vstart ∷ ms) (starts-of fs ns)

pub sizes-of : (fs : List VF) (ns : List ℕ) → map size_of (with_ids fs ns) ≡ map size_of fs
sizes-of [] ns = refl
sizes-of (f ∷ fs) [] = refl
sizes-of (f ∷ fs) (n ∷ ns) = ap (λ (ms : List ℕ). f.vsize ∷ ms) (sizes-of fs ns)

pub length-of : (fs : List VF) (ns : List ℕ) → length (with_ids fs ns) ≡ length fs
length-of [] ns = refl
length-of (f ∷ fs) [] = refl
length-of (f ∷ fs) (n ∷ ns) = ap suc (length-of fs ns)

-- the last ids set count
pub set-twice : (fs : List VF) (ns ms : List ℕ) → length ms ≡ length fs → with_ids (with_ids fs ns) ms ≡ with_ids fs ms
set-twice [] ns ms e = refl
set-twice (f ∷ fs) [] ms e = refl
set-twice (f ∷ fs) (n ∷ ns) [] e = absurd (omega arith)
set-twice (f ∷ fs) (n ∷ ns) (m ∷ ms) e = ap (λ (gs : List VF). with_id f m ∷ gs) (set-twice fs ns ms (omega arith))

-- one id set
pub set-one : (fs : List VF) (j v : ℕ) (d : VF) → j < length fs → set fs j (with_id (get_or fs j d) v) ≡ with_ids fs (set (map id_of fs) j v)
set-one [] j v d l = absurd (not-suc-le-zero l)
set-one (f ∷ fs) zero v d l = ap (λ (gs : List VF). with_id f v ∷ gs) (sym (same-ids fs))
set-one (f ∷ fs) (suc j) v d l = ap (λ (gs : List VF). f ∷ gs) (set-one fs j v d (le_of_suc-le-suc l))

-- the loop that sets each id by its row and what it was: the first i are set
pub more-ids : (i : ℕ) (fs : List VF) (ns : List ℕ) (d : VF) → i < length fs → i < length ns
    → set (with_ids fs (take i ns)) i (with_id (get_or (with_ids fs (take i ns)) i d) (get_or ns i 0)) ≡ with_ids fs (take (suc i) ns)
more-ids i [] ns d l m = absurd (not-suc-le-zero l)
more-ids i (f ∷ fs) [] d l m = absurd (not-suc-le-zero m)
more-ids zero (f ∷ fs) (n ∷ ns) d l m = ap (λ (zs : List VF). with_id f n ∷ zs) (sym (no-ids fs))
more-ids (suc i) (f ∷ fs) (n ∷ ns) d l m = ap (λ (zs : List VF). with_id f n ∷ zs) (more-ids i fs ns d (le_of_suc-le-suc l) (le_of_suc-le-suc m))

still : (i : ℕ) (fs : List VF) (ns : List ℕ) (d : VF) → get_or (with_ids fs (take i ns)) i d ≡ get_or fs i d
still i [] ns d = refl
still zero (f ∷ fs) ns d = ap (λ (gs : List VF). get_or gs 0 d) (no-ids (f ∷ fs))
still (suc i) (f ∷ fs) [] d = refl
still (suc i) (f ∷ fs) (n ∷ ns) d = still i fs ns d

pub column-at : (g : VF → ℕ) (fs : List VF) (i : ℕ) (d : VF) → i < length fs → get_or (map g fs) i 0 ≡ g (get_or fs i d)
column-at g [] i d l = absurd (not-suc-le-zero l)
column-at g (f ∷ fs) zero d l = refl
column-at g (f ∷ fs) (suc i) d l = column-at g fs i d (le_of_suc-le-suc l)

module _ (f : ℕ → ℕ → ℕ) (fs gs : List VF) (i : ℕ) (inv : gs ≡ with_ids fs (take i (rows f (map id_of fs)))) where
  -- row i is as it was
  pub files-read : (d : VF) → get_or gs i d ≡ get_or fs i d
  files-read d = ap (λ (hs : List VF). get_or hs i d) inv ∙ still i fs (rows f (map id_of fs)) d

  pub files-more : (d : VF) (v : ℕ) → v ≡ f i (get_or gs i d).id → i < length fs → set gs i (with_id (get_or gs i d) v) ≡ with_ids fs (take (i + 1) (rows f (map id_of fs)))
  files-more d v e l =
      let n = length-map fs id_of in
      let m : i < length (map id_of fs) = omega arith in
      let r : get_or (rows f (map id_of fs)) i 0 ≡ v = rows-at f (map id_of fs) i m ∙ ap (f i) (column-at id_of fs i d l) ∙ ap (λ (x : VF). f i x.id) (sym (files-read d)) ∙ sym e in
      rw (← r, inv, add-one i) (more-ids i fs (rows f (map id_of fs)) d l (omega (arith, rows-length f 0 (map id_of fs))))

  pub files-end : length fs ≤ i → gs ≡ with_ids fs (rows f (map id_of fs))
  files-end l = inv ∙ ap (with_ids fs) (take_all i (rows f (map id_of fs)) (omega (arith, rows-length f 0 (map id_of fs), length-map fs id_of)))

pub files-start : (f : ℕ → ℕ → ℕ) (fs : List VF) → fs ≡ with_ids fs (take 0 (rows f (map id_of fs)))
files-start f fs = sym (no-ids fs)
