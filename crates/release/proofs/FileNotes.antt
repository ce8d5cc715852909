-- Laws of files noted: pass after pass over a lent table, whose other fields stay.
use Rattle.refusals.specs.declared.Refusal.{Refusal}
use Rattle.release.specs.declared.Ended as code
use Rattle.std.specs.Prelude.{Result, Ok, Err, IsErrAnd, ℕ, ◌+◌, ◌<◌, Bool, true, false, ◌&&◌, leb, List, map, ◌≡◌, refl, eqb, length, get_or, set}
use Rattle.std.proofs.Common.{sym, ◌∙◌, ap, eq-eqb}
use Rattle.std.proofs.lemmas.List.{length-map}
use Rattle.loops.specs.Rows.{rows, rows-length}
use Rattle.file_table.specs.Files.{id_of, start_of, size_of, with_id, with_ids}
use Rattle.file_table.specs.declared.VF.{VF}
use Rattle.file_table.proofs.FileRows.{same-ids, ids-of, starts-of, sizes-of, length-of, set-twice, set-one, column-at}
use Rattle.state.specs.declared.w.St.{St}
use Rattle.release.specs.Notes.{note_id, noted, noted_files, has_file, by_staged, settled_id}
use Rattle.file_table.specs.Table.{max_files}
use Rattle.state.specs.declared.w.W.{W}
use Rattle.release.specs.Release.{files_lending, fits, released_ids, Ended, EndAnswer, end_answer, answered}
use Rattle.release.specs.ReleaseLaws.{Leaves}
use Rattle.release.proofs.NoteLaws.{up_to, noted-length, Passed, passed-start, passed-go, passed-end, set-noted, released-noted}

-- rows that stay leave the table as it is
pub files-still : (f : ℕ → Bool) (fs : List VF) → map id_of fs ≡ noted f (map id_of fs) → fs ≡ noted_files f fs
files-still f fs e = sym (same-ids fs) ∙ ap (with_ids fs) e

noted-files-length : (f : ℕ → Bool) (fs : List VF) → length (noted f (map id_of fs)) ≡ length fs
noted-files-length f fs = noted-length f (map id_of fs) ∙ length-map fs id_of

-- one row noted by itself
pub file-noted : (fs : List VF) (r start size v : ℕ) (d : VF) → r < length fs
    → v ≡ note_id (eqb start (get_or fs r d).vstart && eqb size (get_or fs r d).vsize) (get_or fs r d).id
    → set fs r (with_id (get_or fs r d) v) ≡ noted_files (λ j. eqb r j && has_file (map start_of fs) (map size_of fs) start size j) fs
file-noted fs r start size v d l e =
    let a = column-at start_of fs r d l in
    let b = column-at size_of fs r d l in
    let i = column-at id_of fs r d l in
    let q : v ≡ note_id (has_file (map start_of fs) (map size_of fs) start size r) (get_or (map id_of fs) r 0) = rw (a, b, i) e in
    let m : r < length (map id_of fs) = rw (length-map fs id_of) l in
    set-one fs r v d l ∙ ap (with_ids fs) (ap (set (map id_of fs) r) q ∙ set-noted (has_file (map start_of fs) (map size_of fs) start size) (map id_of fs) r m)

-- a loop of passes over the table: after k turns the rows are noted by the first k
abbrev pub PassedFiles : (ℕ → ℕ → Bool) → ℕ → List VF → List VF → Type 0
PassedFiles p k fs₀ fs = Passed p k (map id_of fs₀) (map id_of fs) × (fs ≡ with_ids fs₀ (map id_of fs))

module _ (p : ℕ → ℕ → Bool) (fs₀ : List VF) where
  pub files-start : PassedFiles p 0 fs₀ fs₀
  files-start = (passed-start p (map id_of fs₀), sym (same-ids fs₀))

  module _ (k : ℕ) (fs : List VF) (e : PassedFiles p k fs₀ fs) where
    pub files-starts : map start_of fs ≡ map start_of fs₀
    files-starts = ap (map start_of) e.1 ∙ starts-of fs₀ (map id_of fs)

    pub files-sizes : map size_of fs ≡ map size_of fs₀
    files-sizes = ap (map size_of) e.1 ∙ sizes-of fs₀ (map id_of fs)

    pub files-length : length fs ≡ length fs₀
    files-length = ap length e.1 ∙ length-of fs₀ (map id_of fs)

    pub files-go : (then : List VF) → then ≡ noted_files (λ j. p j k) fs → PassedFiles p (k + 1) fs₀ then
    files-go then q =
        let ns = noted (λ j. p j k) (map id_of fs) in
        let l : length ns ≡ length fs = noted-files-length (λ j. p j k) fs in
        let i : map id_of then ≡ ns = ap (map id_of) q ∙ ids-of fs ns l in (
          passed-go p (map id_of fs₀) k (map id_of fs) (map id_of then) e.0 i,
          q ∙ ap (λ (gs : List VF). with_ids gs ns) e.1 ∙ set-twice fs₀ (map id_of fs) ns (l ∙ files-length) ∙ ap (with_ids fs₀) (sym i),
        )

  pub files-end : (k m : ℕ) (fs : List VF) → k ≡ m → PassedFiles p k fs₀ fs → fs ≡ with_ids fs₀ (noted (up_to p m) (map id_of fs₀))
  files-end k m fs q e = e.1 ∙ ap (with_ids fs₀) (passed-end p (map id_of fs₀) k m (map id_of fs) q e.0)

-- the rows noted and settled are those that a release leaves
pub files-released : (fat area : List ℕ) (st : List St) (fs gs : List VF) → gs ≡ noted_files (by_staged (map start_of fs) (map size_of fs) fat area st) fs
    → with_ids gs (rows (λ j id. settled_id id) (map id_of gs)) ≡ with_ids fs (released_ids (files_lending fat area fs) st)
files-released fat area st fs gs e =
    let f = by_staged (map start_of fs) (map size_of fs) fat area st in
    let ns = noted f (map id_of fs) in
    let l = noted-files-length f fs in
    let i : map id_of gs ≡ ns = ap (map id_of) e ∙ ids-of fs ns l in
    rw i (ap (λ (hs : List VF). with_ids hs (rows (λ j id. settled_id id) ns)) e
    ∙ set-twice fs ns (rows (λ j id. settled_id id) ns) (rows-length (λ j id. settled_id id) 0 ns ∙ l)
    ∙ ap (with_ids fs) (released-noted (files_lending fat area fs) st))

-- a lent table fits where it has at most 400 files
pub files-fit : (fat area : List ℕ) (fs : List VF) → leb (length fs) max_files ≡ fits (files_lending fat area fs)
unfolding fits
files-fit fat area fs =
    let i = length-map fs id_of in
    let s = length-map fs start_of in
    let z = length-map fs size_of in
    rw (i, s, z, eq-eqb (length fs) (length fs) refl) (sym (and-true (leb (length fs) max_files)))
  where
    and-true : (b : Bool) → ((b && true) && true) ≡ b
    and-true true = refl
    and-true false = refl

-- a table that a call leaves as it is
pub files-kept : (fs : List VF) (ids : List ℕ) → ids ≡ map id_of fs → fs ≡ with_ids fs ids
files-kept fs ids e = sym (ap (with_ids fs) e ∙ same-ids fs)

-- what a call leaves of a lent table, by its definition's parts
pub ends-by : (e : Ended) (fs gs : List VF) (n k : ℕ) (had : Bool) (w : W) (ids : List ℕ) → Leaves e n k had w ids → gs ≡ with_ids fs ids
    → ◌≡◌ {A = EndAnswer} record { no = n; ended = k; had = had } (end_answer e) × (w ≡ e.w) × (gs ≡ with_ids fs e.ids)
ends-by e fs gs n k had w ids l q = (λ i. record { no = l.answer i; ended = l.how i; had = l.any i }, l.state, q ∙ ap (with_ids fs) l.table)

pub leaves-of : (e : Ended) (fs gs : List VF) (a : EndAnswer) (w : W) → (a ≡ end_answer e) × (w ≡ e.w) × (gs ≡ with_ids fs e.ids) → Leaves e a.no a.ended a.had w e.ids
leaves-of e fs gs a w q = record { answer = ap (λ (x : EndAnswer). x.no) q.0; how = ap (λ (x : EndAnswer). x.ended) q.0; any = ap (λ (x : EndAnswer). x.had) q.0; state = q.1; table = refl }

-- a refusal that is passed on
pub answered-err : (r : Result code.Ended Refusal) (e : Refusal) → IsErrAnd r (λ (x : Refusal). x ≡ e) → answered r ≡ answered (Err e)
answered-err (Ok x) e h = absurd h
answered-err (Err x) e h = ap (λ (y : Refusal). answered (Err y)) h
