-- Rows past the last that is marked.
use Rattle.std.specs.Prelude.{ℕ, zero, suc, ◌<◌, ◌≤◌, List, [], ◌∷◌, map, ltb, ◌≡◌, refl, length, get_or, set, take, replicate}
use Rattle.std.proofs.Common.{sym, ap, ◌∙◌, arith}
use Rattle.std.proofs.lemmas.List.{ext_get_or, get_or-replicate, get_or-set_other, length-map}
use Rattle.std.proofs.lemmas.List.{get_or_past}
use Rattle.loops.specs.Choices.{either}
use borrow.Author.Tests.{ltb-true, ltb-false}
use lib.ListN.{length-replicate}
use Rattle.loops.specs.Rows.{rows, rows-at, rows-length}
use Rattle.file_table.specs.declared.VF.{VF}
use Rattle.file_table.specs.Files.{id_of, with_id, with_ids}
use Rattle.file_table.proofs.FileRows.{no-ids, same-ids}
use Rattle.dir_sectors.specs.Turned.{Begins, Ends}

-- ids that are what they were from i on need not be set
pub set-first : (i : ℕ) (fs : List VF) (ns : List ℕ) → length ns ≡ length fs → ((j : ℕ) → i ≤ j → j < length fs → get_or ns j 0 ≡ get_or (map id_of fs) j 0)
    → with_ids fs (take i ns) ≡ with_ids fs ns
set-first zero fs ns n e =
    let m = length-map fs id_of in
    no-ids fs ∙ sym (ap (with_ids fs) (ext_get_or 0 ns (map id_of fs) (omega arith) (λ j l. e j (omega arith) (omega arith))) ∙ same-ids fs)
set-first (suc i) [] [] n e = refl
set-first (suc i) [] (m ∷ ms) n e = absurd (omega arith)
set-first (suc i) (f ∷ fs) [] n e = absurd (omega arith)
set-first (suc i) (f ∷ fs) (m ∷ ms) n e =
    ap (λ (gs : List VF). with_id f m ∷ gs) (set-first i fs ms (omega arith) (λ j l h. e (suc j) (omega arith) (omega arith)))

-- nor those that are what they were up to i
pub set-none : (i : ℕ) (fs : List VF) (ns : List ℕ) → ((j : ℕ) → j < i → j < length fs → get_or ns j 0 ≡ get_or (map id_of fs) j 0) → length ns ≡ length fs
    → fs ≡ with_ids fs (take i ns)
set-none zero fs ns e n = sym (no-ids fs)
set-none (suc i) [] ns e n = refl
set-none (suc i) (f ∷ fs) [] e n = absurd (omega arith)
set-none (suc i) (f ∷ fs) (m ∷ ms) e n =
    let same : f ≡ with_id f m = rw (e 0 (omega arith) (omega arith)) refl in
    let rest : fs ≡ with_ids fs (take i ms) = set-none i fs ms (λ j l h. e (suc j) (omega arith) (omega arith)) (omega arith) in
    rw (← same, ← rest) refl

-- so the loop begins at the first row that is marked
pub rows-before : (f : ℕ → ℕ → ℕ) (fs : List VF) (i : ℕ) → ((j id : ℕ) → j < i → f j id ≡ id) → fs ≡ with_ids fs (take i (rows f (map id_of fs)))
rows-before f fs i e =
    let n = length-map fs id_of in
    set-none i fs (rows f (map id_of fs)) (λ j l h. rows-at f (map id_of fs) j (omega arith) ∙ e j (get_or (map id_of fs) j 0) l) (rows-length f 0 (map id_of fs) ∙ n)

-- and the rows past the last marked need no turn of the loop
pub rows-past : (f : ℕ → ℕ → ℕ) (fs gs : List VF) (i : ℕ) → gs ≡ with_ids fs (take i (rows f (map id_of fs))) → ((j id : ℕ) → i ≤ j → j < length fs → f j id ≡ id)
    → gs ≡ with_ids fs (rows f (map id_of fs))
rows-past f fs gs i inv e =
    let n = length-map fs id_of in
    inv ∙ set-first i fs (rows f (map id_of fs)) (rows-length f 0 (map id_of fs) ∙ n) (λ j l h. rows-at f (map id_of fs) j (omega arith) ∙ e j (get_or (map id_of fs) j 0) l h)

pub begins-none : (m : ℕ) → Begins (replicate m 0) m
begins-none m k l = get_or-replicate m k 0 0 l

pub begins-put : (marks : List ℕ) (from j new : ℕ) → Begins marks from → new ≤ from → new ≤ j → Begins (set marks j 1) new
begins-put marks from j new b l h k q = get_or-set_other marks j k 1 0 (λ z. absurd (omega arith)) ∙ b k (omega arith)

pub ends-none : (m : ℕ) → Ends (replicate m 0) 0
ends-none m k l =
    either (ltb k m) (λ q. get_or-replicate m k 0 0 (ltb-true k m q))
    (λ q. let z = ltb-false k m q in get_or_past (replicate m 0) k 0 (omega (arith, length-replicate {A = ℕ} m 0)))

pub ends-put : (marks : List ℕ) (end j new : ℕ) → Ends marks end → end ≤ new → j < new → Ends (set marks j 1) new
ends-put marks end j new e l h k q = get_or-set_other marks j k 1 0 (λ z. absurd (omega arith)) ∙ e k (omega arith)
