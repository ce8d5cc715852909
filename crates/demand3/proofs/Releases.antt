-- What a release leaves of a row, and what it does to it.
use Rattle.std.specs.Prelude.{ℕ, ◌%◌, ◌<◌, Bool, true, false, ◌&&◌, ◌||◌, List, ◌≡◌, get_or}
use Rattle.std.proofs.Math.Bool.{not}
use Rattle.std.proofs.Common.{true≢false, sym, ◌∙◌, ap, arith}
use Rattle.std.proofs.Math.ListN.{length}
use Rattle.loops.specs.Loops.{pick}
use Rattle.loops.specs.Choices.{either, pick-by, pick-has, and-0, and-1, and-of, or-by, or-l, or-r}
use Rattle.loops.specs.Rows.{rows-at, rows-length}
use Rattle.bits.specs.Bit.{set_bit}
use Rattle.bits.specs.Laws.{bit-set-same, bit-set-below, bit-set-above}
use Rattle.vdisk.specs.Ids.{turned, freed, gone, moved, cleared, handed, unmarked}
use Rattle.vdisk.specs.IdLaws.{set-low, cleared-marks}
use Rattle.file_table.specs.Table.{Table}
use Rattle.state.specs.declared.w.W.{W}
use Rattle.medium.specs.Reads.{moved_ref}
use Rattle.marks.specs.Seen.{start_in, size_in}
use Rattle.marks.specs.Kept.{Kept}
use Rattle.marks.proofs.KeptLaws.{kept-clear}
use Rattle.release.specs.Release.{handed_on, release_id, released_ids}
use Rattle.demand3.specs.Step.{Session, Medium, lent, id_of}
use Rattle.demand3.specs.History.{Event, Clean, unmarks, turned_by, zeroed_by, named_by, gone_by}
use Rattle.demand3.proofs.Induct.{Effect, not-no}

-- an id that stays handed
abbrev handed_id : ℕ → ℕ
handed_id id = set_bit (set_bit (cleared id) 12) 13

module _ (id : ℕ) where
  handed-turned : turned (handed_id id) ≡ true
  handed-turned = bit-set-below (set_bit (cleared id) 12) 13 12 (omega arith) ∙ bit-set-same (cleared id) 12

  handed-freed : freed (handed_id id) ≡ true
  handed-freed = bit-set-same (set_bit (cleared id) 12) 13

  handed-gone : gone (handed_id id) ≡ false
  handed-gone =
      bit-set-above (set_bit (cleared id) 12) 13 14 (omega arith) ∙ bit-set-above (cleared id) 12 14 (omega arith) ∙ (cleared-marks id).2

  handed-moved : moved (handed_id id) ≡ false
  handed-moved =
      bit-set-above (set_bit (cleared id) 12) 13 15 (omega arith) ∙ bit-set-above (cleared id) 12 15 (omega arith) ∙ (cleared-marks id).3

  handed-low : handed_id id % 4096 ≡ id % 4096
  handed-low = set-low (set_bit (cleared id) 12) 13 (omega arith) ∙ set-low (cleared id) 12 (omega arith) ∙ twice id
    where
      twice : (n : ℕ) → n % 4096 % 4096 ≡ n % 4096
      twice n = omega arith

  handed-still : handed (handed_id id) ≡ true
  unfolding handed
  handed-still = rw (handed-turned, handed-freed, handed-gone)

  cleared-unmarked : unmarked (cleared id) ≡ true
  unfolding unmarked
  cleared-unmarked = let v = cleared-marks id in rw (v.0, v.1, v.2, v.3)

-- a freed row is marked
marked : (id : ℕ) → freed id ≡ true → unmarked id ≡ false
unfolding unmarked
marked id f =
    let a = not (turned id) in
    either (a && not (freed id))
    (λ q. absurd (true≢false (sym (and-1 a (not (freed id)) q) ∙ ap not f)))
    (λ q. rw q)

module _ (t : Table) (s : Session) (m : Medium) (k : Kept t s.ids s.w) (j : ℕ) (l : j < length t.ids) where
  abbrev named : Bool
  named = moved_ref m.fat m.area s.w.st (start_in t j) (size_in t j)

  abbrev on : Bool
  on = handed_on m.fat m.area s.w.st (start_in t j) (size_in t j) (id_of s j)

  row-at : get_or (released_ids (lent t s m) s.w.st) j 0 ≡ pick on (handed_id (id_of s j)) (cleared (id_of s j))
  unfolding released_ids release_id
  row-at = let r = k.rows in rows-at (release_id (lent t s m) s.w.st) s.ids j (omega arith)

  abbrev freed_or : Bool
  freed_or = (named && moved (id_of s j)) || freed (id_of s j)

  -- a file that stays handed was turned, not gone, and freed, or moved and named
  on-of : on ≡ true → (turned (id_of s j) ≡ true) × (gone (id_of s j) ≡ false) × (freed_or ≡ true)
  unfolding handed_on
  on-of e =
      let id = id_of s j in
      let e1 = and-0 (turned id && not (gone id)) (freed id || (moved id && named)) e in (
        and-0 (turned id) (not (gone id)) e1,
        not-no (gone id) (and-1 (turned id) (not (gone id)) e1),
        or-by (freed id) (moved id && named) (and-1 (turned id && not (gone id)) (freed id || (moved id && named)) e)
            (λ q. or-r (named && moved id) (freed id) q) (λ q. or-l (named && moved id) (freed id) (and-of named (moved id) (and-1 (moved id) named q) (and-0 (moved id) named q))),
      )

  -- a row is unmarked by it, or was so, and is handed
  row-by : {R : Type 0} (ids : List ℕ) → ids ≡ released_ids (lent t s m) s.w.st
      → (on ≡ false → unmarked (get_or ids j 0) ≡ true → R)
      → (turned (get_or ids j 0) ≡ turned (id_of s j) → freed (get_or ids j 0) ≡ true → gone (get_or ids j 0) ≡ gone (id_of s j) → moved (get_or ids j 0) ≡ false
      → freed_or ≡ true → R) → R
  row-by {R} ids e bare stays =
      pick-by (λ (x : ℕ). get_or ids j 0 ≡ x → R) on (handed_id (id_of s j)) (cleared (id_of s j))
      (λ q at. let o = on-of q in
      stays (ap turned at ∙ handed-turned (id_of s j) ∙ sym o.0) (ap freed at ∙ handed-freed (id_of s j)) (ap gone at ∙ handed-gone (id_of s j) ∙ sym o.1)
      (ap moved at ∙ handed-moved (id_of s j)) o.2)
      (λ q at. bare q (ap unmarked at ∙ cleared-unmarked (id_of s j)))
      (rw e row-at)

  -- so each row is handed or unmarked
  pub release-settles : (ids : List ℕ) → ids ≡ released_ids (lent t s m) s.w.st → (handed (get_or ids j 0) || unmarked (get_or ids j 0)) ≡ true
  release-settles ids e =
      pick-by (λ (x : ℕ). get_or ids j 0 ≡ x → (handed (get_or ids j 0) || unmarked (get_or ids j 0)) ≡ true) on (handed_id (id_of s j)) (cleared (id_of s j))
      (λ q at. or-l (handed (get_or ids j 0)) (unmarked (get_or ids j 0)) (ap handed at ∙ handed-still (id_of s j)))
      (λ q at. or-r (handed (get_or ids j 0)) (unmarked (get_or ids j 0)) (ap unmarked at ∙ cleared-unmarked (id_of s j)))
      (rw e row-at)

  -- a handed file is one that stays so
  handed-on : handed (id_of s j) ≡ true → on ≡ true
  unfolding handed handed_on
  handed-on h =
      let id = id_of s j in
      let a = and-0 (turned id && freed id) (not (gone id)) h in
      and-of (turned id && not (gone id)) (freed id || (moved id && named))
      (and-of (turned id) (not (gone id)) (and-0 (turned id) (freed id) a) (and-1 (turned id && freed id) (not (gone id)) h))
      (or-l (freed id) (moved id && named) (and-1 (turned id) (freed id) a))

  -- the effect of a call that released
  pub release-effect : (e : Event) → e.before ≡ s → e.out.released ≡ true → e.out.after.ids ≡ released_ids (lent t s m) s.w.st
      → turned_by t j e ≡ false → zeroed_by t j e ≡ false → named_by t j e ≡ named → gone_by t j e ≡ false → Effect t j e
  release-effect e b r i tu ze na re =
      row-by e.out.after.ids i
      (λ o u. let z : unmarks j e ≡ true = rw r u in
      record {
        turn = λ q. absurd (true≢false (sym z ∙ q));
        free = λ q p. absurd (true≢false (sym z ∙ q));
        keep = λ q p. absurd (true≢false (sym z ∙ q));
        left = λ q. absurd (true≢false (sym z ∙ q));
        move = λ q p. absurd (true≢false (sym z ∙ q));
        hold = λ h. absurd (true≢false (sym (handed-on (rw b at h)) ∙ o));
      })
      (λ x y z v n. record {
        turn = λ q. rw (tu, b) x;
        free = λ q p. rw (ze, na, b) n;
        keep = λ q p. y;
        left = λ q. rw (re, b) z;
        move = λ q p. absurd (true≢false (sym p ∙ v));
        hold = λ h. rw r (marked (get_or e.out.after.ids j 0) y);
      })

-- a release keeps what every call keeps
module _ (t : Table) (s : Session) (m : Medium) (k : Kept t s.ids s.w) where
  low-at : (j : ℕ) → j < length t.ids → get_or (released_ids (lent t s m) s.w.st) j 0 % 4096 ≡ get_or t.ids j 0 % 4096
  low-at j l =
      ap (λ (n : ℕ). n % 4096) (row-at t s m k j l)
      ∙ pick-has (λ (x : ℕ). x % 4096 ≡ get_or t.ids j 0 % 4096) (on t s m k j l) (handed_id (id_of s j)) (cleared (id_of s j))
      (handed-low (id_of s j) ∙ k.names j l) (twice (id_of s j) ∙ k.names j l)
    where
      twice : (n : ℕ) → n % 4096 % 4096 ≡ n % 4096
      twice n = omega arith

  pub release-kept : (ids : List ℕ) (w : W) → ids ≡ released_ids (lent t s m) s.w.st → w.first ≡ s.w.first → Clean w → Kept t ids w
  unfolding released_ids
  release-kept ids w e f c =
      kept-clear t ids w (ap {B = ℕ} length e ∙ rows-length (release_id (lent t s m) s.w.st) 0 s.ids ∙ k.rows) (f ∙ k.first)
      (λ j l. rw e (low-at j l)) c.pair c.st
