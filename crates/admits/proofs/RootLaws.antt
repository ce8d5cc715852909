-- A root sector is taken by its handler exactly where the rules admit its bytes.
use Prim.Native.Nat.{ℕ, ◌+◌, ◌-◌, ◌*◌, ◌<◌, ◌≤◌}
use Rattle.std.proofs.Math.Bool.{Bool, false}
use Rattle.std.specs.Prelude.{true, not, ◌&&◌, ◌||◌, List, ◌≡◌, None}
use Rattle.std.proofs.Common.{true≢false, ◌∙◌}
use Rattle.std.proofs.Math.Path.{refl, sym}
use native.Mathlib.Omega.{arith}
use Rattle.std.proofs.Math.Dec.{leb, eqb}
use Rattle.std.proofs.Math.ListN.{get_or}
use borrow.Author.Tests.{leb-true, leb-false, le-leb, lt-leb, eqb-true, eq-eqb, ne_eqb}
use Rattle.loops.specs.Loops.{pick, all, some, count}
use Rattle.loops.specs.Choices.{either, same-if, or-by, or-l, and-of, and-0, and-1, and-no}
use Rattle.loops.specs.Facts.{all-at, some-in, some-at, count-same}
use Rattle.loops.specs.Found.{found-by}
use Rattle.bits.specs.Bit.{bit}
use Rattle.sector.specs.Bytes.{word, word32}
use Rattle.slots.specs.Text.{lower_of}
use Rattle.slots.specs.Slots.{first_byte, attr_of, is_long, high_of, start_of, size_of, update_name}
use Rattle.records.specs.Records.{max_records, no_rec, rec_idx, free_recs}
use Rattle.records.specs.RecordLaws.{rec_idx-lt, rec_idx-is, rec_idx-none}
use Rattle.names.specs.Names.{long_name}
use Rattle.housekeeping.specs.Housekeeping.{is_housekeeping}
use Rattle.root_slots.specs.RootSlots.{slot_admitted}
use Rattle.state.specs.declared.w.W.{W}
use Rattle.clusters.specs.Clusters.{is_nothing}
use Rattle.root_sectors.specs.Root.{start_fits, slot_number, kept_at, needs_rec, root_number}
use Rattle.judge.specs.Classify.{SectorWrite, root_of}
use Rattle.admits.specs.Bytes.{byte_as_shown, only_bytes, written_slot, slot_as_shown, date_byte}
use Rattle.admits.specs.Admits.{is_host, letter, is_update_file, attr_bit, is_long_slot, slot_start, slot_size, name_admits, record_admits, host_slot_admits, root_byte, has_record, needs_place, root_admits}
use Rattle.admits.proofs.ByteLaws.{all-same, all-or, slot-is, byte-is, by-slots, slot_dates, kept-slot, dates-slot, kept-dates, entry-byte}
use Rattle.admits.proofs.ZeroLaws.{pass-pick, first-zero}

-- a letter of either case, and a digit
capital : (c : ℕ) → 65 ≤ c → c ≤ 90 → lower_of c ≡ c + 32
unfolding lower_of
capital c l h = rw (le-leb 65 c l, le-leb c 90 h)

module _ (v : ℕ) where
  other : (leb 65 v && leb v 90) ≡ false → lower_of v ≡ v
  unfolding lower_of
  other e = rw e

  letter-same : (c : ℕ) → 65 ≤ c → c ≤ 90 → (eqb v c || eqb v (c + 32)) ≡ eqb (lower_of v) (c + 32)
  letter-same c l h =
      either (leb 65 v && leb v 90)
      (λ e. let a = leb-true 65 v (and-0 (leb 65 v) (leb v 90) e) in
      let b = leb-true v 90 (and-1 (leb 65 v) (leb v 90) e) in
      let n : eqb v (c + 32) ≡ false = ne_eqb v (c + 32) (λ q. omega arith) in
      rw (capital v a b, n)
      (same-if (eqb v c || false) (eqb (v + 32) (c + 32))
      (λ t. or-by (eqb v c) false t (λ q. let z = eqb-true v c q in eq-eqb (v + 32) (c + 32) (omega arith)) (λ q. absurd (true≢false (sym q))))
      (λ t. let z = eqb-true (v + 32) (c + 32) t in or-l (eqb v c) false (eq-eqb v c (omega arith)))))
      (λ e. let n : eqb v c ≡ false = ne_eqb v c (λ q. true≢false (sym (and-of (leb 65 v) (leb v 90) (le-leb 65 v (omega arith)) (le-leb v 90 (omega arith))) ∙ e)) in
      rw (other e, n))

  digit-same : (c : ℕ) → c < 65 → eqb v c ≡ eqb (lower_of v) c
  digit-same c l =
      either (leb 65 v && leb v 90)
      (λ e. let a = leb-true 65 v (and-0 (leb 65 v) (leb v 90) e) in
      let b = leb-true v 90 (and-1 (leb 65 v) (leb v 90) e) in
      rw (capital v a b, ne_eqb v c (λ q. omega arith), ne_eqb (v + 32) c (λ q. omega arith)))
      (λ e. rw (other e))

-- "first byte 0 refused; .." as one chain of tests
admit-tests : (z f l b h k st house rest : Bool)
    → (not z && (f || l || (not b && h && k && st && (house || rest))))
    ≡ pick z false (pick (f || l) true (pick (b || not (h && k) || not st) false (house || rest)))
admit-tests true f l b h k st house rest = refl
admit-tests false true l b h k st house rest = refl
admit-tests false false true b h k st house rest = refl
admit-tests false false false true h k st house rest = refl
admit-tests false false false false false k st house rest = refl
admit-tests false false false false true false st house rest = refl
admit-tests false false false false true true false house rest = refl
admit-tests false false false false true true true house rest = refl

-- an entry e that is the slot at a place of the sector d
module _ (e d : List ℕ) (at : ℕ) (bytes : (b : ℕ) → b < 32 → get_or e b 0 ≡ get_or d (at + b) 0) where
  first-same : get_or e 0 0 ≡ first_byte d at
  first-same = let q : at + 0 ≡ at = omega arith in rw q at (bytes 0 (omega arith))

  long-same : is_long_slot e ≡ is_long d at
  unfolding is_long_slot is_long
  long-same = rw (bytes 0x0B (omega arith))

  volume-same : attr_bit e 8 ≡ bit (attr_of d at) 3
  unfolding attr_bit bit
  volume-same = rw (bytes 0x0B (omega arith))

  folder-same : attr_bit e 16 ≡ bit (attr_of d at) 4
  unfolding attr_bit bit
  folder-same = rw (bytes 0x0B (omega arith))

  high-same : (eqb (get_or e 0x14 0) 0 && eqb (get_or e 0x15 0) 0) ≡ eqb (high_of d at) 0
  unfolding word
  high-same =
      let q : at + 0x14 + 1 ≡ at + 0x15 = omega arith in
      rw (q, bytes 0x14 (omega arith), bytes 0x15 (omega arith))
      (both (get_or d (at + 0x14) 0) (get_or d (at + 0x15) 0))
    where
      both : (m n : ℕ) → (eqb m 0 && eqb n 0) ≡ eqb (m + n * 256) 0
      both m n =
          same-if (eqb m 0 && eqb n 0) (eqb (m + n * 256) 0)
          (λ t. let a = eqb-true m 0 (and-0 (eqb m 0) (eqb n 0) t) in
          let b = eqb-true n 0 (and-1 (eqb m 0) (eqb n 0) t) in
          eq-eqb (m + n * 256) 0 (omega arith))
          (λ t. let a = eqb-true (m + n * 256) 0 t in and-of (eqb m 0) (eqb n 0) (eq-eqb m 0 (omega arith)) (eq-eqb n 0 (omega arith)))

  start-same : slot_start e ≡ start_of d at
  unfolding slot_start word
  start-same =
      let q : at + 0x1A + 1 ≡ at + 0x1B = omega arith in
      rw (q, bytes 0x1A (omega arith), bytes 0x1B (omega arith)) (omega arith)

  size-same : slot_size e ≡ size_of d at
  unfolding slot_size word32 word
  size-same =
      let q : at + 0x1C + 1 ≡ at + 0x1D = omega arith in
      let r : at + 0x1C + 2 ≡ at + 0x1E = omega arith in
      let t : at + 0x1E + 1 ≡ at + 0x1F = omega arith in
      rw (q, r, t, bytes 0x1C (omega arith), bytes 0x1D (omega arith), bytes 0x1E (omega arith), bytes 0x1F (omega arith)) (omega arith)

  update-same : is_update_file e ≡ update_name d at
  unfolding is_update_file letter update_name
  update-same =
      rw (
        bytes 0 (omega arith),
        bytes 1 (omega arith),
        bytes 2 (omega arith),
        bytes 3 (omega arith),
        bytes 8 (omega arith),
        bytes 9 (omega arith),
        bytes 10 (omega arith),
        letter-same (get_or d (at + 0) 0) 0x44 (omega arith) (omega arith),
        letter-same (get_or d (at + 1) 0) 0x4D (omega arith) (omega arith),
        digit-same (get_or d (at + 2) 0) 0x34 (omega arith),
        digit-same (get_or d (at + 3) 0) 0x30 (omega arith),
        letter-same (get_or d (at + 8) 0) 0x42 (omega arith) (omega arith),
        letter-same (get_or d (at + 9) 0) 0x49 (omega arith) (omega arith),
        letter-same (get_or d (at + 10) 0) 0x4E (omega arith) (omega arith),
      )

  abbrev admitted_at : Bool → Bool → Bool
  admitted_at host house =
      pick (eqb (first_byte d at) 0) false
      (pick (eqb (first_byte d at) 0xE5 || is_long d at) true
      (pick (bit (attr_of d at) 3 || not (eqb (high_of d at) 0) || not host) false
      (house || (not (bit (attr_of d at) 4) && update_name d at && leb (size_of d at) 638988))))

  entry-same : (host house : Bool) → record_admits e host house ≡ admitted_at (eqb (start_of d at) 0 || host) house
  unfolding record_admits name_admits
  entry-same host house =
      admit-tests (eqb (get_or e 0 0) 0) (eqb (get_or e 0 0) 0xE5) (is_long_slot e) (attr_bit e 8) (eqb (get_or e 0x14 0) 0) (eqb (get_or e 0x15 0) 0)
      (eqb (slot_start e) 0 || host) house (not (attr_bit e 16) && is_update_file e && leb (slot_size e) 638988)
      ∙ rw (first-same, long-same, volume-same, high-same, start-same, folder-same, update-same, size-same)

module _ (x : SectorWrite) (w : W) (s : ℕ) where
  host-slot : (i : ℕ) → slot_admitted w.rec x.written (s * 16) (s * 16 + i) (start_fits (root_of x w s) i) ≡ host_slot_admits x w s i
  unfolding slot_admitted start_fits host_slot_admits
  host-slot i =
      let q : s * 16 + i - s * 16 ≡ i = omega arith in
      let b : (b : ℕ) → b < 32 → get_or (written_slot x i) b 0 ≡ get_or x.written (i * 32 + b) 0 = entry-byte x i in
      rw (q, start-same (written_slot x i) x.written (i * 32) b)
      (sym (entry-same (written_slot x i) x.written (i * 32) b (is_host x w (start_of x.written (i * 32))) (is_housekeeping (long_name w.rec x.written (s * 16) (s * 16 + i)))))

  -- the bytes of slot i may differ as they do
  unfoldable pub slot_bytes : ℕ → Bool
  slot_bytes i = all (λ b. byte_as_shown x (i * 32 + b) || root_byte x w s (i * 32 + b)) 32 0

  slot-bytes : (i : ℕ) → slot_bytes i ≡ pick (leb (s * 16 + i) 6) (slot_dates x i) (slot_as_shown x i || host_slot_admits x w s i)
  unfolding slot_bytes root_byte slot_dates slot_as_shown
  slot-bytes i =
      all-same (λ b. byte_as_shown x (i * 32 + b) || root_byte x w s (i * 32 + b))
      (λ b. byte_as_shown x (i * 32 + b) || pick (leb (s * 16 + i) 6) (date_byte b) (host_slot_admits x w s i)) 32 0
      (λ b l h. rw (slot-is i b (omega arith), byte-is i b (omega arith)))
      ∙ either (leb (s * 16 + i) 6) (λ e. rw e) (λ e. rw e (all-or (λ b. byte_as_shown x (i * 32 + b)) (host_slot_admits x w s i) 32 0))

  pub slot-pass : (i : ℕ) → eqb (slot_number (root_of x w s) i) 0 ≡ slot_bytes i
  unfolding slot_number
  slot-pass i =
      rw (slot-bytes i, ← kept-slot x i, ← dates-slot x i, host-slot i)
      (either (slot_as_shown x i)
      (λ e. rw (e, kept-dates x i e) (either (leb (s * 16 + i) 6) (λ o. rw o) (λ o. rw o)))
      (λ e. rw e (either (leb (s * 16 + i) 6) (λ o. rw o (pass-pick (slot_dates x i) 7 refl)) (λ o. rw o (pass-pick (host_slot_admits x w s i) 8 refl)))))

  -- records
  no-record : (k : ℕ) → 7 ≤ k → is_nothing (rec_idx w.rec k) ≡ not (has_record w.rec k)
  unfolding is_nothing has_record
  no-record k l =
      found-by (rec_idx w.rec k)
      (λ r e. rw (e, some-at here max_records 0 r (omega arith) (omega (arith, rec_idx-lt w.rec k r e)) (eq-eqb (get_or w.rec r no_rec).slot k (rec_idx-is w.rec k r e).0)))
      (λ e. rw (e, none e))
    where
      here : ℕ → Bool
      here r = eqb (get_or w.rec r no_rec).slot k

      none : rec_idx w.rec k ≡ None → some here max_records 0 ≡ false
      none e =
          either (some here max_records 0)
          (λ t. some-in here max_records 0 t (λ r a b q. absurd (rec_idx-none w.rec k r e (λ z. omega arith) (omega arith) (eqb-true (get_or w.rec r no_rec).slot k q))))
          (λ t. t)

  place-same : (i : ℕ) → needs_rec (root_of x w s) i ≡ needs_place x w s i
  unfolding needs_rec kept_at needs_place
  place-same i =
      rw (← kept-slot x i)
      (either (leb (s * 16 + i) 6)
      (λ e. let l = leb-true (s * 16 + i) 6 e in
      rw (e, lt-leb 7 (s * 16 + i) (omega arith), and-no (not (slot_as_shown x i)) false refl))
      (λ e. let l = leb-false (s * 16 + i) 6 e in
      rw (e, le-leb 7 (s * 16 + i) (omega arith), no-record (s * 16 + i) (omega arith)) (either (slot_as_shown x i) (λ k. rw k) (λ k. rw k))))

  pub root-pass : eqb (root_number (root_of x w s)) 0 ≡ root_admits x w s
  unfolding root_number root_admits only_bytes free_recs slot_bytes
  root-pass =
      first-zero (slot_number (root_of x w s)) slot_bytes 16 (free_recs w.rec) (count (needs_rec (root_of x w s)) 16 0) 15 slot-pass refl
      ∙ rw (by-slots (λ n. byte_as_shown x n || root_byte x w s n), count-same (needs_rec (root_of x w s)) (needs_place x w s) 16 0 (λ i l h. place-same i))

  -- of a sector that is taken, the drive's own slots differ in dates at most
  pub own-dates : root_number (root_of x w s) ≡ 0 → (i : ℕ) → i < 16 → leb (s * 16 + i) 6 ≡ true → slot_dates x i ≡ true
  unfolding root_admits only_bytes slot_bytes
  own-dates n i h o =
      let a = sym root-pass ∙ eq-eqb (root_number (root_of x w s)) 0 n in
      let b = and-0 (all (λ n. byte_as_shown x n || root_byte x w s n) 512 0) _ a in
      let t = all-at slot_bytes 16 0 i (sym (by-slots (λ n. byte_as_shown x n || root_byte x w s n)) ∙ b) (omega arith) (omega arith) in
      rw o at (sym (slot-bytes i) ∙ t)
