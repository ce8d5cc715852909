-- Demand 1 of the calls beside `write`.
use Rattle.std.specs.Prelude.{ℕ, Bool, false, not, ◌&&◌, List, map, eqb, leb, ltb, length, get_or}
use Rattle.std.proofs.Math.Path.{◌≡◌, refl, sym}
use Rattle.std.proofs.Common.{◌∙◌, arith}
use borrow.Author.Tests.{ltb-true, ltb-false, leb-true, leb-false, lt-ltb, le-ltb, le-leb, lt-leb}
use Rattle.loops.specs.Loops.{pick}
use Rattle.loops.specs.Choices.{either, and-0, and-1}
use Rattle.loops.specs.Found.{found-by}
use Rattle.vdisk.specs.Ids.{handed}
use Rattle.vdisk.specs.Owner.{owner_of}
use Rattle.vdisk.specs.declared.owner.Own.{Own}
use Rattle.vdisk.specs.declared.owner.Own.TheVariants.{Reserved, Fixed, Dyn, Free}
use Rattle.file_table.specs.Table.{Table, max_files, accepts}
use Rattle.file_table.specs.declared.VF.{VF}
use Rattle.file_table.specs.Files.{start_of, size_of}
use Rattle.records.specs.declared.Rec.{Rec}
use Rattle.names.specs.Names.{first_host_slot}
use Rattle.root_slots.specs.RootSlots.{strict_of}
use Rattle.state.specs.Staged.{slot_of}
use Rattle.state.specs.declared.w.Pair.{Pair}
use Rattle.state.specs.declared.w.St.{St}
use Rattle.state.specs.declared.w.W.{W}
use Rattle.medium.specs.Reads.{found_answer, staged_answer, staged_bytes}
use Rattle.chains.specs.Chains.{complete_of}
use Rattle.sessions.specs.Sessions.{set_read_only, mode_reset, report_gone, start}
use Rattle.body.specs.Body.{body_of}
use Rattle.sessions.specs.Calls.{FindsHanded, FindsFile}
use Rattle.sessions.specs.Calls.{HandedAnswer}
use Rattle.state_calls.specs.Answers.{own_answer, files_owner}
use Rattle.demand1_sessions.specs.Demand1.{Reports, Starts, Reads, TableReads, Demand1Calls}
use Rattle.demand1_sessions.proofs.EndLaws.{all-ends, release-ends, reset-ends, poll-ends}

module _ (ids : List ℕ) (j : ℕ) where
  pub report-well : Reports ids j (report_gone ids j)
  unfolding report_gone
  report-well =
      either (leb (length ids) max_files)
      (λ e. either (ltb j (length ids) && handed (get_or ids j 0))
      (λ h. rw (e, h) (record {
        number = rw (e, h);
        refused = λ r. absurd (r refl);
        taken = λ _. (ltb-true j (length ids) (and-0 (ltb j (length ids)) (handed (get_or ids j 0)) h), and-1 (ltb j (length ids)) (handed (get_or ids j 0)) h, refl);
      }))
      (λ h. rw (e, h) (record { number = rw (e, h); refused = λ _. refl; taken = λ (z : ◌≡◌ {A = ℕ} 21 0). absurd (omega arith) })))
      (λ e. rw e (record { number = rw e; refused = λ _. refl; taken = λ (z : ◌≡◌ {A = ℕ} 10 0). absurd (omega arith) }))

module _ (t : Table) (w : W) where
  pub start-well : Starts t w (start t w)
  unfolding start
  start-well =
      either (accepts t)
      (λ a. rw a (record { admitted = sym a; refused = λ r. absurd (r refl); taken = λ _. refl }))
      (λ a. rw a (record { admitted = sym a; refused = λ _. (refl, refl); taken = λ (z : ◌≡◌ {A = ℕ} 10 0). absurd (omega arith) }))

module _ (fat area : List ℕ) (ps : List Pair) (recs : List Rec) (st : List St) (c s : ℕ) (out d : List ℕ) (slot size : ℕ) where
  staged-well : (staged_answer st c s out).no ≡ pick (not (eqb (length out) 512)) 1 (pick (leb 64 s) 2 0)
  unfolding staged_answer found_answer
  staged-well =
      either (not (eqb (length out) 512)) (λ e. rw e)
      (λ e. either (leb 64 s) (λ g. rw (e, g)) (λ g. rw (e, g) (found-by (slot_of st c) (λ i f. rw f) (λ f. rw f))))

  unread-well : ((staged_answer st c s out).no ≡ 0 → ⊥) → ((staged_answer st c s out).staged ≡ false) × (staged_bytes fat area st c s out ≡ out)
  unfolding staged_answer staged_bytes found_answer
  unread-well =
      either (not (eqb (length out) 512)) (λ e. rw e (λ _. (refl, refl)))
      (λ e. either (leb 64 s) (λ g. rw (e, g) (λ _. (refl, refl)))
      (λ g. rw (e, g) (found-by (slot_of st c) (λ i f. rw f (λ n. absurd (n refl))) (λ f. rw f (λ n. absurd (n refl))))))

  strict-well : (strict_of recs d slot).no ≡ pick (not (eqb (length d) 512)) 1 (pick (leb 512 slot) 2 (pick (leb slot 6) 7 0))
  unfolding strict_of
  strict-well =
      either (not (eqb (length d) 512)) (λ e. rw e)
      (λ e. either (leb 512 slot) (λ f. rw (e, f))
      (λ f. either (ltb slot first_host_slot)
      (λ g. let l = ltb-true slot 7 g in rw (e, f, g, le-leb slot 6 (omega arith)))
      (λ g. let l = ltb-false slot 7 g in rw (e, f, g, lt-leb slot 6 (omega arith)))))

  unnamed-well : ((strict_of recs d slot).no ≡ 0 → ⊥) → (strict_of recs d slot).housekeeping ≡ false
  unfolding strict_of
  unnamed-well =
      either (not (eqb (length d) 512)) (λ e. rw e (λ _. refl))
      (λ e. either (leb 512 slot) (λ f. rw (e, f) (λ _. refl))
      (λ f. either (ltb slot first_host_slot) (λ g. rw (e, f, g) (λ _. refl)) (λ g. rw (e, f, g) (λ n. absurd (n refl)))))

  body-well : (body_of fat area ps st c size).no ≡ pick (ltb size 128) 11 (pick (complete_of ps st c size).found 0 20)
  unfolding body_of
  body-well =
      either (ltb size 128) (λ e. rw e)
      (λ e. either (complete_of ps st c size).found (λ f. rw (e, f)) (λ f. rw (e, f)))

  unchecked-well : ((body_of fat area ps st c size).no ≡ 0 → ⊥) → (body_of fat area ps st c size).valid ≡ false
  unfolding body_of
  unchecked-well =
      either (ltb size 128) (λ e. rw e (λ _. refl))
      (λ e. either (complete_of ps st c size).found (λ f. rw (e, f) (λ n. absurd (n refl))) (λ f. rw (e, f) (λ _. refl)))

  pub reads-well : Reads fat area ps recs st c s out d slot size
  reads-well = record { staged = staged-well; unread = unread-well; strict = strict-well; unnamed = unnamed-well; body = body-well; unchecked = unchecked-well }

-- whoever owns the cluster, its number is no refusal
owner-no : (o : Own) → (own_answer o).no ≡ 0
unfolding own_answer
owner-no Reserved = refl
owner-no Fixed = refl
owner-no (Dyn j) = refl
owner-no Free = refl

module _ (files : List VF) (first c : ℕ) where
  abbrev few : Bool
  few = leb (length files) 400

  finder-well : (found : HandedAnswer) → FindsFile files found → found.no ≡ pick few 0 10
  unfolding FindsHanded
  finder-well found f =
      either few
      (λ e. let l = leb-true (length files) 400 e in
      rw e (either found.found (λ q. (f.1 l q).0) (λ q. (f.2 l q).0)))
      (λ e. let l = leb-false (length files) 400 e in rw (e, f.0 l))

  none-well : (found : HandedAnswer) → FindsFile files found → (found.no ≡ 0 → ⊥) → (found.found ≡ false) × (found.row ≡ 0)
  unfolding FindsHanded
  none-well found f n =
      either few
      (λ e. absurd (n (finder-well found f ∙ rw e)))
      (λ e. let l = leb-false (length files) 400 e in rw (f.0 l) (refl, refl))

  owner-well : (files_owner files first c).no ≡ pick few 0 10
  unfolding files_owner
  owner-well =
      either few
      (λ e. let l = leb-true (length files) 400 e in rw (e, le-ltb 400 (length files) l) (owner-no (owner_of (map start_of files) (map size_of files) first c)))
      (λ e. let l = leb-false (length files) 400 e in rw (e, lt-ltb 400 (length files) l))

  unowned-well : ((files_owner files first c).no ≡ 0 → ⊥) → ((files_owner files first c).owner ≡ 0) × ((files_owner files first c).row ≡ 0)
  unfolding files_owner
  unowned-well n =
      either few
      (λ e. absurd (n (owner-well ∙ rw e)))
      (λ e. let l = leb-false (length files) 400 e in rw (lt-ltb 400 (length files) l) (refl, refl))

  pub table-reads-well : (found : HandedAnswer) → FindsFile files found → TableReads files first c found
  table-reads-well found f = record { finder = finder-well found f; none-found = none-well found f; owner = owner-well; unowned = unowned-well }

pub demand-1-calls : Demand1Calls
unfolding mode_reset set_read_only
demand-1-calls =
    record {
      poll = poll-ends;
      release = release-ends;
      release-all = all-ends;
      bus-reset = reset-ends;
      mode-reset = λ w. refl;
      set-read-only = λ w on. refl;
      report = report-well;
      starts = start-well;
      reads = reads-well;
      table-reads = table-reads-well;
    }
