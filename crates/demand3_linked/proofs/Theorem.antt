-- Linked calls are a list of demand 3.
use Rattle.std.specs.Prelude.{ℕ, ◌<◌, ◌≤◌, true, false, List, map, ◌≡◌, get_or}
use Rattle.std.proofs.Math.Bool.{So}
use Rattle.std.proofs.Common.{true≢false, ap, ◌∙◌, subst, arith}
use Rattle.std.proofs.Math.Path.{sym}
use Rattle.std.proofs.Math.ListN.{length, length-map}
use Rattle.loops.specs.Choices.{either}
use Rattle.vdisk.specs.Ids.{handed}
use Rattle.file_table.specs.Table.{Table, max_files, columns, accepts}
use Rattle.file_table.specs.Accepted.{accepted}
use Rattle.file_table.specs.declared.VF.{VF}
use Rattle.file_table.specs.Files.{id_of, dir_slot_of, start_of, size_of}
use Rattle.file_table.proofs.FileRows.{same-ids}
use Rattle.state.specs.State.{initial}
use Rattle.state.specs.declared.w.W.{W}
use Rattle.sessions.specs.Sessions.{start}
use Rattle.sessions.specs.Calls.{FindsHanded, FindsFile}
use Rattle.sessions.specs.Calls.{HandedAnswer}
use Rattle.demand3.specs.Step.{Session, Call, id_of as id_in}
use Rattle.demand3.specs.History.{begun, Demand3}
use Rattle.demand3.proofs.Theorem.{demand-3}
use Rattle.demand3_linked.specs.Linked.{Lent, Result, Linked, Started, session_of, history_of, Chained, lent_history, FinderTells}
use Rattle.demand3_linked.proofs.LinkLaws.{ids-set, slots-stay, starts-stay, sizes-stay, rows-stay, Stands, linked-run}

-- a start that answers 0 took its table, and left the first state
start-took : (t : Table) (w : W) → (start t w).number ≡ 0 → (accepts t ≡ true) × ((start t w).w ≡ initial t.first)
unfolding start
start-took t w e =
    either (accepts t)
    (λ q. (q, rw q))
    (λ q. let z : ◌≡◌ {A = ℕ} 10 0 = rw q at e in absurd (omega arith))

module _ (files : List VF) (first : ℕ) (begin : Lent) (started : Started files first begin) where
  abbrev t : Table
  t = columns files first

  took : (accepts t ≡ true) × ((start t started.earlier).w ≡ initial first)
  took = start-took t started.earlier (sym started.takes.0)

  begin-stands : Stands files begin (begun t).session
  begin-stands = record { state = started.takes.1 ∙ took.1; table = started.table ∙ sym (same-ids files); rows = length-map files id_of }

  stands-session : (l : Lent) (s : Session) → Stands files l s → session_of l ≡ s
  stands-session l s a =
      let p = a.state in
      let q : map id_of l.files ≡ s.ids = ap (map id_of) a.table ∙ ids-set files s.ids a.rows in
      λ i. record { w = p i; ids = q i }

  pub linked-calls : {cs : List Call} {ts : List Result} {after : Lent} → Linked begin cs ts after → Chained files first begin cs ts after
  linked-calls {cs} {ts} {after} k =
      let h = history_of files first cs in
      let (a, q) = linked-run files first k (begun t) begin-stands in
      record {
        taken = took.0;
        begins = stands-session begin (begun t).session begin-stands;
        session = stands-session after h.session a;
        answers = q;
        table = a.table;
        rows = ap (length {A = VF}) a.table ∙ rows-stay files h.session.ids;
        slots = ap (map dir_slot_of) a.table ∙ slots-stay files h.session.ids;
        starts = ap (map start_of) a.table ∙ starts-stay files h.session.ids;
        sizes = ap (map size_of) a.table ∙ sizes-stay files h.session.ids;
      }

  pub linked-session : {cs : List Call} {ts : List Result} {after : Lent} → Linked begin cs ts after → session_of after ≡ (history_of files first cs).session
  linked-session k = (linked-calls k).session

  -- so the mark of a row of the lent table is that of the list's end
  pub linked-handed : {cs : List Call} {ts : List Result} {after : Lent} → Linked begin cs ts after → (j : ℕ)
      → handed (get_or (map id_of after.files) j 0) ≡ handed (id_in (history_of files first cs).session j)
  linked-handed k j = ap (λ (s : Session). handed (id_in s j)) (linked-session k)

  -- demand 3 of the state and the table that a firmware is left with
  pub linked-demand3 : {cs : List Call} {ts : List Result} {after : Lent} → Linked begin cs ts after → Demand3 (columns files first) (lent_history files first cs after)
  linked-demand3 {cs} k =
      subst (λ (s : Session). Demand3 t (record { session = s; trace = (history_of files first cs).trace })) (sym (linked-session k)) (demand-3 t took.0 cs)

  -- and of what the finder answers of that table
  pub linked-finder : {cs : List Call} {ts : List Result} {after : Lent} → Linked begin cs ts after → (r : HandedAnswer) → FindsFile after.files r
      → FinderTells (columns files first) (history_of files first cs) r
  unfolding FindsHanded
  linked-finder {cs} {ts} {after} k r e =
      let d = demand-3 t took.0 cs in
      let rows : length t.ids ≡ length after.files = length-map files id_of ∙ sym (linked-calls k).rows in
      let few : length after.files ≤ max_files = rw (← rows) (accepted t took.0).few in
      let inside : So r.found → r.row < length t.ids = λ f. rw rows (e.1 few f).1 in
      record {
        number = either r.found (λ f. (e.1 few f).0) (λ f. (e.2 few f).0);
        row = inside;
        safe = λ f. d.safe r.row (inside f) (sym (linked-handed k r.row) ∙ (e.1 few f).2);
        present = λ f. d.present r.row (inside f) (sym (linked-handed k r.row) ∙ (e.1 few f).2);
        complete = λ j l p q n. either r.found (λ f. f)
            (λ f. absurd (true≢false (sym (linked-handed k j ∙ d.complete j l p q n) ∙ (e.2 few f).2 j (rw rows at l))));
      }
