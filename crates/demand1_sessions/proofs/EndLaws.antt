-- What the calls that may end a session leave.
use Rattle.std.specs.Prelude.{ℕ, Bool, ◌≡◌}
use Rattle.std.proofs.Math.Bool.{true, false}
use Rattle.std.proofs.Common.{true≢false, ◌∙◌}
use Rattle.std.proofs.Math.Path.{refl, sym, ap, subst}
use Rattle.std.proofs.Math.Dec.{eqb}
use Rattle.std.proofs.lemmas.Bool.{eqb-false}
use Rattle.loops.specs.Loops.{pick}
use Rattle.loops.specs.Choices.{either, pick-by}
use Rattle.loops.specs.Rows.{rows}
use Rattle.state.specs.Setters.{with_rw, with_boot, with_fat1, with_rec, with_pair, with_st, with_session, with_locks, with_last, with_now_ms, with_staging, with_done, with_end_at, with_parks, with_purge}
use Rattle.state.specs.declared.w.W.{W}
use Rattle.release.specs.Undecided.{is_undecided}
use Rattle.release.specs.Release.{Lending, Ended, emptied, handed_on, release_id, released_ids, released_state, had_any, release_all, held_back, release, turned_down, release_all_call, release_call}
use Rattle.sessions.specs.Poll.{ticked, poll_call}
use Rattle.sessions.specs.PollLaws.{poll-dropped, poll-ended, poll-quiet, poll-kept}
use Rattle.sessions.specs.Sessions.{mode_reset, bus_reset, bus_reset_call}
use Rattle.demand1_sessions.specs.Ends.{up_to400, stays_handed, left_marks, Lasts, Ran, PutOff, Idle, clock_set, held_end_due, quiet_due, tick_ends, MayEnd}
use Rattle.demand1_sessions.proofs.EndTestLaws.{fits-as, due-as, quiet-as, had-as}

-- a table that doesn't fit
module _ (x : Lending) (w t still : W) (reset mode : Bool) (how : ℕ) where
  down : up_to400 x ≡ false → MayEnd x w t still reset mode how (turned_down x w 10)
  down f =
      record {
        admitted = sym f;
        refused = λ _. record { number = refl; ended = refl; had = refl; state = refl; ids = refl };
        ended = λ g. absurd (true≢false (sym g ∙ f));
        ran = λ g. absurd (true≢false (sym g ∙ f));
        put-off = λ g. absurd (true≢false (sym g ∙ f));
        idle = λ g. absurd (true≢false (sym g ∙ f));
      }

  -- one that does, by how the call ends
  fitting : (e : Ended) → up_to400 x ≡ true → e.number ≡ 0 → e.ended ≡ how → (how ≡ 1 → Ran x t reset mode e) → (how ≡ 2 → PutOff x t e) → (how ≡ 0 → Idle x still e)
      → MayEnd x w t still reset mode how e
  fitting e f n h r p i =
      record {
        admitted = ap (λ (k : ℕ). eqb k 0) n ∙ sym f;
        refused = λ q. absurd (q n);
        ended = λ _. h;
        ran = λ _. r;
        put-off = λ _. p;
        idle = λ _. i;
      }

never : {R : Type 0} (a b : ℕ) → eqb a b ≡ false → a ≡ b → R
never a b e q = absurd (eqb-false a b e q)

lasting : (w : W) → Lasts w w
lasting w = record { want_rw = refl; now_ms = refl; stage_t = refl; hint = refl; err = refl; fw = refl; ver = refl; purged = refl; n = refl; first = refl }

-- the release of a state
module _ (x : Lending) (w : W) where
  left-ids : released_ids x w.st ≡ rows (left_marks x w.st) x.ids
  unfolding released_ids release_id handed_on left_marks stays_handed
  left-ids = refl

  ran-all : (v : W) (reset : Bool) → v.st ≡ w.st → v.rw ≡ w.rw → v.locks ≡ w.locks → v.parks ≡ w.parks → v.purge ≡ w.purge → had_any v ≡ had_any w → Lasts w v
      → Ran x w reset w.rw (release_all x v reset)
  unfolding release_all released_state emptied with_boot with_fat1 with_rec with_pair with_st with_session with_locks with_last with_staging with_done with_end_at with_parks with_purge
  ran-all v reset s m l p u h k =
      record {
        number = refl;
        had = h ∙ had-as w;
        empty = record { pair = refl; rec = refl; st = refl; boot = refl; fat1 = refl };
        closed = record { session = refl; last = refl; staging = refl; done = refl; end_at = refl; parks = refl };
        lasts = record {
          want_rw = k.want_rw;
          now_ms = k.now_ms;
          stage_t = k.stage_t;
          hint = k.hint;
          err = k.err;
          fw = k.fw;
          ver = k.ver;
          purged = k.purged;
          n = k.n;
          first = k.first;
        };
        rw = m;
        locks = rw l;
        purge = rw (p, u);
        ids = rw s left-ids;
      }

  ran-here : (reset : Bool) → Ran x w reset w.rw (release_all x w reset)
  ran-here reset = ran-all w reset refl refl refl refl refl refl (lasting w)

  pub all-ends : (reset : Bool) → MayEnd x w w w reset w.rw 1 (release_all_call x w reset)
  unfolding release_all_call release_all
  all-ends reset =
      rw (fits-as x) (pick-by (MayEnd x w w w reset w.rw 1) (up_to400 x) (release_all x w reset) (turned_down x w 10)
      (λ f. fitting x w w w reset w.rw 1 (release_all x w reset) f refl refl (λ _. ran-here reset) (never 1 2 refl) (never 1 0 refl))
      (down x w w w reset w.rw 1))

  held : PutOff x w (record { number = 0; ended = 2; had = false; w = held_back w; ids = x.ids })
  unfolding held_back with_end_at
  held =
      record {
        number = refl;
        had = refl;
        state = either (eqb w.end_at 0) (λ e. rw e) (λ e. rw e);
        ids = refl;
      }

  pub release-ends : MayEnd x w w w false w.rw (pick (is_undecided w) 2 1) (release_call x w)
  unfolding release_call release release_all
  release-ends =
      rw (fits-as x) (pick-by (MayEnd x w w w false w.rw (pick (is_undecided w) 2 1)) (up_to400 x) (release x w) (turned_down x w 10)
      (λ f. either (is_undecided w)
      (λ u. rw u (fitting x w w w false w.rw 2 _ f refl refl (never 2 1 refl) (λ _. held) (never 2 0 refl)))
      (λ u. rw u (fitting x w w w false w.rw 1 (release_all x w false) f refl refl (λ _. ran-here false) (never 1 2 refl) (never 1 0 refl))))
      (down x w w w false w.rw (pick (is_undecided w) 2 1)))

  reset-ran : Ran x w true w.want_rw (bus_reset x w)
  unfolding bus_reset mode_reset with_rw release_all released_state emptied with_boot with_fat1 with_rec with_pair with_st with_session with_locks with_last with_staging with_done with_end_at with_parks with_purge
  reset-ran =
      let r = ran-here true in
      record {
        number = refl;
        had = had-as w;
        empty = record { pair = refl; rec = refl; st = refl; boot = refl; fat1 = refl };
        closed = record { session = refl; last = refl; staging = refl; done = refl; end_at = refl; parks = refl };
        lasts = record { want_rw = refl; now_ms = refl; stage_t = refl; hint = refl; err = refl; fw = refl; ver = refl; purged = refl; n = refl; first = refl };
        rw = refl;
        locks = refl;
        purge = refl;
        ids = r.ids;
      }

  pub reset-ends : MayEnd x w w w true w.want_rw 1 (bus_reset_call x w)
  unfolding bus_reset_call bus_reset release_all
  reset-ends =
      rw (fits-as x) (pick-by (MayEnd x w w w true w.want_rw 1) (up_to400 x) (bus_reset x w) (turned_down x w 10)
      (λ f. fitting x w w w true w.want_rw 1 (bus_reset x w) f refl refl (λ _. reset-ran) (never 1 2 refl) (never 1 0 refl))
      (down x w w w true w.want_rw 1))

lasting-end : (w : W) (n : ℕ) → Lasts w (with_end_at w n)
unfolding with_end_at
lasting-end w n = record { want_rw = refl; now_ms = refl; stage_t = refl; hint = refl; err = refl; fw = refl; ver = refl; purged = refl; n = refl; first = refl }

-- how a tick ends
module _ (u : W) (b : Bool) where
  tick-dropped : held_end_due u ≡ true → b ≡ true → tick_ends u b ≡ 0
  unfolding tick_ends
  tick-dropped d m = rw (d, m)

  tick-ended : held_end_due u ≡ true → b ≡ false → tick_ends u b ≡ 1
  unfolding tick_ends
  tick-ended d m = rw (d, m)

  tick-quiet : held_end_due u ≡ false → quiet_due u b ≡ true → tick_ends u b ≡ pick (is_undecided u) 2 1
  unfolding tick_ends
  tick-quiet d q = rw (d, q)

  tick-kept : held_end_due u ≡ false → quiet_due u b ≡ false → tick_ends u b ≡ 0
  unfolding tick_ends
  tick-kept d q = rw (d, q)

-- a tick
module _ (x : Lending) (w : W) (clock : ℕ) (mounted : Bool) where
  abbrev t : W
  t = clock_set w clock mounted

  abbrev still : W
  still = pick (held_end_due t) (with_end_at t 0) t

  abbrev Ticks : ℕ → Ended → Type 0
  Ticks how e = MayEnd x w t still false w.rw how e

  set-clock : t ≡ ticked w clock mounted
  unfolding ticked
  set-clock = refl

  -- an end that is due
  dropped : up_to400 x ≡ true → held_end_due t ≡ true → mounted ≡ true → Ticks (tick_ends t mounted) (poll_call x w clock mounted)
  dropped f d m =
      let l = poll-dropped x w clock mounted t set-clock (fits-as x ∙ f) (due-as t ∙ d) m in
      rw (tick-dropped t mounted d m, d) (fitting x w t (with_end_at t 0) false w.rw 0 _ f (sym l.answer) (sym l.how) (never 0 1 refl) (never 0 2 refl)
      (λ _. record { number = sym l.answer; had = sym l.any; state = sym l.state; ids = sym l.table }))

  ended : up_to400 x ≡ true → held_end_due t ≡ true → mounted ≡ false → Ticks (tick_ends t mounted) (poll_call x w clock mounted)
  unfolding release_all_call release_all had_any with_locks with_now_ms with_end_at
  ended f d m =
      subst (λ (e : Ended). Ticks (tick_ends t mounted) e) (poll-ended x w clock mounted t set-clock (fits-as x ∙ f) (due-as t ∙ d) m)
      (rw (tick-ended t mounted d m, fits-as x, f, d) (fitting x w t (with_end_at t 0) false w.rw 1 (release_all x (with_end_at t 0) false) f refl refl
      (λ _. ran-all x t (with_end_at t 0) false refl refl refl refl refl refl (lasting-end t 0)) (never 1 2 refl) (never 1 0 refl)))

  -- none is due
  quiet : up_to400 x ≡ true → held_end_due t ≡ false → quiet_due t mounted ≡ true → Ticks (tick_ends t mounted) (poll_call x w clock mounted)
  unfolding with_locks with_now_ms
  quiet f d q =
      let m = release-ends x t in
      subst (λ (e : Ended). Ticks (tick_ends t mounted) e) (poll-quiet x w clock mounted t set-clock (fits-as x ∙ f) (due-as t ∙ d) (quiet-as t mounted ∙ q))
      (rw (tick-quiet t mounted d q, d) (record {
        admitted = m.admitted;
        refused = λ r. absurd (true≢false (sym f ∙ sym m.admitted ∙ ap (λ (k : ℕ). eqb k 0) (m.refused r).number));
        ended = m.ended;
        ran = m.ran;
        put-off = m.put-off;
        idle = λ g. pick-by (λ (k : ℕ). k ≡ 0 → Idle x t (release_call x t)) (is_undecided t) 2 1 (λ _. never 2 0 refl) (λ _. never 1 0 refl);
      }))

  kept : up_to400 x ≡ true → held_end_due t ≡ false → quiet_due t mounted ≡ false → Ticks (tick_ends t mounted) (poll_call x w clock mounted)
  kept f d q =
      let l = poll-kept x w clock mounted t set-clock (fits-as x ∙ f) (due-as t ∙ d) (quiet-as t mounted ∙ q) in
      rw (tick-kept t mounted d q, d) (fitting x w t t false w.rw 0 _ f (sym l.answer) (sym l.how) (never 0 1 refl) (never 0 2 refl)
      (λ _. record { number = sym l.answer; had = sym l.any; state = sym l.state; ids = sym l.table }))

  over : up_to400 x ≡ false → Ticks (tick_ends t mounted) (poll_call x w clock mounted)
  unfolding poll_call
  over f = rw (fits-as x, f) (down x w t still false w.rw (tick_ends t mounted) f)

  pub poll-ends : Ticks (tick_ends t mounted) (poll_call x w clock mounted)
  poll-ends =
      either (up_to400 x)
      (λ f. either (held_end_due t) (λ d. either mounted (dropped f d) (ended f d)) (λ d. either (quiet_due t mounted) (quiet f d) (kept f d)))
      over
