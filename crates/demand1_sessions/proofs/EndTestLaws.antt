-- The statement's own tests of a call that may end the session say what the rules' tests say.
use Rattle.std.specs.Prelude.{ℕ, zero, suc, ◌+◌, ◌-◌, ◌≤◌, Bool, true, false, not, ◌&&◌, ◌||◌, ◌≡◌, refl, leb, eqb, get_or}
use Rattle.std.proofs.Common.{arith, leb-true, le-leb}
use Rattle.loops.specs.Loops.{all, some}
use Rattle.loops.specs.Choices.{either, same-if}
use Rattle.records.specs.Records.{max_records, no_rec}
use Rattle.state.specs.State.{max_pairs, max_slots, pair0, no_st}
use Rattle.state.specs.declared.w.W.{W}
use Rattle.release.specs.Release.{Lending, had_any, fits}
use Rattle.sessions.specs.Poll.{end_due, is_quiet}
use Rattle.demand1_sessions.specs.Ends.{up_to400, nothing_held, held_end_due, quiet_due}

pub fits-as : (x : Lending) → fits x ≡ up_to400 x
unfolding fits up_to400
fits-as x = refl

-- a wait of n is over by the difference, which stops at 0, exactly where it is by the sum
wait-over : (n from to : ℕ) → 1 ≤ n → leb n (to - from) ≡ leb (from + n) to
wait-over n from to l =
    same-if (leb n (to - from)) (leb (from + n) to)
    (λ e. let h = leb-true n (to - from) e in le-leb (from + n) to (omega arith))
    (λ e. let h = leb-true (from + n) to e in le-leb n (to - from) (omega arith))

pub due-as : (t : W) → end_due t ≡ held_end_due t
unfolding end_due held_end_due
due-as t = rw (wait-over 1500 t.end_at t.now_ms (omega arith))

-- the same four tests in another order
four-tests : (mounted session locks over : Bool) → (not mounted && (session && (not locks && over))) ≡ (session && not locks && not mounted && over)
four-tests true true true over = refl
four-tests true true false over = refl
four-tests true false locks over = refl
four-tests false true true over = refl
four-tests false true false over = refl
four-tests false false locks over = refl

pub quiet-as : (t : W) (mounted : Bool) → is_quiet t mounted ≡ quiet_due t mounted
unfolding is_quiet quiet_due
quiet-as t mounted =
    rw (wait-over 60000 t.last t.now_ms (omega arith)) (four-tests mounted t.session t.locks (leb (t.last + 60000) t.now_ms))

-- one isn't so exactly where not all are
some-not : (p : ℕ → Bool) (n i : ℕ) → some (λ k. not (p k)) n i ≡ not (all p n i)
unfolding some all
some-not p zero i = refl
some-not p (suc n) i = either (p i) (λ e. rw e (some-not p n (i + 1))) (λ e. rw e)

any-none : (s a b c d e : Bool) → (s || not a || not b || not c || not d || not e) ≡ not (not s && a && b && c && d && e)
any-none true a b c d e = refl
any-none false false b c d e = refl
any-none false true false c d e = refl
any-none false true true false d e = refl
any-none false true true true false e = refl
any-none false true true true true e = refl

pub had-as : (w : W) → had_any w ≡ not (nothing_held w)
unfolding had_any nothing_held
had-as w =
    rw (some-not rec_free max_records 0, some-not pair_free max_pairs 0, some-not slot_free max_slots 0)
    (any-none w.session (eqb w.boot 0) (eqb w.fat1 0) (all rec_free max_records 0) (all pair_free max_pairs 0) (all slot_free max_slots 0))
  where
    rec_free : ℕ → Bool
    rec_free i = eqb (get_or w.rec i no_rec).slot 0

    pair_free : ℕ → Bool
    pair_free i = eqb (get_or w.pair i pair0).c 0

    slot_free : ℕ → Bool
    slot_free i = eqb (get_or w.st i no_st).c 0
