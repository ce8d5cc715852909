-- What a staged sector sets in its slot: a bit of the map, a parked bit cleared, a block number.
use Rattle.std.specs.Prelude.{ℕ, ◌-◌, ◌/◌, ◌%◌, ◌^◌, Bool, true, false, not, ◌&&◌, ◌||◌, ◌≡◌, refl, ltb, eqb, length}
use Rattle.std.proofs.Common.{sym, ◌∙◌, get_or-set_same, get_or-set_other, pow_pos}
use native.Mathlib.Omega.{arith}
use Rattle.std.proofs.Math.Nat.{div-eq-sub-div}
use Rattle.std.specs.Int.Bits.{bit_and, or_disjoint}
use borrow.Author.Tests.{eqb-true, eqb-false, ltb-true, ltb-false}
use Rattle.loops.specs.Choices.{either}
use Rattle.bits.specs.Bit.{bit, set_bit}
use Rattle.bits.specs.Laws.{bit-set-same, bit-set-below, bit-set-above, and-pow}
use Rattle.state.specs.declared.w.St.{St}
use Rattle.staging.specs.Blocks.{clear_bit, holding_st, written_st}
use Rattle.staging.specs.BlockLaws.{bit-le}
use Rattle.judge.specs.Classify.{SectorWrite}
use Rattle.admits.specs.Admits.{takes_none}
use Rattle.demand1.specs.StageChanges.{SlotSet}

-- any bit of a number with one set
bit-set : (m s n : ℕ) → bit (set_bit m s) n ≡ (eqb n s || bit m n)
bit-set m s n =
    either (eqb n s)
    (λ e. rw (e, eqb-true n s e) (bit-set-same m s))
    (λ e. let h = eqb-false n s e in
    rw e (either (ltb n s) (λ l. bit-set-below m s n (ltb-true n s l)) (λ l. let g = ltb-false n s l in bit-set-above m s n (omega arith))))

-- where bit j is set, without it the number is what it was set in
module _ (m j : ℕ) (h : bit m j ≡ true) where
  cleared-off : (m - 2 ^ j) / 2 ^ j % 2 ≡ 0
  unfolding bit
  cleared-off =
      let q = eqb-true (m / 2 ^ j % 2) 1 h in
      let e = div-eq-sub-div (pow_pos j) (bit-le m j h) in
      omega arith

  set-back : set_bit (m - 2 ^ j) j ≡ m
  unfolding set_bit
  set-back =
      let l = bit-le m j h in
      let a : bit_and (m - 2 ^ j) (2 ^ j) ≡ 0 = and-pow (m - 2 ^ j) j ∙ rw cleared-off (omega arith) in
      or_disjoint (m - 2 ^ j) (2 ^ j) a ∙ omega arith

  clear-same : bit (m - 2 ^ j) j ≡ false
  unfolding bit
  clear-same = rw cleared-off

  clear-other : (n : ℕ) → eqb n j ≡ false → bit (m - 2 ^ j) n ≡ bit m n
  clear-other n e = let q = bit-set (m - 2 ^ j) j n in sym (rw (e, set-back) at q)

and-yes : (a : Bool) → a ≡ (a && true)
and-yes true = refl
and-yes false = refl

-- any bit of a number with one cleared
bit-clear : (m j n : ℕ) → bit (clear_bit m j) n ≡ (bit m n && not (eqb n j))
unfolding clear_bit
bit-clear m j n =
    either (eqb n j)
    (λ e. rw (e, eqb-true n j e) (either (bit m j) (λ h. rw h (clear-same m j h)) (λ h. rw h h)))
    (λ e. rw e (either (bit m j) (λ h. rw h (clear-other m j h n e ∙ and-yes (bit m n))) (λ h. rw h (and-yes (bit m n)))))

module _ (x : SectorWrite) (c s b : ℕ) (y : St) (own : y.c ≡ c) where
  -- no block is taken
  pub written-set : takes_none x y s ≡ true → SlotSet x c s b y (written_st y s)
  unfolding written_st
  written-set e =
      record { cluster = own; sealed = refl; map = bit-set y.map s; ro = λ n. rw e (and-yes (bit y.ro n)); blk = λ n l. rw e }

  -- block b is held
  pub holding-set : length y.blk ≡ 8 → takes_none x y s ≡ false → SlotSet x c s b y (holding_st y s b)
  unfolding holding_st
  holding-set long e =
      record {
        cluster = own;
        sealed = refl;
        map = bit-set y.map s;
        ro = λ n. rw e (bit-clear y.ro (s / 8) n);
        blk = λ n l. rw e
            (either (eqb n (s / 8))
            (λ q. let h = eqb-true n (s / 8) q in rw q (rw h (get_or-set_same y.blk (s / 8) b 0 (omega arith))))
            (λ q. rw q (get_or-set_other y.blk (s / 8) n b 0 (eqb-false n (s / 8) q))));
      }
