-- Laws of the finder and of a bus reset.
use Rattle.std.specs.Prelude.{ℕ, Bool, true, List, length, get_or, Option, Some, None}
use Rattle.std.proofs.Math.Path.{◌≡◌}
use Rattle.std.proofs.Common.{sym, ◌∙◌}
use native.Mathlib.Omega.{arith}
use Rattle.loops.specs.Choices.{either}
use Rattle.loops.specs.Found.{find, find-lt, find-is, find-none}
use Rattle.vdisk.specs.Ids.{handed}
use Rattle.state.specs.declared.w.W.{W}
use Rattle.release.specs.Release.{Lending, release_all, fits, release_all_call}
use Rattle.release.specs.ReleaseLaws.{Leaves}
use Rattle.sessions.specs.Sessions.{Finds, mode_reset, bus_reset, bus_reset_call}

abbrev pub handed_at : List ℕ → ℕ → Bool
handed_at ids j = handed (get_or ids j 0)

-- the first handed row is a handed row
pub finds-first : (ids : List ℕ) (f : Option ℕ) → f ≡ find (handed_at ids) (length ids) → Finds ids f
unfolding Finds
finds-first ids (Some j) e = (find-lt (handed_at ids) (length ids) j (sym e), find-is (handed_at ids) (length ids) j (sym e))
finds-first ids None e = λ j h. find-none (handed_at ids) (length ids) j (sym e) h

-- a bus reset by what the release in it left
module _ (x : Lending) (w : W) (number ended : ℕ) (had : Bool) (v : W) (ids : List ℕ) (l : Leaves (release_all_call x w true) number ended had v ids) where
  pub reset-down : (number ≡ 0 → ⊥) → Leaves (bus_reset_call x w) number ended had v ids
  unfolding bus_reset_call release_all_call release_all
  reset-down h =
      either (fits x)
      (λ e. absurd (h (rw e at l.answer)))
      (λ e. record { answer = rw e (rw e at l.answer); how = rw e (rw e at l.how); any = rw e (rw e at l.any); state = rw e (rw e at l.state); table = rw e (rw e at l.table) })

  pub reset-ran : number ≡ 0 → Leaves (bus_reset_call x w) 0 ended had (mode_reset v) ids
  unfolding bus_reset_call bus_reset release_all_call release_all
  reset-ran z =
      either (fits x)
      (λ e. let s = rw e at l.state in
      record { answer = rw e; how = rw e (rw e at l.how); any = rw e (rw e at l.any); state = rw (e, s); table = rw e (rw e at l.table) })
      (λ e. let q : number ≡ 10 = rw e at l.answer in absurd (ten (sym z ∙ q)))
    where
      ten : ◌≡◌ {A = ℕ} 0 10 → ⊥
      ten q = omega arith
