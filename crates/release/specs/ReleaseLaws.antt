-- The ways of a release, and what a table that fits has.
use Rattle.std.specs.Prelude.{ℕ, ◌≤◌, Bool, true, false, ◌&&◌, List, ◌≡◌, length}
use Rattle.std.proofs.Math.Dec.{leb, eqb}
use borrow.Author.Tests.{leb-true, eqb-true}
use Rattle.loops.specs.Choices.{and-0, and-1}
use Rattle.file_table.specs.Table.{max_files}
use Rattle.state.specs.declared.w.W.{W}
use Rattle.release.specs.Undecided.{is_undecided}
use Rattle.release.specs.Release.{Lending, Ended, released_ids, released_state, had_any, release_all, held_back, release, fits, release_all_call, release_call}

-- what a call leaves, part by part
pub record Leaves (e : Ended) (number ended : ℕ) (had : Bool) (w : W) (ids : List ℕ) : Type 0 where
  pub answer : number ≡ e.number
  pub how : ended ≡ e.ended
  pub any : had ≡ e.had
  pub state : w ≡ e.w
  pub table : ids ≡ e.ids

module _ (x : Lending) where
  pub fits-rows : fits x ≡ true → length x.ids ≤ max_files
  unfolding fits
  fits-rows e =
      let a = leb (length x.ids) max_files in
      let b = eqb (length x.starts) (length x.ids) in
      let c = eqb (length x.sizes) (length x.ids) in
      leb-true (length x.ids) max_files (and-0 a b (and-0 (a && b) c e))

  pub fits-starts : fits x ≡ true → length x.starts ≡ length x.ids
  unfolding fits
  fits-starts e =
      let a = leb (length x.ids) max_files in
      let b = eqb (length x.starts) (length x.ids) in
      let c = eqb (length x.sizes) (length x.ids) in
      eqb-true (length x.starts) (length x.ids) (and-1 a b (and-0 (a && b) c e))

  pub fits-sizes : fits x ≡ true → length x.sizes ≡ length x.ids
  unfolding fits
  fits-sizes e =
      let a = leb (length x.ids) max_files in
      let b = eqb (length x.starts) (length x.ids) in
      let c = eqb (length x.sizes) (length x.ids) in
      eqb-true (length x.sizes) (length x.ids) (and-1 (a && b) c e)

module _ (x : Lending) (w : W) (reset : Bool) where
  pub all-down : fits x ≡ false → Leaves (release_all_call x w reset) 10 0 false w x.ids
  unfolding release_all_call
  all-down e = record { answer = rw e; how = rw e; any = rw e; state = rw e; table = rw e }

  pub all-ran : fits x ≡ true → Leaves (release_all_call x w reset) 0 1 (had_any w) (released_state w reset) (released_ids x w.st)
  unfolding release_all_call release_all
  all-ran e = record { answer = rw e; how = rw e; any = rw e; state = rw e; table = rw e }

module _ (x : Lending) (w : W) where
  pub down : fits x ≡ false → Leaves (release_call x w) 10 0 false w x.ids
  unfolding release_call
  down e = record { answer = rw e; how = rw e; any = rw e; state = rw e; table = rw e }

  pub put-off : fits x ≡ true → is_undecided w ≡ true → Leaves (release_call x w) 0 2 false (held_back w) x.ids
  unfolding release_call release
  put-off e u = record { answer = rw (e, u); how = rw (e, u); any = rw (e, u); state = rw (e, u); table = rw (e, u) }

  pub ran : fits x ≡ true → is_undecided w ≡ false → release_all_call x w false ≡ release_call x w
  unfolding release_call release release_all_call
  ran e u = rw (e, u)
