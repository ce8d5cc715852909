-- Laws of the block that a sector is staged in.
use Rattle.std.specs.Prelude.{ℕ, zero, suc, ◌+◌, ◌-◌, ◌*◌, ◌≤◌, max, Bool, true, false, ◌&&◌, ◌||◌, List, ◌≡◌, leb, ltb, eqb, length, Option, Some, None}
use Rattle.std.proofs.lemmas.Bool.{false≢true}
use Rattle.std.proofs.lemmas.Option.{none-some, same_Some}
use Rattle.std.proofs.Common.{arith, sym, ◌∙◌, le-leb, leb-true, eqb-true}
use Rattle.loops.specs.Loops.{pick, first}
use Rattle.loops.specs.Choices.{pick-by, picked, and-of, and-1, and-0, or-by}
use Rattle.state.specs.Setters.{with_hint}
use Rattle.state.specs.declared.w.St.{St}
use Rattle.state.specs.declared.w.W.{W}
use Rattle.medium.specs.Medium.{Free, is_medium, has_block, free_at, search_end, next_free}
use Rattle.medium.specs.MediumLaws.{InArea, block-in}
use Rattle.staging.specs.Blocks.{is_parked, held_for}
use Rattle.staging.specs.Lent.{HeldIn}
use Rattle.staging.specs.Staging.{StageWrite, refused, into_block, with_block}

first-from : (p : ℕ → Bool) (n i : ℕ) → i ≤ first p n i
unfolding first
first-from p zero i = omega arith
first-from p (suc n) i = pick-by (λ (k : ℕ). i ≤ k) (p i) i (first p n (i + 1)) (λ e. omega arith) (λ e. omega (arith, first-from p n (i + 1)))

-- a block that was found is one of the medium's
pub found-inside : (fat area : List ℕ) (hint : ℕ) → is_medium fat area ≡ true → (next_free fat hint).found ≡ true → InArea area (next_free fat hint).block
unfolding next_free search_end has_block
found-inside fat area hint m =
    let from = max hint 2 in
    let at = first (free_at fat) (length fat - from) from in
    pick-by (λ (n : Free). n.found ≡ true → InArea area n.block) (ltb at (length fat))
    (record { found = true; block = at; hint = at + 1 })
    (record { found = false; block = 0; hint = at })
    (λ l e. let h : 2 ≤ at = omega (arith, first-from (free_at fat) (length fat - from) from) in
    block-in fat area at (and-of (is_medium fat area && leb 2 at) (ltb at (length fat)) (and-of (is_medium fat area) (leb 2 at) m (le-leb 2 at h)) l))
    (λ l e. absurd (false≢true e))

pub few-blocks : (fat area : List ℕ) → is_medium fat area ≡ true → length fat ≤ 65526
unfolding is_medium
few-blocks fat area e =
    let lo = leb 3 (length fat) in
    let hi = leb (length fat) 65526 in
    leb-true (length fat) 65526 (and-1 lo hi (and-0 (lo && hi) (eqb (length area) ((length fat - 2) * 4096)) e))

-- a block that is held and is one of the medium's lies inside
pub held-in : (fat area : List ℕ) (x : St) (s : ℕ) → (eqb (held_for x s) 0 || has_block fat area (held_for x s)) ≡ true → HeldIn area x s
held-in fat area x s e h =
    or-by (eqb (held_for x s) 0) (has_block fat area (held_for x s)) e (λ q. absurd (h (eqb-true (held_for x s) 0 q))) (λ q. block-in fat area (held_for x s) q)

-- a free block was searched for, and none was found, or one
module _ (x : StageWrite) (w : W) (i : ℕ) (y : St) (b : Option ℕ) (h : ℕ)
    (needs : (eqb (held_for y x.s) 0 || is_parked y x.s) ≡ true)
    (eb : b ≡ pick (next_free x.fat w.hint).found (Some (next_free x.fat w.hint).block) None) (eh : h ≡ (next_free x.fat w.hint).hint) where
  pub free-none : b ≡ None → with_block x w i y ≡ refused x 18 (with_hint w h)
  unfolding with_block
  free-none q =
      picked (next_free x.fat w.hint).found (Some (next_free x.fat w.hint).block) None None (sym eb ∙ q)
      (λ t (e : Some (next_free x.fat w.hint).block ≡ None). absurd (none-some _ (sym e)))
      (λ f e. rw (needs, f, eh))

  -- and it is one of the medium's
  pub free-some : is_medium x.fat x.area ≡ true → (k : ℕ) → b ≡ Some k → (with_block x w i y ≡ into_block x (with_hint w h) i y k) × InArea x.area k
  unfolding with_block
  free-some m k q =
      picked (next_free x.fat w.hint).found (Some (next_free x.fat w.hint).block) None (Some k) (sym eb ∙ q)
      (λ t e. let z : (next_free x.fat w.hint).block ≡ k = same_Some _ _ e in
      (rw (needs, t, eh, ← z), rw z at (found-inside x.fat x.area w.hint m t)))
      (λ f (e : None ≡ Some k). absurd (none-some _ e))
