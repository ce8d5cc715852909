-- Cutting the calls also where another call left the row unmarked changes nothing of what is said of them: by then nothing was held since.
use Rattle.std.specs.Prelude.{ℕ, ◌<◌, Bool, true, false, ◌&&◌, ◌||◌, ◌≡◌, length, get_or}
use Rattle.std.proofs.Common.{true≢false, ◌∙◌}
use mathlib.Core.List.{List, [], ◌∷◌}
use Rattle.std.proofs.Math.Path.{refl, sym, ap}
use Rattle.loops.specs.Loops.{pick}
use Rattle.loops.specs.Choices.{and-0, and-1, or-by, or-l, or-r}
use Rattle.vdisk.specs.Ids.{unmarked}
use Rattle.file_table.specs.Table.{Table, accepts}
use Rattle.file_table.specs.Accepted.{accepted, row-unmarked}
use Rattle.marks.proofs.KeptLaws.{kept-start}
use Rattle.demand3.specs.Step.{Call, id_of}
use Rattle.demand3.specs.History.{Event, History, event, next, run, begun, since_by, since, any_of, seen_in, SameEither}
use Rattle.demand3.specs.History.{turned_by, zeroed_by, staged_by, named_by, gone_by, turned_in, zeroed_in, moved_in, named_in, gone_in}
use Rattle.demand3.proofs.Induct.{Told, bare, told-none, told-next}
use Rattle.demand3.proofs.Theorem.{Good, good, effect}

no-by : (a b : Bool) → b ≡ false → (a ≡ true → b ≡ true) → a ≡ false
no-by true b e f = absurd (true≢false (sym (f refl) ∙ e))
no-by false b e f = refl

-- the same is said of both lists of calls
record Same (t : Table) (j : ℕ) (xs ys : List Event) : Type 0 where
  turned : turned_in t j xs ≡ turned_in t j ys
  zeroed : zeroed_in t j xs ≡ zeroed_in t j ys
  moved : moved_in t j xs ≡ moved_in t j ys
  named : named_in t j xs ≡ named_in t j ys
  gone : gone_in t j xs ≡ gone_in t j ys

module _ (t : Table) (j : ℕ) where
  -- a file is moved only if it was turned, and named only if it was moved
  moved-turned : (es : List Event) → moved_in t j es ≡ true → turned_in t j es ≡ true
  unfolding any_of moved_in
  moved-turned [] q = q
  moved-turned (e ∷ es) q =
      let a = turned_by t j e in
      let n = (seen_in t j e).named in
      let b = staged_by t j e in
      or-by ((a && n) || (b && turned_in t j es)) (moved_in t j es) q
      (λ p. or-by (a && n) (b && turned_in t j es) p (λ z. or-l a (turned_in t j es) (and-0 a n z)) (λ z. or-r a (turned_in t j es) (and-1 b (turned_in t j es) z)))
      (λ p. or-r a (turned_in t j es) (moved-turned es p))

  named-moved : (es : List Event) → named_in t j es ≡ true → moved_in t j es ≡ true
  unfolding moved_in named_in
  named-moved [] q = q
  named-moved (e ∷ es) q =
      let a = (turned_by t j e && (seen_in t j e).named) || (staged_by t j e && turned_in t j es) in
      or-r a (moved_in t j es) (or-by (named_by t j e && moved_in t j es) (named_in t j es) q (λ p. and-1 (named_by t j e) (moved_in t j es) p) (named-moved es))

  -- where the row is unmarked, nothing was held since
  same-none : (id : ℕ) (es : List Event) → unmarked id ≡ true → Told t j id es → Same t j [] es
  unfolding any_of moved_in named_in
  same-none id es u k =
      let b = bare id u in
      let tu = sym k.turn ∙ b.0 in
      let mo = no-by (moved_in t j es) (turned_in t j es) tu (moved-turned es) in
      record {
        turned = sym tu;
        zeroed = sym (no-by (zeroed_in t j es) _ b.1 k.keep);
        moved = sym mo;
        named = sym (no-by (named_in t j es) (moved_in t j es) mo (named-moved es));
        gone = sym (sym k.left ∙ b.2);
      }

  -- one call more in both
  same-more : (e : Event) (xs ys : List Event) → Same t j xs ys → Same t j (e ∷ xs) (e ∷ ys)
  unfolding any_of moved_in named_in
  same-more e xs ys k =
      record {
        turned = ap (λ (b : Bool). turned_by t j e || b) k.turned;
        zeroed = ap (λ (b : Bool). zeroed_by t j e || b) k.zeroed;
        moved = rw (k.turned, k.moved);
        named = rw (k.moved, k.named);
        gone = ap (λ (b : Bool). gone_by t j e || b) k.gone;
      }

-- a further test that cuts the calls where the row is unmarked
module _ (t : Table) (j : ℕ) (also : Event → Bool) where
  abbrev cuts : Event → Bool
  cuts e = (e.out.released || also e) && unmarked (id_of e.out.after j)

  same-by : (e : Event) (es : List Event) (r a u : Bool) → unmarked (id_of e.out.after j) ≡ u
      → Told t j (id_of e.out.after j) (pick (r && u) [] (e ∷ since j es)) → Same t j (since_by cuts es) (since j es)
      → Same t j (pick ((r || a) && u) [] (e ∷ since_by cuts es)) (pick (r && u) [] (e ∷ since j es))
  same-by e es true a true q k h = same-none t j (id_of e.out.after j) [] q k
  same-by e es true a false q k h = same-more t j e (since_by cuts es) (since j es) h
  same-by e es false true true q k h = same-none t j (id_of e.out.after j) (e ∷ since j es) q k
  same-by e es false true false q k h = same-more t j e (since_by cuts es) (since j es) h
  same-by e es false false u q k h = same-more t j e (since_by cuts es) (since j es) h

  same-next : (e : Event) (es : List Event) → Told t j (id_of e.out.after j) (since j (e ∷ es)) → Same t j (since_by cuts es) (since j es)
      → Same t j (since_by cuts (e ∷ es)) (since j (e ∷ es))
  unfolding since_by
  same-next e es k h = same-by e es e.out.released (also e) (unmarked (id_of e.out.after j)) refl k h

  same-run : accepts t ≡ true → j < length t.ids → (cs : List Call) (h : History) → Good t h.session → Told t j (id_of h.session j) (since j h.trace)
      → Same t j (since_by cuts h.trace) (since j h.trace) → Same t j (since_by cuts (run t h cs).trace) (since j (run t h cs).trace)
  unfolding run event
  same-run fine l [] h g k q = q
  same-run fine l (c ∷ cs) h g k q =
      let e = event t c h.session in
      let k' = told-next t j e h.trace (effect t fine c h.session g j l) k in
      same-run fine l cs (next t h c) (good t fine c h.session g) k' (same-next e h.trace k' q)

-- whichever calls count besides those that completed a release
pub same-either : (t : Table) → accepts t ≡ true → (cs : List Call) (j : ℕ) → j < length t.ids → (also : Event → Bool) → SameEither also t j (run t (begun t) cs)
unfolding since_by
same-either t fine cs j l also =
    let k = told-none t j (get_or t.ids j 0) (row-unmarked t (accepted t fine) j l) in
    let r = same-run t j also fine l cs (begun t) (kept-start t) k (record { turned = refl; zeroed = refl; moved = refl; named = refl; gone = refl }) in
    record { turned = r.turned; zeroed = r.zeroed; named = r.named; gone = r.gone }
