-- The induction over the list of calls, from what one call does to a row's marks.
use Rattle.std.specs.Prelude.{ℕ, ◌<◌, Bool, not, ◌&&◌, ◌||◌, ◌≡◌, length}
use Rattle.std.proofs.Math.Bool.{true, false, So}
use Rattle.std.proofs.Common.{true≢false, sym, ◌∙◌}
use Rattle.std.proofs.lemmas.Bool.{false≢true}
use mathlib.Core.List.{List, [], ◌∷◌}
use Rattle.std.proofs.Math.Path.{refl, ap}
use Rattle.loops.specs.Loops.{pick}
use Rattle.loops.specs.Choices.{and-0, and-1, or-l, or-r}
use Rattle.vdisk.specs.Ids.{turned, freed, gone, moved, handed, unmarked}
use Rattle.file_table.specs.Table.{Table}
use Rattle.demand3.specs.Step.{Session, Call, id_of}
use Rattle.demand3.specs.History.{Event, History, event, next, run, since_by, since, any_of, lately, unmarks, seen_in}
use Rattle.demand3.specs.History.{turned_by, zeroed_by, staged_by, named_by, gone_by, turned_in, zeroed_in, moved_in, named_in, gone_in}

-- What one event does to row j that it doesn't unmark.
pub record Effect (t : Table) (j : ℕ) (e : Event) : Type 0 where
  pub turn : unmarks j e ≡ false → turned (id_of e.out.after j) ≡ (turned_by t j e || turned (id_of e.before j))
  pub free : unmarks j e ≡ false → freed (id_of e.out.after j) ≡ true
      → (zeroed_by t j e || (named_by t j e && moved (id_of e.before j)) || freed (id_of e.before j)) ≡ true
  pub keep : unmarks j e ≡ false → (zeroed_by t j e || freed (id_of e.before j)) ≡ true → freed (id_of e.out.after j) ≡ true
  pub left : unmarks j e ≡ false → gone (id_of e.out.after j) ≡ (gone_by t j e || gone (id_of e.before j))
  pub move : unmarks j e ≡ false → moved (id_of e.out.after j) ≡ true
      → ((turned_by t j e && (seen_in t j e).named) || (staged_by t j e && turned (id_of e.before j)) || moved (id_of e.before j)) ≡ true
  -- a handed row isn't unmarked
  pub hold : handed (id_of e.before j) ≡ true → unmarks j e ≡ false

-- What the marks of row j say of the calls since.
pub record Told (t : Table) (j id : ℕ) (es : List Event) : Type 0 where
  pub turn : turned id ≡ turned_in t j es
  pub free : freed id ≡ true → (zeroed_in t j es || named_in t j es) ≡ true
  pub keep : zeroed_in t j es ≡ true → freed id ≡ true
  pub left : gone id ≡ gone_in t j es
  pub move : moved id ≡ true → moved_in t j es ≡ true

pub not-no : (a : Bool) → not a ≡ true → a ≡ false
not-no true e = sym e
not-no false e = refl

or-4 : (a b c z n : Bool) → (a || b || c) ≡ true → (c ≡ true → (z || n) ≡ true) → ((a || z) || (b || n)) ≡ true
or-4 true b c z n e f = refl
or-4 false true true true n e f = refl
or-4 false true true false n e f = refl
or-4 false true false true n e f = refl
or-4 false true false false n e f = refl
or-4 false false true z n e f = f e
or-4 false false false z n e f = absurd (false≢true e)

and-in : (a b c : Bool) → (b ≡ true → c ≡ true) → (a && b) ≡ true → (a && c) ≡ true
and-in true b c f e = f e
and-in false b c f e = e

-- zeroed or named once it had moved, in this call or before it
or-named : (z n m f z' n' m' : Bool) → (z || (n && m) || f) ≡ true → (m ≡ true → m' ≡ true) → (f ≡ true → (z' || n') ≡ true)
    → ((z || z') || ((n && m') || n')) ≡ true
or-named z n m f z' n' m' e g h = or-4 z (n && m') f z' n' (or-mid z (n && m) (n && m') f e (and-in n m m' g)) h
  where
    or-mid : (a b c d : Bool) → (a || b || d) ≡ true → (b ≡ true → c ≡ true) → (a || c || d) ≡ true
    or-mid true b c d e f = refl
    or-mid false true c d e f = rw (f refl)
    or-mid false false true d e f = refl
    or-mid false false false d e f = e

or-in : (a b c : Bool) → (a || b) ≡ true → (b ≡ true → c ≡ true) → (a || c) ≡ true
or-in true b c e f = refl
or-in false b c e f = f e

-- the four marks of an unmarked row
pub bare : (id : ℕ) → unmarked id ≡ true → (turned id ≡ false) × (freed id ≡ false) × (gone id ≡ false) × (moved id ≡ false)
unfolding unmarked
bare id u =
    let a = and-0 (not (turned id) && not (freed id) && not (gone id)) (not (moved id)) u in
    let b = and-0 (not (turned id) && not (freed id)) (not (gone id)) a in (
      not-no (turned id) (and-0 (not (turned id)) (not (freed id)) b),
      not-no (freed id) (and-1 (not (turned id)) (not (freed id)) b),
      not-no (gone id) (and-1 (not (turned id) && not (freed id)) (not (gone id)) a),
      not-no (moved id) (and-1 (not (turned id) && not (freed id) && not (gone id)) (not (moved id)) u),
    )

-- an unmarked row tells nothing
pub told-none : (t : Table) (j id : ℕ) → unmarked id ≡ true → Told t j id []
unfolding any_of
told-none t j id u =
    let b = bare id u in
    record {
      turn = b.0;
      free = λ e. absurd (true≢false (sym e ∙ b.1));
      keep = λ e. absurd (false≢true e);
      left = b.2;
      move = λ e. absurd (true≢false (sym e ∙ b.3));
    }

module _ (t : Table) (j : ℕ) (e : Event) (es : List Event) (f : Effect t j e) (h : Told t j (id_of e.before j) (since j es)) where
  told-by : (b : Bool) → unmarks j e ≡ b → Told t j (id_of e.out.after j) (pick b [] (e ∷ since j es))
  unfolding any_of moved_in named_in
  told-by true u = told-none t j (id_of e.out.after j) (and-1 e.out.released (unmarked (id_of e.out.after j)) u)
  told-by false u =
      record {
        turn = f.turn u ∙ ap (λ (b : Bool). turned_by t j e || b) h.turn;
        free = λ q. or-named (zeroed_by t j e) (named_by t j e) _ _ _ _ _ (f.free u q) h.move h.free;
        keep = λ q. f.keep u (or-in (zeroed_by t j e) _ _ q h.keep);
        left = f.left u ∙ ap (λ (b : Bool). gone_by t j e || b) h.left;
        move = λ q. or-in ((turned_by t j e && (seen_in t j e).named) || (staged_by t j e && turned_in t j (since j es))) _ _ (rw h.turn at (f.move u q)) h.move;
      }

  pub told-next : Told t j (id_of e.out.after j) (since j (e ∷ es))
  unfolding since_by
  told-next = told-by (unmarks j e) refl

-- a handed row stays handed, or is reported gone
held-of : (a b c d : Bool) → a ≡ true → b ≡ true → c ≡ (d || false) → ((a && b && not c) || d) ≡ true
held-of a b c true p q r = or-r (a && b && not c) true refl
held-of a b c false p q r = or-l (a && b && not c) false (rw (p, q, r))

pub held-on : (t : Table) (j : ℕ) (e : Event) → Effect t j e → So (handed (id_of e.before j)) → So (handed (id_of e.out.after j) || gone_by t j e)
unfolding handed
held-on t j e f h =
    let id = id_of e.before j in
    let u = f.hold h in
    let a = and-0 (turned id && freed id) (not (gone id)) h in
    let g = not-no (gone id) (and-1 (turned id && freed id) (not (gone id)) h) in
    held-of (turned (id_of e.out.after j)) (freed (id_of e.out.after j)) (gone (id_of e.out.after j)) (gone_by t j e)
    (f.turn u ∙ or-r (turned_by t j e) (turned id) (and-0 (turned id) (freed id) a))
    (f.keep u (or-r (zeroed_by t j e) (freed id) (and-1 (turned id) (freed id) a)))
    (f.left u ∙ ap (λ (b : Bool). gone_by t j e || b) g)

-- the whole: a property of sessions that every call keeps, and that gives each call's effect
module _ (t : Table) (Good : Session → Type 0)
    (good : (c : Call) (s : Session) → Good s → Good (event t c s).out.after)
    (effect : (c : Call) (s : Session) → Good s → (j : ℕ) → j < length t.ids → Effect t j (event t c s)) where
  pub told-run : (j : ℕ) → j < length t.ids → (cs : List Call) (h : History) → Good h.session → Told t j (id_of h.session j) (since j h.trace)
      → Told t j (id_of (run t h cs).session j) (since j (run t h cs).trace)
  unfolding run event
  told-run j l [] h g k = k
  told-run j l (c ∷ cs) h g k =
      told-run j l cs (next t h c) (good c h.session g) (told-next t j (event t c h.session) h.trace (effect c h.session g j l) k)

  pub good-run : (cs : List Call) (h : History) → Good h.session → Good (run t h cs).session
  unfolding run event
  good-run [] h g = g
  good-run (c ∷ cs) h g = good-run cs (next t h c) (good c h.session g)

-- what is told of a row is what demand 3 says of it
pub record Row (t : Table) (j : ℕ) (h : History) : Type 0 where
  pub safe : So (handed (id_of h.session j)) → So (turned_in t j (lately j h)) × So (zeroed_in t j (lately j h) || named_in t j (lately j h))
  pub present : So (handed (id_of h.session j)) → So (not (gone_in t j (lately j h)))
  pub complete : So (turned_in t j (lately j h)) → So (zeroed_in t j (lately j h)) → So (not (gone_in t j (lately j h))) → So (handed (id_of h.session j))

handed-of : (a b c : Bool) → a ≡ true → b ≡ true → c ≡ false → (a && b && not c) ≡ true
handed-of a b c p q r = rw (p, q, r)

pub told-demand : (t : Table) (j : ℕ) (h : History) → Told t j (id_of h.session j) (since j h.trace) → Row t j h
unfolding handed
told-demand t j h k =
    let id = id_of h.session j in
    record {
      safe = λ e. let a = and-0 (turned id && freed id) (not (gone id)) e in
          (sym k.turn ∙ and-0 (turned id) (freed id) a, k.free (and-1 (turned id) (freed id) a));
      present = λ e. ap not (sym k.left) ∙ and-1 (turned id && freed id) (not (gone id)) e;
      complete = λ p q r. handed-of (turned id) (freed id) (gone id) (k.turn ∙ p) (k.keep q) (k.left ∙ not-no _ r);
    }
