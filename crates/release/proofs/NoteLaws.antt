-- Laws of the rows noted: pass after pass, and settled, they are the rows that a release leaves.
use Rattle.std.specs.Prelude.{ℕ, zero, suc, ◌+◌, ◌<◌, Bool, true, false, not, ◌&&◌, ◌||◌, List, [], ◌∷◌, ◌≡◌, refl, eqb, length, get_or, set, replicate}
use Rattle.std.proofs.Common.{sym, ◌∙◌, ap, subst, arith, length-set, ext_get_or, get_or-set_same, get_or-set_other, eqb-true, eq-eqb}
use Rattle.std.proofs.lemmas.Bool.{eqb-false}
use Rattle.loops.specs.Loops.{pick, some}
use Rattle.loops.specs.Choices.{either, pick-by, and-no}
use Rattle.loops.specs.Rows.{rows_from, rows, rows-at, rows-length}
use Rattle.bits.specs.Bit.{bit, set_bit}
use Rattle.bits.specs.Laws.{bit-set-same, bit-set-below, bit-set-above, set_bit-mod}
use Rattle.vdisk.specs.Ids.{turned, freed, gone, moved, cleared, handed}
use Rattle.slots.specs.Slots.{start_of, size_of, is_ordinary, names_file, refers_to}
use Rattle.state.specs.declared.w.St.{St}
use Rattle.medium.specs.Reads.{held_block, sector_of, slot_names}
use Rattle.medium.specs.MediumLaws.{zeros-name}
use Rattle.release.specs.Release.{Lending, handed_on, release_id, released_ids}
use Rattle.release.specs.Notes.{waits, note_id, noted, has_row, listed, has_file, by_slot, by_sector, by_cluster, by_staged, settled_id}

-- a row that was freed waits no more
waits-no-more : (id : ℕ) → waits (set_bit id 13) ≡ false
unfolding waits
waits-no-more id = rw (bit-set-same id 13)

-- a row that doesn't wait, or isn't named, stays
pub note-idle : (named : Bool) (id : ℕ) → waits id ≡ false → note_id named id ≡ id
unfolding note_id
note-idle named id e = rw e

pub note-unnamed : (id : ℕ) → note_id false id ≡ id
unfolding note_id
note-unnamed id = rw (and-no (waits id) false refl)

pub note-waiting : (id : ℕ) → waits id ≡ true → note_id true id ≡ set_bit id 13
unfolding note_id
note-waiting id e = rw e

-- a row noted twice
note-twice : (a b : Bool) (id : ℕ) → note_id b (note_id a id) ≡ note_id (a || b) id
note-twice false b id = ap (note_id b) (note-unnamed id)
note-twice true b id =
    either (waits id)
    (λ e. ap (note_id b) (note-waiting id e) ∙ note-idle b (set_bit id 13) (waits-no-more id) ∙ sym (note-waiting id e))
    (λ e. ap (note_id b) (note-idle true id e) ∙ note-idle b id e ∙ sym (note-idle true id e))

-- rows changed twice
twice_from : (f g : ℕ → ℕ → ℕ) (i : ℕ) (xs : List ℕ) → rows_from g i (rows_from f i xs) ≡ rows_from (λ j x. g j (f j x)) i xs
unfolding rows_from
twice_from f g i [] = refl
twice_from f g i (x ∷ xs) = ap (λ (ys : List ℕ). g i (f i x) ∷ ys) (twice_from f g (i + 1) xs)

-- rows that stay
stay_from : (f : ℕ → ℕ → ℕ) (i : ℕ) (xs : List ℕ) → ((j : ℕ) → j < length xs → f (i + j) (get_or xs j 0) ≡ get_or xs j 0) → rows_from f i xs ≡ xs
unfolding rows_from
stay_from f i [] e = refl
stay_from f i (x ∷ xs) e =
    let h : f i x ≡ x = ap (λ (k : ℕ). f k x) (sym (add-none i)) ∙ e 0 (omega arith) in
    let t : rows_from f (i + 1) xs ≡ xs = stay_from f (i + 1) xs (λ j l. ap (λ (k : ℕ). f k (get_or xs j 0)) (past i j) ∙ e (suc j) (omega arith)) in
    rw (h, t)
  where
    add-none : (k : ℕ) → k + 0 ≡ k
    add-none k = omega arith

    past : (k j : ℕ) → k + 1 + j ≡ k + suc j
    past k j = omega arith

-- by tests that agree
noted-same : (f g : ℕ → Bool) (ids : List ℕ) → ((j : ℕ) → f j ≡ g j) → noted f ids ≡ noted g ids
noted-same f g ids e = λ i. noted (λ j. e j i) ids

-- where no row is named
pub noted-none : (f : ℕ → Bool) (ids : List ℕ) → ((j : ℕ) → f j ≡ false) → ids ≡ noted f ids
noted-none f ids e = sym (stay_from (λ j id. note_id (f j) id) 0 ids (λ j l. ap (λ (b : Bool). note_id b (get_or ids j 0)) (e (0 + j)) ∙ note-unnamed (get_or ids j 0)))

noted-twice : (f g : ℕ → Bool) (ids : List ℕ) → noted g (noted f ids) ≡ noted (λ j. f j || g j) ids
noted-twice f g ids = twice_from (λ j id. note_id (f j) id) (λ j id. note_id (g j) id) 0 ids ∙ (λ i. rows (λ j id. note-twice (f j) (g j) id i) ids)

-- a loop of passes: after k turns the rows are noted by the first k
or-none : (b : Bool) → (b || false) ≡ b
or-none true = refl
or-none false = refl

or-after : (a b c : Bool) → (a || (b || c)) ≡ ((a || b) || c)
or-after true b c = refl
or-after false b c = refl

some-after : (p : ℕ → Bool) (n i : ℕ) → some p (suc n) i ≡ (some p n i || p (i + n))
unfolding some
some-after p zero i = or-none (p i) ∙ ap p (none i)
  where
    none : (k : ℕ) → k ≡ k + 0
    none k = omega arith
some-after p (suc n) i = ap (λ (b : Bool). p i || b) (some-after p n (i + 1)) ∙ or-after (p i) (some p n (i + 1)) (p (i + 1 + n)) ∙ ap (λ (k : ℕ). (p i || some p n (i + 1)) || p k) (past i n)
  where
    past : (k m : ℕ) → k + 1 + m ≡ k + suc m
    past k m = omega arith

pub noted-length : (f : ℕ → Bool) (ids : List ℕ) → length (noted f ids) ≡ length ids
noted-length f ids = rows-length (λ j id. note_id (f j) id) 0 ids

-- p j i: pass i names row j
abbrev pub up_to : (ℕ → ℕ → Bool) → ℕ → ℕ → Bool
up_to p k j = some (p j) k 0

next-pass : (p : ℕ → ℕ → Bool) (k j : ℕ) → (up_to p k j || p j k) ≡ up_to p (k + 1) j
next-pass p k j = sym (ap (λ (m : ℕ). some (p j) m 0) (one k) ∙ some-after (p j) k 0 ∙ ap (λ (m : ℕ). up_to p k j || p j m) (left k))
  where
    one : (m : ℕ) → m + 1 ≡ suc m
    one m = omega arith

    left : (m : ℕ) → 0 + m ≡ m
    left m = omega arith

abbrev pub Passed : (ℕ → ℕ → Bool) → ℕ → List ℕ → List ℕ → Type 0
Passed p k ids₀ ids = (length ids ≡ length ids₀) × (ids ≡ noted (up_to p k) ids₀)

module _ (p : ℕ → ℕ → Bool) (ids₀ : List ℕ) where
  pub passed-start : Passed p 0 ids₀ ids₀
  unfolding some
  passed-start = (refl, noted-none (up_to p 0) ids₀ (λ j. refl))

  pub passed-go : (k : ℕ) (ids then : List ℕ) → Passed p k ids₀ ids → then ≡ noted (λ j. p j k) ids → Passed p (k + 1) ids₀ then
  passed-go k ids then e q = (
    ap length q ∙ noted-length (λ j. p j k) ids ∙ e.0,
    q ∙ ap (noted (λ j. p j k)) e.1 ∙ noted-twice (up_to p k) (λ j. p j k) ids₀ ∙ noted-same (λ j. up_to p k j || p j k) (up_to p (k + 1)) ids₀ (next-pass p k),
  )

  pub passed-end : (k m : ℕ) (ids : List ℕ) → k ≡ m → Passed p k ids₀ ids → ids ≡ noted (up_to p m) ids₀
  passed-end k m ids q e = e.1 ∙ ap (λ (n : ℕ). noted (up_to p n) ids₀) q

-- a row of a list noted by itself
row-set : (h : ℕ → Bool) (ids : List ℕ) (r i : ℕ) → r < length ids → get_or (set ids r (note_id (h r) (get_or ids r 0))) i 0 ≡ note_id (eqb r i && h i) (get_or ids i 0)
row-set h ids r i l =
    either (eqb r i)
    (λ e. subst (λ (k : ℕ). get_or (set ids r (note_id (h r) (get_or ids r 0))) k 0 ≡ note_id (eqb r k && h k) (get_or ids k 0)) (eqb-true r i e)
    (get_or-set_same ids r (note_id (h r) (get_or ids r 0)) 0 l ∙ ap (λ (b : Bool). note_id (b && h r) (get_or ids r 0)) (sym (eq-eqb r r refl))))
    (λ e. get_or-set_other ids r i (note_id (h r) (get_or ids r 0)) 0 (λ q. eqb-false r i e (sym q)) ∙ sym (ap (λ (b : Bool). note_id (b && h i) (get_or ids i 0)) e ∙ note-unnamed (get_or ids i 0)))

pub set-noted : (h : ℕ → Bool) (ids : List ℕ) (r : ℕ) → r < length ids → set ids r (note_id (h r) (get_or ids r 0)) ≡ noted (λ j. eqb r j && h j) ids
set-noted h ids r l =
    ext_get_or 0 (set ids r (note_id (h r) (get_or ids r 0))) (noted (λ j. eqb r j && h j) ids)
    (length-set ids r (note_id (h r) (get_or ids r 0)) ∙ sym (noted-length (λ j. eqb r j && h j) ids))
    (λ i m. row-set h ids r i l ∙ sym (rows-at (λ j id. note_id (eqb r j && h j) id) ids i (subst (λ (n : ℕ). i < n) (length-set ids r (note_id (h r) (get_or ids r 0))) m)))

-- a test that all of a loop have in common
or-and : (a c b : Bool) → ((a && b) || (c && b)) ≡ ((a || c) && b)
or-and false c b = refl
or-and true c true = refl
or-and true c false = and-no c false refl

some-and : (f : ℕ → Bool) (b : Bool) (n i : ℕ) → some (λ k. f k && b) n i ≡ (some f n i && b)
unfolding some
some-and f b zero i = refl
some-and f b (suc n) i = ap (λ (z : Bool). (f i && b) || z) (some-and f b n (i + 1)) ∙ or-and (f i) (some f n (i + 1)) b

some-never : (n i : ℕ) → some (λ k. false) n i ≡ false
unfolding some
some-never zero i = refl
some-never (suc n) i = some-never n (i + 1)

and-some : (b : Bool) (f : ℕ → Bool) (n i : ℕ) → some (λ k. b && f k) n i ≡ (b && some f n i)
and-some true f n i = refl
and-some false f n i = some-never n i

-- after all rows of a list, and after m passes over those
pub listed-end : (rs : List ℕ) (h : ℕ → Bool) (ids : List ℕ) → noted (up_to (λ j k. eqb (get_or rs k 0) j && h j) (length rs)) ids ≡ noted (listed rs h) ids
listed-end rs h ids = noted-same (up_to (λ j k. eqb (get_or rs k 0) j && h j) (length rs)) (listed rs h) ids (λ j. some-and (λ k. eqb (get_or rs k 0) j) (h j) (length rs) 0)

pub passes-end : (rs : List ℕ) (q : ℕ → ℕ → Bool) (m : ℕ) (ids : List ℕ) → noted (up_to (λ j i. has_row rs j && q j i) m) ids ≡ noted (listed rs (λ j. some (q j) m 0)) ids
passes-end rs q m ids = noted-same (up_to (λ j i. has_row rs j && q j i) m) (listed rs (λ j. some (q j) m 0)) ids (λ j. and-some (has_row rs j) (q j) m 0)

listed-none : (rs : List ℕ) (f : ℕ → Bool) (ids : List ℕ) → ((j : ℕ) → f j ≡ false) → ids ≡ noted (listed rs f) ids
listed-none rs f ids e = noted-none (listed rs f) ids (λ j. and-no (has_row rs j) (f j) (e j))

listed-same : (rs : List ℕ) (f g : ℕ → Bool) (ids : List ℕ) → ((j : ℕ) → f j ≡ g j) → noted (listed rs f) ids ≡ noted (listed rs g) ids
listed-same rs f g ids e = λ i. noted (listed rs (λ j. e j i)) ids

-- settled, a noted row is what a release leaves of it
hands-freed : (t f g m r : Bool) → ((not f && t && not g && m) && r) ≡ true → (t && true && not g) ≡ (t && not g && (f || (m && r)))
hands-freed false f g m r e = refl
hands-freed true f true m r e = refl
hands-freed true true false m r e = refl
hands-freed true false false true true e = refl
hands-freed true false false true false e = sym e
hands-freed true false false false r e = sym e

hands-kept : (t f g m r : Bool) → ((not f && t && not g && m) && r) ≡ false → (t && f && not g) ≡ (t && not g && (f || (m && r)))
hands-kept false f g m r e = refl
hands-kept true true true m r e = refl
hands-kept true true false m r e = refl
hands-kept true false true m r e = refl
hands-kept true false false false r e = refl
hands-kept true false false true false e = refl
hands-kept true false false true true e = sym e

handed-noted : (r : Bool) (id : ℕ) → handed (note_id r id) ≡ (turned id && not (gone id) && (freed id || (moved id && r)))
unfolding note_id waits handed
handed-noted r id =
    pick-by (λ (y : ℕ). handed y ≡ (turned id && not (gone id) && (freed id || (moved id && r)))) (waits id && r) (set_bit id 13) id
    (λ e. rw (bit-set-same id 13, bit-set-below id 13 12 (omega arith), bit-set-above id 13 14 (omega arith)) (hands-freed (turned id) (freed id) (gone id) (moved id) r e))
    (λ e. hands-kept (turned id) (freed id) (gone id) (moved id) r e)

cleared-noted : (r : Bool) (id : ℕ) → cleared (note_id r id) ≡ cleared id
unfolding note_id
cleared-noted r id = pick-by (λ (y : ℕ). cleared y ≡ cleared id) (waits id && r) (set_bit id 13) id (λ e. set_bit-mod id 13 12 (omega arith)) (λ e. refl)

settled-noted : (x : Lending) (st : List St) (j id : ℕ) → settled_id (note_id (by_staged x.starts x.sizes x.fat x.area st j) id) ≡ release_id x st j id
unfolding settled_id release_id handed_on
settled-noted x st j id = let r = by_staged x.starts x.sizes x.fat x.area st j in
    λ i. pick (handed-noted r id i) (set_bit (set_bit (cleared-noted r id i) 12) 13) (cleared-noted r id i)

pub released-noted : (x : Lending) (st : List St) → rows (λ j id. settled_id id) (noted (by_staged x.starts x.sizes x.fat x.area st) x.ids) ≡ released_ids x st
unfolding released_ids
released-noted x st =
    twice_from (λ j id. note_id (by_staged x.starts x.sizes x.fat x.area st j) id) (λ j id. settled_id id) 0 x.ids ∙ (λ i. rows (λ j id. settled-noted x st j id i) x.ids)

-- the rows that a slot, a staged sector or a staged cluster names
module _ (rs starts sizes ids : List ℕ) where
  pub slot-none : (d : List ℕ) (at : ℕ) → is_ordinary d at ≡ false → ids ≡ noted (listed rs (by_slot starts sizes d at)) ids
  unfolding names_file
  slot-none d at e = listed-none rs (by_slot starts sizes d at) ids (λ j. rw e)

  pub slot-some : (d : List ℕ) (at start size : ℕ) → is_ordinary d at ≡ true → start ≡ start_of d at → size ≡ size_of d at
      → noted (listed rs (has_file starts sizes start size)) ids ≡ noted (listed rs (by_slot starts sizes d at)) ids
  unfolding names_file
  slot-some d at start size e p q = listed-same rs (has_file starts sizes start size) (by_slot starts sizes d at) ids (λ j. rw (e, p, q))

  pub sector-empty : (d : List ℕ) → d ≡ replicate 512 0 → ids ≡ noted (listed rs (by_sector starts sizes d)) ids
  sector-empty d e = listed-none rs (by_sector starts sizes d) ids (λ j. ap (λ (b : List ℕ). refers_to b (get_or starts j 0) (get_or sizes j 0)) e ∙ zeros-name (get_or starts j 0) (get_or sizes j 0))

  module _ (fat area : List ℕ) (x : St) where
    pub cluster-none : x.c ≡ 0 → ids ≡ noted (listed rs (by_cluster starts sizes fat area x)) ids
    unfolding slot_names
    cluster-none e = listed-none rs (by_cluster starts sizes fat area x) ids (λ j. rw e)

    pub cluster-some : eqb x.c 0 ≡ false → noted (listed rs (λ j. some (λ s. by_sector starts sizes (sector_of fat area x s) j) 64 0)) ids ≡ noted (listed rs (by_cluster starts sizes fat area x)) ids
    unfolding slot_names
    cluster-some e = listed-same rs (λ j. some (λ s. by_sector starts sizes (sector_of fat area x s) j) 64 0) (by_cluster starts sizes fat area x) ids (λ j. rw e)

-- a sector that was not written, and one whose block is held
pub not-written : (fat area : List ℕ) (x : St) (s : ℕ) → bit x.map s ≡ false → sector_of fat area x s ≡ replicate 512 0
unfolding sector_of
not-written fat area x s e = rw e

pub held-here : (x : St) (s : ℕ) → bit x.map s ≡ true → held_block x s ≡ pick (bit x.map s) (held_block x s) 0
held-here x s e = rw e
