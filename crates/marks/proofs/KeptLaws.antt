-- Laws of what every call keeps.
use Rattle.std.specs.Prelude.{ℕ, zero, suc, ◌+◌, ◌%◌, ◌<◌, ◌≤◌, Bool, false, ◌&&◌, List, ◌≡◌, refl, length, get_or, set, replicate, Option, Some, None}
use Rattle.std.proofs.Math.Bool.{true, not}
use Rattle.std.proofs.Common.{true≢false, ◌∙◌, ap, arith}
use Rattle.std.proofs.lemmas.Bool.{not-true}
use Rattle.loops.specs.Loops.{fold}
use Rattle.loops.specs.Keyed.{set-has}
use Rattle.loops.specs.Rows.{rows as rows_of, rows-at, rows-length}
use Rattle.vdisk.specs.Ids.{freed}
use Rattle.vdisk.specs.Owner.{owner_of}
use Rattle.vdisk.specs.OwnerLaws.{owner-is}
use Rattle.vdisk.specs.declared.owner.Own.TheVariants.{Dyn}
use Rattle.file_table.specs.Table.{Table}
use Rattle.file_table.specs.Accepted.{Accepted, owner-only}
use Rattle.state.specs.State.{max_pairs, max_slots, pair0, st0, no_st, initial}
use Rattle.state.specs.Pairs.{pair_idx, set_pair}
use Rattle.state.proofs.LookupLaws.{pair_idx-is}
use Rattle.state.proofs.SetPairLaws.{pair-by, st-by, set_pair-only}
use Rattle.state.specs.declared.w.Pair.{Pair}
use Rattle.state.specs.declared.w.St.{St}
use Rattle.state.specs.declared.w.W.{W}
use Rattle.clusters.specs.Clusters.{is_nothing, is_live, host_own, host_cluster}
use Rattle.marks.specs.Kept.{FreedAt, Kept}

-- no file has cluster 0
pub freed-0 : (t : Table) (ids : List ℕ) → FreedAt t ids 0
freed-0 t ids j e = let p = (owner-is t.starts t.sizes t.first 0 j e).past in absurd (omega arith)

-- it goes by the ids, the pairs, the staging slots and the first cluster alone
pub kept-as : (t : Table) (ids : List ℕ) (w w' : W) → Kept t ids w → w'.first ≡ w.first → w'.pair ≡ w.pair → w'.st ≡ w.st → Kept t ids w'
kept-as t ids w w' k f p s =
    record {
      rows = k.rows;
      first = f ∙ k.first;
      names = k.names;
      pairs = λ i j e. k.pairs i j (rw p at e);
      slots = λ i j e. k.slots i j (rw s at e);
    }

-- rows marked, none of them less freed than it was
module _ (t : Table) (a : Accepted t) (ids : List ℕ) (w : W) (k : Kept t ids w) (f : ℕ → ℕ → ℕ) where
  freed-rows : ((j id : ℕ) → freed id ≡ true → freed (f j id) ≡ true) → (c : ℕ) → FreedAt t ids c → FreedAt t (rows_of f ids) c
  freed-rows q c h j e =
      let r = k.rows in
      let l = (owner-only t a j c e).0 in
      ap freed (rows-at f ids j (omega arith)) ∙ q j (get_or ids j 0) (h j e)

  pub kept-rows : ((j id : ℕ) → f j id % 4096 ≡ id % 4096) → ((j id : ℕ) → freed id ≡ true → freed (f j id) ≡ true) → Kept t (rows_of f ids) w
  kept-rows p q =
      let r = k.rows in
      record {
        rows = rows-length f 0 ids ∙ k.rows;
        first = k.first;
        names = λ j l. ap (λ (n : ℕ). n % 4096) (rows-at f ids j (omega arith)) ∙ p j (get_or ids j 0) ∙ k.names j l;
        pairs = λ i. freed-rows q _ (k.pairs i);
        slots = λ i. freed-rows q _ (k.slots i);
      }

-- a file's cluster that isn't live: the file is marked freed
not-live : {R : Type 0} (b : Bool) (f : Option ℕ) → (not b && is_nothing f) ≡ false → (b ≡ true → R) → ((i : ℕ) → f ≡ Some i → R) → R
unfolding is_nothing
not-live true f e p q = p refl
not-live false (Some i) e p q = q i refl
not-live false None e p q = absurd (true≢false e)

module _ (t : Table) (ids : List ℕ) (w : W) (k : Kept t ids w) where
  pub dead-freed : (j c : ℕ) → owner_of t.starts t.sizes t.first c ≡ Dyn j → is_live ids w.pair j c ≡ false → freed (get_or ids j 0) ≡ true
  unfolding is_live
  dead-freed j c o e =
      not-live (freed (get_or ids j 0)) (pair_idx w.pair c) e (λ q. q) (λ i q. k.pairs i j (rw (pair_idx-is w.pair c i q).0 o))

  -- so a host cluster is of no file, or of one that is marked freed
  pub host-freed : (c : ℕ) → host_cluster ids t.starts t.sizes t.first w.pair c ≡ true → FreedAt t ids c
  unfolding host_cluster host_own
  host-freed c e j o =
      let e' : not (is_live ids w.pair j c) ≡ true = rw o at e in
      dead-freed j c o (not-true (is_live ids w.pair j c) e')

-- setting a pair keeps it, where the cluster is of no file or of one that is marked freed
module _ (t : Table) (ids : List ℕ) (w : W) (k : Kept t ids w) (c v : ℕ) (h : FreedAt t ids c) where
  set-pair : (i n : ℕ) (p : Pair) → FreedAt t ids p.c → FreedAt t ids (get_or (set w.pair n p) i pair0).c
  set-pair i n p q = set-has (λ (y : Pair). FreedAt t ids y.c) pair0 w.pair n i p (λ e. q) (k.pairs i)

  pub set_pair-kept : Kept t ids (set_pair w c v)
  set_pair-kept =
      record {
        rows = k.rows;
        first = (set_pair-only w c v).first ∙ k.first;
        names = k.names;
        pairs = λ i. pair-by w c v (λ ps. FreedAt t ids (get_or ps i pair0).c) (λ n e z. set-pair i n pair0 (freed-0 t ids))
            (λ n e z. set-pair i n (record { c = c; v = v }) h) (λ n e z f. set-pair i n (record { c = c; v = v }) h) (k.pairs i);
        slots = λ i. st-by w c v (λ ss. FreedAt t ids (get_or ss i no_st).c) (k.slots i)
            (λ m n e z f. set-has (λ (y : St). FreedAt t ids y.c) no_st w.st n i st0 (λ q. freed-0 t ids) (k.slots i));
      }

-- what each of the turns keeps, a fold keeps
pub fold-in : {S : Type 0} (P : S → Type 0) (turn : ℕ → S → S) (n i : ℕ) (s : S) → ((m : ℕ) (s' : S) → i ≤ m → m < i + n → P s' → P (turn m s')) → P s → P (fold turn n i s)
unfolding fold
fold-in P turn zero i s f h = h
fold-in P turn (suc n) i s f h = fold-in P turn n (i + 1) (turn i s) (λ m s' lo hi. f m s' (omega arith) (omega arith)) (f i s (omega arith) (omega arith) h)

-- a state without pairs and staging slots has it, as a start's
pub kept-clear : (t : Table) (ids : List ℕ) (w : W) → length ids ≡ length t.ids → w.first ≡ t.first
    → ((j : ℕ) → j < length t.ids → get_or ids j 0 % 4096 ≡ get_or t.ids j 0 % 4096)
    → w.pair ≡ replicate max_pairs pair0 → w.st ≡ replicate max_slots st0 → Kept t ids w
kept-clear t ids w r f n p s =
    record {
      rows = r;
      first = f;
      names = n;
      pairs = λ i j e. freed-0 t ids j (rw (p, no-pair max_pairs i) at e);
      slots = λ i j e. freed-0 t ids j (rw (s, no-slot max_slots i) at e);
    }
  where
    no-pair : (m i : ℕ) → (get_or (replicate m pair0) i pair0).c ≡ 0
    no-pair zero i = refl
    no-pair (suc m) zero = refl
    no-pair (suc m) (suc i) = no-pair m i

    no-slot : (m i : ℕ) → (get_or (replicate m st0) i no_st).c ≡ 0
    no-slot zero i = refl
    no-slot (suc m) zero = refl
    no-slot (suc m) (suc i) = no-slot m i

pub kept-start : (t : Table) → Kept t t.ids (initial t.first)
unfolding initial
kept-start t = kept-clear t t.ids (initial t.first) refl refl (λ j l. refl) refl refl
