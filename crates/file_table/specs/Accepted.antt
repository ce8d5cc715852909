-- What a table that a start takes has: each cluster has one owner, and no two rows share a name or a place.
use Rattle.std.specs.Prelude.{ℕ, ◌+◌, ◌-◌, ◌<◌, ◌≤◌, ◌&&◌, List, ◌≡◌, eqb, ltb, length}
use Rattle.std.proofs.Math.Bool.{true, not, true≢false}
use Rattle.std.proofs.Common.{sym, ◌∙◌}
use native.Mathlib.Omega.{arith}
use Rattle.std.proofs.Math.Dec.{leb}
use Rattle.std.proofs.Math.ListN.{get_or}
use borrow.Author.Tests.{ltb-true, ltb-false, leb-true, le-leb, lt-ltb, eqb-true, eq-eqb, not-true}
use Rattle.loops.specs.Loops.{some}
use Rattle.loops.specs.Choices.{either, and-0, and-1, and-of}
use Rattle.loops.specs.Facts.{all-at, some-at}
use Rattle.vdisk.specs.Drive.{clusters_of, last_cluster}
use Rattle.vdisk.specs.Ids.{unmarked, kind_of, number_of, id_dir_of, same_name}
use Rattle.vdisk.specs.Owner.{rises, owner_of}
use Rattle.vdisk.specs.OwnerLaws.{owner-is, owner-of}
use Rattle.file_table.specs.Table.{Table, max_files, whole_columns, all_unmarked, unmarked_at, in_file, starts_apart, first_fits, clusters_in, all_in, file_in, clusters_fit, shares_name, names_apart, same_place, shares_place, places_apart, accepts}
use Rattle.file_table.specs.TableLaws.{ends_by, starts_apart-near}
use Rattle.vdisk.specs.declared.owner.Own.TheVariants.{Dyn}

-- the conditions of `accepts`, each by itself
pub record Accepted (t : Table) : Type 0 where
  pub slots : length t.slots ≡ length t.ids
  pub starts : length t.starts ≡ length t.ids
  pub sizes : length t.sizes ≡ length t.ids
  pub few : length t.ids ≤ max_files
  pub clear : all_unmarked t.ids ≡ true
  pub rise : rises t.starts ≡ true
  pub apart : starts_apart t.starts t.sizes ≡ true
  pub low : 7 ≤ t.first
  pub high : t.first ≤ 65002
  pub inside : all_in t.starts t.sizes t.first ≡ true
  pub names : names_apart t.ids ≡ true
  pub places : places_apart t.ids t.slots ≡ true

pub accepted : (t : Table) → accepts t ≡ true → Accepted t
unfolding accepts whole_columns clusters_fit first_fits
accepted t e =
    let n = length t.ids in
    let s1 = eqb (length t.slots) n in
    let s2 = eqb (length t.starts) n in
    let s3 = eqb (length t.sizes) n in
    let w = s1 && s2 && s3 in
    let f = leb n max_files in
    let u = all_unmarked t.ids in
    let r = rises t.starts in
    let a = starts_apart t.starts t.sizes in
    let lo = leb 7 t.first in
    let hi = leb t.first 65002 in
    let i = all_in t.starts t.sizes t.first in
    let c = r && a && (lo && hi) && i in
    let nm = names_apart t.ids in
    let e4 = and-0 (w && f && u && c && nm) (places_apart t.ids t.slots) e in
    let e3 = and-0 (w && f && u && c) nm e4 in
    let e2 = and-0 (w && f && u) c e3 in
    let e1 = and-0 (w && f) u e2 in
    let e0 = and-0 w f e1 in
    let ec = and-1 (w && f && u) c e3 in
    let ef = and-0 (r && a && (lo && hi)) i ec in
    let ea = and-0 (r && a) (lo && hi) ef in
    record {
      slots = eqb-true _ _ (and-0 s1 s2 (and-0 (s1 && s2) s3 e0));
      starts = eqb-true _ _ (and-1 s1 s2 (and-0 (s1 && s2) s3 e0));
      sizes = eqb-true _ _ (and-1 (s1 && s2) s3 e0);
      few = leb-true n max_files (and-1 w f e1);
      clear = and-1 (w && f) u e2;
      rise = and-0 r a ea;
      apart = and-1 r a ea;
      low = leb-true 7 t.first (and-0 lo hi (and-1 (r && a) (lo && hi) ef));
      high = leb-true t.first 65002 (and-1 lo hi (and-1 (r && a) (lo && hi) ef));
      inside = and-1 (r && a && (lo && hi)) i ec;
      names = and-1 (w && f && u && c) nm e4;
      places = and-1 (w && f && u && c && nm) (places_apart t.ids t.slots) e;
    }

and-turns : (w x y z : ℕ) → (eqb w x && eqb y z) ≡ true → (eqb x w && eqb z y) ≡ true
and-turns w x y z e =
    and-of (eqb x w) (eqb z y) (eq-eqb x w (sym (eqb-true w x (and-0 (eqb w x) (eqb y z) e)))) (eq-eqb z y (sym (eqb-true y z (and-1 (eqb w x) (eqb y z) e))))

name-turns : (a b : ℕ) → same_name a b ≡ true → same_name b a ≡ true
unfolding same_name
name-turns a b e = and-turns (kind_of a) (kind_of b) (number_of a) (number_of b) e

place-turns : (ids slots : List ℕ) (i j : ℕ) → same_place ids slots i j ≡ true → same_place ids slots j i ≡ true
unfolding same_place
place-turns ids slots i j e = and-turns (id_dir_of (get_or ids i 0)) (id_dir_of (get_or ids j 0)) (get_or slots i 0) (get_or slots j 0) e

module _ (t : Table) (a : Accepted t) where
  pub row-unmarked : (j : ℕ) → j < length t.ids → unmarked (get_or t.ids j 0) ≡ true
  unfolding all_unmarked
  row-unmarked j h = all-at (unmarked_at t.ids) (length t.ids) 0 j a.clear (omega arith) (omega arith)

  -- a file ends by the next one's start
  pub ends-by : (j : ℕ) → j + 1 < length t.ids → get_or t.starts j 0 + clusters_of (get_or t.sizes j 0) ≤ get_or t.starts (j + 1) 0
  ends-by j h =
      let n = a.starts in
      leb-true (get_or t.starts j 0 + clusters_of (get_or t.sizes j 0)) (get_or t.starts (j + 1) 0)
      (all-at (ends_by t.starts t.sizes) (length t.starts - 1) 0 j (starts_apart-near t.starts t.sizes a.rise ∙ a.apart) (omega arith) (omega arith))

  -- a file's clusters lie in the session's
  pub in-session : (j c : ℕ) → j < length t.ids → get_or t.starts j 0 ≤ c → c < get_or t.starts j 0 + clusters_of (get_or t.sizes j 0)
      → (t.first ≤ c) × (c ≤ last_cluster)
  unfolding all_in clusters_in
  in-session j c h l k =
      let n = a.starts in
      let s = get_or t.starts j 0 in
      let z : s + (c - s) ≡ c = omega arith in
      let e : (leb t.first (s + (c - s)) && leb (s + (c - s)) last_cluster) ≡ true =
      all-at (λ i. leb t.first (s + i) && leb (s + i) last_cluster) (clusters_of (get_or t.sizes j 0)) 0 (c - s)
      (all-at (file_in t.starts t.sizes t.first) (length t.starts) 0 j a.inside (omega arith) (omega arith)) (omega arith) (omega arith) in (
        rw z at (leb-true t.first (s + (c - s)) (and-0 (leb t.first (s + (c - s))) (leb (s + (c - s)) last_cluster) e)),
        rw z at (leb-true (s + (c - s)) last_cluster (and-1 (leb t.first (s + (c - s))) (leb (s + (c - s)) last_cluster) e)),
      )

  -- `owner` answers file j exactly for the clusters of file j
  pub owner-has : (j c : ℕ) → j < length t.ids → in_file t.starts t.sizes j c ≡ true → owner_of t.starts t.sizes t.first c ≡ Dyn j
  unfolding in_file
  owner-has j c h e =
      let n = a.starts in
      let f = a.low in
      let s = get_or t.starts j 0 in
      let l = leb-true s c (and-0 (leb s c) (ltb c (s + clusters_of (get_or t.sizes j 0))) e) in
      let k = ltb-true c (s + clusters_of (get_or t.sizes j 0)) (and-1 (leb s c) (ltb c (s + clusters_of (get_or t.sizes j 0))) e) in
      let i = in-session j c h l k in
      owner-of t.starts t.sizes a.rise t.first c j
      (record { past = omega arith; last = i.1; session = i.0; row = omega arith; low = l; high = k })
      (λ q. omega (arith, ends-by j (omega arith)))

  pub owner-only : (j c : ℕ) → owner_of t.starts t.sizes t.first c ≡ Dyn j → (j < length t.ids) × (in_file t.starts t.sizes j c ≡ true)
  unfolding in_file
  owner-only j c e =
      let n = a.starts in
      let o = owner-is t.starts t.sizes t.first c j e in
      let s = get_or t.starts j 0 in
      let z = o.row in
      (omega arith, and-of (leb s c) (ltb c (s + clusters_of (get_or t.sizes j 0))) (le-leb s c o.low) (lt-ltb c (s + clusters_of (get_or t.sizes j 0)) o.high))

  -- two rows never share a cluster
  pub one-owner : (i j c : ℕ) → i < length t.ids → j < length t.ids → in_file t.starts t.sizes i c ≡ true → in_file t.starts t.sizes j c ≡ true → i ≡ j
  one-owner i j c h k p q =
      let z : Dyn i ≡ Dyn j = sym (owner-has i c h p) ∙ owner-has j c k q in
      cc

  before-name : (i j : ℕ) → i < j → j < length t.ids → same_name (get_or t.ids i 0) (get_or t.ids j 0) ≡ true → ⊥
  unfolding names_apart shares_name
  before-name i j l h e =
      true≢false (sym (some-at (λ k. same_name (get_or t.ids k 0) (get_or t.ids j 0)) j 0 i (omega arith) (omega arith) e)
      ∙ not-true _ (all-at (λ k. not (some (λ i'. same_name (get_or t.ids i' 0) (get_or t.ids k 0)) k 0)) (length t.ids) 0 j a.names (omega arith) (omega arith)))

  before-place : (i j : ℕ) → i < j → j < length t.ids → same_place t.ids t.slots i j ≡ true → ⊥
  unfolding places_apart shares_place
  before-place i j l h e =
      true≢false (sym (some-at (λ k. same_place t.ids t.slots k j) j 0 i (omega arith) (omega arith) e)
      ∙ not-true _ (all-at (λ k. not (some (λ i'. same_place t.ids t.slots i' k) k 0)) (length t.ids) 0 j a.places (omega arith) (omega arith)))

  -- a relation that holds both ways, and of no two rows in order, holds of one row only
  apart-by : (P : ℕ → ℕ → Type 0) → ((i j : ℕ) → P i j → P j i) → ((i j : ℕ) → i < j → j < length t.ids → P i j → ⊥)
      → (i j : ℕ) → i < length t.ids → j < length t.ids → P i j → i ≡ j
  apart-by P turn never i j h k p =
      either (ltb i j) (λ e. absurd (never i j (ltb-true i j e) k p))
      (λ e. either (ltb j i) (λ f. absurd (never j i (ltb-true j i f) h (turn i j p)))
      (λ f. omega (arith, ltb-false i j e, ltb-false j i f)))

  -- nor kind and number, nor shown directory and slot
  pub one-name : (i j : ℕ) → i < length t.ids → j < length t.ids → same_name (get_or t.ids i 0) (get_or t.ids j 0) ≡ true → i ≡ j
  one-name = apart-by (λ i j. same_name (get_or t.ids i 0) (get_or t.ids j 0) ≡ true) (λ i j p. name-turns (get_or t.ids i 0) (get_or t.ids j 0) p) before-name

  pub one-place : (i j : ℕ) → i < length t.ids → j < length t.ids → same_place t.ids t.slots i j ≡ true → i ≡ j
  one-place = apart-by (λ i j. same_place t.ids t.slots i j ≡ true) (place-turns t.ids t.slots) before-place
