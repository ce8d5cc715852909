-- Keys of the files before a row: which of them share a name or a place, told by the keys.
use Rattle.std.specs.Prelude.{ℕ, ◌+◌, ◌<◌, ◌%◌, Bool, List, ◌≡◌, eqb, get_or, length, set}
use Rattle.std.proofs.Common.{sym, ◌∙◌, arith}
use Rattle.std.proofs.lemmas.List.{get_or-set_same, get_or-set_other}
use Rattle.loops.specs.Loops.{some}
use Rattle.loops.specs.Choices.{same-if, either}
use Rattle.loops.specs.Facts.{some-in, some-at}
use Rattle.vdisk.specs.Ids.{same_name}
use Rattle.vdisk.specs.IdLaws.{same_name-low}
use Rattle.file_table.specs.Table.{shares_name, same_place, shares_place}
use Rattle.file_table.specs.TableLaws.{repeated, place_key, place-key}
use borrow.Author.Tests.{eqb-true, eqb-false}

-- the first j keys are those that the rows have
abbrev pub Keyed : (ℕ → ℕ) → List ℕ → ℕ → Type 0
Keyed key keys j = (i : ℕ) → i < j → get_or keys i 0 ≡ key i

-- one more key is put
pub keyed-more : (key : ℕ → ℕ) (keys : List ℕ) (j v : ℕ) → j < length keys → v ≡ key j → Keyed key keys j → Keyed key (set keys j v) (j + 1)
keyed-more key keys j v h e f i l =
    either (eqb i j)
    (λ q. let z = eqb-true i j q in rw z (get_or-set_same keys j v 0 h ∙ e))
    (λ q. let z = eqb-false i j q in get_or-set_other keys j i v 0 z ∙ f i (omega arith))

-- a key is repeated where a row before shares what it stands for
pub repeated-by : (key : ℕ → ℕ) (keys : List ℕ) (same : ℕ → Bool) (j : ℕ) → Keyed key keys (j + 1) → ((i : ℕ) → i < j → eqb (key i) (key j) ≡ same i)
    → repeated keys j ≡ some same j 0
unfolding repeated
repeated-by key keys same j f g =
    let p : ℕ → Bool = λ i. eqb (get_or keys i 0) (get_or keys j 0) in
    let at : (i : ℕ) → i < j → p i ≡ same i = λ i l. rw (f i (omega arith), f j (omega arith)) (g i l) in
    same-if (some p j 0) (some same j 0)
    (λ e. some-in p j 0 e (λ k a h q. some-at same j 0 k (omega arith) (omega arith) (sym (at k (omega arith)) ∙ q)))
    (λ e. some-in same j 0 e (λ k a h q. some-at p j 0 k (omega arith) (omega arith) (at k (omega arith) ∙ q)))

-- the names and the places of a table, as keys
abbrev pub name_at : List ℕ → ℕ → ℕ
name_at ids i = get_or ids i 0 % 4096

abbrev pub place_at : List ℕ → List ℕ → ℕ → ℕ
place_at ids slots i = place_key (get_or ids i 0) (get_or slots i 0)

pub name-repeated : (ids keys : List ℕ) (j : ℕ) → Keyed (name_at ids) keys (j + 1) → repeated keys j ≡ shares_name ids j
unfolding shares_name
name-repeated ids keys j f =
    repeated-by (name_at ids) keys (λ i. same_name (get_or ids i 0) (get_or ids j 0)) j f (λ i l. same_name-low (get_or ids i 0) (get_or ids j 0))

-- the first j slots have 16 bits
abbrev pub Narrow : List ℕ → ℕ → Type 0
Narrow slots j = (i : ℕ) → i < j → get_or slots i 0 < 65536

pub narrow-more : (slots : List ℕ) (j : ℕ) → get_or slots j 0 < 65536 → Narrow slots j → Narrow slots (j + 1)
narrow-more slots j h f i l = either (eqb i j) (λ q. rw (eqb-true i j q) h) (λ q. let z = eqb-false i j q in f i (omega arith))

pub place-repeated : (ids slots keys : List ℕ) (j : ℕ) → Keyed (place_at ids slots) keys (j + 1) → Narrow slots (j + 1)
    → repeated keys j ≡ shares_place ids slots j
unfolding shares_place
place-repeated ids slots keys j f g =
    repeated-by (place_at ids slots) keys (λ i. same_place ids slots i j) j f (λ i l. place-key ids slots i j (g i (omega arith)) (g j (omega arith)))
