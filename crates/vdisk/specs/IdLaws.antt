-- Laws of the parts of an id.
use Rattle.std.specs.Prelude.{ℕ, ◌/◌, ◌%◌, ◌<◌, ◌≤◌, false, not, ◌&&◌, ◌≡◌, eqb, ltb}
use Rattle.std.proofs.Common.{ap, arith, eq-eqb, ne_eqb, eqb-true, lt-ltb, ltb-true}
use Rattle.std.proofs.Math.Nat.{div-div-eq-div-mul}
use Rattle.std.proofs.lemmas.Bool.{eqb-false, not-true}
use Rattle.loops.specs.Choices.{same-if, and-0, and-1, and-of}
use Rattle.bits.specs.Bit.{bit, set_bit}
use Rattle.bits.specs.Laws.{set_bit-mod}
use Rattle.vdisk.specs.Ids.{turned, freed, gone, moved, unmarked, kind_of, number_of, dir_of, id_dir_of, same_name}

-- a number of 16 bits whose four upper bits are 0
low : (id : ℕ) → id < 65536 → (id / 4096 % 2 ≡ 1 → ⊥) → (id / 8192 % 2 ≡ 1 → ⊥) → (id / 16384 % 2 ≡ 1 → ⊥) → (id / 32768 % 2 ≡ 1 → ⊥) → id < 4096
low id h a b c d =
    let e : id / 4096 / 2 ≡ id / 8192 = div-div-eq-div-mul id 4096 2 in
    let f : id / 8192 / 2 ≡ id / 16384 = div-div-eq-div-mul id 8192 2 in
    let g : id / 16384 / 2 ≡ id / 32768 = div-div-eq-div-mul id 16384 2 in
    low-of id (zero-by (id / 4096) (id / 8192) e (zero-by (id / 8192) (id / 16384) f (zero-by (id / 16384) (id / 32768) g (top id h d) c) b) a)
  where
    zero-by : (x y : ℕ) → x / 2 ≡ y → y ≡ 0 → (x % 2 ≡ 1 → ⊥) → x ≡ 0
    zero-by x y p q r = omega arith

    top : (n : ℕ) → n < 65536 → (n / 32768 % 2 ≡ 1 → ⊥) → n / 32768 ≡ 0
    top n p q = omega arith

    low-of : (n : ℕ) → n / 4096 ≡ 0 → n < 4096
    low-of n p = omega arith

-- an id of 16 bits is unmarked where it is below bit 12
pub unmarked-lt : (id : ℕ) → id < 65536 → ltb id 4096 ≡ unmarked id
unfolding unmarked bit
unmarked-lt id h =
    same-if (ltb id 4096) (not (turned id) && not (freed id) && not (gone id) && not (moved id))
    (λ e. let l = ltb-true id 4096 e in
    let a = ne_eqb (id / 4096 % 2) 1 (λ q. omega arith) in
    let b = ne_eqb (id / 8192 % 2) 1 (λ q. omega arith) in
    let c = ne_eqb (id / 16384 % 2) 1 (λ q. omega arith) in
    let d = ne_eqb (id / 32768 % 2) 1 (λ q. omega arith) in
    rw (a, b, c, d))
    (λ e.
    let t = not (turned id) in
    let f = not (freed id) in
    let g = not (gone id) in
    let m = not (moved id) in
    let e2 = and-0 (t && f && g) m e in
    let e1 = and-0 (t && f) g e2 in
    let a = eqb-false (id / 4096 % 2) 1 (not-true _ (and-0 t f e1)) in
    let b = eqb-false (id / 8192 % 2) 1 (not-true _ (and-1 t f e1)) in
    let c = eqb-false (id / 16384 % 2) 1 (not-true _ (and-1 (t && f) g e2)) in
    let d = eqb-false (id / 32768 % 2) 1 (not-true _ (and-1 (t && f && g) m e)) in
    lt-ltb id 4096 (low id h a b c d))

-- kind and number are the bits below the marks
pub same_name-low : (a b : ℕ) → eqb (a % 4096) (b % 4096) ≡ same_name a b
unfolding same_name
same_name-low a b =
    same-if (eqb (a % 4096) (b % 4096)) (eqb (kind_of a) (kind_of b) && eqb (number_of a) (number_of b))
    (λ e. let q = eqb-true (a % 4096) (b % 4096) e in
    and-of (eqb (kind_of a) (kind_of b)) (eqb (number_of a) (number_of b)) (eq-eqb (kind_of a) (kind_of b) (omega arith)) (eq-eqb (number_of a) (number_of b) (omega arith)))
    (λ e. let k = eqb-true (kind_of a) (kind_of b) (and-0 (eqb (kind_of a) (kind_of b)) (eqb (number_of a) (number_of b)) e) in
    let n = eqb-true (number_of a) (number_of b) (and-1 (eqb (kind_of a) (kind_of b)) (eqb (number_of a) (number_of b)) e) in
    eq-eqb (a % 4096) (b % 4096) (omega arith))

-- and so is the directory
pub id_dir-low : (a b : ℕ) → a % 4096 ≡ b % 4096 → id_dir_of a ≡ id_dir_of b
unfolding id_dir_of
id_dir-low a b e = ap dir_of (omega arith)

-- setting a mark changes neither
pub set-low : (id k : ℕ) → 12 ≤ k → set_bit id k % 4096 ≡ id % 4096
set-low id k h = set_bit-mod id k 12 h

-- what is left of an id without its marks, alone or with turned and freed
pub cleared-marks : (x : ℕ) → (turned (x % 4096) ≡ false) × (freed (x % 4096) ≡ false) × (gone (x % 4096) ≡ false) × (moved (x % 4096) ≡ false)
unfolding bit
cleared-marks x = (
  ne_eqb (x % 4096 / 4096 % 2) 1 (λ q. omega arith),
  ne_eqb (x % 4096 / 8192 % 2) 1 (λ q. omega arith),
  ne_eqb (x % 4096 / 16384 % 2) 1 (λ q. omega arith),
  ne_eqb (x % 4096 / 32768 % 2) 1 (λ q. omega arith),
)
