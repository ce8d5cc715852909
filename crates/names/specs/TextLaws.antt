-- Laws of the text of a name: what is held is the first 32 characters of what was added.
use Prim.Native.Nat.{ℕ, zero, suc, ◌+◌, ◌-◌, ◌*◌, ◌<◌, ◌≤◌, min}
use Prim.Native.Char.{code}
use mathlib.Core.List.{List, [], ◌∷◌, ◌++◌, map, map-append, append-nil, append_assoc}
use Rattle.std.specs.Prelude.{◌≡◌, length, get_or, drop, set}
use Rattle.std.proofs.Math.Path.{refl, sym}
use Rattle.std.proofs.Common.{◌∙◌, ap, add-one, length-append, length-take, drop-cons, drop_of_length-le, take_all, take_at, take-suc-set, length-take-le}
use native.Mathlib.Omega.{arith}
use Rattle.std.proofs.Math.ListN.{take}
use Rattle.std.proofs.lemmas.List.{length-map}
use borrow.Author.Tests.{eq-eqb, ne_eqb}
use Rattle.loops.specs.Loops.{listed}
use Rattle.loops.specs.Facts.{first-le}
use Rattle.slots.specs.Text.{lower_of}
use Rattle.names.specs.Held.{held}
use Rattle.names.specs.declared.text.Name.{Name}
use Rattle.names.specs.Names.{char_of, ends, text_len, text_of, joined, shown_char, unblanked, short_name, name_by}

-- what a list is cut to before more is added doesn't show
pub take-on : (n : ℕ) (l t : List ℕ) → take n (take n l ++ t) ≡ take n (l ++ t)
take-on zero l t = refl
take-on (suc n) [] t = refl
take-on (suc n) (x ∷ l) t = ap (λ (r : List ℕ). x ∷ r) (take-on n l t)

-- the text w is made of what is held, h, and of what is still to be added; x of it is added
pub added : (w h g x t : List ℕ) → w ≡ take 32 (h ++ (x ++ t)) → g ≡ take 32 (h ++ x) → w ≡ take 32 (g ++ t)
added w h g x t inv e = rw (inv, e, take-on 32 (h ++ x) t, append_assoc h x t)

-- nothing is left to add
pub added-end : (w h : List ℕ) → w ≡ take 32 (h ++ []) → length h ≤ 32 → h ≡ w
added-end w h inv l = sym (inv ∙ rw (append-nil h) (take_all 32 h l))

-- an entry has at most 13 characters
pub text_len-le : (e : List ℕ) → text_len e ≤ 13
unfolding text_len
text_len-le e = first-le (λ i. ends (char_of e i)) 13 0

-- what a name of n characters holds
pub held-le : (name : Name) → name.len ≤ 32 → length (held name) ≤ 32
unfolding held
held-le name h = simp length-take (omega arith)

module _ (chars : List ℕ) (n : ℕ) (full : length chars ≡ 32) (h : n ≤ 32) where
  pub held-length : length (take n chars) ≡ n
  held-length = length-take-le n chars (omega arith)

  pub push-full : (t : List ℕ) → 32 ≤ n → take n chars ≡ take 32 (take n chars ++ t)
  push-full t l = sym (take_at (take n chars) t 32 (held-length ∙ omega arith))

  pub push-room : (x y : ℕ) → x ≡ y → n < 32 → take (n + 1) (set chars n x) ≡ take 32 (take n chars ++ (y ∷ []))
  push-room x y e l =
      let s : length (take n chars ++ (y ∷ [])) ≤ 32 = simp (length-append, held-length) (omega arith) in
      rw (add-one n, take-suc-set chars n x (omega arith), e) (sym (take_all 32 (take n chars ++ (y ∷ [])) s))

-- the characters of an entry, from i on
module _ (e : List ℕ) (n i : ℕ) (w h : List ℕ) (inv : w ≡ take 32 (h ++ map shown_char (listed (char_of e) (n - i) i))) where
  pub text-more : (g : List ℕ) → i < n → g ≡ take 32 (h ++ (shown_char (char_of e i) ∷ []))
      → w ≡ take 32 (g ++ map shown_char (listed (char_of e) (n - (i + 1)) (i + 1)))
  unfolding listed
  text-more g l q =
      let s : n - i ≡ suc (n - (i + 1)) = omega arith in
      added w h g (shown_char (char_of e i) ∷ []) (map shown_char (listed (char_of e) (n - (i + 1)) (i + 1))) (inv ∙ rw s) q

  pub text-end : n ≤ i → length h ≤ 32 → h ≡ w
  unfolding listed
  text-end l s = let z : n - i ≡ 0 = omega arith in added-end w h (inv ∙ rw z) s

pub text-start : (e : List ℕ) (n : ℕ) (h : List ℕ) → n ≡ text_len e
    → take 32 (h ++ map shown_char (text_of e)) ≡ take 32 (h ++ map shown_char (listed (char_of e) (n - 0) 0))
unfolding text_of
text-start e n h q = let z : text_len e ≡ n - 0 = omega arith in rw z

-- the bytes of a short name's part, from i on
module _ (xs : List ℕ) (i : ℕ) (w h : List ℕ) (inv : w ≡ take 32 (h ++ unblanked (drop i xs))) where
  part-cons : i < length xs → drop i xs ≡ get_or xs i 0 ∷ drop (i + 1) xs
  part-cons l = rw (drop-cons xs i 0 l, add-one i)

  pub part-blank : i < length xs → get_or xs i 0 ≡ code " " → w ≡ take 32 (h ++ unblanked (drop (i + 1) xs))
  unfolding unblanked
  part-blank l e = inv ∙ rw (part-cons l, eq-eqb (get_or xs i 0) (code " ") e)

  pub part-more : (g : List ℕ) → i < length xs → (get_or xs i 0 ≡ code " " → ⊥) → g ≡ take 32 (h ++ (lower_of (get_or xs i 0) ∷ []))
      → w ≡ take 32 (g ++ unblanked (drop (i + 1) xs))
  unfolding unblanked
  part-more g l e q =
      added w h g (lower_of (get_or xs i 0) ∷ []) (unblanked (drop (i + 1) xs))
      (inv ∙ rw (part-cons l, ne_eqb (get_or xs i 0) (code " ") e)) q

  pub part-end : length xs ≤ i → length h ≤ 32 → h ≡ w
  unfolding unblanked
  part-end l s = added-end w h (inv ∙ rw (drop_of_length-le xs {i = i} l)) s

-- one entry more
pub joined-more : (look : ℕ → List ℕ) (idx s : ℕ) (h g e : List ℕ) → h ≡ take 32 (map shown_char (joined look idx s)) → e ≡ look (idx - (s + 1))
    → g ≡ take 32 (h ++ map shown_char (text_of e)) → g ≡ take 32 (map shown_char (joined look idx (s + 1)))
unfolding joined
joined-more look idx s h g e inv at q =
    let before = joined look idx s in
    let more : text_of e ≡ text_of (look (idx - suc s)) = rw (at, add-one s) in
    q ∙ rw (inv, take-on 32 (map shown_char before) (map shown_char (text_of e)), ← map-append shown_char before (text_of e), more, add-one s)

-- a short name: the part before the dot, and what comes after it
module _ (d : List ℕ) (at : ℕ) (b : List ℕ) (before : b ≡ take 32 (unblanked (take (at + 8 - at) (drop at d)))) where
  front : b ≡ take 32 (unblanked (take 8 (drop at d)))
  front = let e : at + 8 - at ≡ 8 = omega arith in before ∙ rw e

  pub short-plain : get_or d (at + 8) 0 ≡ code " " → b ≡ take 32 (short_name d at)
  unfolding short_name
  short-plain e = rw (eq-eqb (get_or d (at + 8) 0) (code " ") e, append-nil (unblanked (take 8 (drop at d)))) front

  pub short-dotted : (g r : List ℕ) → (get_or d (at + 8) 0 ≡ code " " → ⊥) → g ≡ take 32 (b ++ (code "." ∷ []))
      → r ≡ take 32 (g ++ unblanked (take (at + 11 - (at + 8)) (drop (at + 8) d))) → r ≡ take 32 (short_name d at)
  unfolding short_name
  short-dotted g r e p q =
      let n : at + 11 - (at + 8) ≡ 3 = omega arith in
      let u = unblanked (take 8 (drop at d)) in
      let v = unblanked (take 3 (drop (at + 8) d)) in
      let f : take 32 (b ++ (code "." ∷ v)) ≡ take 32 (g ++ v) = added (take 32 (b ++ (code "." ∷ v))) b g (code "." ∷ []) v refl p in
      rw (ne_eqb (get_or d (at + 8) 0) (code " ") e) (q ∙ rw n (sym f ∙ rw (front, take-on 32 u (code "." ∷ v))))

-- a name: without long entries the short name
pub name-none : (look : ℕ → List ℕ) (d : List ℕ) (base idx m : ℕ) → m ≡ 0 → (r : List ℕ) → r ≡ take 32 (short_name d ((idx - base) * 32))
    → r ≡ name_by look d base idx m
unfolding name_by joined
name-none look d base idx m e r q = rw e q

-- with them the long text if it has a character
module _ (look : ℕ → List ℕ) (d : List ℕ) (base idx m : ℕ) (name : Name) (full : length name.chars ≡ 32) (h : name.len ≤ 32)
    (long : held name ≡ take 32 (map shown_char (joined look idx m))) where
  long-length : name.len ≡ min 32 (length (joined look idx m))
  unfolding held
  long-length =
      sym (held-length name.chars name.len full h)
      ∙ rw long (length-take 32 (map shown_char (joined look idx m)) ∙ rw (length-map (joined look idx m) shown_char))

  pub name-short : name.len ≡ 0 → (r : List ℕ) → r ≡ take 32 (short_name d ((idx - base) * 32)) → r ≡ name_by look d base idx m
  unfolding name_by
  name-short e r q = rw (eq-eqb (length (joined look idx m)) 0 (omega (arith, long-length))) q

  pub name-long : (name.len ≡ 0 → ⊥) → held name ≡ name_by look d base idx m
  unfolding name_by
  name-long e = rw (ne_eqb (length (joined look idx m)) 0 (λ z. e (omega (arith, long-length)))) long
