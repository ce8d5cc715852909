-- The loop of the body check: the first q blocks of the file decode and are summed up.
use Rattle.std.specs.Prelude.{ℕ, zero, suc, ◌+◌, ◌-◌, ◌*◌, ◌/◌, ◌%◌, ◌<◌, ◌≤◌, min, ◌&&◌, List, ◌++◌, ◌≡◌, refl, eqb, length, get_or, take, drop}
use Rattle.std.proofs.Math.Bool.{true, false}
use Rattle.std.proofs.Math.Path.{sym, ap}
use Rattle.std.proofs.Common.{◌∙◌, arith, add-one, length-append, length-take, length-drop, drop-drop, ne_eqb, eq-eqb}
use Rattle.std.proofs.Math.Seq.{length-take-le}
use Rattle.std.proofs.lemmas.Bool.{eqb-false}
use Rattle.loops.specs.Loops.{pick, all, fold, all-start, all-go, all-stop, all-end}
use Rattle.loops.specs.Choices.{either}
use Rattle.vdisk.specs.Drive.{clusters_of}
use Rattle.state.specs.State.{max_slots}
use Rattle.state.specs.declared.w.Pair.{Pair}
use Rattle.state.specs.declared.w.St.{St}
use Rattle.chains.specs.Chains.{complete_of}
use Rattle.chains.specs.declared.Chain.{Chain}
use Rattle.chains.specs.ChainLaws.{chain-n, chain-le, slot-lt}
use Rattle.decode.specs.Decode.{decodes, decoded}
use Rattle.decode.specs.DecodeLaws.{decoded-length}
use Rattle.body.specs.Body.{joined, chain_sector, file_bytes, blocks_of, block_in, all_decode, decoded_file, body_fits}
use Rattle.body.specs.Summed.{sum_of, summed, sum-start, sum-first, sum-more}
use Rattle.body.specs.BodyLaws.{joined-more, joined-length, sectors-length, block-is, sector-length, part-new, part-after}
use Rattle.body.specs.declared.Sum.{Sum}

-- a chain with a slot for each cluster of a file of that size
pub record HoldsFile (ch : Chain) (size : ℕ) : Type 0 where
  pub most : ch.n ≤ max_slots
  pub fits : size ≤ ch.n * 32768
  pub slot : (k : ℕ) → k < ch.n → get_or ch.slots k 0 < max_slots

-- a complete chain is one
pub found-holds : (ps : List Pair) (st : List St) (start size : ℕ) → (complete_of ps st start size).found ≡ true → HoldsFile (complete_of ps st start size) size
unfolding clusters_of
found-holds ps st start size e =
    record {
      most = chain-le ps st start size e;
      fits = (let n = chain-n ps st start size e in omega arith);
      slot = slot-lt ps st start size e;
    }

-- a block's cluster has a slot
pub in-chain : (ch : Chain) (size q : ℕ) → HoldsFile ch size → q < blocks_of size → q / 4 / 64 < ch.n
in-chain ch size q h l = omega (arith, h.fits)

-- what is left of block q's sector is as it was read
pub record Checked (fat area : List ℕ) (st : List St) (ch : Chain) (size : ℕ) (sec : List ℕ) (sum : Sum) (q : ℕ) : Type 0 where
  pub whole : all_decode size (file_bytes fat area st ch size) ≡ all (λ j. decodes (block_in (file_bytes fat area st ch size) j)) (blocks_of size - q) q
  pub sums : sum ≡ sum_of (joined (λ j. decoded (block_in (file_bytes fat area st ch size) j)) q)
  pub rest : (q % 4 ≡ 0 → ⊥) → drop (q % 4 * 128) sec ≡ drop (q % 4 * 128) (chain_sector fat area st ch (q / 4))

pub check-start : (fat area : List ℕ) (st : List St) (ch : Chain) (size : ℕ) (sec : List ℕ) → Checked fat area st ch size sec (record { word1 = 0; word2 = 0; crc = 0xFFFF }) 0
unfolding all_decode joined fold
check-start fat area st ch size sec = record { whole = all-start _ _; sums = sym sum-start; rest = λ h. absurd (h refl) }

sum-next : (g : ℕ → List ℕ) (q : ℕ) (d : List ℕ) → length (joined g q) ≡ q * 128 → summed (sum_of (joined g q)) (q * 128) d ≡ sum_of (joined g q ++ d)
unfolding joined fold
sum-next g zero d n = sum-first d
sum-next g (suc q) d n = sum-more (joined g (suc q)) d (suc q * 128) n (omega arith)

module _ (fat area : List ℕ) (st : List St) (ch : Chain) (size : ℕ) (h : HoldsFile ch size) where
  bytes-length : length (file_bytes fat area st ch size) ≡ size
  unfolding file_bytes
  bytes-length =
      let f = chain_sector fat area st ch in
      let n = sectors-length f (λ k. sector-length fat area _ (k % 64)) (ch.n * 64) in
      length-take-le size (joined f (ch.n * 64)) (omega (arith, h.fits))

  block-length : (q : ℕ) → q * 128 + 128 ≤ size → length (decoded (block_in (file_bytes fat area st ch size) q)) ≡ 128
  block-length q l =
      let n = bytes-length in
      decoded-length (block_in (file_bytes fat area st ch size) q) ∙ length-take 128 (drop (q * 128) (file_bytes fat area st ch size))
      ∙ rw (length-drop (q * 128) (file_bytes fat area st ch size)) (omega arith)

  done-length : (q : ℕ) → q * 128 ≤ size → length (joined (λ j. decoded (block_in (file_bytes fat area st ch size) j)) q) ≡ q * 128
  done-length q l =
      joined-length (λ j. decoded (block_in (file_bytes fat area st ch size) j)) (λ j. j * 128) q refl (λ j m. let e = block-length j (omega arith) in omega arith)

  -- block q is read, or what is left of its sector, into s
  module _ (sec : List ℕ) (sum : Sum) (q : ℕ) (inv : Checked fat area st ch size sec sum q) (l : q < blocks_of size)
      (s : List ℕ) (e : s ≡ pick (eqb (q % 4) 0) (chain_sector fat area st ch (q / 4)) sec) (k : ℕ) (c : k ≡ min (size - q * 128) 128) where
    read-rest : drop (q % 4 * 128) s ≡ drop (q % 4 * 128) (chain_sector fat area st ch (q / 4))
    read-rest =
        either (eqb (q % 4) 0) (λ t. let z : s ≡ chain_sector fat area st ch (q / 4) = e ∙ rw t in rw z)
        (λ t. let z : s ≡ sec = e ∙ rw t in rw z (inv.rest (eqb-false (q % 4) 0 t)))

    pub part-is : take k (drop (q % 4 * 128) s) ≡ block_in (file_bytes fat area st ch size) q
    unfolding file_bytes
    part-is =
        ap (take k) read-rest
        ∙ sym (block-is (chain_sector fat area st ch) (λ j. sector-length fat area _ (j % 64)) (ch.n * 64) size q k (omega (arith, h.fits)) (omega arith) c)

    pub check-stop : decodes (take k (drop (q % 4 * 128) s)) ≡ false → false ≡ body_fits size (file_bytes fat area st ch size)
    unfolding body_fits
    check-stop n =
        let z : all_decode size (file_bytes fat area st ch size) ≡ false = sym (all-stop _ _ _ _ inv.whole l (rw (← part-is) n)) in
        rw z

    module _ (d : List ℕ) (made : d ≡ decoded (take k (drop (q % 4 * 128) s))) (long : length s ≡ 512) where
      d-length : length d ≡ k
      d-length =
          ap length made ∙ decoded-length (take k (drop (q % 4 * 128) s)) ∙ length-take k (drop (q % 4 * 128) s)
          ∙ rw (length-drop (q % 4 * 128) s) (omega arith)

      pub part-back : take k (drop (q % 4 * 128) (take (q % 4 * 128) s ++ (d ++ drop k (drop (q % 4 * 128) s)))) ≡ d
      part-back = part-new s d (q % 4 * 128) k (omega arith) d-length

      pub put-length : length (take (q % 4 * 128) s ++ (d ++ drop k (drop (q % 4 * 128) s))) ≡ 512
      put-length =
          let n = d-length in
          length-append (take (q % 4 * 128) s) (d ++ drop k (drop (q % 4 * 128) s))
          ∙ rw (length-append d (drop k (drop (q % 4 * 128) s)), length-take (q % 4 * 128) s, length-drop k (drop (q % 4 * 128) s), length-drop (q % 4 * 128) s, n, long)
          (omega arith)

      -- the first block has the whole header
      pub head-inside : 128 ≤ size → q * 128 ≡ 0 → 12 ≤ length (take k (drop (q % 4 * 128) (take (q % 4 * 128) s ++ (d ++ drop k (drop (q % 4 * 128) s)))))
      head-inside g z = let n = d-length in rw part-back (omega arith)

      rest-next : drop (q % 4 * 128 + 128) (take (q % 4 * 128) s ++ (d ++ drop k (drop (q % 4 * 128) s))) ≡ drop (q % 4 * 128 + 128) (chain_sector fat area st ch (q / 4))
      rest-next =
          let a = q % 4 * 128 in
          let z : q % 4 * 128 + (k + (128 - k)) ≡ q % 4 * 128 + 128 = omega arith in
          (rw z at (part-after s d a k (128 - k) (omega arith) d-length))
          ∙ sym (drop-drop 128 a s) ∙ ap (drop 128) read-rest ∙ drop-drop 128 a (chain_sector fat area st ch (q / 4))

      pub check-more : decodes (take k (drop (q % 4 * 128) s)) ≡ true → (next : Sum) → next ≡ summed sum (q * 128) d
          → Checked fat area st ch size (take (q % 4 * 128) s ++ (d ++ drop k (drop (q % 4 * 128) s))) next (q + 1)
      check-more t next f =
          let g : ℕ → List ℕ = λ j. decoded (block_in (file_bytes fat area st ch size) j) in
          let w : d ≡ decoded (block_in (file_bytes fat area st ch size) q) = made ∙ ap decoded part-is in
          record {
            whole = all-go _ _ _ _ inv.whole l (rw (← part-is) t);
            sums = f ∙ ap (λ (u : Sum). summed u (q * 128) d) inv.sums ∙ sum-next g q d (done-length q (omega arith))
                ∙ rw (add-one q) (ap sum_of (ap (λ (u : List ℕ). joined g q ++ u) w ∙ sym (joined-more g q)));
            rest = λ r. (let x : (q + 1) % 4 * 128 ≡ q % 4 * 128 + 128 = omega arith in
                let y : (q + 1) / 4 ≡ q / 4 = omega arith in
                rw (x, y) rest-next);
          }

  -- all blocks decode
  module _ (sec : List ℕ) (sum : Sum) (q : ℕ) (inv : Checked fat area st ch size sec sum q) (o : q ≡ blocks_of size) where
    fits-is : body_fits size (file_bytes fat area st ch size) ≡ (eqb sum.word1 (size - 12) && eqb sum.crc (sum.word2 % 65536))
    unfolding body_fits decoded_file sum_of
    fits-is =
        let a : all_decode size (file_bytes fat area st ch size) ≡ true = sym (all-end _ _ _ _ inv.whole (omega arith)) in
        let s : sum ≡ sum_of (joined (λ j. decoded (block_in (file_bytes fat area st ch size) j)) (blocks_of size)) = rw o at inv.sums in
        rw (a, s)

    pub check-length : (sum.word1 ≡ size - 12 → ⊥) → false ≡ body_fits size (file_bytes fat area st ch size)
    check-length n = sym (fits-is ∙ rw (ne_eqb sum.word1 (size - 12) n))

    pub check-end : sum.word1 ≡ size - 12 → eqb sum.crc (sum.word2 % 65536) ≡ body_fits size (file_bytes fat area st ch size)
    check-end n = sym (fits-is ∙ rw (eq-eqb sum.word1 (size - 12) n))
