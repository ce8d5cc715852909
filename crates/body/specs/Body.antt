-- The body check of a start and a size (document 01, "Porting order"): over the file's bytes as one list.
use Rattle.std.specs.Prelude.{ℕ, ◌+◌, ◌-◌, ◌*◌, ◌/◌, ◌%◌, Bool, false, not, ◌&&◌, List, [], ◌++◌, ltb, eqb, get_or, take, drop}
use Rattle.loops.specs.Loops.{pick, all, fold}
use Rattle.sector.specs.Bytes.{word32}
use Rattle.state.specs.State.{no_st}
use Rattle.state.specs.declared.w.Pair.{Pair}
use Rattle.state.specs.declared.w.St.{St}
use Rattle.medium.specs.Reads.{sector_of}
use Rattle.chains.specs.Chains.{complete_of}
use Rattle.chains.specs.declared.Chain.{Chain}
use Rattle.decode.specs.Decode.{decodes, decoded}
use Rattle.crc.specs.Crc.{crc_of}

-- m lists end to end
unfoldable pub joined : (ℕ → List ℕ) → ℕ → List ℕ
joined f m = fold (λ k bs. bs ++ f k) m 0 []

-- the k-th sector of the chain, 64 a cluster
abbrev pub chain_sector : List ℕ → List ℕ → List St → Chain → ℕ → List ℕ
chain_sector fat area st ch k = sector_of fat area (get_or st (get_or ch.slots (k / 64) 0) no_st) (k % 64)

-- the file's bytes: the sectors of the chain joined, cut to the size
unfoldable pub file_bytes : List ℕ → List ℕ → List St → Chain → ℕ → List ℕ
file_bytes fat area st ch size = take size (joined (chain_sector fat area st ch) (ch.n * 64))

-- cut into blocks of 128, the last one what is left
abbrev pub blocks_of : ℕ → ℕ
blocks_of size = (size + 127) / 128

abbrev pub block_in : List ℕ → ℕ → List ℕ
block_in bytes q = take 128 (drop (q * 128) bytes)

-- blocks decode
unfoldable pub all_decode : ℕ → List ℕ → Bool
all_decode size bytes = all (λ q. decodes (block_in bytes q)) (blocks_of size) 0

unfoldable pub decoded_file : ℕ → List ℕ → List ℕ
decoded_file size bytes = joined (λ q. decoded (block_in bytes q)) (blocks_of size)

-- what the CRC goes over: the bytes from 12 on, without the 12 from file offset 16,396
abbrev pub marker_at : ℕ
marker_at = 16396

unfoldable pub covered : List ℕ → List ℕ
covered d = take (marker_at - 12) (drop 12 d) ++ drop (marker_at + 12) d

-- blocks decode, the 32-bit word at byte 4 is size − 12, the CRC equals the low half of that at byte 8
unfoldable pub body_fits : ℕ → List ℕ → Bool
body_fits size bytes =
    all_decode size bytes
    && eqb (word32 (decoded_file size bytes) 4) (size - 12)
    && eqb (crc_of 0xFFFF (covered (decoded_file size bytes))) (word32 (decoded_file size bytes) 8 % 65536)

-- the refusal number, 0 where there is none, beside whether the body is valid
pub record BodyCheck : Type 0 where
  pub no : ℕ
  pub valid : Bool

-- 11 for a size under 128, tried before 20, chain not complete; else whether the body is as it must be
unfoldable pub body_of : List ℕ → List ℕ → List Pair → List St → ℕ → ℕ → BodyCheck
body_of fat area ps st start size =
    pick (ltb size 128) (record { no = 11; valid = false })
    (pick (not (complete_of ps st start size).found) (record { no = 20; valid = false })
    (record { no = 0; valid = body_fits size (file_bytes fat area st (complete_of ps st start size) size) }))
