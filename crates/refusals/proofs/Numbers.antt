-- No refusal has the number of a taken call, and no two have one; what is told of a refusal that is passed on.
use Rattle.std.specs.Prelude.{ℕ, ◌-◌, false, List, [], ◌∷◌, ◌≡◌, refl, eqb, get_or, Result, Ok, Err, IsErrAnd}
use Rattle.std.proofs.Common.{arith, sym, ◌∙◌, ap, ne_eqb}
use Rattle.refusals.specs.Refusals.{number_of, told, value_or}
use Rattle.refusals.specs.declared.Refusal.{Refusal}
use Rattle.refusals.specs.declared.Refusal.TheVariants.{SectorLength, PastTheEnd, BootByte, ReservedEntry, OwnCluster, HostValue, OwnRootSlot, RootSlot, DirectorySlot, Table, BodySize}
use Rattle.refusals.specs.declared.Refusal.TheVariants.{ReadOnly, LiveFile, NoPair, NoRecord, NoStagingSlot, Medium, NoBlock, Busy, NoChain, NotHanded}

pub refused : (r : Refusal) → number_of r ≡ 0 → ⊥
refused SectorLength = λ e. omega arith
refused PastTheEnd = λ e. omega arith
refused BootByte = λ e. omega arith
refused ReservedEntry = λ e. omega arith
refused OwnCluster = λ e. omega arith
refused HostValue = λ e. omega arith
refused OwnRootSlot = λ e. omega arith
refused RootSlot = λ e. omega arith
refused DirectorySlot = λ e. omega arith
refused Table = λ e. omega arith
refused BodySize = λ e. omega arith
refused ReadOnly = λ e. omega arith
refused LiveFile = λ e. omega arith
refused NoPair = λ e. omega arith
refused NoRecord = λ e. omega arith
refused NoStagingSlot = λ e. omega arith
refused Medium = λ e. omega arith
refused NoBlock = λ e. omega arith
refused Busy = λ e. omega arith
refused NoChain = λ e. omega arith
refused NotHanded = λ e. omega arith

pub number-not-0 : (r : Refusal) → eqb (number_of r) 0 ≡ false
number-not-0 r = ne_eqb (number_of r) 0 (refused r)

pub told-err : {T : Type 0} (r : Result T Refusal) (e : Refusal) → IsErrAnd r (λ (x : Refusal). x ≡ e) → told r ≡ number_of e
told-err (Ok x) e h = absurd h
told-err (Err x) e h = ap number_of h

pub value-err : {T : Type 0} (d : T) (r : Result T Refusal) (e : Refusal) → IsErrAnd r (λ (x : Refusal). x ≡ e) → value_or d r ≡ d
value-err d (Ok x) e h = absurd h
value-err d (Err x) e h = refl

-- two refusals have two numbers
refusal_of : ℕ → Refusal
refusal_of n =
    get_or
    (SectorLength ∷ PastTheEnd ∷ BootByte ∷ ReservedEntry ∷ OwnCluster ∷ HostValue ∷ OwnRootSlot ∷ RootSlot ∷ DirectorySlot ∷ Table ∷ BodySize
    ∷ ReadOnly ∷ LiveFile ∷ NoPair ∷ NoRecord ∷ NoStagingSlot ∷ Medium ∷ NoBlock ∷ Busy ∷ NoChain ∷ NotHanded ∷ [])
    (n - 1) NotHanded

refusal-of : (r : Refusal) → refusal_of (number_of r) ≡ r
unfolding refusal_of
refusal-of SectorLength = refl
refusal-of PastTheEnd = refl
refusal-of BootByte = refl
refusal-of ReservedEntry = refl
refusal-of OwnCluster = refl
refusal-of HostValue = refl
refusal-of OwnRootSlot = refl
refusal-of RootSlot = refl
refusal-of DirectorySlot = refl
refusal-of Table = refl
refusal-of BodySize = refl
refusal-of ReadOnly = refl
refusal-of LiveFile = refl
refusal-of NoPair = refl
refusal-of NoRecord = refl
refusal-of NoStagingSlot = refl
refusal-of Medium = refl
refusal-of NoBlock = refl
refusal-of Busy = refl
refusal-of NoChain = refl
refusal-of NotHanded = refl

pub apart : (r s : Refusal) → (r ≡ s → ⊥) → eqb (number_of r) (number_of s) ≡ false
apart r s h = ne_eqb (number_of r) (number_of s) (λ e. h (sym (refusal-of r) ∙ ap refusal_of e ∙ refusal-of s))
