use Prim.Native.Nat.{ℕ, ◌<◌}
use mathlib.Core.Bool.{Bool, true, false}
use mathlib.Core.Path.{◌≡◌, sym, ap, ◌∙◌}
use mathlib.Core.List.{List, map}
use lib.ListN.{length}
use native.Mathlib.Omega.{arith}
use borrow.Author.Rules.{rules}
use borrow.Author.Tests.{tests}
use Rattle.std.specs.Bool.{MatchBool}
use Rattle.std.specs.List.{AllWithin, HoldsAt}
use Rattle.std.proofs.Common.{true≢false}
use Rattle.std.proofs.lemmas.Iterator.{cases_from_all, YieldsList-from_slice}
use Rattle.std.proofs.lemmas.List.{length-map}
use Rattle.vdisk.specs.Ids.{unmarked}
use Rattle.loops.specs.Facts.{all-of, all-at}
use Rattle.loops.specs.Choices.{either}
use Rattle.file_table.specs.Files.{id_of}
use Rattle.file_table.specs.Table.{all_unmarked, unmarked_at}
use Rattle.file_table.specs.declared.VF.{VF}
use Rattle.file_table.proofs.FileRows.{column-at}
use Rattle.file_table.proofs.RowLaws.{any_file}
use Rattle.file_table.proofs.all_unmarked.Goals as goal

told : (fs : List VF) (r : Bool)
    → MatchBool r (AllWithin (λ f. unmarked f.id ≡ true) fs 0 (length fs)) ((k : ℕ) × (k < length fs) × HoldsAt (λ f. unmarked f.id ≡ false) fs k)
    → r ≡ all_unmarked (map id_of fs)
unfolding all_unmarked
told fs true f =
    let n = length-map fs id_of in
    sym (all-of (unmarked_at (map id_of fs)) (length (map id_of fs)) 0
    (λ k l h. ap unmarked (column-at id_of fs k any_file (omega arith)) ∙ f k any_file l (omega arith)))
told fs false (k, h, e) =
    let n = length-map fs id_of in
    either (all_unmarked (map id_of fs))
    (λ q. absurd (true≢false (sym (all-at (unmarked_at (map id_of fs)) (length (map id_of fs)) 0 k q (omega arith) (omega arith)) ∙ ap unmarked (column-at id_of fs k any_file h) ∙ e any_file)))
    (λ q. sym q)

pub returns : goal.returns
returns c = told _ _
    (cases_from_all _ _ _ (λ f. unmarked f.id ≡ true) (λ f. unmarked f.id ≡ false) c.all.ensures.ran (YieldsList-from_slice c.args.files.now cc)
    (λ x q k. search (rules, tests)) (λ x q k. search (rules, tests)))
