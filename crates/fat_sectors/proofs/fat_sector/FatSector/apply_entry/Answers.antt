use mathlib.Core.Path.{sym, ap, ◌∙◌}
use borrow.Author.Tests.{eqb-true}
use Rattle.std.specs.Prelude.{eqb, ◌&&◌}
use Rattle.loops.specs.Choices.{and-0, and-1}
use Rattle.state.specs.Pairs.{set_pair}
use Rattle.state.specs.Setters.{with_fat1}
use Prim.Native.Nat.{ℕ, ◌+◌}
use Rattle.fat_sectors.specs.FatLaws.{fat1-entry, nothing-entry, freed-entry, pair-entry}
use Rattle.fat_sectors.specs.Gathered.{judged_as}
use Rattle.fat_sectors.proofs.fat_sector.FatSector.apply_entry.Goals as goal

pub returns-then-c-eq1 : goal.returns-then-c-eq1
unfolding with_fat1
returns-then-c-eq1 c =
    let e = fat1-entry (judged_as c.args.self.now) c.args.i c.args.w.now c.requires.changed.1 c.if-c-eq1.true in
    sym (e ∙ ap (λ (n : ℕ). with_fat1 c.args.w.now (n + 65536)) (sym c.value-v.ensures))

pub returns-then-sets_nothing : goal.returns-then-sets_nothing
returns-then-sets_nothing c =
    let x = judged_as c.args.self.now in
    let e = sym c.sets_nothing.ensures ∙ c.if-sets_nothing.true in
    let z = eqb-true _ _ (and-1 c.args.gathered.now.any _ (and-0 (c.args.gathered.now.any && eqb c.value-v.result 0) _ e)) in
    sym (nothing-entry x c.args.i c.args.w.now c.requires.changed.1 c.if-c-eq1.false (sym c.value-v.ensures ∙ z) (and-1 (c.args.gathered.now.any && eqb c.value-v.result 0) _ e))

pub returns-then-frees_owner : goal.returns-then-frees_owner
returns-then-frees_owner c =
    sym (freed-entry (judged_as c.args.self.now) c.args.i c.args.w.now c.requires.changed.1 c.if-c-eq1.false (sym c.frees_owner.ensures ∙ c.if-frees_owner.true))

pub returns : goal.returns
returns c =
    let x = judged_as c.args.self.now in
    let e = pair-entry x c.args.i c.args.w.now c.requires.changed.1 c.if-c-eq1.false (sym c.frees_owner.ensures ∙ c.if-frees_owner.false) in
    c.set_pair.ensures ∙ sym (e ∙ ap (set_pair _ _) (sym c.value-v.ensures))
