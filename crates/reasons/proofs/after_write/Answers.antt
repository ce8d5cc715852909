use mathlib.Core.Path.{sym, ap, ◌∙◌}
use lib.ListN.{length}
use Rattle.judge.specs.JudgeLaws.{fat-lt}
use Rattle.marks.specs.Seen.{turns_at, zeroes_at}
use Rattle.write.specs.WriteLaws.{both-whole, part-shown, part-written}
use Rattle.reasons.proofs.ReasonLaws.{after-refused, after-part, after-place, after-fat, after-data}
use Rattle.reasons.proofs.after_write.Goals as goal

pub returns-then-number-ne0 : goal.returns-then-number-ne0
returns-then-number-ne0 c = sym (after-refused _ _ _ _ _ _ _ _ _ _ _ c.if-number-ne0.true)

pub returns-in_default : goal.returns-in_default
returns-in_default c = sym (after-part _ _ _ _ _ _ _ _ _ _ _ (part-shown _ _ c.in_default.ensures.cases))

pub returns-in_default-as_array : goal.returns-in_default-as_array
returns-in_default-as_array c = sym (after-part _ _ _ _ _ _ _ _ _ _ _ (part-written _ _ c.in_default-as_array.ensures.cases))

pub zeroes-requires : goal.zeroes-requires
zeroes-requires c = fat-lt _ _ (sym c.place_of.ensures ∙ c.in-Fat.is)

pub returns-then-turns : goal.returns-then-turns
returns-then-turns c =
    let shown = c.in-Some.ensures.cases in
    let written = c.in-Some-as_array.ensures.cases in
    let whole = both-whole c.in-Some.shown.now c.in-Some-as_array.written.now (ap length shown.same ∙ shown.long) (ap length written.same ∙ written.long) in
    rw (← shown.same, ← written.same) (c.at_turn.ensures ∙ sym (after-data _ _ _ _ _ _ _ _ _ _ _ c.if-number-ne0.false whole _ c.moved_by.ensures _ _ (sym c.place_of.ensures
    ∙ c.in-Data.is) _ (sym c.if-turns.true ∙ c.turns.ensures)))

pub returns-in-Boot : goal.returns-in-Boot
unfolding turns_at zeroes_at
returns-in-Boot c =
    let shown = c.in-Some.ensures.cases in
    let written = c.in-Some-as_array.ensures.cases in
    let whole = both-whole c.in-Some.shown.now c.in-Some-as_array.written.now (ap length shown.same ∙ shown.long) (ap length written.same ∙ written.long) in
    rw (← shown.same, ← written.same) (sym (after-place _ _ _ _ _ _ _ _ _ _ _ c.if-number-ne0.false whole _ c.moved_by.ensures _ (sym c.place_of.ensures ∙ c.in-Boot.is)))

pub returns-then-zeroes : goal.returns-then-zeroes
returns-then-zeroes c =
    let shown = c.in-Some.ensures.cases in
    let written = c.in-Some-as_array.ensures.cases in
    let whole = both-whole c.in-Some.shown.now c.in-Some-as_array.written.now (ap length shown.same ∙ shown.long) (ap length written.same ∙ written.long) in
    rw (← shown.same, ← written.same) (sym (after-fat _ _ _ _ _ _ _ _ _ _ _ c.if-number-ne0.false whole _ c.moved_by.ensures _ (sym c.place_of.ensures ∙ c.in-Fat.is)
    ∙ simp (← c.zeroes.ensures, c.if-zeroes.true)))

pub returns-else-zeroes : goal.returns-else-zeroes
returns-else-zeroes c =
    let shown = c.in-Some.ensures.cases in
    let written = c.in-Some-as_array.ensures.cases in
    let whole = both-whole c.in-Some.shown.now c.in-Some-as_array.written.now (ap length shown.same ∙ shown.long) (ap length written.same ∙ written.long) in
    rw (← shown.same, ← written.same) (sym (after-fat _ _ _ _ _ _ _ _ _ _ _ c.if-number-ne0.false whole _ c.moved_by.ensures _ (sym c.place_of.ensures ∙ c.in-Fat.is)
    ∙ simp (← c.zeroes.ensures, c.if-zeroes.false)))

pub returns-in-Root : goal.returns-in-Root
unfolding turns_at zeroes_at
returns-in-Root c =
    let shown = c.in-Some.ensures.cases in
    let written = c.in-Some-as_array.ensures.cases in
    let whole = both-whole c.in-Some.shown.now c.in-Some-as_array.written.now (ap length shown.same ∙ shown.long) (ap length written.same ∙ written.long) in
    rw (← shown.same, ← written.same) (sym (after-place _ _ _ _ _ _ _ _ _ _ _ c.if-number-ne0.false whole _ c.moved_by.ensures _ (sym c.place_of.ensures ∙ c.in-Root.is)))

pub returns-else-turns : goal.returns-else-turns
returns-else-turns c =
    let shown = c.in-Some.ensures.cases in
    let written = c.in-Some-as_array.ensures.cases in
    let whole = both-whole c.in-Some.shown.now c.in-Some-as_array.written.now (ap length shown.same ∙ shown.long) (ap length written.same ∙ written.long) in
    rw (← shown.same, ← written.same) (sym (after-data _ _ _ _ _ _ _ _ _ _ _ c.if-number-ne0.false whole _ c.moved_by.ensures _ _ (sym c.place_of.ensures
    ∙ c.in-Data.is) _ (sym c.if-turns.false ∙ c.turns.ensures)))

pub returns-in-Outside : goal.returns-in-Outside
unfolding turns_at zeroes_at
returns-in-Outside c =
    let shown = c.in-Some.ensures.cases in
    let written = c.in-Some-as_array.ensures.cases in
    let whole = both-whole c.in-Some.shown.now c.in-Some-as_array.written.now (ap length shown.same ∙ shown.long) (ap length written.same ∙ written.long) in
    rw (← shown.same, ← written.same) (sym (after-place _ _ _ _ _ _ _ _ _ _ _ c.if-number-ne0.false whole _ c.moved_by.ensures _ (sym c.place_of.ensures ∙ c.in-Outside.is)))
