use mathlib.Core.Path.{sym, ap, ◌∙◌}
use native.Mathlib.Omega.{arith}
use Rattle.std.specs.Prelude.{eqb}
use Rattle.refusals.proofs.Numbers.{number-not-0, told-err, value-err}
use Rattle.file_table.specs.Files.{with_ids}
use Rattle.file_table.proofs.FileRows.{same-ids}
use Rattle.judge.specs.Classify.{Outcome, classify, at_place, unless_shown, boot_passes, boot, fat, root}
use Rattle.judge.specs.JudgeLaws.{fat-lt, root-lt, data-lt, cluster-place}
use Rattle.judge.proofs.PassLaws.{passes, stops, stopped-by}
use Rattle.judge.proofs.classify.classify.Goals as goal

pub returns-then-same : goal.returns-then-same
unfolding classify at_place unless_shown
returns-then-same c =
    let e = sym c.place_of.ensures ∙ c.in-Boot.is in
    let q = sym c.same.ensures ∙ c.if-same.true in
    record { number = simp (e, q); changed = simp (e, q); state = simp (e, q); table = simp (e, q) (sym (same-ids _)); medium = simp (e, q) }

pub returns-in_err-boot-in-Boot : goal.returns-in_err-boot-in-Boot
unfolding classify at_place unless_shown boot
returns-in_err-boot-in-Boot c =
    let e = sym c.place_of.ensures ∙ c.in-Boot.is in
    let q = sym c.same.ensures ∙ c.if-same.false in
    let n = c.in_err-boot-in-Boot.ensures in
    let s = stops (boot_passes c.args.sectors.shown.now c.args.sectors.written.now) _ _ n.number in
    let p = c.from_residual.ensures.1 in
    record {
      number = simp (e, q, s) (told-err _ _ p ∙ stopped-by (boot_passes c.args.sectors.shown.now c.args.sectors.written.now) _ _ n.number);
      changed = simp (e, q, s) (value-err _ _ _ p);
      state = simp (e, q, s) (rw s at n.state);
      table = simp (e, q, s) (sym (same-ids _));
      medium = simp (e, q, s);
    }

pub returns-then-same-2 : goal.returns-then-same-2
unfolding classify at_place unless_shown
returns-then-same-2 c =
    let e = sym c.place_of.ensures ∙ c.in-Fat.is in
    let q = sym c.same-in-Fat.ensures ∙ c.if-same-2.true in
    record { number = simp (e, q); changed = simp (e, q); state = simp (e, q); table = simp (e, q) (sym (same-ids _)); medium = simp (e, q) }

pub fat-requires : goal.fat-requires
fat-requires c = (fat-lt _ _ (sym c.place_of.ensures ∙ c.in-Fat.is), c.requires)

pub returns-in_err-fat-in-Fat : goal.returns-in_err-fat-in-Fat
unfolding classify at_place unless_shown fat
returns-in_err-fat-in-Fat c =
    let e = sym c.place_of.ensures ∙ c.in-Fat.is in
    let q = sym c.same-in-Fat.ensures ∙ c.if-same-2.false in
    let n = c.in_err-fat-in-Fat.ensures in
    let p = c.from_residual-in_err-fat-in-Fat.ensures.1 in
    record {
      number = simp (e, q) (told-err _ _ p ∙ n.number);
      changed = simp (e, q) (value-err _ _ _ p ∙ sym (ap (λ k. eqb k 0) (sym n.number) ∙ number-not-0 _));
      state = simp (e, q) n.state;
      table = simp (e, q) n.table;
      medium = simp (e, q);
    }

pub returns-then-same-3 : goal.returns-then-same-3
unfolding classify at_place unless_shown
returns-then-same-3 c =
    let e = sym c.place_of.ensures ∙ c.in-Root.is in
    let q = sym c.same-in-Root.ensures ∙ c.if-same-3.true in
    record { number = simp (e, q); changed = simp (e, q); state = simp (e, q); table = simp (e, q) (sym (same-ids _)); medium = simp (e, q) }

pub root-requires : goal.root-requires
root-requires c = root-lt _ _ (sym c.place_of.ensures ∙ c.in-Root.is)

pub cluster-requires : goal.cluster-requires
cluster-requires c = let q = data-lt _ _ _ (sym c.place_of.ensures ∙ c.in-Data.is) in (c.requires, q.0, q.1)

pub returns-in_ok-boot-in-Boot : goal.returns-in_ok-boot-in-Boot
unfolding classify at_place unless_shown boot
returns-in_ok-boot-in-Boot c =
    let e = sym c.place_of.ensures ∙ c.in-Boot.is in
    let q = sym c.same.ensures ∙ c.if-same.false in
    let n = c.in_ok-boot-in-Boot.ensures in
    let s = passes (boot_passes c.args.sectors.shown.now c.args.sectors.written.now) _ (λ z. omega arith) n.number in
    record {
      number = simp (e, q, s);
      changed = simp (e, q, s);
      state = simp (e, q, s) (rw s at n.state);
      table = simp (e, q, s) (sym (same-ids _));
      medium = simp (e, q, s);
    }

pub returns-in_ok-fat-in-Fat : goal.returns-in_ok-fat-in-Fat
unfolding classify at_place unless_shown fat
returns-in_ok-fat-in-Fat c =
    let e = sym c.place_of.ensures ∙ c.in-Fat.is in
    let q = sym c.same-in-Fat.ensures ∙ c.if-same-2.false in
    let n = c.in_ok-fat-in-Fat.ensures in
    record {
      number = simp (e, q) n.number;
      changed = simp (e, q) (ap (λ k. eqb k 0) n.number);
      state = simp (e, q) n.state;
      table = simp (e, q) n.table;
      medium = simp (e, q);
    }

pub returns-else-same-3 : goal.returns-else-same-3
unfolding classify at_place unless_shown root
returns-else-same-3 c =
    let e = sym c.place_of.ensures ∙ c.in-Root.is in
    let q = sym c.same-in-Root.ensures ∙ c.if-same-3.false in
    let b = c.root.ensures in
    record { number = simp (e, q) b.number; changed = simp (e, q) b.changed; state = simp (e, q) b.state; table = simp (e, q) (sym (same-ids _)); medium = simp (e, q) }

pub returns-in-Data : goal.returns-in-Data
unfolding classify at_place
returns-in-Data c =
    let e = sym c.place_of.ensures ∙ c.in-Data.is in
    let b = c.cluster.ensures in
    let p = cluster-place _ _ _ _ _ _ _ _ _ _ _ _ _ _ _ in
    record {
      number = simp e (b.number ∙ ap (λ (o : Outcome). o.number) p);
      changed = simp e (b.changed ∙ ap (λ (o : Outcome). o.changed) p);
      state = simp e (b.state ∙ ap (λ (o : Outcome). o.w) p);
      table = simp e (b.table ∙ ap (λ (o : Outcome). with_ids c.args.files.now o.ids) p);
      medium = simp e (b.medium ∙ ap (λ (o : Outcome). o.area) p);
    }

pub returns-in-Outside : goal.returns-in-Outside
unfolding classify at_place
returns-in-Outside c =
    let e = sym c.place_of.ensures ∙ c.in-Outside.is in
    record { number = simp e; changed = simp e; state = simp e; table = simp e (sym (same-ids _)); medium = simp e }
