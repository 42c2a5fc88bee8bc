use native.Mathlib.Omega.{arith}
use mathlib.Core.Path.{◌≡◌, ◌∙◌}
use Prim.Native.Nat.{ℕ, ◌+◌}
use Rattle.numbering.specs.Kind.{number_of}
use Rattle.walking.specs.Held.{held_part}
use Rattle.std.proofs.lemmas.Option.{MatchOption-at_some, MatchOption-at_none}
use Rattle.std.proofs.lemmas.Result.{err_from_is_err_and}
use Rattle.testing.specs.declared.StepFault.TheVariants as step
use Rattle.testing.specs.Steps.{extra_zero, extra_some, entry_none, entry_cut, entry_off, entry_on_lem, entry_fills}
use Rattle.testing.proofs.steps.test_entry.Goals as goal

pub returns-then-at : goal.returns-then-at
returns-then-at c =
    let a = c.args in
    entry_none a.p.file.now a.p.len a.o (number_of a.at.kind) a.at.count a.inside.now a.at.size a.r.0 a.at.place a.behind a.p.inside c.requires.0 c.requires.1 c.if-at.true

pub returns-then-short : goal.returns-then-short
returns-then-short c =
    let a = c.args in
    entry_cut a.p.file.now a.p.len a.o (number_of a.at.kind) a.at.count a.inside.now a.at.size a.r.0 a.at.place a.behind a.p.inside c.requires.0 c.requires.1 c.if-at.false _ c.list_length-list.ensures (omega (arith, c.if-short.true, c.requires))

pub entry_at-requires : goal.entry_at-requires
entry_at-requires c =
    let a = c.args in
    (omega (arith, c.requires, c.if-at.false, a.at.fits), rw c.requires.1 (extra_zero (number_of a.at.kind) a.at.size a.at.count _ c.list_length-list.ensures c.if-list-eq0.true))

pub returns-in_err-into : goal.returns-in_err-into
returns-in_err-into c =
    let a = c.args in
    let p = err_from_is_err_and c.from_residual.result c.from_residual.ensures.1 in
    let e : c.in_err-into.field-0.0 ≡ step.Enter = grind arith in
    rw (p.1, p.2, e) (entry_off a.p.file.now a.p.len a.o (number_of a.at.kind) a.at.count a.inside.now a.at.size a.r.0 a.at.place a.behind a.p.inside c.requires.0 c.requires.1 c.if-at.false _ c.list_length-list.ensures (omega (arith, c.if-short.false, c.requires)) a.at.inside (MatchOption-at_none _ _ c.in_err-into.ensures.ok_part (c.entry_at.ensures a.r.0 (held_part a.p.file.now a.p.len (a.o + 4) c.list_length-list.result))))

pub returns-then-list-eq0 : goal.returns-then-list-eq0
returns-then-list-eq0 c =
    let a = c.args in
    let t = MatchOption-at_some _ _ c.in_ok-into.into c.in_ok-into.ensures.ok_part (c.entry_at.ensures a.r.0 (held_part a.p.file.now a.p.len (a.o + 4) c.list_length-list.result)) in
    record { tests = entry_on_lem a.p.file.now a.p.len a.o (number_of a.at.kind) a.at.count a.inside.now a.at.size a.r.0 a.at.place a.behind a.p.inside c.requires.0 c.requires.1 c.if-at.false _ c.list_length-list.ensures (omega (arith, c.if-short.false, c.requires)) a.at.inside t.0; index = λ z. (omega (arith, t.1, c.requires.1), t.2) }

pub can_fill-requires : goal.can_fill-requires
can_fill-requires c =
    let a = c.args in
    let x = extra_some (number_of a.at.kind) a.at.size a.at.count _ c.list_length-list.ensures c.if-list-eq0.false in
    (omega (arith, x.1, c.requires.1), c.requires.2, omega (arith, x.2, c.if-short.false, a.p.inside))

pub returns-then-can_fill : goal.returns-then-can_fill
returns-then-can_fill c =
    let a = c.args in
    let e : ℕ = c.list_length-list.result in
    let x = extra_some (number_of a.at.kind) a.at.size a.at.count e c.list_length-list.ensures c.if-list-eq0.false in
    record {
      tests = entry_on_lem a.p.file.now a.p.len a.o (number_of a.at.kind) a.at.count a.inside.now a.at.size a.r.0 a.at.place a.behind a.p.inside c.requires.0 c.requires.1 c.if-at.false _ c.list_length-list.ensures (omega (arith, c.if-short.false, c.requires)) a.at.inside
          (entry_fills a.p.file.now a.p.len a.o (number_of a.at.kind) a.at.count a.inside.now a.at.size a.r.0 a.at.place a.behind a.p.inside c.requires.0 c.requires.1 c.if-at.false _ c.list_length-list.ensures (omega (arith, c.if-short.false, c.requires)) a.at.inside c.if-list-eq0.false _ (c.can_fill.ensures a.p.len a.p.inside (omega (arith, x.2, c.if-short.false)))
          ∙ c.if-can_fill.true);
      index = λ z. absurd (c.if-list-eq0.false z);
    }

pub returns : goal.returns
returns c =
    let a = c.args in
    let e : ℕ = c.list_length-list.result in
    let x = extra_some (number_of a.at.kind) a.at.size a.at.count e c.list_length-list.ensures c.if-list-eq0.false in
    entry_off a.p.file.now a.p.len a.o (number_of a.at.kind) a.at.count a.inside.now a.at.size a.r.0 a.at.place a.behind a.p.inside c.requires.0 c.requires.1 c.if-at.false _ c.list_length-list.ensures (omega (arith, c.if-short.false, c.requires)) a.at.inside
    (entry_fills a.p.file.now a.p.len a.o (number_of a.at.kind) a.at.count a.inside.now a.at.size a.r.0 a.at.place a.behind a.p.inside c.requires.0 c.requires.1 c.if-at.false _ c.list_length-list.ensures (omega (arith, c.if-short.false, c.requires)) a.at.inside c.if-list-eq0.false _ (c.can_fill.ensures a.p.len a.p.inside (omega (arith, x.2, c.if-short.false)))
    ∙ c.if-can_fill.false)
