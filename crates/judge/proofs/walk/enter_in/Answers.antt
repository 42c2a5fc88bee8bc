use Rattle.std.proofs.Common.{◌≡◌, ◌∙◌, ap, ℕ, suc, ◌+◌, take, length, length-take-le, arith}
use Rattle.numbering.specs.Kind.{number_of}
use Rattle.walking.specs.Held.{held_part}
use Rattle.testing.specs.Steps.{extra_zero, extra_some}
use Rattle.configurations.specs.Entering.{filled}
use Rattle.judge.proofs.walk.enter_in.Goals as goal

pub enter_at-requires : goal.enter_at-requires
enter_at-requires c =
    let a = c.args in
    (c.requires.0, c.requires.3 c.if-e-eq0.true, extra_zero (number_of a.at.kind) a.at.size a.at.count a.e c.requires.1 c.if-e-eq0.true)

pub copy_list-requires : goal.copy_list-requires
copy_list-requires c =
    let a = c.args in
    let x = extra_some (number_of a.at.kind) a.at.size a.at.count a.e c.requires.1 c.if-e-eq0.false in
    omega (arith, x.1, x.2, c.requires.0, c.requires.2)

pub returns-else-e-eq0 : goal.returns-else-e-eq0
returns-else-e-eq0 c =
    λ behind h.
    let a = c.args in
    let x = extra_some (number_of a.at.kind) a.at.size a.at.count a.e c.requires.1 c.if-e-eq0.false in
    let q : length (take a.at.count a.part.now) ≡ a.at.count = length-take-le a.at.count a.part.now (omega (arith, c.requires.0)) in
    let n : length a.part.now ≡ a.e = omega (arith, x.1, x.2, c.requires.0) in
    c.copy_list.ensures (a.from + a.e) c.requires.2 (omega (arith, n)) ∙ ap (λ (k : ℕ). held_part a.file.now (a.from + a.e) a.from k) n
    ∙ filled (number_of a.at.kind) a.at.size (take a.at.count a.part.now) a.r.0 a.at.place behind (held_part a.file.now (a.from + a.e) a.from a.e) x.0 (ap suc q ∙ x.1)
