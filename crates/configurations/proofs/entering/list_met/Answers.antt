use Rattle.std.proofs.Common.{◌≡◌, ◌∙◌, ◌-◌, ℕ, length, take, ap, arith}
use Rattle.configurations.specs.Entering.{list_other, list_rest}
use Rattle.configurations.proofs.entering.list_met.Goals as goal

pub returns-then-follow-j : goal.returns-then-follow-j
returns-then-follow-j c =
    let a = c.args in
    list_other a.list.now a.r a.j a.follow.now c.if-follow-j.true

pub returns : goal.returns
returns c =
    let a = c.args in
    let n : length a.list.now ≡ length a.follow.now - 1 = omega (arith, c.requires) in
    c.same_members.ensures ∙ list_rest a.list.now a.r a.j a.follow.now _ c.if-follow-j.false (ap (λ (k : ℕ). take k c.remove.new.part) n ∙ c.remove.ensures.1)
