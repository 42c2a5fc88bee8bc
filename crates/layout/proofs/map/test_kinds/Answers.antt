use Rattle.std.proofs.Common.{◌≡◌, ℕ, ◌<◌, ◌+◌, ◌-◌, refl, ap₂, sym, ◌∙◌, arith, rules, length, get_or}
use Rattle.std.proofs.Math.ListN.{get_or-map}
use Rattle.std.proofs.lemmas.List.{length-map}
use mathlib.Core.List.{map}
use Rattle.theory.specs.Basics.Lists.{get_d_default}
use Rattle.numbering.specs.Kind.{number_of}
use Rattle.numbering.specs.declared.ZoneKind.TheVariants.{Stack}
use Rattle.kinds.specs.Tests.{test_of}
use Rattle.kinds.specs.Shape.{part}
use Rattle.layout.specs.Kinds.{kinds_bad, kinds_good, kinds_all}
use Rattle.layout.proofs.map.test_kinds.Goals as goal

pub loop-i-init : goal.loop-i-init
loop-i-init c = λ m r. refl

pub returns-then-not-of_kind : goal.returns-then-not-of_kind
returns-then-not-of_kind c = λ m r.
    let o = c.loop-i in
    let zs = c.args.zones.now in
    let l : o.i < length zs.kind = search rules in
    let e : get_or (map number_of zs.kind) o.i 0 ≡ number_of (get_or zs.kind o.i Stack) = get_d_default (map number_of zs.kind) o.i 0 _ (omega (arith, length-map zs.kind number_of)) ∙ get_or-map number_of zs.kind o.i Stack in
    let t : get_or zs.first o.i 0 + get_or zs.size o.i 0 - get_or zs.first o.i 0 ≡ get_or zs.size o.i 0 = omega arith in
    o.invariant m r ∙ kinds_bad _ m _ _ _ _ o.i r c.loop-i-test.true (ap₂ (λ (n k : ℕ). test_of c.args.rows.now (part zs.listed (get_or zs.first o.i 0) n) zs.zone o.i k) (sym t) e ∙ sym c.of_kind.ensures ∙ c.if-not-of_kind.true)

pub loop-i-preserved : goal.loop-i-preserved
loop-i-preserved c = λ m r.
    let o = c.loop-i in
    let zs = c.args.zones.now in
    let l : o.i < length zs.kind = search rules in
    let e : get_or (map number_of zs.kind) o.i 0 ≡ number_of (get_or zs.kind o.i Stack) = get_d_default (map number_of zs.kind) o.i 0 _ (omega (arith, length-map zs.kind number_of)) ∙ get_or-map number_of zs.kind o.i Stack in
    let t : get_or zs.first o.i 0 + get_or zs.size o.i 0 - get_or zs.first o.i 0 ≡ get_or zs.size o.i 0 = omega arith in
    o.invariant m r ∙ kinds_good _ m _ _ _ _ o.i r c.loop-i-test.true (ap₂ (λ (n k : ℕ). test_of c.args.rows.now (part zs.listed (get_or zs.first o.i 0) n) zs.zone o.i k) (sym t) e ∙ sym c.of_kind.ensures ∙ c.if-not-of_kind.false)

pub returns : goal.returns
returns c = λ m r.
    let o = c.loop-i in
    o.invariant m r ∙ kinds_all m _ _ _ o.i (omega arith)
