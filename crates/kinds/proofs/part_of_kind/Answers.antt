-- `part_of_kind`: no kind, a part past the listing, and the kind of the part's own vertices.
use native.Mathlib.Omega.{arith}
use Prim.Native.Nat.{ℕ, ◌+◌, ◌-◌, ◌≤◌}
use mathlib.Core.List.{List}
use mathlib.Core.Path.{◌≡◌, ap, sym, ◌∙◌}
use lib.ListN.{length, take, drop}
use Rattle.std.proofs.Common.{inl, inr, take-take}
use Rattle.adjacency.specs.Rows.{lt_or_ge}
use Rattle.numbering.specs.Kind.{number_of, number_low, number_high}
use Rattle.numbering.specs.declared.ZoneKind.TheVariants.{Stack, Hall, Clique, Ring}
use Rattle.kinds.specs.Shape.{part}
use Rattle.kinds.specs.Tests.{test_of}
use Rattle.kinds.specs.Listed.{kind_test, kind_outside, kind_none, part_is}
use Rattle.kinds.proofs.part_of_kind.Goals as goal

pub returns-in_default : goal.returns-in_default
returns-in_default c =
    let e = c.in_default.ensures in
    elim (lt_or_ge 128 (c.args.first + c.args.size)) [
      | inl h ↦ kind_outside _ _ _ _ _ _ _ h
      | inr h ↦ kind_none _ _ _ _ _ _ _ h (λ q. e.1 Stack (sym q)) (λ q. e.1 Hall (sym q)) (λ q. e.1 Clique (sym q)) (λ q. e.1 Ring (sym q))
    ]

pub returns-in_default-get : goal.returns-in_default-get
returns-in_default-get c = elim c.in_default-get.ensures.lookup.0 [ inl h ↦ kind_outside _ _ _ _ _ _ _ (omega (arith, h, c.told-listed)) | inr h ↦ absurd (omega (arith, h)) ]

pub returns-in_default-get-2 : goal.returns-in_default-get-2
returns-in_default-get-2 c =
    elim c.in_default-get-2.ensures.lookup.0 [
      | inl h ↦ absurd (omega (arith, h))
      | inr h ↦ kind_outside _ _ _ _ _ _ _ (omega (arith, h, c.told-listed, c.in-Some.ensures.lookup.0.3))
    ]

pub returns : goal.returns
returns c =
    let e = c.in-Some-get.ensures.lookup.0 in
    let f = c.in-Some.ensures.lookup.0 in
    let a = c.args in
    let l : a.first + a.size ≤ length a.listed.now = omega (arith, e.1, f.3) in
    let w : a.size - 0 ≡ a.size = omega arith in
    let s : c.in-Some-get.vertices.now ≡ part a.listed.now a.first a.size =
    e.2 ∙ ap (λ (n : ℕ). take n c.in-Some.rest.now) w ∙ ap (take a.size) f.2 ∙ take-take a.size (length a.listed.now - a.first) (drop a.first a.listed.now) (omega (arith, l)) in
    c.of_kind.ensures ∙ ap (λ (x : List ℕ). test_of a.rows.now x a.zone.now a.z.0 (number_of c.in-Ok.kind)) s
    ∙ part_is a.rows.now a.listed.now a.zone.now a.z.0 a.first a.size l (number_of c.in-Ok.kind) (number_low c.in-Ok.kind) (number_high c.in-Ok.kind) (omega (arith, l, c.told-listed))
    ∙ ap (λ (k : ℕ). kind_test a.rows.now a.listed.now a.zone.now a.z.0 k a.first a.size) c.in-Ok.ensures
