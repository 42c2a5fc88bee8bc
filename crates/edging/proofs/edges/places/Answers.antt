use native.Mathlib.Omega.{arith}
use Prim.Native.Nat.{ℕ, ◌+◌}
use mathlib.Core.Path.{◌≡◌, ap, ◌∙◌}
use Rattle.wire.specs.Payload.{place_of}
use Rattle.edging.proofs.edges.places.Goals as goal

pub returns : goal.returns
returns c =
    let p = c.next_place-behind.ensures in
    let q = c.next_place-next.ensures in
    record {
      after = p.0;
      second = p.2;
      third = λ (off : ℕ) e. let z : off + 1 + 1 ≡ off + 2 = omega arith in q.2 (off + 1) (p.2 off e) ∙ ap place_of z;
    }
