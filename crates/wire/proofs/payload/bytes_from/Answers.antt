use native.Mathlib.Omega.{arith}
use Prim.Native.Nat.{◌+◌}
use mathlib.Core.Path.{◌≡◌, ap, ◌∙◌}
use lib.ListN.{length-set}
use Rattle.wire.specs.Payload.{place_of, Near, near_read, copied_more}
use Rattle.wire.proofs.payload.bytes_from.Goals.{then-place-file, else-place-file}
use Rattle.wire.proofs.payload.bytes_from.Goals as goal

pub loop-byte-preserved : goal.loop-byte-preserved
loop-byte-preserved g c =
    let o = c.loop-byte in (
      simp length-set o.invariant.0,
      λ off e.
          let q = o.invariant.1 off e in
          let n : off + o.byte-index + 1 ≡ off + (o.byte-index + 1) = omega arith in
          let w : Near c.args.file.now c.if-place-file.place (off + (o.byte-index + 1)) =
          elim c.if-place-file.branch [
            | then-place-file w ↦
                let p = w.next_place-place.ensures.2 (off + o.byte-index) (q.0.0 w.if-place-file.true) in
                (λ h. w.place-is ∙ p ∙ ap place_of n, omega (arith, w.place-is, p))
            | else-place-file w ↦ (λ h. absurd (omega (arith, w.place-is, w.if-place-file.false, h)), omega (arith, w.place-is, q.0.1))
          ] in
          (w, copied_more c.args.file.now off o.byte-items o.byte-index _ (omega arith) (c.byte_at.ensures ∙ near_read c.args.file.now o.place (off + o.byte-index) q.0) q.1),
    )
