use Rattle.std.proofs.Common.{ℕ, ◌≡◌, ◌+◌, ◌*◌, ◌<◌, ap, ◌∙◌, get_or, arith}
use Rattle.std.proofs.Math.ListN.{get_or-eq_default}
use Rattle.wire.specs.Payload.{place_of}
use Rattle.edging.specs.Edges.{edges_start, edges_short, edges_half, edges_order, edges_over, edges_again, edges_good, edges_end, edges_refused}
use Rattle.edging.proofs.edges.read_edges.Goals.{then-b-a-via-then-b-a, then-b-a-via-else-b-a+then-b-n, then-b-a-via-else-b-a+else-b-n+then-key-least}
use Rattle.edging.proofs.edges.read_edges.Goals as goal

pub loop-k-init : goal.loop-k-init
loop-k-init c = let z : c.args.from ≡ c.args.from + 0 * 2 = omega arith in (λ h. let f = c.requires.1 h in omega (arith, f, c.type_inv.payload), edges_start _ _ _ _ _ _)

pub returns-then-behind-file : goal.returns-then-behind-file
returns-then-behind-file c =
    let a = c.args in
    let o = c.loop-k in
    let p = c.places-behind in
    let more : o.k < a.e = omega arith in
    let pos : 0 < a.e = omega arith in
    let there : a.from + o.k * 2 + 1 < a.payload.now.len = omega arith in
    let x = ap (λ (i : ℕ). get_or a.payload.now.file.now i 0) (o.invariant.0 pos) in
    let y = ap (λ (i : ℕ). get_or a.payload.now.file.now i 0) (p.ensures.second (a.from + o.k * 2) (o.invariant.0 pos)) in
    edges_refused _ _ _ _ _ _ _ _ (edges_order _ _ _ _ _ _ _ _ _ o.invariant.1 more _ _ x y there (omega (arith, get_or-eq_default a.payload.now.file.now 0 {n = p.result.behind} c.if-behind-file.true)))

pub returns-then-b-a : goal.returns-then-b-a
returns-then-b-a c =
    let a = c.args in
    let o = c.loop-k in
    let p = c.places-behind in
    let more : o.k < a.e = omega arith in
    let pos : 0 < a.e = omega arith in
    let there : a.from + o.k * 2 + 1 < a.payload.now.len = omega arith in
    let x = ap (λ (i : ℕ). get_or a.payload.now.file.now i 0) (o.invariant.0 pos) in
    let y = ap (λ (i : ℕ). get_or a.payload.now.file.now i 0) (p.ensures.second (a.from + o.k * 2) (o.invariant.0 pos)) in
    edges_refused _ _ _ _ _ _ _ _ (elim c.then-b-a.branch [
      | then-b-a-via-then-b-a w ↦ edges_order _ _ _ _ _ _ _ _ _ o.invariant.1 more _ _ x y there w.if-b-a.true
      | then-b-a-via-else-b-a+then-b-n w ↦ edges_over _ _ _ _ _ _ _ _ _ o.invariant.1 more _ _ x y there w.if-b-a.false w.if-b-n.true
      | then-b-a-via-else-b-a+else-b-n+then-key-least w ↦ edges_again _ _ _ _ _ _ _ _ _ o.invariant.1 more _ _ x y there w.if-b-a.false w.if-b-n.false w.if-key-least.true
    ])

pub loop-k-preserved : goal.loop-k-preserved
loop-k-preserved c =
    let a = c.args in
    let o = c.loop-k in
    let p = c.places-behind in
    let more : o.k < a.e = omega arith in
    let pos : 0 < a.e = omega arith in
    let there : a.from + o.k * 2 + 1 < a.payload.now.len = omega arith in
    let x = ap (λ (i : ℕ). get_or a.payload.now.file.now i 0) (o.invariant.0 pos) in
    let y = ap (λ (i : ℕ). get_or a.payload.now.file.now i 0) (p.ensures.second (a.from + o.k * 2) (o.invariant.0 pos)) in
    let z : a.from + o.k * 2 + 2 ≡ a.from + (o.k + 1) * 2 = omega arith in (
      λ h. p.ensures.third (a.from + o.k * 2) (o.invariant.0 h) ∙ ap place_of z,
      rw c.add_edge.ensures (edges_good _ _ _ _ _ _ _ _ _ o.invariant.1 more _ _ x y there c.if-b-a.false c.if-b-n.false c.if-key-least.false),
    )

pub returns-then-whole-e : goal.returns-then-whole-e
returns-then-whole-e c =
    let o = c.loop-k in
    let e : o.k ≡ c.args.e = omega arith in
    edges_end _ _ _ _ _ _ _ _ (rw e at o.invariant.1) _ (omega arith)

pub returns-then-end-payload : goal.returns-then-end-payload
returns-then-end-payload c =
    let o = c.loop-k in
    let e : o.k ≡ c.min-whole.result = omega arith in
    edges_refused _ _ _ _ _ _ _ _ (edges_short _ _ _ _ _ _ _ _ _ (rw e at o.invariant.1) (omega arith) c.if-end-payload.true)

pub returns : goal.returns
returns c =
    let o = c.loop-k in
    let e : o.k ≡ c.min-whole.result = omega arith in
    edges_refused _ _ _ _ _ _ _ _ (edges_half _ _ _ _ _ _ _ _ _ (rw e at o.invariant.1) (omega arith) c.if-end-payload.false (omega arith))
