use Rattle.std.proofs.Common.{◌≡◌, ℕ, ◌+◌, ◌-◌, ◌<◌, ◌≤◌, ◌∷◌, length, min, sym, ap, refl, ◌∙◌, arith}
use Rattle.spec.specs.Arrangement.{mv, seek, cell}
use Rattle.spec.specs.Clique.{open_target, clique_to}
use Rattle.motion.specs.World.{world}
use Rattle.motion.specs.Across.{made_more, made_nothing}
use Rattle.theory.specs.Basics.Searches.{seek_le}
use Rattle.cells.specs.Cells.{found_or_size}
use Rattle.tabling.specs.Table.{tabled_at, tabled_moved, seek_empty}
use Rattle.arranging.specs.Toward.{next_target, next_room, to_rest, to_none}
use Rattle.arranging.proofs.toward.go_toward.Goals as goal
use Rattle.arranging.proofs.toward.go_toward.Goals.{in-Some, in_default+else-x-eq0}

pub returns-then-x-eq0 : goal.returns-then-x-eq0
returns-then-x-eq0 g c =
    let a = c.args in
    let o = c.loop in
    let g = a.goal.now in
    let q : ℕ = open_target o.cells g in
    let end : length o.cells ≤ q = omega (arith, o.invariant.search, c.in_default.ensures, c.requires.1, o.auto.cells) in
    made_nothing (world o.state o.count o.out) a.zone.now _ (to_rest _ o.cells g q c.lowest_off-x.result (omega arith) refl end c.lowest_off-x.ensures c.if-x-eq0.true)
    ∙ o.invariant.moves

pub go-from-requires : goal.go-from-requires
go-from-requires g c =
    let o = c.loop in
    let f = c.unwrap_or-j.ensures ∙ found_or_size (length o.cells) (seek 0 o.cells) c.first_empty.result c.first_empty.ensures in
    omega (arith, (seek_empty o.cells c.unwrap_or-j.result f).1, o.auto.cells, c.requires.0)

pub loop-preserved : goal.loop-preserved
loop-preserved g c =
    let a = c.args in
    let o = c.loop in
    let g = a.goal.now in
    let w = world o.state o.count o.out in
    let d : a.most - o.counter - 1 ≡ a.most - (o.counter + 1) = omega arith in
    elim c.match-open_target.branch [
      | in-Some u ↦
          let q = u.in-Some.q in
          let here : q ≡ open_target o.cells g = u.in-Some.ensures.1 ∙ sym o.invariant.search in
          let inside : q < length o.cells = omega (arith, u.in-Some.ensures, c.requires.1, o.auto.cells) in
          let x = cell g q in
          let i = u.go-i.result in
          let next = next_target o.cells g q x here inside (c.requires.1 ∙ sym o.auto.cells) refl in
          let t = u.go-i.ensures in
          let e = u.go-count.ensures.cells_after in
          let s = tabled_at o.table o.cells x i o.invariant.table next.somebody t.2 t.0 in
          rw
          (u.state-is, u.cells-is, u.out-is, u.table-is, u.count-is, u.from-is)
          (record {
            search = next.on i u.min-from.result _ s u.min-from.ensures e;
            table = tabled_moved o.table _ o.cells _ x i q o.invariant.table next.somebody t.2 s next.empty next.inside t.1 e;
            moves = made_more w _ a.zone.now (mv (x - 1) i q) _ _ u.go-count.ensures.out_after
                (next.move (a.most - o.counter) i _ (omega arith) s e ∙ ap (λ (k : ℕ). mv (x - 1) i q ∷ clique_to k u.go-count.new.cells g) d)
                ∙ o.invariant.moves;
          })
      | in_default+else-x-eq0 u ↦
          let q : ℕ = open_target o.cells g in
          let end : length o.cells ≤ q = omega (arith, o.invariant.search, u.in_default.ensures, c.requires.1, o.auto.cells) in
          let x = u.lowest_off-x.result in
          let j = u.unwrap_or-j.result in
          let f = u.unwrap_or-j.ensures ∙ found_or_size (length o.cells) (seek 0 o.cells) u.first_empty.result u.first_empty.ensures in
          let i = u.go-from.result in
          let next = next_room o.cells g q x j refl end u.lowest_off-x.ensures u.if-x-eq0.false f in
          let t = u.go-from.ensures in
          let e = u.go-count-in_default.ensures.cells_after in
          let s = tabled_at o.table o.cells x i o.invariant.table next.somebody t.2 t.0 in
          let m : u.go-from.result ≡ min i (q + 1) = omega (arith, s, seek_le x o.cells, end) in
          rw
          (u.state-is, u.cells-is, u.out-is, u.table-is, u.count-is, u.from-is)
          (record {
            search = next.on i i _ s m e;
            table = tabled_moved o.table _ o.cells _ x i j o.invariant.table next.somebody t.2 s next.empty next.inside t.1 e;
            moves = made_more w _ a.zone.now (mv (x - 1) i j) _ _ u.go-count-in_default.ensures.out_after
                (next.move (a.most - o.counter) i _ (omega arith) s e ∙ ap (λ (k : ℕ). mv (x - 1) i j ∷ clique_to k u.go-count-in_default.new.cells g) d)
                ∙ o.invariant.moves;
          })
    ]

pub returns : goal.returns
returns g c =
    let o = c.loop in
    made_nothing (world o.state o.count o.out) c.args.zone.now _ (to_none _ o.cells c.args.goal.now (omega arith)) ∙ o.invariant.moves
