use Rattle.std.proofs.Common.{◌≡◌, map, ap, sym, arith, rules, tests}
use Rattle.std.proofs.lemmas.List.{length-map, map-append}
use Rattle.std.proofs.lemmas.Iterator.Consumers.{YieldsList-from_first, YieldsList-turn, YieldsList-end}
use Rattle.spec.specs.State.{arrangement_of}
use Rattle.theory.specs.Zones.Arrangements.{order_short}
use Rattle.motion.specs.States.{robot_no}
use Rattle.motion.specs.Across.{arrangement_length}
use Rattle.reaching.specs.Row.{row_of, robots_left, counted_none, counted_before, counted_after}
use Rattle.reaching.proofs.reach.count_robots.Goals as goal
use Rattle.reaching.proofs.reach.count_robots.Goals.{then-lower-all+then-ne, else-lower-all, else-lower-all-via-then-lower-all+else-ne, else-lower-all-via-else-lower-all}

pub loop-r-init : goal.loop-r-init
loop-r-init g c = (tt, tt, counted_none c.args.named.0)

pub overflow_add-lower : goal.overflow_add-lower
overflow_add-lower g c =
    let o = c.loop-r in
    let s = c.args.state.now in
    let z = c.args.zone.now in
    let t = YieldsList-turn (YieldsList-from_first robot_no robots_left (row_of s z) (ap robots_left c.into_iter-r-iterator.ensures.into_iter_gives)) o.yielded o.r-iterator o.yielded_by _ c.next.new.self c.in-Some.r c.in-Some.is c.next.ensures.steps in
    omega (arith, t.0, o.invariant.2.count, length-map o.yielded robot_no, order_short (arrangement_of s z), arrangement_length s z)

pub overflow_add-all : goal.overflow_add-all
overflow_add-all g c =
    let o = c.loop-r in
    let s = c.args.state.now in
    let z = c.args.zone.now in
    let t = YieldsList-turn (YieldsList-from_first robot_no robots_left (row_of s z) (ap robots_left c.into_iter-r-iterator.ensures.into_iter_gives)) o.yielded o.r-iterator o.yielded_by _ c.next.new.self c.in-Some.r c.in-Some.is c.next.ensures.steps in
    omega (arith, t.0, o.invariant.2.count, length-map o.yielded robot_no, order_short (arrangement_of s z), arrangement_length s z)

pub loop-r-preserved : goal.loop-r-preserved
loop-r-preserved g c =
    let o = c.loop-r in
    let rs = map robot_no o.yielded in
    elim c.if-lower-all.branch [
      | then-lower-all+then-ne w ↦
          (tt, tt, rw (w.lower-is, map-append) (counted_before rs c.args.named.0 c.in-Some.r.0 o.lower o.all o.invariant.2 w.if-lower-all.true (search (rules, tests))))
      | else-lower-all w ↦
          let met : o.lower ≡ o.all → c.in-Some.r.0 ≡ c.args.named.0 =
          elim w.else-lower-all.branch [
            | else-lower-all-via-then-lower-all+else-ne v ↦ λ e. search (rules, tests)
            | else-lower-all-via-else-lower-all v ↦ λ e. absurd (v.if-lower-all.false e)
          ] in
          (tt, tt, rw (w.lower-is, map-append) (counted_after rs c.args.named.0 c.in-Some.r.0 o.lower o.all o.invariant.2 met))
    ]

pub returns : goal.returns
returns g c =
    let o = c.loop-r in
    let s = c.args.state.now in
    let z = c.args.zone.now in
    let e = YieldsList-end (YieldsList-from_first robot_no robots_left (row_of s z) (ap robots_left c.into_iter-r-iterator.ensures.into_iter_gives)) o.yielded o.r-iterator o.yielded_by _ c.next.new.self c.in-None.is c.next.ensures.steps in
    rw (sym e.0) o.invariant.2
