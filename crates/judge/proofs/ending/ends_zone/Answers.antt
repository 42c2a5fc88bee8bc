use borrow.Author.Rules.{rules}
use mathlib.Core.Path.{sym}
use Prim.Native.Nat.{◌≤◌}
use lib.ListN.{length}
use lib.Seq.{length-take-le}
use Rattle.judge.specs.Filling.{lined_small}
use Rattle.judge.proofs.ending.ends_zone.Goals as goal

pub slice_bounds-robots-end : goal.slice_bounds-robots-end
slice_bounds-robots-end g c =
    let a = c.args in
    let l = c.line_up-n in
    let x : l.result ≤ 128 = lined_small a.map.now.first a.map.now.size a.map.now.listed a.z.0 c.requires.0 a.goals.now l.result _ l.new.line l.new.places c.listed_of.ensures l.ensures in
    search rules

pub slice_bounds-can_end-end : goal.slice_bounds-can_end-end
slice_bounds-can_end-end g c =
    let a = c.args in
    let l = c.line_up-n in
    let x : l.result ≤ 128 = lined_small a.map.now.first a.map.now.size a.map.now.listed a.z.0 c.requires.0 a.goals.now l.result _ l.new.line l.new.places c.listed_of.ensures l.ensures in
    let y : l.result ≤ length l.new.line = search rules in
    sym (length-take-le l.result l.new.line y)
