use Rattle.std.proofs.Common.{◌≡◌, ◌+◌, ◌-◌, ◌≤◌, sym, length, drop, length-take, length-take-le, length-drop, arith, rules}
use Rattle.judge.specs.Filling.{lined_small, lined_fits, filled_zone}
use Rattle.judge.proofs.ending.fill_zone.Goals as goal

pub slice_bounds-robots-end : goal.slice_bounds-robots-end
slice_bounds-robots-end g c =
    let a = c.args in
    let l = c.line_up-n in
    let x : l.result ≤ 128 = lined_small a.map.now.first a.map.now.size a.map.now.listed a.z.0 c.requires.0 a.state.now l.result _ l.new.line l.new.places c.listed_of.ensures l.ensures in
    search rules

pub overflow_add-a : goal.overflow_add-a
overflow_add-a g c =
    let a = c.args in
    let l = c.line_up-n in
    let row : length a.lists.now.cells ≡ g.row.L = search rules in
    let y : c.first_of-a.result + l.result ≤ g.row.L = omega (arith, c.first_of-a.ensures, row, lined_fits a.map.now.first a.map.now.size a.map.now.listed a.z.0 c.requires.0 a.state.now l.result _ l.new.line l.new.places c.listed_of.ensures l.ensures a.lists.now.cells c.requires.1) in
    search rules

pub slice_bounds-copy_from_slice-end : goal.slice_bounds-copy_from_slice-end
slice_bounds-copy_from_slice-end g c =
    let a = c.args in
    let l = c.line_up-n in
    let row : length a.lists.now.cells ≡ g.row.L = search rules in
    let y : c.first_of-a.result + l.result ≤ g.row.L = omega (arith, c.first_of-a.ensures, row, lined_fits a.map.now.first a.map.now.size a.map.now.listed a.z.0 c.requires.0 a.state.now l.result _ l.new.line l.new.places c.listed_of.ensures l.ensures a.lists.now.cells c.requires.1) in
    search rules

pub slice_bounds-copy_from_slice-end-2 : goal.slice_bounds-copy_from_slice-end-2
slice_bounds-copy_from_slice-end-2 g c =
    let a = c.args in
    let l = c.line_up-n in
    let x : l.result ≤ 128 = lined_small a.map.now.first a.map.now.size a.map.now.listed a.z.0 c.requires.0 a.state.now l.result _ l.new.line l.new.places c.listed_of.ensures l.ensures in
    let y : l.result ≤ length l.new.line = search rules in
    sym (length-take-le l.result l.new.line y)

pub copy_from_slice-requires : goal.copy_from_slice-requires
copy_from_slice-requires g c =
    let a = c.args in
    let l = c.line_up-n in
    let f = c.first_of-a.result in
    let x : l.result ≤ 128 = lined_small a.map.now.first a.map.now.size a.map.now.listed a.z.0 c.requires.0 a.state.now l.result _ l.new.line l.new.places c.listed_of.ensures l.ensures in
    let y : l.result ≤ length l.new.line = search rules in
    let z = lined_fits a.map.now.first a.map.now.size a.map.now.listed a.z.0 c.requires.0 a.state.now l.result _ l.new.line l.new.places c.listed_of.ensures l.ensures a.lists.now.cells c.requires.1 in
    omega (arith, y, z, c.first_of-a.ensures, length-take (f + l.result - f) (drop f a.lists.now.cells), length-drop f a.lists.now.cells, length-take l.result l.new.line)

pub overflow_cast-lists : goal.overflow_cast-lists
overflow_cast-lists g c =
    let a = c.args in
    let l = c.line_up-n in
    let x : l.result ≤ 128 = lined_small a.map.now.first a.map.now.size a.map.now.listed a.z.0 c.requires.0 a.state.now l.result _ l.new.line l.new.places c.listed_of.ensures l.ensures in
    search rules

pub returns : goal.returns
returns g c =
    let a = c.args in
    let l = c.line_up-n in
    let x : l.result ≤ 128 = lined_small a.map.now.first a.map.now.size a.map.now.listed a.z.0 c.requires.0 a.state.now l.result _ l.new.line l.new.places c.listed_of.ensures l.ensures in
    let y : l.result ≤ length l.new.line = search rules in
    rw c.first_of-a.ensures (filled_zone a.map.now.first a.map.now.size a.map.now.listed a.z.0 c.requires.0 a.state.now l.result _ l.new.line l.new.places c.listed_of.ensures l.ensures a.lists.now.cells c.requires.1 y a.lists.now.counts c.copy_from_slice.new.self _ (omega arith) c.copy_from_slice.ensures.after)
