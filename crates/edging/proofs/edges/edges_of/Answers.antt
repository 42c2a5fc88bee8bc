use Rattle.std.proofs.Common.{sym, ◌∙◌, arith}
use Rattle.std.proofs.lemmas.Result.{err_from_is_err_and}
use Rattle.zoning.specs.Bytes.{counted, none_given, some_given}
use Rattle.edging.specs.Edges.{counted_there, uncovered, count_cut, edges_many, edges_fault, edges_surplus, edges_whole}
use Rattle.edging.proofs.edges.edges_of.Goals as goal

pub returns-then-uncovered : goal.returns-then-uncovered
returns-then-uncovered c = uncovered _ _ _ _ _ _ _ c.if-uncovered.true

pub returns-in_err-e : goal.returns-in_err-e
returns-in_err-e c =
    let p = err_from_is_err_and c.from_residual.result c.from_residual.ensures.1 in
    let w = none_given c.word.result _ _ c.in_err-e.ensures.value in
    rw (p.1, p.2, w.1) (count_cut _ _ _ _ _ _ _ c.if-uncovered.false (sym c.word.ensures.value ∙ w.0))

pub returns-then-e-gt2048 : goal.returns-then-e-gt2048
returns-then-e-gt2048 c =
    let k = counted _ _ _ _ (sym c.word.ensures.value ∙ some_given c.word.result _ _ c.in_ok-e.ensures.value) in
    edges_many _ _ _ _ _ _ _ c.if-uncovered.false k.0 (rw k.1 at c.if-e-gt2048.true)

pub read_edges-requires : goal.read_edges-requires
read_edges-requires c =
    let k = counted _ _ _ _ (sym c.word.ensures.value ∙ some_given c.word.result _ _ c.in_ok-e.ensures.value) in
    (omega arith, λ h. let t = counted_there c.args.payload.now.file.now c.args.o (rw k.1 at h) in omega arith)

pub returns-in_err-end : goal.returns-in_err-end
returns-in_err-end c =
    let p = err_from_is_err_and c.from_residual-in_err-end.result c.from_residual-in_err-end.ensures.1 in
    let k = counted _ _ _ _ (sym c.word.ensures.value ∙ some_given c.word.result _ _ c.in_ok-e.ensures.value) in
    rw (p.1, p.2) (edges_fault _ _ _ _ _ _ _ c.if-uncovered.false k.0 (rw k.1 at c.if-e-gt2048.false) _ (rw k.1 at c.in_err-end.ensures))

pub returns-then-end-len : goal.returns-then-end-len
returns-then-end-len c =
    let k = counted _ _ _ _ (sym c.word.ensures.value ∙ some_given c.word.result _ _ c.in_ok-e.ensures.value) in
    (edges_surplus _ _ _ _ _ _ _ c.if-uncovered.false k.0 (rw k.1 at c.if-e-gt2048.false) _ (rw k.1 at c.in_ok-end.ensures) c.if-end-len.true)

pub returns : goal.returns
returns c =
    let k = counted _ _ _ _ (sym c.word.ensures.value ∙ some_given c.word.result _ _ c.in_ok-e.ensures.value) in
    edges_whole _ _ _ _ _ _ _ c.if-uncovered.false k.0 (rw k.1 at c.if-e-gt2048.false) _ (rw k.1 at c.in_ok-end.ensures) c.if-end-len.false
