use Rattle.std.proofs.Common.{◌≡◌, ℕ, ◌+◌, ◌-◌, set, drop, ap, sym, ◌∙◌, arith, rules, length-set}
use Rattle.spec.specs.Arrangement.{seek}
use Rattle.tabling.specs.Table.{table_start, table_earlier}
use Rattle.tabling.proofs.table.Table.of.Goals as goal

pub loop-k-init : goal.loop-k-init
loop-k-init c = record { long = search rules; table = table_start c.args.cells.now }

pub loop-k-preserved : goal.loop-k-preserved
loop-k-preserved c =
    let a = c.args.cells.now in
    let o = c.loop-k in
    let d : o.k - 1 + 1 ≡ o.k = omega arith in
    record {
      long = length-set o.places c.from.result (o.k - 1) ∙ o.invariant.long;
      table = table_earlier a o.places _ (o.k - 1) (omega arith) o.invariant.long (λ x h. o.invariant.table x h ∙ ap (λ (i : ℕ). i + seek x (drop i a)) (sym d)) (ap (λ (y : ℕ). set o.places y (o.k - 1)) c.from.ensures);
    }

pub returns : goal.returns
returns c =
    let o = c.loop-k in
    let e : o.k ≡ 0 = omega arith in
    (o.invariant.long, λ x h. o.invariant.table x h ∙ ap (λ (i : ℕ). i + seek x (drop i c.args.cells.now)) e ∙ omega arith)
