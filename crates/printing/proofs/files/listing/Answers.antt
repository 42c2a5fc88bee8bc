use Rattle.std.proofs.Common.{arith, sym, length-take-le}
use Rattle.lines.specs.Text.{put_as}
use Rattle.printing.specs.Listed.{listed_refused, listed_size, listed_few, listed_moves_lem}
use Rattle.printing.proofs.files.listing.Goals as goal

pub returns-then-number-ne0 : goal.returns-then-number-ne0
returns-then-number-ne0 c =
    record { put = put_as (sym (listed_refused _ _ _ _ c.galzpuna_resolve-number.ensures c.if-number-ne0.true)) c.put_refusal.ensures.put; upper_bound = c.put_refusal.ensures.upper_bound }

pub slice_bounds-moves-end : goal.slice_bounds-moves-end
slice_bounds-moves-end c = let l = listed_size _ _ _ (λ i. omega (arith, c.type_inv.plan i)) _ c.galzpuna_resolve-number.ensures c.if-number-ne0.false in omega arith

pub slice_bounds-galzpuna_rounds-end : goal.slice_bounds-galzpuna_rounds-end
slice_bounds-galzpuna_rounds-end c = let l = listed_size _ _ _ (λ i. omega (arith, c.type_inv.plan i)) _ c.galzpuna_resolve-number.ensures c.if-number-ne0.false in sym (length-take-le _ _ (omega arith))

pub put_moves-requires : goal.put_moves-requires
put_moves-requires c = listed_few _ _ _ (λ i. omega (arith, c.type_inv.plan i)) _ c.galzpuna_resolve-number.ensures c.if-number-ne0.false _ c.galzpuna_rounds.ensures _ c.payload_word-count.ensures.0

pub returns : goal.returns
returns c = record { put = put_as (listed_moves_lem _ _ _ (λ i. omega (arith, c.type_inv.plan i)) _ c.galzpuna_resolve-number.ensures c.if-number-ne0.false _ c.galzpuna_rounds.ensures _ c.payload_word-count.ensures.0) c.put_moves.ensures.put; upper_bound = c.put_moves.ensures.upper_bound }
