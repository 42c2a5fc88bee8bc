-- Lists in a row of cells that is longer than the map's listing: what stands behind them is not read.
use Rattle.std.specs.Prelude.{◌≡◌, ℕ, ◌+◌, ◌<◌, ◌≤◌, List, ◌++◌, length, get_or, take, drop}
use Rattle.std.proofs.Common.{ap, ◌∙◌, arith, length-drop}
use Rattle.std.proofs.lemmas.List.{take-append-le, drop-append-le}
use Rattle.spec.specs.Layout.{Map}
use Rattle.spec.specs.State.{State}
use Rattle.spec.specs.Terms.{zone_count}
use Rattle.testing.specs.Held.{list_in, Held}

-- a zone's list
pub list_more : (first counts cells rest : List ℕ) (z : ℕ) → get_or first z 0 + get_or counts z 0 ≤ length cells
    → list_in first counts (cells ++ rest) z ≡ list_in first counts cells z
list_more first counts cells rest z h =
    ap (take (get_or counts z 0)) (drop-append-le (get_or first z 0) cells rest (omega arith))
    ∙ take-append-le (get_or counts z 0) (drop (get_or first z 0) cells) rest (omega (arith, length-drop (get_or first z 0) cells))

-- and all lists
pub held_more : (m : Map) (first counts cells rest : List ℕ) (s : State) → ((z : ℕ) → z < zone_count m → get_or first z 0 + get_or counts z 0 ≤ length cells)
    → Held m first counts cells s → Held m first counts (cells ++ rest) s
held_more m first counts cells rest s f h = record { stands = λ z q. rw (list_more first counts cells rest z (f z q)) (h.stands z q); few = h.few }
