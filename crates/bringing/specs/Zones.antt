-- The moves to the goals of a zone that was looked up in the map's tables.
use Rattle.std.specs.Prelude.{◌≡◌, ℕ, List}
use Rattle.spec.specs.State.{State, across, arrangement_of}
use Rattle.motion.specs.World.{World, made_all}
use Rattle.walking.specs.Kinds.{end_moves}

pub end_looked : (w : World) (s g : State) (kind k : ℕ) (vs us : List ℕ) → kind ≡ k → vs ≡ us
    → made_all w (across vs (end_moves kind (arrangement_of s vs) (arrangement_of g vs))) ≡ made_all w (across us (end_moves k (arrangement_of s us) (arrangement_of g us)))
end_looked w s g kind k vs us e d = rw (e, d)
