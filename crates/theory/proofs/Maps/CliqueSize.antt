-- The size of a clique: a clique of n vertices takes n * (n - 1) / 2 edges, so that an accepted map has none of more than 64 vertices.
-- What it rests on stands in specs/Maps/CliqueSize.antt.
use Rattle.std.specs.Prelude.{◌≡◌, List, ℕ, ◌≤◌, ◌<◌, length, get_or, T}
use Rattle.std.proofs.Common.{◌∙◌, arith}
use Rattle.spec.specs.Outcome.{ok}
use Rattle.spec.specs.Layout.{Map, Zone, joined, shaped, map_of, zone_at}
use Rattle.theory.specs.Basics.Tests.{of_true, true_of}
use Rattle.theory.specs.Zones.Clique.Searches.{near_other}
use Rattle.theory.specs.Maps.Layout.{Accepted, map_accepted}
use Rattle.theory.specs.Maps.ZoneSize.{Different, zone_different}
use Rattle.theory.specs.Maps.CliqueSize.{Joins, few_joined, clique_joins, map_edges}

-- ---- a clique of a map

-- where there are at most 2,048 edges a clique has at most 64 vertices
pub clique_small : (m : Map) (z : Zone) → z.kind ≡ 3 → Different z.vertices → length m.edges ≤ 2048 → T (shaped m z) → length z.vertices ≤ 64
clique_small m z e d h t = few_joined z.vertices m.edges h d (clique_joins m z e t)

-- ---- an accepted map

-- a clique of an accepted map has at most 64 vertices
pub clique_size : (p : List ℕ) (m : Map) → map_of p ≡ ok m → (z : ℕ) → z < length m.zones → (zone_at m z).kind ≡ 3 → length (zone_at m z).vertices ≤ 64
clique_size p m e z h k =
    few_joined (zone_at m z).vertices m.edges (map_edges p m e) (zone_different g z h) joins
  where
    g : Accepted m
    g = map_accepted p m e

    joins : (i j : ℕ) → i < j → j < length (zone_at m z).vertices → Joins m.edges (get_or (zone_at m z).vertices i 0) (get_or (zone_at m z).vertices j 0)
    joins i j l n =
        unfold joined in of_true (g.near z i j h (omega arith) n ∙ true_of (rw k (near_other (length (zone_at m z).vertices) i j (λ q. omega arith))))
