-- One crossing seen from a zone: what moves inside the zone keep, and the laws of entering as a step of a plan uses them.
-- What it rests on stands in specs/Zones/Crossing.antt.
use Rattle.std.specs.Prelude.{◌≡◌, refl, not, List, ℕ, suc, ◌<◌, length, set, T, eqb}
use Rattle.std.proofs.Common.{sym, ap, ◌∙◌, arith, length-set, eqb→eq}
use Rattle.spec.specs.Arrangement.{Arrangement, cell, order, full, last_free}
use Rattle.spec.specs.Clique.{named}
use Rattle.spec.specs.ZoneKind.{behind_of, can_enter, enter}
use Rattle.spec.specs.State.{robots_of}
use Rattle.spec.specs.Terms.{Runs, Reachable, fills}
use Rattle.theory.specs.Basics.Tests.{and_right}
use Rattle.theory.specs.Zones.Arrangements.{count_put}
use Rattle.theory.specs.Zones.Clique.Entering.{named_robots}
use Rattle.theory.proofs.Zones.Kinds.{laws}
use Rattle.theory.specs.Zones.Crossing.{kept, Proper, Absent, Filled}

-- ---- follow lists

-- a filled clique is read back from its list
filled_robots : (kind : ℕ) (a : Arrangement) (j r : ℕ) → j < length a → cell a j ≡ 0 → T (fills kind a) → named (robots_of (set a j (suc r))) ≡ set a j (suc r)
unfolding last_free
filled_robots kind a j r h e t = named_robots (set a j (suc r))
    (omega (arith, eqb→eq (suc (length (order a))) (length a) (and_right (eqb kind 3) (last_free a) t), count_put a j r e h, length-set a j (suc r)))

-- ---- entering, as a step uses it

module _ (kind : ℕ) (a : Arrangement) (p : Proper a) (r j : ℕ) (h : j < length a) where
  -- the moves of a step that may enter end with to empty, the named robot behind it, and the list as it is then
  pub enters : (behind : ℕ) (list : List ℕ) → T (not (full a)) → T (can_enter kind a r j behind list)
      → (b : Arrangement) × Runs kind (enter kind a j behind list) a b × (cell b j ≡ 0) × (behind_of kind b j ≡ behind) × Filled kind b j r list
  enters behind list f t =
      let s = (laws kind).enters a r j behind list p.once p.names h f t in
      (s.0, s.1, s.2.clear, s.2.named_behind, λ u. s.2.listed (rw (kept (_, s.1)).as_last u))

  -- a step drawn in a reachable arrangement may enter
  pub can_enter_lem : (b : Arrangement) (list : List ℕ) → Reachable kind a b → cell b j ≡ 0 → Filled kind b j r list → T (can_enter kind a r j (behind_of kind b j) list)
  can_enter_lem b list s e l =
      let k = kept s in
      (laws kind).can_enter_lem a b r j (behind_of kind b j) list p.once p.names h s e refl
      (λ u. l (rw k.as_last at u))

  -- after it the zone is in the same configuration, from wherever it was drawn
  pub entered_same : (b : Arrangement) → Absent a r → Reachable kind a b → cell a j ≡ 0 → cell b j ≡ 0 → behind_of kind a j ≡ behind_of kind b j
      → (T (fills kind a) → robots_of (set a j (suc r)) ≡ robots_of (set b j (suc r))) → Reachable kind (set a j (suc r)) (set b j (suc r))
  entered_same b n s e f q l =
      let k = kept s in
      (laws kind).entered_same a b j r p.once p.names h s e f q n
      (λ u. sym (filled_robots kind a j r h e u) ∙ ap named (l u) ∙ filled_robots kind b j r (omega (arith, k.long)) f (rw k.as_last at u))
